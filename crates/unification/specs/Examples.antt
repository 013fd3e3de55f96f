use Rattle.std.specs.Prelude.{◌≡◌, ℕ, List, [], ◌∷◌}
use Rattle.scale.specs.Degrees.{mark_operations}
use Rattle.scale.specs.declared.mark.Mark.{Mark}
use Rattle.vocabulary.specs.Words.{Words}
use Rattle.unification.specs.Closures.{Cycle, IsDegree, Clash, Occurs}
use Rattle.unification.specs.EightWords.{eight_words}
use Rattle.unification.specs.Sheets.{Row, variable, composed, Equation, Sheet, IsSheet, equated}
use Rattle.unification.specs.Solutions.{IsSolution}
use Rattle.unification.specs.Terms.{Term, var, app, nil, cons}

-- Worked examples: two texts over the eight words, read one after the other onto a fresh sheet, and equated.

abbrev pub status : ℕ
status = 0

abbrev pub paused : ℕ
paused = 1

abbrev pub suspended : ℕ
suspended = 2

abbrev pub ended : ℕ
ended = 3

abbrev pub grid : ℕ
grid = 4

abbrev pub mains : ℕ
mains = 5

abbrev pub driver : ℕ
driver = 6

abbrev pub c2 : ℕ
c2 = 7

-- A word alone, as a term.
abbrev pub constant : ℕ → Term
constant f = app f nil

-- A sheet of some rows and no equation yet.
abbrev pub rowed : List Row → Sheet
rowed rows = record { rows = rows; equations = [] }

abbrev pub between : ℕ → ℕ → Equation
between p q = record { left = p; right = q }

-- A variable's label and the term that it is given.
pub record Binding : Type 0 where
  pub label : ℕ
  pub value : Term

abbrev pub Bindings : (ℕ → Term) → List Binding → Type 0
Bindings σ [] = Unit {0}
Bindings σ (b ∷ bs) = (σ b.label ≡ b.value) × Bindings σ bs

-- The new equation is possible over the words V, at this mark: the sheet with it is well formed, has no cycle and has the mark as its
-- degree; it has a solved substitution, and each gives these bindings.
pub record Matched (V : Words Mark) (s : Sheet) (e : Equation) (mark : ℕ) (bindings : List Binding) : Type 0 where
  pub formed : IsSheet V.count V.arity (equated s e)
  pub acyclic : Cycle (equated s e) → ⊥
  pub degree : (d : Mark) × IsDegree mark_operations V (equated s e) d × (d.value ≡ mark)
  pub solved : (σ : ℕ → Term) × IsSolution (equated s e) σ
  pub bound : (σ : ℕ → Term) → IsSolution (equated s e) σ → Bindings σ bindings

-- Equating rows p and q of these is possible over the eight words, at this mark and with these bindings.
pub record Matches (rows : List Row) (p q mark : ℕ) (bindings : List Binding) : Type 0 where
  pub formed : IsSheet eight_words.count eight_words.arity (equated (rowed rows) (between p q))
  pub acyclic : Cycle (equated (rowed rows) (between p q)) → ⊥
  pub degree : (d : Mark) × IsDegree mark_operations eight_words (equated (rowed rows) (between p q)) d × (d.value ≡ mark)
  pub bound : (σ : ℕ → Term) → IsSolution (equated (rowed rows) (between p q)) σ → Bindings σ bindings

-- The rows of status(?1,paused(?2)) and status(c2,suspended(grid)).
abbrev pub paused_suspended : List Row
paused_suspended =
    variable 1
    ∷ variable 2
    ∷ composed paused (1 ∷ [])
    ∷ composed status (0 ∷ 2 ∷ [])
    ∷ composed c2 []
    ∷ composed grid []
    ∷ composed suspended (5 ∷ [])
    ∷ composed status (4 ∷ 6 ∷ [])
    ∷ []

-- The rows of status(?1,?1) and status(f,g), for two words f and g without arguments.
abbrev pub twice : ℕ → ℕ → List Row
twice f g = variable 1 ∷ composed status (0 ∷ 0 ∷ []) ∷ composed f [] ∷ composed g [] ∷ composed status (2 ∷ 3 ∷ []) ∷ []

-- The rows of status(?1,?1) and status(paused(?2),ended(driver)).
abbrev pub paused_ended : List Row
paused_ended =
    variable 1
    ∷ composed status (0 ∷ 0 ∷ [])
    ∷ variable 2
    ∷ composed paused (2 ∷ [])
    ∷ composed driver []
    ∷ composed ended (4 ∷ [])
    ∷ composed status (3 ∷ 5 ∷ [])
    ∷ []

-- The rows of ?1 and paused(?1).
abbrev pub paused_itself : List Row
paused_itself = variable 1 ∷ composed paused (0 ∷ []) ∷ []

-- The rows of status(?1,grid) and status(paused(?1),driver).
abbrev pub grid_driver : List Row
grid_driver =
    variable 1
    ∷ composed grid []
    ∷ composed status (0 ∷ 1 ∷ [])
    ∷ composed paused (0 ∷ [])
    ∷ composed driver []
    ∷ composed status (3 ∷ 4 ∷ [])
    ∷ []

-- The rows of ?1 and ?2.
abbrev pub two_variables : List Row
two_variables = variable 1 ∷ variable 2 ∷ []

abbrev pub binds : ℕ → Term → Binding
binds x t = record { label = x; value = t }

abbrev pub AlikeWords : Type 0
AlikeWords = Matches paused_suspended 3 7 800 (binds 1 (constant c2) ∷ binds 2 (constant grid) ∷ [])

-- Of the words in a class the one of the lowest row is given.
abbrev pub GridFirst : Type 0
GridFirst = Matches (twice grid mains) 1 4 900 (binds 1 (constant grid) ∷ [])

abbrev pub MainsFirst : Type 0
MainsFirst = Matches (twice mains grid) 1 4 900 (binds 1 (constant mains) ∷ [])

abbrev pub Nested : Type 0
Nested = Matches paused_ended 1 6 300 (binds 1 (app paused (cons (constant driver) nil)) ∷ binds 2 (constant driver) ∷ [])

abbrev pub Variables : Type 0
Variables = Matches two_variables 0 1 1000 (binds 1 (var 1) ∷ binds 2 (var 1) ∷ [])

abbrev pub OccursInItself : Type 0
OccursInItself = Occurs mark_operations eight_words (rowed paused_itself) (between 0 1)

-- There is a cycle too, but the clash comes first.
abbrev pub ClashOfWords : Type 0
ClashOfWords =
    Clash mark_operations eight_words (rowed grid_driver) (between 2 5)
    × Cycle (equated (rowed grid_driver) (between 2 5))
    × (Occurs mark_operations eight_words (rowed grid_driver) (between 2 5) → ⊥)

pub record WorkedExamples : Type 0 where
  pub alike_words : AlikeWords
  pub grid_first : GridFirst
  pub mains_first : MainsFirst
  pub nested : Nested
  pub variables : Variables
  pub occurs : OccursInItself
  pub clash : ClashOfWords
