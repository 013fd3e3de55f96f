use Rattle.std.specs.Prelude.{◌≡◌, ℕ, List, [], ◌∷◌, ◌++◌, Some, None, Option}
use Rattle.script.specs.Fields.{AllNumbers, fields}
use Rattle.script.specs.Verbs.{spelled}
use Rattle.script.specs.declared.line.Line.{Line}
use Rattle.script.specs.declared.line.Line.TheVariants.{Variable, Compose, Read, Equate, Back, Mark, Degree, Resolve}
use Rattle.script.specs.declared.verb.Verb.{Verb}
use Rattle.script.specs.declared.verb.Verb.TheVariants.{Variable as to_variable, Compose as to_compose, Read as to_read, Equate as to_equate, Back as to_back, Mark as to_mark, Degree as to_degree, Resolve as to_resolve}

-- What a line asks for.
pub data Asked : Type 0 where
  -- the row of a label
  variable : ℕ → Asked
  -- a row of a word and rows
  compose : ℕ → List ℕ → Asked
  -- a row of a text, by its bytes
  read : List ℕ → Asked
  -- an equation between two rows
  equate : ℕ → ℕ → Asked
  -- so many rows and equations only
  back : ℕ → ℕ → Asked
  -- how many rows and equations there are
  mark : Asked
  -- the degree of the sheet
  degree : Asked
  -- the representative of a row
  resolve : ℕ → Asked

-- The verb of what is asked.
abbrev pub verb : Asked → Verb
verb (variable x) = to_variable
verb (compose w ps) = to_compose
verb (read t) = to_read
verb (equate p q) = to_equate
verb (back r e) = to_back
verb mark = to_mark
verb degree = to_degree
verb (resolve p) = to_resolve

-- What stands behind the verb: fields, or the text behind one blank.
abbrev pub behind : Asked → List ℕ
behind (variable x) = fields (x ∷ [])
behind (compose w ps) = fields (w ∷ ps)
behind (read t) = 32 ∷ t
behind (equate p q) = fields (p ∷ q ∷ [])
behind (back r e) = fields (r ∷ e ∷ [])
behind mark = []
behind degree = []
behind (resolve p) = fields (p ∷ [])

-- The numbers that are named.
abbrev pub named : Asked → List ℕ
named (variable x) = x ∷ []
named (compose w ps) = w ∷ ps
named (read t) = []
named (equate p q) = p ∷ q ∷ []
named (back r e) = r ∷ e ∷ []
named mark = []
named degree = []
named (resolve p) = p ∷ []

-- How it is written.
abbrev pub written : Asked → List ℕ
written a = spelled (verb a) ++ behind a

-- The line is the writing of what is asked, whose numbers are 0 to 65,535.
pub record IsLine (line : List ℕ) (a : Asked) : Type 0 where
  pub numbers : AllNumbers (named a)
  pub is : line ≡ written a

-- Of all that may be asked, the answer is the one of which P holds, and nothing where there is none.
abbrev pub Found : (Asked → Type 0) → Option Line → Type 0
Found P (Some (Variable x)) = P (variable x)
Found P (Some (Compose w rows)) = (ps : List ℕ) × (rows.now ≡ fields ps) × P (compose w ps)
Found P (Some (Read t)) = P (read t.now)
Found P (Some (Equate p q)) = P (equate p q)
Found P (Some (Back r e)) = P (back r e)
Found P (Some Mark) = P mark
Found P (Some Degree) = P degree
Found P (Some (Resolve p)) = P (resolve p)
Found P None = (a : Asked) → P a → ⊥

-- What parsing a line answers: what it asks for, or nothing where it is no line; and it asks for one thing at most.
pub record Parsed (line : List ℕ) (r : Option Line) : Type 0 where
  pub found : Found (IsLine line) r
  pub only : (a b : Asked) → IsLine line a → IsLine line b → a ≡ b

-- The same of what stands behind a verb.
pub record Follows (v : Verb) (rest : List ℕ) (a : Asked) : Type 0 where
  pub numbers : AllNumbers (named a)
  pub verbed : verb a ≡ v
  pub is : rest ≡ behind a
