-- The worked examples.
use Rattle.std.proofs.Common.{◌≡◌, ℕ, zero, suc, ◌+◌, true, List, [], ◌∷◌, length, get_or, refl, ap, add-zero, zero-add, arith}
use mathlib.Core.List.Memᴰ
use Rattle.scale.specs.Degrees.{mark_operations}
use Rattle.scale.specs.declared.mark.Mark.{Mark}
use Rattle.scale.specs.DegreesLemmas.{same_mark}
use Rattle.scale.specs.Laws.{mark_laws}
use Rattle.vocabulary.specs.Words.{Words, IsVocabulary}
use Rattle.unification.specs.Closures.{Closure, stated, same, turned, joined, passed, step, IsDegree, Clash}
use Rattle.unification.specs.EightWords.{eight_words}
use Rattle.unification.specs.Examples.{rowed, between, binds, constant, Binding, Bindings, Matched, Matches, status, paused, suspended, ended, grid, mains, driver, c2, paused_suspended, twice, paused_ended, paused_itself, grid_driver, two_variables, AlikeWords, GridFirst, MainsFirst, Nested, Variables, OccursInItself, ClashOfWords, WorkedExamples}
use Rattle.unification.specs.Sheets.{Row, Equation, Sheet, IsSheet, equated}
use Rattle.unification.specs.Solutions.{free, built, none, each, IsSolution}
use Rattle.unification.specs.Terms.{Term, var, app, nil, cons}
use Rattle.unification.specs.Tables.{Represents, gathered}
use Rattle.unification.proofs.Bridges.{unlike_bottom}
use Rattle.unification.proofs.Cycles.{depth_no_cycle}
use Rattle.unification.proofs.EightWords.{eight_words_lem}
use Rattle.unification.proofs.Main.{one_degree, weak_unification}
use Rattle.unification.proofs.Tables.{gathered_degree}
use Rattle.unification.proofs.Tested.{formed_test, once_test, within_test, sides_test, args_test, kind_test, depth_test, sheet_tested, closed_tested, represents_tested, depth_tested}
use Rattle.unification.proofs.Values.{one_solved}

-- A table's entry for row p; a row past its end stands for itself.
abbrev pub entry : List ℕ → ℕ → ℕ
entry l p = get_or l p p

-- Rows in the closure with their entries, one after the other.
abbrev pub Entries : Sheet → ℕ → List ℕ → Type 0
Entries s k [] = Unit {0}
Entries s k (q ∷ qs) = Closure s k q × Entries s (suc k) qs

entries_at : (s : Sheet) (k : ℕ) (l : List ℕ) → Entries s k l → (p : ℕ) → Closure s (k + p) (get_or l p (k + p))
entries_at s k [] h p = same (k + p)
entries_at s k (q ∷ qs) h zero = rw (add-zero k) h.0
entries_at s k (q ∷ qs) h (suc p) =
    let e : k + suc p ≡ suc k + p = omega arith in rw e (entries_at s (suc k) qs h.1 p)

entries_sound : (s : Sheet) (l : List ℕ) → Entries s 0 l → (p : ℕ) → Closure s p (entry l p)
entries_sound s l h p = rw (zero-add p) at (entries_at s 0 l h p)

-- A match over the words V, from the representatives and depths of a table, each fact by a test.
module _ (V : Words Mark) (lawful : IsVocabulary mark_operations V) (s : Sheet) (e : Equation) (ofs depths : List ℕ) where
  abbrev sheet : Sheet
  sheet = equated s e

  abbrev pub Tested : Type 0
  Tested =
      (formed_test V.count V.arity sheet ≡ true)
      × (once_test V.count V.arity sheet ≡ true)
      × (within_test V.count V.arity sheet ≡ true)
      × (sides_test sheet (entry ofs) ≡ true)
      × (args_test sheet (entry ofs) ≡ true)
      × (kind_test sheet (entry ofs) ≡ true)

  sheet_is : Tested → IsSheet V.count V.arity sheet
  sheet_is t = sheet_tested V.count V.arity sheet t.0 t.1 t.2

  represented : Tested → Entries sheet 0 ofs → Represents sheet (entry ofs)
  represented t h =
      represents_tested sheet (entry ofs) (sheet_is t).coherent (closed_tested sheet (entry ofs) t.3 t.4) (λ p hp. entries_sound sheet ofs h p) t.5

  degree_is : Tested → Entries sheet 0 ofs → IsDegree mark_operations V sheet (gathered mark_operations V sheet (entry ofs) (length s.rows))
  degree_is t h = gathered_degree mark_laws lawful (represented t h)

  pub matches : (mark : ℕ) (bindings : List Binding) → Tested → Entries sheet 0 ofs → depth_test sheet (entry ofs) (entry depths) ≡ true → (gathered mark_operations V sheet (entry ofs) (length s.rows)).value ≡ mark → (Represents sheet (entry ofs) → (σ : ℕ → Term) → IsSolution sheet σ → Bindings σ bindings) → Matched V s e mark bindings
  matches mark bindings t h d v b =
      let acyclic = depth_no_cycle (depth_tested sheet (entry ofs) (closed_tested sheet (entry ofs) t.3 t.4) (entry depths) d) in
      record {
        formed = sheet_is t;
        acyclic = acyclic;
        degree = (gathered mark_operations V sheet (entry ofs) (length s.rows), degree_is t h, v);
        solved = ((weak_unification mark_laws lawful).best sheet (sheet_is t) acyclic _ (degree_is t h)).exists;
        bound = b (represented t h);
      }

-- The same over the eight words, of two rows.
of_matched : (rows : List Row) (p q mark : ℕ) (bindings : List Binding) → Matched eight_words (rowed rows) (between p q) mark bindings → Matches rows p q mark bindings
of_matched rows p q mark bindings m =
    record { formed = m.formed; acyclic = m.acyclic; degree = m.degree; bound = m.bound }

pub alike_words_matched : Matched eight_words (rowed paused_suspended) (between 3 7) 800 (binds 1 (constant c2) ∷ binds 2 (constant grid) ∷ [])
alike_words_matched =
    matches eight_words eight_words_lem (rowed paused_suspended) (between 3 7) (4 ∷ 5 ∷ 2 ∷ 3 ∷ 4 ∷ 5 ∷ 2 ∷ 3 ∷ []) (0 ∷ 0 ∷ 1 ∷ 2 ∷ 0 ∷ 0 ∷ 1 ∷ 2 ∷ []) _ _ (refl, refl, refl, refl, refl, refl)
    (whole_left, (inner, (same 2, (same 3, (same 4, (same 5, (turned whole_right, (turned whole, tt)))))))) refl refl
    (λ R σ K. (
      one_solved (K.labelled 0 1 refl) (built (R 0 (omega arith)) refl none),
      (one_solved (K.labelled 1 2 refl) (built (R 1 (omega arith)) refl none), tt),
    ))
  where
    whole : Closure (equated (rowed paused_suspended) (between 3 7)) 3 7
    whole = stated (between 3 7) (Memᴰ.head refl)

    whole_left : Closure (equated (rowed paused_suspended) (between 3 7)) 0 4
    whole_left = passed {p = 3} {q = 7} status status (0 ∷ 2 ∷ []) (4 ∷ 6 ∷ []) 0 whole refl refl refl (omega arith)

    whole_right : Closure (equated (rowed paused_suspended) (between 3 7)) 2 6
    whole_right = passed {p = 3} {q = 7} status status (0 ∷ 2 ∷ []) (4 ∷ 6 ∷ []) 1 whole refl refl refl (omega arith)

    inner : Closure (equated (rowed paused_suspended) (between 3 7)) 1 5
    inner = passed {p = 2} {q = 6} paused suspended (1 ∷ []) (5 ∷ []) 0 whole_right refl refl refl (omega arith)

alike_words : AlikeWords
alike_words = of_matched _ _ _ _ _ alike_words_matched

-- The closure of status(?1,?1) and status(f,g): the class of ?1 holds both words.
pub twice_entries : (f g : ℕ) → Entries (equated (rowed (twice f g)) (between 1 4)) 0 (2 ∷ 1 ∷ 2 ∷ 2 ∷ 1 ∷ [])
twice_entries f g = (left, (same 1, (same 2, (joined (turned right) left, (turned whole, tt)))))
  where
    whole : Closure (equated (rowed (twice f g)) (between 1 4)) 1 4
    whole = stated (between 1 4) (Memᴰ.head refl)

    left : Closure (equated (rowed (twice f g)) (between 1 4)) 0 2
    left = passed {p = 1} {q = 4} status status (0 ∷ 0 ∷ []) (2 ∷ 3 ∷ []) 0 whole refl refl refl (omega arith)

    right : Closure (equated (rowed (twice f g)) (between 1 4)) 0 3
    right = passed {p = 1} {q = 4} status status (0 ∷ 0 ∷ []) (2 ∷ 3 ∷ []) 1 whole refl refl refl (omega arith)

-- Both words are in the class of ?1.
pub twice_words : (f g : ℕ) → Closure (equated (rowed (twice f g)) (between 1 4)) 2 3
twice_words f g = turned (twice_entries f g).1.1.1.0

pub grid_first_matched : Matched eight_words (rowed (twice grid mains)) (between 1 4) 900 (binds 1 (constant grid) ∷ [])
grid_first_matched =
    matches eight_words eight_words_lem (rowed (twice grid mains)) (between 1 4) (2 ∷ 1 ∷ 2 ∷ 2 ∷ 1 ∷ []) (0 ∷ 1 ∷ 0 ∷ []) _ _ (refl, refl, refl, refl, refl, refl) (twice_entries grid mains) refl refl
    (λ R σ K. (one_solved (K.labelled 0 1 refl) (built (R 0 (omega arith)) refl none), tt))

grid_first : GridFirst
grid_first = of_matched _ _ _ _ _ grid_first_matched

pub mains_first_matched : Matched eight_words (rowed (twice mains grid)) (between 1 4) 900 (binds 1 (constant mains) ∷ [])
mains_first_matched =
    matches eight_words eight_words_lem (rowed (twice mains grid)) (between 1 4) (2 ∷ 1 ∷ 2 ∷ 2 ∷ 1 ∷ []) (0 ∷ 1 ∷ 0 ∷ []) _ _ (refl, refl, refl, refl, refl, refl) (twice_entries mains grid) refl refl
    (λ R σ K. (one_solved (K.labelled 0 1 refl) (built (R 0 (omega arith)) refl none), tt))

mains_first : MainsFirst
mains_first = of_matched _ _ _ _ _ mains_first_matched

paused_ended_whole : Closure (equated (rowed paused_ended) (between 1 6)) 1 6
paused_ended_whole = stated (between 1 6) (Memᴰ.head refl)

paused_ended_left : Closure (equated (rowed paused_ended) (between 1 6)) 0 3
paused_ended_left = passed {p = 1} {q = 6} status status (0 ∷ 0 ∷ []) (3 ∷ 5 ∷ []) 0 paused_ended_whole refl refl refl (omega arith)

-- paused(?2) and ended(driver) are in the class of ?1.
pub paused_ended_words : Closure (equated (rowed paused_ended) (between 1 6)) 3 5
paused_ended_words =
    joined (turned paused_ended_left) (passed {p = 1} {q = 6} status status (0 ∷ 0 ∷ []) (3 ∷ 5 ∷ []) 1 paused_ended_whole refl refl refl (omega arith))

paused_ended_inner : Closure (equated (rowed paused_ended) (between 1 6)) 2 4
paused_ended_inner = passed {p = 3} {q = 5} paused ended (2 ∷ []) (4 ∷ []) 0 paused_ended_words refl refl refl (omega arith)

pub nested_matched : Matched eight_words (rowed paused_ended) (between 1 6) 300 (binds 1 (app paused (cons (constant driver) nil)) ∷ binds 2 (constant driver) ∷ [])
nested_matched =
    matches eight_words eight_words_lem (rowed paused_ended) (between 1 6) (3 ∷ 1 ∷ 4 ∷ 3 ∷ 4 ∷ 3 ∷ 1 ∷ []) (0 ∷ 2 ∷ 0 ∷ 1 ∷ 0 ∷ []) _ _ (refl, refl, refl, refl, refl, refl)
    (paused_ended_left, (same 1, (paused_ended_inner, (same 3, (same 4, (turned paused_ended_words, (turned paused_ended_whole, tt))))))) refl refl
    (λ R σ K. (
      one_solved (K.labelled 0 1 refl) (built (R 0 (omega arith)) refl (each (built (R 2 (omega arith)) refl none) none)),
      (one_solved (K.labelled 2 2 refl) (built (R 2 (omega arith)) refl none), tt),
    ))

nested : Nested
nested = of_matched _ _ _ _ _ nested_matched

pub variables_matched : Matched eight_words (rowed two_variables) (between 0 1) 1000 (binds 1 (var 1) ∷ binds 2 (var 1) ∷ [])
variables_matched =
    matches eight_words eight_words_lem (rowed two_variables) (between 0 1) (0 ∷ 0 ∷ []) [] _ _ (refl, refl, refl, refl, refl, refl)
    (same 0, (turned (stated (between 0 1) (Memᴰ.head refl)), tt)) refl refl
    (λ R σ K. (
      one_solved (K.labelled 0 1 refl) (free (R 0 (omega arith)) refl),
      (one_solved (K.labelled 1 2 refl) (free (R 1 (omega arith)) refl), tt),
    ))

variables : Variables
variables = of_matched _ _ _ _ _ variables_matched

occurs : OccursInItself
occurs = (
  λ c. let e = ap (λ (m : Mark). m.value) (one_degree mark_laws c at_top) in absurd (omega arith),
  (1, step (record { row = 1; word = paused; args = 0 ∷ []; place = 0; together = same 1; is = refl; in_args = omega arith; below = whole })),
)
  where
    whole : Closure (equated (rowed paused_itself) (between 0 1)) 0 1
    whole = stated (between 0 1) (Memᴰ.head refl)

    at_top : IsDegree mark_operations eight_words (equated (rowed paused_itself) (between 0 1)) (gathered mark_operations eight_words (equated (rowed paused_itself) (between 0 1)) (entry (1 ∷ 1 ∷ [])) 2)
    at_top = degree_is eight_words eight_words_lem (rowed paused_itself) (between 0 1) (1 ∷ 1 ∷ []) [] (refl, refl, refl, refl, refl, refl) (whole, (same 1, tt))

clash : ClashOfWords
clash = (
  unlike,
  (3, step (record { row = 3; word = paused; args = 0 ∷ []; place = 0; together = same 3; is = refl; in_args = omega arith; below = first })),
  λ o. o.0 unlike,
)
  where
    whole : Closure (equated (rowed grid_driver) (between 2 5)) 2 5
    whole = stated (between 2 5) (Memᴰ.head refl)

    first : Closure (equated (rowed grid_driver) (between 2 5)) 0 3
    first = passed {p = 2} {q = 5} status status (0 ∷ 1 ∷ []) (3 ∷ 4 ∷ []) 0 whole refl refl refl (omega arith)

    unlike : Clash mark_operations eight_words (rowed grid_driver) (between 2 5)
    unlike =
        unlike_bottom mark_laws eight_words_lem {p = 1} {q = 4} {f = grid} {g = driver} {xs = []} {ys = []}
        (passed {p = 2} {q = 5} status status (0 ∷ 1 ∷ []) (3 ∷ 4 ∷ []) 1 whole refl refl refl (omega arith)) refl refl (same_mark _ _ refl)

pub worked_examples : WorkedExamples
worked_examples =
    record {
      alike_words = alike_words;
      grid_first = grid_first;
      mains_first = mains_first;
      nested = nested;
      variables = variables;
      occurs = occurs;
      clash = clash;
    }
