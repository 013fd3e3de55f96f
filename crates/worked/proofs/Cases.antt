-- The worked cases.
use Rattle.std.proofs.Common.{◌≡◌, ℕ, suc, ◌<◌, List, [], ◌∷◌, get_or, Some, codes, refl, lit<, lit≤}
use Prim.Native.String.{String}
use Rattle.layers.specs.Floored.{floor_laws}
use Rattle.scale.specs.DegreesLemmas.{same_mark}
use Rattle.scale.specs.Laws.{mark_laws}
use Rattle.scale.specs.Degrees.{mark_operations}
use Rattle.scale.specs.declared.mark.Mark.{Mark}
use Rattle.text.proofs.Judging.{reads_own}
use Rattle.text.proofs.Nesting.{shallow_nested}
use Rattle.text.proofs.Terms.{spelled_sound}
use Rattle.text.specs.Verdicts.{Sized}
use Rattle.text.specs.Writings.{Nested, Spelled, write}
use Rattle.unification.proofs.Bridges.{unlike_bottom}
use Rattle.unification.proofs.EightWords.{eight_words_lem}
use Rattle.unification.proofs.Examples.{matches, alike_words_matched, grid_first_matched, mains_first_matched, nested_matched, variables_matched, twice_entries, twice_words, paused_ended_words, worked_examples}
use Rattle.unification.proofs.Placing.{placed, put}
use Rattle.unification.specs.EightWords.{eight_arities, eight_words}
use Rattle.unification.specs.Examples.{between, rowed, constant, status, paused, suspended, ended, grid, mains, driver, c2, twice}
use Rattle.unification.specs.Sheets.{fresh}
use Rattle.unification.specs.Terms.{Term, var, app, nil, cons, Formed}
use Rattle.vocabulary.specs.Words.{Words, IsVocabulary}
use Rattle.worked.proofs.Lexicon.{lawful}
use Rattle.worked.specs.Cases.{Reading, Answer, Comes, Case}
use Rattle.worked.specs.Lexicon.{eight_spellings}
use Rattle.worked.specs.Worked.{marked, floor_of, WorkedCases}

-- What makes the writing of a term a reading of it, with at most d brackets open.
record Readable (d : ℕ) (t : Term) : Type 0 where
  formed : Formed 8 (λ f. get_or eight_arities f 0) t
  spelled : Spelled eight_spellings t
  nested : Nested t d

-- f is one of the words, takes n arguments and has a spelling.
abbrev IsWord : ℕ → ℕ → Type 0
IsWord f n = (f < 8) × (n ≡ get_or eight_arities f 0) × ((s : List ℕ) × (eight_spellings f ≡ Some s))

label : (d x : ℕ) → x < 100 → Readable d (var x)
label d x h = record { formed = h; spelled = tt; nested = tt }

alone : (d f : ℕ) → IsWord f 0 → Readable d (constant f)
alone d f w = record { formed = (w.0, w.1, tt); spelled = (w.2, tt); nested = tt }

abbrev of_one : ℕ → Term → Term
of_one f t = app f (cons t nil)

of_one_lem : (d f : ℕ) (t : Term) → IsWord f 1 → Readable d t → Readable (suc d) (of_one f t)
of_one_lem d f t w r = record { formed = (w.0, w.1, (r.formed, tt)); spelled = (w.2, (r.spelled, tt)); nested = (r.nested, tt) }

abbrev of_two : ℕ → Term → Term → Term
of_two f t u = app f (cons t (cons u nil))

of_two_lem : (d f : ℕ) (t u : Term) → IsWord f 2 → Readable d t → Readable d u → Readable (suc d) (of_two f t u)
of_two_lem d f t u w r q =
    record { formed = (w.0, w.1, (r.formed, (q.formed, tt))); spelled = (w.2, (r.spelled, (q.spelled, tt))); nested = (r.nested, (q.nested, tt)) }

-- A text with the term that it is read as.
record Text (text : String) : Type 0 where
  term : Term
  readable : Readable 31 term
  written : write eight_spellings term ≡ codes text
  sized : Sized (codes text)

reading : (text : String) (t : Text text) → Reading (codes text) t.term
reading text t = record {
  sized = t.sized;
  shallow =
      shallow_nested eight_spellings (codes text) t.term
      (spelled_sound eight_spellings lawful 8 (λ f. get_or eight_arities f 0) t.term t.readable.formed t.readable.spelled) t.readable.nested t.written;
  reads = reads_own eight_spellings eight_arities (codes text) lawful t.term t.readable.formed t.readable.spelled t.written;
}

-- The two texts and what comes of equating their rows, where the rows are those that are computed.
case : (V : Words Mark) (first second : String) (answer : Answer) (t : Text first) (u : Text second) → Comes V (placed (placed fresh t.term).sheet u.term).sheet (between (placed fresh t.term).row (placed (placed fresh t.term).sheet u.term).row) answer → Case V first second answer
case V first second answer t u h = record {
  left = t.term;
  right = u.term;
  reads_left = reading first t;
  reads_right = reading second u;
  p = (placed fresh t.term).row;
  half = (placed fresh t.term).sheet;
  puts_left = put fresh t.term;
  q = (placed (placed fresh t.term).sheet u.term).row;
  sheet = (placed (placed fresh t.term).sheet u.term).sheet;
  puts_right = put (placed fresh t.term).sheet u.term;
  comes = h;
}

-- The words, each with what it takes.
is_status : IsWord status 2
is_status = (lit< tt, refl, (codes "status", refl))

is_paused : IsWord paused 1
is_paused = (lit< tt, refl, (codes "paused", refl))

is_suspended : IsWord suspended 1
is_suspended = (lit< tt, refl, (codes "suspended", refl))

is_ended : IsWord ended 1
is_ended = (lit< tt, refl, (codes "ended", refl))

is_grid : IsWord grid 0
is_grid = (lit< tt, refl, (codes "grid", refl))

is_mains : IsWord mains 0
is_mains = (lit< tt, refl, (codes "mains", refl))

is_driver : IsWord driver 0
is_driver = (lit< tt, refl, (codes "driver", refl))

is_c2 : IsWord c2 0
is_c2 = (lit< tt, refl, (codes "c2", refl))

-- The texts.
abbrev first_variable : Text "?1"
first_variable = record { term = var 1; readable = label 31 1 (lit< tt); written = refl; sized = (lit< tt, lit≤ tt) }

abbrev second_variable : Text "?2"
second_variable = record { term = var 2; readable = label 31 2 (lit< tt); written = refl; sized = (lit< tt, lit≤ tt) }

abbrev paused_itself_lem : Text "paused(?1)"
paused_itself_lem = record { term = of_one paused (var 1); readable = of_one_lem 30 paused _ is_paused (label 30 1 (lit< tt)); written = refl; sized = (lit< tt, lit≤ tt) }

abbrev paused_text : Text "status(?1,paused(?2))"
paused_text = record {
  term = of_two status (var 1) (of_one paused (var 2));
  readable = of_two_lem 30 status _ _ is_status (label 30 1 (lit< tt)) (of_one_lem 29 paused _ is_paused (label 29 2 (lit< tt)));
  written = refl;
  sized = (lit< tt, lit≤ tt);
}

abbrev suspended_text : Text "status(c2,suspended(grid))"
suspended_text = record {
  term = of_two status (constant c2) (of_one suspended (constant grid));
  readable = of_two_lem 30 status _ _ is_status (alone 30 c2 is_c2) (of_one_lem 29 suspended _ is_suspended (alone 29 grid is_grid));
  written = refl;
  sized = (lit< tt, lit≤ tt);
}

abbrev twice_text : Text "status(?1,?1)"
twice_text = record {
  term = of_two status (var 1) (var 1);
  readable = of_two_lem 30 status _ _ is_status (label 30 1 (lit< tt)) (label 30 1 (lit< tt));
  written = refl;
  sized = (lit< tt, lit≤ tt);
}

abbrev grid_mains : Text "status(grid,mains)"
grid_mains = record {
  term = of_two status (constant grid) (constant mains);
  readable = of_two_lem 30 status _ _ is_status (alone 30 grid is_grid) (alone 30 mains is_mains);
  written = refl;
  sized = (lit< tt, lit≤ tt);
}

abbrev mains_grid : Text "status(mains,grid)"
mains_grid = record {
  term = of_two status (constant mains) (constant grid);
  readable = of_two_lem 30 status _ _ is_status (alone 30 mains is_mains) (alone 30 grid is_grid);
  written = refl;
  sized = (lit< tt, lit≤ tt);
}

abbrev paused_ended_lem : Text "status(paused(?2),ended(driver))"
paused_ended_lem = record {
  term = of_two status (of_one paused (var 2)) (of_one ended (constant driver));
  readable =
      of_two_lem 30 status _ _ is_status (of_one_lem 29 paused _ is_paused (label 29 2 (lit< tt))) (of_one_lem 29 ended _ is_ended (alone 29 driver is_driver));
  written = refl;
  sized = (lit< tt, lit≤ tt);
}

abbrev with_grid : Text "status(?1,grid)"
with_grid = record {
  term = of_two status (var 1) (constant grid);
  readable = of_two_lem 30 status _ _ is_status (label 30 1 (lit< tt)) (alone 30 grid is_grid);
  written = refl;
  sized = (lit< tt, lit≤ tt);
}

abbrev with_driver : Text "status(paused(?1),driver)"
with_driver = record {
  term = of_two status (of_one paused (var 1)) (constant driver);
  readable = of_two_lem 30 status _ _ is_status (of_one_lem 29 paused _ is_paused (label 29 1 (lit< tt))) (alone 30 driver is_driver);
  written = refl;
  sized = (lit< tt, lit≤ tt);
}

-- A floor leaves a vocabulary.
floor_lawful : (n : ℕ) → IsVocabulary mark_operations (floor_of n)
floor_lawful n = floor_laws mark_operations mark_laws (marked n) eight_words eight_words_lem

pub worked_cases : WorkedCases
worked_cases = record {
  lexicon = lawful;
  alike_words = case _ _ _ _ paused_text suspended_text alike_words_matched;
  grid_first = case _ _ _ _ twice_text grid_mains grid_first_matched;
  mains_first = case _ _ _ _ twice_text mains_grid mains_first_matched;
  nested = case _ _ _ _ twice_text paused_ended_lem nested_matched;
  occurs_in_itself = case _ _ _ _ first_variable paused_itself_lem worked_examples.occurs;
  clash_of_words = case _ _ _ _ with_grid with_driver worked_examples.clash.0;
  variables = case _ _ _ _ first_variable second_variable variables_matched;
  below_floor =
      case (floor_of 500) _ _ _ twice_text paused_ended_lem
      (unlike_bottom mark_laws (floor_lawful 500) {p = 3} {q = 5} {f = paused} {g = ended} {xs = 2 ∷ []} {ys = 4 ∷ []} paused_ended_words refl refl (same_mark _ _ refl));
  at_floor =
      case (floor_of 900) _ _ _ twice_text grid_mains
      (matches (floor_of 900) (floor_lawful 900) (rowed (twice grid mains)) (between 1 4) (2 ∷ 1 ∷ 2 ∷ 2 ∷ 1 ∷ []) (0 ∷ 1 ∷ 0 ∷ []) _ _ (refl, refl, refl, refl, refl, refl) (twice_entries grid mains) refl refl
      (λ _. worked_examples.grid_first.bound));
  just_below_floor =
      case (floor_of 901) _ _ _ twice_text grid_mains
      (unlike_bottom mark_laws (floor_lawful 901) {p = 2} {q = 3} {f = grid} {g = mains} {xs = []} {ys = []} (twice_words grid mains) refl refl (same_mark _ _ refl));
}
