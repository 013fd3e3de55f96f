use Rattle.std.specs.Prelude.{ℕ, min, [], ◌∷◌}
use Rattle.std.proofs.Math.Nat.{min-le_right}
use Rattle.layers.specs.Floors.{floored}
use Rattle.scale.specs.Degrees.{mark_operations}
use Rattle.scale.specs.declared.mark.Mark.{Mark}
use Rattle.unification.specs.EightWords.{eight_words}
use Rattle.unification.specs.Examples.{binds, constant, paused, grid, mains, driver, c2}
use Rattle.unification.specs.Terms.{var, app, nil, cons}
use Rattle.vocabulary.specs.Spellings.{IsLexicon}
use Rattle.vocabulary.specs.Words.{Words}
use Rattle.worked.specs.Cases.{Case, matched, clash, occurs}
use Rattle.worked.specs.Lexicon.{eight_spellings}

-- The mark n, or 1,000 where n is more.
abbrev pub marked : ℕ → Mark
marked n = record { value = min n 1000; ok = min-le_right n 1000 }

-- The eight words over a floor of n marks.
abbrev pub floor_of : ℕ → Words Mark
floor_of n = floored mark_operations (marked n) eight_words

-- The worked cases.
pub record WorkedCases : Type 0 where
  -- the names are spellings, and no two are the same
  pub lexicon : IsLexicon eight_spellings
  -- the words of a class count at how much they are alike
  pub alike_words :
      Case eight_words "status(?1,paused(?2))" "status(c2,suspended(grid))" (matched 800 (binds 1 (constant c2) ∷ binds 2 (constant grid) ∷ []))
  -- of the words in a class the one of the lowest row is given
  pub grid_first : Case eight_words "status(?1,?1)" "status(grid,mains)" (matched 900 (binds 1 (constant grid) ∷ []))
  pub mains_first : Case eight_words "status(?1,?1)" "status(mains,grid)" (matched 900 (binds 1 (constant mains) ∷ []))
  pub nested :
      Case eight_words "status(?1,?1)" "status(paused(?2),ended(driver))"
      (matched 300 (binds 1 (app paused (cons (constant driver) nil)) ∷ binds 2 (constant driver) ∷ []))
  -- no clash, but a cycle
  pub occurs_in_itself : Case eight_words "?1" "paused(?1)" occurs
  -- grid and driver are not alike; the cycle of ?1 is then of no account
  pub clash_of_words : Case eight_words "status(?1,grid)" "status(paused(?1),driver)" clash
  -- of two variables the one of the lower row is given
  pub variables : Case eight_words "?1" "?2" (matched 1000 (binds 1 (var 1) ∷ binds 2 (var 1) ∷ []))
  -- a floor above the degree of a match turns it into a clash
  pub below_floor : Case (floor_of 500) "status(?1,?1)" "status(paused(?2),ended(driver))" clash
  -- and a floor of that degree leaves it as it is
  pub at_floor : Case (floor_of 900) "status(?1,?1)" "status(grid,mains)" (matched 900 (binds 1 (constant grid) ∷ []))
  pub just_below_floor : Case (floor_of 901) "status(?1,?1)" "status(grid,mains)" clash
