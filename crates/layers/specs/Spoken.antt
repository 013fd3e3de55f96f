-- A dialect keeps the laws of a vocabulary.
use Rattle.std.proofs.Common.{◌≡◌, ℕ, ◌<◌, ◌≤◌, arith}
use Rattle.std.proofs.lemmas.Grind.{common_steps}
use Rattle.lists.specs.Counts.{Counted}
use Rattle.scale.specs.Scales.{Operations, IsScale}
use Rattle.vocabulary.specs.Words.{Words, IsVocabulary}
use Rattle.layers.specs.Dialects.{Entries, word_below, spoken}

-- Every word of a dialect stands for a word below, if there is any.
pub word_below_lem : (n : ℕ) (E : Entries) (f : ℕ) → 1 ≤ n → word_below n E f < n
word_below_lem n E f some = grind (arith, common_steps)

-- A number that is no word of the dialect is alike to nothing, and nothing to it.
module _ {D : Type 0} (S : Operations D) (E : Entries) (V : Words D) where
  pub spoken_outside : (f g : ℕ) → E.count ≤ f → (spoken S E V).likeness f g ≡ S.bottom
  spoken_outside f g h = grind (arith, common_steps)

  pub spoken_beyond : (f g : ℕ) → E.count ≤ g → (spoken S E V).likeness f g ≡ S.bottom
  spoken_beyond f g h = grind (arith, common_steps)

pub dialect_laws : {D : Type 0} (S : Operations D) (E : Entries) (V : Words D) → IsScale S → IsVocabulary S V → Counted E.count → IsVocabulary S (spoken S E V)
dialect_laws S E V L H counted =
    record {
      some = counted.0;
      few = counted.1;
      small = grind (arith, common_steps);
      same = grind (arith, common_steps);
      symmetric = grind (arith, common_steps);
      transitive = grind (arith, common_steps);
      typed = grind (arith, common_steps);
      outside = grind (arith, common_steps);
    }
