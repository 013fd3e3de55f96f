-- A floor keeps the laws of a vocabulary.
use Rattle.std.proofs.Common.{arith}
use Rattle.std.proofs.lemmas.Grind.{common_steps}
use Rattle.scale.proofs.Orders.{le_top, meet_bottom}
use Rattle.scale.specs.Scales.{Operations, IsScale}
use Rattle.vocabulary.specs.Words.{Words, IsVocabulary}
use Rattle.layers.specs.Floors.{floored}

pub floor_laws : {D : Type 0} (S : Operations D) (L : IsScale S) (d : D) (V : Words D) → IsVocabulary S V → IsVocabulary S (floored S d V)
floor_laws S L d V H =
    record {
      some = H.some;
      few = H.few;
      small = H.small;
      same = λ f h. grind (arith, common_steps, L.exact, le_top L d, H.same f h);
      symmetric = λ f g. grind (arith, common_steps, H.symmetric f g);
      transitive = λ f g h. grind (arith, common_steps, L.exact, L.zero, meet_bottom L, H.transitive f g h);
      typed = λ f lf g lg other. grind (arith, common_steps, L.exact, L.zero, H.typed f lf g lg other);
      outside = λ f g h. grind (arith, common_steps, L.exact, L.zero, H.outside f g h);
    }
