-- A book keeps the laws of a vocabulary.
use mathlib.Core.HLevel.{Stable-paths→set}
use Rattle.std.proofs.Common.{⊎_elim, arith}
use Rattle.book.specs.Laws.{Lawful}
use Rattle.book.specs.Likeness.{words_of}
use Rattle.layout.specs.declared.layout.Layout.{Layout}
use Rattle.scale.specs.Scales.{IsScale, Operations}
use Rattle.std.proofs.lemmas.Bool.{both_ways, cases_Bool}
use Rattle.vocabulary.specs.Words.{IsVocabulary}
use Rattle.book.specs.Vocabularies.{book_vocabulary}

-- Degrees that are told apart by a test are a set.
scale_set : {D : Type 0} (S : Operations D) → IsScale S → IsSet D
scale_set S laws =
    Stable-paths→set
    (λ a b twice.
    ⊎_elim (laws.exact a b).0 (λ differ. absurd (twice (λ e. both_ways _ differ ((laws.exact a b).1 e)))) (cases_Bool (S.same a b)))

pub layout_vocabulary : {D : Type 0} (S : Operations D) → IsScale S → (l : Layout) → ∥ Lawful S l.bytes.now ∥₁ → IsVocabulary S (words_of S l.bytes.now)
layout_vocabulary S laws l lawful =
    let counted = l.counted in
    let some = l.some in
    let few = l.few in
    book_vocabulary l.bytes.now S laws (scale_set S laws) (omega arith) (omega arith) l.good lawful
