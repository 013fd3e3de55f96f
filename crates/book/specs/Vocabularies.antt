-- The words of a lawful book keep the laws of a vocabulary: over every number, since one that is no word is alike to nothing.
use Rattle.std.proofs.Common.{◌≡◌, ℕ, ◌≤◌, ◌&&◌, ltb, List, None, Option, unwrap_or, sym, ap, ◌∙◌, ⊎_elim}
use mathlib.Core.Logic.{∥∥₁_elim}
use native.Mathlib.Bridge.{le_prop}
use Rattle.book.specs.Laws.{Lawful, Transitive}
use Rattle.book.specs.Likeness.{decoded_if, likeness_of, words_of}
use Rattle.fault.specs.Firsts.{Below}
use Rattle.layout.specs.Entries.{GoodEntry}
use Rattle.layout.specs.Places.{code_of, count_of}
use Rattle.scale.specs.Scales.{IsScale, Operations}
use Rattle.std.proofs.lemmas.Bool.{and_left, and_right, cases_lt, cond-false, le-ltb}
use Rattle.vocabulary.specs.Words.{IsVocabulary}

module _ (B : List ℕ) where
  no_code_left : (i j : ℕ) → count_of B ≤ i → code_of B i j ≡ None
  no_code_left i j h = cond-false (ltb i (count_of B) && ltb j (count_of B)) _ _ (and_left _ _ (le-ltb i (count_of B) h))

  no_code_right : (i j : ℕ) → count_of B ≤ j → code_of B i j ≡ None
  no_code_right i j h = cond-false (ltb i (count_of B) && ltb j (count_of B)) _ _ (and_right _ _ (le-ltb j (count_of B) h))

  module _ {D : Type 0} (S : Operations D) where
    -- Words for which the table has equal numbers are equally alike.
    by_code : (i j k l : ℕ) → code_of B i j ≡ code_of B k l → likeness_of S B i j ≡ likeness_of S B k l
    unfolding likeness_of
    by_code i j k l e = ap (λ (c : Option ℕ). unwrap_or (decoded_if S c) S.bottom) e

    by_none : (i j : ℕ) → code_of B i j ≡ None → likeness_of S B i j ≡ S.bottom
    unfolding likeness_of
    by_none i j e = ap (λ (c : Option ℕ). unwrap_or (decoded_if S c) S.bottom) e

    symmetric : Lawful S B → (i j : ℕ) → likeness_of S B i j ≡ likeness_of S B j i
    symmetric l i j =
        by_code i j j i
        (⊎_elim
        (λ p. ⊎_elim (λ q. l.symmetric i p j q) (λ q. no_code_right i j q ∙ sym (no_code_left j i q)) (cases_lt j (count_of B)))
        (λ p. no_code_left i j p ∙ sym (no_code_right j i p))
        (cases_lt i (count_of B)))

    module _ (laws : IsScale S) where
      -- Where the meet of two likenesses is bottom, any likeness is at least that.
      from_bottom : (i j k : ℕ) → S.meet (likeness_of S B i j) (likeness_of S B j k) ≡ S.bottom → Transitive S B i j k
      from_bottom i j k e = ap (λ d. S.meet d (likeness_of S B i k)) e ∙ (laws.zero _ ∙ sym e)

      bottom_left : (i j k : ℕ) → code_of B i j ≡ None → Transitive S B i j k
      bottom_left i j k e = from_bottom i j k (ap (λ d. S.meet d (likeness_of S B j k)) (by_none i j e) ∙ laws.zero _)

      bottom_right : (i j k : ℕ) → code_of B j k ≡ None → Transitive S B i j k
      bottom_right i j k e =
          from_bottom i j k (ap (S.meet (likeness_of S B i j)) (by_none j k e) ∙ (laws.comm _ _ ∙ laws.zero _))

      transitive : Lawful S B → (i j k : ℕ) → Transitive S B i j k
      transitive l i j k =
          ⊎_elim
          (λ p. ⊎_elim
          (λ q. ⊎_elim (λ r. l.transitive i p j q k r) (λ r. bottom_right i j k (no_code_right j k r)) (cases_lt k (count_of B)))
          (λ q. bottom_right i j k (no_code_left j k q))
          (cases_lt j (count_of B)))
          (λ p. bottom_left i j k (no_code_left i j p))
          (cases_lt i (count_of B))

      pub book_vocabulary : IsSet D → 1 ≤ count_of B → count_of B ≤ 128 → ∥ Below (count_of B) (GoodEntry B) ∥₁ → ∥ Lawful S B ∥₁ → IsVocabulary S (words_of S B)
      book_vocabulary set some few good lawful =
          record {
            some = some;
            few = few;
            small = λ f h. ∥∥₁_elim good le_prop (λ g. (g f h).arity);
            same = λ f h. ∥∥₁_elim lawful (set _ _) (λ l. l.reflexive f h);
            symmetric = λ f g. ∥∥₁_elim lawful (set _ _) (λ l. symmetric l f g);
            transitive = λ f g h. ∥∥₁_elim lawful (set _ _) (λ l. transitive l f g h);
            typed = λ f p g q differ. ∥∥₁_elim lawful (set _ _) (λ l. l.typed f p g q differ);
            outside = λ f g h. by_none f g (no_code_left f g h);
          }
