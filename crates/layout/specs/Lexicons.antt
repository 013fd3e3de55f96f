-- The words of a book of the right form are a lexicon.
use mathlib.Core.Bool.{Bool-set}
use Rattle.std.proofs.Common.{◌≡◌, ℕ, ◌+◌, ◌<◌, List, length, sym, ◌∙◌, subst, inl, inr, arith}
use mathlib.Core.Logic.{∥∥₁_elim}
use native.Mathlib.Bridge.{le_prop}
use native.Mathlib.Nat.{ℕ_set}
use Rattle.fault.specs.Firsts.{Below}
use Rattle.std.proofs.lemmas.List.Edits.{length-between}
use Rattle.std.proofs.lemmas.Bool.{cases_order}
use Rattle.vocabulary.proofs.Spellings.{same_joined, same_turned}
use Rattle.vocabulary.proofs.Words.{known_some}
use Rattle.vocabulary.specs.Spellings.{IsLexicon, IsSpelling, SameSpelling, Spells}
use Rattle.layout.specs.Entries.{GoodEntry}
use Rattle.layout.specs.Places.{count_of, entry_end, entry_start, size_at, spelling_at, spelling_of}

spelling_length : (B : List ℕ) (i : ℕ) → GoodEntry B i → length (spelling_at B i) ≡ size_at B i
spelling_length B i good =
    length-between B (entry_start B i + 2) (entry_end B (entry_start B i)) good.present ∙ omega arith

-- The word w has the spelling s.
spelled_so : (B : List ℕ) (w : ℕ) (s : List ℕ) → Spells (spelling_of B) w s → (w < count_of B) × SameSpelling (spelling_at B w) s
spelled_so B w s has =
    let k = known_some (count_of B) (spelling_at B) w has.written has.has in
    (k.0, subst (λ (t : List ℕ). SameSpelling t s) (sym k.1) has.same)

-- An earlier word has not the spelling of a later one.
apart : (B : List ℕ) (v w : ℕ) (s : List ℕ) → GoodEntry B w → v < w → SameSpelling (spelling_at B v) s → SameSpelling (spelling_at B w) s → ⊥
apart B v w s good lower a b = good.fresh v lower (same_joined _ _ _ a (same_turned _ _ b))

module _ (B : List ℕ) (good : ∥ Below (count_of B) (GoodEntry B) ∥₁) where
  formed : (w : ℕ) → w < count_of B → IsSpelling (spelling_at B w)
  formed w h =
      record {
        some = ∥∥₁_elim good le_prop (λ g. omega (arith, spelling_length B w (g w h), (g w h).some));
        short = ∥∥₁_elim good le_prop (λ g. omega (arith, spelling_length B w (g w h), (g w h).short));
        signs = λ k l. ∥∥₁_elim good (Bool-set _ _) (λ g. (g w h).signs k l);
      }

  pub words_lexicon : IsLexicon (spelling_of B)
  words_lexicon =
      record {
        formed = λ w s e. let k = known_some (count_of B) (spelling_at B) w s e in subst IsSpelling k.1 (formed w k.0);
        single = λ v w s a b.
            let x = spelled_so B v s a in
            let y = spelled_so B w s b in
            ∥∥₁_elim good (ℕ_set _ _)
            (λ g. elim (cases_order v w) [
              | inl e ↦ e
              | inr (inl lt) ↦ absurd (apart B v w s (g w y.0) lt x.1 y.1)
              | inr (inr gt) ↦ absurd (apart B w v s (g v x.0) gt y.1 x.1)
            ]);
      }
