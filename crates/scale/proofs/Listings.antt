-- A text to which one line of a listing after another is added.
use Rattle.std.proofs.Common.{◌≡◌, ℕ, ◌+◌, List, ◌++◌, sym, ap, ◌∙◌, append_assoc, append-nil, add-one}
use Rattle.scale.specs.Told.{listing}

module _ (f : ℕ → List ℕ) (front : List ℕ) where
  pub listing_none : front ≡ front ++ listing 0 f
  unfolding listing
  listing_none = sym (append-nil front)

  pub listing_more : (n : ℕ) (text more : List ℕ) → text ≡ front ++ listing n f → more ≡ f n → text ++ more ≡ front ++ listing (n + 1) f
  unfolding listing
  listing_more n text more before here =
      ap (λ (t : List ℕ). t ++ more) before ∙
      (append_assoc front (listing n f) more ∙
      (ap (λ (m : List ℕ). front ++ (listing n f ++ m)) here ∙ ap (λ (k : ℕ). front ++ listing k f) (sym (add-one n))))
