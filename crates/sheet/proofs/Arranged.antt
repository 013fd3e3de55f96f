-- The arities of a vocabulary's words as a list.
use Rattle.std.proofs.Common.{◌≡◌, ℕ, zero, suc, ◌-◌, ◌<◌, ◌≤◌, List, [], ◌∷◌, ◌++◌, length, get_or, take, sym, refl, ap, ◌∙◌, inl, inr, add-one, arith, length-append}
use Rattle.fault.specs.Firsts.{Below}
use Rattle.reading.specs.Reads.{FewEach}
use Rattle.scale.specs.Scales.{Operations}
use Rattle.sheet.specs.Arities.{first_of, arities_of}
use Rattle.std.proofs.lemmas.List.{get_or_append_left, get_or_push, take_more}
use Rattle.std.proofs.lemmas.Bool.{cases_eq}
use Rattle.unification.specs.Terms.{Term, Terms, var, app, nil, cons, Formed, AllFormed}
use Rattle.vocabulary.specs.Words.{Words, IsVocabulary}

pub first_length : (n : ℕ) (of : ℕ → ℕ) → length (first_of n of) ≡ n
first_length zero of = refl
first_length (suc n) of = let h = first_length n of in let k = length-append (first_of n of) (of n ∷ []) in omega arith

-- The first n of a list are those values, where each of them is.
pub first_taken : (n : ℕ) (of : ℕ → ℕ) (l : List ℕ) → n ≤ length l → Below n (λ i. get_or l i 0 ≡ of i) → take n l ≡ first_of n of
first_taken zero of l h k = refl
first_taken (suc n) of l h k =
    ap (λ (z : ℕ). take z l) (sym (add-one n))
    ∙ take_more l n 0 (omega arith)
    ∙ ap (λ (x : ℕ). take n l ++ (x ∷ [])) (k n (omega arith))
    ∙ ap (λ (xs : List ℕ). xs ++ (of n ∷ [])) (first_taken n of l (omega arith) (λ i m. k i (omega arith)))

pub first_at : (n : ℕ) (of : ℕ → ℕ) (i : ℕ) → i < n → get_or (first_of n of) i 0 ≡ of i
first_at zero of i h = absurd (omega arith)
first_at (suc n) of i h =
    elim (cases_eq i n) [
      | inl e ↦ get_or_push (first_of n of) (of n) 0 i (first_length n of ∙ sym e) ∙ ap of (sym e)
      | inr d ↦
          let l = first_length n of in
          let k : i < n = omega arith in
          get_or_append_left (first_of n of) (of n ∷ []) 0 i (omega arith) ∙ first_at n of i k
    ]

-- A term over the list is one over the words.
mutual
  pub formed_over : {D : Type 0} (V : Words D) (t : Term) → Formed (length (arities_of V)) (λ f. get_or (arities_of V) f 0) t → Formed V.count V.arity t
  formed_over V (var x) h = h
  formed_over V (app f ts) h =
      let n = first_length V.count V.arity in
      let k = h.0 in
      let b : f < V.count = omega arith in
      (b, h.1 ∙ first_at V.count V.arity f b, all_over V ts h.2)

  all_over : {D : Type 0} (V : Words D) (ts : Terms) → AllFormed (length (arities_of V)) (λ f. get_or (arities_of V) f 0) ts → AllFormed V.count V.arity ts
  all_over V nil h = tt
  all_over V (cons t ts) h = (formed_over V t h.0, all_over V ts h.1)

module _ {D : Type 0} {S : Operations D} {V : Words D} (W : IsVocabulary S V) where
  -- No word takes more than six arguments.
  pub few_each : FewEach (arities_of V)
  few_each f h =
      let n = first_length V.count V.arity in
      let b : f < V.count = omega arith in
      let e = first_at V.count V.arity f b in
      let k = W.small f b in
      omega arith

  -- What is taken of a list that has them in front.
  pub taken_arities : (n : ℕ) (l : List ℕ) → n ≡ V.count → length l ≡ 128 → Below V.count (λ f. get_or l f 0 ≡ V.arity f) → take (n - 0) l ≡ arities_of V
  taken_arities n l e h k =
      let few = W.few in
      let z : n - 0 ≡ V.count = omega arith in
      ap (λ (m : ℕ). take m l) z ∙ first_taken V.count V.arity l (omega arith) k
