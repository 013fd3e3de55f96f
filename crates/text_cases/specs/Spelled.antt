-- The six letters are a lexicon.
use Rattle.std.proofs.Common.{◌≡◌, ℕ, zero, suc, ◌+◌, ◌-◌, ◌<◌, ◌≤◌, true, false, ltb, List, [], ◌∷◌, length, get_or, Some, None, Option, codes, slice_range, sym, refl, ap, ◌∙◌, subst, ⊎_elim, arith, Bor}
use Rattle.std.specs.Option.{option_map}
use Rattle.std.specs.Slice.{IsGetRangeResult}
use Rattle.std.proofs.lemmas.Bool.{cases_lt, lt-ltb, le-ltb}
use Rattle.std.proofs.lemmas.Bool.Decides.{nat_tests}
use Rattle.vocabulary.specs.Spellings.{fits, IsSpelling, Spells, IsLexicon}
use Rattle.text_cases.specs.Letters.{letters}

letter : (w : ℕ) → w < 6 → letters w ≡ Some ((97 + w) ∷ [])
letter w h = let t : ltb w 6 ≡ true = lt-ltb w 6 h in rw t refl

no_letter : (w : ℕ) → 6 ≤ w → letters w ≡ None
no_letter w h = let t : ltb w 6 ≡ false = le-ltb w 6 h in rw t refl

-- a word that has a spelling is a letter
is_letter : (w : ℕ) (s : List ℕ) → letters w ≡ Some s → (w < 6) × (s ≡ (97 + w) ∷ [])
is_letter w s e =
    ⊎_elim
    (λ h. (h, (let l = letter w h in let same : s ≡ (97 + w) ∷ [] = cc in same)))
    (λ h. absurd (let l = no_letter w h in cc))
    (cases_lt w 6)

one_letter : (c : ℕ) → 97 ≤ c → c ≤ 102 → IsSpelling (c ∷ [])
one_letter c a b = record { some = omega arith; short = omega arith; signs = signs }
  where
    signs : (k : ℕ) → k < 1 → fits k (get_or (c ∷ []) k 0) ≡ true
    signs zero h = grind (arith, nat_tests)
    signs (suc k) h = absurd (omega arith)

pub lawful : IsLexicon letters
lawful = record {
  formed = λ w s e. let i = is_letter w s e in subst IsSpelling (sym i.1) (one_letter (97 + w) (omega arith) (omega (arith, i.0)));
  single = λ v w s a b.
      let p = is_letter v a.written a.has in
      let q = is_letter w b.written b.has in
      let e : (97 + v) ∷ [] ≡ (97 + w) ∷ [] = sym p.1 ∙ a.same ∙ sym b.same ∙ q.1 in
      let h : 97 + v ≡ 97 + w = cc in
      omega arith;
}

pub spells_letter : (s : List ℕ) → length s ≡ 1 → 97 ≤ get_or s 0 0 → get_or s 0 0 ≤ 102 → Spells letters (get_or s 0 0 - 97) s
spells_letter [] l a b = absurd (omega arith)
spells_letter (c ∷ []) l a b =
    let e : 97 + (c - 97) ≡ c = omega arith in
    record { written = (97 + (c - 97)) ∷ []; has = letter (c - 97) (omega arith); same = ap (λ x. x ∷ []) e }
spells_letter (c ∷ d ∷ s) l a b = absurd (omega arith)

-- each letter is a part of the six
abbrev six : List ℕ
six = codes "abcdef"

one_of_six : (w : ℕ) → w + 1 ≤ 6 → slice_range six w (w + 1) ≡ (97 + w) ∷ []
one_of_six zero h = refl
one_of_six (suc zero) h = refl
one_of_six (suc (suc zero)) h = refl
one_of_six (suc (suc (suc zero))) h = refl
one_of_six (suc (suc (suc (suc zero)))) h = refl
one_of_six (suc (suc (suc (suc (suc zero))))) h = refl
one_of_six (suc (suc (suc (suc (suc (suc w)))))) h = absurd (omega arith)

pub part_letters : (w : ℕ) (r : Option (Bor (List ℕ))) → IsGetRangeResult six w (w + 1) r → option_map (λ (x : Bor (List ℕ)). x.now) r ≡ letters w
part_letters w None h = ⊎_elim (λ a. absurd (omega arith)) (λ b. sym (no_letter w (omega (arith, b)))) h.0
part_letters w (Some x) h = ap Some (h.0.2 ∙ one_of_six w h.0.1) ∙ sym (letter w (omega (arith, h.0.1)))
