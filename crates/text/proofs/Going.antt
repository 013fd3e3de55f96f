-- How the course goes over the bytes of each token.
use Rattle.std.proofs.Common.{◌≡◌, ℕ, zero, suc, ◌+◌, ◌/◌, ◌%◌, ◌<◌, Bool, true, false, eqb, ltb, leb, List, [], ◌∷◌, ◌++◌, length, sym, refl, ap, ◌∙◌, ⊎_elim, arith, le-ltb, lt-ltb, ne_eqb, le-leb}
use Rattle.std.proofs.lemmas.Bool.{and_parts, and_from, cases_lt, cases_eq}
use Rattle.std.proofs.lemmas.Bool.Decides.{nat_tests}
use Rattle.text.specs.Phrases.{decimal}
use Rattle.text.specs.Course.{start, mark, tens, letters, after, Next, stop, on, follow, step, Outcome, stopped, course}
use Rattle.text.specs.Tokens.{small, in_word, digit, wordy, IsWord, Stop, parts, begins}

abbrev pub opens : ℕ → Bool
opens b = eqb b 40

onto : (x y : Next) (p : ℕ) (bs : List ℕ) → x ≡ y → ◌≡◌ {A = Outcome} (elim x [ stop ↦ stopped p | on t ↦ course t (p + 1) bs ]) (elim y [ stop ↦ stopped p | on t ↦ course t (p + 1) bs ])
onto x y p bs e = ap (λ (z : Next). elim z [ stop ↦ stopped p | on t ↦ course t (p + 1) bs ]) e

pub goes_wordy : (bs k : List ℕ) (n m j p q : ℕ) → wordy bs ≡ true → m ≡ length bs + j → q ≡ p + length bs → course (letters n m) p (bs ++ k) ≡ course (letters n j) q k
goes_wordy [] k n m j p q w e f =
    let a : m ≡ j = omega arith in
    let b : p ≡ q = omega arith in
    λ i. course (letters n (a i)) (b i) k
goes_wordy (b ∷ bs) k n zero j p q w e f = absurd (omega arith)
goes_wordy (b ∷ bs) k n (suc m) j p q w e f =
    let h = and_parts (in_word b) (wordy bs) w in
    let s : step (letters n (suc m)) b ≡ on (letters n m) = rw h.0 refl in
    onto (step (letters n (suc m)) b) (on (letters n m)) p (bs ++ k) s ∙ goes_wordy bs k n m j (p + 1) q h.1 (omega arith) (omega arith)

pub goes_word : (w k : List ℕ) (n j p q : ℕ) → IsWord w → length w + j ≡ 16 → q ≡ p + length w → course (start n) p (w ++ k) ≡ course (letters n j) q k
goes_word [] k n j p q h e f = absurd h
goes_word (b ∷ bs) k n j p q h e f =
    let s : step (start n) b ≡ on (letters n 15) = rw h.0 refl in
    onto (step (start n) b) (on (letters n 15)) p (bs ++ k) s ∙ goes_wordy bs k n 15 j (p + 1) q h.1 (omega arith) (omega arith)

pub goes_open : (n j p : ℕ) (k : List ℕ) → course (letters n j) p (40 ∷ k) ≡ course (start (suc n)) (p + 1) k
goes_open n zero p k = refl
goes_open n (suc j) p k = refl

pub goes_rest : (n j p : ℕ) (k : List ℕ) → (0 < j → Stop in_word k) → Stop opens k → course (letters n j) p k ≡ course (after n) p k
goes_rest n j p [] h o = refl
goes_rest n zero p (b ∷ k) h o =
    let s : step (letters n zero) b ≡ follow n b = rw o refl in
    onto (step (letters n zero) b) (follow n b) p k s
goes_rest n (suc j) p (b ∷ k) h o =
    let i : in_word b ≡ false = h (omega arith) in
    let s : step (letters n (suc j)) b ≡ follow n b = rw (i, o) refl in
    onto (step (letters n (suc j)) b) (follow n b) p k s

pub goes_tens : (n p : ℕ) (k : List ℕ) → Stop digit k → course (tens n) p k ≡ course (after n) p k
goes_tens n p [] h = refl
goes_tens n p (b ∷ k) h =
    let s : step (tens n) b ≡ follow n b = rw h refl in
    onto (step (tens n) b) (follow n b) p k s

pub digit_is : (d : ℕ) → d < 10 → digit (48 + d) ≡ true
digit_is d h = and_from (leb 48 (48 + d)) (leb (48 + d) 57) (le-leb 48 (48 + d) (omega arith)) (le-leb (48 + d) 57 (omega arith))

goes_mark : (n d p : ℕ) (k : List ℕ) → 0 < d → d < 10 → course (mark n) p ((48 + d) ∷ k) ≡ course (tens n) (p + 1) k
goes_mark n d p k h l =
    let z : eqb (48 + d) 48 ≡ false = ne_eqb (48 + d) 48 (omega arith) in
    let i = digit_is d l in
    let s : step (mark n) (48 + d) ≡ on (tens n) = rw (z, i) refl in
    onto (step (mark n) (48 + d)) (on (tens n)) p k s

goes_second : (n d p : ℕ) (k : List ℕ) → d < 10 → course (tens n) p ((48 + d) ∷ k) ≡ course (after n) (p + 1) k
goes_second n d p k l =
    let i = digit_is d l in
    let s : step (tens n) (48 + d) ≡ on (after n) = rw i refl in
    onto (step (tens n) (48 + d)) (on (after n)) p k s

pub goes_decimal : (v : ℕ) (k : List ℕ) (n p q : ℕ) → v < 100 → (0 < v → v < 10 → Stop digit k) → q ≡ p + length (decimal v) → course (mark n) p (decimal v ++ k) ≡ course (after n) q k
goes_decimal v k n p q h s e =
    ⊎_elim
    (λ one.
    let t : ltb v 10 ≡ true = lt-ltb v 10 one in
    let d : decimal v ≡ (48 + v) ∷ [] = rw t refl in
    let f : q ≡ p + 1 = e ∙ ap (λ l. p + length l) d in
    ap (λ l. course (mark n) p (l ++ k)) d ∙
    ⊎_elim
    (λ z. ap (λ x. course (mark n) p ((48 + x) ∷ k)) z ∙ ap (λ x. course (after n) x k) (sym f))
    (λ nz. goes_mark n v p k (omega arith) one ∙ goes_tens n (p + 1) k (s (omega arith) one) ∙ ap (λ x. course (after n) x k) (sym f))
    (cases_eq v 0))
    (λ two.
    let t : ltb v 10 ≡ false = le-ltb v 10 two in
    let d : decimal v ≡ (48 + v / 10) ∷ ((48 + v % 10) ∷ []) = rw t refl in
    let f : q ≡ p + 1 + 1 = e ∙ ap (λ l. p + length l) d ∙ omega arith in
    ap (λ l. course (mark n) p (l ++ k)) d ∙ goes_mark n (v / 10) p ((48 + v % 10) ∷ k) (omega arith) (omega arith) ∙ goes_second n (v % 10) (p + 1) k (omega arith) ∙ ap (λ x. course (after n) x k) (sym f))
    (cases_lt v 10)

pub stops_start : (n p : ℕ) (k : List ℕ) → Stop begins k → course (start n) p k ≡ stopped p
stops_start n p [] h = refl
stops_start n p (b ∷ k) h =
    let a : small b ≡ false = grind (arith, nat_tests) in
    let m : eqb b 63 ≡ false = grind (arith, nat_tests) in
    let s : step (start n) b ≡ stop = rw (a, m) refl in
    onto (step (start n) b) stop p k s

pub stops_mark : (n p : ℕ) (k : List ℕ) → Stop digit k → course (mark n) p k ≡ stopped p
stops_mark n p [] h = refl
stops_mark n p (b ∷ k) h =
    let z : eqb b 48 ≡ false = grind (arith, nat_tests) in
    let s : step (mark n) b ≡ stop = rw (z, h) refl in
    onto (step (mark n) b) stop p k s

pub stops_after : (n p : ℕ) (k : List ℕ) → Stop parts k → course (after (suc n)) p k ≡ stopped p
stops_after n p [] h = refl
stops_after n p (b ∷ k) h =
    let x : eqb b 44 ≡ false = grind (arith, nat_tests) in
    let y : eqb b 41 ≡ false = grind (arith, nat_tests) in
    let s : step (after (suc n)) b ≡ stop = rw (x, y) refl in
    onto (step (after (suc n)) b) stop p k s
