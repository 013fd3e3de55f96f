-- A term is nested at most 31 deep exactly if it is written with at most 31 brackets open.
use Rattle.std.proofs.Common.{◌≡◌, ℕ, zero, suc, ◌+◌, ◌<◌, ◌≤◌, true, false, cond, eqb, List, [], ◌∷◌, ◌++◌, length, get_or, take, drop, Option, sym, refl, ◌∙◌, subst, ⊎_elim, append_assoc, append-nil, add-one, arith, length-drop}
use Rattle.std.proofs.lemmas.List.{drop_more}
use Rattle.std.proofs.lemmas.Bool.{and_parts, cases_eq, eq-eqb, ne_eqb}
use Rattle.std.proofs.lemmas.Bool.Decides.{nat_tests}
use Rattle.unification.specs.Terms.{Term, Terms, var, app, nil, cons}
use Rattle.text.specs.Brackets.{often}
use Rattle.text.specs.Limits.{deepest}
use Rattle.text.specs.Phrases.{Phrase, Phrases, variable, word, none, more, decimal, bytes, bracketed, following, Sound, AllSound}
use Rattle.text.specs.Tokens.{in_word, wordy}
use Rattle.text.specs.Verdicts.{AllShallow}
use Rattle.text.specs.Writings.{Nested, Bracketed, AllNested, characters, spelled, all_spelled, write, Means, AllMean, Writes}
use Rattle.text.proofs.Depths.{one_more, no_more}
use Rattle.text.proofs.Spelling.{spelling_word}
use Rattle.text.proofs.Tally.{decimal_wordy}
use Rattle.text.proofs.Unique.{word_wordy}

-- the counts of `(` and of `)`, one byte on
abbrev up : ℕ → ℕ → ℕ
up b o = cond (eqb b 40) (o + 1) o

abbrev down : ℕ → ℕ → ℕ
down b c = cond (eqb b 41) (c + 1) c

-- with o opened and c closed before the bytes, at most d are open after each of them
abbrev Safe : ℕ → ℕ → ℕ → List ℕ → Type 0
Safe o c d [] = Unit {0}
Safe o c d (b ∷ bs) = (up b o ≤ down b c + d) × Safe (up b o) (down b c) d bs

up_is : (text : List ℕ) (i : ℕ) → i < length text → up (get_or text i 0) (often 40 (take i text)) ≡ often 40 (take (i + 1) text)
up_is text i h =
    ⊎_elim
    (λ e. let t : eqb (get_or text i 0) 40 ≡ true = eq-eqb (get_or text i 0) 40 e in rw t (sym (one_more text i h 40 e)))
    (λ n. let t : eqb (get_or text i 0) 40 ≡ false = ne_eqb (get_or text i 0) 40 n in rw t (sym (no_more text i h 40 n)))
    (cases_eq (get_or text i 0) 40)

down_is : (text : List ℕ) (i : ℕ) → i < length text → down (get_or text i 0) (often 41 (take i text)) ≡ often 41 (take (i + 1) text)
down_is text i h =
    ⊎_elim
    (λ e. let t : eqb (get_or text i 0) 41 ≡ true = eq-eqb (get_or text i 0) 41 e in rw t (sym (one_more text i h 41 e)))
    (λ n. let t : eqb (get_or text i 0) 41 ≡ false = ne_eqb (get_or text i 0) 41 n in rw t (sym (no_more text i h 41 n)))
    (cases_eq (get_or text i 0) 41)

safe_step : (text : List ℕ) (d i : ℕ) → i < length text → Safe (often 40 (take i text)) (often 41 (take i text)) d (drop i text) → (often 40 (take (i + 1) text) ≤ often 41 (take (i + 1) text) + d) × Safe (often 40 (take (i + 1) text)) (often 41 (take (i + 1) text)) d (drop (i + 1) text)
safe_step text d i h s =
    let b = get_or text i 0 in
    let o = up b (often 40 (take i text)) in
    let rest = drop (i + 1) text in
    let s' : (o ≤ down b (often 41 (take i text)) + d) × Safe o (down b (often 41 (take i text))) d rest =
    subst (Safe (often 40 (take i text)) (often 41 (take i text)) d) (drop_more text i 0 h) s in
    subst (λ (x : ℕ). (x ≤ often 41 (take (i + 1) text) + d) × Safe x (often 41 (take (i + 1) text)) d rest) (up_is text i h)
    (subst (λ (y : ℕ). (o ≤ y + d) × Safe o y d rest) (down_is text i h) s')

safe_from : (text : List ℕ) (d i : ℕ) → Safe 0 0 d text → i < length text → (often 40 (take (i + 1) text) ≤ often 41 (take (i + 1) text) + d) × Safe (often 40 (take (i + 1) text)) (often 41 (take (i + 1) text)) d (drop (i + 1) text)
safe_from text d zero s h = safe_step text d 0 h s
safe_from text d (suc i) s h =
    let r = safe_from text d i s (omega arith) in
    safe_step text d (suc i) h (subst (λ (j : ℕ). Safe (often 40 (take j text)) (often 41 (take j text)) d (drop j text)) (add-one i) r.1)

-- bytes that are no brackets
safe_other : (b o c d : ℕ) (k : List ℕ) → in_word b ≡ true → o ≤ c + d → Safe o c d k → Safe o c d (b ∷ k)
safe_other b o c d k w h s =
    let x : eqb b 40 ≡ false = grind (arith, nat_tests) in
    let y : eqb b 41 ≡ false = grind (arith, nat_tests) in
    rw (x, y) (h, s)

safe_wordy : (s k : List ℕ) (o c d : ℕ) → wordy s ≡ true → o ≤ c + d → Safe o c d k → Safe o c d (s ++ k)
safe_wordy [] k o c d w h r = r
safe_wordy (b ∷ s) k o c d w h r =
    let p = and_parts (in_word b) (wordy s) w in
    safe_other b o c d (s ++ k) p.0 h (safe_wordy s k o c d p.1 h r)

move : (o c d : ℕ) (k : List ℕ) (p q : ℕ) → p ≡ o → q ≡ c → Safe p q d k → Safe o c d k
move o c d k p q e f s = subst (λ (x : ℕ). Safe x c d k) e (subst (λ (y : ℕ). Safe p y d k) f s)

module _ (spellings : ℕ → Option (List ℕ)) (d : ℕ) where
  -- behind a term, as many brackets more are closed as opened: m
  mutual
    safe_term : (t : Term) (e : ℕ) (k : List ℕ) (o c : ℕ) → Sound (spelled spellings t) → Nested t e → o + e ≤ c + d → ((m : ℕ) → Safe (o + m) (c + m) d k) → Safe o c d (bytes (spelled spellings t) ++ k)
    safe_term (var x) e k o c s n h r =
        (omega arith, safe_wordy (decimal x) k o c d (decimal_wordy x s) (omega arith) (move o c d k (o + 0) (c + 0) (omega arith) (omega arith) (r 0)))
    safe_term (app f ts) e k o c s n h r =
        let w = characters (spellings f) in
        let given = bracketed (all_spelled spellings ts) in
        subst (Safe o c d) (sym (append_assoc w given k)) (safe_wordy w (given ++ k) o c d (word_wordy w (spelling_word w s.0)) (omega arith) (safe_bracketed ts e k o c s.1 n h r))

    safe_bracketed : (ts : Terms) (e : ℕ) (k : List ℕ) (o c : ℕ) → AllSound (all_spelled spellings ts) → Bracketed ts e → o + e ≤ c + d → ((m : ℕ) → Safe (o + m) (c + m) d k) → Safe o c d (bracketed (all_spelled spellings ts) ++ k)
    safe_bracketed nil e k o c s n h r = move o c d k (o + 0) (c + 0) (omega arith) (omega arith) (r 0)
    safe_bracketed (cons t ts) zero k o c s n h r = absurd n
    safe_bracketed (cons t ts) (suc e) k o c s n h r =
        let rest = following (all_spelled spellings ts) in (
          omega arith,
          subst (Safe (o + 1) c d) (sym (append_assoc (bytes (spelled spellings t)) rest k)) (safe_term t e (rest ++ k) (o + 1) c s.0 n.0 (omega arith) (λ m.
              move (o + 1 + m) (c + m) d (rest ++ k) (o + m + 1) (c + m) (omega arith) refl (safe_following ts e k (o + m) (c + m) s.1 n.1 (omega arith) (λ j. move (o + m + j) (c + m + j) d k (o + (m + j)) (c + (m + j)) (omega arith) (omega arith) (r (m + j)))))),
        )

    -- one bracket more is open
    safe_following : (ts : Terms) (e : ℕ) (k : List ℕ) (o c : ℕ) → AllSound (all_spelled spellings ts) → AllNested ts e → o + 1 + e ≤ c + d → ((m : ℕ) → Safe (o + m) (c + m) d k) → Safe (o + 1) c d (following (all_spelled spellings ts) ++ k)
    safe_following nil e k o c s n h r = (omega arith, r 1)
    safe_following (cons t ts) e k o c s n h r =
        let rest = following (all_spelled spellings ts) in (
          omega arith,
          subst (Safe (o + 1) c d) (sym (append_assoc (bytes (spelled spellings t)) rest k)) (safe_term t e (rest ++ k) (o + 1) c s.0 n.0 h (λ m.
              move (o + 1 + m) (c + m) d (rest ++ k) (o + m + 1) (c + m) (omega arith) refl (safe_following ts e k (o + m) (c + m) s.1 n.1 (omega arith) (λ j. move (o + m + j) (c + m + j) d k (o + (m + j)) (c + (m + j)) (omega arith) (omega arith) (r (m + j)))))),
        )

pub shallow_nested : (spellings : ℕ → Option (List ℕ)) (text : List ℕ) (t : Term) → Sound (spelled spellings t) → Nested t deepest → write spellings t ≡ text → AllShallow text
shallow_nested spellings text t s n e =
    let safe = safe_term spellings deepest t deepest [] 0 0 s n (omega arith) (λ m. tt) in
    let all : Safe 0 0 deepest text = subst (Safe 0 0 deepest) (append-nil (write spellings t) ∙ e) safe in
    λ i h _. (safe_from text deepest i all h).0

-- The other way round: with o opened and c closed before the bytes, at most d are open with each `(`.
abbrev Tame : ℕ → ℕ → ℕ → List ℕ → Type 0
Tame o c d [] = Unit {0}
Tame o c d (b ∷ bs) = (b ≡ 40 → o + 1 ≤ c + d) × Tame (up b o) (down b c) d bs

tame_move : (o c d : ℕ) (k : List ℕ) (p q : ℕ) → p ≡ o → q ≡ c → Tame p q d k → Tame o c d k
tame_move o c d k p q e f s = subst (λ (x : ℕ). Tame x c d k) e (subst (λ (y : ℕ). Tame p y d k) f s)

empty : (l : List ℕ) → length l ≡ 0 → l ≡ []
empty [] h = refl
empty (b ∷ l) h = absurd (omega arith)

tame_from : (text : List ℕ) → AllShallow text → (n i : ℕ) → i + n ≡ length text → Tame (often 40 (take i text)) (often 41 (take i text)) deepest (drop i text)
tame_from text h zero i e =
    let l = length-drop i text in
    let z : drop i text ≡ [] = empty (drop i text) (omega arith) in
    subst (Tame (often 40 (take i text)) (often 41 (take i text)) deepest) (sym z) tt
tame_from text h (suc n) i e =
    let lt : i < length text = omega arith in
    let b = get_or text i 0 in
    let r = tame_from text h n (i + 1) (omega arith) in
    let here : b ≡ 40 → often 40 (take i text) + 1 ≤ often 41 (take i text) + deepest =
    λ is.
    let a = h i lt is in
    let x = one_more text i lt 40 is in
    let y = no_more text i lt 41 (λ (f : get_or text i 0 ≡ 41). let z : ◌≡◌ {A = ℕ} 40 41 = sym is ∙ f in omega arith) in
    omega arith in
    subst (Tame (often 40 (take i text)) (often 41 (take i text)) deepest) (sym (drop_more text i 0 lt))
    (here, tame_move (up b (often 40 (take i text))) (down b (often 41 (take i text))) deepest (drop (i + 1) text) (often 40 (take (i + 1) text)) (often 41 (take (i + 1) text)) (sym (up_is text i lt)) (sym (down_is text i lt)) r)

tame_wordy : (s k : List ℕ) (o c d : ℕ) → wordy s ≡ true → Tame o c d (s ++ k) → Tame o c d k
tame_wordy [] k o c d w r = r
tame_wordy (b ∷ s) k o c d w r =
    let p = and_parts (in_word b) (wordy s) w in
    let q = p.0 in
    let x : eqb b 40 ≡ false = grind (arith, nat_tests) in
    let y : eqb b 41 ≡ false = grind (arith, nat_tests) in
    let u : up b o ≡ o = rw x refl in
    let v : down b c ≡ c = rw y refl in
    tame_wordy s k o c d p.1 (tame_move o c d (s ++ k) (up b o) (down b c) u v r.1)

module _ (spellings : ℕ → Option (List ℕ)) (d : ℕ) where
  mutual
    nested_term : (p : Phrase) (t : Term) (e : ℕ) (k : List ℕ) (o c : ℕ) → Sound p → Means spellings p t → o + e ≡ c + d → Tame o c d (bytes p ++ k) → Nested t e × ((m : ℕ) × Tame (o + m) (c + m) d k)
    nested_term (variable n) (var x) e k o c s m h r =
        (tt, (0, tame_move (o + 0) (c + 0) d k o c (omega arith) (omega arith) (tame_wordy (decimal n) k o c d (decimal_wordy n s) r.1)))
    nested_term (variable n) (app f ts) e k o c s m h r = absurd m
    nested_term (word w ps) (var x) e k o c s m h r = absurd m
    nested_term (word w ps) (app f ts) e k o c s m h r =
        nested_bracketed ps ts e k o c s.1 m.1 h (tame_wordy w (bracketed ps ++ k) o c d (word_wordy w (spelling_word w s.0)) (subst (Tame o c d) (append_assoc w (bracketed ps) k) r))

    nested_bracketed : (ps : Phrases) (ts : Terms) (e : ℕ) (k : List ℕ) (o c : ℕ) → AllSound ps → AllMean spellings ps ts → o + e ≡ c + d → Tame o c d (bracketed ps ++ k) → Bracketed ts e × ((m : ℕ) × Tame (o + m) (c + m) d k)
    nested_bracketed none nil e k o c s m h r = (tt, (0, tame_move (o + 0) (c + 0) d k o c (omega arith) (omega arith) r))
    nested_bracketed none (cons t ts) e k o c s m h r = absurd m
    nested_bracketed (more p ps) nil e k o c s m h r = absurd m
    nested_bracketed (more p ps) (cons t ts) zero k o c s m h r = let a = r.0 refl in absurd (omega arith)
    nested_bracketed (more p ps) (cons t ts) (suc e) k o c s m h r =
        let a = nested_term p t e (following ps ++ k) (o + 1) c s.0 m.0 (omega arith) (subst (Tame (o + 1) c d) (append_assoc (bytes p) (following ps) k) r.1) in
        let n = a.1.0 in
        let b = nested_following ps ts e k (o + n) (c + n) s.1 m.1 (omega arith) (tame_move (o + n + 1) (c + n) d (following ps ++ k) (o + 1 + n) (c + n) (omega arith) refl a.1.1) in
        let j = b.1.0 in
        ((a.0, b.0), (n + j, tame_move (o + (n + j)) (c + (n + j)) d k (o + n + j) (c + n + j) (omega arith) (omega arith) b.1.1))

    -- one bracket more is open
    nested_following : (ps : Phrases) (ts : Terms) (e : ℕ) (k : List ℕ) (o c : ℕ) → AllSound ps → AllMean spellings ps ts → o + 1 + e ≡ c + d → Tame (o + 1) c d (following ps ++ k) → AllNested ts e × ((m : ℕ) × Tame (o + m) (c + m) d k)
    nested_following none nil e k o c s m h r = (tt, (1, r.1))
    nested_following none (cons t ts) e k o c s m h r = absurd m
    nested_following (more p ps) nil e k o c s m h r = absurd m
    nested_following (more p ps) (cons t ts) e k o c s m h r =
        let a = nested_term p t e (following ps ++ k) (o + 1) c s.0 m.0 h (subst (Tame (o + 1) c d) (append_assoc (bytes p) (following ps) k) r.1) in
        let n = a.1.0 in
        let b = nested_following ps ts e k (o + n) (c + n) s.1 m.1 (omega arith) (tame_move (o + n + 1) (c + n) d (following ps ++ k) (o + 1 + n) (c + n) (omega arith) refl a.1.1) in
        let j = b.1.0 in
        ((a.0, b.0), (n + j, tame_move (o + (n + j)) (c + (n + j)) d k (o + n + j) (c + n + j) (omega arith) (omega arith) b.1.1))

pub nested_shallow : (spellings : ℕ → Option (List ℕ)) (text : List ℕ) (t : Term) → Writes spellings text t → AllShallow text → Nested t deepest
nested_shallow spellings text t w h =
    let all : Tame 0 0 deepest (bytes w.phrase ++ []) = subst (Tame 0 0 deepest) (sym w.written ∙ sym (append-nil (bytes w.phrase))) (tame_from text h (length text) 0 (omega arith)) in
    (nested_term spellings deepest w.phrase t deepest [] 0 0 w.sound w.means (omega arith) all).0
