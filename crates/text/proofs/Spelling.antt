-- What a token's bytes are.
use Rattle.std.proofs.Common.{◌≡◌, ℕ, zero, suc, ◌+◌, ◌-◌, ◌<◌, ◌≤◌, Bool, true, false, cond, ltb, List, [], ◌∷◌, ◌++◌, length, get_or, take, drop, sym, refl, ap, ◌∙◌, subst, arith, length-drop, take-append-drop, lt-ltb, Bor}
use Rattle.std.proofs.Math.Seq.{take-length}
use Rattle.std.specs.List.{take_while}
use Rattle.std.proofs.lemmas.List.Sums.{take_while-cons}
use Rattle.std.proofs.lemmas.List.{drop_more, drop_all, drop-drop, length-take-le}
use Rattle.std.proofs.lemmas.Bool.{and_parts, and_from}
use Rattle.std.proofs.lemmas.Bool.Decides.{nat_tests}
use Rattle.vocabulary.specs.Spellings.{fits, Signs, IsSpelling}
use Rattle.text.specs.Tokens.{small, in_word, wordy, word_rest, IsWord, Stop, Lexed}
use Rattle.text.specs.declared.token.Token.TheVariants.{Word}

pub stop_at : (f : ℕ → Bool) (text : List ℕ) (i : ℕ) → f (get_or text i 0) ≡ false → Stop f (drop i text)
stop_at f [] zero h = tt
stop_at f [] (suc i) h = tt
stop_at f (b ∷ bs) zero h = h
stop_at f (b ∷ bs) (suc i) h = stop_at f bs i h

pub stop_end : (f : ℕ → Bool) (text : List ℕ) (i : ℕ) → length text ≤ i → Stop f (drop i text)
stop_end f text i h = subst (Stop f) (sym (drop_all i text h)) tt

-- a word goes on with the first n of the bytes, k at most
pub record Goes (k : ℕ) (xs : List ℕ) (n : ℕ) : Type 0 where
  pub few : n ≤ k
  pub within : n ≤ length xs
  pub goes : wordy (take n xs) ≡ true
  pub stops : n < k → Stop in_word (drop n xs)

pub goes_while : (k : ℕ) (xs : List ℕ) → Goes k xs (length (take_while in_word (take k xs)))
goes_while zero xs = record { few = omega arith; within = omega arith; goes = refl; stops = λ h. absurd (omega arith) }
goes_while (suc k) [] = record { few = omega arith; within = omega arith; goes = refl; stops = λ _. tt }
goes_while (suc k) (b ∷ bs) =
    let n = length (take_while in_word (take k bs)) in
    let more = goes_while k bs in
    rw take_while-cons (elim (in_word b) as (λ v. in_word b ≡ v → Goes (suc k) (b ∷ bs) (length (cond v (b ∷ take_while in_word (take k bs)) []))) [
      | true ↦ λ h. record {
        few = omega (arith, more.few);
        within = omega (arith, more.within);
        goes = and_from (in_word b) (wordy (take n bs)) h more.goes;
        stops = λ l. more.stops (omega arith);
      }
      | false ↦ λ h. record { few = omega arith; within = omega arith; goes = refl; stops = λ _. h }
    ] refl)

-- the next byte
pub one_on : (text : List ℕ) (i b : ℕ) → i < length text → get_or text i 0 ≡ b → drop i text ≡ b ∷ drop (i + 1) text
one_on text i b h e = drop_more text i 0 h ∙ ap (λ x. x ∷ drop (i + 1) text) e

-- a word's bytes
pub word_is : (text : List ℕ) (at e : ℕ) → at < e → e ≤ length text → e ≤ at + 16 → small (get_or text at 0) ≡ true → wordy (take (e - (at + 1)) (drop (at + 1) text)) ≡ true → (IsWord (take (e - at) (drop at text))) × (length (take (e - at) (drop at text)) ≡ e - at)
word_is text at e p w few s all =
    let more : drop at text ≡ get_or text at 0 ∷ drop (at + 1) text = drop_more text at 0 (omega arith) in
    let n : e - at ≡ suc (e - (at + 1)) = omega arith in
    let cut : take (e - at) (drop at text) ≡ get_or text at 0 ∷ take (e - (at + 1)) (drop (at + 1) text) = (λ i. take (n i) (more i)) in
    let fits : e - (at + 1) ≤ length (drop (at + 1) text) = simp length-drop (omega arith) in
    let long = length-take-le (e - (at + 1)) (drop (at + 1) text) fits in
    (subst IsWord (sym cut) (s, all, omega arith), ap length cut ∙ omega arith)

pub part_on : (text : List ℕ) (at e : ℕ) → at ≤ e → drop at text ≡ take (e - at) (drop at text) ++ drop e text
part_on text at e h =
    let n : at + (e - at) ≡ e = omega arith in
    sym (take-append-drop (e - at) (drop at text)) ∙ ap (λ l. take (e - at) (drop at text) ++ l) (drop-drop (e - at) at text ∙ ap (λ i. drop i text) n)

pub ranged : (b : ℕ) → 97 ≤ b → b ≤ 122 → small b ≡ true
ranged b h k = grind (arith, nat_tests)

-- what is lent from a place on
pub to_end : (text : List ℕ) (i : ℕ) → take (length text - i) (drop i text) ≡ drop i text
to_end text i = ap (λ n. take n (drop i text)) (sym (length-drop i text)) ∙ take-length (drop i text)

-- the word that begins at the place, as long as it can be
pub lexed_word : (text : List ℕ) (at e : ℕ) (w : Bor (List ℕ)) → at < length text → small (get_or text at 0) ≡ true → e ≡ at + 1 + word_rest (drop (at + 1) text) → w.now ≡ take (e - at) (drop at text) → Lexed text at (Word w, e)
lexed_word text at e w h s end is =
    let n = word_rest (drop (at + 1) text) in
    let g = goes_while 15 (drop (at + 1) text) in
    let long = length-drop (at + 1) text in
    let m : n ≡ e - (at + 1) = omega arith in
    let x : at + 1 + n ≡ e = omega arith in
    let k = word_is text at e (omega arith) (omega (arith, g.within)) (omega (arith, g.few)) s (ap (λ i. wordy (take i (drop (at + 1) text))) (sym m) ∙ g.goes) in
    record {
      past = omega arith;
      within = omega (arith, g.within);
      read = part_on text at e (omega arith) ∙ ap (λ l. l ++ drop e text) (sym is);
      fair = (subst IsWord (sym is) k.0, λ l. subst (Stop in_word) (drop-drop n (at + 1) text ∙ ap (λ i. drop i text) x) (g.stops (omega (arith, ap length is, k.1))));
    }

-- a spelling, read from its front
wordy_signs : (s : List ℕ) → wordy s ≡ true → (k : ℕ) → k < length s → in_word (get_or s k 0) ≡ true
wordy_signs [] w k h = absurd (omega arith)
wordy_signs (b ∷ bs) w zero h = (and_parts (in_word b) (wordy bs) w).0
wordy_signs (b ∷ bs) w (suc k) h = wordy_signs bs (and_parts (in_word b) (wordy bs) w).1 k (omega arith)

signs_wordy : (s : List ℕ) → ((k : ℕ) → k < length s → in_word (get_or s k 0) ≡ true) → wordy s ≡ true
signs_wordy [] h = refl
signs_wordy (b ∷ bs) h = and_from (in_word b) (wordy bs) (h 0 (omega arith)) (signs_wordy bs (λ k l. h (suc k) (omega arith)))

later : (k c : ℕ) → fits (suc k) c ≡ in_word c
later k c =
    let t : ltb 0 (suc k) ≡ true = lt-ltb 0 (suc k) (omega arith) in
    rw t refl

pub word_spelling : (s : List ℕ) → IsWord s → IsSpelling s
word_spelling [] h = absurd h
word_spelling (b ∷ bs) h = record { some = omega arith; short = omega (arith, h.2); signs = signs }
  where
    signs : Signs (b ∷ bs)
    signs zero l = h.0
    signs (suc k) l = later k (get_or bs k 0) ∙ wordy_signs bs h.1 k (omega arith)

pub spelling_word : (s : List ℕ) → IsSpelling s → IsWord s
spelling_word [] h = omega (arith, h.some)
spelling_word (b ∷ bs) h =
    (h.signs 0 (omega arith), signs_wordy bs (λ k l. sym (later k (get_or bs k 0)) ∙ h.signs (suc k) (omega arith)), omega (arith, h.short))
