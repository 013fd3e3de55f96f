-- From the course to the grammar.
use Rattle.std.proofs.Common.{◌≡◌, ℕ, suc, ◌+◌, ◌-◌, ◌<◌, ◌≤◌, Bool, true, false, cond, List, [], ◌∷◌, ◌++◌, length, take, drop, sym, refl, ap, ◌∙◌, append_assoc, append-nil, arith, length-append}
use native.Mathlib.Nat.{sub-zero}
use Rattle.std.proofs.lemmas.List.{take_at, drop_more}
use Rattle.std.proofs.lemmas.Bool.Decides.{nat_tests}
use Rattle.text.specs.Phrases.{Phrase, Phrases, variable, word, none, more, bytes, bracketed, following, Sound, AllSound}
use Rattle.text.specs.Texts.{IsText, Begins, StopsAt}
use Rattle.text.specs.Course.{State, start, letters, after, Next, stop, on, step, ends, Outcome, whole, stopped, course, PhraseTo, PhraseStops}
use Rattle.text.specs.Tokens.{digit, in_word, Stop, parts, Ended}
use Rattle.text.specs.declared.token.SyntaxFault.{SyntaxFault}
use Rattle.text.proofs.Spelling.{spelling_word}
use Rattle.text.proofs.Going.{opens, goes_word, goes_open, goes_rest, goes_decimal}
use Rattle.text.proofs.Reading.{end_is, short}

pub ended : (f : ℕ → Bool) → ((b : ℕ) → parts b ≡ true → f b ≡ false) → (k : List ℕ) → Ended k → Stop f k
ended f h [] e = tt
ended f h (b ∷ k) e = h b e

pub parts_word : (b : ℕ) → parts b ≡ true → in_word b ≡ false
parts_word b h = grind (arith, nat_tests)

pub parts_digit : (b : ℕ) → parts b ≡ true → digit b ≡ false
parts_digit b h = grind (arith, nat_tests)

parts_opens : (b : ℕ) → parts b ≡ true → opens b ≡ false
parts_opens b h = grind (arith, nat_tests)

pub ended_bracketed : (ps : Phrases) (k : List ℕ) → Ended k → Stop in_word (bracketed ps ++ k)
ended_bracketed none k e = ended in_word parts_word k e
ended_bracketed (more p ps) k e = refl

pub ended_following : (ps : Phrases) (k : List ℕ) → Ended (following ps ++ k)
ended_following none k = refl
ended_following (more p ps) k = refl

mutual
  pub goes_phrase : (t : Phrase) (k : List ℕ) (n p q : ℕ) → Sound t → Ended k → q ≡ p + length (bytes t) → course (start n) p (bytes t ++ k) ≡ course (after n) q k
  goes_phrase (variable v) k n p q s e l = goes_decimal v k n (p + 1) q s (λ _ _. ended digit parts_digit k e) (omega arith)
  goes_phrase (word w ps) k n p q s e l =
      let is = spelling_word w s.0 in
      let h = short w is in
      let long = length-append w (bracketed ps) in
      let shape : (w ++ bracketed ps) ++ k ≡ w ++ (bracketed ps ++ k) = simp append_assoc in
      ap (λ x. course (start n) p x) shape ∙
      goes_word w (bracketed ps ++ k) n (16 - length w) p (p + length w) is (omega arith) refl ∙
      goes_bracketed ps k n (16 - length w) (p + length w) q s.1 e (omega arith)

  goes_bracketed : (ps : Phrases) (k : List ℕ) (n j p q : ℕ) → AllSound ps → Ended k → q ≡ p + length (bracketed ps) → course (letters n j) p (bracketed ps ++ k) ≡ course (after n) q k
  goes_bracketed none k n j p q s e l =
      let same : q ≡ p = omega arith in
      goes_rest n j p k (λ _. ended in_word parts_word k e) (ended opens parts_opens k e) ∙ ap (λ i. course (after n) i k) (sym same)
  goes_bracketed (more t ps) k n j p q s e l =
      let long = length-append (bytes t) (following ps) in
      let shape : (40 ∷ (bytes t ++ following ps)) ++ k ≡ 40 ∷ (bytes t ++ (following ps ++ k)) = simp append_assoc in
      ap (λ x. course (letters n j) p x) shape ∙
      goes_open n j p (bytes t ++ (following ps ++ k)) ∙
      goes_phrase t (following ps ++ k) (suc n) (p + 1) (p + 1 + length (bytes t)) s.0 (ended_following ps k) refl ∙
      goes_following ps k n (p + 1 + length (bytes t)) q s.1 (omega arith)

  goes_following : (ps : Phrases) (k : List ℕ) (n p q : ℕ) → AllSound ps → q ≡ p + length (following ps) → course (after (suc n)) p (following ps ++ k) ≡ course (after n) q k
  goes_following none k n p q s l = ap (λ i. course (after n) i k) (sym l)
  goes_following (more t ps) k n p q s l =
      let long = length-append (bytes t) (following ps) in
      let shape : (44 ∷ (bytes t ++ following ps)) ++ k ≡ 44 ∷ (bytes t ++ (following ps ++ k)) = simp append_assoc in
      ap (λ x. course (after (suc n)) p x) shape ∙
      goes_phrase t (following ps ++ k) (suc n) (p + 1) (p + 1 + length (bytes t)) s.0 (ended_following ps k) refl ∙
      goes_following ps k n (p + 1 + length (bytes t)) q s.1 (omega arith)

pub text_whole : (bs : List ℕ) → IsText bs → course (start 0) 0 bs ≡ whole
text_whole bs t =
    ap (λ x. course (start 0) 0 x) (sym (append-nil (bytes t.phrase) ∙ t.written)) ∙ goes_phrase t.phrase [] 0 0 (0 + length (bytes t.phrase)) t.sound tt refl

apart : (p : ℕ) → whole ≡ stopped p → ⊥
apart p e = cc

same : (p q : ℕ) → stopped p ≡ stopped q → p ≡ q
same p q e = cc

-- it stops no earlier than it begins
pub stop_past : (bs : List ℕ) (s : State) (i p : ℕ) → course s i bs ≡ stopped p → i ≤ p
stop_past [] s i p e = go (ends s) e
  where
    go : (b : Bool) → cond b whole (stopped i) ≡ stopped p → i ≤ p
    go true h = absurd (apart p h)
    go false h = omega (arith, same i p h)
stop_past (b ∷ bs) s i p e = go (step s b) (λ t h. stop_past bs t (i + 1) p h) e
  where
    go : (x : Next) → ((t : State) → course t (i + 1) bs ≡ stopped p → i + 1 ≤ p) → ◌≡◌ {A = Outcome} (elim x [ stop ↦ stopped i | on t ↦ course t (i + 1) bs ]) (stopped p) → i ≤ p
    go stop r h = omega (arith, same i p h)
    go (on t) r h = omega (arith, r t h)

-- what comes after the byte at which it stops does not matter
pub stops_so : (bs tail : List ℕ) (s : State) (i p : ℕ) → course s i bs ≡ stopped p → p < i + length bs → course s i (take (p + 1 - i) bs ++ tail) ≡ stopped p
stops_so [] tail s i p e l = absurd (omega (arith, stop_past [] s i p e))
stops_so (b ∷ bs) tail s i p e l = go (step s b) refl (λ t h k. stops_so bs tail t (i + 1) p h k) e
  where
    put : (n : ℕ) → p + 1 - i ≡ suc n → course s i (take (p + 1 - i) (b ∷ bs) ++ tail) ≡ course s i (b ∷ (take n bs ++ tail))
    put n h = ap (λ j. course s i (take j (b ∷ bs) ++ tail)) h

    go : (x : Next) → step s b ≡ x → ((t : State) → course t (i + 1) bs ≡ stopped p → p < i + 1 + length bs → course t (i + 1) (take (p + 1 - (i + 1)) bs ++ tail) ≡ stopped p) → ◌≡◌ {A = Outcome} (elim x [ stop ↦ stopped i | on t ↦ course t (i + 1) bs ]) (stopped p) → course s i (take (p + 1 - i) (b ∷ bs) ++ tail) ≡ stopped p
    go stop f r h =
        let e = same i p h in
        put 0 (omega arith) ∙ ap (λ (z : Next). elim z [ stop ↦ stopped i | on t ↦ course t (i + 1) tail ]) f ∙ h
    go (on t) f r h =
        let k = stop_past bs t (i + 1) p h in
        put (p + 1 - (i + 1)) (omega arith) ∙ ap (λ (z : Next). elim z [ stop ↦ stopped i | on t ↦ course t (i + 1) (take (p + 1 - (i + 1)) bs ++ tail) ]) f ∙ r t h (omega arith)

pub stops_from : (text : List ℕ) (p : ℕ) → p ≤ length text → Begins (take p text) → course (start 0) 0 text ≡ stopped p → StopsAt text p
stops_from text p w b e = record {
  within = w;
  before = b;
  here = λ l h. apart p (sym (text_whole (take (p + 1) text ++ h.more) h.whole) ∙ ap (λ j. course (start 0) 0 (take j text ++ h.more)) (sym (sub-zero (p + 1))) ∙ stops_so text h.more (start 0) 0 p e (omega arith));
  no_text = λ t. apart p (sym (text_whole text t) ∙ e);
}

-- the two ways out with a fault
pub check_stops : (text : List ℕ) (f : SyntaxFault) → PhraseStops text 0 f.place → StopsAt text f.place
check_stops text f s =
    let p = f.place in
    let long = end_is text s.front 0 p (omega arith) s.within s.read in
    let cut : take p text ≡ s.front = ap (take p) s.read ∙ take_at s.front (drop p text) p (omega arith) in
    stops_from text p s.within (record { more = s.more; whole = record { phrase = s.phrase; sound = s.sound; written = s.would ∙ ap (λ l. l ++ s.more) (sym cut) } }) (s.goes 0)

pub check_trails : (text : List ℕ) (e : ℕ) → PhraseTo text 0 e → e < length text → StopsAt text e
check_trails text e s l =
    let long = end_is text (bytes s.phrase) 0 e (omega arith) s.within s.read in
    let cut : take e text ≡ bytes s.phrase = ap (take e) s.read ∙ take_at (bytes s.phrase) (drop e text) e (omega arith) in
    stops_from text e s.within (record { more = []; whole = record { phrase = s.phrase; sound = s.sound; written = sym (append-nil (take e text) ∙ cut) } }) (s.goes 0 ∙ ap (λ l. course (after 0) e l) (drop_more text e 0 l))
