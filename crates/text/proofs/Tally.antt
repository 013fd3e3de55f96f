-- The arguments of a word, counted by passing over their bytes.
use Rattle.std.proofs.Common.{◌≡◌, ℕ, zero, suc, ◌+◌, ◌-◌, ◌/◌, ◌%◌, ◌<◌, Bool, true, false, cond, ◌&&◌, eqb, ltb, List, [], ◌∷◌, ◌++◌, length, get_or, take, drop, sym, refl, ap, ◌∙◌, subst, ⊎_elim, append_assoc, arith}
use Rattle.std.proofs.lemmas.List.{at_drop_more}
use Rattle.std.proofs.lemmas.Bool.{and_parts, and_from, both_ways, cases_lt, lt-ltb, le-ltb, ne_eqb}
use Rattle.text.proofs.Going.{opens, digit_is}
use Rattle.std.proofs.lemmas.Bool.Decides.{nat_tests}
use Rattle.text.specs.Phrases.{decimal, Phrase, Phrases, variable, word, none, more, count, bytes, bracketed, following, Sound, AllSound}
use Rattle.text.specs.Tokens.{in_word, digit, wordy, Stop, parts, Ended}
use Rattle.text.proofs.Spelling.{one_on, spelling_word, to_end}
use Rattle.text.proofs.Unique.{heads, tails, word_wordy}

-- With d brackets open inside the list of arguments, and c arguments begun: how many there are.
abbrev pub tally : ℕ → ℕ → List ℕ → ℕ
tally d c [] = c
tally d c (b ∷ bs) = cond (eqb b 40) (tally (suc d) c bs) (cond (eqb b 41) (elim d [ zero ↦ c | suc e ↦ tally e c bs ]) (cond (eqb b 44) (elim d [ zero ↦ tally zero (c + 1) bs | suc e ↦ tally (suc e) c bs ]) (tally d c bs)))

-- neither a bracket nor a comma
abbrev pub other : ℕ → Bool
other b = cond (eqb b 40) false (cond (eqb b 41) false (cond (eqb b 44) false true))

pub tally_other : (b d c : ℕ) (k : List ℕ) → other b ≡ true → tally d c (b ∷ k) ≡ tally d c k
tally_other b d c k h =
    let x : eqb b 40 ≡ false = grind (arith, nat_tests) in
    let y : eqb b 41 ≡ false = grind (arith, nat_tests) in
    let z : eqb b 44 ≡ false = grind (arith, nat_tests) in
    rw (x, y, z) refl

word_other : (b : ℕ) → in_word b ≡ true → other b ≡ true
word_other b h = grind (arith, nat_tests)

tally_wordy : (s k : List ℕ) (d c : ℕ) → wordy s ≡ true → tally d c (s ++ k) ≡ tally d c k
tally_wordy [] k d c w = refl
tally_wordy (b ∷ s) k d c w =
    let h = and_parts (in_word b) (wordy s) w in
    tally_other b d c (s ++ k) (word_other b h.0) ∙ tally_wordy s k d c h.1

digit_word : (b : ℕ) → digit b ≡ true → in_word b ≡ true
digit_word b h = grind (arith, nat_tests)

pub decimal_wordy : (n : ℕ) → n < 100 → wordy (decimal n) ≡ true
decimal_wordy n h =
    ⊎_elim
    (λ one.
    let t : ltb n 10 ≡ true = lt-ltb n 10 one in
    rw t (and_from (in_word (48 + n)) true (digit_word (48 + n) (digit_is n one)) refl))
    (λ two.
    let t : ltb n 10 ≡ false = le-ltb n 10 two in
    rw t (and_from (in_word (48 + n / 10)) (in_word (48 + n % 10) && true) (digit_word (48 + n / 10) (digit_is (n / 10) (omega arith))) (and_from (in_word (48 + n % 10)) true (digit_word (48 + n % 10) (digit_is (n % 10) (omega arith))) refl)))
    (cases_lt n 10)

mutual
  pub tally_phrase : (p : Phrase) (k : List ℕ) (d c : ℕ) → Sound p → tally d c (bytes p ++ k) ≡ tally d c k
  tally_phrase (variable n) k d c s = tally_other 63 d c (decimal n ++ k) refl ∙ tally_wordy (decimal n) k d c (decimal_wordy n s)
  tally_phrase (word w ps) k d c s =
      ap (tally d c) (append_assoc w (bracketed ps) k) ∙ tally_wordy w (bracketed ps ++ k) d c (word_wordy w (spelling_word w s.0)) ∙ tally_bracketed ps k d c s.1

  tally_bracketed : (ps : Phrases) (k : List ℕ) (d c : ℕ) → AllSound ps → tally d c (bracketed ps ++ k) ≡ tally d c k
  tally_bracketed none k d c s = refl
  tally_bracketed (more p ps) k d c s = ap (tally (suc d) c) (append_assoc (bytes p) (following ps) k) ∙ tally_phrase p (following ps ++ k) (suc d) c s.0 ∙ tally_inner ps k d c s.1

  -- what follows an argument of a word further in
  tally_inner : (ps : Phrases) (k : List ℕ) (d c : ℕ) → AllSound ps → tally (suc d) c (following ps ++ k) ≡ tally d c k
  tally_inner none k d c s = refl
  tally_inner (more p ps) k d c s = ap (tally (suc d) c) (append_assoc (bytes p) (following ps) k) ∙ tally_phrase p (following ps ++ k) (suc d) c s.0 ∙ tally_inner ps k d c s.1

-- what follows an argument of the word itself
tally_following : (ps : Phrases) (k : List ℕ) (c : ℕ) → AllSound ps → tally 0 c (following ps ++ k) ≡ c + count ps
tally_following none k c s = omega arith
tally_following (more p ps) k c s =
    ap (tally 0 (c + 1)) (append_assoc (bytes p) (following ps) k) ∙ tally_phrase p (following ps ++ k) 0 (c + 1) s.0 ∙ tally_following ps k (c + 1) s.1 ∙ omega arith

pub tally_arguments : (p : Phrase) (ps : Phrases) (k : List ℕ) → Sound p → AllSound ps → tally 0 1 ((bytes p ++ following ps) ++ k) ≡ count (more p ps)
tally_arguments p ps k s r =
    ap (tally 0 1) (append_assoc (bytes p) (following ps) k) ∙ tally_phrase p (following ps ++ k) 0 1 s ∙ tally_following ps k 1 r ∙ omega arith

-- At the `)` that closes the list of arguments, all are counted.
pub closes : (text : List ℕ) (i d c : ℕ) → i < length text → get_or text i 0 ≡ 41 → d ≡ 0 → tally d c (drop i text) ≡ c
closes text i d c lt e z = at_drop_more (tally d c) text i 0 lt ∙ (λ k. tally (z k) c (e k ∷ drop (i + 1) text))

pub unopened : (b : ℕ) → (b ≡ 40 → ⊥) → opens b ≡ false
unopened b h = ne_eqb b 40 h

-- Nothing is given to a word that no `(` follows.
pub none_given : (ps : Phrases) (behind left : List ℕ) → Stop opens left → left ≡ bracketed ps ++ behind → 0 ≡ count ps
none_given none behind left s e = refl
none_given (more p ps) behind left s e = absurd (both_ways true (subst (Stop opens) e s) refl)

no_bracket : (x behind : List ℕ) → Ended behind → 40 ∷ x ≡ behind → ⊥
no_bracket x [] h e = cc
no_bracket x (b ∷ behind) h e = both_ways false refl (ap parts (heads 40 b x behind e) ∙ h)

-- With a `(` behind the word, what is counted is what is given.
some_given : (ps : Phrases) (behind rest : List ℕ) → AllSound ps → Ended behind → 40 ∷ rest ≡ bracketed ps ++ behind → tally 0 1 rest ≡ count ps
some_given none behind rest s h e = absurd (no_bracket rest behind h e)
some_given (more p ps) behind rest s h e =
    ap (tally 0 1) (tails 40 40 rest ((bytes p ++ following ps) ++ behind) e) ∙ tally_arguments p ps behind s.0 s.1

-- So it is of bytes that begin with a `(`, from behind it on.
pub given_inside : (ps : Phrases) (behind bytes : List ℕ) → AllSound ps → Ended behind → 0 < length bytes → get_or bytes 0 0 ≡ 40 → bytes ≡ bracketed ps ++ behind → tally 0 1 (take (length bytes - 1) (drop 1 bytes)) ≡ count ps
given_inside ps behind bytes s h some first e =
    ap (tally 0 1) (to_end bytes 1) ∙ some_given ps behind (drop 1 bytes) s h (sym (one_on bytes 0 40 some first) ∙ e)
