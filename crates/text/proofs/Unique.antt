-- Two phrases that are written alike are one, and so are two tokens.
use Rattle.std.proofs.Common.{◌≡◌, ℕ, zero, suc, ◌+◌, ◌/◌, ◌%◌, ◌<◌, ◌≤◌, true, false, cond, ltb, List, [], ◌∷◌, ◌++◌, length, sym, refl, ap, ◌∙◌, subst, ⊎_elim, append_assoc, append-nil, arith, le-ltb, lt-ltb}
use borrow.Author.Tests.{both_ways}
use Rattle.std.proofs.lemmas.Bool.{and_parts, and_from, cases_lt}
use Rattle.std.proofs.lemmas.Bool.Decides.{nat_tests}
use Rattle.text.specs.Phrases.{decimal, Phrase, Phrases, variable, word, none, more, bytes, bracketed, following, Sound, AllSound}
use Rattle.text.specs.Tokens.{small, in_word, digit, wordy, IsWord, Stop, Ended, Part, name, opening, closing, parting, label, spell, Fair}
use Rattle.text.proofs.Spelling.{spelling_word}
use Rattle.text.proofs.Going.{digit_is}
use Rattle.text.proofs.Reading.{short}
use Rattle.text.proofs.Grammatical.{ended, ended_bracketed, ended_following, parts_digit}

pub heads : (a b : ℕ) (x y : List ℕ) → a ∷ x ≡ b ∷ y → a ≡ b
heads a b x y e = cc

pub tails : (a b : ℕ) (x y : List ℕ) → a ∷ x ≡ b ∷ y → x ≡ y
tails a b x y e = cc

small_word : (b : ℕ) → small b ≡ true → in_word b ≡ true
small_word b h = grind (arith, nat_tests)

pub word_wordy : (w : List ℕ) → IsWord w → wordy w ≡ true
word_wordy [] h = absurd h
word_wordy (b ∷ bs) h = and_from (in_word b) (wordy bs) (small_word b h.0) h.1

-- two words of at most n characters, each as long as it can be
split_word : (n : ℕ) (w v k l : List ℕ) → wordy w ≡ true → wordy v ≡ true → length w ≤ n → length v ≤ n → (length w < n → Stop in_word k) → (length v < n → Stop in_word l) → w ++ k ≡ v ++ l → (w ≡ v) × (k ≡ l)
split_word n [] [] k l p q a b s t e = (refl, e)
split_word n [] (c ∷ v) k l p q a b s t e = absurd (both_ways (in_word c) (subst (Stop in_word) e (s (omega arith))) (and_parts (in_word c) (wordy v) q).0)
split_word n (c ∷ w) [] k l p q a b s t e = absurd (both_ways (in_word c) (subst (Stop in_word) (sym e) (t (omega arith))) (and_parts (in_word c) (wordy w) p).0)
split_word zero (c ∷ w) (d ∷ v) k l p q a b s t e = absurd (omega arith)
split_word (suc n) (c ∷ w) (d ∷ v) k l p q a b s t e =
    let h = heads c d (w ++ k) (v ++ l) e in
    let r = split_word n w v k l (and_parts (in_word c) (wordy w) p).1 (and_parts (in_word d) (wordy v) q).1 (omega arith) (omega arith) (λ m. s (omega arith)) (λ m. t (omega arith)) (tails c d (w ++ k) (v ++ l) e) in
    ((λ i. h i ∷ r.0 i), r.1)

one : (n : ℕ) (k : List ℕ) → n < 10 → decimal n ++ k ≡ (48 + n) ∷ k
one n k h = let t : ltb n 10 ≡ true = lt-ltb n 10 h in rw t refl

two : (n : ℕ) (k : List ℕ) → 10 ≤ n → decimal n ++ k ≡ (48 + n / 10) ∷ ((48 + n % 10) ∷ k)
two n k h = let t : ltb n 10 ≡ false = le-ltb n 10 h in rw t refl

-- one digit against two
unlike : (u v : ℕ) (k l : List ℕ) → u < 10 → 10 ≤ v → v < 100 → (0 < u → u < 10 → Stop digit k) → decimal u ++ k ≡ decimal v ++ l → ⊥
unlike u v k l a b q s e =
    let h : (48 + u) ∷ k ≡ (48 + v / 10) ∷ ((48 + v % 10) ∷ l) = sym (one u k a) ∙ e ∙ two v l b in
    let x = heads (48 + u) (48 + v / 10) k ((48 + v % 10) ∷ l) h in
    let r = subst (Stop digit) (tails (48 + u) (48 + v / 10) k ((48 + v % 10) ∷ l) h) (s (omega arith) a) in
    both_ways (digit (48 + v % 10)) r (digit_is (v % 10) (omega arith))

split_decimal : (u v : ℕ) (k l : List ℕ) → u < 100 → v < 100 → (0 < u → u < 10 → Stop digit k) → (0 < v → v < 10 → Stop digit l) → decimal u ++ k ≡ decimal v ++ l → (u ≡ v) × (k ≡ l)
split_decimal u v k l p q s t e =
    ⊎_elim
    (λ a. ⊎_elim
    (λ b.
    let h : (48 + u) ∷ k ≡ (48 + v) ∷ l = sym (one u k a) ∙ e ∙ one v l b in
    let x = heads (48 + u) (48 + v) k l h in
    (omega arith, tails (48 + u) (48 + v) k l h))
    (λ b. absurd (unlike u v k l a b q s e))
    (cases_lt v 10))
    (λ a. ⊎_elim
    (λ b. absurd (unlike v u l k b a p t (sym e)))
    (λ b.
    let h : (48 + u / 10) ∷ ((48 + u % 10) ∷ k) ≡ (48 + v / 10) ∷ ((48 + v % 10) ∷ l) = sym (two u k a) ∙ e ∙ two v l b in
    let x = heads (48 + u / 10) (48 + v / 10) ((48 + u % 10) ∷ k) ((48 + v % 10) ∷ l) h in
    let r = tails (48 + u / 10) (48 + v / 10) ((48 + u % 10) ∷ k) ((48 + v % 10) ∷ l) h in
    let y = heads (48 + u % 10) (48 + v % 10) k l r in
    (omega arith, tails (48 + u % 10) (48 + v % 10) k l r))
    (cases_lt v 10))
    (cases_lt u 10)

not_mark : (w x l : List ℕ) → IsWord w → 63 ∷ x ≡ w ++ l → ⊥
not_mark [] x l h e = h
not_mark (b ∷ bs) x l h e =
    let m = heads 63 b x (bs ++ l) e in
    both_ways (small b) (ap small (sym m)) h.0

no_open : (x k : List ℕ) → Ended k → k ≡ 40 ∷ x → ⊥
no_open x k h e = both_ways true (sym (subst Ended e h)) refl

-- the bytes of an argument and of those that follow it
more_shape : (t u : Phrase) (ts us : Phrases) (k l : List ℕ) → (bytes t ++ following ts) ++ k ≡ (bytes u ++ following us) ++ l → bytes t ++ (following ts ++ k) ≡ bytes u ++ (following us ++ l)
more_shape t u ts us k l e = sym (append_assoc (bytes t) (following ts) k) ∙ e ∙ append_assoc (bytes u) (following us) l

same_more : (t u : Phrase) (ts us : Phrases) (k l : List ℕ) → (t ≡ u) × (following ts ++ k ≡ following us ++ l) → (following ts ++ k ≡ following us ++ l → (ts ≡ us) × (k ≡ l)) → (more t ts ≡ more u us) × (k ≡ l)
same_more t u ts us k l h f = let g = f h.1 in ((λ i. more (h.0 i) (g.0 i)), g.1)

mutual
  pub same_phrase : (t u : Phrase) (k l : List ℕ) → Sound t → Sound u → Ended k → Ended l → bytes t ++ k ≡ bytes u ++ l → (t ≡ u) × (k ≡ l)
  same_phrase (variable m) (variable n) k l s r p q e =
      let h = split_decimal m n k l s r (λ _ _. ended digit parts_digit k p) (λ _ _. ended digit parts_digit l q) (tails 63 63 (decimal m ++ k) (decimal n ++ l) e) in
      (ap variable h.0, h.1)
  same_phrase (variable m) (word w us) k l s r p q e =
      absurd (not_mark w (decimal m ++ k) (bracketed us ++ l) (spelling_word w r.0) (e ∙ append_assoc w (bracketed us) l))
  same_phrase (word w ts) (variable n) k l s r p q e =
      absurd (not_mark w (decimal n ++ l) (bracketed ts ++ k) (spelling_word w s.0) (sym e ∙ append_assoc w (bracketed ts) k))
  same_phrase (word w ts) (word v us) k l s r p q e =
      let a = word_wordy w (spelling_word w s.0) in
      let b = word_wordy v (spelling_word v r.0) in
      let shape = sym (append_assoc w (bracketed ts) k) ∙ e ∙ append_assoc v (bracketed us) l in
      let h = split_word 16 w v (bracketed ts ++ k) (bracketed us ++ l) a b s.0.short r.0.short (λ _. ended_bracketed ts k p) (λ _. ended_bracketed us l q) shape in
      let g = same_bracketed ts us k l s.1 r.1 p q h.1 in
      ((λ i. word (h.0 i) (g.0 i)), g.1)

  same_bracketed : (ts us : Phrases) (k l : List ℕ) → AllSound ts → AllSound us → Ended k → Ended l → bracketed ts ++ k ≡ bracketed us ++ l → (ts ≡ us) × (k ≡ l)
  same_bracketed none none k l s r p q e = (refl, e)
  same_bracketed none (more u us) k l s r p q e = absurd (no_open ((bytes u ++ following us) ++ l) k p e)
  same_bracketed (more t ts) none k l s r p q e = absurd (no_open ((bytes t ++ following ts) ++ k) l q (sym e))
  same_bracketed (more t ts) (more u us) k l s r p q e =
      same_more t u ts us k l
      (same_phrase t u (following ts ++ k) (following us ++ l) s.0 r.0 (ended_following ts k) (ended_following us l) (more_shape t u ts us k l (tails 40 40 ((bytes t ++ following ts) ++ k) ((bytes u ++ following us) ++ l) e)))
      (same_following ts us k l s.1 r.1)

  same_following : (ts us : Phrases) (k l : List ℕ) → AllSound ts → AllSound us → following ts ++ k ≡ following us ++ l → (ts ≡ us) × (k ≡ l)
  same_following none none k l s r e = (refl, tails 41 41 k l e)
  same_following none (more u us) k l s r e = absurd (omega (arith, heads 41 44 k ((bytes u ++ following us) ++ l) e))
  same_following (more t ts) none k l s r e = absurd (omega (arith, heads 44 41 ((bytes t ++ following ts) ++ k) l e))
  same_following (more t ts) (more u us) k l s r e =
      same_more t u ts us k l
      (same_phrase t u (following ts ++ k) (following us ++ l) s.0 r.0 (ended_following ts k) (ended_following us l) (more_shape t u ts us k l (tails 44 44 ((bytes t ++ following ts) ++ k) ((bytes u ++ following us) ++ l) e)))
      (same_following ts us k l s.1 r.1)

-- one phrase alone is written so
pub one_phrase : (text : List ℕ) (t u : Phrase) → Sound t → Sound u → bytes t ≡ text → bytes u ≡ text → t ≡ u
one_phrase text t u s r p q =
    (same_phrase t u [] [] s r tt tt (append-nil (bytes t) ∙ p ∙ sym q ∙ sym (append-nil (bytes u)))).0

-- what a token begins with tells its kind
abbrev pub tag : Part → ℕ
tag (name s) = 0
tag opening = 40
tag closing = 41
tag parting = 44
tag (label n) = 63

abbrev pub kind : List ℕ → ℕ
kind [] = 1
kind (b ∷ bs) = cond (small b) 0 b

kind_word : (s k : List ℕ) → IsWord s → kind (s ++ k) ≡ 0
kind_word [] k h = absurd h
kind_word (b ∷ bs) k h = rw h.0 refl

pub kind_is : (a : Part) (k : List ℕ) → Fair a k → kind (spell a ++ k) ≡ tag a
kind_is (name s) k f = kind_word s k f.0
kind_is opening k f = refl
kind_is closing k f = refl
kind_is parting k f = refl
kind_is (label n) k f = refl

-- two words of greatest length
same_name : (s v k l : List ℕ) → Fair (name s) k → Fair (name v) l → s ++ k ≡ v ++ l → (s ≡ v) × (k ≡ l)
same_name s v k l f g e = split_word 16 s v k l (word_wordy s f.0) (word_wordy v g.0) (short s f.0) (short v g.0) f.1 g.1 e

-- one token alone stands at the front
pub same_part : (a b : Part) (k l : List ℕ) → Fair a k → Fair b l → spell a ++ k ≡ spell b ++ l → (a ≡ b) × (k ≡ l)
same_part (name s) (name v) k l f g e = let h = same_name s v k l f g e in (ap name h.0, h.1)
same_part opening opening k l f g e = (refl, tails 40 40 k l e)
same_part closing closing k l f g e = (refl, tails 41 41 k l e)
same_part parting parting k l f g e = (refl, tails 44 44 k l e)
same_part (label m) (label n) k l f g e =
    let h = split_decimal m n k l f.0 g.0 f.1 g.1 (tails 63 63 (decimal m ++ k) (decimal n ++ l) e) in
    (ap label h.0, h.1)
same_part (name s) opening k l f g e = absurd (omega (arith, sym (kind_is (name s) k f) ∙ ap kind e ∙ kind_is opening l g))
same_part (name s) closing k l f g e = absurd (omega (arith, sym (kind_is (name s) k f) ∙ ap kind e ∙ kind_is closing l g))
same_part (name s) parting k l f g e = absurd (omega (arith, sym (kind_is (name s) k f) ∙ ap kind e ∙ kind_is parting l g))
same_part (name s) (label n) k l f g e = absurd (omega (arith, sym (kind_is (name s) k f) ∙ ap kind e ∙ kind_is (label n) l g))
same_part opening (name v) k l f g e = absurd (omega (arith, sym (kind_is opening k f) ∙ ap kind e ∙ kind_is (name v) l g))
same_part opening closing k l f g e = absurd (omega (arith, sym (kind_is opening k f) ∙ ap kind e ∙ kind_is closing l g))
same_part opening parting k l f g e = absurd (omega (arith, sym (kind_is opening k f) ∙ ap kind e ∙ kind_is parting l g))
same_part opening (label n) k l f g e = absurd (omega (arith, sym (kind_is opening k f) ∙ ap kind e ∙ kind_is (label n) l g))
same_part closing (name v) k l f g e = absurd (omega (arith, sym (kind_is closing k f) ∙ ap kind e ∙ kind_is (name v) l g))
same_part closing opening k l f g e = absurd (omega (arith, sym (kind_is closing k f) ∙ ap kind e ∙ kind_is opening l g))
same_part closing parting k l f g e = absurd (omega (arith, sym (kind_is closing k f) ∙ ap kind e ∙ kind_is parting l g))
same_part closing (label n) k l f g e = absurd (omega (arith, sym (kind_is closing k f) ∙ ap kind e ∙ kind_is (label n) l g))
same_part parting (name v) k l f g e = absurd (omega (arith, sym (kind_is parting k f) ∙ ap kind e ∙ kind_is (name v) l g))
same_part parting opening k l f g e = absurd (omega (arith, sym (kind_is parting k f) ∙ ap kind e ∙ kind_is opening l g))
same_part parting closing k l f g e = absurd (omega (arith, sym (kind_is parting k f) ∙ ap kind e ∙ kind_is closing l g))
same_part parting (label n) k l f g e = absurd (omega (arith, sym (kind_is parting k f) ∙ ap kind e ∙ kind_is (label n) l g))
same_part (label m) (name v) k l f g e = absurd (omega (arith, sym (kind_is (label m) k f) ∙ ap kind e ∙ kind_is (name v) l g))
same_part (label m) opening k l f g e = absurd (omega (arith, sym (kind_is (label m) k f) ∙ ap kind e ∙ kind_is opening l g))
same_part (label m) closing k l f g e = absurd (omega (arith, sym (kind_is (label m) k f) ∙ ap kind e ∙ kind_is closing l g))
same_part (label m) parting k l f g e = absurd (omega (arith, sym (kind_is (label m) k f) ∙ ap kind e ∙ kind_is parting l g))
