-- How a walk over the tokens of a phrase meets its words and variables.
use Rattle.std.proofs.Common.{◌≡◌, ℕ, suc, ◌+◌, ◌/◌, ◌<◌, ◌≤◌, true, false, ltb, ◌⊎◌, List, [], ◌∷◌, ◌++◌, length, drop, sym, refl, ap, ◌∙◌, subst, inl, inr, ⊎_elim, append_assoc, append-nil, arith, length-append, length-drop, Bor, le-ltb, lt-ltb}
use borrow.Author.Tests.{both_ways}
use Rattle.std.proofs.lemmas.Bool.{cases_lt}
use Rattle.std.proofs.lemmas.Bool.Decides.{nat_tests}
use Rattle.text.specs.declared.token.Token.{Token}
use Rattle.text.specs.declared.token.Token.TheVariants.{Word, Open, Close, Comma, Variable}
use Rattle.text.specs.declared.token.SyntaxFault.{SyntaxFault}
use Rattle.text.specs.Phrases.{decimal, Phrase, Phrases, variable, word, none, more, count, bytes, bracketed, following, Sound, AllSound}
use Rattle.text.specs.Occurrences.{Occurrence, words}
use Rattle.text.specs.Tokens.{digit, IsWord, Stop, Ended, begins, Part, name, opening, closing, parting, label, part, spell, Fair, Lexed, NoToken}
use Rattle.text.specs.Remains.{Left, whole, arguments, left_bytes, LeftSound, open_bytes, OpenSound}
use Rattle.text.specs.Listings.{listed, listed_among, left_listed, open_listed, Remain, unlisted, occurs}
use Rattle.text.proofs.Listing.{words_listed}
use Rattle.text.proofs.Spelling.{spelling_word}
use Rattle.text.proofs.Going.{digit_is}
use Rattle.text.proofs.Reading.{end_is}
use Rattle.text.proofs.Grammatical.{ended, ended_bracketed, ended_following, parts_digit}
use Rattle.text.proofs.Unique.{tails, kind, kind_is, same_part}

ended_open : (os : List Phrases) → Ended (open_bytes os)
ended_open [] = tt
ended_open (ps ∷ os) = ended_following ps (open_bytes os)

-- where a token stands, something is left
some_left : (text : List ℕ) (at e : ℕ) → at < e → e ≤ length text → drop at text ≡ [] → ⊥
some_left text at e p w h = let a = length-drop at text in let b : length (drop at text) ≡ 0 = ap length h in omega arith

begins_word : (s rest : List ℕ) → IsWord s → Stop begins (s ++ rest) → ⊥
begins_word [] rest h b = h
begins_word (c ∷ s) rest h b = let small' = h.0 in both_ways (begins c) b (grind (arith, nat_tests))

begins_part : (q : Part) (rest : List ℕ) → Fair q rest → Stop begins (spell q ++ rest) → ⊥
begins_part (name s) rest f b = begins_word s rest f.0 b
begins_part opening rest f b = both_ways true b refl
begins_part closing rest f b = both_ways true b refl
begins_part parting rest f b = both_ways true b refl
begins_part (label n) rest f b = both_ways true b refl

decimal_digit : (n : ℕ) (k : List ℕ) → n < 100 → Stop digit (decimal n ++ k) → ⊥
decimal_digit n k h s =
    ⊎_elim
    (λ one.
    let t : ltb n 10 ≡ true = lt-ltb n 10 one in
    both_ways (digit (48 + n)) (rw t at s) (digit_is n one))
    (λ two.
    let t : ltb n 10 ≡ false = le-ltb n 10 two in
    both_ways (digit (48 + n / 10)) (rw t at s) (digit_is (n / 10) (omega arith)))
    (cases_lt n 10)

mark_part : (q : Part) (x rest : List ℕ) → Fair q rest → 63 ∷ x ≡ spell q ++ rest → Stop digit x → ⊥
mark_part (name s) x rest f e d = absurd (omega (arith, ap kind e ∙ kind_is (name s) rest f))
mark_part opening x rest f e d = absurd (omega (arith, ap kind e ∙ kind_is opening rest f))
mark_part closing x rest f e d = absurd (omega (arith, ap kind e ∙ kind_is closing rest f))
mark_part parting x rest f e d = absurd (omega (arith, ap kind e ∙ kind_is parting rest f))
mark_part (label n) x rest f e d = decimal_digit n rest f.0 (subst (Stop digit) (tails 63 63 x (decimal n ++ rest) e) d)

module _ (X : Type 0) (on_label : ℕ → ℕ → List X) (on_name : ℕ → List ℕ → ℕ → X) where
  -- a whole phrase is left at the start
  pub remain_whole : (text : List ℕ) (p : Phrase) → Sound p → bytes p ≡ text → Remain X on_label on_name text 0 (listed X on_label on_name 0 p)
  remain_whole text p s e = record {
    first = whole p;
    opened = [];
    sound = (s, tt);
    read = sym e ∙ sym (append-nil (bytes p));
    has = sym (append-nil (listed X on_label on_name 0 p));
  }

  -- a word at the front, with what follows it
  pub record Named (s rest : List ℕ) (i : ℕ) (xs : List X) : Type 0 where
    pub others : List X
    pub given : Phrases
    pub behind : List ℕ
    pub has : xs ≡ on_name i s (count given) ∷ others
    pub left : Remain X on_label on_name rest (i + length s) others
    pub sound : AllSound given
    pub read : rest ≡ bracketed given ++ behind
    pub ended : Ended behind

  -- a variable at the front
  pub record Labelled (n : ℕ) (rest : List ℕ) (i : ℕ) (xs : List X) : Type 0 where
    pub others : List X
    pub has : xs ≡ on_label i n ++ others
    pub left : Remain X on_label on_name rest (i + length (spell (label n))) others

  abbrev pub Then : Part → List ℕ → ℕ → List X → Type 0
  Then (name s) rest i xs = Named s rest i xs
  Then opening rest i xs = Remain X on_label on_name rest (i + 1) xs
  Then closing rest i xs = Remain X on_label on_name rest (i + 1) xs
  Then parting rest i xs = Remain X on_label on_name rest (i + 1) xs
  Then (label n) rest i xs = Labelled n rest i xs

  -- the token that comes next, and what is left behind it
  record Ahead (left : List ℕ) (i : ℕ) (xs : List X) : Type 0 where
    token : Part
    rest : List ℕ
    fair : Fair token rest
    read : left ≡ spell token ++ rest
    then : Then token rest i xs

  -- nothing is left but what the open brackets wait for
  waiting : (i j : ℕ) (os : List Phrases) (xs : List X) → OpenSound os → i ≡ j → xs ≡ open_listed X on_label on_name i os → Remain X on_label on_name (open_bytes os) j xs
  waiting i j os xs s e h = record {
    first = arguments none;
    opened = os;
    sound = (tt, s);
    read = refl;
    has = h ∙ ap (λ k. open_listed X on_label on_name k os) (let z : i ≡ j + 0 = omega arith in z);
  }

  -- an argument, and those that follow it
  argument : (i : ℕ) (p : Phrase) (ps : Phrases) (os : List Phrases) (xs : List X) → Sound p → AllSound ps → OpenSound os →
      xs ≡ (listed X on_label on_name (i + 1) p ++ listed_among X on_label on_name (i + 1 + length (bytes p)) ps) ++ open_listed X on_label on_name (i + suc (length (bytes p ++ following ps))) os →
      Remain X on_label on_name (bytes p ++ (following ps ++ open_bytes os)) (i + 1) xs
  argument i p ps os xs s r o h =
      let long = length-append (bytes p) (following ps) in
      let here = listed X on_label on_name (i + 1) p in
      let next = listed_among X on_label on_name (i + 1 + length (bytes p)) ps in
      let j : i + suc (length (bytes p ++ following ps)) ≡ i + 1 + length (bytes p) + length (following ps) = omega arith in
      record {
        first = whole p;
        opened = ps ∷ os;
        sound = (s, (r, o));
        read = refl;
        has = h ∙ ap (λ k. (here ++ next) ++ open_listed X on_label on_name k os) j ∙ append_assoc here next (open_listed X on_label on_name (i + 1 + length (bytes p) + length (following ps)) os);
      }

  ahead : (first : Left) (os : List Phrases) (left : List ℕ) (i : ℕ) (xs : List X) → LeftSound first → OpenSound os →
      left ≡ left_bytes first ++ open_bytes os → xs ≡ left_listed X on_label on_name i first ++ open_listed X on_label on_name (i + length (left_bytes first)) os →
      ((left ≡ []) × (xs ≡ [])) ⊎ Ahead left i xs
  ahead (whole (variable n)) os left i xs s o e h =
      let j = i + length (63 ∷ decimal n) in
      inr (record {
        token = label n;
        rest = open_bytes os;
        fair = (s, λ _ _. ended digit parts_digit (open_bytes os) (ended_open os));
        read = e;
        then = record { others = open_listed X on_label on_name j os; has = h; left = waiting j j os (open_listed X on_label on_name j os) o refl refl };
      })
  ahead (whole (word w ps)) os left i xs s o e h =
      let long = length-append w (bracketed ps) in
      let j : i + length (w ++ bracketed ps) ≡ i + length w + length (bracketed ps) = omega arith in
      inr (record {
        token = name w;
        rest = bracketed ps ++ open_bytes os;
        fair = (spelling_word w s.0, λ _. ended_bracketed ps (open_bytes os) (ended_open os));
        read = e ∙ append_assoc w (bracketed ps) (open_bytes os);
        then = record {
          others = listed_among X on_label on_name (i + length w) ps ++ open_listed X on_label on_name (i + length (w ++ bracketed ps)) os;
          given = ps;
          behind = open_bytes os;
          has = h;
          left = record { first = arguments ps; opened = os; sound = (s.1, o); read = refl; has = ap (λ k. listed_among X on_label on_name (i + length w) ps ++ open_listed X on_label on_name k os) j };
          sound = s.1;
          read = refl;
          ended = ended_open os;
        };
      })
  ahead (arguments (more p ps)) os left i xs s o e h = inr (record {
    token = opening;
    rest = bytes p ++ (following ps ++ open_bytes os);
    fair = tt;
    read = e ∙ ap (λ l. 40 ∷ l) (append_assoc (bytes p) (following ps) (open_bytes os));
    then = argument i p ps os xs s.0 s.1 o h;
  })
  ahead (arguments none) [] left i xs s o e h = inl (e, h)
  ahead (arguments none) (none ∷ os) left i xs s o e h = inr (record {
    token = closing;
    rest = open_bytes os;
    fair = tt;
    read = e;
    then = waiting (i + 0 + 1) (i + 1) os xs o.1 (omega arith) h;
  })
  ahead (arguments none) (more p ps ∷ os) left i xs s o e h =
      let j : i + 0 ≡ i = omega arith in
      inr (record {
        token = parting;
        rest = bytes p ++ (following ps ++ open_bytes os);
        fair = tt;
        read = e ∙ ap (λ l. 44 ∷ l) (append_assoc (bytes p) (following ps) (open_bytes os));
        then = argument i p ps os xs o.0.0 o.0.1 o.1 (h ∙ ap (λ k. (listed X on_label on_name (k + 1) p ++ listed_among X on_label on_name (k + 1 + length (bytes p)) ps) ++ open_listed X on_label on_name (k + suc (length (bytes p ++ following ps))) os) j);
      })

  looks : (left : List ℕ) (i : ℕ) (xs : List X) → Remain X on_label on_name left i xs → ((left ≡ []) × (xs ≡ [])) ⊎ Ahead left i xs
  looks left i xs r = ahead r.first r.opened left i xs r.sound.0 r.sound.1 r.read r.has

  -- a token that stands at the place is the one that comes next
  pub comes : (text : List ℕ) (at : ℕ) (p : Token × ℕ) (xs : List X) → Lexed text at p → Remain X on_label on_name (drop at text) at xs → Then (part p.0) (drop p.1 text) at xs
  comes text at p xs l r =
      ⊎_elim
      (λ h. absurd (some_left text at p.1 l.past l.within h.0))
      (λ a.
      let same = same_part (part p.0) a.token (drop p.1 text) a.rest l.fair a.fair (sym l.read ∙ a.read) in
      subst (λ (q : Part). Then q (drop p.1 text) at xs) (sym same.0) (subst (λ (b : List ℕ). Then a.token b at xs) (sym same.1) a.then))
      (looks (drop at text) at xs r)

  -- where no token stands, nothing is left
  pub none_left : (text : List ℕ) (at : ℕ) (f : SyntaxFault) (xs : List X) → NoToken text at f → Remain X on_label on_name (drop at text) at xs → xs ≡ []
  none_left text at f xs l r =
      ⊎_elim
      (λ h. h.1)
      (λ a.
      absurd (⊎_elim
      (λ h. begins_part a.token a.rest a.fair (subst (Stop begins) a.read h.1))
      (λ h. mark_part a.token (drop (at + 1) text) a.rest a.fair (sym h.1 ∙ a.read) h.2)
      l.why))
      (looks (drop at text) at xs r)

  -- what is left behind a token, by the place where it ends
  pub remain_from : (text : List ℕ) (at : ℕ) (p : Token × ℕ) (q : Part) (xs : List X) → Lexed text at p → part p.0 ≡ q → Remain X on_label on_name (drop p.1 text) (at + length (spell q)) xs → Remain X on_label on_name (drop p.1 text) p.1 xs
  remain_from text at p q xs l e r =
      let end = end_is text (spell (part p.0)) at p.1 (omega (arith, l.past)) l.within l.read ∙ ap (λ t. at + length (spell t)) e in
      subst (λ (j : ℕ). Remain X on_label on_name (drop p.1 text) j xs) (sym end) r

  -- past a bracket or a comma, the same is left
  pub passes : (text : List ℕ) (at : ℕ) (p : Token × ℕ) (xs : List X) → Lexed text at p → ((w : Bor (List ℕ)) → p.0 ≡ Word w → ⊥) → ((n : ℕ) → p.0 ≡ Variable n → ⊥) → Remain X on_label on_name (drop at text) at xs → Remain X on_label on_name (drop p.1 text) p.1 xs
  passes text at p xs l m n r = go p.0 refl (comes text at p xs l r)
    where
      go : (t : Token) → p.0 ≡ t → Then (part p.0) (drop p.1 text) at xs → Remain X on_label on_name (drop p.1 text) p.1 xs
      go (Word w) e h = absurd (m w e)
      go Open e h = remain_from text at p opening xs l (ap part e) (subst (λ (t : Token). Then (part t) (drop p.1 text) at xs) e h)
      go Close e h = remain_from text at p closing xs l (ap part e) (subst (λ (t : Token). Then (part t) (drop p.1 text) at xs) e h)
      go Comma e h = remain_from text at p parting xs l (ap part e) (subst (λ (t : Token). Then (part t) (drop p.1 text) at xs) e h)
      go (Variable v) e h = absurd (n v e)

  -- a variable is the first of what is left
  pub labels : (text : List ℕ) (at : ℕ) (p : Token × ℕ) (n : ℕ) (xs : List X) → Lexed text at p → p.0 ≡ Variable n → Remain X on_label on_name (drop at text) at xs → (others : List X) × (xs ≡ on_label at n ++ others) × Remain X on_label on_name (drop p.1 text) p.1 others
  labels text at p n xs l e r =
      let h : Labelled n (drop p.1 text) at xs = subst (λ (t : Token). Then (part t) (drop p.1 text) at xs) e (comes text at p xs l r) in
      (h.others, h.has, remain_from text at p (label n) h.others l (ap part e) h.left)

  -- and so is a word
  pub named : (text : List ℕ) (at : ℕ) (p : Token × ℕ) (w : Bor (List ℕ)) (xs : List X) → Lexed text at p → p.0 ≡ Word w → Remain X on_label on_name (drop at text) at xs → Named w.now (drop p.1 text) at xs
  named text at p w xs l e r = subst (λ (t : Token). Then (part t) (drop p.1 text) at xs) e (comes text at p xs l r)

-- The words.

-- the words ws are those of the bytes that are left from place i on
abbrev pub WordsLeft : List ℕ → ℕ → List Occurrence → Type 0
WordsLeft left i ws = Remain Occurrence unlisted occurs left i ws

pub words_whole : (text : List ℕ) (p : Phrase) → Sound p → bytes p ≡ text → WordsLeft text 0 (words 0 p)
words_whole text p s e =
    subst (λ (ws : List Occurrence). WordsLeft text 0 ws) (sym (words_listed 0 p)) (remain_whole Occurrence unlisted occurs text p s e)

-- past a token that is no word, the same words are left
pub advance : (text : List ℕ) (at : ℕ) (p : Token × ℕ) (ws : List Occurrence) → Lexed text at p → ((w : Bor (List ℕ)) → p.0 ≡ Word w → ⊥) → WordsLeft (drop at text) at ws → WordsLeft (drop p.1 text) p.1 ws
advance text at p ws l m r = go p.0 refl
  where
    past : ((n : ℕ) → p.0 ≡ Variable n → ⊥) → WordsLeft (drop p.1 text) p.1 ws
    past n = passes Occurrence unlisted occurs text at p ws l m n r

    go : (t : Token) → p.0 ≡ t → WordsLeft (drop p.1 text) p.1 ws
    go (Word w) e = absurd (m w e)
    go Open e = past (λ n f. cc)
    go Close e = past (λ n f. cc)
    go Comma e = past (λ n f. cc)
    go (Variable v) e =
        let n = labels Occurrence unlisted occurs text at p v ws l e r in
        subst (λ (xs : List Occurrence). WordsLeft (drop p.1 text) p.1 xs) (sym n.1) n.2
