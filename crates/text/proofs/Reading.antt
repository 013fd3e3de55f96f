-- What each way through the two readers answers.
use Rattle.std.proofs.Common.{◌≡◌, ℕ, suc, ◌+◌, ◌-◌, ◌<◌, ◌≤◌, Bool, true, false, List, [], ◌∷◌, ◌++◌, length, drop, sym, refl, ap, ◌∙◌, subst, ⊎_elim, append_assoc, append-nil, arith, length-append, length-drop, Bor}
use Rattle.std.proofs.lemmas.Bool.Decides.{nat_tests}
use Rattle.text.specs.declared.token.Token.{Token}
use Rattle.text.specs.declared.token.Token.TheVariants.{Word, Open, Close, Comma, Variable}
use Rattle.text.specs.declared.token.SyntaxFault.{SyntaxFault}
use Rattle.text.specs.Phrases.{decimal, Phrase, variable, word, none, more, bytes, Sound}
use Rattle.text.specs.Course.{start, letters, after, stopped, course, at_place, PhraseTo, PhraseStops, ArgumentsTo, ArgumentsStop}
use Rattle.text.specs.Tokens.{small, in_word, IsWord, Stop, begins, parts, part, spell, Fair, Lexed, NoToken}
use Rattle.text.proofs.Spelling.{word_spelling}
use Rattle.text.proofs.Going.{opens, goes_word, goes_open, goes_rest, goes_decimal, stops_start, stops_mark, stops_after}

-- where a part of the text ends
pub end_is : (text front : List ℕ) (at e : ℕ) → at ≤ e → e ≤ length text → drop at text ≡ front ++ drop e text → e ≡ at + length front
end_is text front at e p w r =
    let a = length-drop at text in
    let b = length-drop e text in
    let c = ap length r ∙ length-append front (drop e text) in
    omega arith

-- what does not go on
word_parts : (w rest : List ℕ) → IsWord w → (f : ℕ → Bool) → ((b : ℕ) → small b ≡ true → f b ≡ false) → Stop f (w ++ rest)
word_parts [] rest h f g = absurd h
word_parts (b ∷ bs) rest h f g = g b h.0

small_parts : (b : ℕ) → small b ≡ true → parts b ≡ false
small_parts b h = grind (arith, nat_tests)

small_opens : (b : ℕ) → small b ≡ true → opens b ≡ false
small_opens b h = grind (arith, nat_tests)

other_parts : (t : Token) (rest : List ℕ) → Fair (part t) rest → (t ≡ Comma → ⊥) → (t ≡ Close → ⊥) → Stop parts (spell (part t) ++ rest)
other_parts (Word w) rest f p q = word_parts w.now rest f.0 parts small_parts
other_parts Open rest f p q = refl
other_parts Close rest f p q = absurd (q refl)
other_parts Comma rest f p q = absurd (p refl)
other_parts (Variable n) rest f p q = refl

other_opens : (t : Token) (rest : List ℕ) → Fair (part t) rest → (t ≡ Open → ⊥) → Stop opens (spell (part t) ++ rest)
other_opens (Word w) rest f p = word_parts w.now rest f.0 opens small_opens
other_opens Open rest f p = absurd (p refl)
other_opens Close rest f p = refl
other_opens Comma rest f p = refl
other_opens (Variable n) rest f p = refl

weaker : (f g : ℕ → Bool) → ((b : ℕ) → f b ≡ false → g b ≡ false) → (k : List ℕ) → Stop f k → Stop g k
weaker f g h [] s = tt
weaker f g h (b ∷ k) s = h b s

begins_parts : (b : ℕ) → begins b ≡ false → parts b ≡ false
begins_parts b h = grind (arith, nat_tests)

begins_opens : (b : ℕ) → begins b ≡ false → opens b ≡ false
begins_opens b h = grind (arith, nat_tests)

pub lexed_parts : (text : List ℕ) (at : ℕ) (p : Token × ℕ) → Lexed text at p → (p.0 ≡ Comma → ⊥) → (p.0 ≡ Close → ⊥) → Stop parts (drop at text)
lexed_parts text at p l h k = subst (Stop parts) (sym l.read) (other_parts p.0 (drop p.1 text) l.fair h k)

pub lexed_opens : (text : List ℕ) (at : ℕ) (p : Token × ℕ) → Lexed text at p → (p.0 ≡ Open → ⊥) → Stop opens (drop at text)
lexed_opens text at p l h = subst (Stop opens) (sym l.read) (other_opens p.0 (drop p.1 text) l.fair h)

pub none_parts : (text : List ℕ) (at : ℕ) (p : SyntaxFault) → NoToken text at p → Stop parts (drop at text)
none_parts text at p l = ⊎_elim (λ h. weaker begins parts begins_parts (drop at text) h.1) (λ h. subst (Stop parts) (sym h.1) refl) l.why

pub none_opens : (text : List ℕ) (at : ℕ) (p : SyntaxFault) → NoToken text at p → Stop opens (drop at text)
none_opens text at p l = ⊎_elim (λ h. weaker begins opens begins_opens (drop at text) h.1) (λ h. subst (Stop opens) (sym h.1) refl) l.why

pub short : (w : List ℕ) → IsWord w → length w ≤ 16
short [] h = absurd h
short (b ∷ bs) h = omega (arith, h.2)

-- the word w stands from `at` to i
pub record WordTo (text : List ℕ) (at i : ℕ) (w : List ℕ) : Type 0 where
  pub past : at < i
  pub within : i ≤ length text
  pub is : IsWord w
  pub halts : length w < 16 → Stop in_word (drop i text)
  pub read : drop at text ≡ w ++ drop i text

pub word_to : (text : List ℕ) (at : ℕ) (p : Token × ℕ) (w : Bor (List ℕ)) → Lexed text at p → p.0 ≡ Word w → WordTo text at p.1 w.now
word_to text at p w l e =
    let rest = drop p.1 text in
    let f = subst (λ t. Fair (part t) rest) e l.fair in
    record { past = l.past; within = l.within; is = f.0; halts = f.1; read = l.read ∙ ap (λ t. spell (part t) ++ rest) e }

-- the least word, for what would go on
word_a : IsWord (97 ∷ [])
word_a = (refl, refl, omega arith)

-- the phrase of that word
abbrev least : Phrase
least = word (97 ∷ []) none

least_sound : Sound least
least_sound = (word_spelling (97 ∷ []) word_a, tt)

module _ (text : List ℕ) (at : ℕ) where
  pub phrase_none : (f : SyntaxFault) → NoToken text at f → PhraseStops text at f.place
  phrase_none f l =
      ⊎_elim
      (λ h. record {
        past = l.past;
        within = l.within;
        phrase = least;
        sound = least_sound;
        front = [];
        more = 97 ∷ [];
        read = ap (λ i. drop i text) (sym h.0);
        would = refl;
        goes = λ n. stops_start n at (drop at text) h.1 ∙ ap stopped (sym h.0);
      })
      (λ h. record {
        past = l.past;
        within = l.within;
        phrase = variable 0;
        sound = omega arith;
        front = 63 ∷ [];
        more = 48 ∷ [];
        read = h.1 ∙ ap (λ i. 63 ∷ drop i text) (sym h.0);
        would = refl;
        goes = λ n. ap (λ l. course (start n) at l) h.1 ∙ stops_mark n (at + 1) (drop (at + 1) text) h.2 ∙ ap stopped (sym h.0);
      })
      l.why

  -- a bracket or a comma where a term is to begin
  other_start : (t : Token) (rest : List ℕ) (n : ℕ) → ((w : _) → t ≡ Word w → ⊥) → ((v : ℕ) → t ≡ Variable v → ⊥) → course (start n) at (spell (part t) ++ rest) ≡ stopped at
  other_start (Word w) rest n p q = absurd (p w refl)
  other_start Open rest n p q = refl
  other_start Close rest n p q = refl
  other_start Comma rest n p q = refl
  other_start (Variable v) rest n p q = absurd (q v refl)

  pub phrase_other : (p : Token × ℕ) → Lexed text at p → ((w : _) → p.0 ≡ Word w → ⊥) → ((v : ℕ) → p.0 ≡ Variable v → ⊥) → PhraseStops text at at
  phrase_other p l h k = record {
    past = omega arith;
    within = omega (arith, l.past, l.within);
    phrase = least;
    sound = least_sound;
    front = [];
    more = 97 ∷ [];
    read = refl;
    would = refl;
    goes = λ n. ap (λ l. course (start n) at l) l.read ∙ other_start p.0 (drop p.1 text) n h k;
  }

  pub phrase_variable : (p : Token × ℕ) (v : ℕ) → Lexed text at p → p.0 ≡ Variable v → PhraseTo text at p.1
  phrase_variable p v l e =
      let rest = drop p.1 text in
      let read : drop at text ≡ 63 ∷ (decimal v ++ rest) = l.read ∙ ap (λ t. spell (part t) ++ rest) e in
      let fair = subst (λ t. Fair (part t) rest) e l.fair in
      let long = end_is text (63 ∷ decimal v) at p.1 (omega (arith, l.past)) l.within read in
      record {
        past = l.past;
        within = l.within;
        phrase = variable v;
        sound = fair.0;
        read = read;
        goes = λ n. ap (λ l. course (start n) at l) read ∙ goes_decimal v rest n (at + 1) p.1 fair.0 fair.1 (omega arith);
      }

  module _ (i : ℕ) (w : List ℕ) (named : WordTo text at i w) where
    word_goes : (n : ℕ) → at_place text (start n) at ≡ at_place text (letters n (16 - length w)) i
    word_goes n =
        let s = short w named.is in
        let long = end_is text w at i (omega (arith, named.past)) named.within named.read in
        ap (λ l. course (start n) at l) named.read ∙ goes_word w (drop i text) n (16 - length w) at i named.is (omega arith) long

    pub phrase_plain : Stop opens (drop i text) → PhraseTo text at i
    phrase_plain o = record {
      past = named.past;
      within = named.within;
      phrase = word w none;
      sound = (word_spelling w named.is, tt);
      read = named.read ∙ ap (λ l. l ++ drop i text) (sym (append-nil w));
      goes = λ n. word_goes n ∙ goes_rest n (16 - length w) i (drop i text) (λ h. named.halts (omega arith)) o;
    }

    module _ (q : Token × ℕ) (l : Lexed text i q) (open' : q.0 ≡ Open) where
      opened : drop i text ≡ 40 ∷ drop (i + 1) text
      opened =
          let r = l.read ∙ ap (λ t. spell (part t) ++ drop q.1 text) open' in
          let one = end_is text (40 ∷ []) i q.1 (omega (arith, l.past)) l.within r in
          r ∙ ap (λ j. 40 ∷ drop j text) one

      into : (n : ℕ) → at_place text (start n) at ≡ at_place text (start (suc n)) (i + 1)
      into n =
          word_goes n ∙ ap (λ l. course (letters n (16 - length w)) i l) opened ∙ goes_open n (16 - length w) i (drop (i + 1) text)

      pub phrase_applied : (e : ℕ) → ArgumentsTo text i e → PhraseTo text at e
      phrase_applied e s = record {
        past = omega (arith, named.past, s.past);
        within = s.within;
        phrase = word w (more s.first s.others);
        sound = (word_spelling w named.is, s.sound);
        read = named.read ∙ ap (λ l. w ++ l) (opened ∙ ap (λ l. 40 ∷ l) s.read) ∙ simp append_assoc;
        goes = λ n. into n ∙ s.goes n;
      }

      pub phrase_applied_stops : (f : SyntaxFault) → ArgumentsStop text i f.place → PhraseStops text at f.place
      phrase_applied_stops f s = record {
        past = omega (arith, named.past, s.past);
        within = s.within;
        phrase = word w (more s.first s.others);
        sound = (word_spelling w named.is, s.sound);
        front = w ++ (40 ∷ s.front);
        more = s.more;
        read = named.read ∙ ap (λ l. w ++ l) (opened ∙ ap (λ l. 40 ∷ l) s.read) ∙ simp append_assoc;
        would = ap (λ l. w ++ (40 ∷ l)) s.would ∙ simp append_assoc;
        goes = λ n. into n ∙ s.goes n;
      }

  -- the arguments behind the `(` or `,` at `at`
  pub arguments_first : (f : SyntaxFault) → PhraseStops text (at + 1) f.place → ArgumentsStop text at f.place
  arguments_first f s = record {
    past = omega (arith, s.past);
    within = s.within;
    first = s.phrase;
    others = none;
    sound = (s.sound, tt);
    front = s.front;
    more = s.more ++ (41 ∷ []);
    read = s.read;
    would = ap (λ l. l ++ (41 ∷ [])) s.would ∙ simp append_assoc;
    goes = λ n. s.goes (suc n);
  }

  module _ (e : ℕ) (s : PhraseTo text (at + 1) e) where
    pub arguments_unended : Stop parts (drop e text) → ArgumentsStop text at e
    arguments_unended o = record {
      past = omega (arith, s.past);
      within = s.within;
      first = s.phrase;
      others = none;
      sound = (s.sound, tt);
      front = bytes s.phrase;
      more = 41 ∷ [];
      read = s.read;
      would = refl;
      goes = λ n. s.goes (suc n) ∙ stops_after n e (drop e text) o;
    }

    module _ (q : Token × ℕ) (l : Lexed text e q) where
      pub arguments_last : q.0 ≡ Close → ArgumentsTo text at q.1
      arguments_last c =
          let read : drop e text ≡ 41 ∷ drop q.1 text = l.read ∙ ap (λ t. spell (part t) ++ drop q.1 text) c in
          let one = end_is text (41 ∷ []) e q.1 (omega (arith, l.past)) l.within read in
          record {
            past = omega (arith, s.past, l.past);
            within = l.within;
            first = s.phrase;
            others = none;
            sound = (s.sound, tt);
            read = s.read ∙ ap (λ l. bytes s.phrase ++ l) read;
            goes = λ n. s.goes (suc n) ∙ ap (λ l. course (after (suc n)) e l) read ∙ ap (λ i. course (after n) i (drop q.1 text)) (sym one);
          }

      module _ (c : q.0 ≡ Comma) where
        comma : drop e text ≡ 44 ∷ drop (e + 1) text
        comma =
            let r = l.read ∙ ap (λ t. spell (part t) ++ drop q.1 text) c in
            let one = end_is text (44 ∷ []) e q.1 (omega (arith, l.past)) l.within r in
            r ∙ ap (λ j. 44 ∷ drop j text) one

        again : (n : ℕ) → at_place text (start (suc n)) (at + 1) ≡ at_place text (start (suc n)) (e + 1)
        again n = s.goes (suc n) ∙ ap (λ l. course (after (suc n)) e l) comma

        pub arguments_next : (f : ℕ) → ArgumentsTo text e f → ArgumentsTo text at f
        arguments_next f r = record {
          past = omega (arith, s.past, r.past);
          within = r.within;
          first = s.phrase;
          others = more r.first r.others;
          sound = (s.sound, r.sound);
          read = s.read ∙ ap (λ l. bytes s.phrase ++ l) (comma ∙ ap (λ l. 44 ∷ l) r.read) ∙ simp append_assoc;
          goes = λ n. again n ∙ r.goes n;
        }

        pub arguments_next_stop : (f : ℕ) → ArgumentsStop text e f → ArgumentsStop text at f
        arguments_next_stop f r = record {
          past = omega (arith, s.past, r.past);
          within = r.within;
          first = s.phrase;
          others = more r.first r.others;
          sound = (s.sound, r.sound);
          front = bytes s.phrase ++ (44 ∷ r.front);
          more = r.more;
          read = s.read ∙ ap (λ l. bytes s.phrase ++ l) (comma ∙ ap (λ l. 44 ∷ l) r.read) ∙ simp append_assoc;
          would = simp append_assoc (ap (λ l. bytes s.phrase ++ (44 ∷ l)) r.would);
          goes = λ n. again n ∙ r.goes n;
        }

-- the arguments behind `at` end or stop as those behind `mark` do: what the loop over arguments keeps
pub record SoFar (text : List ℕ) (at m : ℕ) : Type 0 where
  pub past : at ≤ m
  pub within : m < length text
  pub to : (e : ℕ) → ArgumentsTo text m e → ArgumentsTo text at e
  pub stops : (p : ℕ) → ArgumentsStop text m p → ArgumentsStop text at p

pub one_further : (text : List ℕ) (at m e : ℕ) (q : Token × ℕ) → SoFar text at m → PhraseTo text (m + 1) e → Lexed text e q → q.0 ≡ Comma → SoFar text at e
one_further text at m e q f s l c = record {
  past = omega (arith, f.past, s.past);
  within = omega (arith, l.past, l.within);
  to = λ g r. f.to g (arguments_next text m e s q l c g r);
  stops = λ g r. f.stops g (arguments_next_stop text m e s q l c g r);
}
