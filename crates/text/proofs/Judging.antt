-- Exactly one verdict fits a text.
use Rattle.std.proofs.Common.{◌≡◌, ℕ, ◌+◌, ◌<◌, ◌≤◌, List, [], ◌∷◌, ◌++◌, length, get_or, take, drop, Ok, Err, Option, Result, sym, refl, ap, ◌∙◌, subst, inl, inr, append_assoc, arith, length-append, take-append-drop, MatchResult}
use Rattle.fault.proofs.Firsts.{first1_only, first1_none}
use Rattle.std.specs.List.{AllByRecursion}
use Rattle.std.proofs.ByRecursion.{All-weaker}
use Rattle.std.proofs.lemmas.List.{take-take}
use Rattle.std.proofs.lemmas.Bool.{cases_order}
use Rattle.unification.specs.Terms.{Term, Formed}
use Rattle.text.specs.declared.causes.TextFault.{TextFault}
use Rattle.text.specs.declared.causes.TextFault.TheVariants.{Empty, TooLong, TooDeep, NoText, UnknownWord, WrongArguments}
use Rattle.text.specs.declared.token.SyntaxFault.{SyntaxFault}
use Rattle.text.specs.Phrases.{Phrase, variable, word, bracketed, bytes, Sound}
use Rattle.text.specs.Texts.{IsText, Begins, StopsAt}
use Rattle.text.specs.Brackets.{Shallow}
use Rattle.text.specs.Occurrences.{Occurrence, words, FirstOf, AllWords, FirstWord}
use Rattle.text.specs.Meanings.{Known, Fitting}
use Rattle.vocabulary.specs.Spellings.{IsLexicon}
use Rattle.text.specs.Writings.{Spelled, write, Writes, Reads}
use Rattle.text.specs.Lookups.{FirstAt, Sure, WordsRefused}
use Rattle.text.specs.Verdicts.{Sized, AllShallow, Accepted, Refused, Verdict, Judged}
use Rattle.text.proofs.Unique.{one_phrase}
use Rattle.text.proofs.Terms.{all_right, meant, reads_by, fit, exact, spelled_sound, writes_own}
use Rattle.text.proofs.Nesting.{shallow_nested}

-- a text that begins so begins so with fewer bytes too
begins_shorter : (text : List ℕ) (m n : ℕ) → m ≤ n → Begins (take n text) → Begins (take m text)
begins_shorter text m n h b =
    let cut = take-take m n text h in
    let whole = take-append-drop m (take n text) in
    let e : take n text ++ b.more ≡ take m text ++ (drop m (take n text) ++ b.more) =
    ap (λ l. l ++ b.more) (sym whole) ∙ append_assoc (take m (take n text)) (drop m (take n text)) b.more ∙ ap (λ l. l ++ (drop m (take n text) ++ b.more)) cut in
    record { more = drop m (take n text) ++ b.more; whole = subst IsText e b.whole }

stops_before : (text : List ℕ) (p q : ℕ) → StopsAt text p → StopsAt text q → p < q → ⊥
stops_before text p q a b h = a.here (omega (arith, b.within)) (begins_shorter text (p + 1) q (omega arith) b.before)

stops_only : (text : List ℕ) (p q : ℕ) → StopsAt text p → StopsAt text q → p ≡ q
stops_only text p q a b =
    elim (cases_order p q) [
      | inl e ↦ e
      | inr (inl lt) ↦ absurd (stops_before text p q a b lt)
      | inr (inr gt) ↦ absurd (stops_before text q p b a gt)
    ]

-- the first word of which P fails is one
front_only : (P : Occurrence → Type 0) (a b x y : List Occurrence) (v w : Occurrence) → a ++ (v ∷ x) ≡ b ++ (w ∷ y) → AllByRecursion P a → AllByRecursion P b → (P v → ⊥) → (P w → ⊥) → v ≡ w
front_only P [] [] x y v w e g h p q = cc
front_only P [] (c ∷ b) x y v w e g h p q = let same : v ≡ c = cc in absurd (p (subst P (sym same) h.0))
front_only P (c ∷ a) [] x y v w e g h p q = let same : c ≡ w = cc in absurd (q (subst P same g.0))
front_only P (c ∷ a) (d ∷ b) x y v w e g h p q = let rest : a ++ (v ∷ x) ≡ b ++ (w ∷ y) = cc in front_only P a b x y v w rest g.1 h.1 p q

first_only : (P : Occurrence → Type 0) (ws : List Occurrence) (v w : Occurrence) → FirstOf P ws v → FirstOf P ws w → v ≡ w
first_only P ws v w a b = front_only P a.before b.before a.behind b.behind v w (sym a.split ∙ b.split) a.good b.good a.fails b.fails

first_none : (P : Occurrence → Type 0) (ws : List Occurrence) (w : Occurrence) → AllByRecursion P ws → FirstOf P ws w → ⊥
first_none P ws w all a = a.fails (all_right P a.before (w ∷ a.behind) (subst (AllByRecursion P) a.split all)).0

module _ (P : Occurrence → Type 0) (text : List ℕ) where
  first_word_only : (p q : ℕ) → FirstWord P text p → FirstWord P text q → p ≡ q
  first_word_only p q a b =
      let same = one_phrase text b.phrase a.phrase b.sound a.sound b.written a.written in
      let f = subst (λ (x : Phrase). FirstOf P (words 0 x) b.word) same b.first in
      sym a.at ∙ ap (λ w. w.place) (first_only P (words 0 a.phrase) a.word b.word a.first f) ∙ b.at

  first_word_none : (p : ℕ) → AllWords P text → FirstWord P text p → ⊥
  first_word_none p a b =
      let same = one_phrase text a.phrase b.phrase a.sound b.sound a.written b.written in
      first_none P (words 0 b.phrase) b.word (subst (λ (x : Phrase). AllByRecursion P (words 0 x)) same a.all) b.first

  is_text : (p : ℕ) → FirstWord P text p → IsText text
  is_text p a = record { phrase = a.phrase; sound = a.sound; written = a.written }

  first_at : (t : Phrase) → Sound t → bytes t ≡ text → (p : ℕ) → FirstAt P (words 0 t) p → FirstWord P text p
  first_at t s e p f = record { phrase = t; sound = s; written = e; word = f.word; first = f.first; at = f.at }

-- a text has a byte
has_byte : (p : Phrase) → Sound p → 0 < length (bytes p)
has_byte (variable n) s = omega arith
has_byte (word w ps) s = let long = length-append w (bracketed ps) in omega (arith, s.0.some)

module _ (spellings : ℕ → Option (List ℕ)) (arities : List ℕ) (text : List ℕ) where
  known_fitting : (w : Occurrence) → Fitting spellings arities w → Known spellings arities w
  known_fitting w f = record { number = f.number; spells = f.spells; has = f.has }

  -- two refusals that fit are one
  same_fault : (f g : TextFault) → Refused spellings arities text f → Refused spellings arities text g → f ≡ g
  same_fault Empty Empty a b = refl
  same_fault Empty TooLong a b = absurd (omega arith)
  same_fault Empty (TooDeep q) a b = absurd (omega (arith, b.0.0, b.0.1))
  same_fault Empty (NoText q) a b = absurd (omega (arith, b.0.0, b.0.1))
  same_fault Empty (UnknownWord q) a b = absurd (omega (arith, b.0.0, b.0.1))
  same_fault Empty (WrongArguments q) a b = absurd (omega (arith, b.0.0, b.0.1))
  same_fault TooLong Empty a b = absurd (omega arith)
  same_fault TooLong TooLong a b = refl
  same_fault TooLong (TooDeep q) a b = absurd (omega (arith, b.0.0, b.0.1))
  same_fault TooLong (NoText q) a b = absurd (omega (arith, b.0.0, b.0.1))
  same_fault TooLong (UnknownWord q) a b = absurd (omega (arith, b.0.0, b.0.1))
  same_fault TooLong (WrongArguments q) a b = absurd (omega (arith, b.0.0, b.0.1))
  same_fault (TooDeep p) Empty a b = absurd (omega (arith, a.0.0, a.0.1))
  same_fault (TooDeep p) TooLong a b = absurd (omega (arith, a.0.0, a.0.1))
  same_fault (TooDeep p) (TooDeep q) a b = ap TooDeep (first1_only (length text) (Shallow text) p q a.1 b.1)
  same_fault (TooDeep p) (NoText q) a b = absurd (first1_none (length text) (Shallow text) p b.1 a.1)
  same_fault (TooDeep p) (UnknownWord q) a b = absurd (first1_none (length text) (Shallow text) p b.1 a.1)
  same_fault (TooDeep p) (WrongArguments q) a b = absurd (first1_none (length text) (Shallow text) p b.1 a.1)
  same_fault (NoText p) Empty a b = absurd (omega (arith, a.0.0, a.0.1))
  same_fault (NoText p) TooLong a b = absurd (omega (arith, a.0.0, a.0.1))
  same_fault (NoText p) (TooDeep q) a b = absurd (first1_none (length text) (Shallow text) q a.1 b.1)
  same_fault (NoText p) (NoText q) a b = ap NoText (stops_only text p q a.2 b.2)
  same_fault (NoText p) (UnknownWord q) a b = absurd (a.2.no_text (is_text (Known spellings arities) text q b.2))
  same_fault (NoText p) (WrongArguments q) a b = absurd (a.2.no_text (is_text (Fitting spellings arities) text q b.3))
  same_fault (UnknownWord p) Empty a b = absurd (omega (arith, a.0.0, a.0.1))
  same_fault (UnknownWord p) TooLong a b = absurd (omega (arith, a.0.0, a.0.1))
  same_fault (UnknownWord p) (TooDeep q) a b = absurd (first1_none (length text) (Shallow text) q a.1 b.1)
  same_fault (UnknownWord p) (NoText q) a b = absurd (b.2.no_text (is_text (Known spellings arities) text p a.2))
  same_fault (UnknownWord p) (UnknownWord q) a b = ap UnknownWord (first_word_only (Known spellings arities) text p q a.2 b.2)
  same_fault (UnknownWord p) (WrongArguments q) a b = absurd (first_word_none (Known spellings arities) text p b.2 a.2)
  same_fault (WrongArguments p) Empty a b = absurd (omega (arith, a.0.0, a.0.1))
  same_fault (WrongArguments p) TooLong a b = absurd (omega (arith, a.0.0, a.0.1))
  same_fault (WrongArguments p) (TooDeep q) a b = absurd (first1_none (length text) (Shallow text) q a.1 b.1)
  same_fault (WrongArguments p) (NoText q) a b = absurd (b.2.no_text (is_text (Fitting spellings arities) text p a.3))
  same_fault (WrongArguments p) (UnknownWord q) a b = absurd (first_word_none (Known spellings arities) text q a.2 b.2)
  same_fault (WrongArguments p) (WrongArguments q) a b = ap WrongArguments (first_word_only (Fitting spellings arities) text p q a.3 b.3)

  -- a writing of a term within the limits is not refused
  admitted : (t : Term) → Formed (length arities) (λ f. get_or arities f 0) t → Writes spellings text t → Sized text → AllShallow text → (f : TextFault) → Refused spellings arities text f → ⊥
  admitted t m w s h Empty r = omega arith
  admitted t m w s h TooLong r = omega arith
  admitted t m w s h (TooDeep p) r = first1_none (length text) (Shallow text) p h r.1
  admitted t m w s h (NoText p) r = r.2.no_text (record { phrase = w.phrase; sound = w.sound; written = w.written })
  admitted t m w s h (UnknownWord p) r =
      first_word_none (Known spellings arities) text p (record {
        phrase = w.phrase;
        sound = w.sound;
        written = w.written;
        all = All-weaker (Fitting spellings arities) (Known spellings arities) known_fitting (words 0 w.phrase) (fit spellings arities w.phrase 0 t m w.means);
      }) r.2
  admitted t m w s h (WrongArguments p) r =
      first_word_none (Fitting spellings arities) text p (record { phrase = w.phrase; sound = w.sound; written = w.written; all = fit spellings arities w.phrase 0 t m w.means }) r.3

  pub accepted_by : Sized text → AllShallow text → (p : Phrase) → Sound p → bytes p ≡ text → AllByRecursion (Sure spellings arities) (words 0 p) → Accepted spellings arities text
  accepted_by s h p sound written all =
      let m = meant spellings arities p 0 sound all in
      record { sized = s; shallow = h; term = m.term; reads = reads_by spellings arities text p sound written all m }

  -- what a term is written as, by a lawful lexicon, is read as that term
  pub reads_own : IsLexicon spellings → (t : Term) → Formed (length arities) (λ f. get_or arities f 0) t → Spelled spellings t → write spellings t ≡ text → Reads spellings arities text t
  reads_own laws t m s e =
      let w = writes_own spellings laws (length arities) (λ f. get_or arities f 0) text t m s e in
      let sure = All-weaker (Fitting spellings arities) (Sure spellings arities) (λ o f. (f, λ v u. laws.single v u o.spelling)) (words 0 w.phrase) (fit spellings arities w.phrase 0 t m w.means) in
      reads_by spellings arities text w.phrase w.sound w.written sure (record { term = t; formed = m; means = w.means })

  pub only_one : (r v : Result (Unit {0}) TextFault) → Verdict spellings arities text r → Verdict spellings arities text v → v ≡ r
  only_one (Ok x) (Ok y) a b = refl
  only_one (Ok x) (Err g) a b = absurd (admitted a.term a.reads.formed a.reads.writes a.sized a.shallow g b)
  only_one (Err f) (Ok y) a b = absurd (admitted b.term b.reads.formed b.reads.writes b.sized b.shallow f a)
  only_one (Err f) (Err g) a b = ap Err (same_fault g f b a)

  reads_it : (r : Result (Unit {0}) TextFault) (t : Term) → Verdict spellings arities text r → Formed (length arities) (λ f. get_or arities f 0) t → Writes spellings text t → Sized text → AllShallow text → MatchResult r (λ _. Reads spellings arities text t) (λ _. ⊥)
  reads_it (Ok x) t a m w s h = subst (Reads spellings arities text) (sym (a.reads.only t m w)) a.reads
  reads_it (Err f) t a m w s h = admitted t m w s h f a

  pub judged : (r : Result (Unit {0}) TextFault) → Verdict spellings arities text r → Judged spellings arities text r
  judged r a = record {
    verdict = a;
    only = λ v b. only_one r v a b;
    takes = λ t m w s h. reads_it r t a m w s h;
    exact = exact spellings text;
    back = λ t m s laws n e short.
        let w = writes_own spellings laws (length arities) (λ f. get_or arities f 0) text t m s e in
        reads_it r t a m w (subst (λ (l : List ℕ). 0 < length l) w.written (has_byte w.phrase w.sound), short)
        (shallow_nested spellings text t (spelled_sound spellings laws (length arities) (λ f. get_or arities f 0) t m s) n e);
  }

  pub judged_fault : (r : Result (Unit {0}) TextFault) (e : TextFault) → r ≡ Err e → Refused spellings arities text e → Judged spellings arities text r
  judged_fault r e is f = subst (Judged spellings arities text) (sym is) (judged (Err e) f)

  pub grammar_fault : (f : SyntaxFault) (e : TextFault) → e ≡ NoText f.place → Sized text → AllShallow text → StopsAt text f.place → Refused spellings arities text e
  grammar_fault f e is s h stops = subst (Refused spellings arities text) (sym is) (s, h, stops)

  pub words_fault : (i : IsText text) (f : TextFault) → Sized text → AllShallow text → WordsRefused spellings arities (words 0 i.phrase) f → Refused spellings arities text f
  words_fault i Empty s h t = absurd t
  words_fault i TooLong s h t = absurd t
  words_fault i (TooDeep p) s h t = absurd t
  words_fault i (NoText p) s h t = absurd t
  words_fault i (UnknownWord p) s h t = (s, h, first_at (Known spellings arities) text i.phrase i.sound i.written p t)
  words_fault i (WrongArguments p) s h t =
      let all : AllWords (Known spellings arities) text = record { phrase = i.phrase; sound = i.sound; written = i.written; all = t.0 } in
      (s, h, all, first_at (Fitting spellings arities) text i.phrase i.sound i.written p t.1)
