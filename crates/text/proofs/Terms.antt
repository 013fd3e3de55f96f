-- From the words of a phrase to the term that it means, and back.
use Rattle.std.proofs.Common.{◌≡◌, ℕ, suc, ◌+◌, List, [], ◌∷◌, ◌++◌, length, get_or, Some, Option, sym, refl, ap, ◌∙◌, subst}
use Rattle.std.specs.List.{AllByRecursion}
use Rattle.std.proofs.ByRecursion.{All-append}
use Rattle.unification.specs.Terms.{Term, Terms, var, app, nil, cons, size, Formed, AllFormed}
use Rattle.vocabulary.specs.Spellings.{IsSpelling, Spells, IsLexicon}
use Rattle.text.specs.Phrases.{Phrase, Phrases, variable, word, none, more, count, bytes, Sound, AllSound}
use Rattle.text.specs.Occurrences.{words, words_among}
use Rattle.text.specs.Meanings.{Fitting}
use Rattle.text.specs.Lookups.{Sure}
use Rattle.text.specs.Writings.{characters, spelled, all_spelled, write, Spelled, AllSpelled, Means, AllMean, Writes, Reads}
use Rattle.text.proofs.Unique.{one_phrase}

module _ {X : Type 0} (P : X → Type 0) where
  pub all_left : (xs ys : List X) → AllByRecursion P (xs ++ ys) → AllByRecursion P xs
  all_left [] ys a = tt
  all_left (x ∷ xs) ys a = (a.0, all_left xs ys a.1)

  pub all_right : (xs ys : List X) → AllByRecursion P (xs ++ ys) → AllByRecursion P ys
  all_right [] ys a = a
  all_right (x ∷ xs) ys a = all_right xs ys a.1

module _ (spellings : ℕ → Option (List ℕ)) (arities : List ℕ) where
  abbrev arity : ℕ → ℕ
  arity f = get_or arities f 0

  -- the term that a phrase means, if all its words fit
  pub record Meant (p : Phrase) : Type 0 where
    pub term : Term
    pub formed : Formed (length arities) arity term
    pub means : Means spellings p term

  pub record AllMeant (ps : Phrases) : Type 0 where
    pub terms : Terms
    pub many : size terms ≡ count ps
    pub formed : AllFormed (length arities) arity terms
    pub means : AllMean spellings ps terms

  mutual
    pub meant : (p : Phrase) (i : ℕ) → Sound p → AllByRecursion (Sure spellings arities) (words i p) → Meant p
    meant (variable n) i s a = record { term = var n; formed = s; means = refl }
    meant (word w ps) i s a =
        let fit = a.0.0 in
        let m = all_meant ps (i + length w) s.1 a.1 in
        record {
          term = app fit.number m.terms;
          formed = (fit.has, m.many ∙ sym fit.takes, m.formed);
          means = (fit.spells, m.means);
        }

    pub all_meant : (ps : Phrases) (i : ℕ) → AllSound ps → AllByRecursion (Sure spellings arities) (words_among i ps) → AllMeant ps
    all_meant none i s a = record { terms = nil; many = refl; formed = tt; means = tt }
    all_meant (more p ps) i s a =
        let S = Sure spellings arities in
        let front = words (i + 1) p in
        let back = words_among (i + 1 + length (bytes p)) ps in
        let m = meant p (i + 1) s.0 (all_left S front back a) in
        let ms = all_meant ps (i + 1 + length (bytes p)) s.1 (all_right S front back a) in
        record { terms = cons m.term ms.terms; many = ap suc ms.many; formed = (m.formed, ms.formed); means = (m.means, ms.means) }

  -- it means no other term
  mutual
    pub same_term : (p : Phrase) (i : ℕ) (t u : Term) → AllByRecursion (Sure spellings arities) (words i p) → Means spellings p t → Means spellings p u → t ≡ u
    same_term (variable n) i (var x) (var y) a m k = ap var (sym m ∙ k)
    same_term (variable n) i (var x) (app g us) a m k = absurd k
    same_term (variable n) i (app f ts) u a m k = absurd m
    same_term (word w ps) i (var x) u a m k = absurd m
    same_term (word w ps) i (app f ts) (var y) a m k = absurd k
    same_term (word w ps) i (app f ts) (app g us) a m k =
        let e = a.0.1 f g m.0 k.0 in
        let es = same_terms ps (i + length w) ts us a.1 m.1 k.1 in
        λ j. app (e j) (es j)

    same_terms : (ps : Phrases) (i : ℕ) (ts us : Terms) → AllByRecursion (Sure spellings arities) (words_among i ps) → AllMean spellings ps ts → AllMean spellings ps us → ts ≡ us
    same_terms none i nil nil a m k = refl
    same_terms none i nil (cons u us) a m k = absurd k
    same_terms none i (cons t ts) us a m k = absurd m
    same_terms (more p ps) i nil us a m k = absurd m
    same_terms (more p ps) i (cons t ts) nil a m k = absurd k
    same_terms (more p ps) i (cons t ts) (cons u us) a m k =
        let S = Sure spellings arities in
        let front = words (i + 1) p in
        let back = words_among (i + 1 + length (bytes p)) ps in
        let e = same_term p (i + 1) t u (all_left S front back a) m.0 k.0 in
        let es = same_terms ps (i + 1 + length (bytes p)) ts us (all_right S front back a) m.1 k.1 in
        λ j. cons (e j) (es j)

  pub reads_by : (text : List ℕ) (p : Phrase) → Sound p → bytes p ≡ text → AllByRecursion (Sure spellings arities) (words 0 p) → (m : Meant p) → Reads spellings arities text m.term
  reads_by text p s e a m = record {
    formed = m.formed;
    writes = record { phrase = p; sound = s; written = e; means = m.means };
    only = λ u f w.
        let same = one_phrase text w.phrase p w.sound s w.written e in
        same_term p 0 u m.term a (subst (λ (q : Phrase). Means spellings q u) same w.means) m.means;
  }

  -- the words of a phrase that means a term fit
  many_mean : (ps : Phrases) (ts : Terms) → AllMean spellings ps ts → size ts ≡ count ps
  many_mean none nil m = refl
  many_mean none (cons t ts) m = absurd m
  many_mean (more p ps) nil m = absurd m
  many_mean (more p ps) (cons t ts) m = ap suc (many_mean ps ts m.1)

  mutual
    pub fit : (p : Phrase) (i : ℕ) (t : Term) → Formed (length arities) arity t → Means spellings p t → AllByRecursion (Fitting spellings arities) (words i p)
    fit (variable n) i t f m = tt
    fit (word w ps) i (var x) f m = absurd m
    fit (word w ps) i (app g ts) f m =
        (record { number = g; spells = m.0; has = f.0; takes = sym f.1 ∙ many_mean ps ts m.1 }, all_fit ps (i + length w) ts f.2 m.1)

    all_fit : (ps : Phrases) (i : ℕ) (ts : Terms) → AllFormed (length arities) arity ts → AllMean spellings ps ts → AllByRecursion (Fitting spellings arities) (words_among i ps)
    all_fit none i ts f m = tt
    all_fit (more p ps) i nil f m = absurd m
    all_fit (more p ps) i (cons t ts) f m =
        All-append (Fitting spellings arities) (words (i + 1) p) (words_among (i + 1 + length (bytes p)) ps) (fit p (i + 1) t f.0 m.0) (all_fit ps (i + 1 + length (bytes p)) ts f.1 m.1)

module _ (spellings : ℕ → Option (List ℕ)) where
  -- a phrase that means a term is that term with its words spelled
  mutual
    spelled_is : (p : Phrase) (t : Term) → Means spellings p t → spelled spellings t ≡ p
    spelled_is (variable n) (var x) m = ap variable (sym m)
    spelled_is (variable n) (app f ts) m = absurd m
    spelled_is (word w ps) (var x) m = absurd m
    spelled_is (word w ps) (app f ts) m =
        let e = ap characters m.0.has ∙ m.0.same in
        let es = all_spelled_are ps ts m.1 in
        λ j. word (e j) (es j)

    all_spelled_are : (ps : Phrases) (ts : Terms) → AllMean spellings ps ts → all_spelled spellings ts ≡ ps
    all_spelled_are none nil m = refl
    all_spelled_are none (cons t ts) m = absurd m
    all_spelled_are (more p ps) nil m = absurd m
    all_spelled_are (more p ps) (cons t ts) m = let e = spelled_is p t m.0 in let es = all_spelled_are ps ts m.1 in λ j. more (e j) (es j)

  pub exact : (text : List ℕ) (t : Term) → Writes spellings text t → write spellings t ≡ text
  exact text t w = ap bytes (spelled_is w.phrase t w.means) ∙ w.written

  module _ (laws : IsLexicon spellings) (n : ℕ) (ar : ℕ → ℕ) where
    word_sound : (f : ℕ) → ((s : List ℕ) × (spellings f ≡ Some s)) → IsSpelling (characters (spellings f))
    word_sound f h = subst IsSpelling (sym (ap characters h.1)) (laws.formed f h.0 h.1)

    word_spells : (f : ℕ) → ((s : List ℕ) × (spellings f ≡ Some s)) → Spells spellings f (characters (spellings f))
    word_spells f h = record { written = h.0; has = h.1; same = sym (ap characters h.1) }

    mutual
      pub spelled_sound : (t : Term) → Formed n ar t → Spelled spellings t → Sound (spelled spellings t)
      spelled_sound (var x) f s = f
      spelled_sound (app g ts) f s = (word_sound g s.0, all_spelled_sound ts f.2 s.1)

      all_spelled_sound : (ts : Terms) → AllFormed n ar ts → AllSpelled spellings ts → AllSound (all_spelled spellings ts)
      all_spelled_sound nil f s = tt
      all_spelled_sound (cons t ts) f s = (spelled_sound t f.0 s.0, all_spelled_sound ts f.1 s.1)

    mutual
      spelled_means : (t : Term) → Spelled spellings t → Means spellings (spelled spellings t) t
      spelled_means (var x) s = refl
      spelled_means (app g ts) s = (word_spells g s.0, all_spelled_mean ts s.1)

      all_spelled_mean : (ts : Terms) → AllSpelled spellings ts → AllMean spellings (all_spelled spellings ts) ts
      all_spelled_mean nil s = tt
      all_spelled_mean (cons t ts) s = (spelled_means t s.0, all_spelled_mean ts s.1)

    pub writes_own : (text : List ℕ) (t : Term) → Formed n ar t → Spelled spellings t → write spellings t ≡ text → Writes spellings text t
    writes_own text t f s e = record { phrase = spelled spellings t; sound = spelled_sound t f s; written = e; means = spelled_means t s }
