-- The items of a text, and how a walk over its tokens meets them.
use Rattle.std.proofs.Common.{◌≡◌, ℕ, ◌+◌, List, [], ◌∷◌, ◌++◌, map, length, drop, Option, refl, ap, ◌∙◌, subst, ap₂, Bor}
use Rattle.unification.specs.Terms.{Term, Terms, var, app, nil, cons}
use Rattle.vocabulary.specs.Spellings.{Spells, IsLexicon}
use Rattle.text.specs.declared.token.Token.{Token}
use Rattle.text.specs.declared.token.Token.TheVariants.{Word, Variable}
use Rattle.text.specs.declared.token.SyntaxFault.{SyntaxFault}
use Rattle.text.specs.declared.items.Item.TheVariants as code
use Rattle.text.specs.Phrases.{Phrase, Phrases, none, more, bytes, Sound}
use Rattle.text.specs.Phrases as phrase
use Rattle.text.specs.Items.{Entry, items, all_items, Standing, Mark, label, name, label_mark, name_mark, Stands, AllStand, ItemsLeft, NextItem, HasItems}
use Rattle.text.specs.Items as item
use Rattle.text.specs.Listings.{listed, listed_among}
use Rattle.text.specs.Tokens.{part, Lexed, NoToken}
use Rattle.text.specs.Tokens as token
use Rattle.text.specs.Writings.{Means, AllMean, Writes}
use Rattle.text.proofs.Walk.{remain_whole, none_left, passes, labels, named, remain_from}

abbrev entries : List Standing → List Entry
entries ss = map (λ (a : Standing). a.entry) ss

entries_append : (xs ys : List Standing) → entries (xs ++ ys) ≡ entries xs ++ entries ys
entries_append [] ys = refl
entries_append (x ∷ xs) ys = ap (λ (l : List Entry). x.entry ∷ l) (entries_append xs ys)

module _ (spellings : ℕ → Option (List ℕ)) where
  all_stand_append : (ms ns : List Mark) (xs ys : List Standing) → AllStand spellings ms xs → AllStand spellings ns ys → AllStand spellings (ms ++ ns) (xs ++ ys)
  all_stand_append [] ns [] ys a b = b
  all_stand_append [] ns (x ∷ xs) ys a b = absurd a
  all_stand_append (m ∷ ms) ns [] ys a b = absurd a
  all_stand_append (m ∷ ms) ns (x ∷ xs) ys a b = (a.0, all_stand_append ms ns xs ys a.1 b)

  -- the marks of a phrase that means a term are the items of the term
  mutual
    standing_of : (p : Phrase) (i : ℕ) (t : Term) → Means spellings p t → (ss : List Standing) × AllStand spellings (listed Mark label_mark name_mark i p) ss × (entries ss ≡ items t)
    standing_of (phrase.variable n) i (var x) m = (record { place = i; entry = item.variable n } ∷ [], (refl, tt), ap (λ (k : ℕ). item.variable k ∷ []) m)
    standing_of (phrase.variable n) i (app f ts) m = absurd m
    standing_of (phrase.word s ps) i (var x) m = absurd m
    standing_of (phrase.word s ps) i (app f ts) m =
        let r = standings_of ps (i + length s) ts m.1 in
        (record { place = i; entry = item.word f } ∷ r.0, ((f, m.0, refl), r.1), ap (λ (l : List Entry). item.word f ∷ l) r.2)

    standings_of : (ps : Phrases) (i : ℕ) (ts : Terms) → AllMean spellings ps ts → (ss : List Standing) × AllStand spellings (listed_among Mark label_mark name_mark i ps) ss × (entries ss ≡ all_items ts)
    standings_of none i nil m = ([], tt, refl)
    standings_of none i (cons t ts) m = absurd m
    standings_of (more p ps) i nil m = absurd m
    standings_of (more p ps) i (cons t ts) m =
        let a = standing_of p (i + 1) t m.0 in
        let b = standings_of ps (i + 1 + length (bytes p)) ts m.1 in (
          a.0 ++ b.0,
          all_stand_append (listed Mark label_mark name_mark (i + 1) p) (listed_among Mark label_mark name_mark (i + 1 + length (bytes p)) ps) a.0 b.0 a.1 b.1,
          entries_append a.0 b.0 ∙ ap₂ (λ (k l : List Entry). k ++ l) a.2 b.2,
        )

  -- a writing of a term has the term's items
  pub has_items : (text : List ℕ) (t : Term) → Writes spellings text t → HasItems spellings text t
  has_items text t w =
      let r = standing_of w.phrase 0 t w.means in
      record {
        standings = r.0;
        left = record { marks = listed Mark label_mark name_mark 0 w.phrase; remain = remain_whole Mark label_mark name_mark text w.phrase w.sound w.written; stand = r.1 };
        are = r.2;
      }

  stand_none : (ms : List Mark) (ss : List Standing) → ms ≡ [] → AllStand spellings ms ss → ss ≡ []
  stand_none [] [] e a = refl
  stand_none [] (s ∷ ss) e a = absurd a
  stand_none (m ∷ ms) ss e a = cc

  -- where no token stands, no item is left
  pub no_items : (text : List ℕ) (at : ℕ) (f : SyntaxFault) (ss : List Standing) → NoToken text at f → ItemsLeft spellings (drop at text) at ss → ss ≡ []
  no_items text at f ss n l = stand_none l.marks ss (none_left Mark label_mark name_mark text at f l.marks n l.remain) l.stand

  -- past a bracket or a comma the same items are left
  pub item_passes : (text : List ℕ) (at : ℕ) (p : Token × ℕ) (ss : List Standing) → Lexed text at p → ((w : Bor (List ℕ)) → p.0 ≡ Word w → ⊥) → ((n : ℕ) → p.0 ≡ Variable n → ⊥) → ItemsLeft spellings (drop at text) at ss → ItemsLeft spellings (drop p.1 text) p.1 ss
  item_passes text at p ss l m n r = record { marks = r.marks; remain = passes Mark label_mark name_mark text at p r.marks l m n r.remain; stand = r.stand }

  first_stands : (m : Mark) (ms : List Mark) (ss : List Standing) → AllStand spellings (m ∷ ms) ss → (a : Standing) × (others : List Standing) × (ss ≡ a ∷ others) × Stands spellings m a × AllStand spellings ms others
  first_stands m ms [] h = absurd h
  first_stands m ms (a ∷ ss) h = (a, ss, refl, h.0, h.1)

  -- a variable is the first item that is left
  pub item_variable : (text : List ℕ) (at : ℕ) (p : Token × ℕ) (n : ℕ) (ss : List Standing) → Lexed text at p → p.0 ≡ Variable n → ItemsLeft spellings (drop at text) at ss → NextItem spellings text ss (record { item = code.Variable n; place = at; end = p.1 })
  item_variable text at p n ss l e r =
      let h = labels Mark label_mark name_mark text at p n r.marks l e r.remain in
      let f = first_stands (label at n) h.0 ss (subst (λ (ms : List Mark). AllStand spellings ms ss) h.1 r.stand) in
      record {
        others = f.1;
        has = f.2 ∙ ap (λ (a : Standing). a ∷ f.1) f.3;
        left = record { marks = h.0; remain = h.2; stand = f.4 };
      }

  -- and so is a word that the lexicon has
  pub item_word : IsLexicon spellings → (text : List ℕ) (at : ℕ) (p : Token × ℕ) (w : Bor (List ℕ)) (v : ℕ) (ss : List Standing) → Lexed text at p → p.0 ≡ Word w → Spells spellings v w.now → ItemsLeft spellings (drop at text) at ss → NextItem spellings text ss (record { item = code.Word v; place = at; end = p.1 })
  item_word laws text at p w v ss l e s r =
      let h = named Mark label_mark name_mark text at p w r.marks l e r.remain in
      let f = first_stands (name at w.now) h.others ss (subst (λ (ms : List Mark). AllStand spellings ms ss) h.has r.stand) in
      let same : f.3.0 ≡ v = laws.single f.3.0 v w.now f.3.1 s in
      record {
        others = f.1;
        has = f.2 ∙ ap (λ (a : Standing). a ∷ f.1) (f.3.2 ∙ ap (λ (k : ℕ). record { place = at; entry = item.word k }) same);
        left = record { marks = h.others; remain = remain_from Mark label_mark name_mark text at p (token.name w.now) h.others l (ap part e) h.left; stand = f.4 };
      }

  -- a word that the lexicon lacks is no item
  pub no_word : (text : List ℕ) (at : ℕ) (p : Token × ℕ) (w : Bor (List ℕ)) (ss : List Standing) → Lexed text at p → p.0 ≡ Word w → ((v : ℕ) → Spells spellings v w.now → ⊥) → ItemsLeft spellings (drop at text) at ss → ss ≡ []
  no_word text at p w ss l e lacks r =
      let h = named Mark label_mark name_mark text at p w r.marks l e r.remain in
      let f = first_stands (name at w.now) h.others ss (subst (λ (ms : List Mark). AllStand spellings ms ss) h.has r.stand) in
      absurd (lacks f.3.0 f.3.1)
