-- What the loop over the words of a text keeps, and what is told of them.
use Rattle.std.proofs.Common.{◌≡◌, ℕ, ◌-◌, ◌<◌, true, List, [], ◌∷◌, ◌++◌, length, get_or, take, drop, Ok, Err, Option, Result, MatchResult, is_ok, None, Some, sym, refl, ap, ◌∙◌, subst, append_assoc, append-nil, arith, Bor}
use Rattle.std.proofs.ByRecursion.{All-push, All-weaker}
use Rattle.std.specs.Result.{result_and}
use Rattle.std.specs.Slice.{IsItemAt}
use Rattle.std.specs.List.{AllByRecursion}
use Rattle.vocabulary.specs.Spellings.{Spells, IsLexicon}
use Rattle.text.specs.declared.causes.TextFault.{TextFault}
use Rattle.text.specs.declared.causes.TextFault.TheVariants.{UnknownWord, WrongArguments}
use Rattle.text.specs.declared.token.Token.{Token}
use Rattle.text.specs.declared.token.Token.TheVariants.{Word}
use Rattle.text.specs.declared.token.SyntaxFault.{SyntaxFault}
use Rattle.text.specs.Listings.{unlisted, occurs}
use Rattle.text.specs.Lookups.{FirstAt, Told, Lacking, Arity, Sure, WordsRefused}
use Rattle.text.specs.Meanings.{Known, Fitting}
use Rattle.text.specs.Occurrences.{Occurrence, words}
use Rattle.text.specs.Phrases.{Phrase, Phrases, count, bytes, bracketed, Sound, AllSound}
use Rattle.text.specs.Tokens.{Ended, Lexed, NoToken, part, name}
use Rattle.text.proofs.Spelling.{to_end}
use Rattle.text.proofs.Walk.{Named, WordsLeft, advance, named, none_left, remain_from, words_whole}

-- so many arguments stand at the front of the bytes
abbrev pub Counts : List ℕ → ℕ → Type 0
Counts bytes n = (ps : Phrases) (behind : List ℕ) → AllSound ps → Ended behind → bytes ≡ bracketed ps ++ behind → n ≡ count ps

-- what is read at a place of the list stands there
pub item_by : (xs : List ℕ) (i : ℕ) (b : Bor ℕ) → IsItemAt xs i (Some b) → (i < length xs) × (get_or xs i 0 ≡ b.now)
item_by xs i b read = (read.3.0, sym (read.4 (omega arith) 0))

module _ (spellings : ℕ → Option (List ℕ)) (arities : List ℕ) where
  -- the vocabulary does not have the one word that is spelled so
  pub lacking_by : (s : List ℕ) (w : ℕ) → IsLexicon spellings → Spells spellings w s → IsItemAt arities w None → Lacking spellings arities s
  lacking_by s w laws spells read = λ n has other. omega (arith, read.3, laws.single n w s other spells)

  -- it has it, and this is how many arguments it takes
  pub arity_by : (s : List ℕ) (w a : ℕ) → IsLexicon spellings → Spells spellings w s → w < length arities → get_or arities w 0 ≡ a → Arity spellings arities s a
  arity_by s w a laws spells has takes = record { number = w; spells = spells; has = has; takes = takes; single = λ v u p q. laws.single v u s p q }

  -- the refusal is that of the first word that does not fit
  abbrev pub Misfit : List Occurrence → TextFault → Type 0
  Misfit ws = Told (Fitting spellings arities) ws WrongArguments

  -- the words before `at` are known, and the others are left; those before fit, or else the first of all that does not fit is told
  pub record Walked (text : List ℕ) (at : ℕ) (ws : List Occurrence) (fit : Result (Unit {0}) TextFault) : Type 0 where
    pub before : List Occurrence
    pub others : List Occurrence
    pub split : ws ≡ before ++ others
    pub known : AllByRecursion (Known spellings arities) before
    pub fits : MatchResult fit (λ _. AllByRecursion (Sure spellings arities) before) (Misfit ws)
    pub left : WordsLeft (drop at text) at others

  module _ (text : List ℕ) where
    pub walked_none : (p : Phrase) → Sound p → bytes p ≡ text → Walked text 0 (words 0 p) (Ok tt)
    walked_none p s e = record { before = []; others = words 0 p; split = refl; known = tt; fits = tt; left = words_whole text p s e }

    module _ (at : ℕ) (ws : List Occurrence) (fit : Result (Unit {0}) TextFault) (walked : Walked text at ws fit) where
      pub walked_past : (p : Token × ℕ) → Lexed text at p → ((w : Bor (List ℕ)) → p.0 ≡ Word w → ⊥) → Walked text p.1 ws fit
      walked_past p l m = record {
        before = walked.before;
        others = walked.others;
        split = walked.split;
        known = walked.known;
        fits = walked.fits;
        left = advance text at p walked.others l m walked.left;
      }

      -- where no token stands, all words were met
      met_all : (f : SyntaxFault) → NoToken text at f → ws ≡ walked.before
      met_all f n =
          walked.split ∙ ap (λ l. walked.before ++ l) (none_left Occurrence unlisted occurs text at f walked.others n walked.left) ∙ append-nil walked.before

      module _ (p : Token × ℕ) (w : Bor (List ℕ)) (l : Lexed text at p) (is : p.0 ≡ Word w) where
        abbrev next : Named Occurrence unlisted occurs w.now (drop p.1 text) at walked.others
        next = named Occurrence unlisted occurs text at p w walked.others l is walked.left

        abbrev found : Occurrence
        found = occurs at w.now (count next.given)

        split_here : ws ≡ walked.before ++ (found ∷ next.others)
        split_here = walked.split ∙ ap (λ l. walked.before ++ l) next.has

        pub unknown_first : Lacking spellings arities w.now → FirstAt (Known spellings arities) ws at
        unknown_first lacks = record {
          word = found;
          first = record { before = walked.before; behind = next.others; split = split_here; good = walked.known; fails = λ k. lacks k.number k.has k.spells };
          at = refl;
        }

        misfit_here : AllByRecursion (Sure spellings arities) walked.before → (Fitting spellings arities found → ⊥) → Misfit ws (WrongArguments at)
        misfit_here sure fails = (
          at,
          refl,
          record {
            word = found;
            first = record {
              before = walked.before;
              behind = next.others;
              split = split_here;
              good = All-weaker (Sure spellings arities) (Fitting spellings arities) (λ o s. s.0) walked.before sure;
              fails = fails;
            };
            at = refl;
          },
        )

        -- a word that is not known does not fit
        pub unknown_unfit : Lacking spellings arities w.now → MatchResult {T = Unit {0}} (result_and fit (Err (WrongArguments at))) (λ _. AllByRecursion (Sure spellings arities) ws) (Misfit ws)
        unknown_unfit lacks = go fit walked.fits
          where
            go : (g : Result (Unit {0}) TextFault) → MatchResult g (λ _. AllByRecursion (Sure spellings arities) walked.before) (Misfit ws) → MatchResult {T = Unit {0}} (result_and g (Err (WrongArguments at))) (λ _. AllByRecursion (Sure spellings arities) ws) (Misfit ws)
            go (Ok x) f = misfit_here f (λ k. lacks k.number k.has k.spells)
            go (Err e) f = f

        module _ (a : ℕ) (arity : Arity spellings arities w.now a) where
          on_by : (g : Result (Unit {0}) TextFault) → MatchResult g (λ _. AllByRecursion (Sure spellings arities) (walked.before ++ found ∷ [])) (Misfit ws) → Walked text p.1 ws g
          on_by g fits = record {
            before = walked.before ++ found ∷ [];
            others = next.others;
            split = split_here ∙ sym (append_assoc walked.before (found ∷ []) next.others);
            known = All-push (Known spellings arities) walked.before found walked.known (record { number = arity.number; spells = arity.spells; has = arity.has });
            fits = fits;
            left = remain_from Occurrence unlisted occurs text at p (name w.now) next.others l (ap part is) next.left;
          }

          counted : (n : ℕ) → Counts (take (length text - p.1) (drop p.1 text)) n → n ≡ count next.given
          counted n c = c next.given next.behind next.sound next.ended (to_end text p.1 ∙ next.read)

          sure : (n : ℕ) → Counts (take (length text - p.1) (drop p.1 text)) n → a ≡ n → Sure spellings arities found
          sure n c e = (record { number = arity.number; spells = arity.spells; has = arity.has; takes = arity.takes ∙ e ∙ counted n c }, arity.single)

          misfit : (n : ℕ) → Counts (take (length text - p.1) (drop p.1 text)) n → (a ≡ n → ⊥) → Fitting spellings arities found → ⊥
          misfit n c ne f =
              ne (sym arity.takes ∙ ap (λ n. get_or arities n 0) (arity.single arity.number f.number arity.spells f.spells) ∙ f.takes ∙ sym (counted n c))

          -- of the refusals, the first stays
          pub walked_refused : (is_ok fit ≡ true → ⊥) → Walked text p.1 ws fit
          walked_refused h = on_by fit (go fit walked.fits h)
            where
              go : (g : Result (Unit {0}) TextFault) → MatchResult g (λ _. AllByRecursion (Sure spellings arities) walked.before) (Misfit ws) → (is_ok g ≡ true → ⊥) → MatchResult g (λ _. AllByRecursion (Sure spellings arities) (walked.before ++ found ∷ [])) (Misfit ws)
              go (Ok x) f h = absurd (h refl)
              go (Err e) f h = f

          -- the word fits
          pub walked_fitting : (n : ℕ) → Counts (take (length text - p.1) (drop p.1 text)) n → a ≡ n → Walked text p.1 ws fit
          walked_fitting n c e = on_by fit (go fit walked.fits)
            where
              go : (g : Result (Unit {0}) TextFault) → MatchResult g (λ _. AllByRecursion (Sure spellings arities) walked.before) (Misfit ws) → MatchResult g (λ _. AllByRecursion (Sure spellings arities) (walked.before ++ found ∷ [])) (Misfit ws)
              go (Ok x) f = All-push (Sure spellings arities) walked.before found f (sure n c e)
              go (Err e) f = f

          -- it is the first that does not fit
          pub walked_misfit : is_ok fit ≡ true → (n : ℕ) → Counts (take (length text - p.1) (drop p.1 text)) n → (a ≡ n → ⊥) → Walked text p.1 ws (Err (WrongArguments at))
          walked_misfit h n c ne = on_by (Err (WrongArguments at)) (misfit_here (go fit walked.fits h) (misfit n c ne))
            where
              go : (g : Result (Unit {0}) TextFault) → MatchResult g (λ _. AllByRecursion (Sure spellings arities) walked.before) (Misfit ws) → is_ok g ≡ true → AllByRecursion (Sure spellings arities) walked.before
              go (Ok x) f h = f
              go (Err e) f h = cc

      -- once all words were met
      pub all_known : (f : SyntaxFault) → NoToken text at f → AllByRecursion (Known spellings arities) ws
      all_known f n = subst (AllByRecursion (Known spellings arities)) (sym (met_all f n)) walked.known

      pub all_judged : (f : SyntaxFault) → NoToken text at f → MatchResult fit (λ _. AllByRecursion (Sure spellings arities) ws) (Misfit ws)
      all_judged f n =
          subst (λ l. MatchResult fit (λ _. AllByRecursion (Sure spellings arities) l) (Misfit ws)) (sym (met_all f n)) walked.fits

  -- that a word is not known is told first
  pub told_in_order : (ws : List Occurrence) (known fit : Result (Unit {0}) TextFault) → MatchResult known (λ _. AllByRecursion (Known spellings arities) ws) (Told (Known spellings arities) ws UnknownWord) → MatchResult fit (λ _. AllByRecursion (Sure spellings arities) ws) (Misfit ws) → MatchResult {T = Unit {0}} (result_and known fit) (λ _. AllByRecursion (Sure spellings arities) ws) (WordsRefused spellings arities ws)
  told_in_order ws (Ok x) (Ok y) k f = f
  told_in_order ws (Ok x) (Err e) k f = subst (WordsRefused spellings arities ws) (sym f.1) (k, f.2)
  told_in_order ws (Err e) fit k f = subst (WordsRefused spellings arities ws) (sym k.1) k.2
