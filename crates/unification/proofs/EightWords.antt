-- The eight words keep the laws of a vocabulary: each law is one computed test over the table.
use Rattle.std.proofs.Common.{◌≡◌, ℕ, ◌<◌, ◌≤◌, min, true, ◌||◌, eqb, leb, ◌⊎◌, sym, refl, ap, ◌∙◌, inl, inr, arith}
use Rattle.std.proofs.lemmas.Bool.{cases_lt, eqb-true, leb-true, le-ltb, lt-ltb, or_cases}
use Rattle.fault.specs.Firsts.{Below}
use Rattle.scale.specs.DegreesLemmas.{same_mark}
use Rattle.scale.specs.Laws.{mark_laws}
use Rattle.scale.specs.Degrees.{mark_operations}
use Rattle.vocabulary.specs.Words.{IsVocabulary}
use Rattle.unification.specs.EightWords.{eight_mark, eight_words}
use Rattle.unification.specs.Theorems.{WeakUnification}
use Rattle.unification.proofs.Main.{weak_unification}
use Rattle.unification.proofs.Searches.{every, every_below}

-- A number that is no word has the entry 0, on either side.
outside_left : (f g : ℕ) → 8 ≤ f → eight_mark f g ≡ 0
outside_left f g h = rw (le-ltb f 8 h)

outside_right : (f g : ℕ) → 8 ≤ g → eight_mark f g ≡ 0
outside_right f g h =
    elim (cases_lt f 8) [
      | inl lt ↦ rw (lt-ltb f 8 lt, le-ltb g 8 h)
      | inr ge ↦ outside_left f g ge
    ]

symmetric_test : every 8 (λ f. every 8 (λ g. eqb (eight_mark f g) (eight_mark g f))) ≡ true
symmetric_test = refl

transitive_test : every 8 (λ f. every 8 (λ g. every 8 (λ h. leb (min (eight_mark f g) (eight_mark g h)) (eight_mark f h)))) ≡ true
transitive_test = refl

same_test : every 8 (λ f. eqb (eight_mark f f) 1000) ≡ true
same_test = refl

typed_test : every 8 (λ f. every 8 (λ g. eqb (eight_words.arity f) (eight_words.arity g) || eqb (eight_mark f g) 0)) ≡ true
typed_test = refl

small_test : every 8 (λ f. leb (eight_words.arity f) 6) ≡ true
small_test = refl

symmetric : (f g : ℕ) → eight_mark f g ≡ eight_mark g f
symmetric f g = go (cases_lt f 8) (cases_lt g 8)
  where
    go : (f < 8) ⊎ (8 ≤ f) → (g < 8) ⊎ (8 ≤ g) → eight_mark f g ≡ eight_mark g f
    go (inl hf) (inl hg) = eqb-true (eight_mark f g) (eight_mark g f) (every_below 8 (λ j. eqb (eight_mark f j) (eight_mark j f)) (every_below 8 (λ i. every 8 (λ j. eqb (eight_mark i j) (eight_mark j i))) symmetric_test f hf) g hg)
    go (inl hf) (inr hg) = outside_right f g hg ∙ sym (outside_left g f hg)
    go (inr hf) d = outside_left f g hf ∙ sym (outside_right g f hf)

transitive : (f g h : ℕ) → min (eight_mark f g) (eight_mark g h) ≤ eight_mark f h
transitive f g h = go (cases_lt f 8) (cases_lt g 8) (cases_lt h 8)
  where
    go : (f < 8) ⊎ (8 ≤ f) → (g < 8) ⊎ (8 ≤ g) → (h < 8) ⊎ (8 ≤ h) → min (eight_mark f g) (eight_mark g h) ≤ eight_mark f h
    go (inl hf) (inl hg) (inl hh) =
        leb-true (min (eight_mark f g) (eight_mark g h)) (eight_mark f h)
        (every_below 8 (λ k. leb (min (eight_mark f g) (eight_mark g k)) (eight_mark f k))
        (every_below 8 (λ j. every 8 (λ k. leb (min (eight_mark f j) (eight_mark j k)) (eight_mark f k)))
        (every_below 8 (λ i. every 8 (λ j. every 8 (λ k. leb (min (eight_mark i j) (eight_mark j k)) (eight_mark i k)))) transitive_test f hf) g hg) h hh)
    go (inl hf) (inl hg) (inr hh) = let z = outside_right g h hh in omega arith
    go (inl hf) (inr hg) c = let z = outside_right f g hg in omega arith
    go (inr hf) b c = let z = outside_left f g hf in omega arith

-- Words of different arity have the entry 0.
typed : Below 8 (λ f. Below 8 (λ g. (eight_words.arity f ≡ eight_words.arity g → ⊥) → eight_mark f g ≡ 0))
typed f hf g hg n =
    let t = every_below 8 (λ j. eqb (eight_words.arity f) (eight_words.arity j) || eqb (eight_mark f j) 0)
    (every_below 8 (λ i. every 8 (λ j. eqb (eight_words.arity i) (eight_words.arity j) || eqb (eight_mark i j) 0)) typed_test f hf) g hg in
    elim (or_cases (eqb (eight_words.arity f) (eight_words.arity g)) (eqb (eight_mark f g) 0) t) [
      | inl e ↦ absurd (n (eqb-true (eight_words.arity f) (eight_words.arity g) e))
      | inr z ↦ eqb-true (eight_mark f g) 0 z
    ]

pub eight_words_lem : IsVocabulary mark_operations eight_words
eight_words_lem =
    record {
      some = omega arith;
      few = omega arith;
      small = λ f hf. leb-true (eight_words.arity f) 6 (every_below 8 (λ i. leb (eight_words.arity i) 6) small_test f hf);
      same = λ f hf.
          let z = eqb-true (eight_mark f f) 1000 (every_below 8 (λ i. eqb (eight_mark i i) 1000) same_test f hf) in same_mark _ _ (ap (λ n. min n 1000) z);
      symmetric = λ f g. same_mark _ _ (ap (λ n. min n 1000) (symmetric f g));
      transitive = λ f g h. let z = transitive f g h in same_mark _ _ (omega arith);
      typed = λ f hf g hg n. same_mark _ _ (ap (λ n. min n 1000) (typed f hf g hg n));
      outside = λ f g h. same_mark _ _ (ap (λ n. min n 1000) (outside_left f g h));
    }

pub eight_theorems : WeakUnification mark_operations eight_words
eight_theorems = weak_unification mark_laws eight_words_lem
