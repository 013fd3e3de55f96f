-- The eight names are a lexicon: each law is one computed test over them.
use Rattle.std.proofs.Common.{◌≡◌, ℕ, ◌+◌, ◌*◌, ◌<◌, Bool, true, not, ◌&&◌, ◌||◌, eqb, leb, List, [], length, get_or, Some, None, sym, refl, ap, ◌∙◌, subst, inl, inr, arith}
use Rattle.std.proofs.lemmas.Bool.{and_parts, or_cases, not-true, both_ways, cases_lt, lt-ltb, le-ltb, leb-true, eqb-true, eq-eqb}
use Rattle.unification.proofs.Searches.{every, every_below}
use Rattle.vocabulary.specs.Spellings.{fits, IsSpelling, IsLexicon}
use Rattle.worked.specs.Lexicon.{eight_names, eight_spellings}

abbrev name : ℕ → List ℕ
name w = get_or eight_names w []

-- A number that has a spelling is one of the eight, and has its name.
is_named : (w : ℕ) (s : List ℕ) → eight_spellings w ≡ Some s → (w < 8) × (s ≡ name w)
is_named w s e =
    elim (cases_lt w 8) [
      | inl h ↦ (h, (let t : eight_spellings w ≡ Some (name w) = rw (lt-ltb w 8 h) refl in let same : s ≡ name w = cc in same))
      | inr h ↦ let t : eight_spellings w ≡ None = rw (le-ltb w 8 h) refl in let z : ◌≡◌ {A = ℕ} 0 1 = cc in absurd (omega arith)
    ]

abbrev spelling_test : List ℕ → Bool
spelling_test s = leb 1 (length s) && (leb (length s) 16 && every (length s) (λ k. fits k (get_or s k 0)))

spelling_tested : (s : List ℕ) → spelling_test s ≡ true → IsSpelling s
spelling_tested s t =
    let a = and_parts (leb 1 (length s)) (leb (length s) 16 && every (length s) (λ k. fits k (get_or s k 0))) t in
    let b = and_parts (leb (length s) 16) (every (length s) (λ k. fits k (get_or s k 0))) a.1 in
    record {
      some = leb-true 1 (length s) a.0;
      short = leb-true (length s) 16 b.0;
      signs = every_below (length s) (λ k. fits k (get_or s k 0)) b.1;
    }

names_spelled : every 8 (λ w. spelling_test (name w)) ≡ true
names_spelled = refl

-- The length and the first character of a name tell it from the others.
abbrev told : List ℕ → ℕ
told s = length s * 256 + get_or s 0 0

names_apart : every 8 (λ v. every 8 (λ w. not (eqb (told (name v)) (told (name w))) || eqb v w)) ≡ true
names_apart = refl

apart : (v w : ℕ) → v < 8 → w < 8 → name v ≡ name w → v ≡ w
apart v w hv hw e =
    let t = every_below 8 (λ j. not (eqb (told (name v)) (told (name j))) || eqb v j)
    (every_below 8 (λ i. every 8 (λ j. not (eqb (told (name i)) (told (name j))) || eqb i j)) names_apart v hv) w hw in
    elim (or_cases (not (eqb (told (name v)) (told (name w)))) (eqb v w) t) [
      | inl n ↦ absurd (both_ways (eqb (told (name v)) (told (name w))) (not-true (eqb (told (name v)) (told (name w))) n) (eq-eqb (told (name v)) (told (name w)) (ap told e)))
      | inr h ↦ eqb-true v w h
    ]

pub lawful : IsLexicon eight_spellings
lawful = record {
  formed = λ w s e.
      let i = is_named w s e in
      subst IsSpelling (sym i.1) (spelling_tested (name w) (every_below 8 (λ k. spelling_test (name k)) names_spelled w i.0));
  single = λ v w s a b.
      let p = is_named v a.written a.has in
      let q = is_named w b.written b.has in
      apart v w p.0 q.0 (sym p.1 ∙ a.same ∙ sym b.same ∙ q.1);
}
