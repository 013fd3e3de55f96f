-- An entry that is right has no fault, and one that is wrong has one.
use Rattle.std.proofs.Common.{◌≡◌, ℕ, ◌+◌, ◌<◌, ◌≤◌, List, length, sym, refl, ap, ◌∙◌, inl, inr, arith}
use Rattle.fault.proofs.Checks.{Checks, done, check, Fails, Passes, Single, fails_once, passes_none}
use Rattle.fault.specs.Firsts.{Below}
use Rattle.std.proofs.lemmas.Bool.{cases_order}
use Rattle.vocabulary.specs.Spellings.{Signs}
use Rattle.layout.specs.Entries.{BadEntry, Differs, FirstSpelled, GoodEntry, Present, Sized}
use Rattle.layout.specs.Places.{arity_at, entry_start, spelling_at}
use Rattle.layout.specs.declared.causes.EntryFault.{EntryFault}
use Rattle.layout.specs.declared.causes.EntryFault.TheVariants.{Cut, Arity, Length, Spelling, Repeated}

entry_checks : List ℕ → ℕ → Checks EntryFault
entry_checks B i =
    check (entry_start B i < length B) (λ f. f ≡ Cut)
    (check (arity_at B i ≤ 6) (λ f. f ≡ Arity)
    (check (entry_start B i + 1 < length B) (λ f. f ≡ Cut)
    (check (Sized B i) (λ f. f ≡ Length)
    (check (Present B i) (λ f. f ≡ Cut)
    (check (Signs (spelling_at B i)) (λ f. f ≡ Spelling)
    (check (Below i (Differs B (spelling_at B i))) (λ f. (j : ℕ) × (f ≡ Repeated j) × FirstSpelled B i (spelling_at B i) j)
    done))))))

first_spelled_only : (B s : List ℕ) (n j k : ℕ) → FirstSpelled B n s j → FirstSpelled B n s k → j ≡ k
first_spelled_only B s n j k a b =
    elim (cases_order j k) [
      | inl e ↦ e
      | inr (inl lt) ↦ absurd (b.before j lt a.same)
      | inr (inr gt) ↦ absurd (a.before k gt b.same)
    ]

single : (B : List ℕ) (i : ℕ) → Single (entry_checks B i)
unfolding entry_checks
single B i =
    let one : (x f g : EntryFault) → f ≡ x → g ≡ x → f ≡ g = λ x f g a b. a ∙ sym b in (
      one Cut,
      (
        one Arity,
        (
          one Cut,
          (
            one Length,
            (
              one Cut,
              (
                one Spelling,
                ((λ f g a b. a.1 ∙ (ap Repeated (first_spelled_only B _ i a.0 b.0 a.2 b.2) ∙ sym b.1)), tt),
              ),
            ),
          ),
        ),
      ),
    )

passes : (B : List ℕ) (i : ℕ) → GoodEntry B i → Passes (entry_checks B i)
unfolding entry_checks
passes B i good =
    (omega (arith, good.present), (good.arity, (omega (arith, good.present), ((good.some, good.short), (good.present, (good.signs, (good.fresh, tt)))))))

fails : (B : List ℕ) (i : ℕ) (f : EntryFault) → BadEntry B i f → Fails (entry_checks B i) f
unfolding entry_checks
fails B i Cut (inl past) = inl ((λ h. omega arith), refl)
fails B i Cut (inr (inl cut)) = inr (omega (arith, cut.0), inr (cut.1, inl ((λ h. omega (arith, cut.0)), refl)))
fails B i Cut (inr (inr cut)) =
    inr (omega (arith, cut.0), inr (cut.1, inr (cut.0, inr (cut.2, inl ((λ h. omega (arith, cut.3)), refl)))))
fails B i Arity bad = inr (bad.0, inl ((λ h. omega (arith, bad.1)), refl))
fails B i Length bad = inr (omega (arith, bad.0), inr (bad.1, inr (bad.0, inl (bad.2, refl))))
fails B i Spelling bad =
    inr (omega (arith, bad.0), inr (bad.1, inr (omega (arith, bad.0), inr (bad.2, inr (bad.0, inl (bad.3, refl))))))
fails B i (Repeated j) bad =
    inr (
      omega (arith, bad.0),
      inr (
        bad.1,
        inr (
          omega (arith, bad.0),
          inr (
            bad.2,
            inr (
              bad.0,
              inr (
                bad.3,
                inl ((λ none. none j bad.4.within bad.4.same), (j, refl, bad.4)),
              ),
            ),
          ),
        ),
      ),
    )

pub bad_entry_once : (B : List ℕ) (i : ℕ) (f g : EntryFault) → BadEntry B i f → BadEntry B i g → f ≡ g
bad_entry_once B i f g a b = fails_once (entry_checks B i) (single B i) f g (fails B i f a) (fails B i g b)

pub good_entry_none : (B : List ℕ) (i : ℕ) (f : EntryFault) → GoodEntry B i → BadEntry B i f → ⊥
good_entry_none B i f good bad = passes_none (entry_checks B i) f (passes B i good) (fails B i f bad)
