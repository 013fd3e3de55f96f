-- A book of the right form has no fault of form, and one of a wrong form has one.
use Rattle.std.proofs.Common.{◌≡◌, ℕ, ◌+◌, ◌<◌, ◌≤◌, List, length, Ok, Err, Result, sym, refl, ap, ◌∙◌, subst, inl, inr, arith, MatchResult}
use Rattle.fault.proofs.Checks.{Checks, done, check, Fails, Passes, Single, fails_once, passes_none}
use Rattle.fault.specs.Firsts.{Below}
use Rattle.std.proofs.lemmas.Bool.{cases_order}
use Rattle.layout.specs.Entries.{BadEntry, GoodEntry}
use Rattle.layout.specs.Forms.{BadForm, GoodForm, KnownKind, table_end}
use Rattle.layout.specs.Places.{count_of, kind_of, pair, version_of}
use Rattle.layout.specs.declared.causes.EntryFault.{EntryFault}
use Rattle.layout.specs.declared.causes.FormFault.{FormFault}
use Rattle.layout.specs.declared.causes.FormFault.TheVariants.{Short, Length, Version, Kind, Count, Entry, TableCut, LeftOver}
use Rattle.layout.proofs.EntryFaults.{bad_entry_once, good_entry_none}

-- The first entry that is wrong, and what is wrong with it.
record Wrong (B : List ℕ) (f : FormFault) : Type 0 where
  word : ℕ
  fault : EntryFault
  is : f ≡ Entry word fault
  within : word < count_of B
  before : Below word (GoodEntry B)
  bad : BadEntry B word fault

form_checks : List ℕ → Checks FormFault
form_checks B =
    check (5 ≤ length B) (λ f. f ≡ Short)
    (check (pair B 0 + 2 ≡ length B) (λ f. f ≡ Length)
    (check (version_of B ≡ 1) (λ f. f ≡ Version (version_of B))
    (check (KnownKind B) (λ f. f ≡ Kind (kind_of B))
    (check ((1 ≤ count_of B) × (count_of B ≤ 128)) (λ f. f ≡ Count (count_of B))
    (check (Below (count_of B) (GoodEntry B)) (Wrong B)
    (check (table_end B ≤ length B) (λ f. f ≡ TableCut)
    (check (length B ≤ table_end B) (λ f. f ≡ LeftOver)
    done)))))))

wrong_once : (B : List ℕ) (f g : FormFault) → Wrong B f → Wrong B g → f ≡ g
wrong_once B f g a b =
    let same : a.word ≡ b.word =
    elim (cases_order a.word b.word) [
      | inl e ↦ e
      | inr (inl lt) ↦ absurd (good_entry_none B _ _ (b.before a.word lt) a.bad)
      | inr (inr gt) ↦ absurd (good_entry_none B _ _ (a.before b.word gt) b.bad)
    ] in
    let fault = bad_entry_once B b.word a.fault b.fault (subst (λ (i : ℕ). BadEntry B i a.fault) same a.bad) b.bad in
    let p = a.is in
    let q = b.is in
    cc

single : (B : List ℕ) → Single (form_checks B)
unfolding form_checks
single B =
    let one : (x f g : FormFault) → f ≡ x → g ≡ x → f ≡ g = λ x f g a b. a ∙ sym b in
    (one Short, (one Length, (one (Version _), (one (Kind _), (one (Count _), (wrong_once B, (one TableCut, (one LeftOver, tt))))))))

passes : (B : List ℕ) → GoodForm B → Passes (form_checks B)
unfolding form_checks
passes B good = (
  good.framed.0,
  (
    good.framed.1,
    (
      good.version,
      (
        good.kind,
        (
          (good.some, good.few),
          (
            good.entries,
            (omega (arith, good.filled), (omega (arith, good.filled), tt)),
          ),
        ),
      ),
    ),
  ),
)

fails : (B : List ℕ) (f : FormFault) → BadForm B f → Fails (form_checks B) f
unfolding form_checks
fails B Short bad = inl ((λ h. omega (arith, bad)), refl)
fails B Length bad = inr (bad.0, inl (bad.1, refl))
fails B (Version v) bad =
    inr (bad.0.0, inr (bad.0.1, inl ((λ e. bad.2 (bad.1 ∙ e)), ap Version bad.1)))
fails B (Kind k) bad = inr (bad.0.0, inr (bad.0.1, inr (bad.1, inl (bad.3, ap Kind bad.2))))
fails B (Count n) bad =
    inr (
      bad.0.0,
      inr (
        bad.0.1,
        inr (
          bad.1,
          inr (
            bad.2,
            inl ((λ h. bad.4 (omega (arith, bad.3, h.0), omega (arith, bad.3, h.1))), ap Count bad.3),
          ),
        ),
      ),
    )
fails B (Entry i e) bad =
    let h = bad.0 in
    inr (
      h.0.0,
      inr (
        h.0.1,
        inr (
          h.1,
          inr (
            h.2,
            inr (
              (h.3, h.4),
              inl (
                (λ all. good_entry_none B i e (all i bad.1) bad.3),
                record { word = i; fault = e; is = refl; within = bad.1; before = bad.2; bad = bad.3 },
              ),
            ),
          ),
        ),
      ),
    )
fails B TableCut bad =
    let h = bad.0 in
    inr (h.0.0, inr (h.0.1, inr (h.1, inr (h.2, inr ((h.3, h.4), inr (bad.1, inl ((λ l. omega (arith, bad.2, l)), refl)))))))
fails B LeftOver bad =
    let h = bad.0 in
    inr (
      h.0.0,
      inr (
        h.0.1,
        inr (
          h.1,
          inr (
            h.2,
            inr (
              (h.3, h.4),
              inr (
                bad.1,
                inr (
                  omega (arith, bad.2),
                  inl ((λ l. omega (arith, bad.2, l)), refl),
                ),
              ),
            ),
          ),
        ),
      ),
    )

pub bad_form_once : (B : List ℕ) (f g : FormFault) → BadForm B f → BadForm B g → f ≡ g
bad_form_once B f g a b = fails_once (form_checks B) (single B) f g (fails B f a) (fails B g b)

pub good_form_none : (B : List ℕ) (f : FormFault) → GoodForm B → BadForm B f → ⊥
good_form_none B f good bad = passes_none (form_checks B) f (passes B good) (fails B f bad)

pub form_only : (B : List ℕ) (r : Result (Unit {0}) FormFault) → MatchResult r (λ _. GoodForm B) (BadForm B) → MatchResult r (λ _. (f : FormFault) → BadForm B f → ⊥) (λ f. (g : FormFault) → BadForm B g → g ≡ f)
form_only B (Ok u) good = λ f bad. good_form_none B f good bad
form_only B (Err f) bad = λ g other. bad_form_once B g f other bad
