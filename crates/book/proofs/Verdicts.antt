-- For each list of bytes at most one verdict fits.
use Rattle.std.proofs.Common.{◌≡◌, ℕ, List, Ok, Err, Result, refl, ap, inl, inr, arith}
use Rattle.book.specs.Verdicts.{IsLinesBook, IsMarksBook, Verdict}
use Rattle.layout.specs.declared.kind.Kind.{Kind}
use Rattle.layout.specs.declared.kind.Kind.TheVariants.{Marks, Lines}
use Rattle.book.specs.declared.causes.BookFault.{BookFault}
use Rattle.book.specs.declared.causes.BookFault.TheVariants.{Form, Law}
use Rattle.book.specs.declared.causes.LawFault.{LawFault}
use Rattle.layout.proofs.FormFaults.{bad_form_once, good_form_none}
use Rattle.scale.specs.Degrees.{line_operations, mark_operations}
use Rattle.book.proofs.LawFaults.{lawful_none, unlawful_once}

-- A book of the right form whose law f is broken is neither a book of marks nor one of lines.
marks_none : (B : List ℕ) (f : LawFault) → IsMarksBook B → Verdict B (Err (Law f)) → ⊥
marks_none B f book bad = lawful_none mark_operations B f book.lawful (bad.1 book.kind)

lines_none : (B : List ℕ) (f : LawFault) → IsLinesBook B → Verdict B (Err (Law f)) → ⊥
lines_none B f book bad = lawful_none line_operations B f book.lawful (bad.2 book.kind)

law_once : (B : List ℕ) (f g : LawFault) → Verdict B (Err (Law f)) → Verdict B (Err (Law g)) → f ≡ g
law_once B f g a b =
    elim a.0.kind [
      | inl marks ↦ unlawful_once mark_operations B f g (a.1 marks) (b.1 marks)
      | inr lines ↦ unlawful_once line_operations B f g (a.2 lines) (b.2 lines)
    ]

kinds : (B : List ℕ) → IsMarksBook B → IsLinesBook B → ⊥
kinds B a b = omega (arith, a.kind, b.kind)

pub verdict_once : (B : List ℕ) (v w : Result Kind BookFault) → Verdict B v → Verdict B w → v ≡ w
verdict_once B (Ok Marks) (Ok Marks) a b = refl
verdict_once B (Ok Marks) (Ok Lines) a b = absurd (kinds B a b)
verdict_once B (Ok Marks) (Err (Form g)) a b = absurd (good_form_none B g a.form b)
verdict_once B (Ok Marks) (Err (Law g)) a b = absurd (marks_none B g a b)
verdict_once B (Ok Lines) (Ok Marks) a b = absurd (kinds B b a)
verdict_once B (Ok Lines) (Ok Lines) a b = refl
verdict_once B (Ok Lines) (Err (Form g)) a b = absurd (good_form_none B g a.form b)
verdict_once B (Ok Lines) (Err (Law g)) a b = absurd (lines_none B g a b)
verdict_once B (Err (Form f)) (Ok Marks) a b = absurd (good_form_none B f b.form a)
verdict_once B (Err (Form f)) (Ok Lines) a b = absurd (good_form_none B f b.form a)
verdict_once B (Err (Form f)) (Err (Form g)) a b = ap (λ (x : _). Err (Form x)) (bad_form_once B f g a b)
verdict_once B (Err (Form f)) (Err (Law g)) a b = absurd (good_form_none B f b.0 a)
verdict_once B (Err (Law f)) (Ok Marks) a b = absurd (marks_none B f b a)
verdict_once B (Err (Law f)) (Ok Lines) a b = absurd (lines_none B f b a)
verdict_once B (Err (Law f)) (Err (Form g)) a b = absurd (good_form_none B g a.0 b)
verdict_once B (Err (Law f)) (Err (Law g)) a b = ap (λ (x : LawFault). Err (Law x)) (law_once B f g a b)
