use Rattle.std.specs.Prelude.{◌≡◌, ℕ, List, Ok, Err, Result}
use Rattle.book.specs.Laws.{Lawful, Unlawful}
use Rattle.book.specs.declared.causes.BookFault.{BookFault}
use Rattle.book.specs.declared.causes.BookFault.TheVariants.{Form, Law}
use Rattle.layout.specs.Forms.{BadForm, GoodForm}
use Rattle.layout.specs.Kinds.{number_of}
use Rattle.layout.specs.Places.{kind_of}
use Rattle.layout.specs.declared.kind.Kind.{Kind}
use Rattle.layout.specs.declared.kind.Kind.TheVariants.{Marks, Lines}
use Rattle.scale.specs.Degrees.{line_operations, mark_operations}
use Rattle.scale.specs.Scales.{Operations}

-- The bytes are a book of the kind k over the scale S: of the right form, of the kind, and lawful.
pub record IsBook {D : Type 0} (S : Operations D) (k : Kind) (B : List ℕ) : Type 0 where
  pub form : GoodForm B
  pub kind : kind_of B ≡ number_of k
  pub lawful : Lawful S B

-- The bytes are a book of marks, or of lines.
abbrev pub IsMarksBook : List ℕ → Type 0
IsMarksBook = IsBook mark_operations Marks

abbrev pub IsLinesBook : List ℕ → Type 0
IsLinesBook = IsBook line_operations Lines

-- What there is to say of bytes that are offered as a book.
abbrev pub Verdict : List ℕ → Result Kind BookFault → Type 0
Verdict B (Ok Marks) = IsMarksBook B
Verdict B (Ok Lines) = IsLinesBook B
Verdict B (Err (Form f)) = BadForm B f
Verdict B (Err (Law f)) =
    GoodForm B × (kind_of B ≡ 1 → Unlawful mark_operations B f) × (kind_of B ≡ 2 → Unlawful line_operations B f)
