use Rattle.std.specs.Prelude.{◌≡◌, ℕ, ◌≢◌, Result, MatchResult, List, codes}
use Rattle.layout.specs.declared.causes.FormFault.{FormFault}
use Rattle.layout.specs.declared.causes.FormFault.TheVariants.{Kind as UnknownKind}
use Rattle.layout.specs.declared.kind.Kind.{Kind}
use Rattle.layout.specs.declared.kind.Kind.TheVariants.{Marks, Lines}

-- The byte that stands for a kind: 1 for marks, 2 for lines.
abbrev pub number_of : Kind → ℕ
number_of Marks = 1
number_of Lines = 2

-- The result is the kind that the byte stands for, or the fault that it stands for none.
abbrev pub Decodes : ℕ → Result Kind FormFault → Type 0
Decodes byte r = MatchResult r (λ kind. number_of kind ≡ byte) (λ f. (f ≡ UnknownKind byte) × (byte ≢ 1) × (byte ≢ 2))

-- A kind is told by its name.
abbrev pub kind_text : Kind → List ℕ
kind_text Marks = codes "marks"
kind_text Lines = codes "lines"
