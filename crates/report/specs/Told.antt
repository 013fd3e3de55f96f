use Rattle.std.specs.Prelude.{◌≡◌, ℕ, Bool, true, false, List, Ok, Err, Result, string_bytes, ⊤}
use Rattle.std.proofs.Common.{String}
use Rattle.std.specs.declared.alloc.Global.{Global}
use Rattle.book.specs.declared.causes.BookFault.{BookFault}
use Rattle.layout.specs.declared.kind.Kind.{Kind}
use Rattle.report.specs.Reports.{refusal_text}
use Rattle.report.specs.declared.told.Untold.{Untold}
use Rattle.report.specs.declared.told.Untold.TheVariants.{Refused, NoMemory}

-- The answer tells this text, and accepts or refuses as is said; where memory is short it tells nothing.
abbrev pub Tells : Bool → List ℕ → Result (String Global) Untold → Type 0
Tells accepted text (Ok s) = (accepted ≡ true) × (string_bytes s ≡ text)
Tells accepted text (Err (Refused s)) = (accepted ≡ false) × (string_bytes s ≡ text)
Tells accepted text (Err (NoMemory e)) = ⊤

-- The answer is the kind by the verdict on the book B, or tells its refusal.
abbrev pub Checked : List ℕ → Result Kind BookFault → Result Kind Untold → Type 0
Checked B v (Ok k) = v ≡ Ok k
Checked B v (Err (Refused s)) = (f : BookFault) × (v ≡ Err f) × (string_bytes s ≡ refusal_text B f)
Checked B v (Err (NoMemory e)) = ⊤
