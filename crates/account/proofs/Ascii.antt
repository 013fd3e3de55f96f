-- A spelling is text.
use Rattle.std.proofs.Common.{◌≡◌, ℕ, ◌<◌, true, List, length, get_or, IsUtf8, Ok, Err, Result, MatchResult, rules, arith}
use Rattle.std.specs.Result.{IsOk}
use Rattle.std.proofs.lemmas.Str.Ascii.{IsAscii-from_reads}
use Rattle.std.proofs.lemmas.Str.{IsUtf8-from_ascii}
use Rattle.std.proofs.lemmas.Bool.Decides.{nat_tests}
use Rattle.vocabulary.specs.Spellings.{Signs, fits}

fits_ascii : (k c : ℕ) → fits k c ≡ true → c < 128
fits_ascii k c h = grind (arith, nat_tests)

pub signs_utf8 : (s : List ℕ) → Signs s → IsUtf8 s
signs_utf8 s signs =
    IsUtf8-from_ascii s (IsAscii-from_reads s (length s) (omega arith) (λ k h. fits_ascii k (get_or s k 0) (signs k h)))

-- What is not refused is taken.
pub taken : {X E : Type 0} (P : X → Type 0) (Q : Type 0) (R : E → Type 0) (r : Result X E) → MatchResult r P (λ e. (Q → ⊥) × R e) → Q → IsOk r
taken P Q R (Ok x) m q = search rules
taken P Q R (Err e) m q = absurd (m.0 q)
