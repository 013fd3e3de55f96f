use Rattle.std.specs.Prelude.{◌≡◌, ℕ, List, Some, None, Option}
use Rattle.std.proofs.Common.{Bor}
use Rattle.script.specs.declared.line.Line.{Line}
use Rattle.script.specs.declared.line.Line.TheVariants as line
use Rattle.sheet.specs.declared.calls.Call.{Call}
use Rattle.sheet.specs.declared.calls.Call.TheVariants as call

-- The call is what the line asks for over a book: a text is read by the book's words, and a word is composed with the rows ps, which are
-- the line's fields as numbers. A line that asks for nothing is a look at the mark, which changes nothing.
abbrev pub AsksFor : {B : Type 0} → Option Line → List ℕ → B → Call B → Type 0
AsksFor (Some (line.Variable x)) ps book c = c ≡ call.Variable x
AsksFor {B} (Some (line.Compose w fields)) ps book c = (rows : Bor (List ℕ)) × (c ≡ call.Compose w rows) × (rows.now ≡ ps)
AsksFor {B} (Some (line.Read bytes)) ps book c =
    (text : Bor (List ℕ)) × (words : Bor B) × (c ≡ call.Read text words) × (text.now ≡ bytes.now) × (words.now ≡ book)
AsksFor (Some (line.Equate p q)) ps book c = c ≡ call.Equate p q
AsksFor (Some (line.Back n m)) ps book c = c ≡ call.Back n m
AsksFor (Some line.Mark) ps book c = c ≡ call.Mark
AsksFor (Some line.Degree) ps book c = c ≡ call.Degree
AsksFor (Some (line.Resolve p)) ps book c = c ≡ call.Resolve p
AsksFor None ps book c = c ≡ call.Mark
