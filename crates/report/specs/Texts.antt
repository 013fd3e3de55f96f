use Rattle.std.specs.Prelude.{ℕ, zero, suc, false, List, [], ◌∷◌, ◌++◌, is_ok, Ok, Err, codes, Result}
use Rattle.std.specs.List.{repeat}
use Rattle.layout.specs.declared.kind.Kind.{Kind}
use Rattle.book.specs.declared.causes.BookFault.{BookFault}
use Rattle.fault.specs.Lines.{fault_line}
use Rattle.fault.specs.declared.fault.Fault.{Fault}
use Rattle.fault.specs.declared.layer.Layer.TheVariants.{Sentence}
use Rattle.layout.specs.Places.{arity_at, count_of, spelling_of}
use Rattle.text.specs.Faults.{text_refusal}
use Rattle.text.specs.Sentences.{says}
use Rattle.text.specs.Verdicts.{Verdict as TextVerdict}
use Rattle.text.specs.declared.causes.TextFault.{TextFault}
use Rattle.std.proofs.Common.{String}
use Rattle.std.specs.declared.alloc.Global.{Global}
use Rattle.report.specs.Reports.{refusal_text}
use Rattle.report.specs.Told.{Tells}
use Rattle.report.specs.declared.told.Untold.{Untold}

-- A caret under a place: so many blanks before it.
abbrev pub caret_text : ℕ → List ℕ
caret_text place = repeat place (codes " ") ++ codes "^"

-- A refused text, made of its parts.
abbrev pub shown_refusal : Fault → List ℕ → List ℕ → List ℕ → List ℕ
shown_refusal fault text under sentence =
    fault_line fault ++ (codes "\n" ++ (text ++ (codes "\n" ++ (under ++ (codes "\n" ++ (sentence ++ codes "\n"))))))

abbrev pub text_refused : List ℕ → TextFault → List ℕ
text_refused text f = shown_refusal (text_refusal Sentence f) text (caret_text (text_refusal Sentence f).place) (says f)

-- What is told of a text by the verdict on it.
abbrev pub text_report : List ℕ → Result (Unit {0}) TextFault → List ℕ
text_report text (Ok done) = text ++ codes "\nThis is the text of one term over the words of the book.\n"
text_report text (Err f) = text_refused text f

-- The arities of n words as a list.
unfoldable pub arity_list : ℕ → (ℕ → ℕ) → List ℕ
arity_list zero arity = []
arity_list (suc n) arity = arity_list n arity ++ (arity n ∷ [])

-- What is told of a text over the words of the book B: by the verdict on the book, and where it is accepted by that on the text.
abbrev pub TextTold : List ℕ → List ℕ → Result Kind BookFault → Result (String Global) Untold → Type 0
TextTold B text (Ok kind) r =
    (w : Result (Unit {0}) TextFault) → TextVerdict (spelling_of B) (arity_list (count_of B) (arity_at B)) text w →
    Tells (is_ok w) (text_report text w) r
TextTold B text (Err f) r = Tells false (refusal_text B f) r
