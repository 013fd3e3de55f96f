use Rattle.std.proofs.Common.{string_bytes, sym}
use Rattle.layout.specs.declared.causes.EntryFault.TheVariants.{Repeated}
use Rattle.report.specs.Forms.{entry_sentence, repeated_sentence}
use Rattle.report.proofs.Telling.{told}
use Rattle.report.proofs.forms.entry_sentence.Goals as goal

pub returns-in-Cut : goal.returns-in-Cut
returns-in-Cut c =
    told string_bytes (entry_sentence c.args.bytes.now c.args.i) _ _ _ c.in-Cut.is c.format.ensures.ok

pub returns-in-Arity : goal.returns-in-Arity
returns-in-Arity c =
    told string_bytes (entry_sentence c.args.bytes.now c.args.i) _ _ _ c.in-Arity.is c.format-in-Arity.ensures.ok

pub returns-in-Length : goal.returns-in-Length
returns-in-Length c =
    told string_bytes (entry_sentence c.args.bytes.now c.args.i) _ _ _ c.in-Length.is c.format-in-Length.ensures.ok

pub returns-in-Spelling : goal.returns-in-Spelling
returns-in-Spelling c =
    told string_bytes (entry_sentence c.args.bytes.now c.args.i) _ _ _ c.in-Spelling.is c.format-in-Spelling.ensures.ok

pub returns-in_ok-spelling-in-Repeated : goal.returns-in_ok-spelling-in-Repeated
returns-in_ok-spelling-in-Repeated c =
    let j = c.in-Repeated.j in
    told string_bytes (entry_sentence c.args.bytes.now c.args.i) _ _ (Repeated j) c.in-Repeated.is
    (told string_bytes (repeated_sentence c.args.i j) _ _ _ (sym c.in_ok-spelling-in-Repeated.ensures) c.format-in-Repeated.ensures.ok)
