use Rattle.std.proofs.Common.{string_bytes}
use Rattle.report.specs.Forms.{form_sentence}
use Rattle.report.proofs.Telling.{told}
use Rattle.report.proofs.forms.form_sentence.Goals as goal

pub returns-in-Version : goal.returns-in-Version
returns-in-Version c =
    told string_bytes (form_sentence c.args.bytes.now) _ _ _ c.in-Version.is c.format.ensures.ok

pub returns-in-Kind : goal.returns-in-Kind
returns-in-Kind c =
    told string_bytes (form_sentence c.args.bytes.now) _ _ _ c.in-Kind.is c.format-in-Kind.ensures.ok

pub returns-in-TableCut : goal.returns-in-TableCut
returns-in-TableCut c =
    told string_bytes (form_sentence c.args.bytes.now) _ _ _ c.in-TableCut.is c.from_str-in-TableCut.ensures.ok

pub returns-in-LeftOver : goal.returns-in-LeftOver
returns-in-LeftOver c =
    told string_bytes (form_sentence c.args.bytes.now) _ _ _ c.in-LeftOver.is c.from_str-in-LeftOver.ensures.ok
