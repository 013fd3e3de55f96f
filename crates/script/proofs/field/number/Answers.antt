use Rattle.std.proofs.Common.{ℕ, List, IsUtf8, sym, subst}
use Rattle.std.proofs.lemmas.Bool.{both_ways}
use Rattle.std.specs.Str.Parse.{ParsesUnsigned}
use Rattle.script.specs.Fields.{Plain}
use Rattle.script.proofs.Decimals.{Told, decimal_utf8, decimal_plain, number_parsed}
use Rattle.script.proofs.field.number.Goals as goal

pub returns-then-not-is_plain : goal.returns-then-not-is_plain
returns-then-not-is_plain c n h e = both_ways c.is_plain.result c.if-not-is_plain.true (c.is_plain.ensures.1 (subst Plain e (decimal_plain n h)))

pub returns : goal.returns
returns c =
    let digits = c.args.digits.now in
    subst (Told digits) (sym c.ok.ensures.value)
    (number_parsed digits c.parse.result (c.is_plain.ensures.0 c.if-not-is_plain.false)
    (subst (λ (t : List ℕ). ParsesUnsigned 16 10 t c.parse.result) c.in-Ok.ensures.cases.0 c.parse.ensures.value.0))

pub returns-in_default : goal.returns-in_default
returns-in_default c n h e = c.in_default.ensures.cases.0 (subst IsUtf8 e (decimal_utf8 n h))
