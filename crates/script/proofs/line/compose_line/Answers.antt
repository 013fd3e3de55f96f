use Rattle.std.proofs.lemmas.Bool.{both_ways}
use Rattle.script.specs.Fields.{fields}
use Rattle.script.specs.declared.verb.Verb.TheVariants.{Compose}
use Rattle.script.proofs.Lines.{shaped}
use Rattle.script.proofs.Splits.{first_field, first_is}
use Rattle.script.proofs.line.compose_line.Goals as goal

pub returns-else-are_numbers : goal.returns-else-are_numbers
returns-else-are_numbers c a f =
    let s = shaped Compose c.args.rest.now a f in
    let k = first_is c.args.rest.now _ _ s.0 s.1.0 c.in_ok-word.ensures s.1.1 s.1.2 in
    both_ways c.are_numbers.result c.if-are_numbers.false (c.are_numbers.ensures.1 (s.1.0, s.1.1.1, k.1))

pub returns-in_err-word : goal.returns-in_err-word
returns-in_err-word c = rw c.from_residual.ensures (λ a f.
    let s = shaped Compose c.args.rest.now a f in
    c.in_err-word.ensures s.0 (fields s.1.0) (first_field c.args.rest.now s.0 s.1.0 s.1.1 s.1.2))
