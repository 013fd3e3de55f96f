use Rattle.std.proofs.Common.{◌≡◌, ◌+◌, ◌<◌, length, get_or, refl, ap, ◌∙◌, rules, arith}
use Rattle.text.specs.Tokens.{word_rest}
use Rattle.text.proofs.Spelling.{ranged, lexed_word, to_end}
use Rattle.text.proofs.source.Source.lex.Goals as goal

pub returns-in-97-to-122 : goal.returns-in-97-to-122
returns-in-97-to-122 c =
    let text = c.args.self.now.bytes.now in
    let at = c.args.at in
    let here : get_or text at 0 ≡ c.in_ok-first.field-0.now = search rules in
    let within : at < length text = search rules in
    let rest = c.word_rest.ensures.is ∙ ap word_rest (to_end text (at + 1)) in
    lexed_word text at _ _ within (ranged (get_or text at 0) (omega arith) (omega arith)) (ap (λ n. at + 1 + n) rest) refl
