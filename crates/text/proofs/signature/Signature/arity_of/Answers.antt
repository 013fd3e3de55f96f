use Rattle.text.proofs.Passing.{lacking_by, item_by, arity_by}
use Rattle.text.proofs.signature.Signature.arity_of.Goals as goal

pub returns-in_err-word : goal.returns-in_err-word
returns-in_err-word g c = rw c.from_residual.ensures (λ n has spells. c.in_err-word.ensures n spells)

pub returns-in_err-arity : goal.returns-in_err-arity
returns-in_err-arity g c =
    let found = c.in_ok-word.ensures in
    rw c.from_residual-in_err-arity.ensures (lacking_by _ _ _ _ (g.met.L.Lexicon.lawful c.args.self.now.lexicon.now) (rw c.from-word.ensures found) c.in_err-arity.ensures.lookup)

pub returns : goal.returns
returns g c =
    let found = c.in_ok-word.ensures in
    let read = item_by _ _ c.in_ok-arity.arity c.in_ok-arity.ensures.lookup in
    arity_by _ _ _ _ _ (g.met.L.Lexicon.lawful c.args.self.now.lexicon.now) (rw c.from-word.ensures found) read.0 (cc (read.1))
