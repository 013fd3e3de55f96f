use Rattle.std.proofs.Common.{ℕ, ap, subst}
use Rattle.layers.specs.Dialects.{IsDialect, listed}
use Rattle.layers.specs.Floored.{floor_laws}
use Rattle.layers.specs.Floors.{floored}
use Rattle.layers.specs.Spoken.{dialect_laws}
use Rattle.stack.proofs.Stacked.{layered_words, said}
use Rattle.stack.proofs.any.layered_likeness.Goals as goal

pub returns-clause-verdict : goal.returns-clause-verdict
returns-clause-verdict g c =
    let list = c.args.entries.now in
    let count = ap (λ v. (g.V.Vocabulary.model v).count) c.new-floor.ensures.below in
    let words =
    layered_words g.V.Degree.Scale.operations g.V.Vocabulary.model c.args.below c.args.floor list c.new-floor.result
    c.new-dialect.result c.new-floor.ensures.below c.new-floor.ensures.degree c.new-dialect.ensures.below
    c.new-dialect.ensures.words in
    (subst (λ (n : ℕ). IsDialect n list) count c.in_ok-check_dialect.ensures.verdict, said _ _ c.args.f c.args.g _ words c.likeness.ensures)

pub returns-clause-laws : goal.returns-clause-laws
returns-clause-laws g c =
    let S = g.V.Degree.Scale.operations in
    let L = g.met.V.Degree.Scale.lawful in
    let below = g.V.Vocabulary.model c.args.below in
    dialect_laws S (listed c.args.entries.now) (floored S c.args.floor below) L
    (floor_laws S L c.args.floor below (g.met.V.Vocabulary.lawful c.args.below)) c.in_ok-check_dialect.ensures.verdict.counted
