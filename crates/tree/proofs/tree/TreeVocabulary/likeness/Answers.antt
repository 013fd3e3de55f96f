use Rattle.std.proofs.Common.{◌≡◌, rules}
use Rattle.vocabulary.specs.Words.{IsVocabulary}
use Rattle.tree.specs.TreeLaws.{tree_laws}
use Rattle.tree.specs.Paths.{like_below, tree_words}
use Rattle.tree.specs.Tables.{tabled}
use Rattle.tree.proofs.Climbs.{likeness_exact}
use Rattle.tree.proofs.tree.TreeVocabulary.likeness.Goals as goal

pub returns-then-f-count-clause-value : goal.returns-then-f-count-clause-value
returns-then-f-count-clause-value g c =
    let family = tabled c.args.self.now.table in
    let W : IsVocabulary g.S.Scale.operations (tree_words g.S.Scale.operations family) = tree_laws _ g.met.S.Scale.lawful family c.args.self.now.table.family in
    search rules

pub returns-then-f-count-clause-path : goal.returns-then-f-count-clause-path
returns-then-f-count-clause-path g c =
    let family = tabled c.args.self.now.table in
    let value : c.bottom.result ≡ like_below g.S.Scale.operations family family.count c.args.f c.args.g =
    let W : IsVocabulary g.S.Scale.operations (tree_words g.S.Scale.operations family) = tree_laws _ g.met.S.Scale.lawful family c.args.self.now.table.family in
    search rules in
    (likeness_exact _ g.met.S.Scale.lawful family c.args.self.now.table.family c.args.f c.args.g _ value).0

pub returns-then-f-count-clause-only : goal.returns-then-f-count-clause-only
returns-then-f-count-clause-only g c =
    let family = tabled c.args.self.now.table in
    let value : c.bottom.result ≡ like_below g.S.Scale.operations family family.count c.args.f c.args.g =
    let W : IsVocabulary g.S.Scale.operations (tree_words g.S.Scale.operations family) = tree_laws _ g.met.S.Scale.lawful family c.args.self.now.table.family in
    search rules in
    (likeness_exact _ g.met.S.Scale.lawful family c.args.self.now.table.family c.args.f c.args.g _ value).1

pub returns-clause-path : goal.returns-clause-path
returns-clause-path g c =
    (likeness_exact _ g.met.S.Scale.lawful (tabled c.args.self.now.table) c.args.self.now.table.family c.args.f c.args.g _ c.climbed.ensures).0

pub returns-clause-only : goal.returns-clause-only
returns-clause-only g c =
    (likeness_exact _ g.met.S.Scale.lawful (tabled c.args.self.now.table) c.args.self.now.table.family c.args.f c.args.g _ c.climbed.ensures).1
