use Rattle.std.proofs.Common.{IsUtf8, sym}
use Rattle.account.proofs.Ascii.{signs_utf8, taken}
use Rattle.account.proofs.names.name.Goals as goal

pub unwrap-requires : goal.unwrap-requires
unwrap-requires g c =
    taken _ (IsUtf8 c.in-Some.spelling.now) _ c.from_utf8.result c.from_utf8.ensures.cases (signs_utf8 _ ((g.met.L.Lexicon.lawful c.args.lexicon.now).formed c.args.word _ (sym c.in-Some.ensures)).signs)
