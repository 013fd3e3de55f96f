use Rattle.std.proofs.Common.{◌≡◌, leb, length, IsUtf8, sym, ◌∙◌, subst}
use Rattle.account.proofs.Ascii.{signs_utf8, taken}
use Rattle.layout.specs.Places.{entry_end, entry_start, spelling_at}
use Rattle.std.proofs.lemmas.Bool.{cond-true, le-leb}
use Rattle.report.proofs.forms.spelled.Goals as goal

pub unwrap-requires : goal.unwrap-requires
unwrap-requires c =
    let B = c.args.bytes.now in
    let i = c.args.i in
    let there = c.spelling_in.ensures ∙ cond-true (leb (entry_end B (entry_start B i)) (length B)) _ _ (le-leb _ _ c.requires.present) in
    let e = rw c.unwrap-spelling.ensures at there in
    let same : c.unwrap-spelling.result.now ≡ spelling_at B i = cc in
    taken _ (IsUtf8 c.unwrap-spelling.result.now) _ c.from_utf8.result c.from_utf8.ensures.cases (subst IsUtf8 (sym same) (signs_utf8 _ c.requires.signs))
