use Rattle.script.specs.Lines.{verb}
use Rattle.script.proofs.Lines.{line_split, line_only, found_line}
use Rattle.script.proofs.line.parse_line.Goals as goal

pub returns-in_err-named : goal.returns-in_err-named
returns-in_err-named c =
    let line = c.args.line.now in
    rw c.from_residual.ensures (record {
      found = λ a l. let k = line_split line _ _ c.split_blank.ensures a l in c.in_err-named.ensures (verb a) k.0;
      only = line_only line;
    })

pub returns : goal.returns
returns c =
    let line = c.args.line.now in
    record {
      found = found_line line _ _ c.split_blank.ensures _ c.in_ok-named.ensures _ c.line_of.ensures;
      only = line_only line;
    }
