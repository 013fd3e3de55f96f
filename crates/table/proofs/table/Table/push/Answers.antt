use Rattle.std.proofs.Common.{ℕ, List, [], ◌∷◌, length, set, ap, ◌∙◌, arith, length-append}
use Rattle.rows.specs.Stored.{row_of}
use Rattle.table.proofs.Facts.{facts_grown, facts_moved}
use Rattle.table.proofs.Growing.{uniform_grown}
use Rattle.table.proofs.Hands.{coherent_at_hand, represents_at_hand}
use Rattle.table.proofs.Uniformity.{uniform_moved}
use Rattle.table.proofs.table.Table.push.Goals as goal
use Rattle.table.specs.Sheets.{sheet_of}
use Rattle.unification.specs.Sheets.{Row, Sheet, appended}

pub returns-clause-sheet : goal.returns-clause-sheet
returns-clause-sheet c = ap (λ (l : List Row). record { rows = l; equations = (sheet_of c.args.self.now.rows c.args.self.now.equations).equations }) c.push.ensures

pub returns-clause-uniform : goal.returns-clause-uniform
returns-clause-uniform c U =
    let t = c.args.self.now in
    let s : Sheet = sheet_of t.rows t.equations in
    let n = c.len-n.ensures.value in
    let room = c.requires.room in
    let k = t.classes.size in
    let l = length-append s.rows (row_of c.args.row ∷ []) in
    uniform_moved c.push.ensures (ap length c.push.ensures ∙ l) (c.put.ensures ∙ ap (λ (z : ℕ). set t.classes.of z z) n)
    (uniform_grown (coherent_at_hand t.coherent) t.classes.of (represents_at_hand (coherent_at_hand t.coherent) t.represents) (row_of c.args.row) c.requires.fits (omega arith) U)

pub invariant_of-self : goal.invariant_of-self
invariant_of-self c =
    let t = c.args.self.now in
    let s : Sheet = sheet_of t.rows t.equations in
    let n = c.len-n.ensures.value in
    let room = c.requires.room in
    let k = t.classes.size in
    let l = t.depths.size in
    let f =
    facts_moved (appended s (row_of c.args.row)) (sheet_of c.push.new.self t.equations) _ c.put.new.self.of _ c.put-2.new.self.of
    (ap (λ (z : List Row). record { rows = z; equations = s.equations }) c.push.ensures)
    (c.put.ensures ∙ ap (λ (z : ℕ). set t.classes.of z z) n)
    (c.put-2.ensures ∙ ap (λ (z : ℕ). set t.depths.of z c.args.depth) n)
    (facts_grown s t.classes.of t.depths.of
    (record { coherent = t.coherent; represents = t.represents; falls = t.falls; within = t.within; shallow = t.shallow })
    (row_of c.args.row) c.requires.fits (omega arith) (omega arith) c.args.depth c.requires.above c.requires.shallow) in
    record { coherent = f.coherent; represents = f.represents; falls = f.falls; within = f.within; shallow = f.shallow }
