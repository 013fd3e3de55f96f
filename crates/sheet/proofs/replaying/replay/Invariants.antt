use Rattle.std.proofs.Common.{◌≡◌, take, drop}
use Rattle.sheet.proofs.replaying.replay.Given as goal
use Rattle.sheet.specs.Runs.{Run}
use Rattle.table.specs.Sheets.{sheet_of}
use Rattle.unification.specs.Sheets.{fresh}

-- the first calls were carried out, and the outcomes behind theirs are as they were
abbrev pub invariant-loop-i : goal.invariant-loop-i
invariant-loop-i g l =
    Run g.L.Lexicon.spellings g.V.Degree.Scale.operations (g.V.Vocabulary.model l.vocabulary) fresh (take l.i l.calls) (take l.i l.outcomes) (sheet_of l.sheet.table.rows l.sheet.table.equations)
    × (l.sheet.vocabulary.now ≡ l.vocabulary)
    × (drop l.i l.outcomes ≡ drop l.i l.initial.outcomes)
