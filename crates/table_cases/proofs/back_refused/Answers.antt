use Rattle.table_cases.proofs.back_refused.Goals as goal

-- Each call keeps that composed rows have as many arguments as their representatives.
pub back-requires : goal.back-requires
back-requires g c =
    c.equate-2.ensures (c.equate.ensures (c.compose-2.ensures.uniform (c.compose.ensures.uniform (c.variable.ensures.uniform c.new-t.ensures.uniform))))
