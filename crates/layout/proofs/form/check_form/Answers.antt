use Rattle.layout.proofs.FormFaults.{form_only}
use Rattle.layout.proofs.form.check_form.Goals as goal

pub returns-clause-only : goal.returns-clause-only
returns-clause-only c = form_only _ _ c.form.ensures
