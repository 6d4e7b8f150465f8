use Rattle.dyl_app.proofs.ending.serve_to_end.Goals as goal

pub returns-clause-due : goal.returns-clause-due
returns-clause-due g c = rw c.with_status.ensures.same c.serve-outcome.ensures.due

pub returns-clause-does : goal.returns-clause-does
returns-clause-does g c = rw c.with_status.ensures.same c.serve-outcome.ensures.does

pub returns-clause-writes : goal.returns-clause-writes
returns-clause-writes g c = rw c.with_status.ensures.same c.serve-outcome.ensures.writes
