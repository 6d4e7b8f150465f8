use Rattle.slice_exec.proofs.ending.ran_of.Goals as goal

pub returns : goal.returns
returns c = (c.steps-steps.ensures.value, c.into_answers.ensures, (c.steps-steps.ensures.stands c.requires.seated.found).real, c.end_of-end.ensures)
