use Rattle.merge_whole.proofs.built.given.make_given.Goals as goal

pub returns-in-Ok-clause-given : goal.returns-in-Ok-clause-given
returns-in-Ok-clause-given c = c.in-Ok.ensures.given
