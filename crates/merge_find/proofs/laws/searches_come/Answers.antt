use Rattle.merge_find.proofs.Finds.{searches_come, searches_come_soon}
use Rattle.merge_find.proofs.laws.searches_come.Goals as goal

pub returns-clause-any : goal.returns-clause-any
returns-clause-any c = searches_come

pub returns-clause-soon : goal.returns-clause-soon
returns-clause-soon c = searches_come_soon
