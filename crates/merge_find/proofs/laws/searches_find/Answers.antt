use Rattle.merge_find.proofs.Called.{searches_find, searches_find_any}
use Rattle.merge_find.proofs.laws.searches_find.Goals as goal

pub returns-clause-any : goal.returns-clause-any
returns-clause-any c = searches_find_any

pub returns-clause-soon : goal.returns-clause-soon
returns-clause-soon c = searches_find
