use Rattle.merge_find.proofs.Typed.{searches_typed, search_body_typed}
use Rattle.merge_find.proofs.laws.searches_are_typed.Goals as goal

pub returns-clause-code : goal.returns-clause-code
returns-clause-code c = searches_typed

pub returns-clause-body : goal.returns-clause-body
returns-clause-body c = search_body_typed
