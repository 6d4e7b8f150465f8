use Rattle.merge_index.proofs.Distinct.{functions_are_distinct, generated_is_beside, types_are_distinct, segments_are_distinct}
use Rattle.merge_index.proofs.laws.numbers_are_distinct.Goals as goal

pub returns-clause-functions : goal.returns-clause-functions
returns-clause-functions c = functions_are_distinct

pub returns-clause-types : goal.returns-clause-types
returns-clause-types c = types_are_distinct

pub returns-clause-segments : goal.returns-clause-segments
returns-clause-segments c = segments_are_distinct

pub returns-clause-generated : goal.returns-clause-generated
returns-clause-generated c = generated_is_beside
