use Rattle.merge_find.proofs.Exports.{exports_are_texts, exports_are_apart}
use Rattle.merge_find.proofs.laws.exports_are_texts.Goals as goal

pub returns-clause-texts : goal.returns-clause-texts
returns-clause-texts c = exports_are_texts

pub returns-clause-apart : goal.returns-clause-apart
returns-clause-apart c = exports_are_apart
