use Rattle.wasm_decode.proofs.Answered.{decoded, yielded, formed_result}
use Rattle.wasm_decode.proofs.file.decode.Goals as goal

pub returns-clause-answer : goal.returns-clause-answer
returns-clause-answer c = decoded c.args.bytes.now c.module_of.result c.reading_answers.ensures c.module_of.ensures

pub returns-clause-only : goal.returns-clause-only
returns-clause-only c = yielded c.args.bytes.now c.module_of.result c.reading_answers.ensures c.module_of.ensures

pub returns-clause-formed : goal.returns-clause-formed
returns-clause-formed c = formed_result c.args.bytes.now c.module_of.result c.reading_answers.ensures c.spelled_is_formed.ensures c.module_of.ensures
