use Rattle.std.proofs.Common.{rules}
use Rattle.wasm_encode.proofs.SectionSteps.{told_first}
use Rattle.wasm_encode.proofs.module.encode.Goals as goal

pub returns-in_err-put_sections-clause-only_too_long : goal.returns-in_err-put_sections-clause-only_too_long
returns-in_err-put_sections-clause-only_too_long c = told_first c.from_residual-in_err-put_sections.result c.from_residual-in_err-put_sections.ensures.0 (search rules)

pub returns-clause-only_too_long : goal.returns-clause-only_too_long
returns-clause-only_too_long c = λ id f. absurd (c.in_ok-put_sections.ensures.fit id f)
