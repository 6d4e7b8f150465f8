use Rattle.std.proofs.Common.{ap, ◌∙◌}
use Rattle.std.specs.Prelude.{nat_lt}
use Rattle.spec_execution.specs.spec_binary.IndexSpaces.{memory_space}
use Rattle.wasm_check.proofs.Contexts.{some_memory}
use Rattle.wasm_check.proofs.bodies.has_memory.Goals as goal

pub returns : goal.returns
returns c = ap (nat_lt 0) c.requires.memories ∙ some_memory (memory_space c.args.m.now)
