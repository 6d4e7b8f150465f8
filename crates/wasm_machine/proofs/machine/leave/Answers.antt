use Rattle.std.proofs.Common.{drop}
use Rattle.wasm_step.proofs.Arguments.{arguments_count}
use Rattle.wasm_machine.proofs.Asking.{arguments_room}
use Rattle.wasm_machine.proofs.machine.leave.Goals as goal

pub arguments-requires : goal.arguments-requires
arguments-requires c = record { above = arguments_room c.args.params.now c.args.top.now.act.values c.args.above c.requires.above c.requires.arguments }

pub drop_values-requires-2 : goal.drop_values-requires-2
drop_values-requires-2 c = rw (c.drop_values.ensures, c.advance.ensures) (arguments_count c.args.params.now (drop c.args.above c.args.top.now.act.values) c.requires.arguments)
