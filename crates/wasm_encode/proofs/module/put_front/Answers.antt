use Rattle.wasm_encode.proofs.Steps.{types_list, imports_list, funcs_list, tables_list, memories_list, globals_list, exports_list}
use Rattle.wasm_encode.proofs.module.put_front.Goals as goal

pub put_listed-requires-clause-step : goal.put_listed-requires-clause-step
put_listed-requires-clause-step c = types_list c.args.m.now

pub put_listed-requires-2-clause-step : goal.put_listed-requires-2-clause-step
put_listed-requires-2-clause-step c = imports_list c.args.m.now

pub put_listed-requires-3-clause-step : goal.put_listed-requires-3-clause-step
put_listed-requires-3-clause-step c = funcs_list c.args.m.now

pub put_listed-requires-4-clause-step : goal.put_listed-requires-4-clause-step
put_listed-requires-4-clause-step c = tables_list c.args.m.now

pub put_listed-requires-5-clause-step : goal.put_listed-requires-5-clause-step
put_listed-requires-5-clause-step c = memories_list c.args.m.now

pub put_listed-requires-6-clause-step : goal.put_listed-requires-6-clause-step
put_listed-requires-6-clause-step c = globals_list c.args.m.now

pub put_listed-requires-7-clause-step : goal.put_listed-requires-7-clause-step
put_listed-requires-7-clause-step c = exports_list c.args.m.now
