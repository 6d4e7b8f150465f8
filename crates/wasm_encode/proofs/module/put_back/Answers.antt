use Rattle.wasm_encode.proofs.SectionSteps.{shortest_whole, whole_fits}
use Rattle.wasm_encode.proofs.Sizes.{whole_size}
use Rattle.wasm_encode.proofs.Steps.{elems_list, codes_list, datas_list}
use Rattle.wasm_encode.proofs.module.put_back.Goals as goal

pub put_listed-requires-clause-step : goal.put_listed-requires-clause-step
put_listed-requires-clause-step c = elems_list c.args.m.now

pub put_listed-requires-2-clause-step : goal.put_listed-requires-2-clause-step
put_listed-requires-2-clause-step c = codes_list c.args.m.now

pub put_listed-requires-3-clause-step : goal.put_listed-requires-3-clause-step
put_listed-requires-3-clause-step c = datas_list c.args.m.now

pub returns-clause-ok : goal.returns-clause-ok
returns-clause-ok c = shortest_whole c.in_ok-put_listed.ensures.ok

pub returns-clause-size : goal.returns-clause-size
returns-clause-size c = whole_size c.in_ok-put_listed.ensures.ok

pub returns-clause-fit : goal.returns-clause-fit
returns-clause-fit c = whole_fits c.in_ok-put_listed.ensures.ok
