use Rattle.dyl_store.proofs.Called.{function_there, one_called, one_nullary, none_called}
use Rattle.dyl_store.proofs.callees.callee.Goals as goal

pub function-requires : goal.function-requires
function-requires c =
    let law = c.linked_functions_are_typed.ensures.callees in
    function_there law c.args.linked.now c.links.ensures.shape c.links.ensures.links c.args.task.phase c.args.task.member c.requires c.module.result.now c.module.ensures c.phase_function.result c.phase_function.ensures c.in-Some.f c.in-Some.is

pub returns-in-Some-clause-found : goal.returns-in-Some-clause-found
returns-in-Some-clause-found c =
    let law = c.linked_functions_are_typed.ensures.callees in
    one_called law c.args.linked.now c.links.ensures.shape c.links.ensures.links c.args.task.phase c.args.task.member c.requires c.module.result.now c.module.ensures c.phase_function.result c.phase_function.ensures c.in-Some.f c.in-Some.is c.function.result c.function.ensures

pub returns-in-Some-clause-nullary : goal.returns-in-Some-clause-nullary
returns-in-Some-clause-nullary c =
    let law = c.linked_functions_are_typed.ensures.callees in
    one_nullary law c.args.linked.now c.links.ensures.shape c.links.ensures.links c.args.task.phase c.args.task.member c.requires c.module.result.now c.module.ensures c.phase_function.result c.phase_function.ensures c.in-Some.f c.in-Some.is c.function.result c.function.ensures

pub returns-in-None-clause-found : goal.returns-in-None-clause-found
returns-in-None-clause-found c =
    let law = c.linked_functions_are_typed.ensures.callees in
    none_called law c.args.linked.now c.links.ensures.shape c.links.ensures.links c.args.task.phase c.args.task.member c.requires c.module.result.now c.module.ensures c.phase_function.result c.phase_function.ensures c.in-None.is
