use Rattle.std.proofs.Common.{refl, ◌≡◌, Some}
use Rattle.wasm_form.specs.declared.instr.Instr.{out-Instr}
use Rattle.wasm_machine.specs.Outside.{callee_of}
use Rattle.wasm_machine.specs.declared.calls.Callee.TheVariants as callee
use Rattle.wasm_machine.proofs.Coming.{called_in_range, function_is_outside, table_in_range}
use Rattle.wasm_machine.proofs.calls.outside_call.Goals as goal

pub target-requires : goal.target-requires
target-requires g c κs =
    let q : callee_of (out-Instr c.in-Some.i.now) ≡ Some (callee.Function c.in-Some-Function.f) = cc in
    ((refl, tt), rw c.unit.ensures (called_in_range _ _ _ c.requires.rest (c.in-Some.ensures {u = tt}) _ q))

pub table-requires : goal.table-requires
table-requires g c κs =
    let q : callee_of (out-Instr c.in-Some.i.now) ≡ Some (callee.Entry c.in-Some-Entry.field-0-0 c.in-Some-Entry.table) = cc in
    ((refl, tt), rw c.unit-in-Some-find_number.ensures (table_in_range _ _ _ c.requires.rest (c.in-Some.ensures {u = tt}) _ _ q))

pub returns-in-Some-Function : goal.returns-in-Some-Function
returns-in-Some-Function g c =
    let q : callee_of (out-Instr c.in-Some.i.now) ≡ Some (callee.Function c.in-Some-Function.f) = cc in
    let er = rw c.unit.ensures at c.target.ensures in
    function_is_outside (g.V.View.seen c.args.view.now).fixed (g.V.View.seen c.args.view.now).units c.args.top.now.act _ (c.in-Some.ensures {u = tt}) _ q _ _ c.requires.names (called_in_range _ _ _ c.requires.rest (c.in-Some.ensures {u = tt}) _ q) er c.requires.outside
