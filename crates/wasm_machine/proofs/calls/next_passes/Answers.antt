use Rattle.std.proofs.Common.{arith, refl, sym, ◌≡◌, Some, None}
use Rattle.wasm_form.specs.declared.instr.Instr.{out-Instr}
use Rattle.wasm_step.specs.Primitives.{first_of}
use Rattle.wasm_machine.specs.Outside.{callee_of}
use Rattle.wasm_machine.specs.declared.calls.Callee.TheVariants as callee
use Rattle.wasm_machine.proofs.Coming.{called_in_range, type_in_range, table_in_range}
use Rattle.wasm_machine.proofs.Called.{target_exists}
use Rattle.wasm_machine.proofs.Passing.{done_passes, plain_passes}
use Rattle.wasm_machine.proofs.calls.next_passes.Goals as goal

pub returns-in_default : goal.returns-in_default
returns-in_default g c =
    let w = g.V.View.seen c.args.view.now in
    sym (done_passes w.fixed w.units w.memory c.args.callers.now c.args.top.now c.requires.live c.requires.joined c.requires.rooms (cc c.in_default.ensures))

pub target-requires : goal.target-requires
target-requires g c κs =
    let q : callee_of (out-Instr c.in-Some.i.now) ≡ Some (callee.Function c.in-Some-Function.f) = cc in
    ((refl, tt), rw c.unit.ensures (called_in_range _ _ _ c.requires.rest (c.in-Some.ensures {u = tt}) _ q))

pub call_passes-requires : goal.call_passes-requires
call_passes-requires g c κs =
    let V = (g.V.View.seen c.args.view.now).fixed in
    let q : callee_of (out-Instr c.in-Some.i.now) ≡ Some (callee.Function c.in-Some-Function.f) = cc in
    let e : Some c.target.result ≡ V.target c.args.top.now.act.unit c.in-Some-Function.f = rw (← c.unit.ensures) c.target.ensures in
    ((refl, tt), (c.requires.joined, (c.requires.live, (c.requires.rooms, (omega arith, target_exists V c.requires.names c.args.top.now.act.unit c.in-Some-Function.f c.target.result (called_in_range _ _ _ c.requires.rest (c.in-Some.ensures {u = tt}) _ q) e)))))

pub entry_passes-requires : goal.entry_passes-requires
entry_passes-requires g c κs =
    let e : Some c.in-Some.i.now ≡ first_of c.args.top.now.act.rest = c.in-Some.ensures {u = tt} in
    let q : callee_of (out-Instr c.in-Some.i.now) ≡ Some (callee.Entry c.in-Some-Entry.ty c.in-Some-Entry.table) = cc in
    ((refl, tt), (c.requires.joined, (c.requires.live, (c.requires.rooms, (c.requires.names, (c.requires.holds, (type_in_range _ _ _ c.requires.rest e _ _ q, table_in_range _ _ _ c.requires.rest e _ _ q)))))))

pub returns-in-None : goal.returns-in-None
returns-in-None g c =
    let w = g.V.View.seen c.args.view.now in
    let q : callee_of (out-Instr c.in-Some.i.now) ≡ None = cc in
    sym (plain_passes w.fixed w.units w.memory c.args.callers.now c.args.top.now c.requires.live c.requires.joined c.requires.rooms c.in-Some.i.now (c.in-Some.ensures {u = tt}) q)
