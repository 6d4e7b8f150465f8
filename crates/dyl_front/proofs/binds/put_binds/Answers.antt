use Rattle.std.proofs.Common.{◌≤◌, length, ap, ◌∙◌, arith}
use Rattle.spec_merging.specs.wasm_form.declared.module.Module.{Module}
use Rattle.dyl_front.proofs.Listings.{binds_next, binds_last}
use Rattle.dyl_front.proofs.binds.put_binds.Goals as goal

pub loop-m-preserved : goal.loop-m-preserved
loop-m-preserved c =
    let L = c.args.linked.now in
    binds_next L L.set.members c.loop-m.m _ c.member.ensures c.items.result.now (c.items.ensures ∙ ap (λ (w : Module). w.imports) c.module-wasm.ensures.same)
    c.loop-m.to.items _ _ c.in_ok-put_imports.ensures c.loop-m.invariant

pub returns : goal.returns
returns c =
    let L = c.args.linked.now in
    let all : length L.set.members ≤ c.loop-m.m = omega (arith, c.loop-m-test.false, c.member_count-m-end.ensures.count) in
    binds_last L L.set.members c.loop-m.m all c.loop-m.to.items _ c.loop-m.invariant
