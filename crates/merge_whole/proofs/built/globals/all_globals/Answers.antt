use Rattle.std.proofs.Common.{length, sym, ap, subst, arith}
use Rattle.wasm_form.specs.declared.module.Module.{Module}
use Rattle.merge_index.specs.Kept.{numbers_in}
use Rattle.merge_whole.specs.GlobalDefs.{AreFit, bases_by, globals_by}
use Rattle.merge_whole.proofs.BuiltBodies.{member_next}
use Rattle.merge_whole.proofs.built.globals.all_globals.Goals as goal

pub loop-m-preserved : goal.loop-m-preserved
loop-m-preserved c =
    let L = c.args.linked.now in
    let n = numbers_in c.args.n.now in
    member_next (globals_by L n) L.set.members c.loop-m.m _ c.member.ensures _ _ _ _ c.loop-m.invariant
    (ap (globals_by L n c.loop-m.m) c.module-wasm.ensures.same) c.in_ok-put_member.ensures

pub put_member-requires-clause-short : goal.put_member-requires-clause-short
put_member-requires-clause-short c =
    let same = ap (λ (w : Module). length w.imports) c.module-wasm.ensures.same in
    let short = c.module-wasm.ensures.formed.imports.0 in
    omega arith

pub put_member-requires-clause-fit : goal.put_member-requires-clause-fit
put_member-requires-clause-fit c =
    let L = c.args.linked.now in
    let m = c.loop-m.m in
    subst (λ (w : Module). AreFit L (bases_by L m w) m w.globals) (sym c.module-wasm.ensures.same) (c.requires.fit m _ c.member.ensures)
