use Rattle.std.proofs.Common.{length, map, ap, ◌∙◌, arith}
use Rattle.wasm_form.specs.declared.module.Module.{Module}
use Rattle.merge_match.specs.Joined.{renumbered_code}
use Rattle.merge_index.specs.Kept.{numbers_in}
use Rattle.merge_whole.specs.Built.{bodies_of}
use Rattle.merge_whole.proofs.BuiltBodies.{has_bodies, member_next}
use Rattle.merge_whole.proofs.built.codes.put_members.Goals as goal

pub put_bodies-requires-clause-bodies : goal.put_bodies-requires-clause-bodies
put_bodies-requires-clause-bodies c =
    has_bodies c.args.linked.now c.loop-m.m _ c.items-codes.result.now c.member.ensures
    (c.items-codes.ensures ∙ ap (λ (w : Module). w.codes) c.module.ensures.same)

pub loop-m-preserved : goal.loop-m-preserved
loop-m-preserved c =
    let n = numbers_in c.args.n.now in
    let m = c.loop-m.m in
    let same = c.items-codes.ensures ∙ ap (λ (w : Module). w.codes) c.module.ensures.same in
    member_next (bodies_of n) c.args.linked.now.set.members m _ c.member.ensures _ _ _ _ c.loop-m.invariant
    (ap (map (renumbered_code n m)) same) c.in_ok-put_bodies.ensures

pub put_bodies-requires-clause-few : goal.put_bodies-requires-clause-few
put_bodies-requires-clause-few c =
    let codes = ap length c.items-codes.ensures in
    let same = ap (λ (w : Module). length w.codes) c.module.ensures.same in
    let short = c.module.ensures.formed.codes.0 in
    omega arith
