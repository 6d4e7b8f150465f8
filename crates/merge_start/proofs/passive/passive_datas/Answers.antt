use Rattle.std.proofs.Common.{List, ◌++◌, map, ap, ◌∙◌, refl}
use Rattle.wasm_form.specs.declared.module.Data.{Data}
use Rattle.wasm_form.specs.declared.module.Module.{Module}
use Rattle.merge_start.specs.Passive.{passive_data, own_datas}
use Rattle.merge_start.proofs.Made.{next_made}
use Rattle.merge_start.proofs.passive.passive_datas.Goals as goal

pub loop-m-preserved : goal.loop-m-preserved
loop-m-preserved c =
    let L = c.args.linked.now in
    let m = c.loop-m.m in
    let wasm = c.module.ensures.same in
    let own = ap (λ (ds : List Data). map passive_data ds) (c.items.ensures ∙ ap (λ (w : Module). w.datas) wasm) in
    next_made L m _ c.member.ensures own_datas c.loop-m.list.items _ c.put_datas.new.to.items _
    c.loop-m.invariant refl (c.in_ok-put_datas.ensures ∙ ap (λ (l : List Data). c.loop-m.list.items ++ l) own)
