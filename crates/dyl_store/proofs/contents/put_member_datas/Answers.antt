use Rattle.dyl_store.proofs.Beginning.{adds_part, on_ok}
use Rattle.dyl_store.proofs.contents.put_member_datas.Goals as goal

pub returns : goal.returns
returns c = on_ok _ (adds_part c.args.linked.now c.args.m c.module.result.now c.module.ensures (λ d. d.bytes) (λ w. w.datas) c.items.result.now _ _ c.items.ensures) c.put_datas.ensures
