use Rattle.std.proofs.Common.{length, ap, arith}
use Rattle.wasm_form.specs.declared.module.Module.{Module}
use Rattle.dyl_addresses.proofs.Ends.{member_within}
use Rattle.dyl_store.proofs.Addressed.{one_of}
use Rattle.dyl_store.proofs.Beginning.{on_ok}
use Rattle.dyl_store.proofs.CellAddresses.{adds_cells}
use Rattle.dyl_store.proofs.cells.put_member_cells.Goals as goal

pub returns : goal.returns
returns c =
    on_ok _ (adds_cells c.args.linked.now c.args.addresses.now c.args.m c.module.result.now c.requires.addresses c.links.ensures.links c.module.ensures c.items.result.now c.items.ensures _ _ c.requires.place) c.put_cells.ensures

pub put_cells-requires : goal.put_cells-requires
put_cells-requires c =
    let there = one_of c.args.linked.now c.args.m c.module.result.now c.module.ensures in
    let few = (member_within c.args.linked.now c.links.ensures.shape c.args.m there.0 there.1).all in
    let own = ap (λ (w : Module). length w.imports) there.2 in
    let imports = ap length c.items.ensures in
    omega (arith, few, own, imports)
