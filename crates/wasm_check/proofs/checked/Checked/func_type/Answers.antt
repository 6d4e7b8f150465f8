use Rattle.wasm_check.proofs.Valid.{type_number, type_found}
use Rattle.wasm_check.proofs.checked.Checked.func_type.Goals as goal

pub bounds-items-index : goal.bounds-items-index
bounds-items-index c =
    let inside = c.self.inside in
    rw c.items.ensures (type_number inside.wasm c.args.self.now inside.functions.items inside.heights.items c.args.f c.index.result.now
    c.self.invariant c.self.view_is c.requires c.index.ensures)

pub returns : goal.returns
returns c =
    let inside = c.self.inside in
    type_found inside.wasm c.args.self.now inside.functions.items inside.heights.items c.args.f c.index.result.now c.self.invariant
    c.self.view_is c.requires c.index.ensures c.items.result.now c.index-items-index.result c.items.ensures
    c.index-items-index.is
