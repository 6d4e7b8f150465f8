use Rattle.std.proofs.Common.{◌≡◌, ap, ◌∙◌}
use Rattle.wasm_form.specs.declared.module.Module.{Module}
use Rattle.wasm_instance.proofs.FunctionRooms.{room_kept}
use Rattle.wasm_instance.proofs.rooms.room.Goals as goal

pub returns : goal.returns
returns c =
    let m = c.args.checked.now in
    let same = c.module-m.ensures.same in
    let types : c.items.result.now ≡ m.types = c.items.ensures ∙ ap (λ (x : Module). x.types) same in
    let funcs : c.items-2.result.now ≡ m.funcs = c.items-2.ensures ∙ ap (λ (x : Module). x.funcs) same in
    let codes : c.items-3.result.now ≡ m.codes = c.items-3.ensures ∙ ap (λ (x : Module). x.codes) same in
    room_kept m c.args.n c.items.result.now c.items-2.result.now c.items-3.result.now c.index-items-items.result c.index-items-n.result c.items-groups.result.now c.params_of.result c.locals_of.result c.saturating_add.result c.height.result c.saturating_add-2.result
    c.module-m.ensures.formed c.module-m.ensures.valid c.requires types funcs codes c.index-items-items.is c.items-groups.ensures c.params_of.ensures c.locals_of.ensures c.saturating_add.ensures c.height.ensures c.saturating_add-2.ensures
