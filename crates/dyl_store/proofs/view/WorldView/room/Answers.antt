use Rattle.std.proofs.Common.{arith, refl, ap, sym, ◌∙◌}
use Rattle.spec_loading.specs.spec_binary.Indices.{function_at}
use Rattle.spec_loading.specs.spec_binary.Saturated.{saturated}
use Rattle.spec_loading.specs.spec_linking.LinkedSets.{wasm_of}
use Rattle.wasm_instance.proofs.FunctionRooms.{room_within, room_found}
use Rattle.dyl_store.proofs.Members.{found_in, own_code, room_is}
use Rattle.dyl_store.proofs.view.WorldView.room.Goals as goal

pub unit-member-requires : goal.unit-member-requires
unit-member-requires c = found_in (wasm_of c.args.self.now.linked c.args.unit) (λ w. function_at w c.args.f) c.requires

pub index-requires : goal.index-requires
index-requires c =
    let u = c.unit-member.result.now in
    let is = c.unit-member.ensures.unit in
    let own = own_code (wasm_of c.args.self.now.linked c.args.unit) u.checked.now is.member c.args.f c.requires in
    let within = room_within u.checked.now u.checked.now u.rooms.items u.imported c.args.f refl is.imported is.rooms own in
    omega (arith, within, u.rooms.ok.0)

pub returns : goal.returns
returns c =
    let u = c.unit-member.result.now in
    let is = c.unit-member.ensures.unit in
    let own = own_code (wasm_of c.args.self.now.linked c.args.unit) u.checked.now is.member c.args.f c.requires in
    room_found u.checked.now u.checked.now u.rooms.items u.imported c.args.f refl is.imported is.rooms own c.args.unit c.index.result.now c.index.ensures
    ∙ ap saturated (sym (room_is c.args.self.now.linked c.args.unit c.args.f u.checked.now is.member))
