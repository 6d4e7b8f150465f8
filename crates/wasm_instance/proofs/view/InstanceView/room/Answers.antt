use Rattle.std.proofs.Common.{arith, ap}
use Rattle.wasm_instance.specs.States.{InstanceState}
use Rattle.wasm_instance.proofs.FunctionRooms.{room_within, room_found}
use Rattle.wasm_instance.proofs.view.InstanceView.room.Goals as goal

pub index-requires : goal.index-requires
index-requires c =
    let i = c.self.inside in
    let wasm = ap (λ (s : InstanceState). s.wasm) c.self.view_is in
    let within = room_within i.checked.now c.args.self.now.wasm i.rooms.items i.imported c.args.f wasm c.self.invariant.source.count c.self.invariant.rooms c.requires in
    omega (arith, within, i.rooms.ok.0)

pub returns : goal.returns
returns c =
    let i = c.self.inside in
    let wasm = ap (λ (s : InstanceState). s.wasm) c.self.view_is in
    room_found i.checked.now c.args.self.now.wasm i.rooms.items i.imported c.args.f wasm c.self.invariant.source.count c.self.invariant.rooms c.requires c.args.arg2 c.index.result.now c.index.ensures
