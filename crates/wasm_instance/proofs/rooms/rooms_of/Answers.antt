use Rattle.std.proofs.Common.{◌≡◌, ◌+◌, ◌++◌, ◌∷◌, [], length, length-append, ℕ, ◌∙◌, ap}
use Rattle.wasm_instance.specs.Rooms.{room_in}
use Rattle.wasm_instance.proofs.FunctionRooms.{have_more}
use Rattle.wasm_instance.proofs.rooms.rooms_of.Goals as goal

pub loop-n-preserved : goal.loop-n-preserved
loop-n-preserved c =
    let m = c.args.checked.now in
    let before = c.loop-n.rooms.items in
    let is : c.push.new.self.items ≡ before ++ room_in m c.loop-n.n ∷ [] = c.in_ok-push.ensures.items ∙ ap (λ (r : ℕ). before ++ r ∷ []) c.room.ensures in
    record {
      as_many = ap length is ∙ length-append before (room_in m c.loop-n.n ∷ []) ∙ ap (λ (k : ℕ). k + 1) c.loop-n.invariant.as_many;
      rooms = have_more m before c.push.new.self.items c.loop-n.n c.loop-n.invariant.as_many c.loop-n.invariant.rooms is;
    }
