use Rattle.std.proofs.Common.{◌≡◌, length}
use Rattle.wasm_instance.specs.Rooms.{HaveRooms}
use Rattle.wasm_instance.proofs.rooms.rooms_of.Given as goal

abbrev pub invariant-loop-n : goal.invariant-loop-n
invariant-loop-n l = record {
  as_many : length l.rooms.items ≡ l.n;
  rooms : HaveRooms l.checked l.n l.rooms.items;
}
