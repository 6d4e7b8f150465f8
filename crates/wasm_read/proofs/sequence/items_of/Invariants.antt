use Rattle.std.proofs.Common.{◌≡◌, ◌-◌, ◌≤◌, length}
use Rattle.spec_reading.specs.Values.{items_at}
use Rattle.wasm_read.proofs.Loops.{with_front}
use Rattle.wasm_read.proofs.sequence.items_of.Given as goal

abbrev pub invariant-loop : goal.invariant-loop
invariant-loop g l = record {
  read : with_front l.items.items (items_at g.T.Item.at (l.count - l.counter) l.rest) ≡ items_at g.T.Item.at l.count l.bytes;
  shorter : length l.rest ≤ length l.bytes;
}
