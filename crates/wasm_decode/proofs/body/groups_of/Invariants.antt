use Rattle.std.proofs.Common.{◌≡◌, ◌-◌, ◌≤◌}
use Rattle.spec_reading.specs.Bodies.{groups_at}
use Rattle.wasm_read.proofs.Loops.{with_front}
use Rattle.wasm_decode.proofs.body.groups_of.Given as goal

abbrev pub invariant-loop : goal.invariant-loop
invariant-loop l = record {
  read : with_front l.groups.items (groups_at 50000 (l.count - l.counter) l.so_far l.rest) ≡ groups_at 50000 l.count 0 l.bytes;
  within : l.so_far ≤ 50000;
}
