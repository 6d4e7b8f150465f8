use Rattle.std.proofs.Common.{◌≡◌, ◌++◌, replicate}
use Rattle.std.specs.Vec.{vec_capacity}
use Rattle.wasm_step.proofs.room.push_times.Given as goal

abbrev pub invariant-loop-i : goal.invariant-loop-i
invariant-loop-i l = record {
  items : l.values.items ≡ l.initial.values.items ++ replicate l._i l.c;
  capacity : vec_capacity l.values ≡ vec_capacity l.initial.values;
}
