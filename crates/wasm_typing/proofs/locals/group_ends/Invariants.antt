use Rattle.std.proofs.Common.{◌≡◌, ◌<◌, ◌-◌, ◌^◌, ℕ, length, slice_get, Some}
use Rattle.std.specs.Prelude.{min}
use Rattle.wasm_typing.specs.GroupEnds.{locals_before, end_of}
use Rattle.wasm_typing.proofs.locals.group_ends.Given as goal

abbrev pub invariant-loop-group : goal.invariant-loop-group
invariant-loop-group l = record {
  count : length l.ends.items ≡ l.group-index;
  end : l.end ≡ min (locals_before l.groups l.group-index) (2 ^ 64 - 1);
  each : (k : ℕ) → k < l.group-index → slice_get l.ends.items k ≡ Some (end_of l.groups k);
}
