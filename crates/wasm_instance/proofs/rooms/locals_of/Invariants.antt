use Rattle.std.proofs.Common.{◌≡◌, ◌+◌, ◌≤◌, drop, length}
use Rattle.spec_safety.specs.spec_binary.Indices.{declared_locals}
use Rattle.spec_safety.specs.spec_binary.Saturated.{saturated}
use Rattle.wasm_instance.proofs.rooms.locals_of.Given as goal

abbrev pub invariant-loop-group : goal.invariant-loop-group
invariant-loop-group l = record {
  counted : saturated (l.count + length (declared_locals (drop l.group-index l.groups))) ≡ saturated (length (declared_locals l.groups));
  small : l.count ≤ 4294967295;
}
