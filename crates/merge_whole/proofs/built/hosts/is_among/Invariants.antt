use Rattle.std.proofs.Common.{◌≡◌, drop}
use Rattle.std.specs.List.{list_any}
use Rattle.spec_reading.specs.spec_binary.SameTypes.{same_function_type}
use Rattle.merge_whole.proofs.built.hosts.is_among.Given as goal

abbrev pub invariant-loop-other : goal.invariant-loop-other
invariant-loop-other l = list_any (same_function_type l.ty) (drop l.other-index l.types) ≡ list_any (same_function_type l.ty) l.types
