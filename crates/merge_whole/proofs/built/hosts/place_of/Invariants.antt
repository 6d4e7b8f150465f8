use Rattle.std.proofs.Common.{◌≡◌, ◌+◌, drop}
use Rattle.std.specs.List.{position_or_len}
use Rattle.spec_reading.specs.spec_binary.SameTypes.{same_function_type}
use Rattle.merge_whole.proofs.built.hosts.place_of.Given as goal

abbrev pub invariant-loop-place : goal.invariant-loop-place
invariant-loop-place l =
    l.place + position_or_len (same_function_type l.ty) (drop l.place l.types) ≡ position_or_len (same_function_type l.ty) l.types
