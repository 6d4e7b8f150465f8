use Rattle.std.proofs.Common.{◌≡◌, ◌++◌, drop, map}
use Rattle.wasm_check.specs.Spaces.{item_type_of}
use Rattle.wasm_check.proofs.spaces.elems_of.Given as goal

abbrev pub invariant-loop-elem : goal.invariant-loop-elem
invariant-loop-elem l = l.types.items ++ map item_type_of (drop l.elem-index l.elems) ≡ map item_type_of l.elems
