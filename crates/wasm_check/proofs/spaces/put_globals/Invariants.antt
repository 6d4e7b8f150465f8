use Rattle.std.proofs.Common.{◌≡◌, ◌++◌, drop, map}
use Rattle.spec_execution.specs.spec_binary.IndexSpaces.{type_of_global}
use Rattle.wasm_check.proofs.spaces.put_globals.Given as goal

abbrev pub invariant-loop-global : goal.invariant-loop-global
invariant-loop-global l = l.to.items ++ map type_of_global (drop l.global-index l.globals) ≡ l.fn.to.items ++ map type_of_global l.globals
