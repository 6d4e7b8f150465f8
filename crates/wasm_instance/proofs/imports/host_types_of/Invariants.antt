use Rattle.std.proofs.Common.{◌≡◌, ◌++◌, drop}
use Rattle.spec_safety.specs.spec_binary.IndexSpaces.{imports_of, functions_in}
use Rattle.wasm_instance.proofs.imports.host_types_of.Given as goal

abbrev pub invariant-loop-import : goal.invariant-loop-import
invariant-loop-import l = l.types.items ++ imports_of functions_in (drop l.import-index l.imports) ≡ imports_of functions_in l.imports
