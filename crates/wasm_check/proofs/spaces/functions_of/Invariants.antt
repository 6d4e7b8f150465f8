use Rattle.std.proofs.Common.{◌≡◌, ◌++◌, drop}
use Rattle.spec_execution.specs.spec_binary.IndexSpaces.{imports_of, functions_in}
use Rattle.wasm_check.proofs.spaces.functions_of.Given as goal

abbrev pub invariant-loop-import : goal.invariant-loop-import
invariant-loop-import l = l.functions.items ++ imports_of functions_in (drop l.import-index l.m.imports) ≡ imports_of functions_in
    l.m.imports
