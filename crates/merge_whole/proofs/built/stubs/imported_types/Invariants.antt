use Rattle.std.proofs.Common.{◌≡◌, ◌++◌, drop}
use Rattle.spec_reading.specs.spec_binary.IndexSpaces.{functions_in, imports_of}
use Rattle.merge_whole.proofs.built.stubs.imported_types.Given as goal

abbrev pub invariant-loop-import : goal.invariant-loop-import
invariant-loop-import l =
    l.types.items ++ imports_of functions_in (drop l.import-index l.imports)
    ≡ imports_of functions_in l.imports
