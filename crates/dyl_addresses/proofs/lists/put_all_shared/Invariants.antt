use Rattle.std.proofs.Common.{◌≡◌, ◌++◌, drop, map}
use Rattle.spec_loading.specs.spec_binary.IndexSpaces.{imports_of, tables_in}
use Rattle.dyl_addresses.proofs.lists.put_all_shared.Given as goal

abbrev pub invariant-loop-import : goal.invariant-loop-import
invariant-loop-import l =
    l.to.items ++ map (λ t. 0) (imports_of tables_in (drop l.import-index l.imports))
    ≡ l.fn.to.items ++ map (λ t. 0) (imports_of tables_in l.imports)
