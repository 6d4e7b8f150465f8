use Rattle.std.proofs.Common.{◌≡◌, ◌≤◌, ◌++◌, drop}
use Rattle.spec_linking.specs.LinkedSets.{function_ref}
use Rattle.spec_linking.specs.Slots.{imported_number}
use Rattle.dyl_front.specs.Listing.{import_lines}
use Rattle.dyl_front.proofs.binds.put_imports.Given as goal

abbrev pub invariant-loop-i : goal.invariant-loop-i
invariant-loop-i l = (l.f ≤ l.i-index) × (l.g ≤ l.i-index)
    × (l.to.items ++ import_lines (function_ref l.linked) (imported_number l.linked) l.m l.f l.g (drop l.i-index l.imports)
    ≡ l.fn.to.items ++ import_lines (function_ref l.linked) (imported_number l.linked) l.m 0 0 l.imports)
