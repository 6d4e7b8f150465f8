use Rattle.std.proofs.Common.{◌≡◌, ℕ, List, map, take, Bor}
use Rattle.std.specs.List.{list_any}
use Rattle.std.specs.Str.{bytes_eq}
use Rattle.std.specs.Ordering.{nat_cmp}
use Rattle.std.specs.Cmp.Lexicographic.{slice_cmp}
use Rattle.std.specs.BTreeSet as sorted
use Rattle.spec_execution.specs.spec_binary.Exports.{AllDistinct, name_of}
use Rattle.wasm_check.proofs.names.are_distinct.Given as goal

abbrev pub invariant-loop-export : goal.invariant-loop-export
invariant-loop-export l = record {
  has : (q : Bor (List ℕ)) → sorted.contains (λ x y. slice_cmp nat_cmp x.now y.now) l.names q ≡ list_any (bytes_eq q.now)
      (map name_of (take l.export-index l.exports));
  distinct : AllDistinct (map name_of (take l.export-index l.exports));
}
