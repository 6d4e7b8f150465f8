use Rattle.std.proofs.Common.{◌≡◌, ◌≤◌, ◌*◌, ◌^◌, ◌++◌, drop, length}
use Rattle.spec_loading.specs.spec_binary.IndexSpaces.{function_space}
use Rattle.spec_loading.specs.Addresses.{sum_before}
use Rattle.spec_loading.specs.Members.{from_members}
use Rattle.merge_start.specs.Passive.{fresh_elems}
use Rattle.merge_start.proofs.passive.slots_elems.Given as goal

abbrev pub invariant-loop-m : goal.invariant-loop-m
invariant-loop-m l = record {
  made : l.list.items ++ from_members (fresh_elems l.linked l.n) l.m (drop l.m l.linked.set.members) ≡ from_members (fresh_elems l.linked l.n) 0 l.linked.set.members;
  at : l.at ≡ sum_before (λ w. length (function_space w)) l.linked.set.members l.m;
  within : l.at ≤ l.m * 2 ^ 33;
}
