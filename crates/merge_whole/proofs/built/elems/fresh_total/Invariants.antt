use Rattle.std.proofs.Common.{◌≡◌, ◌+◌, length, drop}
use Rattle.spec_loading.specs.spec_linking.Slots.{fresh_from, fresh_functions}
use Rattle.merge_whole.proofs.built.elems.fresh_total.Given as goal

abbrev pub invariant-loop-m : goal.invariant-loop-m
invariant-loop-m l = l.next + length (fresh_from l.linked l.m (drop l.m l.linked.set.members)) ≡ l.start + length (fresh_functions l.linked)
