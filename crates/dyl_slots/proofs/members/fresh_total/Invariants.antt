use Rattle.std.proofs.Common.{◌≡◌, ◌+◌, ◌*◌, ◌^◌, ◌≤◌, drop}
use Rattle.dyl_slots.specs.Given.{fresh_sum}
use Rattle.dyl_slots.proofs.members.fresh_total.Given as goal

abbrev pub invariant-loop-s : goal.invariant-loop-s
invariant-loop-s l = record {
  sum : l.total + fresh_sum (drop l.s-index l.all) ≡ fresh_sum l.all;
  small : l.total ≤ l.s-index * 2 ^ 32;
}
