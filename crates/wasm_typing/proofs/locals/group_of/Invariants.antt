use Rattle.std.proofs.Common.{◌<◌, ◌≤◌, ◌-◌, length}
use Rattle.wasm_typing.specs.GroupEnds.{locals_before}
use Rattle.wasm_typing.proofs.locals.group_of.Given as goal

abbrev pub decreases-loop-high : goal.decreases-loop-high
decreases-loop-high l = l.high - l.low

abbrev pub invariant-loop-high : goal.invariant-loop-high
invariant-loop-high l = record {
  order : l.low < l.high;
  within : l.high ≤ length l.groups;
  begins : locals_before l.groups l.low ≤ l.n;
  end : l.n < locals_before l.groups l.high;
}
