use Rattle.std.proofs.Common.{◌≡◌, ◌++◌, drop}
use Rattle.spec_loading.specs.Members.{from_members}
use Rattle.merge_match.specs.Renumbering.{Numbers}
use Rattle.merge_start.specs.Words.{Starts}
use Rattle.merge_start.specs.Listed.{AreListed, IsAt, phase_parts}
use Rattle.merge_start.proofs.Bounds.{AreWithin}
use Rattle.merge_start.proofs.functions.phase_functions.Given as goal

abbrev pub invariant-loop-m : goal.invariant-loop-m
invariant-loop-m l = record {
  made : (N : Numbers) (x : Starts) → AreListed l.linked l.n N x
      → l.parts.items ++ from_members (phase_parts l.linked N x) l.m (drop l.m l.linked.set.members) ≡ from_members (phase_parts l.linked N x) 0 l.linked.set.members;
  at : IsAt l.linked l.m l.at;
  within : AreWithin l.m l.at;
}
