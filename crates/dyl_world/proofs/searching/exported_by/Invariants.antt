use Rattle.std.proofs.Common.{take}
use Rattle.dyl_world.specs.Found.{AreWithout}
use Rattle.dyl_world.proofs.searching.exported_by.Given as goal

abbrev pub invariant-loop-member : goal.invariant-loop-member
invariant-loop-member l = AreWithout l.name (take l.member-index l.members)
