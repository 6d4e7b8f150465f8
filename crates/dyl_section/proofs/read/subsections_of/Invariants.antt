use Rattle.std.proofs.Common.{length}
use Rattle.dyl_section.specs.Reading.{seen}
use Rattle.dyl_section.proofs.Loop.{Continues}
use Rattle.dyl_section.proofs.read.subsections_of.Given as goal

abbrev pub invariant-loop-rest : goal.invariant-loop-rest
invariant-loop-rest l = Continues (seen l.said) l.count l.rest l.bytes

abbrev pub decreases-loop-rest : goal.decreases-loop-rest
decreases-loop-rest l = length l.rest
