use Rattle.dyl_gen.specs.Files.{HasFirst}
use Rattle.dyl_gen.proofs.files.add_members.Given as goal

abbrev pub invariant-loop-k : goal.invariant-loop-k
invariant-loop-k l = HasFirst l.n l.k l.files
