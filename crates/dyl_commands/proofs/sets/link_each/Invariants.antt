use Rattle.std.proofs.Common.{drop}
use Rattle.host_calls.specs.Embedders.{names_of}
use Rattle.dyl_link.specs.Sets as links
use Rattle.dyl_commands.proofs.Several.{GoesOn}
use Rattle.dyl_commands.proofs.sets.link_each.Given as goal

abbrev pub invariant-loop-main : goal.invariant-loop-main
invariant-loop-main g l = GoesOn (names_of l.host) (links.options_of l.o) l.mains (drop l.main-index l.mains) l.sets.items (g.F.Files.seen l.fn.files) (g.F.Files.seen l.files)
