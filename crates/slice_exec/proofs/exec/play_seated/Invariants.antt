use Rattle.std.proofs.Common.{take}
use Rattle.std.specs.List.{AllZip}
use Rattle.slice_exec.specs.Playing.{IsHostsOf}
use Rattle.slice_exec.proofs.exec.play_seated.Given as goal

abbrev pub invariant-loop-linked : goal.invariant-loop-linked
invariant-loop-linked g l = AllZip (IsHostsOf l.name l.table) (take l.linked-index l.sets) l.hosts.items
