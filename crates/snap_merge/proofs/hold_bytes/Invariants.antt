use Rattle.std.proofs.Common.{take}
use Rattle.std.specs.List.{All}
use Rattle.dyl_store.proofs.Runnable.{IsOfBytes}
use Rattle.snap_merge.proofs.hold_bytes.Given as goal

abbrev pub invariant-loop-member : goal.invariant-loop-member
invariant-loop-member l = All IsOfBytes (take l.member-index l.member-items)
