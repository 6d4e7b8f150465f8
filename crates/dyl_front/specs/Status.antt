-- The exit status of each outcome.
-- This profile: docs/FORMATS.md, "How it ends".
use Rattle.std.specs.Prelude.{ℕ, ◌%◌, List, [], ◌∷◌, nat_eq, if◌then◌else◌}
use Rattle.spec_traces.specs.spec_hosts.declared.ran.Ran.{Ran as OneRun}
use Rattle.spec_traces.specs.spec_hosts.declared.ran.RunEnd.{RunEnd}
use Rattle.spec_traces.specs.spec_hosts.declared.ran.RunEnd.TheVariants as end
use Rattle.spec_linking.specs.declared.fault.SetFault.TheVariants.{ReadFault}
use Rattle.dyl_front.specs.declared.outcome.Outcome.{Outcome}
use Rattle.dyl_front.specs.declared.outcome.Outcome.TheVariants.{Done, Ran, Board, Usage, Set, Link, Merge, Single, Gen, Trace, TooLong, Snap, WriteFault, Memory}

abbrev pub end_status : RunEnd → ℕ
end_status end.Return = 0
end_status (end.Exit code) = code % 256
end_status (end.Trap why) = 134
end_status end.StepLimit = 124
end_status end.DepthLimit = 125
end_status end.HostCallLimit = 126
end_status end.TurnLimit = 124

-- that of the first program whose own isn't 0; 0 where there is none
abbrev pub board_status : List OneRun → ℕ
board_status [] = 0
board_status (run ∷ runs) = if nat_eq (end_status run.end) 0 then board_status runs else end_status run.end

abbrev pub status_of : Outcome → ℕ
status_of (Done runs) = 0
status_of (Ran ran) = end_status ran.end
status_of (Board board) = board_status board.runs
status_of (Usage kind) = 64
status_of (Set (ReadFault path)) = 66
status_of (Set fault) = 65
status_of (Link fault) = 65
status_of (Merge fault) = 65
status_of (Single fault) = 65
status_of (Gen fault) = 65
status_of (Trace fault) = 65
status_of (TooLong ran) = 65
status_of (Snap fault) = 65
status_of WriteFault = 74
status_of Memory = 71
