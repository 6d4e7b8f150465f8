-- The line that is put to the errors for each outcome.
-- This profile: docs/FORMATS.md, "The line".
use Rattle.std.specs.Option.{option_map}
use Rattle.std.specs.Prelude.{ℕ, ◌+◌, ◌/◌, List, [], ◌∷◌, ◌++◌, codes, decimal, nat_lt, if◌then◌else◌, Option, Some, None}
use Rattle.spec_traces.specs.spec_hosts.spec_binary.declared.fault.DecodeFault.{DecodeFault}
use Rattle.spec_traces.specs.spec_hosts.spec_binary.declared.fault.DecodeFault.TheVariants as decode
use Rattle.spec_linking.specs.declared.fault.RecordFault.{RecordFault}
use Rattle.spec_linking.specs.declared.fault.RecordFault.TheVariants as record_faults
use Rattle.spec_linking.specs.declared.fault.Kind.{Kind}
use Rattle.spec_linking.specs.declared.fault.Kind.TheVariants as kind
use Rattle.spec_linking.specs.declared.fault.LinkFault.{LinkFault}
use Rattle.spec_linking.specs.declared.fault.LinkFault.TheVariants as link
use Rattle.spec_linking.specs.spec_validation.declared.fault.Place.{Place}
use Rattle.spec_linking.specs.spec_validation.declared.fault.Place.TheVariants as place
use Rattle.spec_linking.specs.spec_validation.declared.fault.Field.{Field}
use Rattle.spec_linking.specs.spec_validation.declared.fault.Field.TheVariants as field
use Rattle.spec_linking.specs.spec_validation.declared.fault.CheckFault.{CheckFault}
use Rattle.spec_linking.specs.spec_validation.declared.fault.CheckFault.TheVariants as check
use Rattle.spec_linking.specs.spec_execution.declared.fault.SingleFault.{SingleFault}
use Rattle.spec_linking.specs.spec_execution.declared.fault.SingleFault.TheVariants as single
use Rattle.spec_traces.specs.dyl_print.Printed.{hex_byte, escaped, trap_text}
use Rattle.spec_traces.specs.spec_hosts.declared.ran.Ran.{Ran as OneRun}
use Rattle.spec_traces.specs.spec_hosts.declared.ran.RunEnd.{RunEnd}
use Rattle.spec_traces.specs.spec_hosts.declared.ran.RunEnd.TheVariants as end
use Rattle.spec_merging.specs.declared.fault.MergeFault.{MergeFault}
use Rattle.spec_merging.specs.declared.fault.MergeFault.TheVariants as merge
use Rattle.dyl_gen.specs.declared.fault.GenFault.{GenFault}
use Rattle.dyl_gen.specs.declared.fault.GenFault.TheVariants as gen
use Rattle.spec_traces.specs.declared.trace.TraceFault.{TraceFault}
use Rattle.spec_traces.specs.declared.trace.TraceFault.TheVariants as trace
use Rattle.spec_snapshots.specs.declared.fault.SnapFault.{SnapFault}
use Rattle.spec_snapshots.specs.declared.fault.SnapFault.TheVariants as snap
use Rattle.dyl_front.specs.declared.outcome.Opt.{Opt}
use Rattle.dyl_front.specs.declared.outcome.Opt.TheVariants.{Dl, Path, Pages, Stack, Steps, Slice, Turns, N}
use Rattle.dyl_front.specs.declared.outcome.UsageKind.{UsageKind}
use Rattle.dyl_front.specs.declared.outcome.UsageKind.TheVariants.{NoCommand, UnknownCommand, Words, Number, Name}
use Rattle.spec_linking.specs.declared.fault.SetFault.{SetFault}
use Rattle.spec_linking.specs.declared.fault.SetFault.TheVariants as set
use Rattle.spec_linking.specs.declared.fault.SetFault.TheVariants.{Missing, ReadFault, Decode, Record, Check, ModuleCount, SetSize}
use Rattle.dyl_front.specs.declared.outcome.Outcome.{Outcome}
use Rattle.dyl_front.specs.declared.outcome.Outcome.TheVariants.{Done, Ran, Board, Usage, Set, Link, Merge, Single, Gen, Trace, TooLong, Snap, WriteFault, Memory}

abbrev pub option_text : Opt → List ℕ
option_text Dl = codes "--dl"
option_text Path = codes "--path"
option_text Pages = codes "--pages"
option_text Stack = codes "--stack"
option_text Steps = codes "--steps"
option_text Slice = codes "--slice"
option_text Turns = codes "--turns"
option_text N = codes "N"

abbrev pub usage_text : UsageKind → List ℕ
usage_text NoCommand = codes "usage: no command"
usage_text UnknownCommand = codes "usage: unknown command"
usage_text Words = codes "usage: words"
usage_text (Number of) = codes "usage: number for " ++ option_text of
usage_text (Name of) = codes "usage: name for " ++ option_text of

abbrev pub decode_text : ℕ → DecodeFault → List ℕ
decode_text m (decode.Malformed s) = codes "module " ++ decimal m ++ codes " malformed after " ++ decimal s ++ codes " sections"
decode_text m decode.Counts = codes "module " ++ decimal m ++ codes " counts differ"
decode_text m (decode.TooDeep f) = codes "module " ++ decimal m ++ codes " too deep in function " ++ decimal f
decode_text m (decode.TooManyLocals f) = codes "module " ++ decimal m ++ codes " too many locals in function " ++ decimal f
decode_text m decode.Memory = codes "out of memory"

abbrev pub record_text : ℕ → RecordFault → List ℕ
record_text m record_faults.NoDylink = codes "module " ++ decimal m ++ codes " has no dylink.0 section"
record_text m (record_faults.BadDylink k) = codes "module " ++ decimal m ++ codes " dylink.0 malformed after " ++ decimal k ++ codes " subsections"
record_text m record_faults.Memory = codes "out of memory"

-- two digits, or four where the opcode is counted from FC00
abbrev pub opcode_text : ℕ → List ℕ
opcode_text x = if nat_lt x 0xFC00 then hex_byte x else hex_byte (x / 256) ++ hex_byte x

abbrev pub place_text : Place → List ℕ
place_text (place.Import n) = codes "import " ++ decimal n
place_text (place.Function n) = codes "function " ++ decimal n
place_text (place.Table n) = codes "table " ++ decimal n
place_text (place.Global n) = codes "global " ++ decimal n
place_text (place.Element n) = codes "element " ++ decimal n
place_text (place.Body n) = codes "body " ++ decimal n

abbrev pub field_text : Field → List ℕ
field_text field.Import = codes "import"
field_text field.Function = codes "function"
field_text field.Table = codes "table"
field_text field.Space = codes "memory"
field_text field.Global = codes "global"
field_text field.Export = codes "export"
field_text field.Start = codes "start"
field_text field.Element = codes "element"
field_text field.Data = codes "data"

abbrev pub check_text : ℕ → CheckFault → List ℕ
check_text m (check.UnsupportedOp f x) = codes "module " ++ decimal m ++ codes " unsupported instruction " ++ opcode_text x ++ codes " in function " ++ decimal f
check_text m (check.UnsupportedType at) = codes "module " ++ decimal m ++ codes " unsupported type in " ++ place_text at
check_text m (check.BadModule part) = codes "module " ++ decimal m ++ codes " invalid " ++ field_text part
check_text m (check.BadBody f) = codes "module " ++ decimal m ++ codes " invalid body of function " ++ decimal f
check_text m check.Memory = codes "out of memory"

abbrev pub set_text : SetFault → List ℕ
set_text (Missing name) = codes "missing " ++ escaped name
set_text (ReadFault path) = codes "read fault " ++ escaped path
set_text (Decode m fault) = decode_text m fault
set_text (Record m fault) = record_text m fault
set_text (Check m fault) = check_text m fault
set_text ModuleCount = codes "more than 256 modules"
set_text SetSize = codes "files too long"
set_text set.Memory = codes "out of memory"

abbrev pub kind_text : Kind → List ℕ
kind_text kind.Function = codes "function"
kind_text kind.Mem = codes "mem"
kind_text kind.Func = codes "func"
kind_text kind.Other = codes "other"

abbrev pub link_text : LinkFault → List ℕ
link_text (link.MemoryLimit pages max) = codes "memory of " ++ decimal pages ++ codes " pages is above " ++ decimal max
link_text (link.TableLimit entries max) = codes "table of " ++ decimal entries ++ codes " entries is above " ++ decimal max
link_text (link.OwnMemory m) = codes "module " ++ decimal m ++ codes " has its own memory"
link_text (link.TlsExport m name) = (codes "module " ++ decimal m ++ codes " has TLS export ") ++ escaped name
link_text (link.Unresolved m k name) = codes "unresolved " ++ kind_text k ++ codes " " ++ escaped name ++ (codes " in " ++ decimal m)
link_text (link.IllTyped m k name) = codes "ill-typed " ++ kind_text k ++ codes " " ++ escaped name ++ (codes " in " ++ decimal m)
link_text (link.Duplicate name first second) = codes "duplicate " ++ escaped name ++ (codes " in " ++ decimal first ++ codes " and " ++ decimal second)
link_text link.NoEntry = codes "no entry"
link_text link.Memory = codes "out of memory"

-- that the section of a number is too long to be written
abbrev pub long_text : ℕ → List ℕ
long_text id = codes "section " ++ decimal id ++ codes " too long"

abbrev pub merge_text : MergeFault → List ℕ
merge_text (merge.SectionSize id) = long_text id
merge_text merge.Memory = codes "out of memory"

-- a run that returned or exited has no text
abbrev pub end_text : RunEnd → Option (List ℕ)
end_text end.Return = None
end_text (end.Exit code) = None
end_text (end.Trap why) = Some (codes "trap " ++ trap_text why)
end_text end.StepLimit = Some (codes "step limit")
end_text end.DepthLimit = Some (codes "depth limit")
end_text end.HostCallLimit = Some (codes "host call limit")
end_text end.TurnLimit = Some (codes "turn limit")

abbrev pub single_text : SingleFault → List ℕ
single_text single.NoEntry = codes "no entry"
single_text (single.HostImport from name) = codes "no host import " ++ escaped from ++ codes " " ++ escaped name
single_text (single.HostType from name) = codes "ill-typed host import " ++ escaped from ++ codes " " ++ escaped name
single_text single.SegmentTrap = codes "segment out of bounds"
single_text single.Memory = codes "out of memory"

abbrev pub gen_text : GenFault → List ℕ
gen_text gen.Range = codes "N must be 1 to 255"
gen_text gen.Memory = codes "out of memory"

-- why a trace isn't that of a run
abbrev pub trace_fault_text : TraceFault → List ℕ
trace_fault_text (trace.Line n) = codes "trace malformed in line " ++ decimal n
trace_fault_text trace.Steps = codes "trace has too many steps"
trace_fault_text (trace.Single fault) = single_text fault
trace_fault_text (trace.Differs call) = codes "trace differs at call " ++ decimal call
trace_fault_text trace.Memory = codes "out of memory"

-- why there is no snapshot of a set
abbrev pub snap_text : SnapFault → List ℕ
snap_text snap.HostCall = codes "snapshot: host call in start-up"
snap_text (snap.Trap why) = codes "snapshot: " ++ (codes "trap " ++ trap_text why) ++ codes " in start-up"
snap_text snap.Steps = codes "snapshot: step limit in start-up"
snap_text snap.Depth = codes "snapshot: depth limit in start-up"
snap_text (snap.SectionSize id) = long_text id
snap_text snap.Memory = codes "out of memory"

abbrev pub memory_text : List ℕ
memory_text = codes "out of memory"

-- what is told of an outcome; none where the command is done, and of a run that returned or exited; a board has a line for each program, below
abbrev pub outcome_text : Outcome → Option (List ℕ)
outcome_text (Done runs) = None
outcome_text (Ran ran) = end_text ran.end
outcome_text (Board board) = None
outcome_text (Usage kind) = Some (usage_text kind)
outcome_text (Set fault) = Some (set_text fault)
outcome_text (Link fault) = Some (link_text fault)
outcome_text (Merge fault) = Some (merge_text fault)
outcome_text (Single fault) = Some (single_text fault)
outcome_text (Gen fault) = Some (gen_text fault)
outcome_text (Trace fault) = Some (trace_fault_text fault)
outcome_text (TooLong ran) = Some (codes "trace too long")
outcome_text (Snap fault) = Some (snap_text fault)
outcome_text WriteFault = Some (codes "write fault")
outcome_text Memory = Some memory_text

-- the line of this text
abbrev pub line_with : List ℕ → List ℕ
line_with text = codes "wdyl: " ++ (text ++ 0x0A ∷ [])

-- that the program of a number of a board ended so
abbrev pub program_text : ℕ → List ℕ → List ℕ
program_text p text = codes "program " ++ decimal p ++ codes ": " ++ text

-- the line of the program of a number, if anything is told of its end
abbrev pub program_line : ℕ → RunEnd → Option (List ℕ)
program_line p end = option_map (λ text. line_with (program_text p text)) (end_text end)

-- two lines, if there are both
abbrev pub both_lines : Option (List ℕ) → Option (List ℕ) → Option (List ℕ)
both_lines None second = second
both_lines (Some first) None = Some first
both_lines (Some first) (Some second) = Some (first ++ second)

-- the lines of programs, of which the first has this number; none where nothing is told of any
abbrev pub board_lines : ℕ → List OneRun → Option (List ℕ)
board_lines p [] = None
board_lines p (run ∷ runs) = both_lines (program_line p run.end) (board_lines (p + 1) runs)

-- The line of an outcome, if anything is told of it. For a board these are the lines of its programs, in order.
abbrev pub line_of : Outcome → Option (List ℕ)
line_of (Board board) = board_lines 0 board.runs
line_of outcome = option_map line_with (outcome_text outcome)
