use Rattle.std.proofs.Common.{◌≡◌, take, drop}
use Rattle.std.specs.List.{AllZip}
use Rattle.slice_exec.specs.Playing.{IsRan}
use Rattle.slice_exec.proofs.ending.end_all.Given as goal

abbrev pub invariant-loop-bytes : goal.invariant-loop-bytes
invariant-loop-bytes l = record {
  rest : l.seats.items ≡ drop l.bytes-index l.fn.seats.items;
  ran : AllZip IsRan (take l.bytes-index l.fn.seats.items) l.runs.items;
}
