use Rattle.std.proofs.Common.{◌≡◌, ◌++◌, map, take}
use Rattle.snap_module.specs.Held.{passive_data}
use Rattle.snap_parts.proofs.datas.put_passive.Given as goal

abbrev pub invariant-loop-bytes : goal.invariant-loop-bytes
invariant-loop-bytes l = l.to.items ≡ l.fn.to.items ++ map passive_data (map (λ d. d.now) (take l.bytes-index l.datas))
