use Rattle.std.proofs.Common.{◌≡◌, ◌++◌, drop, map}
use Rattle.merge_start.specs.Passive.{passive_data}
use Rattle.merge_start.proofs.passive.put_datas.Given as goal

abbrev pub invariant-loop-d : goal.invariant-loop-d
invariant-loop-d l = l.to.items ++ map passive_data (drop l.d-index l.datas) ≡ l.fn.to.items ++ map passive_data l.datas
