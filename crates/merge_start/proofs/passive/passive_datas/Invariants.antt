use Rattle.std.proofs.Common.{◌≡◌, ◌++◌, drop}
use Rattle.spec_loading.specs.Members.{from_members}
use Rattle.merge_start.specs.Passive.{own_datas}
use Rattle.merge_start.proofs.passive.passive_datas.Given as goal

abbrev pub invariant-loop-m : goal.invariant-loop-m
invariant-loop-m l = l.list.items ++ from_members own_datas l.m (drop l.m l.linked.set.members) ≡ from_members own_datas 0 l.linked.set.members
