use Rattle.std.proofs.Common.{◌≡◌, ◌++◌, map, drop}
use Rattle.wasm_form.specs.declared.runtime.Ref.TheVariants.{Host}
use Rattle.dyl_slots.proofs.outside.push_hosts.Given as goal

abbrev pub invariant-loop-n : goal.invariant-loop-n
invariant-loop-n l = l.list.items ++ map Host (drop l.n-index l.hosts) ≡ l.initial.list.items ++ map Host l.hosts
