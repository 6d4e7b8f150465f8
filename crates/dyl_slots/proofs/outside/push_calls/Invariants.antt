use Rattle.std.proofs.Common.{◌≡◌, ◌++◌, map, drop}
use Rattle.wasm_form.specs.declared.runtime.Ref.TheVariants.{Loader}
use Rattle.dyl_slots.proofs.outside.push_calls.Given as goal

abbrev pub invariant-loop-call : goal.invariant-loop-call
invariant-loop-call l = l.list.items ++ map Loader (drop l.call-index l.calls) ≡ l.initial.list.items ++ map Loader l.calls
