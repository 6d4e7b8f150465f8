use Rattle.std.proofs.Common.{◌≡◌, drop}
use Rattle.std.specs.List.{list_any}
use Rattle.wasm_form.specs.declared.runtime.Ref.TheVariants.{Loader}
use Rattle.spec_loading.specs.spec_linking.Slots.{same_ref}
use Rattle.dyl_slots.proofs.outside.has_call.Given as goal

abbrev pub invariant-loop-r : goal.invariant-loop-r
invariant-loop-r l = list_any (same_ref (Loader l.call)) (drop l.r-index l.list) ≡ list_any (same_ref (Loader l.call)) l.list
