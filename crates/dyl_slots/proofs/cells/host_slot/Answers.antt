use Rattle.std.proofs.Common.{◌∙◌, ℕ, Option, Some, ap}
use Rattle.wasm_form.specs.declared.runtime.Ref.TheVariants.{Host}
use Rattle.spec_loading.specs.spec_binary.Options.{◌>>=◌}
use Rattle.spec_loading.specs.spec_linking.Slots.{slot_of}
use Rattle.dyl_slots.proofs.cells.host_slot.Goals as goal

pub returns-in-Some : goal.returns-in-Some
returns-in-Some c = λ L is.
    c.slot_at.ensures ∙ is.slots (Host c.in-Some.n) ∙ ap (λ (o : Option ℕ). (o >>= λ n. Some (Host n)) >>= slot_of L) (c.in-Some.ensures L is.imports)
