use Rattle.std.proofs.Common.{All, List, ap, subst, sym, ◌∙◌}
use Rattle.wasm_form.specs.declared.module.Module.{Module}
use Rattle.wasm_form.specs.declared.module.Elem.{Elem}
use Rattle.spec_loading.specs.spec_validation.Faults.{fault}
use Rattle.dyl_addresses.specs.Offsets.{HasElemOffset}
use Rattle.dyl_addresses.proofs.Valid.{elem_offsets}
use Rattle.dyl_store.proofs.segment_places.member_elems.Goals as goal

pub elems_at-requires : goal.elems_at-requires
elems_at-requires c =
    subst (λ (xs : List Elem). All HasElemOffset xs) (sym c.items.ensures)
    (elem_offsets c.module.result.now (ap (λ (w : Module). fault w) c.module.ensures.same ∙ c.module.ensures.valid))
