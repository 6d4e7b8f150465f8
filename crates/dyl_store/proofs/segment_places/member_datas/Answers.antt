use Rattle.std.proofs.Common.{All, List, ap, subst, sym, ◌∙◌}
use Rattle.wasm_form.specs.declared.module.Module.{Module}
use Rattle.wasm_form.specs.declared.module.Data.{Data}
use Rattle.spec_loading.specs.spec_validation.Faults.{fault}
use Rattle.dyl_addresses.specs.Offsets.{HasDataOffset}
use Rattle.dyl_addresses.proofs.Valid.{data_offsets}
use Rattle.dyl_store.proofs.segment_places.member_datas.Goals as goal

pub datas_at-requires : goal.datas_at-requires
datas_at-requires c =
    subst (λ (xs : List Data). All HasDataOffset xs) (sym c.items.ensures)
    (data_offsets c.module.result.now (ap (λ (w : Module). fault w) c.module.ensures.same ∙ c.module.ensures.valid))
