use Rattle.std.proofs.Common.{ap, refl, ◌∙◌}
use Rattle.dyl_store.specs.Worlds.{WorldState}
use Rattle.dyl_store.specs.Units.{store_of}
use Rattle.dyl_store.proofs.Placed.{data_dropped}
use Rattle.dyl_store.proofs.view.WorldView.drop_data.Goals as goal
use Rattle.spec_loading.specs.Members.{set_view, set_instances}

pub returns-clause-changes : goal.returns-clause-changes
returns-clause-changes c =
    data_dropped (set_instances c.args.self.now.linked) c.args.unit c.args.d c.data_address-segment.result (store_of c.self.inside) (λ d. d.now) c.self.inside.datas.items _ c.data_address-segment.ensures.found refl refl
    ∙ ap (λ (s : WorldState). (set_view c.args.self.now.linked).drop_data s.store c.args.unit c.args.d) c.self.view_is
