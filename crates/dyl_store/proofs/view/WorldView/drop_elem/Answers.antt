use Rattle.std.proofs.Common.{ap, refl, ◌∙◌}
use Rattle.dyl_store.specs.Worlds.{WorldState}
use Rattle.dyl_store.specs.Units.{store_of}
use Rattle.dyl_store.proofs.Placed.{elem_dropped}
use Rattle.dyl_store.proofs.view.WorldView.drop_elem.Goals as goal
use Rattle.spec_loading.specs.Members.{set_view, set_instances}

pub returns-clause-changes : goal.returns-clause-changes
returns-clause-changes c =
    elem_dropped (set_instances c.args.self.now.linked) c.args.unit c.args.e c.elem_address-segment.result (store_of c.self.inside) (λ v. v.items) c.self.inside.elems.items c.clear.new.self c.elem_address-segment.ensures.found refl c.clear.ensures.items
    ∙ ap (λ (s : WorldState). (set_view c.args.self.now.linked).drop_elem s.store c.args.unit c.args.e) c.self.view_is
