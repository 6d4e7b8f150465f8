use Rattle.std.proofs.Common.{ap, subst, ◌≡◌, Some}
use Rattle.dyl_store.specs.Worlds.{WorldState}
use Rattle.dyl_store.proofs.Members.{target_there}
use Rattle.dyl_store.proofs.view.WorldView.target.Goals as goal
use Rattle.spec_loading.specs.spec_linking.LinkedSets.{LinkedSet, function_ref}

pub function-requires : goal.function-requires
function-requires c = target_there c.self.inside.linked.now c.args.self.now.linked (ap (λ (s : WorldState). s.linked) c.self.view_is) c.self.invariant.there c.args.unit c.args.f c.requires

pub returns : goal.returns
returns c = subst (λ (L : LinkedSet). Some c.function.result ≡ function_ref L c.args.unit c.args.f) (ap (λ (s : WorldState). s.linked) c.self.view_is) c.function.ensures
