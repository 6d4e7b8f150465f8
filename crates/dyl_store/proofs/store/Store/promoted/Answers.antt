use Rattle.std.proofs.Common.{sym, ap, ◌∙◌}
use Rattle.spec_loading.specs.Loading.{LoaderState}
use Rattle.dyl_world.specs.Promoted.{PromotedMembers}
use Rattle.dyl_store.proofs.store.Store.promoted.Goals as goal

pub returns : goal.returns
returns c = λ found. c.list.ensures ∙ ap (λ (p : PromotedMembers). p.list) c.promoted.ensures ∙ ap (λ (l : LoaderState). l.promoted) (sym (c.bare.ensures.told found).at.loader)
