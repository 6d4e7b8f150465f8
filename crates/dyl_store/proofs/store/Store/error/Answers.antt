use Rattle.std.proofs.Common.{sym, ap, ◌∙◌}
use Rattle.spec_loading.specs.Loading.{LoaderState}
use Rattle.dyl_store.proofs.store.Store.error.Goals as goal

pub returns : goal.returns
returns c = λ found. c.get.ensures.value ∙ c.errors.ensures ∙ ap (λ (l : LoaderState). l.error) (sym (c.bare.ensures.told found).at.loader)
