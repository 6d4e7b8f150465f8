use Rattle.std.proofs.Common.{ℕ, List, slice_get, sym, ap, ◌∙◌}
use Rattle.spec_loading.specs.Loading.{LoaderState, stage_in}
use Rattle.dyl_store.proofs.store.Store.stage.Goals as goal

pub returns : goal.returns
returns c = λ found.
    ap (λ (l : LoaderState). stage_in l c.args.m) (c.bare.ensures.told found).at.loader ∙ ap (λ (ss : List ℕ). slice_get ss c.args.m) (sym c.stages.ensures) ∙ c.get.ensures
