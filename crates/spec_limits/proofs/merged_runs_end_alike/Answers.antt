use Rattle.spec_loading.specs.Loading.{loaded_too_deep}
use Rattle.spec_loading.specs.LoadedSet.{set_loading, set_system, set_opening}
use Rattle.spec_loading.specs.SetCosts.{step_cost, set_room}
use Rattle.spec_limits.proofs.Within.{ends_within}
use Rattle.spec_limits.proofs.merged_runs_end_alike.Goals as goal

pub returns : goal.returns
returns c = λ L bytes merged least most deepest widest ran runs ends deep wide within enough.
    let i = ends_within (set_system L) (loaded_too_deep (set_loading L)) merged.wasm (step_cost L) set_room 1 (set_opening L) merged.opening merged.within
    least most deepest widest ran runs ends deep wide within.activations within.values enough
    in
    record { steps = i.0; few = i.1; runs = i.2; events = i.3; only = i.4 }
