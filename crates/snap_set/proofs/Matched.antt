-- Where the first step leads is matched by a loaded state that has just called its entry.
use Rattle.std.proofs.Common.{◌≡◌, ℕ, [], ◌∷◌, refl, sym, ap}
use Rattle.spec_loading.specs.wasm_form.declared.runtime.Ref.TheVariants.{Own}
use Rattle.spec_loading.specs.spec_runs.Systems.{Moving}
use Rattle.spec_loading.specs.spec_binary.Indices.{Function}
use Rattle.spec_loading.specs.spec_execution.Instances.{ModuleParts}
use Rattle.spec_loading.specs.spec_execution.OneModule.{Starting}
use Rattle.spec_loading.specs.spec_execution.Runs.{entered}
use Rattle.spec_loading.specs.spec_execution.Runs as frames
use Rattle.spec_loading.specs.Loading.{LoadedState}
use Rattle.merge_match.specs.Renumbering.{Numbers, function}
use Rattle.merge_match.specs.Matching.{Places, Shared, Matches}
use Rattle.merge_match.proofs.Spaces.{entered_same}
use Rattle.snap_module.specs.Laws.{entered_state}

-- nothing may stand at the bottom
abbrev pub MayBeBare : Places Starting → Type 0
MayBeBare P = (r : ℕ) → P.Bottom r []

pub entered_matches : {Units : Type 0} (n : Numbers) (P : Places Starting) (Same : Shared Units ModuleParts) → MayBeBare P
    → (s : LoadedState Units) (f : ℕ) (x : Function) (parts : ModuleParts)
    → s.run.status ≡ Moving → s.run.stack ≡ frames.Active (entered 0 f x []) ∷ [] → Same s.loader s.run.units parts
    → Matches n P Same s (entered_state (n.function (Own 0 f)) (function n 0 x) parts s.run.memory)
entered_matches n P Same bare s f x parts moving stack same = record {
  memory = refl;
  status = sym moving;
  units = same;
  stacks = rw (moving, stack) ([], ap (λ a. frames.Active a ∷ []) (entered_same n 0 f x []), bare (entered 0 f x []).results);
}
