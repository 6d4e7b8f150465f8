-- A call stack of few activations, none of which has much room, passes no limit of depth.
use Rattle.std.proofs.Common.{◌≡◌, ℕ, ◌*◌, ◌≤◌, List, [], ◌∷◌, length, Option, Some, None, false, ◌||◌, refl, ap, ap₂, arith}
use Rattle.std.proofs.lemmas.Bool.{le-ltb}
use Rattle.std.proofs.lemmas.Nat.{mul-le}
use Rattle.spec_loading.specs.wasm_form.declared.module.Module.{Module}
use Rattle.spec_hosts.specs.spec_runs.Systems.{Moving}
use Rattle.spec_loading.specs.spec_binary.Options.{◌>>=◌}
use Rattle.spec_loading.specs.spec_execution.Activations.{Activation}
use Rattle.spec_loading.specs.spec_execution.Instances.{ModuleParts, module_view, module_hosts}
use Rattle.spec_loading.specs.spec_execution.Limits.{most_activations, most_values, room_of, rooms_of, activations, is_deep, passes_limit}
use Rattle.spec_loading.specs.spec_execution.OneModule.{Starting, ModuleState, module_next, module_too_deep, module_step}
use Rattle.spec_loading.specs.spec_execution.Runs.{Frame, Next, Goes, Asks, Loads, became}
use Rattle.spec_loading.specs.spec_execution.Runs as frames
use Rattle.spec_loading.specs.SetCosts.{module_depth}
use Rattle.spec_limits.specs.Ending.{IsAsWide}

module _ (wasm : Module) (deepest widest : ℕ) (wide : IsAsWide wasm widest) (few : deepest ≤ most_activations) (small : deepest * widest ≤ most_values) where
  rooms : (top : List Activation) → rooms_of (module_view wasm) top ≤ length top * widest
  rooms [] = omega arith
  rooms (a ∷ top) =
      let one : room_of (module_view wasm) a.unit a.func ≤ widest = wide a.func in
      let rest = rooms top in
      omega arith

  shallow : (frames : List (Frame Starting)) → length (activations frames) ≤ deepest → is_deep (module_view wasm) frames ≡ false
  shallow frames low =
      let held = rooms (activations frames) in
      let most : length (activations frames) * widest ≤ deepest * widest = mul-le (length (activations frames)) widest deepest widest low (omega arith) in
      let within : rooms_of (module_view wasm) (activations frames) ≤ most_values = omega (arith, small) in
      ap₂ (λ a b. a || b)
      (le-ltb most_activations (length (activations frames)) (omega (arith, few, low)))
      (le-ltb most_values (rooms_of (module_view wasm) (activations frames)) within)

  -- a step to a state that isn't deep is no step past the limit
  pub not_deep : (t u : ModuleState) → module_step wasm t ≡ Some u → module_depth u ≤ deepest → module_too_deep wasm t ≡ false
  not_deep t u e low = go (module_next wasm t t.stack) e
    where
      go : (o : Option (Next ModuleParts Starting)) → (o >>= became (module_hosts wasm) t) ≡ Some u → passes_limit (module_view wasm) o ≡ false
      go None e = refl
      go (Some (Goes us memory fs)) e =
          let same : (record { units = us; memory = memory; stack = fs; status = Moving }) ≡ u = cc in
          shallow fs (let deep : module_depth (record { units = us; memory = memory; stack = fs; status = Moving }) ≡ module_depth u = ap module_depth same in omega (arith, deep, low))
      go (Some (Asks entry args fs)) e = refl
      go (Some (Loads which args fs)) e = refl
      go (Some frames.Ends) e = refl
      go (Some (frames.Traps why)) e = refl
