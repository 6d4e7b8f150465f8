-- A sound activation stays within its room: its values within the height of its function, and its open blocks within how many may be nested.
use Rattle.std.proofs.Common.{◌≡◌, ◌≤◌, ℕ, suc, ◌+◌, List, [], ◌∷◌, ◌++◌, length, ap, arith}
use Rattle.std.proofs.lemmas.List.{length-append}
use Rattle.spec_execution.specs.wasm_form.declared.types.ValType.{ValType}
use Rattle.spec_execution.specs.spec_binary.BodyLimits.{most_nested}
use Rattle.spec_execution.specs.spec_binary.Indices.{Function}
use Rattle.spec_execution.specs.spec_validation.Context.{Context, Labels}
use Rattle.spec_execution.specs.Activations.{Level, Activation}
use Rattle.spec_execution.specs.Views.{View}
use Rattle.spec_execution.specs.Runs.{Frame, Active}
use Rattle.spec_safety.specs.TypedActivations.{count_below, AreOpen, within, IsTyped}
use Rattle.spec_safety.specs.TypedFrames.{OnMark, Stand}
use Rattle.spec_safety.proofs.HeldValues.{have_length}
use Rattle.spec_safety.proofs.OpenBlocks.{listed}

module _ {Units : Type 0} (V : View Units) (N : ℕ → Context) where
  -- each open block has a label, and so has the body
  labels_counted : (c : Context) (most : ℕ) (ls : List Level) (labels : Labels) (ends : List ValType) → AreOpen V c most ls labels ends
      → length labels ≡ suc (length ls)
  labels_counted c most [] labels ends o = ap length o.0
  labels_counted c most (l ∷ ls) [] ends o = absurd o
  labels_counted c most (l ∷ ls) (taken ∷ labels) ends o = ap suc (labels_counted c most ls labels o.0 o.2)

  module _ (function : Function) (given : List ValType) (a : Activation) (x : IsTyped V N function [] given a) where
    abbrev c : Context
    c = within (N a.unit) (function.ty.params ++ function.locals) function.ty.results

    pub within_height : length a.values + count_below a.levels ≤ V.height a.unit a.func
    within_height =
        let most = V.height a.unit a.func in
        let room = listed c x.labels (count_below a.levels) most (given ++ x.kept) x.ends a.rest x.rest in
        let l = have_length V x.kept a.values x.values in
        let m = length-append given x.kept in
        omega arith

    pub few_open : length a.levels ≤ most_nested
    few_open =
        let n = labels_counted c (V.height a.unit a.func) a.levels x.labels x.ends x.levels in
        let nested = x.rest.nested in
        omega arith

  -- so does the activation on top of sound frames
  pub top_within : {Mark : Type 0} (M : OnMark Mark) (a : Activation) (frames : List (Frame Mark)) (given : List ValType)
      → Stand V N M (Active a ∷ frames) given
      → (length a.values + count_below a.levels ≤ V.height a.unit a.func) × (length a.levels ≤ most_nested)
  top_within M a frames given st = (within_height st.0 given a st.1, few_open st.0 given a st.1)
