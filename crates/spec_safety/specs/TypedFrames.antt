-- Call stacks whose frames fit one another, and what a step of typed code comes to.
-- Part of the statement of laws (WebAssembly Core 2.0, appendix on soundness).
use Rattle.std.specs.Prelude.{◌≡◌, ◌≢◌, ℕ, List, [], ◌∷◌, reverse, Option, Some, None, true}
use Rattle.spec_execution.specs.wasm_form.declared.types.ValType.{ValType}
use Rattle.spec_execution.specs.wasm_form.declared.types.FuncType.{FuncType}
use Rattle.spec_execution.specs.spec_binary.Indices.{Function}
use Rattle.spec_execution.specs.spec_validation.Context.{Context}
use Rattle.spec_execution.specs.Views.{View, loader_type}
use Rattle.spec_execution.specs.Runs.{Frame, Active, Marked, Next, Goes, Asks, Loads, Ends, Traps}
use Rattle.spec_safety.specs.ValueTypes.{AreArguments, IsMemory}
use Rattle.spec_safety.specs.TypedActivations.{IsTyped}

-- what is so of a mark over frames, by which values these may be given
abbrev pub OnMark : Type 0 → Type 1
OnMark Mark = Mark → List (Frame Mark) → (List ValType → Type 0) → Type 0

-- what stands at the bottom or on a mark takes nothing
abbrev pub IsCalledOver : {Mark : Type 0} → List (Frame Mark) → FuncType → Type 0
IsCalledOver [] ty = ty.params ≡ []
IsCalledOver (Active a ∷ frames) ty = Unit {0}
IsCalledOver (Marked mark ∷ frames) ty = ty.params ≡ []

-- Frames that are given values of these types, the topmost first, by what they called: an activation takes exactly the results of what it
-- called, and nothing is given to a mark or to the bottom.
abbrev pub Stand : {Units Mark : Type 0} → View Units → (ℕ → Context) → OnMark Mark → List (Frame Mark) → List ValType → Type 0
Stand V N M [] given = given ≡ []
Stand V N M (Active a ∷ frames) given =
    (x : Function) × IsTyped V N x [] given a × IsCalledOver frames x.ty × Stand V N M frames (reverse x.ty.results)
Stand V N M (Marked mark ∷ frames) given = (given ≡ []) × M mark frames (Stand V N M frames)

-- what a step comes to is there, and sound
abbrev pub IsSoundNext : {Units Mark : Type 0} → View Units → (ℕ → Context) → (Units → Type 0) → OnMark Mark → Option (Next Units Mark) → Type 0
IsSoundNext V N Kept M None = ⊥
IsSoundNext V N Kept M (Some (Goes us memory frames)) = Kept us × IsMemory memory × (frames ≢ []) × Stand V N M frames []
IsSoundNext V N Kept M (Some (Asks entry args frames)) = (ty : FuncType) × (V.host entry ≡ Some ty) × AreArguments V ty args
    × IsCalledOver frames ty × Stand V N M frames (reverse ty.results)
IsSoundNext V N Kept M (Some (Loads which args frames)) = (V.has_loader ≡ true) × AreArguments V (loader_type which) args
    × Stand V N M frames (reverse (loader_type which).results)
IsSoundNext V N Kept M (Some Ends) = Unit {0}
IsSoundNext V N Kept M (Some (Traps why)) = Unit {0}
