-- The code that promotes members does what the loader does when it promotes them.
use Rattle.std.proofs.Common.{◌≡◌, ℕ, suc, ◌+◌, ◌*◌, ◌^◌, ◌<◌, Bool, true, false, List, [], ◌∷◌, ◌++◌, length, nat_eq, slice_get, Some, None, if◌then◌else◌, refl, ap, ◌∙◌, subst, arith, mod-eq_of_lt}
use Rattle.std.proofs.lemmas.Bool.Decides.{nat_tests}
use Rattle.std.proofs.lemmas.List.Elements.{All-head, All-tail}
use Rattle.wasm_form.specs.declared.instr.Instr.{Instr, Plain, Index}
use Rattle.wasm_form.specs.declared.module.Module.{Module}
use Rattle.wasm_form.specs.declared.runtime.Value.{Value}
use Rattle.wasm_form.specs.declared.runtime.Value.TheVariants.{Num}
use Rattle.spec_loading.specs.spec_runtime.Memories.{MemoryInstance}
use Rattle.spec_loading.specs.spec_runtime.Numerics.{W32, iadd}
use Rattle.spec_loading.specs.spec_execution.Values.{low}
use Rattle.spec_loading.specs.spec_execution.Activations.{one_if}
use Rattle.spec_loading.specs.spec_execution.Instances.{ModuleParts}
use Rattle.spec_loading.specs.spec_linking.Orders.{is_among, with_number, with_numbers}
use Rattle.spec_loading.specs.spec_linking.LinkedSets.{LinkedSet}
use Rattle.spec_loading.specs.Loading.{LoaderState}
use Rattle.spec_loading.specs.LoaderAnswers.{later_members, promoted_with}
use Rattle.spec_loading.specs.Members.{Store, uses_loader}
use Rattle.merge_match.specs.Renumbering.{Numbers}
use Rattle.merge_pieces.specs.Opcodes as op
use Rattle.merge_start.specs.Words.{Starts, place_global, next_place, promote_one, promote_each, promote_code}
use Rattle.merge_start.specs.Running.{Changing, Does}
use Rattle.merge_start.specs.Started.{AreLater, place_of, Same}
use Rattle.merge_start.proofs.Keeping.{get_same, get_other}
use Rattle.merge_start.proofs.Placing.{changing}
use Rattle.merge_start.proofs.Promoted.{place_none, place_some, count_there, few_there, place_there, promoted_same, promoted_parts}
use Rattle.merge_start.proofs.Reaching.{with_global, does_nothing, does_more, does_then, does_number, does_global, does_set, does_eqz, does_add, does_skip, does_if}

low_small : (k : ℕ) → k < 2 ^ 32 → low W32 k ≡ k
low_small k small = mod-eq_of_lt small

added : (k : ℕ) → suc k < 2 ^ 32 → iadd 32 (low W32 k) (low W32 1) ≡ suc k
added k small =
    let whole : low W32 k ≡ k = low_small k (omega (arith, small)) in
    let fits : k + 1 < 2 ^ 32 = omega (arith, small) in
    rw whole (mod-eq_of_lt fits ∙ omega arith)

module _ (L : LinkedSet) (n : Numbers) (x : Starts) (merged : Module) (used : uses_loader L ≡ true)
    (number : x.promoted ≡ x.guards + length L.set.members + 1) where
  abbrev with_promoted : LoaderState → List ℕ → LoaderState
  with_promoted loader ps = record loader { promoted = ps }

  -- what the code leads to
  abbrev Comes : LoaderState → Store → ModuleParts → MemoryInstance → ℕ → List Instr → List ℕ → Type 0
  Comes loader us parts memory k code ps =
      (changed : ModuleParts) × Same L n x (with_promoted loader ps) us changed × Does merged 2 k code (changing parts memory) [] (changing changed memory) [] None

  module _ (loader : LoaderState) (us : Store) (parts : ModuleParts) (same : Same L n x loader us parts) (memory : MemoryInstance)
      (k : ℕ) (inside : k < length L.set.members) (later : is_among k L.set.startup ≡ false) where
    abbrev c : Changing
    c = changing parts memory

    abbrev ps : List ℕ
    ps = loader.promoted

    few_now : suc (length ps) < 2 ^ 32
    few_now = few_there L n x loader us parts same used number

    place_held : slice_get parts.globals (place_global x k) ≡ Some (Num (place_of ps k))
    place_held = place_there L n x loader us parts same used number k inside

    count_held : slice_get parts.globals x.promoted ≡ Some (Num (length ps))
    count_held = count_there L n x loader us parts same used number

    asks : (place : ℕ) (b : Bool) → place_of ps k ≡ place → place < 2 ^ 32 → nat_eq place 0 ≡ b
        → Does merged 2 2 (Index op.global_get (place_global x k) ∷ Plain op.i32_eqz ∷ []) c [] c (Num (one_if b) ∷ []) None
    asks place b e small q =
        let held : slice_get parts.globals (place_global x k) ≡ Some (Num place) = place_held ∙ ap (λ i. Some (Num i)) e in
        let tested : one_if (nat_eq (low W32 place) 0) ≡ one_if b = rw (low_small place small, q) refl in
        subst (λ i. Does merged 2 2 (Index op.global_get (place_global x k) ∷ Plain op.i32_eqz ∷ []) c [] c (Num i ∷ []) None) tested
        (does_then (does_global (place_global x k) (Num place) [] held) (does_eqz place []))

    -- it has a place
    passes : is_among k ps ≡ true → Does merged 2 10 (promote_one x k) c [] c [] None
    passes there =
        let place = place_some k ps there in
        let less = place.2 in
        let some : nat_eq (suc place.0) 0 ≡ false = grind (arith, nat_tests) in
        does_more {a = 4} (omega arith) (does_then (asks (suc place.0) false place.1 (omega (arith, less, few_now)) some) (does_skip (next_place x k) []))

    -- it has none
    module _ (new : is_among k ps ≡ false) where
      abbrev place : Value
      place = Num (suc (length ps))

      abbrev counted : Changing
      counted = with_global c x.promoted place

      adds : Does merged 2 1 (Plain op.i32_add ∷ []) c (Num 1 ∷ Num (length ps) ∷ []) c (place ∷ []) None
      adds = subst (λ i. Does merged 2 1 (Plain op.i32_add ∷ []) c (Num 1 ∷ Num (length ps) ∷ []) c (Num i ∷ []) None) (added (length ps) few_now) (does_add (length ps) 1 [])

      reads_count : slice_get counted.units.globals x.promoted ≡ Some place
      reads_count = get_same parts.globals x.promoted (Num (length ps)) place count_held

      held_place : slice_get counted.units.globals (place_global x k) ≡ Some (Num (place_of ps k))
      held_place = get_other parts.globals (place_global x k) x.promoted place (λ h. omega (arith, h)) ∙ place_held

      next : Does merged 2 6 (next_place x k) c [] (changing (promoted_parts L n x loader us parts same used number k inside later new) memory) [] None
      next =
          does_then (does_global x.promoted (Num (length ps)) [] count_held)
          (does_then (does_number 1 (Num (length ps) ∷ []) (omega arith))
          (does_then adds
          (does_then (does_set x.promoted place (Num (length ps)) [] count_held)
          (does_then (does_global x.promoted place [] reads_count)
          (does_set (place_global x k) place (Num (place_of ps k)) [] held_place)))))

      promotes : Does merged 2 10 (promote_one x k) c [] (changing (promoted_parts L n x loader us parts same used number k inside later new) memory) [] None
      promotes = does_then (asks 0 true (place_none k ps new) (omega arith) refl) (does_if [] next)

    one : Comes loader us parts memory 10 (promote_one x k) (with_number ps k)
    one = go (is_among k ps) refl
      where
        go : (b : Bool) → is_among k ps ≡ b → Comes loader us parts memory 10 (promote_one x k) (if b then ps else ps ++ k ∷ [])
        go true q = (parts, same, passes q)
        go false q = (_, promoted_same L n x loader us parts same used number k inside later q, promotes q)

  each : (us : Store) (memory : MemoryInstance) (ks : List ℕ) → AreLater L ks → (loader : LoaderState) (parts : ModuleParts) → Same L n x loader us parts
      → Comes loader us parts memory (10 * length ks) (promote_each x ks) (with_numbers loader.promoted ks)
  each us memory [] all loader parts same = (parts, same, does_nothing)
  each us memory (k ∷ ks) all loader parts same =
      let here = All-head (λ i. (i < length L.set.members) × (is_among i L.set.startup ≡ false)) k ks all in
      let first = one loader us parts same memory k here.0 here.1 in
      let rest = each us memory ks (All-tail (λ i. (i < length L.set.members) × (is_among i L.set.startup ≡ false)) k ks all)
      (with_promoted loader (with_number loader.promoted k)) first.0 first.1 in
      (rest.0, rest.1, does_more (omega arith) (does_then first.2 rest.2))

  -- the code that promotes the closure of a member
  pub promoting_law : (loader : LoaderState) (us : Store) (parts : ModuleParts) → Same L n x loader us parts → (memory : MemoryInstance)
      (m : ℕ) → AreLater L (later_members L.set m) → Comes loader us parts memory (10 * length (later_members L.set m)) (promote_code L x m) (promoted_with L.set m loader.promoted)
  promoting_law loader us parts same memory m all = each us memory (later_members L.set m) all loader parts same
