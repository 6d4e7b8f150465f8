-- Each call of a function of the loader is answered: by a number of 32 bits, by a trap, or by tasks of members of the set.
use Rattle.std.proofs.Common.{◌≡◌, ℕ, zero, suc, ◌<◌, ◌≤◌, ◌^◌, Bool, true, false, List, [], ◌∷◌, length, reverse, nat_eq, slice_get, Option, Some, None, refl, sym, ap₂, subst, arith, if◌then◌else◌}
use Rattle.std.specs.Prelude.{◌||◌, bytes_eq, bit_and, unwrap_or}
use Rattle.spec_linking.specs.wasm_form.declared.types.ValType.TheVariants.{I32}
use Rattle.spec_linking.specs.wasm_form.declared.runtime.LoaderCall.{LoaderCall}
use Rattle.spec_linking.specs.wasm_form.declared.runtime.LoaderCall.TheVariants.{Dlopen, Dlsym, Dlclose, Dlerror}
use Rattle.spec_linking.specs.wasm_form.declared.runtime.Value.{Value}
use Rattle.spec_linking.specs.wasm_form.declared.runtime.Value.TheVariants.{Num, Func}
use Rattle.spec_linking.specs.spec_runtime.Memories.{MemoryInstance}
use Rattle.spec_linking.specs.spec_execution.Values.{number_of}
use Rattle.spec_linking.specs.spec_execution.Views.{View, loader_type}
use Rattle.spec_linking.specs.spec_execution.Runs.{arguments}
use Rattle.spec_linking.specs.Gathering.{IsSet}
use Rattle.spec_linking.specs.Definitions.{searched}
use Rattle.spec_linking.specs.LinkedSets.{LinkedSet}
use Rattle.spec_linking.specs.Slots.{cell_number}
use Rattle.spec_linking.specs.Links.{Links}
use Rattle.spec_safety.specs.ValueTypes.{HasType, HaveTypes, AreArguments}
use Rattle.spec_loading.specs.declared.answers.Opening.TheVariants as opening
use Rattle.spec_loading.specs.declared.answers.Finding.TheVariants as finding
use Rattle.spec_loading.specs.Loading.{LoaderState, LoaderAnswer}
use Rattle.spec_loading.specs.Members.{Store, set_view}
use Rattle.spec_loading.specs.LoaderAnswers.{string_at, other_flags, global_flag, member_named, begin_or, open_named, open_answer, is_handle, handle_list, found_number, find_named, close_answer, bad_handle_error, bad_flags_error, error_offsets, error_answer, with_error, opened, found, closed, loader_answer, promoted_with, later_members}
use Rattle.spec_loading.specs.LoadedSet.{set_loading}
use Rattle.spec_loading.specs.SetNames.{set_names}
use Rattle.spec_loading.specs.SoundLoading.{IsSoundLoader, IsSoundAnswer}
use Rattle.spec_loading.specs.SoundSets.{IsSoundStore, HasFewPages}
use Rattle.spec_loading.proofs.SlotWords.{position_within}
use Rattle.spec_loading.proofs.PlannedWords.{texts_within}
use Rattle.spec_loading.proofs.FirstNumbers.{paged_small, number_small}
use Rattle.spec_loading.proofs.InsideSets.{opening_inside, promoted_inside, with_distinct}

-- ---- numbers among values

module _ {Units : Type 0} (V : View Units) where
  a_number : (v : Value) → HasType V I32 v → (n : ℕ) × (v ≡ Num n)
  a_number (Num n) h = (n, refl)
  a_number (Func r) h = absurd (let e = h.0 in cc)

  none : (vs : List Value) → HaveTypes V [] vs → vs ≡ []
  none [] h = refl
  none (v ∷ vs) h = absurd h

  one_number : (vs : List Value) → HaveTypes V (I32 ∷ []) vs → (n : ℕ) × (vs ≡ Num n ∷ [])
  one_number [] h = absurd h
  one_number (v ∷ vs) h = let n = a_number v h.0 in (n.0, ap₂ (λ x xs. x ∷ xs) n.1 (none vs h.1))

  two_numbers : (vs : List Value) → HaveTypes V (I32 ∷ I32 ∷ []) vs → (n : ℕ) × (k : ℕ) × (vs ≡ Num n ∷ Num k ∷ [])
  two_numbers [] h = absurd h
  two_numbers (v ∷ vs) h =
      let n = a_number v h.0 in
      let k = one_number vs h.1 in
      (n.0, k.0, ap₂ (λ x xs. x ∷ xs) n.1 k.1)

-- ---- of a linked set

module _ (L : LinkedSet) (set : IsSet L.set) (links : Links L) (few : HasFewPages L) where
  abbrev many : ℕ
  many = length L.set.members

  abbrev IsFine : LoaderAnswer → Type 0
  IsFine x = IsSoundAnswer (set_loading L) (set_names L) (IsSoundStore L) many x

  -- the members that are promoted by a member's closure
  pub promoting_sound : (m : ℕ) (loader : LoaderState) → m < many → IsSoundLoader many loader → IsSoundLoader many (record loader { promoted = promoted_with L.set m loader.promoted })
  promoting_sound m loader lt is = record {
    count = is.count;
    stages = is.stages;
    error = is.error;
    promoted = promoted_inside L.set set m loader.promoted lt is.promoted;
    apart = with_distinct (later_members L.set m) loader.promoted is.apart;
  }

  module _ (loader : LoaderState) (is : IsSoundLoader many loader) where
    with_error_sound : (e : ℕ) → e ≤ 5 → IsSoundLoader many (with_error loader e)
    with_error_sound e le = record { count = is.count; stages = is.stages; error = le; promoted = is.promoted; apart = is.apart }

    -- ---- dlopen

    begin_sound : (flags : ℕ) (o : Option ℕ) → ((m : ℕ) → o ≡ Some m → m < many) → IsFine (opened L loader (begin_or flags o))
    begin_sound flags None inside = (omega arith, with_error_sound 2 (omega arith))
    begin_sound flags (Some m) inside = go (nat_eq (bit_and flags global_flag) 0)
      where
        go : (b : Bool) → IsFine (opened L loader (if b then opening.Begin m else opening.BeginGlobal m))
        go true = (opening_inside L.set set m (inside m refl), inside m refl)
        go false = (opening_inside L.set set m (inside m refl), inside m refl)

    named_sound : (flags : ℕ) (name : Option (List ℕ)) → IsFine (opened L loader (open_named L flags name))
    named_sound flags None = tt
    named_sound flags (Some name) = go (nat_eq (bit_and flags other_flags) 0)
      where
        go : (b : Bool) → IsFine (opened L loader (if b then begin_or flags (member_named L.set name) else opening.Refused bad_flags_error))
        go true = begin_sound flags (member_named L.set name) (λ m e. let within = position_within (λ x. bytes_eq name x.name) 0 L.set.members m e in omega arith)
        go false = (omega arith, with_error_sound bad_flags_error (omega arith))

    open_sound : (memory : MemoryInstance) (name flags : ℕ) → IsFine (opened L loader (open_answer L memory name flags))
    open_sound memory zero flags = (omega arith, is)
    open_sound memory (suc n) flags = named_sound flags (string_at memory (suc n))

    -- ---- dlsym

    number_sound : (o : Option ℕ) → ((k : ℕ) → o ≡ Some k → k < 2 ^ 32) → IsFine (found loader (found_number o))
    number_sound None small = (omega arith, with_error_sound 4 (omega arith))
    number_sound (Some k) small = (small k refl, is)

    symbol_sound : (handle : ℕ) (name : Option (List ℕ)) → IsFine (found loader (find_named L loader.stages loader.promoted handle name))
    symbol_sound handle None = tt
    symbol_sound handle (Some name) = go (nat_eq handle 0 || is_handle loader.stages handle)
      where
        number : Option ℕ
        number = cell_number L name (searched L.set (handle_list L.set loader.promoted handle) name)

        go : (b : Bool) → IsFine (found loader (if b then found_number number else finding.Refused bad_handle_error))
        go true = number_sound number (λ k e. number_small L links few name (searched L.set (handle_list L.set loader.promoted handle) name) k e)
        go false = (omega arith, with_error_sound bad_handle_error (omega arith))

    -- ---- dlclose and dlerror

    close_sound : (b : Bool) → IsFine (closed loader b)
    close_sound true = (omega arith, is)
    close_sound false = (omega arith, with_error_sound 5 (omega arith))

    offset_few : (e : ℕ) → unwrap_or (slice_get error_offsets e) 0 ≤ 81
    offset_few zero = omega arith
    offset_few (suc zero) = omega arith
    offset_few (suc (suc zero)) = omega arith
    offset_few (suc (suc (suc zero))) = omega arith
    offset_few (suc (suc (suc (suc zero)))) = omega arith
    offset_few (suc (suc (suc (suc (suc e))))) = omega arith

    error_small : (e : ℕ) → error_answer L e < 2 ^ 32
    error_small zero = omega arith
    error_small (suc e) =
        let within = texts_within L in
        let offset = offset_few e in
        paged_small L links few (error_answer L (suc e)) (omega arith)

    -- ---- each call

    abbrev Answers : LoaderCall → List ℕ → MemoryInstance → Type 0
    Answers which args memory = (x : LoaderAnswer) × (loader_answer L which args memory loader ≡ Some x) × IsFine x

    abbrev V : View Store
    V = set_view L

    of_taken : (which : LoaderCall) (memory : MemoryInstance) (taken : List Value) → HaveTypes V (reverse (loader_type which).params) taken
        → Answers which (arguments (loader_type which) taken) memory
    of_taken Dlopen memory taken h =
        let n = two_numbers V taken h in
        subst (λ vs. Answers Dlopen (arguments (loader_type Dlopen) vs) memory) (sym n.2) (_, refl, open_sound memory (number_of I32 n.1) (number_of I32 n.0))
    of_taken Dlsym memory taken h =
        let n = two_numbers V taken h in
        subst (λ vs. Answers Dlsym (arguments (loader_type Dlsym) vs) memory) (sym n.2) (_, refl, symbol_sound (number_of I32 n.1) (string_at memory (number_of I32 n.0)))
    of_taken Dlclose memory taken h =
        let n = one_number V taken h in
        subst (λ vs. Answers Dlclose (arguments (loader_type Dlclose) vs) memory) (sym n.1) (_, refl, close_sound (close_answer loader.stages (number_of I32 n.0)))
    of_taken Dlerror memory taken h =
        subst (λ vs. Answers Dlerror (arguments (loader_type Dlerror) vs) memory) (sym (none V taken h)) (_, refl, (error_small loader.error, with_error_sound 0 (omega arith)))

    pub answers_sound : (which : LoaderCall) (args : List ℕ) (memory : MemoryInstance) → AreArguments V (loader_type which) args → Answers which args memory
    answers_sound which args memory given = subst (λ ns. Answers which ns memory) (sym given.2) (of_taken which memory given.0 given.1)
