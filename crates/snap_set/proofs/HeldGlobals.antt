-- The globals of the merged module are of the types of what the store of the set and its loader hold.
use Rattle.std.proofs.Common.{◌≡◌, ◌≤◌, ◌<◌, ◌^◌, ℕ, zero, suc, ◌+◌, Bool, true, false, List, [], ◌∷◌, ◌++◌, length, map, slice_get, nat_eq, Option, Some, None, if◌then◌else◌, refl, sym, ap, ◌∙◌, subst, arith}
use Rattle.std.specs.Prelude.{unwrap_or}
use Rattle.std.specs.List.{All, position_from}
use Rattle.std.proofs.lemmas.List.{length-map}
use Rattle.std.proofs.lemmas.List.Elements.{All-head, All-tail}
use Rattle.std.proofs.lemmas.Option.{slice_get_within}
use Rattle.spec_loading.specs.wasm_form.declared.types.ValType.{ValType}
use Rattle.spec_loading.specs.wasm_form.declared.types.ValType.TheVariants.{I32, I64, F32, F64, FuncRef, ExternRef}
use Rattle.spec_loading.specs.wasm_form.declared.module.GlobalDef.{GlobalDef}
use Rattle.spec_loading.specs.wasm_form.declared.module.Module.{Module}
use Rattle.spec_loading.specs.wasm_form.declared.runtime.Ref.{Ref}
use Rattle.spec_loading.specs.wasm_form.declared.runtime.Value.{Value}
use Rattle.spec_loading.specs.wasm_form.declared.runtime.Value.TheVariants.{Num, Func}
use Rattle.spec_loading.specs.spec_binary.Options.{◌>>=◌}
use Rattle.spec_loading.specs.spec_validation.Faults.{is_supported}
use Rattle.spec_loading.specs.spec_execution.Ranges.{Exists}
use Rattle.spec_loading.specs.spec_safety.ValueTypes.{HasType}
use Rattle.spec_loading.proofs.of_spec_safety.Lookups.{got, holds_at, mapped_at}
use Rattle.spec_loading.proofs.of_spec_safety.KnownStacks.{some_same}
use Rattle.spec_loading.specs.spec_linking.Sets.{Member}
use Rattle.spec_loading.specs.spec_linking.LinkedSets.{LinkedSet}
use Rattle.spec_loading.specs.spec_linking.Slots.{linked_plan, memory_base, table_base, CellName, same_cell, cells_of, cell_value}
use Rattle.spec_loading.specs.Addresses.{sum_before, globals_size, memory_base_address}
use Rattle.spec_loading.specs.RunItems.{RunGlobal, SharedStackPointer, MemberMemoryBase, MemberTableBase, MemberCell, MemberGlobal, address_of_global, run_global_type}
use Rattle.spec_loading.specs.Loading.{LoaderState}
use Rattle.spec_loading.specs.Members.{Store, set_view, from_members, opened_globals, opening_store, uses_loader}
use Rattle.spec_loading.specs.SoundSets.{IsSoundStore}
use Rattle.spec_loading.specs.Laws.{GlobalsAreAll}
use Rattle.spec_loading.proofs.MemberItems.{item_at}
use Rattle.spec_loading.proofs.DistinctAddresses.{item_is, FoundAt, found_at, of_member}
use Rattle.spec_loading.proofs.SlotWords.{position_within}
use Rattle.merge_match.specs.Renumbering.{Numbers, reference, value}
use Rattle.merge_start.specs.Started.{place_of}
use Rattle.merge_index.proofs.Counted.{joined_length}
use Rattle.merge_module.specs.MergedModule.{number_global, own_global, member_globals, zero_globals, loader_globals, guard_globals, merged_globals, with_loader}
use Rattle.merge_module.proofs.MergedSpaces.{past_front, in_front}
use Rattle.merge_module.proofs.OpenedStore.{globals_fit, member_globals_fit}
use Rattle.snap_module.specs.Held.{IsReference, IsOfType, AreGlobals}
use Rattle.snap_set.specs.Parts.{loader_values}

-- ---- lists

-- where an element of a mapped list comes from
pub from_map : {A B : Type 0} (f : A → B) (xs : List A) (i : ℕ) (y : B) → slice_get (map f xs) i ≡ Some y → (x : A) × (slice_get xs i ≡ Some x) × (f x ≡ y)
from_map f [] i y e = absurd cc
from_map f (x ∷ xs) zero y e = (x, refl, some_same e)
from_map f (x ∷ xs) (suc i) y e = from_map f xs i y e

module _ (m : Module) where
  append_globals : (gs hs : List GlobalDef) (vs ws : List Value) → AreGlobals m gs vs → AreGlobals m hs ws → AreGlobals m (gs ++ hs) (vs ++ ws)
  append_globals [] hs [] ws one two = two
  append_globals [] hs (v ∷ vs) ws one two = absurd one
  append_globals (g ∷ gs) hs [] ws one two = absurd one
  append_globals (g ∷ gs) hs (v ∷ vs) ws one two = (one.0, append_globals gs hs vs ws one.1 two)

  each_global : (gs : List GlobalDef) (vs : List Value) → length gs ≡ length vs
      → ((i : ℕ) (g : GlobalDef) (v : Value) → slice_get gs i ≡ Some g → slice_get vs i ≡ Some v → IsOfType m g.ty.value v) → AreGlobals m gs vs
  each_global [] [] many each = tt
  each_global [] (v ∷ vs) many each = absurd (omega arith)
  each_global (g ∷ gs) [] many each = absurd (omega arith)
  each_global (g ∷ gs) (v ∷ vs) many each = (each 0 g v refl refl, each_global gs vs (omega arith) (λ i h w a b. each (suc i) h w a b))

  -- ---- what the loader keeps

  stages_fit : (xs : List Member) (stages : List ℕ) → length stages ≡ length xs → All (λ k. k ≤ 4) stages
      → AreGlobals m (map (λ (y : Member). number_global true 0) xs) (map Num stages)
  stages_fit [] [] many low = tt
  stages_fit [] (k ∷ ks) many low = absurd (omega arith)
  stages_fit (x ∷ xs) [] many low = absurd (omega arith)
  stages_fit (x ∷ xs) (k ∷ ks) many low =
      let here = All-head (λ k. k ≤ 4) k ks low in
      (omega arith, stages_fit xs ks (omega arith) (All-tail (λ k. k ≤ 4) k ks low))

  place_small : (promoted : List ℕ) (j : ℕ) → length promoted ≤ 256 → place_of promoted j < 2 ^ 32
  place_small promoted j few = go (position_from (λ k. nat_eq k j) 1 promoted) refl
    where
      go : (o : Option ℕ) → position_from (λ k. nat_eq k j) 1 promoted ≡ o → unwrap_or o 0 < 2 ^ 32
      go None e = omega arith
      go (Some a) e = (let lt = position_within (λ k. nat_eq k j) 1 promoted a e in omega arith)

  places_fit : (promoted : List ℕ) → length promoted ≤ 256 → (k : ℕ) (xs : List Member)
      → AreGlobals m (map (λ (y : Member). number_global true 0) xs) (from_members (λ j wasm. Num (place_of promoted j) ∷ []) k xs)
  places_fit promoted few k [] = tt
  places_fit promoted few k (x ∷ xs) = (place_small promoted k few, places_fit promoted few (k + 1) xs)

  loader_fits : (L : LinkedSet) (loader : LoaderState) → loader.error ≤ 5 → length loader.promoted ≤ 256
      → AreGlobals m (with_loader L (loader_globals L)) (with_loader L (loader_values L loader))
  loader_fits L loader error few = go (uses_loader L)
    where
      go : (b : Bool) → AreGlobals m (if b then loader_globals L else []) (if b then loader_values L loader else [])
      go true = (omega arith, (omega arith, places_fit loader.promoted few 0 L.set.members))
      go false = tt

-- ---- what the store holds

module _ (L : LinkedSet) (n : Numbers) where
  -- those of the store, in front of the guards
  abbrev firsts : List GlobalDef
  firsts = number_global true (linked_plan L).stack_top ∷ from_members (member_globals L n) 0 L.set.members

  -- a global at an address, of a type
  abbrev IsTyped : ℕ → ValType → Type 0
  IsTyped a t = (g : GlobalDef) × (slice_get firsts a ≡ Some g) × (g.ty.value ≡ t)

  member_typed : (m a place : ℕ) (x : Member) (g : GlobalDef) (t : ValType) → slice_get L.set.members m ≡ Some x → place < globals_size x.wasm
      → a ≡ memory_base_address L m + place → slice_get (member_globals L n m x.wasm) place ≡ Some g → g.ty.value ≡ t → IsTyped a t
  member_typed m a place x g t found within is at ty =
      let next : a ≡ suc (sum_before globals_size L.set.members m + place) = omega arith in (
        g,
        ap (slice_get firsts) next ∙ item_at (member_globals L n) globals_size (member_globals_fit L n) L.set.members m place x found within ∙ at,
        ty,
      )

  cell_typed : (m a : ℕ) (c : CellName) (x : Member) → slice_get L.set.members m ≡ Some x
      → FoundAt (same_cell c) (cells_of x.wasm) (memory_base_address L m + 2) a → IsTyped a I32
  cell_typed m a c x found at =
      let lt = slice_get_within (cells_of x.wasm) at.place at.item at.at in
      let address = at.is in
      let cell : CellName → GlobalDef = λ (d : CellName). number_global true (cell_value L m d) in
      member_typed m a (suc (suc at.place)) x (cell at.item) I32 found (omega arith) (omega arith)
      (in_front (map cell (cells_of x.wasm)) (map (own_global L n m) x.wasm.globals) at.place (cell at.item) (mapped_at cell (cells_of x.wasm) at.place at.item at.at)) refl

  own_typed : (m a k : ℕ) (x : Member) → slice_get L.set.members m ≡ Some x
      → (k < length x.wasm.globals) × (a ≡ memory_base_address L m + 2 + length (cells_of x.wasm) + k) → IsTyped a (run_global_type L (MemberGlobal m k))
  own_typed m a k x found at =
      let lt = at.0 in
      let address = at.1 in
      let cell : CellName → GlobalDef = λ (d : CellName). number_global true (cell_value L m d) in
      let cells = map cell (cells_of x.wasm) in
      let own = map (own_global L n m) x.wasm.globals in
      let many = length-map (cells_of x.wasm) cell in
      let g = got x.wasm.globals k lt in
      let place : length (cells_of x.wasm) + k ≡ length cells + k = omega arith in
      let ty : run_global_type L (MemberGlobal m k) ≡ g.0.ty.value =
      ap (λ (o : Option Member). unwrap_or ((o >>= λ y. Some y.wasm) >>= λ wasm. slice_get wasm.globals k >>= λ h. Some h.ty.value) I32) found
      ∙ ap (λ (o : Option GlobalDef). unwrap_or (o >>= λ h. Some h.ty.value) I32) g.1 in
      member_typed m a (suc (suc (length (cells_of x.wasm) + k))) x (own_global L n m g.0) (run_global_type L (MemberGlobal m k)) found (omega arith) (omega arith)
      (ap (slice_get (cells ++ own)) place ∙ past_front cells own k ∙ mapped_at (own_global L n m) x.wasm.globals k g.0 g.1) (sym ty)

  -- each global of the run has its type there
  typed : (x : RunGlobal) (a : ℕ) → address_of_global L x ≡ Some a → IsTyped a (run_global_type L x)
  typed SharedStackPointer a at =
      let first : 0 ≡ a = cc in
      (number_global true (linked_plan L).stack_top, ap (slice_get firsts) (sym first), refl)
  typed (MemberMemoryBase m) a at = of_member L m a (IsTyped a I32) _ at (λ x found h.
      let same : memory_base_address L m ≡ a = cc in
      member_typed m a 0 x (number_global false (unwrap_or (memory_base L m) 0)) I32 found (omega arith) (omega arith) refl refl)
  typed (MemberTableBase m) a at = of_member L m a (IsTyped a I32) _ at (λ x found h.
      let same : memory_base_address L m + 1 ≡ a = cc in
      member_typed m a 1 x (number_global false (unwrap_or (table_base L m) 0)) I32 found (omega arith) (omega arith) refl refl)
  typed (MemberCell m c) a at = of_member L m a (IsTyped a I32) _ at (λ x found h.
      cell_typed m a c x found (found_at (same_cell c) (memory_base_address L m + 2) (cells_of x.wasm) a h))
  typed (MemberGlobal m k) a at = of_member L m a (IsTyped a (run_global_type L (MemberGlobal m k))) _ at (λ x found h.
      own_typed m a k x found (item_is (memory_base_address L m + 2 + length (cells_of x.wasm)) (length x.wasm.globals) k a h))

  firsts_many : length firsts ≡ length (opening_store L).globals
  firsts_many =
      let one = joined_length (member_globals L n) globals_size (member_globals_fit L n) 0 L.set.members in
      let two = joined_length (opened_globals L) globals_size (globals_fit L) 0 L.set.members in
      omega arith

  module _ (merged : Module) (kept : (r : Ref) → Exists (set_view L) r → IsReference merged (Some (reference n r))) where
    of_type : (t : ValType) (v : Value) → is_supported t ≡ true → HasType (set_view L) t v → IsOfType merged t (value n v)
    of_type I32 (Num k) fits is = is.1
    of_type I64 (Num k) fits is = is.1
    of_type FuncRef (Func None) fits is = tt
    of_type FuncRef (Func (Some r)) fits is = kept r is.1
    of_type I32 (Func r) fits is = absurd (let no : true ≡ false = is.0 in cc)
    of_type I64 (Func r) fits is = absurd (let no : true ≡ false = is.0 in cc)
    of_type FuncRef (Num k) fits is = absurd (let no : false ≡ true = is.0 in cc)
    of_type F32 v fits is = absurd cc
    of_type F64 v fits is = absurd cc
    of_type ExternRef v fits is = absurd cc

    module _ (all : GlobalsAreAll) (us : Store) (sound : IsSoundStore L us) (many : length us.globals ≡ length (opening_store L).globals)
        (supported : All (λ (g : GlobalDef). is_supported g.ty.value ≡ true) (merged_globals L n)) where
      each_first : (i : ℕ) (g : GlobalDef) (v : Value) → slice_get firsts i ≡ Some g → slice_get (map (value n) us.globals) i ≡ Some v
          → IsOfType merged g.ty.value v
      each_first i g v at held =
          let w = from_map (value n) us.globals i v held in
          let lt = slice_get_within us.globals i w.0 w.1 in
          let x = all L i (omega arith) in
          let there = sound.globals x.0 i x.1 in
          let same : there.0 ≡ w.0 = some_same (sym there.1 ∙ w.1) in
          let is = typed x.0 i x.1 in
          let one : is.0 ≡ g = some_same (sym is.1 ∙ at) in
          let ty : run_global_type L x.0 ≡ g.ty.value = sym is.2 ∙ ap (λ (h : GlobalDef). h.ty.value) one in
          let fits = holds_at (λ (h : GlobalDef). is_supported h.ty.value ≡ true) (merged_globals L n) i g supported (in_front firsts (guard_globals L) i g at) in
          let has : HasType (set_view L) g.ty.value w.0 =
          subst (λ t. HasType (set_view L) t w.0) ty (subst (λ u. HasType (set_view L) (run_global_type L x.0) u) same there.2) in
          subst (IsOfType merged g.ty.value) w.2 (of_type g.ty.value w.0 fits has)

      pub globals_can : (loader : LoaderState) → length loader.stages ≡ length L.set.members → All (λ k. k ≤ 4) loader.stages → loader.error ≤ 5
          → length loader.promoted ≤ 256
          → AreGlobals merged (merged_globals L n) (map (value n) us.globals ++ (map Num loader.stages ++ with_loader L (loader_values L loader)))
      globals_can loader stages low error few =
          let front = length-map us.globals (value n) in
          let count = firsts_many in
          append_globals merged firsts (guard_globals L) (map (value n) us.globals) (map Num loader.stages ++ with_loader L (loader_values L loader))
          (each_global merged firsts (map (value n) us.globals) (omega arith) each_first)
          (append_globals merged (zero_globals L) (with_loader L (loader_globals L)) (map Num loader.stages) (with_loader L (loader_values L loader))
          (stages_fit merged L.set.members loader.stages stages low) (loader_fits merged L loader error few))
