-- The addresses of globals are those of the set.
use Rattle.std.proofs.Common.{◌≡◌, ◌≤◌, ℕ, zero, suc, ◌+◌, ◌-◌, List, [], ◌∷◌, length, map, slice_get, Option, Some, None, option_map, refl, sym, ap, ◌∙◌, arith}
use Rattle.std.specs.List.{range_with_len}
use Rattle.std.proofs.lemmas.Option.{slice_get_within, slice_get-map}
use Rattle.wasm_form.specs.declared.module.Import.{Import}
use Rattle.wasm_form.specs.declared.module.Module.{Module}
use Rattle.spec_loading.specs.spec_binary.Options.{◌>>=◌}
use Rattle.spec_loading.specs.spec_binary.IndexSpaces.{imports_of, globals_in}
use Rattle.spec_loading.proofs.of_spec_binary.Lists.{slice_get-append-left, slice_get-append-right}
use Rattle.spec_loading.specs.spec_linking.Sets.{Member}
use Rattle.spec_loading.specs.spec_linking.Imports.{ImportUse, SharedMemory, SharedTable, StackPointer, MemoryBase, TableBase, DataCell, SlotCell, EnvFunction, ModuleFunction, OtherUse, use_of, importing}
use Rattle.spec_loading.specs.spec_linking.LinkedSets.{LinkedSet}
use Rattle.spec_loading.specs.spec_linking.Slots.{cells_of}
use Rattle.spec_loading.proofs.of_spec_linking.Importing.{importing_length}
use Rattle.spec_loading.specs.Addresses.{sum_before, globals_size, memory_base_address, import_address, address_with, global_address, item_address}
use Rattle.dyl_addresses.specs.Globals.{global_as, globals_from, cells_from, global_list, globals_end, global_lists, address_at, global_item}
use Rattle.dyl_addresses.specs.Sets.{wasms}
use Rattle.dyl_addresses.proofs.Items.{range_item, with_wasm}
use Rattle.dyl_addresses.proofs.Cells.{cells_are, globals_item, globals_length}

none_past : {X : Type 0} (xs : List X) (i : ℕ) → slice_get xs i ≡ None → length xs ≤ i
none_past [] i e = omega arith
none_past (x ∷ xs) zero e = absurd cc
none_past (x ∷ xs) (suc i) e = let later = none_past xs i e in omega arith

-- a global of a member whose globals begin at this base
module _ (L : LinkedSet) (m : ℕ) (wasm : Module) (base : ℕ) (here : memory_base_address L m ≡ base) where
  abbrev imports : List Import
  imports = wasm.imports

  imported_place : (i : Import) (u : ImportUse) → global_as base (cells_of wasm) i u ≡ import_address L m wasm i u
  imported_place i SharedMemory = refl
  imported_place i SharedTable = refl
  imported_place i StackPointer = refl
  imported_place i MemoryBase = ap Some (sym here)
  imported_place i TableBase = ap (λ b. Some (b + 1)) (sym here)
  imported_place i DataCell = rw here refl
  imported_place i SlotCell = rw here refl
  imported_place i (EnvFunction t) = refl
  imported_place i (ModuleFunction t) = refl
  imported_place i OtherUse = refl

  pub own_item : (g : ℕ) → address_at (global_list base wasm) g ≡ address_with L m wasm g (slice_get (importing globals_in imports) g)
  own_item g = go (slice_get (importing globals_in imports) g) refl
    where
      inner : (o : Option ℕ) → (option_map Some o >>= λ address. address) ≡ o
      inner None = refl
      inner (Some a) = refl

      go : (o : Option Import) → slice_get (importing globals_in wasm.imports) g ≡ o
          → (slice_get (global_list base wasm) g >>= λ address. address) ≡ address_with L m wasm g o
      go (Some i) e =
          let front = globals_from base [] wasm.imports in
          let back : List (Option ℕ) = map Some (range_with_len (base + 2 + length (cells_from [] wasm.imports)) (length wasm.globals)) in
          let found : slice_get front g ≡ Some (global_as base (cells_from [] wasm.imports) i (use_of i)) =
          globals_item base [] wasm.imports g ∙ ap (λ (o : Option Import). o >>= λ x. Some (global_as base (cells_from [] wasm.imports) x (use_of x))) e in
          let inside = slice_get_within front g _ found in
          ap (λ (o : Option (Option ℕ)). o >>= λ address. address) (slice_get-append-left front back g inside ∙ found)
          ∙ ap (λ k. global_as base k i (use_of i)) (cells_are [] wasm.imports)
          ∙ imported_place i (use_of i)
      go None e =
          let front = globals_from base [] wasm.imports in
          let cells = length (cells_from [] wasm.imports) in
          let range = range_with_len (base + 2 + cells) (length wasm.globals) in
          let back : List (Option ℕ) = map Some range in
          let past = none_past (importing globals_in wasm.imports) g e in
          let many = importing_length globals_in wasm.imports in
          let size = globals_length base [] wasm.imports in
          let k = g - length (imports_of globals_in wasm.imports) in
          let same : base + 2 + cells ≡ memory_base_address L m + 2 + length (cells_of wasm) =
          (let c = ap length (cells_are [] wasm.imports) in omega arith) in
          ap (λ (o : Option (Option ℕ)). o >>= λ address. address)
          (slice_get-append-right front back g (omega arith)
          ∙ ap (λ n. slice_get back (g - n)) size
          ∙ slice_get-map Some range k)
          ∙ inner (slice_get range k)
          ∙ range_item (base + 2 + cells) (length wasm.globals) k
          ∙ ap (λ n. item_address n (length wasm.globals) k) same

pub end_is : (base : ℕ) (wasm : Module) → globals_end base wasm ≡ base + globals_size wasm
end_is base wasm = (let c = ap length (cells_are [] wasm.imports) in omega arith)

module _ (L : LinkedSet) where
  -- the members from k on
  global_from : (base k : ℕ) (xs : List Member) → (m g : ℕ)
      → ((j : ℕ) → memory_base_address L (k + j) ≡ base + sum_before globals_size xs j)
      → global_item (global_lists base (wasms xs)) m g
      ≡ (slice_get xs m >>= λ x. address_with L (k + m) x.wasm g (slice_get (importing globals_in x.wasm.imports) g))
  global_from base k [] m g bases = refl
  global_from base k (x ∷ xs) zero g bases =
      let e : k + 0 ≡ k = omega arith in
      let first : memory_base_address L (k + 0) ≡ base = bases 0 ∙ omega arith in
      own_item L (k + 0) x.wasm base first g
  global_from base k (x ∷ xs) (suc m) g bases =
      let e : suc k + m ≡ k + suc m = omega arith in
      let later : (j : ℕ) → memory_base_address L (suc k + j) ≡ globals_end base x.wasm + sum_before globals_size xs j =
      λ j. ap (memory_base_address L) (omega arith) ∙ bases (suc j) ∙ (let n = end_is base x.wasm in omega arith) in
      global_from (globals_end base x.wasm) (suc k) xs m g later
      ∙ ap (λ n. slice_get xs m >>= λ y. address_with L n y.wasm g (slice_get (importing globals_in y.wasm.imports) g)) e

  pub global_is : (m g : ℕ) → global_item (global_lists 1 (wasms L.set.members)) m g ≡ global_address L m g
  global_is m g =
      global_from 1 0 L.set.members m g (λ j. ap (memory_base_address L) (omega arith))
      ∙ ap (λ n. slice_get L.set.members m >>= λ x. address_with L n x.wasm g (slice_get (importing globals_in x.wasm.imports) g)) (omega arith)
      ∙ sym (with_wasm (slice_get L.set.members m) (λ wasm. address_with L m wasm g (slice_get (importing globals_in wasm.imports) g)))
