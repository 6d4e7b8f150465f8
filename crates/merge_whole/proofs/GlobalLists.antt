-- The globals that are made are those of the merged module of a linked set.
use Rattle.std.proofs.Common.{◌≡◌, ◌<◌, ℕ, suc, ◌+◌, Bool, true, false, not, cond, List, [], ◌∷◌, ◌++◌, length, map, drop, get_or, slice_get, Option, Some, None, refl, sym, ap, ap₂, ◌∙◌, arith, append_assoc, length-append}
use Rattle.std.proofs.Math.Path.{fun_ext}
use Rattle.std.specs.Prelude.{unwrap_or}
use Rattle.std.specs.List.{flat_map, list_any}
use Rattle.std.proofs.lemmas.List.{length-map, map-append, at_drop_more}
use Rattle.std.proofs.lemmas.Option.{slice_get_within}
use Rattle.wasm_form.specs.declared.module.ImportDesc.{ImportDesc}
use Rattle.wasm_form.specs.declared.module.ImportDesc.TheVariants as imported
use Rattle.wasm_form.specs.declared.module.Import.{Import}
use Rattle.wasm_form.specs.declared.module.GlobalDef.{GlobalDef}
use Rattle.wasm_form.specs.declared.module.Module.{Module}
use Rattle.wasm_form.specs.declared.runtime.Value.{Value}
use Rattle.spec_reading.specs.spec_binary.Options.{◌>>=◌}
use Rattle.spec_reading.specs.spec_binary.IndexSpaces.{globals_in}
use Rattle.spec_reading.proofs.of_spec_binary.Lists.{got}
use Rattle.spec_loading.specs.spec_runtime.Constants.{constant_of}
use Rattle.spec_loading.specs.spec_execution.Values.{zero_of}
use Rattle.spec_loading.specs.spec_linking.declared.fault.Kind.TheVariants as kind
use Rattle.spec_loading.specs.spec_linking.declared.fault.LinkFault.TheVariants.{IllTyped}
use Rattle.spec_loading.specs.spec_linking.Sets.{Member}
use Rattle.spec_loading.specs.spec_linking.Imports.{ImportUse, SharedMemory, SharedTable, StackPointer, MemoryBase, TableBase, DataCell, SlotCell, EnvFunction, ModuleFunction, OtherUse, use_of, importing, is_i32_global}
use Rattle.spec_loading.specs.spec_linking.LinkedSets.{LinkedSet, wasm_of, function_ref, definition}
use Rattle.spec_loading.specs.spec_linking.Links.{Links, unless, data_cell_fault, slot_cell_fault, fault_as}
use Rattle.spec_loading.specs.spec_linking.Slots.{CellName, same_cell, cell_as, cell_of_import, first_cells, cells_of, cell_value, initial_as, initial_number, imported_number, linked_plan, memory_base, table_base}
use Rattle.spec_loading.proofs.of_spec_linking.LinkedFacts.{holds_so, or_none, linked_member}
use Rattle.spec_loading.specs.Addresses.{globals_size}
use Rattle.spec_loading.specs.Members.{from_members, opened_global}
use Rattle.merge_match.specs.Renumbering.{Numbers}
use Rattle.dyl_addresses.specs.Bases.{AreBases, bases_from}
use Rattle.dyl_link.proofs.Indices.{bases_long, table_bases_long}
use Rattle.dyl_link.specs.dyl_search.declared.set.Member as kept
use Rattle.dyl_link.specs.dyl_search.Gathers.{member_of}
use Rattle.dyl_addresses.proofs.Offsets.{are_bases}
use Rattle.dyl_addresses.specs.Globals.{CellKey, cell_of_key, cells_in, with_cells}
use Rattle.merge_index.specs.Numbering.{sum_of}
use Rattle.dyl_addresses.proofs.Cells.{first_append}
use Rattle.dyl_addresses.proofs.Keys.{key_eq, key_is, any_same}
use Rattle.merge_module.specs.MergedModule.{with_loader, number_global, constant_instr, own_global, member_globals, merged_globals, zero_globals, loader_globals}
use Rattle.merge_index.proofs.Counted.{joined_length}
use Rattle.merge_module.proofs.MergedSpaces.{past_front}
use Rattle.merge_whole.proofs.ElementLists.{from_same}
use Rattle.merge_whole.specs.GlobalDefs.{bases_by, value_by, own_by, cells_by, globals_by, all_globals, zeros_for}

is_given : (d : ImportDesc) (may : Bool) (i : Import) (rest : List Import) → is_i32_global may d ≡ true → slice_get (map (λ x. i) (globals_in d) ++ rest) 0 ≡ Some i
is_given (imported.Func t) may i rest e = absurd cc
is_given (imported.Table ty) may i rest e = absurd cc
is_given (imported.Space limits) may i rest e = absurd cc
is_given (imported.Global ty) may i rest e = refl

-- a cell is new where no key of it is known
pub new_first : (ks : List CellKey) (key : CellKey) (b : Bool) → b ≡ not (list_any (key_eq key) ks)
    → first_cells (cells_in ks) (cell_of_key key ∷ []) ≡ cond b (cell_of_key key ∷ []) []
new_first ks key b e = go (list_any (same_cell (cell_of_key key)) (cells_in ks)) b (e ∙ ap not (any_same key_eq key_is key ks))
  where
    go : (a b : Bool) → b ≡ not a → cond a [] (cell_of_key key ∷ []) ≡ cond b (cell_of_key key ∷ []) []
    go true true e = absurd cc
    go true false e = refl
    go false true e = refl
    go false false e = absurd cc

-- what is put for an import comes before the cells of those behind it
pub cells_next : (L : LinkedSet) (m : ℕ) (is : List Import) (j : ℕ) (i : Import) → j < length is → i ≡ get_or is j i
    → (known now : List CellName) (g end value : ℕ) (to more all : List GlobalDef)
    → now ≡ with_cells known (cell_of_import i) → end ≡ g + length (globals_in i.desc) → value ≡ unwrap_or (imported_number L m g) 0
    → more ≡ to ++ map (λ c. number_global true value) (first_cells known (cell_of_import i))
    → to ++ cells_by L m known g (drop j is) ≡ all → more ++ cells_by L m now end (drop (j + 1) is) ≡ all
cells_next L m is j i lt item known now g end value to more all cells step number put before =
    let rest = drop (j + 1) is in
    let new = first_cells known (cell_of_import i) in
    let one = map (λ c. number_global true (unwrap_or (imported_number L m g) 0)) new in
    let later = cells_by L m (with_cells known (cell_of_import i)) (g + length (globals_in i.desc)) rest in
    let from : List Import → List GlobalDef = λ l. to ++ cells_by L m known g l in
    ap₂ (λ (a b : List GlobalDef). a ++ b) (put ∙ ap (λ v. to ++ map (λ c. number_global true v) new) number)
    (ap₂ (λ (cs : List CellName) (n : ℕ). cells_by L m cs n rest) cells step)
    ∙ append_assoc to one later
    ∙ ap (λ (x : Import). from (x ∷ rest)) item
    ∙ sym (at_drop_more from is j i lt)
    ∙ before

-- the bases of a member, its cells and its own globals are put one after the other
pub member_put : (L : LinkedSet) (n : Numbers) (m : ℕ) (wasm : Module) (memory table : ℕ)
    → memory_base L m ≡ Some memory → table_base L m ≡ Some table
    → (bases : List (Option ℕ)) → bases ≡ bases_from memory table wasm.imports
    → (imports : List Import) → imports ≡ wasm.imports → (owns : List GlobalDef) → owns ≡ wasm.globals
    → (to : List GlobalDef) (a b : GlobalDef) (one two cells all : List GlobalDef)
    → a ≡ number_global false memory → b ≡ number_global false table → one ≡ to ++ a ∷ [] → two ≡ one ++ b ∷ []
    → cells ≡ two ++ cells_by L m [] 0 imports → all ≡ cells ++ map (own_by L n bases m) owns
    → all ≡ to ++ globals_by L n m wasm
member_put L n m wasm memory table memory_at table_at bases are imports same owns same_owns to a b one two cells all is_a is_b put_a put_b put_cells put_owns =
    let is_memory : memory ≡ unwrap_or (memory_base L m) 0 = sym (ap (λ (o : Option ℕ). unwrap_or o 0) memory_at) in
    let is_table : table ≡ unwrap_or (table_base L m) 0 = sym (ap (λ (o : Option ℕ). unwrap_or o 0) table_at) in
    let x = number_global false (unwrap_or (memory_base L m) 0) in
    let y = number_global false (unwrap_or (table_base L m) 0) in
    let these = cells_by L m [] 0 wasm.imports in
    let bs = bases_from (unwrap_or (memory_base L m) 0) (unwrap_or (table_base L m) 0) wasm.imports in
    let those = map (own_by L n bs m) wasm.globals in
    let first : one ≡ to ++ x ∷ [] = put_a ∙ ap (λ (g : GlobalDef). to ++ g ∷ []) (is_a ∙ ap (number_global false) is_memory) in
    let both : two ≡ (to ++ x ∷ []) ++ y ∷ [] =
    put_b ∙ ap₂ (λ (l : List GlobalDef) (g : GlobalDef). l ++ g ∷ []) first (is_b ∙ ap (number_global false) is_table) in
    let bases_are : bases ≡ bs = are ∙ ap₂ (λ (u v : ℕ). bases_from u v wasm.imports) is_memory is_table in
    put_owns
    ∙ ap₂ (λ (u v : List GlobalDef). u ++ v)
    (put_cells ∙ ap₂ (λ (l : List GlobalDef) (is : List Import). l ++ cells_by L m [] 0 is) both same)
    (ap₂ (λ (u : List (Option ℕ)) (gs : List GlobalDef). map (own_by L n u m) gs) bases_are same_owns)
    ∙ append_assoc ((to ++ x ∷ []) ++ y ∷ []) these those
    ∙ append_assoc (to ++ x ∷ []) (y ∷ []) (these ++ those)
    ∙ append_assoc to (x ∷ []) (y ∷ (these ++ those))

module _ (L : LinkedSet) (m : ℕ) (member : Member) (at : slice_get L.set.members m ≡ Some member) where
  abbrev wasm : Module
  wasm = member.wasm

  here : wasm_of L m ≡ Some wasm
  here = ap (λ (o : Option Member). o >>= λ y. Some y.wasm) at

  -- ---- cells

  abbrev cell_global : CellName → GlobalDef
  cell_global c = number_global true (cell_value L m c)

  one_cell : (v : ℕ) (c : CellName) (known : List CellName) → v ≡ cell_value L m c
      → map (λ x. number_global true v) (first_cells known (c ∷ [])) ≡ map cell_global (first_cells known (c ∷ []))
  one_cell v c known e = go (list_any (same_cell c) known)
    where
      go : (b : Bool) → map (λ x. number_global true v) (cond b [] (c ∷ [])) ≡ map cell_global (cond b [] (c ∷ []))
      go true = refl
      go false = ap (λ x. number_global true x ∷ []) e

  initial : (g : ℕ) (i : Import) → slice_get (importing globals_in wasm.imports) g ≡ Some i → unwrap_or (imported_number L m g) 0 ≡ unwrap_or (initial_number L m i) 0
  initial g i e =
      ap (λ (o : Option ℕ). unwrap_or o 0)
      (ap (λ (o : Option Module). o >>= λ w. slice_get (importing globals_in w.imports) g >>= initial_number L m) here
      ∙ ap (λ (o : Option Import). o >>= initial_number L m) e)

  import_cells : (known : List CellName) (g : ℕ) (i : Import) → ((may : Bool) → is_i32_global may i.desc ≡ true → slice_get (importing globals_in wasm.imports) g ≡ Some i)
      → (u : ImportUse) → use_of i ≡ u → fault_as L m wasm i u ≡ None
      → map (λ c. number_global true (unwrap_or (imported_number L m g) 0)) (first_cells known (cell_as i u)) ≡ map cell_global (first_cells known (cell_as i u))
  import_cells known g i given DataCell q none =
      let form = (or_none (unless (is_i32_global true i.desc) (IllTyped m kind.Mem i.field)) (data_cell_fault m i.field (definition L m kind.Mem i.field)) none).0 in
      let so = holds_so (is_i32_global true i.desc) (IllTyped m kind.Mem i.field) form in
      let value : unwrap_or (initial_number L m i) 0 ≡ cell_value L m (kind.Mem, i.field) = ap (λ (u : ImportUse). unwrap_or (initial_as L m i u) 0) q in
      one_cell (unwrap_or (imported_number L m g) 0) (kind.Mem, i.field) known (initial g i (given true so) ∙ value)
  import_cells known g i given SlotCell q none =
      let form = (or_none (unless (is_i32_global true i.desc) (IllTyped m kind.Func i.field)) (slot_cell_fault m i.field (definition L m kind.Func i.field)) none).0 in
      let so = holds_so (is_i32_global true i.desc) (IllTyped m kind.Func i.field) form in
      let value : unwrap_or (initial_number L m i) 0 ≡ cell_value L m (kind.Func, i.field) = ap (λ (u : ImportUse). unwrap_or (initial_as L m i u) 0) q in
      one_cell (unwrap_or (imported_number L m g) 0) (kind.Func, i.field) known (initial g i (given true so) ∙ value)
  import_cells known g i given SharedMemory q none = refl
  import_cells known g i given SharedTable q none = refl
  import_cells known g i given StackPointer q none = refl
  import_cells known g i given MemoryBase q none = refl
  import_cells known g i given TableBase q none = refl
  import_cells known g i given (EnvFunction t) q none = refl
  import_cells known g i given (ModuleFunction t) q none = refl
  import_cells known g i given OtherUse q none = refl

  cells_from_is : (known : List CellName) (g : ℕ) (is : List Import)
      → ((j : ℕ) → slice_get (importing globals_in wasm.imports) (g + j) ≡ slice_get (importing globals_in is) j)
      → ((j : ℕ) (i : Import) → slice_get is j ≡ Some i → fault_as L m wasm i (use_of i) ≡ None)
      → cells_by L m known g is ≡ map cell_global (first_cells known (flat_map cell_of_import is))
  cells_from_is known g [] numbered free = refl
  cells_from_is known g (i ∷ is) numbered free =
      let cs = cell_of_import i in
      let ds = flat_map cell_of_import is in
      let count = length-map (globals_in i.desc) (λ x. i) in
      let one = import_cells known g i
      (λ may e. (let now : g ≡ g + 0 = omega arith in ap (slice_get (importing globals_in wasm.imports)) now ∙ numbered 0 ∙ is_given i.desc may i (importing globals_in is) e))
      (use_of i) refl (free 0 i refl) in
      let later = cells_from_is (with_cells known cs) (g + length (globals_in i.desc)) is
      (λ j. ap (slice_get (importing globals_in wasm.imports)) (omega arith)
      ∙ numbered (length (map (λ x. i) (globals_in i.desc)) + j)
      ∙ past_front (map (λ x. i) (globals_in i.desc)) (importing globals_in is) j)
      (λ j x e. free (suc j) x e) in
      ap₂ (λ a b. a ++ b) one later
      ∙ sym (map-append cell_global (first_cells known cs) (first_cells (with_cells known cs) ds))
      ∙ ap (map cell_global) (sym (first_append known cs ds))

  cells_are : Links L → cells_by L m [] 0 wasm.imports ≡ map cell_global (cells_of wasm)
  cells_are links = cells_from_is [] 0 wasm.imports (λ j. ap (slice_get (importing globals_in wasm.imports)) (omega arith)) (λ j i e. (linked_member L m member links at).imports j i e)

  -- ---- own globals

  pub value_is : (bases : List (Option ℕ)) → AreBases L m bases → (g : GlobalDef) → value_by L bases m g ≡ opened_global L m g
  value_is bases are g =
      ap (λ (globals : ℕ → Option Value). unwrap_or (constant_of (function_ref L m) globals g.init) (zero_of g.ty.value)) (fun_ext are)

  own_is : (n : Numbers) (bases : List (Option ℕ)) → AreBases L m bases → (g : GlobalDef) → own_by L n bases m g ≡ own_global L n m g
  own_is n bases are g =
      ap (λ (v : Value). record g { init = record { list = constant_instr n g.ty.value v ∷ [] } }) (value_is bases are g)

  owns_are : (n : Numbers) (bases : List (Option ℕ)) → AreBases L m bases → (gs : List GlobalDef) → map (own_by L n bases m) gs ≡ map (own_global L n m) gs
  owns_are n bases are [] = refl
  owns_are n bases are (g ∷ gs) = ap₂ (λ x l. x ∷ l) (own_is n bases are g) (owns_are n bases are gs)

  -- ---- the globals of a member

  some_is : (xs : List ℕ) → m < length xs → slice_get xs m ≡ Some (unwrap_or (slice_get xs m) 0)
  some_is xs lt = (let x = got xs m lt in x.1 ∙ ap Some (sym (ap (λ (o : Option ℕ). unwrap_or o 0) x.1)))

  inside : m < length L.set.members
  inside = slice_get_within L.set.members m member at

  pub bases_are : AreBases L m (bases_by L m wasm)
  bases_are =
      let within = inside in
      let memory : memory_base L m ≡ Some (unwrap_or (memory_base L m) 0) = some_is (linked_plan L).bases (let long = bases_long L in omega arith) in
      let table : table_base L m ≡ Some (unwrap_or (table_base L m) 0) = some_is (linked_plan L).table_bases (let long = table_bases_long L in omega arith) in
      are_bases L m (unwrap_or (memory_base L m) 0) (unwrap_or (table_base L m) 0) memory table wasm here

  member_is : Links L → (n : Numbers) → globals_by L n m wasm ≡ member_globals L n m wasm
  member_is links n =
      ap₂ (λ (cs gs : List GlobalDef).
      number_global false (unwrap_or (memory_base L m) 0) ∷ number_global false (unwrap_or (table_base L m) 0) ∷ (cs ++ gs))
      (cells_are links) (owns_are n (bases_by L m wasm) bases_are wasm.globals)

-- ---- all globals

member_many : (L : LinkedSet) (n : Numbers) (m : ℕ) (wasm : Module) → length (member_globals L n m wasm) ≡ globals_size wasm
member_many L n m wasm =
    let cells = length-map (cells_of wasm) (λ c. number_global true (cell_value L m c)) in
    let owns = length-map wasm.globals (own_global L n m) in
    let both = length-append (map (λ c. number_global true (cell_value L m c)) (cells_of wasm)) (map (own_global L n m) wasm.globals) in
    omega arith

module _ (L : LinkedSet) (links : Links L) (n : Numbers) where
  all_are : all_globals L n ≡ number_global true (linked_plan L).stack_top ∷ from_members (member_globals L n) 0 L.set.members
  all_are =
      ap (λ gs. number_global true (linked_plan L).stack_top ∷ gs)
      (from_same (globals_by L n) (member_globals L n) 0 L.set.members
      (λ j y at. member_is L (0 + j) y (ap (slice_get L.set.members) (omega arith) ∙ at) links n))

  pub many_are : length (all_globals L n) ≡ 1 + sum_of globals_size L
  many_are = ap length all_are ∙ (let many = joined_length (member_globals L n) globals_size (member_many L n) 0 L.set.members in omega arith)

  -- the guards come behind them, and then what the functions of the loader keep
  pub globals_are : (guarded all : List GlobalDef) (ms : List kept.Member) → map member_of ms ≡ L.set.members → guarded ≡ all_globals L n ++ zeros_for ms
      → all ≡ guarded ++ with_loader L (loader_globals L) → all ≡ merged_globals L n
  globals_are guarded all ms same guards last =
      let own = number_global true (linked_plan L).stack_top ∷ from_members (member_globals L n) 0 L.set.members in
      let zeros : zeros_for ms ≡ zero_globals L = ap (λ (xs : List Member). map (λ x. number_global true 0) xs) same in
      last
      ∙ ap (λ (a : List GlobalDef). a ++ with_loader L (loader_globals L)) (guards ∙ ap₂ (λ (a b : List GlobalDef). a ++ b) all_are zeros)
      ∙ append_assoc own (zero_globals L) (with_loader L (loader_globals L))
