-- The merged module is well formed.
use Rattle.std.proofs.Common.{◌≡◌, ◌≤◌, ◌<◌, ◌^◌, ℕ, zero, suc, ◌+◌, true, false, List, [], ◌∷◌, ◌++◌, length, map, replicate, slice_get, refl, ap, subst, arith, length-append}
use Rattle.std.specs.Prelude.{unwrap_or, codes}
use Rattle.std.specs.List.{All, flat_map}
use Rattle.std.proofs.lemmas.List.{length-map}
use Rattle.std.proofs.lemmas.Option.{slice_get_within}
use Rattle.spec_loading.specs.spec_execution.Instances.{global_value, segment_items}
use Rattle.spec_loading.specs.spec_execution.Segments.{opened_items}
use Rattle.merge_module.proofs.Applied.{outside_number}
use Rattle.merge_match.proofs.Lists.{length-slice_set}
use Rattle.spec_reading.proofs.of_spec_binary.Lists.{holds_at}
use Rattle.std.proofs.lemmas.List.Elements.{All-nil, All-cons, All-head, All-tail, All-append}
use Rattle.spec_reading.specs.wasm_form.declared.types.FuncType.{FuncType}
use Rattle.spec_reading.specs.wasm_form.declared.module.Import.{Import}
use Rattle.spec_reading.specs.wasm_form.declared.module.ImportDesc.TheVariants as imported
use Rattle.spec_reading.specs.wasm_form.declared.module.GlobalDef.{GlobalDef}
use Rattle.spec_reading.specs.wasm_form.declared.module.Export.{Export}
use Rattle.spec_reading.specs.wasm_form.declared.module.ExportDesc.TheVariants as exported
use Rattle.spec_reading.specs.wasm_form.declared.module.ExportDesc.{ExportDesc}
use Rattle.spec_reading.specs.wasm_form.declared.module.Module.{Module}
use Rattle.spec_reading.specs.spec_binary.Indices.{nullary}
use Rattle.spec_reading.specs.spec_binary.IndexSpaces.{function_space}
use Rattle.spec_reading.specs.spec_binary.WellFormed.{IsFormedType, IsFormedTable, IsFormedImport, IsFormedGlobal, IsFormedExport, IsFormedElem, IsFormedCode, IsFormedData, IsWellFormed}
use Rattle.spec_reading.specs.spec_binary.WellFormed as formed
use Rattle.spec_loading.specs.spec_runtime.Names.{HostName}
use Rattle.spec_loading.specs.spec_linking.Sets.{Member}
use Rattle.spec_loading.specs.spec_linking.LinkedSets.{LinkedSet, hosts_of}
use Rattle.spec_loading.specs.spec_linking.Slots.{linked_plan, memory_base, table_base, cells_of, cell_value, fresh_functions, outside_slots, table_entries}
use Rattle.spec_loading.specs.Members.{from_members, opened_global}
use Rattle.spec_loading.specs.LoadedSet.{own_functions}
use Rattle.spec_loading.proofs.Rows.{texts_length}
use Rattle.spec_loading.specs.spec_execution.OneModule.{opened_parts}
use Rattle.merge_match.specs.Renumbering.{Numbers}
use Rattle.merge_match.specs.Joined.{renumbered_code}
use Rattle.merge_start.specs.Words.{Starts}
use Rattle.merge_dl.specs.Words.{handle_type, unary_type, binary_type, search_type}
use Rattle.merge_index.specs.Numbering.{stubs_of, numbers_of, starts_of}
use Rattle.merge_module.specs.MergedModule.{with_loader, members_types, generated_functions_types, added_types, host_type_number, host_imports, stub_types, generated_types, stub_codes, trap_code, shared_table_type, number_global, constant_instr, own_global, member_globals, guard_globals, merged_globals, passive_elem, slots_elem, outside_elem, named_functions, exported_functions, declared_elem, merged_elems, passive_data, texts_segment, merged_module, zero_globals, loader_globals}
use Rattle.merge_module.specs.Shape.{HasShape}
use Rattle.merge_module.proofs.Known.{IsKnown}
use Rattle.merge_module.proofs.WithLoader.{with_all}
use Rattle.merge_module.proofs.SetMembers.{member_formed}
use Rattle.spec_loading.specs.spec_linking.Gathering.{IsMember, IsSet}
use Rattle.merge_index.proofs.Counted.{few_bytes, few_of, few_hosts}
use Rattle.merge_module.proofs.StubLists.{lengths_same}
use Rattle.merge_module.proofs.MergedSpaces.{few_types, few_funcs, few_codes, own_funcs, own_codes, generated_codes, generated_codes_many}
use Rattle.merge_module.proofs.HostImports.{hosts_asked}
use Rattle.merge_module.proofs.HostTypes.{host_types}
use Rattle.merge_module.proofs.HostNames.{IsNamed, hosts_named}
use Rattle.merge_module.proofs.OpenedStore.{globals_many, elems_many}
use Rattle.merge_module.proofs.Generated.{entry_typed}
use Rattle.spec_loading.proofs.SlotWords.{table_within}
use Rattle.merge_module.proofs.Opens.{N, X, M}
use Rattle.merge_module.proofs.Faultless.{all_of}
use Rattle.merge_module.proofs.Pieces.{constant_step}
use Rattle.merge_module.proofs.GeneratedBodies.{stubs_all, generated_all}
use Rattle.merge_find.specs.Shape.{SearchIsSmall}
use Rattle.merge_module.proofs.FormedModule.{alone, code_formed, elem_formed, data_formed, number_formed, map_all, always}

named_one : (d : ExportDesc) → length (named_functions d) ≤ 1
named_one (exported.Func f) = omega arith
named_one (exported.Table t) = omega arith
named_one (exported.Space k) = omega arith
named_one (exported.Global g) = omega arith

pub named_few : (es : List Export) → length (flat_map (λ (e : Export). named_functions e.desc) es) ≤ length es
named_few [] = omega arith
named_few (e ∷ es) =
    let one = named_one e.desc in
    let later = named_few es in
    omega (arith, length-append (named_functions e.desc) (flat_map (λ (e : Export). named_functions e.desc) es))

repeated : {A : Type 0} (P : A → Type 0) (k : ℕ) (a : A) → P a → All P (replicate k a)
repeated P zero a p = All-nil P
repeated P (suc k) a p = All-cons P a (replicate k a) p (repeated P k a p)

hosts_long : (t : ℕ → FuncType → ℕ) (e : ℕ) (hs : List HostName) → length (host_imports t e hs) ≡ length hs
hosts_long t e [] = refl
hosts_long t e (h ∷ hs) = ap suc (hosts_long t (e + 1) hs)

hosts_formed : (t : ℕ → FuncType → ℕ) (e : ℕ) (hs : List HostName) → All IsNamed hs → All IsFormedImport (host_imports t e hs)
hosts_formed t e [] all = All-nil IsFormedImport
hosts_formed t e (h ∷ hs) all =
    let one = All-head IsNamed h hs all in
    let rest = hosts_formed t (e + 1) hs (All-tail IsNamed h hs all) in
    All-cons IsFormedImport (record { «module» = h.module_name; field = h.name; desc = imported.Func (t e h.ty) }) (host_imports t (e + 1) hs)
    (record { from = one.0; field = one.1; desc = tt }) rest

-- as long of each member, as long of all
same_lengths : {A B : Type 0} (of : ℕ → Module → List A) (like : ℕ → Module → List B) (P : Member → Type 0) → ((k : ℕ) (y : Member) → P y → length (of k y.wasm) ≡ length (like k y.wasm))
    → (k : ℕ) (xs : List Member) → All P xs → length (from_members of k xs) ≡ length (from_members like k xs)
same_lengths of like P each k [] all = refl
same_lengths of like P each k (x ∷ xs) all =
    let here = each k x (All-head P x xs all) in
    let later = same_lengths of like P each (k + 1) xs (All-tail P x xs all) in
    let one = length-append (of k x.wasm) (from_members of (k + 1) xs) in
    let two = length-append (like k x.wasm) (from_members like (k + 1) xs) in
    omega arith

module _ (L : LinkedSet) (K : IsKnown L) (few : (linked_plan L).pages_max ≤ 16384) where
  abbrev n : Numbers
  n = N L K few

  abbrev x : Starts
  x = X L K few

  abbrev merged : Module
  merged = M L K few

  abbrev members : List Member
  members = L.set.members

  -- ---- of each member

  each_formed : {A : Type 0} (P : A → Type 0) (of : ℕ → Module → List A) → ((m : ℕ) (member : Member) → m < length members → IsWellFormed member.wasm → All P (of m member.wasm)) → All P (from_members of 0 members)
  each_formed P of each =
      all_of P of 0 members (λ j y at.
      let place : j ≡ 0 + j = omega arith in
      let within = slice_get_within members j y at in
      subst (λ m. All P (of m y.wasm)) place (each j y within (member_formed y (holds_at IsMember members j y K.set.members at))))

  table_short : table_entries L < 2 ^ 32
  table_short = (let within = table_within L K.links in omega arith)

  own_formed : (m : ℕ) (g : GlobalDef) → IsFormedGlobal (own_global L n m g)
  own_formed m g = alone (constant_instr n g.ty.value (opened_global L m g)) (constant_step n g.ty.value (opened_global L m g))

  globals_formed : (m : ℕ) (wasm : Module) → All IsFormedGlobal (member_globals L n m wasm)
  globals_formed m wasm =
      let cells = map (λ c. number_global true (cell_value L m c)) (cells_of wasm) in
      let own = map (own_global L n m) wasm.globals in
      let memory = unwrap_or (memory_base L m) 0 in
      let table = unwrap_or (table_base L m) 0 in
      All-cons IsFormedGlobal (number_global false memory) (number_global false table ∷ (cells ++ own)) (number_formed memory)
      (All-cons IsFormedGlobal (number_global false table) (cells ++ own) (number_formed table)
      (All-append IsFormedGlobal cells own (always IsFormedGlobal (λ c. number_global true (cell_value L m c)) (λ c. number_formed (cell_value L m c)) (cells_of wasm))
      (always IsFormedGlobal (own_global L n m) (own_formed m) wasm.globals)))

  slots_formed : (m : ℕ) → m < length members → IsFormedElem (slots_elem L n m)
  slots_formed m lt =
      let fit = K.slots m lt in
      let entries = K.table in
      let short = table_short in
      record { mode = tt; items = omega (arith, length-map (own_functions L m) n.function) }

  -- ---- the parts

  codes_formed : SearchIsSmall → All IsFormedCode merged.codes
  codes_formed small =
      let own = from_members (λ m wasm. map (renumbered_code n m) wasm.codes) 0 members in
      let stubs = from_members (stub_codes L) 0 members in
      All-append IsFormedCode own (stubs ++ generated_codes L n x)
      (each_formed IsFormedCode (λ m wasm. map (renumbered_code n m) wasm.codes) (λ m y lt is. map_all IsFormedCode IsFormedCode (renumbered_code n m) (code_formed n m) y.wasm.codes is.codes.1))
      (All-append IsFormedCode stubs (generated_codes L n x) (each_formed IsFormedCode (stub_codes L) (λ m y lt is. stubs_all IsFormedCode (λ size c is. is.formed) L m y.wasm))
      (generated_all IsFormedCode (λ size c is. is.formed) small L K.set n x))

  globals_all : All IsFormedGlobal merged.globals
  globals_all =
      let zeros = always IsFormedGlobal (λ y. number_global true 0) (λ y. number_formed 0) members in
      All-cons IsFormedGlobal (number_global true (linked_plan L).stack_top) (from_members (member_globals L n) 0 members ++ guard_globals L) (number_formed (linked_plan L).stack_top)
      (All-append IsFormedGlobal (from_members (member_globals L n) 0 members) (guard_globals L) (each_formed IsFormedGlobal (member_globals L n) (λ m y lt is. globals_formed m y.wasm))
      (All-append IsFormedGlobal (zero_globals L) (with_loader L (loader_globals L)) zeros
      (with_all L IsFormedGlobal (loader_globals L) (λ used. All-cons IsFormedGlobal (number_global true 0) (number_global true 0 ∷ zero_globals L) (number_formed 0)
      (All-cons IsFormedGlobal (number_global true 0) (zero_globals L) (number_formed 0) zeros)))))

  outside_formed : IsFormedElem (outside_elem L n)
  outside_formed =
      let both = length-append (fresh_functions L) (outside_slots L) in
      let short = table_short in
      record { mode = number_formed ((linked_plan L).table_end + length (fresh_functions L)); items = omega (arith, length-map (outside_slots L) n.function) }

  declared_formed : IsFormedElem (declared_elem L n)
  declared_formed =
      let all = few_of L K.set (λ m wasm. map (n.named m) (exported_functions wasm)) (λ k y is. (let all = is.all in let names = named_few y.wasm.exports in omega (arith, length-map (exported_functions y.wasm) (n.named k)))) in
      let bytes = few_bytes L K.set in
      record { mode = tt; items = omega arith }

  elems_formed : All IsFormedElem merged.elems
  elems_formed =
      All-append IsFormedElem (from_members (λ m wasm. map (passive_elem n m) wasm.elems) 0 members) (from_members (λ m wasm. slots_elem L n m ∷ []) 0 members ++ outside_elem L n ∷ declared_elem L n ∷ [])
      (each_formed IsFormedElem (λ m wasm. map (passive_elem n m) wasm.elems) (λ m y lt is. map_all IsFormedElem IsFormedElem (passive_elem n m) (elem_formed n m) y.wasm.elems is.elems.1))
      (All-append IsFormedElem (from_members (λ m wasm. slots_elem L n m ∷ []) 0 members) (outside_elem L n ∷ declared_elem L n ∷ [])
      (each_formed IsFormedElem (λ m wasm. slots_elem L n m ∷ []) (λ m y lt is. All-cons IsFormedElem (slots_elem L n m) [] (slots_formed m lt) (All-nil IsFormedElem)))
      (All-cons IsFormedElem (outside_elem L n) (declared_elem L n ∷ []) outside_formed (All-cons IsFormedElem (declared_elem L n) [] declared_formed (All-nil IsFormedElem))))

  texts_formed : IsFormedData (texts_segment L)
  texts_formed = (let many = texts_length in record { mode = number_formed (linked_plan L).stack_top; bytes = omega arith })

  datas_formed : All IsFormedData merged.datas
  datas_formed =
      All-append IsFormedData (from_members (λ m wasm. map passive_data wasm.datas) 0 members) (texts_segment L ∷ [])
      (each_formed IsFormedData (λ m wasm. map passive_data wasm.datas) (λ m y lt is. map_all IsFormedData IsFormedData passive_data data_formed y.wasm.datas is.datas.1))
      (All-cons IsFormedData (texts_segment L) [] texts_formed (All-nil IsFormedData))

  generated_formed : All IsFormedType (generated_functions_types L)
  generated_formed =
      All-cons IsFormedType nullary (with_loader L (handle_type ∷ unary_type ∷ binary_type ∷ search_type ∷ [])) (omega arith, omega arith)
      (with_all L IsFormedType (handle_type ∷ unary_type ∷ binary_type ∷ search_type ∷ []) (λ used.
      All-cons IsFormedType handle_type (unary_type ∷ binary_type ∷ search_type ∷ []) (omega arith, omega arith)
      (All-cons IsFormedType unary_type (binary_type ∷ search_type ∷ []) (omega arith, omega arith)
      (All-cons IsFormedType binary_type (search_type ∷ []) (omega arith, omega arith)
      (All-cons IsFormedType search_type [] (omega arith, omega arith) (All-nil IsFormedType))))))

  types_formed : All IsFormedType (added_types L) → All IsFormedType merged.types
  types_formed added =
      All-append IsFormedType (members_types L) (generated_functions_types L ++ added_types L) (each_formed IsFormedType (λ m wasm. wasm.types) (λ m y lt is. is.types.1))
      (All-append IsFormedType (generated_functions_types L) (added_types L) generated_formed added)

  tables_formed : All IsFormedTable merged.tables
  tables_formed =
      All-cons IsFormedTable (shared_table_type L) (from_members (λ m (wasm : Module). wasm.tables) 0 members) refl
      (each_formed IsFormedTable (λ m wasm. wasm.tables) (λ m y lt is. is.tables.1))

  -- ---- lengths

  tables_few : length merged.tables < 2 ^ 32
  tables_few =
      let all = few_of L K.set (λ k w. w.tables) (λ k y is. (let all = is.all in omega arith)) in
      let bytes = few_bytes L K.set in
      omega arith

  datas_few : length merged.datas < 2 ^ 32
  datas_few =
      let all = few_of L K.set (λ k w. map passive_data w.datas) (λ k y is. (let all = is.all in omega (arith, length-map y.wasm.datas passive_data))) in
      let bytes = few_bytes L K.set in
      omega (arith, length-append (from_members (λ m wasm. map passive_data wasm.datas) 0 members) (texts_segment L ∷ []))

  elems_few : length merged.elems < 2 ^ 32
  elems_few =
      let many = elems_many L K few in
      let one = length-slice_set (opened_parts merged).elems (outside_number L n) [] in
      let all = length-map (merged_elems L n) (opened_items (segment_items merged)) in
      omega arith

  globals_few : length merged.globals < 2 ^ 32
  globals_few = (let many = globals_many L K few in let all = length-map (merged_globals L n) (global_value merged) in omega arith)

  imports_few : length merged.imports < 2 ^ 32
  imports_few =
      let hosts = few_hosts L K.set in
      let bytes = few_bytes L K.set in
      let same = hosts_long (host_type_number L) 0 (hosts_of L) in
      omega arith

  bodies_same : length merged.codes ≡ length merged.funcs
  bodies_same =
      let own = same_lengths (λ m wasm. map (renumbered_code n m) wasm.codes) (λ m wasm. map (n.ty m) wasm.funcs) IsMember
      (λ k y is. (let e = (member_formed y is).counts.bodies in omega (arith, length-map y.wasm.codes (renumbered_code n k), length-map y.wasm.funcs (n.ty k)))) 0 members K.set.members in
      let stubs = lengths_same (stub_codes L) (stub_types L n) (λ m wasm. omega (arith, length-map (stubs_of L m wasm) (λ f. trap_code), length-map (stubs_of L m wasm) (λ f. n.ty m (unwrap_or (slice_get (function_space wasm) f) 0)))) 0 members in
      let generated = generated_codes_many L n x in
      let one = length-append (own_codes L n x) (from_members (stub_codes L) 0 members ++ generated_codes L n x) in
      let two = length-append (from_members (stub_codes L) 0 members) (generated_codes L n x) in
      let four = length-append (own_funcs L n x) (from_members (stub_types L n) 0 members ++ generated_types L) in
      let five = length-append (from_members (stub_types L n) 0 members) (generated_types L) in
      omega arith

  pub merged_formed : SearchIsSmall → All IsFormedType (added_types L) → IsWellFormed merged
  merged_formed small added =
      let types = few_types L n x K.set in
      let funcs = few_funcs L n x K.set in
      let bodies = few_codes L n x K.set in
      record {
        types = (omega arith, types_formed added);
        imports = (imports_few, hosts_formed (host_type_number L) 0 (hosts_of L) (hosts_named L K.set));
        funcs = omega arith;
        tables = (tables_few, tables_formed);
        memories = omega arith;
        globals = (globals_few, globals_all);
        exports = (
          omega arith,
          All-cons IsFormedExport (record { name = codes "_start"; desc = exported.Func x.starting }) (record { name = codes "memory"; desc = exported.Space 0 } ∷ []) (omega arith)
              (All-cons IsFormedExport (record { name = codes "memory"; desc = exported.Space 0 }) [] (omega arith) (All-nil IsFormedExport)),
        );
        elems = (elems_few, elems_formed);
        codes = (omega arith, codes_formed small);
        datas = (datas_few, datas_formed);
        customs = formed.none;
        counts = record { bodies = bodies_same; datas = refl };
      }

pub merged_shaped : (L : LinkedSet) → IsKnown L → HasShape L (merged_module L)
merged_shaped L K = record {
  imports = hosts_asked (merged_module L) (host_type_number L) 0 (hosts_of L) (host_types L K (numbers_of L) (starts_of L));
  table = refl;
  memory = refl;
  entry = (starts_of L).starting;
  exports = refl;
  takes_nothing = entry_typed L K.set;
  start = refl;
  customs = refl;
}
