-- No section of the module that holds a state is too long to be written.
use Rattle.std.proofs.Common.{◌≡◌, ℕ, suc, ◌+◌, ◌*◌, ◌^◌, ◌≤◌, ◌<◌, List, [], ◌∷◌, ◌++◌, length, map, Option, Some, None, refl, sym, ap, subst, ◌∙◌, arith}
use Rattle.std.specs.Prelude.{sum_by, unwrap_or}
use Rattle.std.proofs.lemmas.List.{length-map, append-nil}
use Rattle.std.proofs.lemmas.List.Recursion.{is_sum_by}
use Rattle.wasm_form.specs.declared.types.Limits.{Limits}
use Rattle.wasm_form.specs.declared.types.TableType.{TableType}
use Rattle.wasm_form.specs.declared.types.ValType.{ValType}
use Rattle.wasm_form.specs.declared.types.ValType.TheVariants.{I32, I64, F32, F64, FuncRef, ExternRef}
use Rattle.wasm_form.specs.declared.instr.Instr.{I64Const, RefNull}
use Rattle.wasm_form.specs.declared.instr.Instr.TheOpen as Open
use Rattle.wasm_form.specs.declared.instr.Instr.TheVariants.{rolls-I64Const, rolls-RefNull}
use Rattle.wasm_form.specs.declared.module.GlobalDef.{GlobalDef}
use Rattle.wasm_form.specs.declared.module.Module.{Module}
use Rattle.wasm_form.specs.declared.runtime.Ref.{Ref}
use Rattle.wasm_form.specs.declared.runtime.Value.{Value}
use Rattle.wasm_form.specs.declared.runtime.Value.TheVariants.{Num, Func}
use Rattle.spec_loading.specs.spec_linking.Gathering.{total_size}
use Rattle.spec_loading.specs.spec_linking.LinkedSets.{LinkedSet}
use Rattle.spec_loading.specs.spec_linking.Slots.{linked_plan}
use Rattle.spec_loading.specs.spec_validation.Faults.{most_pages}
use Rattle.spec_loading.specs.spec_runtime.Memories.{MemoryInstance}
use Rattle.spec_loading.specs.spec_runtime.Tables.{TableInstance}
use Rattle.spec_loading.specs.spec_execution.Instances.{ModuleParts}
use Rattle.wasm_encode.specs.SectionSizes.{types, imports, funcs, tables, memories, globals, exports, elems, codes, datas, IsContents}
use Rattle.wasm_encode.specs.Laws.{WeightIsLeast, SectionsAreBounded}
use Rattle.wasm_encode.specs.Weight.{sum_of, units, global_weight, export_weight}
use Rattle.wasm_encode.proofs.Units.{units_rolled, units-Index, units-I32Const}
use Rattle.merge_pieces.specs.Opcodes as op
use Rattle.merge_module.specs.MergedModule.{merged_module}
use Rattle.merge_index.proofs.Counted.{few_bytes}
use Rattle.merge_index.specs.Numbering.{numbers_of}
use Rattle.merge_match.specs.Renumbering as renumbering
use Rattle.merge_match.specs.Renumbering.{Numbers, table_instance}
use Rattle.merge_module.specs.Laws.{IsMergeable, IsBrief, AreShort, MergedIsShort}
use Rattle.spec_keeping.specs.Keeping.{SetRunKeeps}
use Rattle.spec_loading.specs.Members.{opening_store}
use Rattle.spec_loading.specs.LoadedSet.{SetState}
use Rattle.spec_loading.specs.SoundSets.{HoldBytes}
use Rattle.merge_module.proofs.Known.{IsKnown}
use Rattle.merge_module.proofs.Opens.{M}
use Rattle.merge_module.proofs.Weights.{sum_then}
use Rattle.merge_module.proofs.Bounds.{members_light}
use Rattle.merge_module.proofs.LightGlobals.{globals_light}
use Rattle.snap_module.specs.Held.{Stretch, Contents, function_number, reference_instr, constant_instr, held, held_globals, held_tables, held_memories, AreTables, CanBeHeld}
use Rattle.spec_snapshots.specs.Stretches.{IsWritten, memory_gap, tables_gap, entries}
use Rattle.spec_snapshots.specs.Causes.{state_after}
use Rattle.snap_set.specs.Parts.{snapshot_parts, start_number, snapshot_module}
use Rattle.snap_set.specs.Laws.{PartsCanBeHeld}
use Rattle.snap_sizes.specs.Laws.{IsLittle}
use Rattle.snap_sizes.proofs.Elems.{elems_most}
use Rattle.snap_sizes.proofs.Datas.{passive_cost, datas_most, left_cost, members_cost}
use Rattle.snap_sizes.proofs.Merged.{elems_by_bytes, few_functions, tables_by_bytes}

-- ---- globals

reference_one : (r : Option Ref) → units (reference_instr r) ≡ 1
reference_one None = units_rolled (Open.RefNull FuncRef) (RefNull FuncRef) (rolls-RefNull FuncRef)
reference_one (Some r) = units-Index op.ref_func (function_number r)

constant_one : (t : ValType) (v : Value) → units (constant_instr t v) ≡ 1
constant_one I64 (Num k) = units_rolled (Open.I64Const _) (I64Const _) (rolls-I64Const _)
constant_one I32 (Num k) = units-I32Const _
constant_one F32 (Num k) = units-I32Const _
constant_one F64 (Num k) = units-I32Const _
constant_one FuncRef (Num k) = units-I32Const _
constant_one ExternRef (Num k) = units-I32Const _
constant_one I64 (Func r) = reference_one r
constant_one I32 (Func r) = reference_one r
constant_one F32 (Func r) = reference_one r
constant_one F64 (Func r) = reference_one r
constant_one FuncRef (Func r) = reference_one r
constant_one ExternRef (Func r) = reference_one r

globals_weigh : (gs : List GlobalDef) (vs : List Value) → sum_of global_weight (held_globals gs vs) ≤ 4 * length gs
globals_weigh [] vs = omega arith
globals_weigh (g ∷ gs) [] = omega arith
globals_weigh (g ∷ gs) (v ∷ vs) = (let one = constant_one g.ty.value v in let later = globals_weigh gs vs in omega arith)

threes : (gs : List GlobalDef) → 3 * length gs ≤ sum_of global_weight gs
threes [] = omega arith
threes (g ∷ gs) = (let later = threes gs in omega arith)

-- ---- tables and the memory

tables_no_more : (ts : List TableType) (xs : List TableInstance) → length (held_tables ts xs) ≤ length ts
tables_no_more [] xs = omega arith
tables_no_more (t ∷ ts) [] = omega arith
tables_no_more (t ∷ ts) (x ∷ xs) = (let later = tables_no_more ts xs in omega arith)

memories_few : (ls : List Limits) (memory : MemoryInstance) → length (held_memories ls memory) ≤ 1
memories_few [] memory = omega arith
memories_few (l ∷ ls) memory = omega arith

abbrev most_of : List Limits → ℕ
most_of [] = 0
most_of (l ∷ ls) = unwrap_or l.max most_pages

tables_many : (m : Module) (ts : List TableType) (xs : List TableInstance) (sss : List (List (Stretch (Option Ref)))) → AreTables m ts xs sss
    → length xs ≡ length ts
tables_many m [] [] [] are = refl
tables_many m (t ∷ ts) (x ∷ xs) (ss ∷ sss) are = ap suc (tables_many m ts xs sss are.1)
tables_many m _ _ _ are = absurd are

-- ---- the module

-- how much a module is made of
record IsCheap (L : LinkedSet) (p : ModuleParts) (memory : MemoryInstance) (c : Contents) : Type 0 where
  can : CanBeHeld (merged_module L) p memory c
  written : IsWritten memory p.tables c
  datas : sum_of passive_cost p.datas ≤ 90000000
  little : 512 * total_size L.set.members + 8 * sum_of entries p.tables < 2 ^ 32

module _ (least : WeightIsLeast) (sections : SectionsAreBounded) (L : LinkedSet) (K : IsKnown L) (few : (linked_plan L).pages_max ≤ 16384)
    (short : AreShort (merged_module L)) (entry : ℕ) (p : ModuleParts) (memory : MemoryInstance) (c : Contents) (w : IsCheap L p memory c) where
  abbrev merged : Module
  merged = M L K few

  abbrev whole : Module
  whole = held merged entry p memory c

  memory_few : length memory.bytes ≤ 2 ^ 30
  memory_few =
      let is = w.can.memory_is in
      let top : (linked_plan L).pages_max ≡ memory.max = ap most_of is.only ∙ sym is.most in
      let whole_pages = is.is.whole in
      let within = is.is.few in
      omega arith

  contents_short : {id : ℕ} {v : List ℕ} → IsContents whole id v → length v < 2 ^ 32
  contents_short (types s) = short.contents (types s)
  contents_short (imports s) = short.contents (imports s)
  contents_short (funcs s) = short.contents (funcs s)
  contents_short {v} (tables s) =
      let most : length v ≤ 16 * length whole.tables + 16 = sections whole 4 v (tables s) in
      let same = tables_no_more merged.tables p.tables in
      let all = tables_by_bytes L K few in
      let little = w.little in
      omega arith
  contents_short {v} (memories s) =
      let most : length v ≤ 16 * length whole.memories + 16 = sections whole 5 v (memories s) in
      let one = memories_few merged.memories memory in
      omega arith
  contents_short {v} (globals s) =
      let most : length v ≤ 16 * sum_of global_weight whole.globals + 16 = sections whole 6 v (globals s) in
      let all = globals_light L K few in
      let three = threes merged.globals in
      let four = globals_weigh merged.globals p.globals in
      omega arith
  contents_short {v} (exports s) =
      let most : length v ≤ 16 * sum_of export_weight whole.exports + 16 = sections whole 7 v (exports s) in
      omega arith
  contents_short {v} (elems s) =
      let most = elems_most merged merged.elems p.elems (tables_gap p.tables) (omega arith) p.tables c.tables w.written.tables_are v s in
      let all = elems_by_bytes L K few (members_light least L.set.members K.set.members) in
      let many = few_functions L K few in
      let own = tables_by_bytes L K few in
      let same = tables_many merged merged.tables p.tables c.tables w.can.tables in
      let little = w.little in
      omega arith
  contents_short (codes s) = short.contents (codes s)
  contents_short {v} (datas s) =
      let most = datas_most (memory_gap memory) (omega arith) memory.bytes c.memory w.written.memory_is p.datas v s in
      let own = w.datas in
      let bytes = memory_few in
      omega arith

  held_short : AreShort whole
  held_short = record { contents = contents_short; bodies = short.bodies }

-- ---- a snapshot

sizes_same : (n : Numbers) (xs : List TableInstance) → sum_of entries (map (table_instance n) xs) ≡ sum_of entries xs
sizes_same n [] = refl
sizes_same n (x ∷ xs) = (let later = sizes_same n xs in let here = length-map x.entries (renumbering.entry n) in omega arith)

all_sizes : (n : Numbers) (xs : List TableInstance) → sum_of entries (map (table_instance n) xs ++ []) ≡ sum_by entries xs
all_sizes n xs =
    ap (sum_of entries) (append-nil (map (table_instance n) xs)) ∙ sizes_same n xs ∙ is_sum_by (sum_of entries) entries refl (λ x xs. refl) xs

pub snapshot_short : WeightIsLeast → SectionsAreBounded → MergedIsShort → PartsCanBeHeld → SetRunKeeps → (L : LinkedSet) → (is : IsMergeable L) → HoldBytes L
    → IsKnown L → (n : ℕ) (c : Contents) → IsLittle L (state_after L n) c → AreShort (snapshot_module L (state_after L n) c)
snapshot_short least sections law parts keeps L is bytes K n c little =
    let s : SetState = state_after L n in
    let p : ModuleParts = snapshot_parts L s in
    let ts : List TableInstance = map (table_instance (numbers_of L)) s.run.units.tables in
    let few = little.few in
    let brief : IsBrief L = record { types = little.types; names = omega arith } in
    let sizes = all_sizes (numbers_of L) s.run.units.tables in
    let left = left_cost (opening_store L).datas s.run.units.datas (keeps L [] n).store.datas in
    let opening = members_cost 0 L.set.members (members_light least L.set.members K.set.members) in
    let sum = sum_then passive_cost s.run.units.datas ([] ∷ []) in
    let most = few_bytes L K.set in
    held_short least sections L K is.pages (law L is brief) (start_number L) p s.run.memory c (record {
      can = (parts L is bytes n c little.make).can;
      written = subst (λ (l : List TableInstance). IsWritten s.run.memory l c) (sym (append-nil ts)) little.written;
      datas = omega arith;
      little = omega arith;
    })
