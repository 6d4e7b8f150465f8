-- The module that holds what a run has can be written, where the module of its code can.
use Rattle.std.proofs.Common.{◌≡◌, ℕ, zero, suc, ◌+◌, ◌<◌, ◌≤◌, ◌^◌, List, [], ◌∷◌, ◌++◌, length, map, Option, Some, None, refl, sym, ap, subst, arith, length-append}
use Rattle.std.specs.Prelude.{codes}
use Rattle.std.specs.List.{All}
use Rattle.std.proofs.lemmas.List.{length-map}
use Rattle.std.proofs.lemmas.List.Elements.{All-nil, All-cons, All-head, All-tail, All-append}
use Rattle.spec_loading.specs.wasm_form.declared.types.ValType.{ValType}
use Rattle.spec_loading.specs.wasm_form.declared.types.ValType.TheVariants.{I32, I64, F32, F64, FuncRef, ExternRef}
use Rattle.spec_loading.specs.wasm_form.declared.types.TableType.{TableType}
use Rattle.spec_loading.specs.wasm_form.declared.types.Limits.{Limits}
use Rattle.spec_loading.specs.wasm_form.declared.module.GlobalDef.{GlobalDef}
use Rattle.spec_loading.specs.wasm_form.declared.module.Elem.{Elem}
use Rattle.spec_loading.specs.wasm_form.declared.module.Module.{Module}
use Rattle.spec_loading.specs.wasm_form.declared.module.ExportDesc.TheVariants as exported
use Rattle.spec_loading.specs.wasm_form.declared.runtime.Ref.{Ref}
use Rattle.spec_loading.specs.wasm_form.declared.runtime.Value.{Value}
use Rattle.spec_loading.specs.wasm_form.declared.runtime.Value.TheVariants.{Num, Func}
use Rattle.spec_reading.specs.spec_binary.IndexSpaces.{function_space}
use Rattle.spec_reading.specs.spec_binary.WellFormed.{IsShort, IsFormedTable, IsFormedConstant, IsFormedGlobal, IsFormedExport, IsFormedElem, IsFormedData, IsWellFormed}
use Rattle.spec_reading.specs.spec_binary.WellFormed as formed
use Rattle.spec_loading.specs.spec_runtime.Memories.{MemoryInstance}
use Rattle.spec_loading.specs.spec_runtime.Tables.{TableInstance}
use Rattle.spec_loading.specs.spec_execution.Instances.{ModuleParts}
use Rattle.merge_pieces.specs.Code.{number}
use Rattle.merge_match.specs.Renumbering.{Numbers}
use Rattle.merge_module.proofs.Pieces.{number_step, wide_step, constant_step}
use Rattle.merge_module.proofs.FormedModule.{alone}
use Rattle.merge_match.specs.Parts.{AreFew}
use Rattle.snap_module.specs.Held.{Stretch, Contents, function_number, reference_instr, constant_instr, expr_of, offset_expr, held_globals, held_table, held_tables, held_memories, held_elem, held_elems, passive_data, entry_expr, table_elem, table_elems, below, declared_elem, memory_data, held, held_parts}

-- ---- constants

-- a function has this number
abbrev numbered : ℕ → Numbers
numbered k = record { function = λ r. k; named = λ m f. k; ty = λ m t. k; global = λ m g. k; table = λ m t. k; elem = λ m e. k; segment = λ m d. k }

reference_formed : (r : Option Ref) → IsFormedConstant (expr_of (reference_instr r))
reference_formed None = alone (reference_instr None) (constant_step (numbered 0) FuncRef (Func None))
reference_formed (Some r) = alone (reference_instr (Some r)) (constant_step (numbered (function_number r)) FuncRef (Func (Some r)))

offset_formed : (k : ℕ) → IsFormedConstant (offset_expr k)
offset_formed k = alone (number k) (number_step k)

constant_formed : (t : ValType) (v : Value) → IsFormedConstant (expr_of (constant_instr t v))
constant_formed I32 (Num k) = offset_formed k
constant_formed I64 (Num k) = alone (constant_instr I64 (Num k)) (wide_step k)
constant_formed F32 (Num k) = offset_formed k
constant_formed F64 (Num k) = offset_formed k
constant_formed FuncRef (Num k) = offset_formed k
constant_formed ExternRef (Num k) = offset_formed k
constant_formed I32 (Func r) = reference_formed r
constant_formed I64 (Func r) = reference_formed r
constant_formed F32 (Func r) = reference_formed r
constant_formed F64 (Func r) = reference_formed r
constant_formed FuncRef (Func r) = reference_formed r
constant_formed ExternRef (Func r) = reference_formed r

-- ---- globals, tables and the memory

globals_formed : (gs : List GlobalDef) (vs : List Value) → All IsFormedGlobal (held_globals gs vs)
globals_formed [] vs = All-nil IsFormedGlobal
globals_formed (g ∷ gs) [] = All-nil IsFormedGlobal
globals_formed (g ∷ gs) (v ∷ vs) = All-cons IsFormedGlobal _ (held_globals gs vs) (constant_formed g.ty.value v) (globals_formed gs vs)

globals_few : (gs : List GlobalDef) (vs : List Value) → length (held_globals gs vs) ≤ length gs
globals_few [] vs = omega arith
globals_few (g ∷ gs) [] = omega arith
globals_few (g ∷ gs) (v ∷ vs) = (let later = globals_few gs vs in omega arith)

tables_formed : (ts : List TableType) (xs : List TableInstance) → All IsFormedTable ts → All IsFormedTable (held_tables ts xs)
tables_formed [] xs all = All-nil IsFormedTable
tables_formed (t ∷ ts) [] all = All-nil IsFormedTable
tables_formed (t ∷ ts) (x ∷ xs) all =
    All-cons IsFormedTable (held_table t x) (held_tables ts xs) (All-head IsFormedTable t ts all) (tables_formed ts xs (All-tail IsFormedTable t ts all))

tables_few : (ts : List TableType) (xs : List TableInstance) → length (held_tables ts xs) ≤ length ts
tables_few [] xs = omega arith
tables_few (t ∷ ts) [] = omega arith
tables_few (t ∷ ts) (x ∷ xs) = (let later = tables_few ts xs in omega arith)

memories_few : (ls : List Limits) (memory : MemoryInstance) → length (held_memories ls memory) ≤ 1
memories_few [] memory = omega arith
memories_few (l ∷ ls) memory = omega arith

-- ---- segments

elem_formed : (e : Elem) (x : List (Option Ref)) → IsFormedElem e → IsFormedElem (held_elem e x)
elem_formed e [] is = record { mode = tt; items = omega arith }
elem_formed e (r ∷ rs) is = record { mode = tt; items = is.items }

elems_formed : (es : List Elem) (xs : List (List (Option Ref))) → All IsFormedElem es → All IsFormedElem (held_elems es xs)
elems_formed [] xs all = All-nil IsFormedElem
elems_formed (e ∷ es) [] all = All-nil IsFormedElem
elems_formed (e ∷ es) (x ∷ xs) all =
    All-cons IsFormedElem (held_elem e x) (held_elems es xs) (elem_formed e x (All-head IsFormedElem e es all)) (elems_formed es xs (All-tail IsFormedElem e es all))

elems_few : (es : List Elem) (xs : List (List (Option Ref))) → length (held_elems es xs) ≤ length xs
elems_few [] xs = omega arith
elems_few (e ∷ es) [] = omega arith
elems_few (e ∷ es) (x ∷ xs) = (let later = elems_few es xs in omega arith)

entries_formed : (rs : List (Option Ref)) → All IsFormedConstant (map entry_expr rs)
entries_formed [] = All-nil IsFormedConstant
entries_formed (r ∷ rs) = All-cons IsFormedConstant (entry_expr r) (map entry_expr rs) (reference_formed r) (entries_formed rs)

-- stretches that are short
abbrev pub AreBrief : {A : Type 0} → List (Stretch A) → Type 0
AreBrief ss = All (λ s. IsShort s.items) ss

stretches_formed : (t : ℕ) (ss : List (Stretch (Option Ref))) → AreBrief ss → All IsFormedElem (map (table_elem t) ss)
stretches_formed t [] all = All-nil IsFormedElem
stretches_formed t (s ∷ ss) all =
    let short = All-head (λ (x : Stretch (Option Ref)). IsShort x.items) s ss all in
    let many = length-map s.items entry_expr in
    All-cons IsFormedElem (table_elem t s) (map (table_elem t) ss)
    (record { mode = offset_formed s.at; items = (refl, (omega arith, entries_formed s.items)) })
    (stretches_formed t ss (All-tail (λ (x : Stretch (Option Ref)). IsShort x.items) s ss all))

abbrev pub AreAllBrief : List (List (Stretch (Option Ref))) → Type 0
AreAllBrief [] = Unit {0}
AreAllBrief (ss ∷ more) = AreBrief ss × AreAllBrief more

table_elems_formed : (t : ℕ) (more : List (List (Stretch (Option Ref)))) → AreAllBrief more → All IsFormedElem (table_elems t more)
table_elems_formed t [] all = All-nil IsFormedElem
table_elems_formed t (ss ∷ more) all =
    All-append IsFormedElem (map (table_elem t) ss) (table_elems (t + 1) more) (stretches_formed t ss all.0) (table_elems_formed (t + 1) more all.1)

below_long : (n : ℕ) → length (below n) ≡ n
below_long zero = refl
below_long (suc n) = ap suc (below_long n)

declared_formed : (m : Module) → length (function_space m) < 2 ^ 32 → IsFormedElem (declared_elem m)
declared_formed m few = (let many = below_long (length (function_space m)) in record { mode = tt; items = omega arith })

passive_formed : (ds : List (List ℕ)) → All IsShort ds → All IsFormedData (map passive_data ds)
passive_formed [] all = All-nil IsFormedData
passive_formed (d ∷ ds) all =
    All-cons IsFormedData (passive_data d) (map passive_data ds) (record { mode = tt; bytes = All-head IsShort d ds all }) (passive_formed ds (All-tail IsShort d ds all))

memory_formed : (ss : List (Stretch ℕ)) → AreBrief ss → All IsFormedData (map memory_data ss)
memory_formed [] all = All-nil IsFormedData
memory_formed (s ∷ ss) all =
    All-cons IsFormedData (memory_data s) (map memory_data ss)
    (record { mode = offset_formed s.at; bytes = All-head (λ (x : Stretch ℕ). IsShort x.items) s ss all })
    (memory_formed ss (All-tail (λ (x : Stretch ℕ). IsShort x.items) s ss all))

-- ---- the whole

-- what is written is short
pub record IsBrief (p : ModuleParts) (c : Contents) : Type 0 where
  pub datas : All IsShort p.datas
  pub memory : AreBrief c.memory
  pub tables : AreAllBrief c.tables

module _ (m : Module) (entry : ℕ) (p : ModuleParts) (memory : MemoryInstance) (c : Contents) (is : IsWellFormed m) (none : m.customs ≡ [])
    (functions : length (function_space m) < 2 ^ 32) (few : AreFew (held_parts p c)) (brief : IsBrief p c) where
  abbrev N : Module
  N = held m entry p memory c

  elems_many : length N.elems < 2 ^ 32
  elems_many =
      let kept = elems_few m.elems p.elems in
      let one = length-append (held_elems m.elems p.elems) (table_elems 0 c.tables ++ declared_elem m ∷ []) in
      let two = length-append (table_elems 0 c.tables) (declared_elem m ∷ []) in
      let three = length-append p.elems (map (λ (e : Elem). let none : List (Option Ref) = [] in none) (table_elems 0 c.tables) ++ [] ∷ []) in
      let four = length-append (map (λ (e : Elem). let none : List (Option Ref) = [] in none) (table_elems 0 c.tables)) ([] ∷ []) in
      let five = length-map (table_elems 0 c.tables) (λ (e : Elem). let none : List (Option Ref) = [] in none) in
      let most = few.elems in
      omega arith

  datas_many : length N.datas < 2 ^ 32
  datas_many =
      let one = length-append (map passive_data p.datas) (map memory_data c.memory) in
      let two = length-map p.datas passive_data in
      let three = length-map c.memory memory_data in
      let four = length-append p.datas (map (λ (s : Stretch ℕ). let none : List ℕ = [] in none) c.memory) in
      let five = length-map c.memory (λ (s : Stretch ℕ). let none : List ℕ = [] in none) in
      let most = few.datas in
      omega arith

  elems_all : All IsFormedElem N.elems
  elems_all =
      All-append IsFormedElem (held_elems m.elems p.elems) (table_elems 0 c.tables ++ declared_elem m ∷ []) (elems_formed m.elems p.elems is.elems.1)
      (All-append IsFormedElem (table_elems 0 c.tables) (declared_elem m ∷ []) (table_elems_formed 0 c.tables brief.tables)
      (All-cons IsFormedElem (declared_elem m) [] (declared_formed m functions) (All-nil IsFormedElem)))

  pub held_formed : IsWellFormed N
  held_formed = record {
    types = is.types;
    imports = is.imports;
    funcs = is.funcs;
    tables = (let many = tables_few m.tables p.tables in let most = is.tables.0 in omega arith, tables_formed m.tables p.tables is.tables.1);
    memories = (let many = memories_few m.memories memory in omega arith);
    globals = (let many = globals_few m.globals p.globals in let most = is.globals.0 in omega arith, globals_formed m.globals p.globals);
    exports = (
      omega arith,
      All-cons IsFormedExport (record { name = codes "_start"; desc = exported.Func entry }) (record { name = codes "memory"; desc = exported.Space 0 } ∷ []) (omega arith)
          (All-cons IsFormedExport (record { name = codes "memory"; desc = exported.Space 0 }) [] (omega arith) (All-nil IsFormedExport)),
    );
    elems = (elems_many, elems_all);
    codes = is.codes;
    datas = (datas_many, All-append IsFormedData (map passive_data p.datas) (map memory_data c.memory) (passive_formed p.datas brief.datas) (memory_formed c.memory brief.memory));
    customs = subst (formed.ArePlaced N 0) (sym none) formed.none;
    counts = record { bodies = is.counts.bodies; datas = refl };
  }
