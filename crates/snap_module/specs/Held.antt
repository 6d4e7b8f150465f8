-- The module that begins where a run of a module stands: its globals, tables and memory begin with what they hold there, its segments are those
-- that are left, and it begins with a function of its own.
-- This profile: docs/FORMATS.md, "The snapshot".
use Rattle.std.specs.Prelude.{◌≡◌, ◌≤◌, ◌<◌, ◌⊎◌, ◌^◌, ℕ, zero, suc, ◌+◌, List, [], ◌∷◌, ◌++◌, length, map, min, Option, Some, None, unwrap_or}
use Rattle.std.specs.Int.{cast_signed, w64}
use Rattle.std.specs.List.{All}
use Rattle.spec_loading.specs.wasm_form.declared.types.ValType.{ValType}
use Rattle.spec_loading.specs.wasm_form.declared.types.ValType.TheVariants.{I32, I64, F32, F64, FuncRef, ExternRef}
use Rattle.spec_loading.specs.wasm_form.declared.types.Limits.{Limits}
use Rattle.spec_loading.specs.wasm_form.declared.types.TableType.{TableType}
use Rattle.spec_loading.specs.wasm_form.declared.instr.Instr.{Instr, Index, I64Const, RefNull}
use Rattle.spec_loading.specs.wasm_form.declared.instr.Expr.{Expr}
use Rattle.spec_loading.specs.wasm_form.declared.module.GlobalDef.{GlobalDef}
use Rattle.spec_loading.specs.wasm_form.declared.module.ElemMode.TheVariants as elem_mode
use Rattle.spec_loading.specs.wasm_form.declared.module.ElemItems.TheVariants as elem_items
use Rattle.spec_loading.specs.wasm_form.declared.module.Elem.{Elem}
use Rattle.spec_loading.specs.wasm_form.declared.module.DataMode.TheVariants as data_mode
use Rattle.spec_loading.specs.wasm_form.declared.module.Data.{Data}
use Rattle.spec_loading.specs.wasm_form.declared.module.Module.{Module}
use Rattle.spec_loading.specs.wasm_form.declared.runtime.Ref.{Ref}
use Rattle.spec_loading.specs.wasm_form.declared.runtime.Ref.TheVariants.{Own, Loader, Host, Stub}
use Rattle.spec_loading.specs.wasm_form.declared.runtime.Value.{Value}
use Rattle.spec_loading.specs.wasm_form.declared.runtime.Value.TheVariants.{Num, Func}
use Rattle.spec_loading.specs.spec_binary.IndexSpaces.{function_space}
use Rattle.spec_loading.specs.spec_validation.Faults.{most_entries, most_pages}
use Rattle.spec_loading.specs.spec_runtime.Memories.{MemoryInstance, pages}
use Rattle.spec_loading.specs.spec_runtime.Tables.{TableInstance}
use Rattle.spec_loading.specs.spec_execution.Segments.{opened_items}
use Rattle.spec_loading.specs.spec_execution.Instances.{ModuleParts, module_target, segment_items}
use Rattle.spec_loading.specs.spec_safety.ValueTypes.{IsMemory}
pub use Rattle.spec_merging.specs.Exports.{entry_exports}
pub use Rattle.spec_snapshots.specs.Stretches.{Stretch, put, all_put, IsWithin, Make, Contents}
use Rattle.merge_pieces.specs.Opcodes as op
use Rattle.merge_pieces.specs.Code.{number}

-- ---- constants

-- the number of a function of the one module
abbrev pub function_number : Ref → ℕ
function_number (Own unit f) = f
function_number (Host entry) = entry
function_number (Loader which) = 0
function_number (Stub unit f) = 0

abbrev pub reference_instr : Option Ref → Instr
reference_instr None = RefNull FuncRef
reference_instr (Some r) = Index op.ref_func (function_number r)

-- a constant of a type
abbrev pub constant_instr : ValType → Value → Instr
constant_instr I64 (Num k) = I64Const (cast_signed w64 k)
constant_instr _ (Num k) = number k
constant_instr _ (Func r) = reference_instr r

abbrev pub expr_of : Instr → Expr
expr_of i = record { list = i ∷ [] }

abbrev pub offset_expr : ℕ → Expr
offset_expr k = expr_of (number k)

-- ---- globals, tables and the memory

abbrev pub held_globals : List GlobalDef → List Value → List GlobalDef
held_globals [] vs = []
held_globals (g ∷ gs) [] = []
held_globals (g ∷ gs) (v ∷ vs) = record g { init = expr_of (constant_instr g.ty.value v) } ∷ held_globals gs vs

-- as many entries, or pages, as there are; the maximum stays
abbrev pub held_table : TableType → TableInstance → TableType
held_table t x = record t { limits = record { min = length x.entries; max = t.limits.max } }

abbrev pub held_tables : List TableType → List TableInstance → List TableType
held_tables [] xs = []
held_tables (t ∷ ts) [] = []
held_tables (t ∷ ts) (x ∷ xs) = held_table t x ∷ held_tables ts xs

abbrev pub held_memories : List Limits → MemoryInstance → List Limits
held_memories [] memory = []
held_memories (l ∷ ls) memory = record { min = pages memory; max = l.max } ∷ []

-- ---- segments keep their numbers; one that was dropped is empty

abbrev pub no_elem : Elem
no_elem = record { mode = elem_mode.Passive; items = elem_items.Funcs [] }

abbrev pub held_elem : Elem → List (Option Ref) → Elem
held_elem e [] = no_elem
held_elem e (r ∷ rs) = record e { mode = elem_mode.Passive }

abbrev pub held_elems : List Elem → List (List (Option Ref)) → List Elem
held_elems [] xs = []
held_elems (e ∷ es) [] = []
held_elems (e ∷ es) (x ∷ xs) = held_elem e x ∷ held_elems es xs

abbrev pub passive_data : List ℕ → Data
passive_data bytes = record { mode = data_mode.Passive; bytes = bytes }

-- behind them those that are applied when the module is opened: the stretches of each table, which are numbered from t on
abbrev pub entry_expr : Option Ref → Expr
entry_expr r = expr_of (reference_instr r)

abbrev pub table_elem : ℕ → Stretch (Option Ref) → Elem
table_elem t s = record { mode = elem_mode.Active t (offset_expr s.at); items = elem_items.Exprs FuncRef (map entry_expr s.items) }

abbrev pub table_elems : ℕ → List (List (Stretch (Option Ref))) → List Elem
table_elems t [] = []
table_elems t (ss ∷ more) = map (table_elem t) ss ++ table_elems (t + 1) more

-- the numbers below this, the greatest first
abbrev pub below : ℕ → List ℕ
below zero = []
below (suc n) = n ∷ below n

-- and a segment that names each function, since bodies may refer to those that segments and exports of the module named
abbrev pub declared_elem : Module → Elem
declared_elem m = record { mode = elem_mode.Declarative; items = elem_items.Funcs (below (length (function_space m))) }

-- the stretches of the memory
abbrev pub memory_data : Stretch ℕ → Data
memory_data s = record { mode = data_mode.Active 0 (offset_expr s.at); bytes = s.items }

abbrev pub held_datas : List (List ℕ) → List (Stretch ℕ) → List Data
held_datas bytes ss = map passive_data bytes ++ map memory_data ss

-- ---- the whole

abbrev pub held : Module → ℕ → ModuleParts → MemoryInstance → Contents → Module
held m entry p memory c = record m {
  tables = held_tables m.tables p.tables;
  memories = held_memories m.memories memory;
  globals = held_globals m.globals p.globals;
  exports = entry_exports entry;
  start = None;
  elems = held_elems m.elems p.elems ++ (table_elems 0 c.tables ++ declared_elem m ∷ []);
  data_count = Some (length (held_datas p.datas c.memory));
  datas = held_datas p.datas c.memory;
}

-- what it begins with: the parts that it holds, and behind them the segments that were applied and the declarative one, which are empty
abbrev pub held_parts : ModuleParts → Contents → ModuleParts
held_parts p c = record p {
  elems = p.elems ++ (map (λ (e : Elem). []) (table_elems 0 c.tables) ++ [] ∷ []);
  datas = p.datas ++ map (λ (s : Stretch ℕ). []) c.memory;
}

-- ---- what can be held

-- a reference is one to a function that has a number
abbrev pub IsReference : Module → Option Ref → Type 0
IsReference m None = Unit {0}
IsReference m (Some r) = module_target m (function_number r) ≡ Some r

abbrev pub IsOfType : Module → ValType → Value → Type 0
IsOfType m I32 (Num k) = k < 2 ^ 32
IsOfType m I64 (Num k) = k < 2 ^ 64
IsOfType m FuncRef (Func r) = IsReference m r
IsOfType m I32 (Func r) = ⊥
IsOfType m I64 (Func r) = ⊥
IsOfType m FuncRef (Num k) = ⊥
IsOfType m F32 v = ⊥
IsOfType m F64 v = ⊥
IsOfType m ExternRef v = ⊥

abbrev pub AreGlobals : Module → List GlobalDef → List Value → Type 0
AreGlobals m [] [] = Unit {0}
AreGlobals m [] (v ∷ vs) = ⊥
AreGlobals m (g ∷ gs) [] = ⊥
AreGlobals m (g ∷ gs) (v ∷ vs) = IsOfType m g.ty.value v × AreGlobals m gs vs

-- a table of this type, and what is written of it
pub record IsTable (m : Module) (t : TableType) (x : TableInstance) (ss : List (Stretch (Option Ref))) : Type 0 where
  pub functions : t.elem ≡ FuncRef
  pub most : x.max ≡ min most_entries (unwrap_or t.limits.max most_entries)
  pub few : length x.entries ≤ x.max
  pub made : Make None ss x.entries
  pub references : All (λ (s : Stretch (Option Ref)). All (IsReference m) s.items) ss

abbrev pub AreTables : Module → List TableType → List TableInstance → List (List (Stretch (Option Ref))) → Type 0
AreTables m [] [] [] = Unit {0}
AreTables m (t ∷ ts) (x ∷ xs) (ss ∷ more) = IsTable m t x ss × AreTables m ts xs more
AreTables m _ _ _ = ⊥

-- segments are as they were, or dropped
abbrev pub AreElems : Module → List Elem → List (List (Option Ref)) → Type 0
AreElems m [] [] = Unit {0}
AreElems m [] (x ∷ xs) = ⊥
AreElems m (e ∷ es) [] = ⊥
AreElems m (e ∷ es) (x ∷ xs) = ((x ≡ []) ⊎ (x ≡ opened_items (segment_items m) e)) × AreElems m es xs

-- the memory of the module, and what is written of it
pub record IsMemoryOf (m : Module) (memory : MemoryInstance) (ss : List (Stretch ℕ)) : Type 0 where
  pub limits : Limits
  pub only : m.memories ≡ limits ∷ []
  pub most : memory.max ≡ unwrap_or limits.max most_pages
  pub is : IsMemory memory
  pub made : Make 0 ss memory.bytes

-- The parts of a run of a module and its memory, with what is written of these.
pub record CanBeHeld (m : Module) (p : ModuleParts) (memory : MemoryInstance) (c : Contents) : Type 0 where
  pub globals : AreGlobals m m.globals p.globals
  pub tables : AreTables m m.tables p.tables c.tables
  pub elems : AreElems m m.elems p.elems
  pub datas : length p.datas ≡ length m.datas
  pub memory_is : IsMemoryOf m memory c.memory
