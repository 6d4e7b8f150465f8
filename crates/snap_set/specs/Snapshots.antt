-- The snapshot of a linked set after its start-up.
-- This profile: docs/FORMATS.md, "The snapshot".
use Rattle.std.specs.Prelude.{◌≡◌, ◌≢◌, ℕ, List, [], ◌∷◌, ◌++◌, map, Option, Some, Ok}
use Rattle.spec_loading.specs.wasm_form.declared.types.Limits.{Limits}
use Rattle.spec_loading.specs.wasm_form.declared.types.ValType.{ValType}
use Rattle.spec_loading.specs.wasm_form.declared.types.TableType.{TableType}
use Rattle.spec_loading.specs.wasm_form.declared.module.ElemMode.TheVariants as elem_mode
use Rattle.spec_loading.specs.wasm_form.declared.module.ElemItems.TheVariants as elem_items
use Rattle.spec_loading.specs.wasm_form.declared.module.Elem.{Elem}
use Rattle.spec_loading.specs.wasm_form.declared.module.Module.{Module}
use Rattle.spec_loading.specs.wasm_form.declared.runtime.Ref.{Ref}
use Rattle.spec_loading.specs.spec_runs.Agreement.{Agree}
use Rattle.spec_loading.specs.spec_runs.Costs.{AgreeWithin}
use Rattle.spec_loading.specs.spec_binary.Modules.{SpellsModule}
use Rattle.spec_loading.specs.spec_binary.IndexSpaces.{type_of_global}
use Rattle.spec_loading.specs.spec_execution.Instances.{ModuleParts}
use Rattle.spec_loading.specs.spec_execution.OneModule.{ModuleState, module_system, module_step, module_opening, module_entry}
use Rattle.spec_loading.specs.spec_linking.LinkedSets.{LinkedSet}
use Rattle.spec_loading.specs.LoadedSet.{SetState, set_system}
use Rattle.spec_loading.specs.SetCosts.{step_cost, set_room, module_depth}
use Rattle.spec_snapshots.specs.Stretches.{Contents, entries, IsWritten}
use Rattle.spec_snapshots.specs.Snapshots.{IsSnapshotOf}
use Rattle.merge_match.specs.Renumbering.{Numbers}
use Rattle.merge_match.specs.SameCode.{SameCode}
use Rattle.merge_start.specs.Words.{Starts}
use Rattle.merge_start.specs.Started.{Same}
use Rattle.merge_start.specs.Laws.{MatchedWithin}
use Rattle.snap_module.specs.Held.{passive_data, table_elems, declared_elem, memory_data}

abbrev pub entries_of : TableType → ValType
entries_of t = t.elem

abbrev pub least_entries_of : TableType → ℕ
least_entries_of t = t.limits.min

abbrev pub most_entries_of : TableType → Option ℕ
most_entries_of t = t.limits.max

abbrev pub most_pages_of : Limits → Option ℕ
most_pages_of l = l.max

-- It has the types, imports, functions and bodies of a module, and the types of its globals, tables and memory but for the least sizes.
pub record HasItems (one other : Module) : Type 0 where
  pub code : SameCode one other
  pub globals : map type_of_global other.globals ≡ map type_of_global one.globals
  pub tables : map entries_of other.tables ≡ map entries_of one.tables
  pub most_entries : map most_entries_of other.tables ≡ map most_entries_of one.tables
  pub most_pages : map most_pages_of other.memories ≡ map most_pages_of one.memories

-- ---- its segments

-- An element segment that keeps its number is passive. It has the items that it has there, or, where none of these are left, none.
pub record KeepsElem (e : Elem) (left : List (Option Ref)) (now : Elem) : Type 0 where
  pub passive : now.mode ≡ elem_mode.Passive
  pub dropped : left ≡ [] → now.items ≡ elem_items.Funcs []
  pub kept : left ≢ [] → now.items ≡ e.items

abbrev pub KeepElems : List Elem → List (List (Option Ref)) → List Elem → Type 0
KeepElems [] [] [] = Unit {0}
KeepElems (e ∷ es) (left ∷ lefts) (now ∷ rest) = KeepsElem e left now × KeepElems es lefts rest
KeepElems _ _ _ = ⊥

-- By the parts that the module has of what the set has in a state: the segments of the merged module keep their numbers, and those that are
-- dropped are empty. Behind them come active ones that write the tables and the memory, of which little is written, and a declarative one that
-- names each function. The tables begin with as many entries as there are.
pub record HasSegments (L : LinkedSet) (n : Numbers) (x : Starts) (merged : Module) (s : SetState) (wasm : Module) : Type 0 where
  pub parts : ModuleParts
  pub same : Same L n x s.loader s.run.units parts
  pub kept : List Elem
  pub keep : KeepElems merged.elems parts.elems kept
  pub contents : Contents
  pub written : IsWritten s.run.memory parts.tables contents
  pub elems : wasm.elems ≡ kept ++ (table_elems 0 contents.tables ++ declared_elem merged ∷ [])
  pub datas : wasm.datas ≡ map passive_data parts.datas ++ map memory_data contents.memory
  pub sizes : map least_entries_of wasm.tables ≡ map entries parts.tables

-- ---- the whole

-- A module is a snapshot of a state, by the numbers, of the module that is merged. It is a snapshot of the set; it has the items of the merged
-- one, and its `_start` is the entry itself; the state after its first step matches that of the set; and its run agrees with that of the merged
-- module, which opens.
pub record IsSnapshot (L : LinkedSet) (n : Numbers) (x : Starts) (merged : Module) (entry : ℕ) (s : SetState) (wasm : Module) : Type 0 where
  pub stands : IsSnapshotOf L s wasm
  pub items : HasItems merged wasm
  pub segments : HasSegments L n x merged s wasm
  pub entered : module_entry wasm ≡ Some entry
  pub begun : ModuleState
  pub first : module_step wasm stands.opening ≡ Some begun
  pub matched : MatchedWithin L n x s begun
  pub opening : ModuleState
  pub opens : module_opening merged L.names ≡ Ok opening
  pub agrees : Agree (module_system wasm) (module_system merged) stands.opening opening
  -- And its run agrees with that of the set from the state on, within the cost, and one step more, by which it calls the entry.
  pub within : AgreeWithin (set_system L) (module_system wasm) (step_cost L) set_room module_depth 1 s stands.opening

-- bytes that spell one
pub record Snapped (L : LinkedSet) (n : Numbers) (x : Starts) (merged : Module) (entry : ℕ) (bytes : List ℕ) (s : SetState) : Type 0 where
  pub wasm : Module
  pub spelled : SpellsModule wasm bytes
  pub is : IsSnapshot L n x merged entry s wasm
