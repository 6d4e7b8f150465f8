-- The index spaces of a module, as they are kept.
-- Serves the contracts of this crate, which follow IndexSpaces of `spec_binary`.
use Rattle.std.specs.Prelude.{◌≡◌, List, length, map}
use Rattle.wasm_form.specs.declared.types.ValType.{ValType}
use Rattle.wasm_form.specs.declared.types.TableType.{TableType}
use Rattle.wasm_form.specs.declared.module.Elem.{Elem}
use Rattle.wasm_form.specs.declared.module.Module.{Module}
use Rattle.spec_execution.specs.spec_binary.IndexSpaces.{imports_of, globals_in, function_space, table_space, memory_space, global_space}
use Rattle.spec_execution.specs.spec_validation.Faults.{item_type}
use Rattle.wasm_check.specs.declared.spaces.Spaces.{Spaces}

abbrev pub entry_type : TableType → ValType
entry_type ty = ty.elem

abbrev pub entries : List TableType → List ValType
entries tables = map entry_type tables

abbrev pub item_type_of : Elem → ValType
item_type_of s = item_type s.items

pub record AreSpaces (m : Module) (s : Spaces) : Type 0 where
  pub functions : s.functions.items ≡ function_space m
  pub tables : s.tables.items ≡ entries (table_space m)
  pub memories : s.memories ≡ length (memory_space m)
  pub imported : s.imported.items ≡ imports_of globals_in m.imports
  pub globals : s.globals.items ≡ global_space m
  pub elems : s.elems.items ≡ map item_type_of m.elems
