-- When a module has the code of another.
-- Part of the statement of `snap`: Snapshots of `snap_set`.
use Rattle.std.specs.Prelude.{◌≡◌}
use Rattle.spec_loading.specs.wasm_form.declared.module.Module.{Module}

-- The other module has the types, the imports, the functions and the bodies of the one. This is all of a module that a step of its run
-- reads: the values of globals, the entries of tables with their maxima and the contents of segments are those of the state. So the two
-- may differ in exports, in a start function, and in what globals, tables, memories and segments begin with.
pub record SameCode (one other : Module) : Type 0 where
  pub types : other.types ≡ one.types
  pub imports : other.imports ≡ one.imports
  pub funcs : other.funcs ≡ one.funcs
  pub codes : other.codes ≡ one.codes
