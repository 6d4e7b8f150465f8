-- How many items the parts of a module have.
-- Part of the statement of laws: docs/LAWS.md, "Laws of the parts".
use Rattle.std.specs.Prelude.{ℕ, ◌+◌, ◌≤◌, length}
use Rattle.spec_execution.specs.wasm_form.declared.module.Module.{Module}

-- The types, imports, functions, tables, globals, exports, element segments, bodies and data segments of a module together are so many at
-- most. Each takes a byte or more, so those of a module that is read from a file are no more than the bytes of the file.
pub record AreFew (m : Module) (most : ℕ) : Type 0 where
  pub all : length m.types + length m.imports + length m.funcs + length m.tables + length m.globals + length m.exports + length m.elems
      + length m.codes + length m.datas ≤ most
