-- What a merged module exports, and a snapshot too.
-- This profile: docs/FORMATS.md, "What merge writes" and "The snapshot".
use Rattle.std.specs.Prelude.{ℕ, List, [], ◌∷◌, codes}
use Rattle.wasm_form.specs.declared.module.ExportDesc.TheVariants as exported
use Rattle.wasm_form.specs.declared.module.Export.{Export}

-- the function that it begins with, and the memory
abbrev pub entry_exports : ℕ → List Export
entry_exports entry = record { name = codes "_start"; desc = exported.Func entry } ∷ record { name = codes "memory"; desc = exported.Space 0 } ∷ []
