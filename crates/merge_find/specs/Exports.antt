-- The names of the exports of a module.
-- Part of the statement of laws: docs/LAWS.md, "Laws of the parts".
use Rattle.std.specs.Prelude.{◌≡◌, ℕ, List, map, None}
use Rattle.std.specs.List.{All}
use Rattle.wasm_form.specs.declared.module.Module.{Module}
use Rattle.spec_execution.specs.spec_binary.Exports.{AllDistinct, name_of}
use Rattle.spec_execution.specs.spec_binary.Modules.{SpellsModule}
use Rattle.spec_execution.specs.spec_validation.Faults.{fault}
use Rattle.merge_find.specs.Finding.{IsText}

-- where bytes spell the module (WebAssembly Core 2.0, sections 5.2.4 and 5.5.10)
abbrev pub ExportsAreTexts : Type 0
ExportsAreTexts = (wasm : Module) (bytes : List ℕ) → SpellsModule wasm bytes → All (λ e. IsText e.name) wasm.exports

-- where the module is valid (section 3.4.10)
abbrev pub ExportsAreApart : Type 0
ExportsAreApart = (wasm : Module) → fault wasm ≡ None → AllDistinct (map name_of wasm.exports)
