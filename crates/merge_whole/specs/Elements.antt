-- What exports name, by the numbers of a merged module.
-- Serves the contracts of this crate, which follow MergedModule of `merge_module`.
use Rattle.std.specs.Prelude.{ℕ, List, map}
use Rattle.wasm_form.specs.declared.module.Export.{Export}
use Rattle.wasm_form.specs.declared.module.Module.{Module}
use Rattle.merge_match.specs.Renumbering.{Numbers}
use Rattle.merge_module.specs.MergedModule.{named_functions, exported_functions}

-- the function that an export names, by the numbers
abbrev pub export_numbers : Numbers → ℕ → Export → List ℕ
export_numbers n m e = map (n.named m) (named_functions e.desc)

abbrev pub exported_numbers : Numbers → ℕ → Module → List ℕ
exported_numbers n m wasm = map (n.named m) (exported_functions wasm)
