-- The constants of a module that is run are numbers of their types: bytes spell it.
use Rattle.std.proofs.Common.{Ok, refl, sym, subst}
use Rattle.spec_loading.specs.wasm_form.declared.module.Module.{Module}
use Rattle.spec_loading.specs.spec_linking.LinkedSets.{LinkedSet}
use Rattle.spec_loading.specs.spec_safety.SoundModules.{HoldsNumbers}
use Rattle.spec_loading.proofs.of_spec_binary.SpelledParts.{decoded_text}
use Rattle.spec_loading.proofs.of_spec_safety.SpelledNumbers.{spelled_numbers}
use Rattle.dyl_commands.specs.Fetched.{IsOfSome}
use Rattle.dyl_commands.specs.GeneratedRuns.{MergesTo}

-- one that was read
pub read_numbers : (wasm : Module) → IsOfSome wasm → HoldsNumbers wasm
read_numbers wasm read = subst HoldsNumbers (sym read.said.2.0) (spelled_numbers read.said.0 read.bytes (decoded_text read.bytes (Ok read.said.0) read.said.1 read.said.0 refl))

-- one that merges a linked set
pub merged_numbers : (L : LinkedSet) (wasm : Module) → MergesTo L wasm → HoldsNumbers wasm
merged_numbers L wasm merged = subst HoldsNumbers merged.is (spelled_numbers merged.merges.wasm merged.bytes merged.merges.spelled)
