-- What the sections so far say, as the definition of spelling has it.
-- Serves the contracts of this crate, which follow Sections of `spec_binary`.
use Rattle.spec_reading.specs.spec_binary.Sections as said
use Rattle.wasm_decode.specs.declared.section.Progress.{Progress}

abbrev pub progress_of : Progress → said.Progress
progress_of p = record { fields = record p.fields { customs = p.customs.items }; last = p.last; rank = p.rank }
