-- What a record of this crate says, and what an answer stands for.
-- Serves the contracts of this crate, which follow Records of `spec_linking`.
use Rattle.std.specs.Prelude.{◌≡◌, ℕ, map, Result, Ok, Err}
use Rattle.wasm_form.specs.declared.module.Module.{Module}
use Rattle.wasm_read.specs.declared.broken.Break.{Break}
use Rattle.wasm_read.specs.declared.broken.Break.TheVariants as breaks
use Rattle.spec_linking.specs.Records.{ExportNote, ImportNote, DylinkRecord, RecordAnswer}
use Rattle.dyl_section.specs.declared.record.ExportInfo.{ExportInfo}
use Rattle.dyl_section.specs.declared.record.ImportInfo.{ImportInfo}
use Rattle.dyl_section.specs.declared.record.Dylink.{Dylink}
use Rattle.spec_linking.specs.declared.fault.RecordFault.{RecordFault}
use Rattle.spec_linking.specs.declared.fault.RecordFault.TheVariants as faults

abbrev pub export_note : ExportInfo → ExportNote
export_note x = record { name = x.name; flags = x.flags }

abbrev pub import_note : ImportInfo → ImportNote
import_note x = record { from_module = x.«module»; field = x.field; flags = x.flags }

abbrev pub record_of : Dylink → DylinkRecord
record_of d = record { mem_size = d.mem_size; mem_align = d.mem_align; table_size = d.table_size; table_align = d.table_align; needed = d.needed; exports = map export_note d.exports; imports = map import_note d.imports; paths = d.paths }

-- what was returned is what there is to say of the module's record; of want of memory nothing is said
abbrev pub Records : Module → Result Dylink RecordFault → Type 0
Records m (Ok d) = RecordAnswer m (Ok (record_of d))
Records m (Err faults.Memory) = Unit {0}
Records m (Err fault) = RecordAnswer m (Err fault)

-- what was returned is this answer, or memory ran out
abbrev pub Yields : Result DylinkRecord RecordFault → Result Dylink RecordFault → Type 0
Yields answer (Ok d) = answer ≡ Ok (record_of d)
Yields answer (Err faults.Memory) = Unit {0}
Yields answer (Err fault) = answer ≡ Err fault

-- the fault of a reading that ends so behind this many subsections
abbrev pub fault_of : ℕ → Break → RecordFault
fault_of subsection breaks.Broken = faults.BadDylink subsection
fault_of subsection breaks.TooDeep = faults.BadDylink subsection
fault_of subsection breaks.TooManyLocals = faults.BadDylink subsection
fault_of subsection breaks.Memory = faults.Memory
