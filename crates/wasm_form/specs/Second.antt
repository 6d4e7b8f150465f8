-- The instructions with a second opcode other than float conversions (WebAssembly Core 2.0, sections 5.4.5 and 5.4.6).
use Rattle.std.specs.Prelude.{ℕ, Option, Some, None, nat_eq, if◌then◌else◌}
use Rattle.wasm_form.specs.declared.second.SecondForm.{SecondForm}
use Rattle.wasm_form.specs.declared.second.SecondForm.TheVariants.{MemoryInit, DataDrop, MemoryCopy, MemoryFill, TableInit, ElemDrop, TableCopy, TableGrow, TableSize, TableFill}

abbrev pub second_form : ℕ → Option SecondForm
second_form op =
    if nat_eq op 8 then Some MemoryInit
    else if nat_eq op 9 then Some DataDrop
    else if nat_eq op 10 then Some MemoryCopy
    else if nat_eq op 11 then Some MemoryFill
    else if nat_eq op 12 then Some TableInit
    else if nat_eq op 13 then Some ElemDrop
    else if nat_eq op 14 then Some TableCopy
    else if nat_eq op 15 then Some TableGrow
    else if nat_eq op 16 then Some TableSize
    else if nat_eq op 17 then Some TableFill
    else None
