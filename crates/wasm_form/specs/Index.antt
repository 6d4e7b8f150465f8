-- The instructions with one index (WebAssembly Core 2.0, sections 5.4.1, 5.4.2, 5.4.4 and 5.4.5).
use Rattle.std.specs.Prelude.{ℕ, Option, Some, None, nat_eq, if◌then◌else◌}
use Rattle.wasm_form.specs.declared.index.IndexForm.{IndexForm}
use Rattle.wasm_form.specs.declared.index.IndexForm.TheVariants.{Br, BrIf, Call, LocalGet, LocalSet, LocalTee, GlobalGet, GlobalSet, TableGet, TableSet, RefFunc}

abbrev pub index_form : ℕ → Option IndexForm
index_form op =
    if nat_eq op 0x0C then Some Br
    else if nat_eq op 0x0D then Some BrIf
    else if nat_eq op 0x10 then Some Call
    else if nat_eq op 0x20 then Some LocalGet
    else if nat_eq op 0x21 then Some LocalSet
    else if nat_eq op 0x22 then Some LocalTee
    else if nat_eq op 0x23 then Some GlobalGet
    else if nat_eq op 0x24 then Some GlobalSet
    else if nat_eq op 0x25 then Some TableGet
    else if nat_eq op 0x26 then Some TableSet
    else if nat_eq op 0xD2 then Some RefFunc
    else None
