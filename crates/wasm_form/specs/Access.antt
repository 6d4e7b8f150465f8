-- Loads and stores of integers (WebAssembly Core 2.0, section 5.4.6).
use Rattle.std.specs.Prelude.{ℕ, true, false, Option, Some, None, nat_eq, if◌then◌else◌}
use Rattle.wasm_form.specs.declared.types.ValType.{ValType}
use Rattle.wasm_form.specs.declared.types.ValType.TheVariants.{I32, I64}
use Rattle.wasm_form.specs.Ranges.{within}
use Rattle.wasm_form.specs.declared.access.MemoryAccess.{MemoryAccess}

abbrev pub load : ValType → ℕ → MemoryAccess
load value exponent = record { value = value; exponent = exponent; writes = false }

abbrev pub store : ValType → ℕ → MemoryAccess
store value exponent = record { value = value; exponent = exponent; writes = true }

abbrev pub memory_access : ℕ → Option MemoryAccess
memory_access op =
    if nat_eq op 0x28 then Some (load I32 2)
    else if nat_eq op 0x29 then Some (load I64 3)
    else if within 0x2C 0x2D op then Some (load I32 0)
    else if within 0x2E 0x2F op then Some (load I32 1)
    else if within 0x30 0x31 op then Some (load I64 0)
    else if within 0x32 0x33 op then Some (load I64 1)
    else if within 0x34 0x35 op then Some (load I64 2)
    else if nat_eq op 0x36 then Some (store I32 2)
    else if nat_eq op 0x37 then Some (store I64 3)
    else if nat_eq op 0x3A then Some (store I32 0)
    else if nat_eq op 0x3B then Some (store I32 1)
    else if nat_eq op 0x3C then Some (store I64 0)
    else if nat_eq op 0x3D then Some (store I64 1)
    else if nat_eq op 0x3E then Some (store I64 2)
    else None
