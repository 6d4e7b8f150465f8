-- The instructions without operands other than those of floats (WebAssembly Core 2.0, sections 5.4.1 to 5.4.3 and 5.4.7).
use Rattle.std.specs.Prelude.{ℕ, Option, Some, None, nat_eq, if◌then◌else◌}
use Rattle.wasm_form.specs.declared.types.ValType.{ValType}
use Rattle.wasm_form.specs.declared.types.ValType.TheVariants.{I32, I64}
use Rattle.wasm_form.specs.Ranges.{within}
use Rattle.wasm_form.specs.declared.plain.Operator.{Operator}
use Rattle.wasm_form.specs.declared.plain.Operator.TheVariants.{Test, Compare, Unary, Binary, Convert}
use Rattle.wasm_form.specs.declared.plain.PlainForm.{PlainForm}
use Rattle.wasm_form.specs.declared.plain.PlainForm.TheVariants as plain

abbrev pub convert : ValType → ValType → Option Operator
convert from to = Some (Convert from to)

-- the operators of integers
abbrev pub operator : ℕ → Option Operator
operator op =
    if nat_eq op 0x45 then Some (Test I32)
    else if within 0x46 0x4F op then Some (Compare I32)
    else if nat_eq op 0x50 then Some (Test I64)
    else if within 0x51 0x5A op then Some (Compare I64)
    else if within 0x67 0x69 op then Some (Unary I32)
    else if within 0x6A 0x78 op then Some (Binary I32)
    else if within 0x79 0x7B op then Some (Unary I64)
    else if within 0x7C 0x8A op then Some (Binary I64)
    else if nat_eq op 0xA7 then convert I64 I32
    else if within 0xAC 0xAD op then convert I32 I64
    else if within 0xC0 0xC1 op then convert I32 I32
    else if within 0xC2 0xC4 op then convert I64 I64
    else None

abbrev pub as_plain : Option Operator → Option PlainForm
as_plain None = None
as_plain (Some operator) = Some (plain.Operator operator)

abbrev pub plain_form : ℕ → Option PlainForm
plain_form op =
    if nat_eq op 0x00 then Some plain.Unreachable
    else if nat_eq op 0x01 then Some plain.Nop
    else if nat_eq op 0x0F then Some plain.Return
    else if nat_eq op 0x1A then Some plain.Drop
    else if nat_eq op 0x1B then Some plain.Select
    else if nat_eq op 0xD1 then Some plain.RefIsNull
    else as_plain (operator op)
