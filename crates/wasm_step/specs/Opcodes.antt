-- The opcodes of operators by the width of their operands (WebAssembly Core 2.0, section 5.4.7).
use Rattle.std.specs.Prelude.{ℕ, Bool, ◌||◌}
use Rattle.wasm_form.specs.Ranges.{within}

-- an operator of i32 that is no conversion
abbrev pub is_narrow : ℕ → Bool
is_narrow op = within 0x45 0x4F op || within 0x67 0x78 op

-- an operator of i64 that is no conversion
abbrev pub is_wide : ℕ → Bool
is_wide op = within 0x50 0x5A op || within 0x79 0x8A op
