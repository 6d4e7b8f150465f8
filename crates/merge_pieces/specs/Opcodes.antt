-- The opcodes of the instructions that generated code is made of (WebAssembly Core 2.0, section 5.4).
use Rattle.std.specs.Prelude.{ℕ}

-- ---- control

abbrev pub unreachable : ℕ
unreachable = 0x00

abbrev pub br : ℕ
br = 0x0C

abbrev pub br_if : ℕ
br_if = 0x0D

abbrev pub return_ : ℕ
return_ = 0x0F

abbrev pub call : ℕ
call = 0x10

-- ---- variables

abbrev pub local_get : ℕ
local_get = 0x20

abbrev pub local_set : ℕ
local_set = 0x21

abbrev pub local_tee : ℕ
local_tee = 0x22

abbrev pub global_get : ℕ
global_get = 0x23

abbrev pub global_set : ℕ
global_set = 0x24

-- ---- memory

abbrev pub i32_load8_u : ℕ
i32_load8_u = 0x2D

-- ---- numbers

abbrev pub i32_eqz : ℕ
i32_eqz = 0x45

abbrev pub i32_eq : ℕ
i32_eq = 0x46

abbrev pub i32_ne : ℕ
i32_ne = 0x47

abbrev pub i32_lt_u : ℕ
i32_lt_u = 0x49

abbrev pub i32_ge_u : ℕ
i32_ge_u = 0x4F

abbrev pub i64_eqz : ℕ
i64_eqz = 0x50

abbrev pub i32_add : ℕ
i32_add = 0x6A

abbrev pub i32_sub : ℕ
i32_sub = 0x6B

abbrev pub i32_and : ℕ
i32_and = 0x71

abbrev pub i32_wrap_i64 : ℕ
i32_wrap_i64 = 0xA7

-- ---- references

abbrev pub ref_func : ℕ
ref_func = 0xD2

-- ---- segments: the number after the byte FC

abbrev pub memory_init : ℕ
memory_init = 8

abbrev pub data_drop : ℕ
data_drop = 9

abbrev pub table_init : ℕ
table_init = 12

abbrev pub elem_drop : ℕ
elem_drop = 13
