-- Names, bytes and ends of runs, as they are printed.
-- This profile: docs/FORMATS.md, "The line" and "The summary".
use Rattle.std.specs.Prelude.{ℕ, ◌+◌, ◌/◌, ◌%◌, List, [], ◌∷◌, ◌++◌, flat_map, codes, decimal, Bool, ◌&&◌, nat_eq, nat_lt, not, if◌then◌else◌}
use Rattle.spec_hosts.specs.wasm_form.declared.runtime.Trap.{Trap}
use Rattle.spec_hosts.specs.wasm_form.declared.runtime.Trap.TheVariants as trap
use Rattle.spec_hosts.specs.declared.ran.RunEnd.{RunEnd}
use Rattle.spec_hosts.specs.declared.ran.RunEnd.TheVariants as end

-- ---- bytes

-- a lower-case hexadecimal digit
abbrev pub hex_digit : ℕ → ℕ
hex_digit n = if nat_lt n 10 then n + 48 else n + 87

-- the two last hexadecimal digits
abbrev pub hex_byte : ℕ → List ℕ
hex_byte n = hex_digit (n / 16 % 16) ∷ hex_digit (n % 16) ∷ []

-- bytes as hexadecimal digits, or a hyphen where there are none
abbrev pub bytes_word : List ℕ → List ℕ
bytes_word [] = codes "-"
bytes_word (b ∷ bytes) = flat_map hex_byte (b ∷ bytes)

-- ---- names

-- a character of ASCII that is seen, and no backslash
abbrev pub is_printed : ℕ → Bool
is_printed b = nat_lt 0x20 b && nat_lt b 0x7F && not (nat_eq b 0x5C)

-- such a byte itself, and for another one a backslash and two hexadecimal digits
abbrev pub escaped_byte : ℕ → List ℕ
escaped_byte b = if is_printed b then b ∷ [] else 0x5C ∷ hex_byte b

abbrev pub escaped : List ℕ → List ℕ
escaped bytes = flat_map escaped_byte bytes

-- ---- ends of runs

abbrev pub trap_text : Trap → List ℕ
trap_text trap.Unreachable = codes "unreachable"
trap_text trap.MemoryBounds = codes "memory bounds"
trap_text trap.TableBounds = codes "table bounds"
trap_text trap.NullEntry = codes "null entry"
trap_text trap.WrongType = codes "wrong type"
trap_text trap.DivideByZero = codes "divide by zero"
trap_text trap.Overflow = codes "overflow"

-- how a run ended
abbrev pub end_word : RunEnd → List ℕ
end_word end.Return = codes "return"
end_word (end.Exit code) = codes "exit " ++ decimal code
end_word (end.Trap why) = codes "trap " ++ trap_text why
end_word end.StepLimit = codes "steplimit"
end_word end.DepthLimit = codes "depthlimit"
end_word end.HostCallLimit = codes "hostcalllimit"
end_word end.TurnLimit = codes "turnlimit"
