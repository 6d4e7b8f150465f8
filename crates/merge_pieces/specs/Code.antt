-- The code that opens members, and their guards, by numbers alone.
-- This profile: docs/FORMATS.md, "What merge writes".
use Rattle.std.specs.Prelude.{ℕ, All, ◌+◌, ◌*◌, ◌<◌, ◌^◌, List, [], ◌∷◌, ◌++◌, map, None}
use Rattle.std.specs.Int.{cast_signed, w32}
use Rattle.wasm_form.specs.declared.instr.BlockType.TheVariants.{Empty}
use Rattle.wasm_form.specs.declared.instr.Instr.{Instr, Plain, Index, If, I32Const}
use Rattle.merge_pieces.specs.Opcodes as op

-- a number as a constant
abbrev pub number : ℕ → Instr
number k = I32Const (cast_signed w32 k)

-- where the guard is below the stage it is raised to it, and then the work is done
unfoldable pub guarded : ℕ → ℕ → List Instr → List Instr
guarded guard stage work =
    Index op.global_get guard ∷ number stage ∷ Plain op.i32_lt_u
    ∷ If Empty (record { list = number stage ∷ Index op.global_set guard ∷ work }) None ∷ []

-- the functions of the phase after so many are called for some members, in order, where each has four from a first one on
abbrev pub phase_calls : ℕ → ℕ → List ℕ → List Instr
phase_calls first before ms = map (λ m. Index op.call (first + 4 * m + before)) ms

-- the functions of the phases of some members, the last of them in an order of its own
abbrev pub phases_code : ℕ → List ℕ → List ℕ → List Instr
phases_code first breadth post = phase_calls first 0 breadth ++ (phase_calls first 1 breadth ++ (phase_calls first 2 breadth ++ phase_calls first 3 post))

-- .. and then an instruction
abbrev pub opening_code : ℕ → List ℕ → List ℕ → Instr → List Instr
opening_code first breadth post last =
    phase_calls first 0 breadth ++ (phase_calls first 1 breadth ++ (phase_calls first 2 breadth ++ (phase_calls first 3 post ++ last ∷ [])))

-- numbers of members
abbrev pub AreFew : List ℕ → Type 0
AreFew ms = All (λ m. m < 2 ^ 16) ms
