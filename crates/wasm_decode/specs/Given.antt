-- What a reader returned stands for what reading from left to right finds, unless memory ran out.
-- Serves the contracts of this crate, which follow Sections of `spec_reading`.
use Rattle.std.specs.Prelude.{◌≡◌, ℕ, Result, Ok, Err}
use Rattle.wasm_read.specs.declared.broken.Break.{Break}
use Rattle.wasm_read.specs.declared.broken.Break.TheVariants as breaks
use Rattle.spec_reading.specs.spec_binary.declared.fault.DecodeFault.{DecodeFault}
use Rattle.spec_reading.specs.spec_binary.declared.fault.DecodeFault.TheVariants as faults

-- reading of sections ends so, or memory ran out
abbrev pub Refuses : {Y : Type 0} → DecodeFault → Result Y DecodeFault → Type 0
Refuses faults.Memory read = Unit {0}
Refuses fault read = read ≡ Err fault

-- what was returned, seen by view, is what reading gives of sections, unless memory ran out
abbrev pub Tells : {X Y : Type 0} → (X → Y) → Result X DecodeFault → Result Y DecodeFault → Type 0
Tells view (Ok x) read = read ≡ Ok (view x)
Tells view (Err e) read = Refuses e read

-- why decoding ends where reading ends so in a section behind so many
abbrev pub fault_of_section : ℕ → Break → DecodeFault
fault_of_section section breaks.Broken = faults.Malformed section
fault_of_section section breaks.TooDeep = faults.Malformed section
fault_of_section section breaks.TooManyLocals = faults.Malformed section
fault_of_section section breaks.Memory = faults.Memory

-- why decoding ends where reading ends so in the body with this number
abbrev pub fault_of_body : ℕ → ℕ → Break → DecodeFault
fault_of_body section function breaks.Broken = faults.Malformed section
fault_of_body section function breaks.TooDeep = faults.TooDeep function
fault_of_body section function breaks.TooManyLocals = faults.TooManyLocals function
fault_of_body section function breaks.Memory = faults.Memory
