-- Laws of what is written.
-- Part of the statement of laws: docs/LAWS.md, "Laws of the parts".
use Rattle.std.specs.Prelude.{◌≡◌, ℕ, ◌+◌, ◌*◌, ◌≤◌, ◌^◌, List, [], length, Contains}
use Rattle.wasm_form.specs.declared.module.Code.{Code}
use Rattle.wasm_form.specs.declared.module.Module.{Module}
use Rattle.spec_reading.specs.spec_binary.Number.{IsShortest}
use Rattle.spec_reading.specs.spec_binary.Parts.{SpellsFunc}
use Rattle.spec_reading.specs.spec_binary.Modules.{SpellsModule}
use Rattle.wasm_encode.specs.SectionSizes.{IsContents, IsFirstTooLong}
use Rattle.wasm_encode.specs.Weight.{section_weight, weight}

-- no section is too long of a module of which there is little to write
abbrev pub LightModulesFit : Type 0
LightModulesFit = (m : Module) → weight m ≤ 2 ^ 27 → (id : ℕ) → IsFirstTooLong m id → ⊥

-- a module weighs no more than the bytes that spell it
abbrev pub WeightIsLeast : Type 0
WeightIsLeast = (m : Module) (bytes : List ℕ) → SpellsModule m bytes → weight m ≤ length bytes

-- The contents of a section take at most 16 bytes for each that its items weigh, and 16, however they are spelled.
abbrev pub SectionsAreBounded : Type 0
SectionsAreBounded = (m : Module) (id : ℕ) (w : List ℕ) → IsContents m id w → length w ≤ 16 * section_weight m id + 16

-- a body takes at most 16 bytes for each that the code section weighs
abbrev pub BodiesAreBounded : Type 0
BodiesAreBounded = (m : Module) (c : Code) → Contains m.codes c → (w : List ℕ) → SpellsFunc c w → length w ≤ 16 * section_weight m 10

-- A module without custom sections has one shortest spelling. (Where one stands next to a start section or a data count section, it may stand
-- before it or behind it.)
abbrev pub OneShortestModule : Type 0
OneShortestModule =
    (m : Module) → m.customs ≡ [] → (word other : List ℕ) → IsShortest (SpellsModule m) word → IsShortest (SpellsModule m) other → word ≡ other
