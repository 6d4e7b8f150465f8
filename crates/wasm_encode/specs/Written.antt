-- What writing sections does.
-- Serves the contracts of this crate, which follow Sections of `spec_binary`.
use Rattle.std.specs.Prelude.{◌≡◌, ◌≢◌, ℕ, ◌^◌, ◌≤◌, List, ◌∷◌, ◌++◌, length, take, drop, All, Contains, Option, Some}
use Rattle.wasm_form.specs.declared.module.Custom.{Custom}
use Rattle.spec_reading.specs.spec_binary.Number.{SpellsUnsigned, IsShortest, Appends}
use Rattle.spec_reading.specs.spec_binary.Name.{SpellsName}
use Rattle.spec_reading.specs.spec_binary.Sequence.{SpellsEach, SpellsVec}
use Rattle.spec_reading.specs.spec_binary.Sections.{IsSection}
use Rattle.wasm_encode.specs.SectionSizes.{IsTooLongCustom}

-- The new text is the old one with the shortest section of such contents at its end, or just the old one where the section is left out.
pub data AddsSection (IsLeftOut : Type 0) (Holds : List ℕ → Type 0) (id : ℕ) (old new : List ℕ) : Type 0 where
  nothing : IsLeftOut → new ≡ old → AddsSection IsLeftOut Holds id old new
  section : {contents word : List ℕ} → ¬ IsLeftOut → IsShortest Holds contents → IsShortest (IsSection id contents) word → new ≡ old ++ word
      → AddsSection IsLeftOut Holds id old new

-- The section of this list takes 2 ^ 32 bytes or more, however it is spelled, or a part of it does.
pub data IsLongList {A : Type 0} (Spells : A → List ℕ → Type 0) (TooLong : A → Type 0) : List A → Type 0 where
  whole : {xs : List A} {w : List ℕ} → SpellsVec Spells xs w → ((v : List ℕ) → SpellsVec Spells xs v → 2 ^ 32 ≤ length v) → IsLongList Spells TooLong xs
  part : {xs : List A} {x : A} → Contains xs x → TooLong x → IsLongList Spells TooLong xs

-- a number that there is
pub data SpellsSome : Option ℕ → List ℕ → Type 0 where
  some : {n : ℕ} {w : List ℕ} → SpellsUnsigned 32 n w → SpellsSome (Some n) w

-- a custom section
pub data SpellsCustom : Custom → List ℕ → Type 0 where
  custom : {c : Custom} {name w : List ℕ} → SpellsName c.name name → IsSection 0 (name ++ c.bytes) w → SpellsCustom c w

-- so many custom sections of this rank stand first
pub record IsRankRun (rank : ℕ) (customs : List Custom) (n : ℕ) : Type 0 where
  pub within : n ≤ length customs
  pub ranked : All (λ c. c.rank ≡ rank) (take n customs)
  pub end : (c : Custom) (cs : List Custom) → drop n customs ≡ c ∷ cs → c.rank ≢ rank

-- The new text is the old one with the first custom sections at its end, which are those of this rank, and the rest is left.
pub record AddsCustoms (rank : ℕ) (customs rest : List Custom) (old new : List ℕ) : Type 0 where
  pub written : List Custom
  pub parts : customs ≡ written ++ rest
  pub ranked : All (λ c. c.rank ≡ rank) written
  pub end : (c : Custom) (cs : List Custom) → rest ≡ c ∷ cs → c.rank ≢ rank
  pub appended : Appends (IsShortest (SpellsEach SpellsCustom written)) old new

-- a custom section of this rank is too long
pub record IsLongCustom (rank : ℕ) (customs : List Custom) : Type 0 where
  pub custom : Custom
  pub has : Contains customs custom
  pub ranked : custom.rank ≡ rank
  pub long : IsTooLongCustom custom
