-- What a section does to the bytes of a module so far.
-- Serves the contracts of this crate, which follow Sections of `spec_binary`.
use Rattle.std.specs.Prelude.{◌≡◌, ℕ, suc, ◌*◌, ◌<◌, List, []}
use Rattle.wasm_form.specs.declared.module.Custom.{Custom}
use Rattle.wasm_form.specs.declared.module.Module.{Module}
use Rattle.spec_reading.specs.spec_binary.Sequence.{SpellsVec}
use Rattle.spec_reading.specs.spec_binary.Sections.{Progress, Contents}
use Rattle.spec_reading.specs.spec_binary.WellFormed.{HasRank}
use Rattle.wasm_encode.specs.SectionSizes.{IsTooLong, IsFirstTooLong}
use Rattle.wasm_encode.specs.Written.{AddsSection, IsLongList}
use Rattle.wasm_encode.specs.Begun.{so_far, Costs, Accounts, IsBegun}

-- what there is to know of the section behind those of this rank
pub record IsStep (m : Module) (r id : ℕ) (IsLeftOut : Type 0) (Holds : List ℕ → Type 0) : Type 0 where
  pub after : Progress → Progress
  pub contents : (s : Progress) (w : List ℕ) → s.last < suc r → Holds w → Contents s id w (after s)
  pub left_out : IsLeftOut → (cs : List Custom) → so_far m r cs ≡ so_far m (suc r) cs
  pub written : (s : Progress) (cs : List Custom) → s.fields ≡ so_far m r cs → (after s).fields ≡ so_far m (suc r) cs
  pub last : (s : Progress) → (after s).last ≡ suc r
  pub there : HasRank m (suc r) → ¬ IsLeftOut
  pub rank : HasRank m (suc r) → (s : Progress) → (after s).rank ≡ suc r
  pub costs : (n : ℕ) (a : Accounts m n) → Costs IsLeftOut Holds id (a.cost (suc r))
  pub fits : {old new : List ℕ} → AddsSection IsLeftOut Holds id old new → (other p : ℕ) → p ≡ 2 * suc r → IsTooLong m other p → ⊥

-- the same of the section that holds a list of the module, and when it is the first that is too long
pub record IsListStep {A : Type 0} (m : Module) (r id : ℕ) (Spells : A → List ℕ → Type 0) (TooLong : A → Type 0) (items : List A) : Type 0 where
  pub step : IsStep m r id (items ≡ []) (SpellsVec Spells items)
  pub too_long : {customs : List Custom} {bytes : List ℕ} → IsBegun m r (suc r) customs bytes → IsLongList Spells TooLong items → IsFirstTooLong m id
