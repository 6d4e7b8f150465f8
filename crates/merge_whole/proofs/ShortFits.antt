-- A module whose sections and bodies are short, and that has no custom section, is never too long to be written.
use Rattle.std.proofs.Common.{◌≡◌, ℕ, ◌≤◌, ◌^◌, [], length, ap, arith}
use Rattle.wasm_form.specs.declared.module.Module.{Module}
use Rattle.wasm_encode.specs.SectionSizes.{IsTooLong, contents, body, custom, IsFirstTooLong}
use Rattle.merge_module.specs.Laws.{AreShort}

module _ (m : Module) (short : AreShort m) (none : m.customs ≡ []) where
  never_long : {id place : ℕ} → IsTooLong m id place → ⊥
  never_long (contents {w} s h) = (let long : 2 ^ 32 ≤ length w = h w s in let few = short.contents s in omega arith)
  never_long (body {c} has too) = (let long = too.long too.word too.spelled in let few = short.bodies c has too.word too.spelled in omega arith)
  never_long (custom {c} has too) = (let few : length m.customs ≡ 0 = ap length none in absurd (omega (arith, has.1)))

  pub never_first_long : (id : ℕ) → IsFirstTooLong m id → ⊥
  never_first_long id too = never_long too.long
