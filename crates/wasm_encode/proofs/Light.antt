-- A module of which there is little to write has no section that is too long, and a body is no longer than the code section may be.
use Rattle.std.proofs.Common.{◌≡◌, ℕ, zero, suc, ◌+◌, ◌*◌, ◌≤◌, ◌<◌, ◌^◌, List, [], ◌∷◌, length, slice_index_or, subst, arith, length-append}
use Rattle.std.specs.Prelude.{Contains}
use Rattle.wasm_form.specs.declared.module.Code.{Code}
use Rattle.wasm_form.specs.declared.module.Module.{Module}
use Rattle.spec_reading.specs.spec_binary.Parts.{SpellsFunc}
use Rattle.wasm_encode.specs.SectionSizes.{types, imports, funcs, tables, memories, globals, exports, elems, codes, datas, IsContents, IsTooLong, contents, body, custom, IsFirstTooLong}
use Rattle.wasm_encode.specs.Weight.{sum_of, code_weight, custom_weight, section_weight, weight}
use Rattle.wasm_encode.proofs.Lengths.{contents_about, name_short, func_about}

-- one of some weighs no more than all
weighs_within : {A : Type 0} (weight : A → ℕ) (xs : List A) (k : ℕ) (x : A) → k < length xs → slice_index_or xs k x ≡ x → weight x ≤ sum_of weight xs
weighs_within weight [] k x lt e = absurd (omega arith)
weighs_within weight (y ∷ ys) zero x lt e = subst (λ z. weight z ≤ weight y + sum_of weight ys) e (omega arith)
weighs_within weight (y ∷ ys) (suc k) x lt e = (let later = weighs_within weight ys k x (omega arith) e in omega arith)

section_within : (m : Module) (id : ℕ) {w : List ℕ} → IsContents m id w → section_weight m id ≤ weight m
section_within m _ (types s) = omega arith
section_within m _ (imports s) = omega arith
section_within m _ (funcs s) = omega arith
section_within m _ (tables s) = omega arith
section_within m _ (memories s) = omega arith
section_within m _ (globals s) = omega arith
section_within m _ (exports s) = omega arith
section_within m _ (elems s) = omega arith
section_within m _ (codes s) = omega arith
section_within m _ (datas s) = omega arith

-- a body takes no more than the code section
pub body_most : (m : Module) (c : Code) → Contains m.codes c → (w : List ℕ) → SpellsFunc c w → length w ≤ 16 * section_weight m 10
body_most m c has w s =
    let few = (func_about s).most in
    let here = weighs_within code_weight m.codes has.0 c has.1 has.2 in
    omega arith

module _ (m : Module) (light : weight m ≤ 2 ^ 27) where
  -- however the contents of a section are spelled, they are short
  contents_short : {id : ℕ} {w : List ℕ} → IsContents m id w → length w < 2 ^ 32
  contents_short s = (let most = (contents_about s).most in let part = section_within m _ s in omega arith)

  too_long_never : {id place : ℕ} → IsTooLong m id place → ⊥
  too_long_never (contents {w} s h) = (let few = contents_short s in let long : 2 ^ 32 ≤ length w = h w s in omega arith)
  too_long_never (body {c} has too) = (let long = too.long too.word too.spelled in let few = body_most m c has too.word too.spelled in omega arith)
  too_long_never (custom {c} has too) =
      let long = too.long too.word too.spelled in
      let few = name_short too.spelled in
      let sum = length-append too.word c.bytes in
      let here = weighs_within custom_weight m.customs has.0 c has.1 has.2 in
      omega arith

  pub first_never : (id : ℕ) → IsFirstTooLong m id → ⊥
  first_never id too = too_long_never too.long
