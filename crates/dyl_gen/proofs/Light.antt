-- There is little to write of the modules of the set.
use Rattle.std.proofs.Common.{◌≡◌, ℕ, ◌<◌, ◌≤◌, List, [], ◌∷◌, Bool, true, false, cond, length, arith}
use Rattle.std.specs.Prelude.{codes}
use Rattle.wasm_form.specs.declared.module.ExportDesc.TheVariants as exported
use Rattle.wasm_encode.specs.Weight.{sum_of, type_weight, import_weight, export_weight, code_weight, units_of, weight}
use Rattle.wasm_encode.proofs.Units.{units-Index, units-I32Const}
use Rattle.dyl_gen.specs.Generated as made
use Rattle.dyl_gen.specs.Generated.{is_main, main_alone, base, number, code_of, start_code}
use Rattle.dyl_gen.proofs.MemberNames.{function_short, value_short}
use Rattle.dyl_gen.proofs.Records.{next_below}
use Rattle.dyl_gen.proofs.Forms.{function_units, relocation_units, constructor_units, start_units}

main_light : {A : Type 0} (of : A → ℕ) (k : ℕ) (xs : List A) → sum_of of (main_alone k xs) ≤ sum_of of xs
main_light of k xs = by (is_main k)
  where
    by : (b : Bool) → sum_of of (cond b xs []) ≤ sum_of of xs
    by true = omega arith
    by false = omega arith

main_few : {A : Type 0} (k : ℕ) (xs : List A) → length (main_alone k xs) ≤ length xs
main_few k xs = by (is_main k)
  where
    by : (b : Bool) → length (cond b xs []) ≤ length xs
    by true = omega arith
    by false = omega arith

base_one : units_of (base ∷ []) ≡ 1
base_one = simp (units-Index)

number_one : (c : ℕ) → units_of (number c ∷ []) ≡ 1
number_one c = simp (units-I32Const)

pub member_light : (n k : ℕ) (note : List ℕ) → k < n → n ≤ 255 → length note ≤ 200 → weight (made.member n k note) ≤ 496
member_light n k note lt few short =
    let x = made.next n k in
    let below = next_below n k lt in
    let function = function_short x (omega arith) in
    let value = value_short x (omega arith) in
    let own_function = function_short k (omega arith) in
    let own_value = value_short k (omega arith) in
    let types = main_light type_weight k (made.four_numbers ∷ []) in
    let imports = main_light import_weight k (made.main_imports x) in
    let funcs = main_few {A = ℕ} k (0 ∷ []) in
    let exports = main_light export_weight k (made.export_of (codes "_start") (exported.Func (made.own k 3)) ∷ []) in
    let bodies = main_light code_weight k (code_of (start_code n) ∷ []) in
    let a = function_units in
    let b = relocation_units in
    let c = constructor_units in
    let d = start_units n in
    let e = base_one in
    let f = number_one 0 in
    omega arith

pub further_light : (note : List ℕ) → length note ≤ 200 → weight (made.further note) ≤ 496
further_light note short = omega arith
