-- The modules of the set are valid.
use Rattle.std.proofs.Common.{◌≡◌, ℕ, Bool, true, false, List, [], ◌∷◌, ◌++◌, cond, Option, Some, None, refl, sym, ap, ◌∙◌}
use Rattle.std.specs.Prelude.{codes, is_some}
use Rattle.std.specs.List.{list_all}
use Rattle.std.proofs.lemmas.Bool.{and_parts}
use Rattle.wasm_form.specs.declared.types.ValType.TheVariants.{I32}
use Rattle.wasm_form.specs.declared.instr.Instr.{Instr, Index, I32Const, out-Instr, out-roll-Instr}
use Rattle.wasm_form.specs.declared.instr.Instr.TheOpen as Open
use Rattle.wasm_form.specs.declared.instr.Instr.TheVariants.{rolls-Index, rolls-I32Const}
use Rattle.wasm_form.specs.declared.module.ExportDesc.TheVariants as exported
use Rattle.wasm_form.specs.declared.module.Module.{Module}
use Rattle.spec_linking.specs.spec_binary.Options.{◌>>=◌}
use Rattle.spec_linking.specs.spec_binary.Counted.{after_step, is_one}
use Rattle.spec_linking.specs.spec_validation.Counted.{step_at, kind_of}
use Rattle.spec_linking.specs.spec_validation.Faults.{first_in, support_fault, module_fault, body_typed, body_context, fault, may_be_constant, constant_context}
use Rattle.spec_linking.specs.spec_validation.Typing.{height}
use Rattle.spec_linking.proofs.of_spec_validation.Constants.{constant_is_counted}
use Rattle.dyl_gen.specs.Generated as made
use Rattle.dyl_gen.specs.Generated.{is_main, next, function_name, value_name, base, number, code_of, function_code, relocation_code, constructor_code, start_code, member}
use Rattle.dyl_gen.proofs.Typed.{HasShared, function_height, relocation_height, constructor_height, start_height}
use Rattle.dyl_gen.proofs.Supported.{function_supported, relocation_supported, constructor_supported, start_supported}

-- a member whose next one is x, by whether it is the main module
abbrev pub member_by : Bool → ℕ → ℕ → ℕ → List ℕ → Module
member_by main n k x note = record (member n k note) {
  types = made.no_numbers ∷ made.one_number ∷ cond main (made.four_numbers ∷ []) [];
  imports = made.shared_imports ++ (made.cell_imports x ++ cond main (made.main_imports x) []);
  funcs = 1 ∷ 0 ∷ 0 ∷ cond main (0 ∷ []) [];
  exports =
      made.export_of (function_name k) (exported.Func (cond main 2 0)) ∷ made.export_of (value_name k) (exported.Global 3)
      ∷ made.export_of (codes "__wasm_apply_data_relocs") (exported.Func (cond main 3 1)) ∷ made.export_of (codes "__wasm_call_ctors") (exported.Func (cond main 4 2))
      ∷ cond main (made.export_of (codes "_start") (exported.Func (cond main 5 3)) ∷ []) [];
  codes = code_of function_code ∷ code_of relocation_code ∷ code_of constructor_code ∷ cond main (code_of (start_code n) ∷ []) [];
}

-- ---- constants

out_index : (op k : ℕ) → out-Instr (Index op k) ≡ Open.Index op k
out_index op k = ap out-Instr (sym (rolls-Index op k)) ∙ out-roll-Instr (Open.Index op k)

out_number : (c : _) → out-Instr (I32Const c) ≡ Open.I32Const c
out_number c = ap out-Instr (sym (rolls-I32Const c)) ∙ out-roll-Instr (Open.I32Const c)

counted : (o : Option ℕ) → is_one o ≡ true → is_one (o >>= λ n. Some n) ≡ true
counted None e = absurd cc
counted (Some n) e = e

-- an instruction that puts a number is a constant expression
one_height : (m : Module) (i : Instr) → is_one (after_step (step_at I32 (kind_of m (out-Instr i))) 0) ≡ true
    → is_some (height (constant_context m I32) (i ∷ [])) ≡ true
one_height m i e =
    let all = list_all (λ j. may_be_constant m (out-Instr j)) (i ∷ []) in
    (and_parts all (is_some (height (constant_context m I32) (i ∷ []))) (constant_is_counted m I32 (record { list = i ∷ [] }) ∙ counted (after_step (step_at I32 (kind_of m (out-Instr i))) 0) e)).1

number_height : (m : Module) → is_some (height (constant_context m I32) (made.number 0 ∷ [])) ≡ true
number_height m = one_height m (made.number 0) (ap (λ j. is_one (after_step (step_at I32 (kind_of m j)) 0)) (out_number _))

module _ (n k x : ℕ) (note : List ℕ) where
  abbrev main : Module
  main = member_by true n k x note

  abbrev library : Module
  library = member_by false n k x note

  main_supports : support_fault main ≡ None
  main_supports = simp (function_supported main 0 refl, relocation_supported main 1, constructor_supported main 2, start_supported main 3 n)

  library_supports : support_fault library ≡ None
  library_supports = simp (function_supported library 0 refl, relocation_supported library 1, constructor_supported library 2)

  main_base : is_some (height (constant_context main I32) (base ∷ [])) ≡ true
  main_base = one_height main base (ap (λ j. is_one (after_step (step_at I32 (kind_of main j)) 0)) (out_index _ _))

  library_base : is_some (height (constant_context library I32) (base ∷ [])) ≡ true
  library_base = one_height library base (ap (λ j. is_one (after_step (step_at I32 (kind_of library j)) 0)) (out_index _ _))

  main_parts : module_fault main ≡ None
  main_parts = simp (out_index, out_number, number_height main, main_base)

  library_parts : module_fault library ≡ None
  library_parts = simp (out_index, out_number, number_height library, library_base)

  shared_by : (b : Bool) (f : _) (c : _) → HasShared (body_context (member_by b n k x note) f c)
  shared_by true f c = record { base = refl; value = refl; slot = refl; memory = refl }
  shared_by false f c = record { base = refl; value = refl; slot = refl; memory = refl }

  main_bodies : first_in (body_typed main) 0 main.codes ≡ None
  main_bodies =
      let one = function_height (body_context main made.one_number (code_of function_code)) (shared_by true made.one_number (code_of function_code)) refl refl refl refl in
      let two = relocation_height (body_context main made.no_numbers (code_of relocation_code)) (shared_by true made.no_numbers (code_of relocation_code)) refl in
      let three = constructor_height (body_context main made.no_numbers (code_of constructor_code)) (shared_by true made.no_numbers (code_of constructor_code)) refl in
      let four = start_height (body_context main made.no_numbers (code_of (start_code n))) (shared_by true made.no_numbers (code_of (start_code n))) n refl refl refl refl in
      simp (one, two, three, four)

  library_bodies : first_in (body_typed library) 0 library.codes ≡ None
  library_bodies =
      let one = function_height (body_context library made.one_number (code_of function_code)) (shared_by false made.one_number (code_of function_code)) refl refl refl refl in
      let two = relocation_height (body_context library made.no_numbers (code_of relocation_code)) (shared_by false made.no_numbers (code_of relocation_code)) refl in
      let three = constructor_height (body_context library made.no_numbers (code_of constructor_code)) (shared_by false made.no_numbers (code_of constructor_code)) refl in
      simp (one, two, three)

  valid_by : (b : Bool) → fault (member_by b n k x note) ≡ None
  valid_by true = simp (main_supports, main_parts, main_bodies)
  valid_by false = simp (library_supports, library_parts, library_bodies)

pub member_valid : (n k : ℕ) (note : List ℕ) → fault (member n k note) ≡ None
member_valid n k note = valid_by n k (next n k) note (is_main k)

pub further_valid : (note : List ℕ) → fault (made.further note) ≡ None
further_valid note = refl
