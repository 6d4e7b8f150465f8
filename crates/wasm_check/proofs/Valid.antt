-- The types of functions of a module without a fault.
use Rattle.std.proofs.Common.{◌≡◌, ℕ, ◌<◌, Bool, true, false, List, length, get_or, refl, sym, ap, ◌∙◌, Some}
use Rattle.std.specs.Prelude.{slice_get, nat_lt}
use Rattle.std.specs.List.{list_all}
use Rattle.std.proofs.lemmas.Bool.{ltb-true}
use Rattle.std.proofs.lemmas.List.Folds.{list_all_at}
use Rattle.std.proofs.lemmas.Option.{slice_get-get_or}
use Rattle.wasm_form.specs.declared.types.FuncType.{FuncType}
use Rattle.wasm_form.specs.declared.module.Module.{Module}
use Rattle.spec_execution.specs.spec_binary.IndexSpaces.{function_space}
use Rattle.spec_execution.specs.spec_validation.Faults.{is_type}
use Rattle.spec_execution.specs.spec_binary.Indices.{function_type}
use Rattle.spec_execution.proofs.of_spec_validation.Parts.{parts_fit, function_types}
use Rattle.wasm_check.specs.Heights.{IsChecked}

all_at : {A : Type 0} (p : A → Bool) (xs : List A) (i : ℕ) (d : A) → i < length xs → list_all p xs ≡ true → p (get_or xs i d) ≡ true
all_at p xs i d lt all = go (p (get_or xs i d)) refl
  where
    go : (b : Bool) → p (get_or xs i d) ≡ b → p (get_or xs i d) ≡ true
    go true e = e
    go false e = absurd (let h = list_all_at p xs i d lt e in cc)

-- the type of a function, where the functions are kept by the numbers of their types
module _ (m now : Module) (functions heights : List ℕ) (f n : ℕ) (checked : IsChecked m functions heights) (view : m ≡ now)
    (inside : f < length (function_space now)) (is : n ≡ get_or functions f n) where
  within : f < length functions
  within = rw (checked.space, view) inside

  pub type_number : n < length m.types
  type_number =
      let all : list_all (is_type m) functions ≡ true = rw checked.space (function_types m (parts_fit m checked.valid)) in
      let low : nat_lt n (length m.types) ≡ true = ap (is_type m) is ∙ all_at (is_type m) functions f n within all in
      ltb-true n (length m.types) low

  pub type_found : (types : List FuncType) (ty : FuncType) → types ≡ m.types → ty ≡ get_or types n ty → Some ty ≡ function_type now f
  type_found types ty same found =
      let one : slice_get (function_space m) f ≡ Some n = rw (← checked.space)
      (slice_get-get_or functions f n within ∙ ap (λ (k : ℕ). Some k) (sym is)) in
      let two : slice_get m.types n ≡ Some ty = rw (← same)
      (slice_get-get_or types n ty (rw same type_number) ∙ ap (λ (x : FuncType). Some x) (sym found)) in
      rw (← view, one, two) refl
