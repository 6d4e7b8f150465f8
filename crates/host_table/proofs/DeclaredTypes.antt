-- Where each function is declared with integers alone, what is declared has integers alone.
use Rattle.std.proofs.Common.{◌≡◌, ℕ, Bool, true, false, cond, List, [], ◌∷◌, Option, Some, None, IfSome, unwrap_or, IsTrue, refl, sym, subst}
use Rattle.std.specs.List.{list_all}
use Rattle.std.specs.Map.{lookup}
use Rattle.std.specs.Str.{bytes_eq}
use Rattle.std.proofs.lemmas.Bool.{and_from, and_parts}
use Rattle.std.proofs.lemmas.List.Elements.{All-nil}
use Rattle.std.proofs.lemmas.Map.Entries.{All-lookup}
use Rattle.spec_runtime.specs.wasm_form.declared.types.ValType.TheVariants.{I32}
use Rattle.spec_runtime.specs.wasm_form.declared.types.FuncType.{FuncType}
use Rattle.spec_runtime.specs.spec_binary.SameTypes.{same_function_type}
use Rattle.spec_runtime.specs.Names.{HostModule, HostNames, Unknown, Fits, OtherType, empty_module, host_module, module_match, is_integer, has_integers, is_one_i32, is_rest_type}
use Rattle.spec_runtime.proofs.of_spec_binary.OneType.{same_types, one_function_type}
use Rattle.host_table.specs.Names.{TypesHaveIntegers, ModulesHaveIntegers, HaveIntegers}

fits_if : (b : Bool) → cond b Fits OtherType ≡ Fits → b ≡ true
fits_if true e = refl
fits_if false e = absurd cc

fits_rest : (rest b : Bool) → cond rest (cond b Fits OtherType) Unknown ≡ Fits → b ≡ true
fits_rest true b e = fits_if b e
fits_rest false b e = absurd cc

-- a type for which the rest of a module is declared
rest_integers : (ty : FuncType) → is_rest_type ty ≡ true → IsTrue (has_integers ty)
rest_integers ty e =
    let both = and_parts (list_all is_integer ty.params) (is_one_i32 ty.results) e in
    let one = same_types ty.results (I32 ∷ []) both.1 in
    and_from (list_all is_integer ty.params) (list_all is_integer ty.results) both.0 (subst (λ ts. list_all is_integer ts ≡ true) (sym one) refl)

-- what is declared of one module
module_integers : (m : HostModule) (name : List ℕ) (ty : FuncType) → TypesHaveIntegers m.functions → module_match m name ty ≡ Fits → IsTrue (has_integers ty)
module_integers m name ty all fits = by (lookup (bytes_eq name) m.functions) refl (All-lookup (λ t. IsTrue (has_integers t)) (bytes_eq name) m.functions all)
  where
    by : (found : Option FuncType) → lookup (bytes_eq name) m.functions ≡ found → IfSome found (λ t. IsTrue (has_integers t)) → IsTrue (has_integers ty)
    by (Some declared) e integers = subst (λ t. IsTrue (has_integers t)) (one_function_type declared ty (fits_if (same_function_type declared ty) (rw (e, module_match) at fits))) integers
    by None e integers = rest_integers ty (fits_rest m.rest (is_rest_type ty) (rw (e, module_match) at fits))

-- what is declared of a module, which may be nothing
found_integers : (found : Option HostModule) → IfSome found (λ m. TypesHaveIntegers m.functions) → TypesHaveIntegers (unwrap_or found empty_module).functions
found_integers (Some m) all = all
found_integers None all = All-nil (λ e. IsTrue (has_integers e.1))

pub have_integers : (names : HostNames) → ModulesHaveIntegers names.modules → HaveIntegers names
have_integers names all from name ty fits =
    module_integers (host_module names from) name ty
    (found_integers (lookup (bytes_eq from) names.modules) (All-lookup (λ m. TypesHaveIntegers m.functions) (bytes_eq from) names.modules all)) fits
