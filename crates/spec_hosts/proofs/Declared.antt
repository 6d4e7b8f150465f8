-- The types of the names of a run: those of WASI, and those of a table.
use Rattle.std.proofs.Common.{◌≡◌, ℕ, Bool, true, false, cond, List, [], ◌∷◌, map, Option, Some, None, unwrap_or, option_map, IsTrue, IsSomeAnd, refl, sym, ap, ◌∙◌, subst, true≢false}
use Rattle.std.specs.Map.{lookup}
use Rattle.std.specs.Option.{option_or}
use Rattle.std.specs.Str.{bytes_eq}
use Rattle.spec_runtime.specs.wasm_form.declared.types.FuncType.{FuncType}
use Rattle.spec_runtime.specs.spec_binary.SameTypes.{same_function_type}
use Rattle.spec_runtime.specs.Names.{HostModule, HostName, Unknown, Fits, OtherType, no_names, empty_module, host_module, host_match, module_match, is_rest_type}
use Rattle.spec_hosts.specs.Calls.{WasiCall, wasi_name, name_of, type_of_call, all_calls, first_named, call_named, with_wasi}
use Rattle.spec_hosts.specs.Laws.{IsWasiType, run_names, host_called}
use Rattle.spec_runtime.proofs.of_spec_binary.OneType.{one_function_type}
use Rattle.spec_hosts.proofs.Modules.{through, whole_stays, first_stays}

-- ---- what a match tells

-- the type of a name that is declared with it, or of another name of a module of which every name is declared
abbrev HasType : Option FuncType → Bool → FuncType → Type 0
HasType (Some declared) rest ty = declared ≡ ty
HasType None rest ty = (rest ≡ true) × IsTrue (is_rest_type ty)

fits_if : (b : Bool) → cond b Fits OtherType ≡ Fits → b ≡ true
fits_if true e = refl
fits_if false e = absurd cc

fits_rest : (rest b : Bool) → cond rest (cond b Fits OtherType) Unknown ≡ Fits → (rest ≡ true) × (b ≡ true)
fits_rest true b e = (refl, fits_if b e)
fits_rest false b e = absurd cc

match_tells : (m : HostModule) (name : List ℕ) (ty : FuncType) → module_match m name ty ≡ Fits → HasType (lookup (bytes_eq name) m.functions) m.rest ty
match_tells m name ty fits = by (lookup (bytes_eq name) m.functions) refl
  where
    by : (found : Option FuncType) → lookup (bytes_eq name) m.functions ≡ found → HasType found m.rest ty
    by (Some declared) e = one_function_type declared ty (fits_if (same_function_type declared ty) (rw (e, module_match) at fits))
    by None e = fits_rest m.rest (is_rest_type ty) (rw (e, module_match) at fits)

-- ---- WASI

call_types : (name : List ℕ) (cs : List WasiCall) → lookup (bytes_eq name) (map (λ c. (name_of c, type_of_call c)) cs) ≡ option_map type_of_call (first_named name cs)
call_types name [] = refl
call_types name (c ∷ cs) = ap (cond (bytes_eq name (name_of c)) (Some (type_of_call c))) (call_types name cs) ∙ sym (through (option_map type_of_call) (bytes_eq name (name_of c)) (Some c) (first_named name cs))

wasi_module : (name : List ℕ) → lookup (bytes_eq name) (host_module (with_wasi no_names) wasi_name).functions ≡ option_map type_of_call (call_named name)
wasi_module name = call_types name all_calls

wasi_type : (name : List ℕ) (ty : FuncType) → HasType (option_map type_of_call (call_named name)) true ty → IsWasiType name ty
wasi_type name ty told = by (call_named name) refl
  where
    by : (found : Option WasiCall) → call_named name ≡ found → IsWasiType name ty
    by (Some c) e = rw (e, IsWasiType) (sym (rw e at told))
    by None e = rw (e, IsWasiType) (rw e at told).1

pub wasi_goes_first : (table : List HostName) (name : List ℕ) (ty : FuncType) → host_match (run_names table) wasi_name name ty ≡ Fits → IsWasiType name ty
wasi_goes_first table name ty fits =
    let whole : HostModule = host_module (with_wasi no_names) wasi_name in
    let same : host_module (run_names table) wasi_name ≡ whole = whole_stays table (with_wasi no_names) wasi_name refl in
    wasi_type name ty (subst (λ found. HasType found true ty) (wasi_module name) (match_tells whole name ty (ap (λ m. module_match m name ty) (sym same) ∙ fits)))

-- ---- a table

nothing_declared : (from : List ℕ) → bytes_eq from wasi_name ≡ false → host_module (with_wasi no_names) from ≡ empty_module
nothing_declared from other = ap (λ b. unwrap_or (cond b (Some (host_module (with_wasi no_names) wasi_name)) None) empty_module) other

table_type : (found : Option HostName) (ty : FuncType) → HasType (option_map (λ h. h.ty) found) false ty → IsSomeAnd found (λ h. h.ty ≡ ty)
table_type None ty told = absurd (true≢false (sym told.0))
table_type (Some h) ty told = told

pub others_are_of_the_table : (table : List HostName) (from name : List ℕ) (ty : FuncType)
    → bytes_eq from wasi_name ≡ false → host_match (run_names table) from name ty ≡ Fits → IsSomeAnd (host_called from name table) (λ h. h.ty ≡ ty)
others_are_of_the_table table from name ty other fits =
    let none : host_module (with_wasi no_names) from ≡ empty_module = nothing_declared from other in
    let told = first_stays table (with_wasi no_names) from name (ap (λ m. m.rest) none) in
    let m : HostModule = host_module (run_names table) from in
    let found : lookup (bytes_eq name) m.functions ≡ option_map (λ h. h.ty) (host_called from name table) =
    told.0 ∙ ap (λ (m : HostModule). option_or (lookup (bytes_eq name) m.functions) (option_map (λ h. h.ty) (host_called from name table))) none
    in
    table_type (host_called from name table) ty
    (subst (λ rest. HasType (option_map (λ h. h.ty) (host_called from name table)) rest ty) told.1 (subst (λ found. HasType found m.rest ty) found (match_tells m name ty fits)))
