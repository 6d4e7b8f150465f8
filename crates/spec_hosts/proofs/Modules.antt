-- What is declared of a module after more was declared.
use Rattle.std.proofs.Common.{◌≡◌, ℕ, Bool, true, false, ◌||◌, ◌&&◌, cond, List, [], ◌∷◌, ◌++◌, Option, Some, None, is_some, unwrap_or, option_map, refl, sym, ap, subst, ◌∙◌, true≢false}
use Rattle.std.specs.Map.{lookup}
use Rattle.std.specs.Option.{option_or}
use Rattle.std.specs.Str.{bytes_eq}
use Rattle.std.proofs.lemmas.Bool.{false_from_ne_true}
use Rattle.std.proofs.lemmas.Cmp.{nat_list_eq_equiv}
use Rattle.std.proofs.lemmas.Slice.Eq.{bytes_eq-Decides}
use Rattle.spec_runtime.specs.wasm_form.declared.types.FuncType.{FuncType}
use Rattle.spec_runtime.specs.Names.{HostModule, HostName, HostNames, empty_module, host_module, change_module, declares, with_function, with_name, with_names}
use Rattle.spec_hosts.specs.Laws.{host_called}

-- what is declared of the module of this name, in a list of them
abbrev pub module_of : List ℕ → List (List ℕ × HostModule) → HostModule
module_of from ms = unwrap_or (lookup (bytes_eq from) ms) empty_module

-- a function of a choice is the choice of its values
pub through : {A B : Type 0} (f : A → B) (b : Bool) (x y : A) → f (cond b x y) ≡ cond b (f x) (f y)
through f true x y = refl
through f false x y = refl

-- the three tests tell whether the first module is changed, whether it is looked up, and whether the changed one is looked up
first_changed : (changed looked same : Bool) (change : HostModule → HostModule) (m : HostModule) (found after : Option HostModule)
    → (changed ≡ true → same ≡ looked) → (changed ≡ false → looked ≡ true → same ≡ false)
    → unwrap_or after empty_module ≡ cond same (change (unwrap_or found empty_module)) (unwrap_or found empty_module)
    → cond changed (unwrap_or (cond looked (Some (change m)) found) empty_module) (unwrap_or (cond looked (Some m) after) empty_module)
    ≡ cond same (change (unwrap_or (cond looked (Some m) found) empty_module)) (unwrap_or (cond looked (Some m) found) empty_module)
first_changed true true true change m found after one other rest = refl
first_changed true true false change m found after one other rest = absurd (true≢false (sym (one refl)))
first_changed true false true change m found after one other rest = absurd (true≢false (one refl))
first_changed true false false change m found after one other rest = refl
first_changed false true true change m found after one other rest = absurd (true≢false (other refl refl))
first_changed false true false change m found after one other rest = refl
first_changed false false same change m found after one other rest = rest

-- a change is seen at its name alone
module_changed : (change : HostModule → HostModule) (from at : List ℕ) (ms : List (List ℕ × HostModule))
    → module_of from (change_module change at ms) ≡ cond (bytes_eq from at) (change (module_of from ms)) (module_of from ms)
module_changed change from at [] = through (λ found. unwrap_or found empty_module) (bytes_eq from at) (Some (change empty_module)) None
module_changed change from at (m ∷ ms) =
    through (module_of from) (bytes_eq at m.0) ((m.0, change m.1) ∷ ms) (m ∷ change_module change at ms)
    ∙ first_changed (bytes_eq at m.0) (bytes_eq from m.0) (bytes_eq from at) change m.1 (lookup (bytes_eq from) ms) (lookup (bytes_eq from) (change_module change at ms))
    (λ e. ap (bytes_eq from) ((bytes_eq-Decides at m.0).0 e))
    (λ e l. false_from_ne_true (bytes_eq from at) (λ s. true≢false (sym ((bytes_eq-Decides at m.0).1 (sym ((bytes_eq-Decides from at).0 s) ∙ (bytes_eq-Decides from m.0).0 l)) ∙ e)))
    (module_changed change from at ms)

pub module_with_name : (names : HostNames) (h : HostName) (from : List ℕ)
    → host_module (with_name names h) from ≡ cond (bytes_eq from h.module_name) (with_function h.name h.ty (host_module names from)) (host_module names from)
module_with_name names h from = module_changed (with_function h.name h.ty) from h.module_name names.modules

-- ---- a module of which every name is declared stays

stays_by : (b : Bool) (name : List ℕ) (ty : FuncType) (m : HostModule) → m.rest ≡ true → cond b (with_function name ty m) m ≡ m
stays_by true name ty m all = ap (λ r. cond (r || is_some (lookup (bytes_eq name) m.functions)) m (record m { functions = m.functions ++ (name, ty) ∷ [] })) all
stays_by false name ty m all = refl

pub whole_stays : (hs : List HostName) (names : HostNames) (from : List ℕ) → (host_module names from).rest ≡ true → host_module (with_names names hs) from ≡ host_module names from
whole_stays [] names from all = refl
whole_stays (h ∷ hs) names from all =
    let one : host_module (with_name names h) from ≡ host_module names from = module_with_name names h from ∙ stays_by (bytes_eq from h.module_name) h.name h.ty (host_module names from) all in
    whole_stays hs (with_name names h) from (ap (λ m. m.rest) one ∙ all) ∙ one

-- ---- a name of a module of which not every name is declared: the first declaration of it stays

or_none : {A : Type 0} (o : Option A) → option_or o None ≡ o
or_none None = refl
or_none (Some x) = refl

pushed : (name at : List ℕ) (ty : FuncType) (fs : List (List ℕ × FuncType)) → lookup (bytes_eq name) (fs ++ (at, ty) ∷ []) ≡ option_or (lookup (bytes_eq name) fs) (cond (bytes_eq at name) (Some ty) None)
pushed name at ty [] = ap (λ b. cond b (Some ty) None) (nat_list_eq_equiv.symm name at)
pushed name at ty (f ∷ fs) =
    ap (cond (bytes_eq name f.0) (Some f.1)) (pushed name at ty fs)
    ∙ sym (through (λ o. option_or o (cond (bytes_eq at name) (Some ty) None)) (bytes_eq name f.0) (Some f.1) (lookup (bytes_eq name) fs))

kept : (b : Bool) (found : Option FuncType) (ty : FuncType) → (b ≡ true → is_some found ≡ true) → found ≡ option_or found (cond b (Some ty) None)
kept b (Some x) ty there = refl
kept true None ty there = absurd (true≢false (sym (there refl)))
kept false None ty there = refl

with_found : (name at : List ℕ) (ty : FuncType) (m : HostModule) → m.rest ≡ false
    → lookup (bytes_eq name) (with_function at ty m).functions ≡ option_or (lookup (bytes_eq name) m.functions) (cond (bytes_eq at name) (Some ty) None)
with_found name at ty m none =
    ap (λ r. lookup (bytes_eq name) (cond (r || there) m longer).functions) none ∙ by there refl
  where
    there : Bool
    there = is_some (lookup (bytes_eq at) m.functions)

    longer : HostModule
    longer = record m { functions = m.functions ++ (at, ty) ∷ [] }

    by : (b : Bool) → is_some (lookup (bytes_eq at) m.functions) ≡ b → lookup (bytes_eq name) (cond b m longer).functions ≡ option_or (lookup (bytes_eq name) m.functions) (cond (bytes_eq at name) (Some ty) None)
    by true e = kept (bytes_eq at name) (lookup (bytes_eq name) m.functions) ty (λ s. subst (λ n. is_some (lookup (bytes_eq n) m.functions) ≡ true) ((bytes_eq-Decides at name).0 s) e)
    by false e = pushed name at ty m.functions

with_rest_same : (b : Bool) (at : List ℕ) (ty : FuncType) (m : HostModule) → (cond b (with_function at ty m) m).rest ≡ m.rest
with_rest_same true at ty m = either (declares at m)
  where
    either : (b : Bool) → (cond b m (record m { functions = m.functions ++ (at, ty) ∷ [] })).rest ≡ m.rest
    either true = refl
    either false = refl
with_rest_same false at ty m = refl

one_found : (b : Bool) (name at : List ℕ) (ty : FuncType) (m : HostModule) → m.rest ≡ false
    → lookup (bytes_eq name) (cond b (with_function at ty m) m).functions ≡ option_or (lookup (bytes_eq name) m.functions) (cond (b && bytes_eq at name) (Some ty) None)
one_found true name at ty m none = with_found name at ty m none
one_found false name at ty m none = sym (or_none (lookup (bytes_eq name) m.functions))

joined : (found : Option FuncType) (b : Bool) (h : HostName) (later : Option HostName)
    → option_or (option_or found (cond b (Some h.ty) None)) (option_map (λ h. h.ty) later) ≡ option_or found (option_map (λ h. h.ty) (cond b (Some h) later))
joined (Some ty) b h later = refl
joined None true h later = refl
joined None false h later = refl

-- a name has the type of its first declaration
pub first_stays : (hs : List HostName) (names : HostNames) (from name : List ℕ) → (host_module names from).rest ≡ false
    → (lookup (bytes_eq name) (host_module (with_names names hs) from).functions ≡ option_or (lookup (bytes_eq name) (host_module names from).functions) (option_map (λ h. h.ty) (host_called from name hs)))
    × ((host_module (with_names names hs) from).rest ≡ false)
first_stays [] names from name none = (sym (or_none (lookup (bytes_eq name) (host_module names from).functions)), none)
first_stays (h ∷ hs) names from name none =
    let m : HostModule = host_module names from in
    let one : host_module (with_name names h) from ≡ cond (bytes_eq from h.module_name) (with_function h.name h.ty m) m = module_with_name names h from in
    let rest = first_stays hs (with_name names h) from name (ap (λ m. m.rest) one ∙ with_rest_same (bytes_eq from h.module_name) h.name h.ty m ∙ none) in
    let found : lookup (bytes_eq name) (host_module (with_name names h) from).functions ≡ option_or (lookup (bytes_eq name) m.functions) (cond (bytes_eq h.module_name from && bytes_eq h.name name) (Some h.ty) None) =
    ap (λ m. lookup (bytes_eq name) m.functions) one
    ∙ one_found (bytes_eq from h.module_name) name h.name h.ty m none
    ∙ ap (λ b. option_or (lookup (bytes_eq name) m.functions) (cond (b && bytes_eq h.name name) (Some h.ty) None)) (nat_list_eq_equiv.symm from h.module_name)
    in (
      rest.0 ∙ ap (λ o. option_or o (option_map (λ h. h.ty) (host_called from name hs))) found
          ∙ joined (lookup (bytes_eq name) m.functions) (bytes_eq h.module_name from && bytes_eq h.name name) h (host_called from name hs),
      rest.1,
    )
