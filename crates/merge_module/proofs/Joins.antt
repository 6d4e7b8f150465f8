-- The merged module has the types, functions and bodies of the members, one after the other.
use Rattle.std.proofs.Common.{◌≡◌, ℕ, ◌+◌, ◌-◌, ◌<◌, ◌≤◌, Bool, true, false, length, slice_get, Option, Some, None, option_map, refl, sym, ap, ◌∙◌, subst, arith, if◌then◌else◌}
use Rattle.std.specs.Prelude.{is_some, IsTrue, nat_lt}
use Rattle.std.proofs.lemmas.Option.{slice_get_within}
use Rattle.spec_reading.specs.wasm_form.declared.types.FuncType.{FuncType}
use Rattle.spec_reading.specs.wasm_form.declared.module.Module.{Module}
use Rattle.spec_reading.specs.wasm_form.declared.runtime.LoaderCall.{LoaderCall}
use Rattle.spec_reading.specs.wasm_form.declared.runtime.Ref.{Ref}
use Rattle.spec_reading.specs.wasm_form.declared.runtime.Ref.TheVariants.{Own, Loader, Host, Stub}
use Rattle.spec_loading.specs.spec_runs.Systems.{only_if}
use Rattle.spec_reading.specs.spec_binary.Options.{◌>>=◌}
use Rattle.spec_reading.specs.spec_binary.Indices.{Function, function_type, function_at}
use Rattle.spec_reading.specs.spec_binary.IndexSpaces.{functions_in, imported_count}
use Rattle.spec_loading.specs.spec_runtime.Names.{HostName}
use Rattle.spec_loading.specs.spec_execution.Views.{View, loader_type, type_of}
use Rattle.spec_loading.specs.spec_execution.Ranges.{Exists}
use Rattle.spec_loading.specs.spec_execution.Instances.{module_view}
use Rattle.spec_loading.specs.spec_linking.Sets.{Member}
use Rattle.spec_loading.specs.spec_linking.Gathering.{IsSet}
use Rattle.spec_loading.specs.spec_linking.Imports.{importing}
use Rattle.spec_loading.specs.spec_linking.LinkedSets.{LinkedSet, wasm_of, hosts_of, set_hosts, ref_with, function_ref}
use Rattle.spec_loading.proofs.of_spec_safety.Lookups.{went_on}
use Rattle.spec_loading.specs.Members.{Store, stub_type, uses_loader, set_view}
use Rattle.spec_loading.specs.Addresses.{sum_before, item_address}
use Rattle.merge_match.specs.Renumbering.{reference}
use Rattle.merge_match.specs.Parts.{nowhere, number_of}
use Rattle.merge_match.specs.Following.{trapping}
use Rattle.merge_match.specs.Joined.{own_address, function_address, IsPlaced, IsJoined}
use Rattle.merge_index.specs.Numbering.{is_stub, stubs_below, stubs_before, first_stub, first_call, call_place, call_number, function_number}
use Rattle.merge_module.proofs.Known.{IsKnown}
use Rattle.merge_module.proofs.SetMembers.{is_sound}
use Rattle.merge_module.specs.MergedModule.{host_type_number}
use Rattle.merge_module.proofs.HostImports.{hosts_are}
use Rattle.merge_index.proofs.Counted.{few_bytes, few_hosts}
use Rattle.merge_module.proofs.MergedSpaces.{host_many, few_types, few_funcs, few_codes, no_function}
use Rattle.merge_module.proofs.HostTypes.{host_types, host_typed}
use Rattle.merge_module.proofs.References.{stub_there, IsDefined, defined_there, function_typed}
use Rattle.merge_module.proofs.OwnNumbers.{n, x, merged, own_typed, stub_typed, stub_at}
use Rattle.merge_module.proofs.LoaderFunctions.{call_there}

-- what has a type has been found
found_some : {A B : Type 0} (o : Option A) (f : A → Option B) → IsTrue (is_some (o >>= f)) → (a : A) × (o ≡ Some a) × IsTrue (is_some (f a))
found_some None f h = absurd (let q : false ≡ true = h in cc)
found_some (Some a) f h = (a, refl, h)

module _ (L : LinkedSet) (K : IsKnown L) where
  abbrev set : IsSet L.set
  set = K.set

  abbrev V : View Store
  V = set_view L

  abbrev h : ℕ
  h = length (hosts_of L)

  few_h : h ≤ 16777216
  few_h = (let few = few_hosts L set in let bytes = few_bytes L set in omega arith)

  -- a member's function that there is, is one that the member defines
  pub own_defined : (m g : ℕ) → Exists V (Own m g) → (w : Module) × (wasm_of L m ≡ Some w) × IsDefined w g
  own_defined m g exists =
      let y = found_some (wasm_of L m >>= λ w. function_at w g) (λ y. Some y.ty) exists in
      let w = went_on (wasm_of L m) (λ w. function_at w g) y.0 y.1 in
      (w.0, w.1, defined_there w.0 g y.0 w.2)

  host_there : (e : ℕ) → Exists V (Host e) → (k : HostName) × (slice_get (hosts_of L) e ≡ Some k) × (e < h)
  host_there e exists =
      let k = found_some (set_hosts L e) (λ k. Some k.ty) exists in
      (k.0, k.1, slice_get_within (hosts_of L) e k.0 k.1)

  member_of : (m : ℕ) (w : Module) → wasm_of L m ≡ Some w → (y : Member) × (slice_get L.set.members m ≡ Some y) × (y.wasm ≡ w)
  member_of m w e = (let y = went_on (slice_get L.set.members m) (λ y. Some y.wasm) w e in (y.0, y.1, (let q = y.2 in cc)))

  -- what a member names is there
  ref_exists : (m f : ℕ) (r : Ref) → function_ref L m f ≡ Some r → Exists V r
  ref_exists m f r e =
      let w = went_on (wasm_of L m) (λ wasm. function_type wasm f >>= λ ty. ref_with L m f (slice_get (importing functions_in wasm.imports) f) (Own m f)) r e in
      let member = member_of m w.0 w.1 in
      let ty = went_on (function_type w.0 f) (λ ty. ref_with L m f (slice_get (importing functions_in w.0.imports) f) (Own m f)) r w.2 in
      let has : function_type member.0.wasm f ≡ Some ty.0 = subst (λ (y : Module). function_type y f ≡ Some ty.0) (sym member.2) ty.1 in
      let typed = K.typed m f member.0 ty.0 member.1 has in
      let same : typed.0 ≡ r = (let q = sym typed.1 ∙ e in cc) in
      subst (Exists V) same (subst (λ (t : Option FuncType). IsTrue (is_some t)) (sym typed.2) refl)

  -- ---- past the imports

  own_past : (m g : ℕ) → h ≤ function_number L (Own m g)
  own_past m g = go (wasm_of L m)
    where
      items : (b : Bool) (start i : ℕ) → h ≤ start → h ≤ number_of (if b then Some (start + i) else None)
      items true start i le = omega arith
      items false start i le = (let few = few_h in omega arith)

      own : (b : Bool) (w : Module) → h ≤ number_of (if b then None else item_address (h + sum_before (λ y. length y.codes) L.set.members m) (length w.codes) (g - imported_count w))
      own true w = (let few = few_h in omega arith)
      own false w = items (nat_lt (g - imported_count w) (length w.codes)) (h + sum_before (λ y. length y.codes) L.set.members m) (g - imported_count w) (omega arith)

      go : (o : Option Module) → h ≤ number_of (o >>= λ w. own_address L h m w g)
      go None = (let few = few_h in omega arith)
      go (Some w) = own (nat_lt g (imported_count w)) w

  stub_past : (m f : ℕ) → h ≤ function_number L (Stub m f)
  stub_past m f = go (is_stub (function_ref L m f))
    where
      go : (b : Bool) → h ≤ number_of (if b then Some (first_stub L + stubs_before L m + length (stubs_below L m f)) else None)
      go true = omega arith
      go false = (let few = few_h in omega arith)

  loader_past : (call : LoaderCall) → h ≤ call_number L call
  loader_past call = go (uses_loader L)
    where
      go : (b : Bool) → h ≤ (if b then first_call L + call_place call else nowhere)
      go true = omega arith
      go false = (let few = few_h in omega arith)

  -- a function of the loader is there only where a member imports one
  used_loader : (call : LoaderCall) → Exists V (Loader call) → uses_loader L ≡ true
  used_loader call exists = go (uses_loader L) refl exists
    where
      go : (b : Bool) → uses_loader L ≡ b → IsTrue (is_some (only_if b (loader_type call))) → uses_loader L ≡ true
      go true q there = q
      go false q there = absurd (let no : false ≡ true = there in cc)

  placed : (m f : ℕ) (r : Ref) → function_ref L m f ≡ Some r → IsPlaced (n L set) (merged L set) r
  placed m f (Host e) q =
      let there = host_there e (ref_exists m f (Host e) q) in
      let many = host_many L (n L set) (x L set) in
      let lt = there.2 in
      omega arith
  placed m f (Own k g) q = (let many = host_many L (n L set) (x L set) in let past = own_past k g in omega arith)
  placed m f (Loader call) q = (let many = host_many L (n L set) (x L set) in let past = loader_past call in omega arith)
  placed m f (Stub k g) q = (let many = host_many L (n L set) (x L set) in let past = stub_past k g in omega arith)

  -- ---- types

  pub typed : (m f : ℕ) (r : Ref) → function_ref L m f ≡ Some r → (ty : FuncType) × (function_type (merged L set) (function_number L r) ≡ Some ty)
  typed m f (Host e) q =
      let there = host_there e (ref_exists m f (Host e) q) in
      (there.0.ty, host_typed L K (n L set) (x L set) e there.0 there.1)
  typed m f (Own k g) q =
      let there = own_defined k g (ref_exists m f (Own k g) q) in
      (there.2.ty, own_typed L set k g there.0 there.1 there.2)
  typed m f (Loader call) q =
      let there = call_there L set (used_loader call (ref_exists m f (Loader call) q)) call in
      (loader_type call, function_typed (merged L set) (call_number L call) _ there.code)
  typed m f (Stub a b) q =
      let there = stub_there L m f a b q in
      let member = member_of m there.1.wasm there.1.here in
      let same : function_number L (Stub m f) ≡ function_number L (Stub a b) = (let one = there.0.0 in let two = there.0.1 in cc) in
      (there.1.ty, ap (function_type (merged L set)) (sym same) ∙ stub_typed L set m f a b q there.1 member.0 member.1 member.2)

  -- ---- stubs

  stubs : (m f : ℕ) → function_at (merged L set) (function_number L (Stub m f)) ≡ option_map trapping (stub_type L m f)
  stubs m f = go (function_ref L m f) refl
    where
      nothing : is_stub (function_ref L m f) ≡ false → stub_type L m f ≡ None → function_at (merged L set) (function_number L (Stub m f)) ≡ option_map trapping (stub_type L m f)
      nothing q e = rw (q, e) (no_function L (n L set) (x L set) set)

      go : (o : Option Ref) → function_ref L m f ≡ o → function_at (merged L set) (function_number L (Stub m f)) ≡ option_map trapping (stub_type L m f)
      go None q = nothing (ap is_stub q) (rw q refl)
      go (Some (Own k g)) q = nothing (ap is_stub q) (rw q refl)
      go (Some (Loader call)) q = nothing (ap is_stub q) (rw q refl)
      go (Some (Host e)) q = nothing (ap is_stub q) (rw q refl)
      go (Some (Stub a b)) q =
          let there = stub_there L m f a b q in
          let member = member_of m there.1.wasm there.1.here in
          let ty : function_type there.1.wasm f ≡ Some there.1.ty = ap (λ (o : Option ℕ). o >>= slice_get there.1.wasm.types) there.1.space ∙ there.1.typed in
          let is : stub_type L m f ≡ Some there.1.ty = rw (q, there.1.here) ty in
          stub_at L set m f a b q there.1 member.0 member.1 member.2 ∙ ap (option_map trapping) (sym is)

  loader : (call : LoaderCall) → type_of (module_view (merged L set)) (reference (n L set) (Loader call)) ≡ type_of V (Loader call)
  loader call = go (uses_loader L) refl
    where
      go : (b : Bool) → uses_loader L ≡ b → type_of (module_view (merged L set)) (reference (n L set) (Loader call)) ≡ type_of V (Loader call)
      go true used = ap (λ (o : Option Function). o >>= λ y. Some y.ty) (call_there L set used call).code ∙ ap (λ c. only_if c (loader_type call)) (sym used)
      go false unused =
          ap (λ c. type_of (module_view (merged L set)) (Own 0 (if c then first_call L + call_place call else nowhere))) unused
          ∙ ap (λ (o : Option Function). o >>= λ y. Some y.ty) (no_function L (n L set) (x L set) set) ∙ ap (λ c. only_if c (loader_type call)) (sym unused)

  pub is_joined : IsJoined L (n L set) (merged L set)
  is_joined = record {
    more_types = _;
    types = refl;
    more_funcs = _;
    funcs = refl;
    more_codes = _;
    codes = refl;
    paired = λ m w e. sym (is_sound L m w set e).bodies;
    few_types = (let few = few_types L (n L set) (x L set) set in omega arith);
    few_functions = (let few = few_codes L (n L set) (x L set) set in let many = host_many L (n L set) (x L set) in let hosts = few_h in omega arith);
    few_funcs = (let few = few_funcs L (n L set) (x L set) set in let many = host_many L (n L set) (x L set) in let hosts = few_h in omega arith);
    type_numbers = λ m t. refl;
    function_numbers = λ m f. ap (λ k. number_of (function_address L k m f)) (sym (host_many L (n L set) (x L set)));
    named_numbers = λ m f. refl;
    globals = λ m g. refl;
    tables = λ m t. refl;
    elems = λ m e. refl;
    datas = λ m d. refl;
    placed = placed;
    typed = typed;
    stubs = stubs;
    loader = loader;
    hosts = λ e. ap (λ l. slice_get l e) (hosts_are (merged L set) (host_type_number L) 0 (hosts_of L) (host_types L K (n L set) (x L set)));
  }
