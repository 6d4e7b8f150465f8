-- Each host function of a set that links is declared with its type.
use Rattle.std.proofs.Common.{◌≡◌, ℕ, zero, suc, ◌+◌, Bool, true, false, cond, List, [], ◌∷◌, ◌++◌, Option, Some, None, refl, subst, slice_get}
use Rattle.std.specs.Prelude.{nat_eq, length}
use Rattle.std.specs.List.{All, list_any, flat_map}
use Rattle.std.specs.Cmp.Lexicographic.{pointwise}
use Rattle.std.proofs.lemmas.Bool.{and_from}
use Rattle.std.proofs.lemmas.List.Elements.{All-nil, All-cons, All-head, All-tail, All-append}
use Rattle.wasm_form.specs.declared.types.ValType.{ValType}
use Rattle.wasm_form.specs.declared.types.ValType.TheVariants.{I32}
use Rattle.wasm_form.specs.declared.types.FuncType.{FuncType}
use Rattle.wasm_form.specs.declared.module.Import.{Import}
use Rattle.wasm_form.specs.declared.module.Module.{Module}
use Rattle.spec_loading.specs.spec_binary.Exports.{relocations_name, constructors_name}
use Rattle.spec_loading.specs.spec_binary.SameTypes.{same_type, same_function_type}
use Rattle.spec_loading.specs.spec_runtime.Names.{HostName, HostMatch, Unknown, Fits, OtherType, host_match, host_typed}
use Rattle.spec_loading.specs.spec_linking.declared.fault.Kind.TheVariants as kind
use Rattle.spec_loading.specs.spec_linking.declared.fault.LinkFault.TheVariants.{OwnMemory, IllTyped}
use Rattle.spec_loading.specs.spec_linking.Sets.{Member}
use Rattle.spec_loading.specs.spec_linking.Definitions.{Definition, LoaderFunction, HeapBase, HeapEnd, MemberFunction, MemberData, HostFunction, WeakSymbol, Undefined, env_name}
use Rattle.spec_loading.specs.spec_linking.Imports.{ImportUse, SlotCell, EnvFunction, ModuleFunction, use_of}
use Rattle.spec_loading.specs.spec_linking.LinkedSets.{LinkedSet, definition, is_declared, host_named, where_declared, host_defined, host_as, host_of_import, hosts_from, is_same_name, first_names, hosts_of}
use Rattle.spec_loading.specs.spec_linking.Links.{has_first_type, covers, where_fits, is_host_type, unless, ◌or_else◌, first_fault, function_fault, match_fault, fault_as, import_fault, tls_fault, loader_call_fault, member_fault, members_fault, duplicate_fault, fault_without, set_entry, limit_fault, Links}
use Rattle.spec_loading.proofs.of_spec_linking.LinkedFacts.{or_none, holds_so}

-- ---- types that are the same

itself : (ts : List ValType) → pointwise same_type ts ts ≡ true
itself [] = refl
itself (t ∷ ts) = and_from (same_type t t) (pointwise same_type ts ts) (one t) (itself ts)
  where
    one : (t : ValType) → same_type t t ≡ true
    one I32 = refl
    one _ = refl

same_itself : (ty : FuncType) → same_function_type ty ty ≡ true
same_itself ty = and_from (pointwise same_type ty.params ty.params) (pointwise same_type ty.results ty.results) (itself ty.params) (itself ty.results)

-- ---- the first of each name

module _ {X : Type 0} (P : X → Type 0) where
  pub each_at : (xs : List X) (k : ℕ) (x : X) → All P xs → slice_get xs k ≡ Some x → P x
  each_at [] k x all at = absurd cc
  each_at (y ∷ ys) zero x all at = let same : y ≡ x = cc in subst P same (All-head P y ys all)
  each_at (y ∷ ys) (suc k) x all at = each_at ys k x (All-tail P y ys all) at

all_first : (P : HostName → Type 0) (known hs : List HostName) → All P hs → All P (first_names known hs)
all_first P known [] all = All-nil P
all_first P known (h ∷ hs) all = by (list_any (is_same_name h) known) (all_first P known hs (All-tail P h hs all)) (all_first P (known ++ h ∷ []) hs (All-tail P h hs all))
  where
    by : (b : Bool) → All P (first_names known hs) → All P (first_names (known ++ h ∷ []) hs) → All P (cond b (first_names known hs) (h ∷ first_names (known ++ h ∷ []) hs))
    by true old new = old
    by false old new = All-cons P h (first_names (known ++ h ∷ []) hs) (All-head P h hs all) new

module _ (L : LinkedSet) where
  -- a host function is declared with its type
  abbrev pub IsDeclared : HostName → Type 0
  IsDeclared h = host_match L.names h.module_name h.name h.ty ≡ Fits

  -- ---- one import

  covered : (from name : List ℕ) (wanted : Option FuncType) → covers L.names from name wanted ≡ Fits → All IsDeclared (host_named from name wanted)
  covered from name None fits = absurd cc
  covered from name (Some ty) fits = All-cons IsDeclared (record { module_name = from; name = name; ty = ty }) [] fits (All-nil IsDeclared)

  fits_so : (first : Bool) (m : HostMatch) → where_fits first m ≡ true → m ≡ Fits
  fits_so first Unknown e = absurd cc
  fits_so first Fits e = refl
  fits_so first OtherType e = absurd cc

  matched_so : (m : ℕ) (name : List ℕ) (first : Bool) (found : HostMatch) → match_fault m name first found ≡ None → found ≡ Fits
  matched_so m name first Unknown e = absurd cc
  matched_so m name first Fits e = refl
  matched_so m name first OtherType e = absurd cc

  -- a name of `env` that is declared with its type
  typed_declared : (name : List ℕ) (o : Option FuncType) → host_typed L.names env_name name ≡ o → All IsDeclared (host_named env_name name o)
  typed_declared name None e = All-nil IsDeclared
  typed_declared name (Some ty) e = All-cons IsDeclared (record { module_name = env_name; name = name; ty = ty }) [] fits (All-nil IsDeclared)
    where
      fits : host_match L.names env_name name ty ≡ Fits
      fits = rw (e, same_itself ty) refl

  function_declared : (m : ℕ) (name : List ℕ) (wanted : Option FuncType) (d : Definition) → function_fault L m name wanted d ≡ None → All IsDeclared (host_defined d (host_named env_name name wanted))
  function_declared m name wanted HostFunction none =
      let so = holds_so (is_host_type L env_name name wanted) (IllTyped m kind.Function name) none in
      covered env_name name wanted (fits_so (has_first_type L env_name name wanted) (covers L.names env_name name wanted) so)
  function_declared m name wanted (LoaderFunction call) none = All-nil IsDeclared
  function_declared m name wanted HeapBase none = All-nil IsDeclared
  function_declared m name wanted HeapEnd none = All-nil IsDeclared
  function_declared m name wanted (MemberFunction k g) none = All-nil IsDeclared
  function_declared m name wanted (MemberData k place) none = All-nil IsDeclared
  function_declared m name wanted WeakSymbol none = All-nil IsDeclared
  function_declared m name wanted Undefined none = All-nil IsDeclared

  slot_declared : (name : List ℕ) (d : Definition) → All IsDeclared (host_defined d (host_named env_name name (host_typed L.names env_name name)))
  slot_declared name HostFunction = typed_declared name (host_typed L.names env_name name) refl
  slot_declared name (LoaderFunction call) = All-nil IsDeclared
  slot_declared name HeapBase = All-nil IsDeclared
  slot_declared name HeapEnd = All-nil IsDeclared
  slot_declared name (MemberFunction k g) = All-nil IsDeclared
  slot_declared name (MemberData k place) = All-nil IsDeclared
  slot_declared name WeakSymbol = All-nil IsDeclared
  slot_declared name Undefined = All-nil IsDeclared

  where_so : (b : Bool) (hs : List HostName) → All IsDeclared hs → All IsDeclared (where_declared b hs)
  where_so true hs all = all
  where_so false hs all = All-nil IsDeclared

  as_declared : (m : ℕ) (wasm : Module) (i : Import) (u : ImportUse) → fault_as L m wasm i u ≡ None → All IsDeclared (host_as L m wasm i u)
  as_declared m wasm i (EnvFunction t) none = function_declared m i.field (slice_get wasm.types t) (definition L m kind.Function i.field) none
  as_declared m wasm i (ModuleFunction t) none =
      let fits = matched_so m i.field (has_first_type L i.module i.field (slice_get wasm.types t)) (covers L.names i.module i.field (slice_get wasm.types t)) none in
      where_so (is_declared L.names i.module i.field) (host_named i.module i.field (slice_get wasm.types t)) (covered i.module i.field (slice_get wasm.types t) fits)
  as_declared m wasm i SlotCell none = slot_declared i.field (definition L m kind.Func i.field)
  as_declared m wasm i _ none = All-nil IsDeclared

  -- ---- all imports of all members

  imports_declared : (m : ℕ) (wasm : Module) (is : List Import) → first_fault (import_fault L m wasm) is ≡ None → All IsDeclared (flat_map (host_of_import L m wasm) is)
  imports_declared m wasm [] none = All-nil IsDeclared
  imports_declared m wasm (i ∷ is) none =
      let both = or_none (import_fault L m wasm i) (first_fault (import_fault L m wasm) is) none in
      All-append IsDeclared (host_of_import L m wasm i) (flat_map (host_of_import L m wasm) is) (as_declared m wasm i (use_of i) both.0) (imports_declared m wasm is both.1)

  member_declared : (m : ℕ) (x : Member) → member_fault L m x ≡ None → All IsDeclared (flat_map (host_of_import L m x.wasm) x.wasm.imports)
  member_declared m x none =
      let imports = first_fault (import_fault L m x.wasm) x.wasm.imports in
      let constructors = loader_call_fault m x.wasm constructors_name in
      let relocations = loader_call_fault m x.wasm relocations_name in
      let exports = first_fault (tls_fault m) x.dylink.exports in
      let one = or_none (unless (nat_eq (length x.wasm.memories) 0) (OwnMemory m)) (exports or_else (relocations or_else (constructors or_else imports))) none in
      let two = or_none exports (relocations or_else (constructors or_else imports)) one.1 in
      let three = or_none relocations (constructors or_else imports) two.1 in
      let four = or_none constructors imports three.1 in
      imports_declared m x.wasm x.wasm.imports four.1

  members_declared : (m : ℕ) (xs : List Member) → members_fault L m xs ≡ None → All IsDeclared (hosts_from L m xs)
  members_declared m [] none = All-nil IsDeclared
  members_declared m (x ∷ xs) none =
      let both = or_none (member_fault L m x) (members_fault L (m + 1) xs) none in
      All-append IsDeclared (flat_map (host_of_import L m x.wasm) x.wasm.imports) (hosts_from L (m + 1) xs) (member_declared m x both.0) (members_declared (m + 1) xs both.1)

  pub set_declared : Links L → All IsDeclared (hosts_of L)
  set_declared links =
      let none = (or_none (members_fault L 0 L.set.members) (duplicate_fault L or_else (fault_without (set_entry L.set.members) or_else limit_fault L)) links).0 in
      all_first IsDeclared [] (hosts_from L 0 L.set.members) (members_declared 0 L.set.members none)
