-- What is kept of a member, and what its numbers lead to.
use Rattle.std.proofs.Common.{◌≡◌, ℕ, ◌+◌, ◌-◌, ◌<◌, List, length, map, get_or, Option, Some, None, Bool, true, false, refl, ap, sym, ◌∙◌, subst, arith}
use Rattle.std.specs.Prelude.{slice_get, is_some, IsTrue, IsSome, IfSome, nat_lt, unwrap_or, if◌then◌else◌}
use Rattle.std.proofs.lemmas.Option.{slice_get_read, slice_get_within, get_or_from_slice_get, slice_get-map, same_Some}
use Rattle.std.specs.Option.{option_map}
use Rattle.wasm_form.specs.declared.types.FuncType.{FuncType}
use Rattle.wasm_form.specs.declared.module.Code.{Code}
use Rattle.wasm_form.specs.declared.module.Module.{Module}
use Rattle.wasm_form.specs.declared.runtime.Ref.{Ref}
use Rattle.wasm_form.specs.declared.runtime.Ref.TheVariants.{Own, Loader, Host, Stub}
use Rattle.spec_loading.specs.spec_binary.Options.{◌>>=◌}
use Rattle.spec_loading.specs.spec_binary.IndexSpaces.{function_space, imported_count}
use Rattle.spec_loading.specs.spec_binary.Indices.{Function, function_with, function_type, function_at}
use Rattle.spec_loading.specs.spec_runtime.Names.{HostName}
use Rattle.spec_loading.specs.spec_execution.Views.{type_of}
use Rattle.spec_loading.specs.spec_execution.Limits.{room_with, room_of}
use Rattle.spec_loading.specs.spec_execution.Instances.{module_view, module_height, host_type}
use Rattle.spec_loading.specs.spec_safety.Laws.{AreThere}
use Rattle.spec_loading.specs.spec_linking.Sets.{Member}
use Rattle.spec_loading.specs.spec_linking.LinkedSets.{LinkedSet, wasm_of, function_ref, hosts_of}
use Rattle.spec_loading.specs.Addresses.{item_address, sum_before}
use Rattle.spec_loading.specs.Members.{set_instances, set_view, counts_of, where_stub}
use Rattle.dyl_link.specs.host_table.declared.host.HostName as declared
use Rattle.dyl_link.specs.host_table.Names.{host_name_of}
use Rattle.dyl_store.specs.declared.run_member.Unit.{Unit}
use Rattle.dyl_store.specs.Units.{IsMember, IsUnit, AreUnits}

-- ---- members

wasm_within : (xs : List Member) (m : ℕ) (o : Option Member) → slice_get xs m ≡ o → IsTrue (is_some (o >>= λ member. Some member.wasm)) → m < length xs
wasm_within xs m (Some x) e h = slice_get_within xs m x e
wasm_within xs m None e h = absurd cc

module _ (L now : LinkedSet) (units : List Unit) (are : AreUnits L units) (same : L ≡ now) (m : ℕ) (is : IsMember now m) where
  pub unit_within : m < length units
  unit_within =
      let here : IsMember L m = subst (λ (x : LinkedSet). IsMember x m) (sym same) is in
      subst (λ (n : ℕ). m < n) (sym are.count) (wasm_within L.set.members m (slice_get L.set.members m) refl here)

  pub unit_found : (u : Unit) → u ≡ get_or units m u → IsUnit now m u
  unit_found u read = subst (λ (x : LinkedSet). IsUnit x m u) same (are.each m u (slice_get_read units (length units) m u refl unit_within read))

-- a number in range is one of a member
pub counted_types : (o : Option Module) (n : ℕ) → n < (counts_of o).types → IsTrue (is_some o)
counted_types None n lt = absurd (omega arith)
counted_types (Some wasm) n lt = refl

pub counted_globals : (o : Option Module) (n : ℕ) → n < (counts_of o).globals → IsTrue (is_some o)
counted_globals None n lt = absurd (omega arith)
counted_globals (Some wasm) n lt = refl

pub counted_tables : (o : Option Module) (n : ℕ) → n < (counts_of o).tables → IsTrue (is_some o)
counted_tables None n lt = absurd (omega arith)
counted_tables (Some wasm) n lt = refl

pub counted_elems : (o : Option Module) (n : ℕ) → n < (counts_of o).elems → IsTrue (is_some o)
counted_elems None n lt = absurd (omega arith)
counted_elems (Some wasm) n lt = refl

pub counted_datas : (o : Option Module) (n : ℕ) → n < (counts_of o).datas → IsTrue (is_some o)
counted_datas None n lt = absurd (omega arith)
counted_datas (Some wasm) n lt = refl

-- what is found in a member is one's
pub found_in : {A : Type 0} (o : Option Module) (f : Module → Option A) → IsSome (o >>= f) → IsTrue (is_some o)
found_in None f h = absurd cc
found_in (Some wasm) f h = refl

-- ---- addresses

module _ {X : Type 0} (numbers : List ℕ) (n : ℕ) (o : Option ℕ) (xs : List X) (is : slice_get numbers n ≡ o) (place : (a : ℕ) × (o ≡ Some a) × (a < length xs)) where
  pub address_within : n < length numbers
  address_within = slice_get_within numbers n place.0 (is ∙ place.1)

  pub address_read : (a : ℕ) → a ≡ get_or numbers n a → (o ≡ Some a) × (a < length xs)
  address_read a read =
      let same : a ≡ place.0 = read ∙ get_or_from_slice_get numbers n place.0 a (is ∙ place.1) in
      (place.1 ∙ ap (λ (z : ℕ). Some z) (sym same), subst (λ (z : ℕ). z < length xs) (sym same) place.2)

item_is : (start count n a : ℕ) → item_address start count n ≡ Some a → start + n ≡ a
item_is start count n a e = go (nat_lt n count) e
  where
    go : (b : Bool) → (if b then Some (start + n) else None) ≡ Some a → start + n ≡ a
    go true e = same_Some (start + n) a e
    go false e = absurd cc

-- a segment, after the first one
module _ {X : Type 0} (o : Option Module) (wasm : Module) (is : o ≡ Some wasm) (start n : ℕ) (count : Module → ℕ) (xs : List X) (place : (a : ℕ) × ((o >>= λ w. item_address start (count w) n) ≡ Some a) × (a < length xs)) where
  at_address : start + n ≡ place.0
  at_address = item_is start (count wasm) n place.0 (ap (λ (x : Option Module). x >>= λ w. item_address start (count w) n) (sym is) ∙ place.1)

  pub segment_at : (first : ℕ) → first ≡ start → ((o >>= λ w. item_address start (count w) n) ≡ Some (first + n)) × (first + n < length xs)
  segment_at first same =
      let here : first + n ≡ place.0 = ap (λ (z : ℕ). z + n) same ∙ at_address in
      (place.1 ∙ ap (λ (z : ℕ). Some z) (sym here), subst (λ (z : ℕ). z < length xs) (sym here) place.2)

module _ (L : LinkedSet) (m : ℕ) (u : Unit) (is : IsUnit L m u) where
  pub global_kept : {X : Type 0} (g : ℕ) (xs : List X) → g < ((set_instances L).counts m).globals → (a : ℕ) × ((set_instances L).global_at m g ≡ Some a) × (a < length xs)
      → slice_get u.globals.items g ≡ (set_instances L).global_at m g
  global_kept g xs lt place =
      is.globals g place.0 (subst (λ (o : Option Module). g < (counts_of o).globals) is.member lt) place.1 ∙ sym place.1

  pub table_kept : {X : Type 0} (t : ℕ) (xs : List X) → t < ((set_instances L).counts m).tables → (a : ℕ) × ((set_instances L).table_at m t ≡ Some a) × (a < length xs)
      → slice_get u.tables.items t ≡ (set_instances L).table_at m t
  table_kept t xs lt place =
      is.tables t place.0 (subst (λ (o : Option Module). t < (counts_of o).tables) is.member lt) place.1 ∙ sym place.1

  pub first_elem_kept : (e : ℕ) → e < ((set_instances L).counts m).elems → u.first_elem ≡ sum_before (λ x. length x.elems) L.set.members m
  first_elem_kept e lt = is.first_elem (let some : e < length u.checked.now.elems = subst (λ (o : Option Module). e < (counts_of o).elems) is.member lt in omega arith)

  pub first_data_kept : (d : ℕ) → d < ((set_instances L).counts m).datas → u.first_data ≡ sum_before (λ x. length x.datas) L.set.members m
  first_data_kept d lt = is.first_data (let some : d < length u.checked.now.datas = subst (λ (o : Option Module). d < (counts_of o).datas) is.member lt in omega arith)

-- ---- functions

pub target_there : (L now : LinkedSet) → L ≡ now → AreThere (set_instances L) → (m f : ℕ) → f < ((set_instances now).counts m).functions → IsTrue (is_some (function_ref L m f))
target_there L now same there m f lt =
    let found = there.functions m f (subst (λ (x : LinkedSet). f < ((set_instances x).counts m).functions) (sym same) lt) in
    subst (λ (o : Option Ref). IsTrue (is_some o)) (sym found.1) refl

module _ (o : Option Module) (wasm : Module) (is : o ≡ Some wasm) (f : ℕ) where
  pub own_code : IsSome (o >>= λ w. function_at w f) → IsSome (function_at wasm f)
  own_code h = subst (λ (x : Option Module). IsSome (x >>= λ w. function_at w f)) is h

  pub own_locals : (locals : List _) → IfSome (function_at wasm f) (λ x. x.locals ≡ locals) → IfSome (o >>= λ w. function_at w f) (λ x. x.locals ≡ locals)
  own_locals locals h = subst (λ (x : Option Module). IfSome (x >>= λ w. function_at w f) (λ y. y.locals ≡ locals)) (sym is) h

  pub own_body : (body : List _) → IfSome (function_at wasm f) (λ x. x.body ≡ body) → IfSome (o >>= λ w. function_at w f) (λ x. x.body ≡ body)
  own_body body h = subst (λ (x : Option Module). IfSome (x >>= λ w. function_at w f) (λ y. y.body ≡ body)) (sym is) h

-- the type of a function that is defined
typed_so : (wasm : Module) (f : ℕ) (c : Option Code) (ty : Option FuncType) → is_some (c >>= λ x. ty >>= λ t. Some (function_with t x)) ≡ true → ((c >>= λ x. ty >>= λ t. Some (function_with t x)) >>= λ x. Some x.ty) ≡ ty
typed_so wasm f None ty h = absurd cc
typed_so wasm f (Some c) None h = absurd cc
typed_so wasm f (Some c) (Some ty) h = refl

own_type : (wasm : Module) (f : ℕ) → IsSome (function_at wasm f) → (function_at wasm f >>= λ x. Some x.ty) ≡ function_type wasm f
own_type wasm f h = go (nat_lt f (imported_count wasm)) h
  where
    go : (b : Bool) → IsSome (if b then None else (slice_get wasm.codes (f - imported_count wasm) >>= λ c. function_type wasm f >>= λ ty. Some (function_with ty c)))
        → ((if b then None else (slice_get wasm.codes (f - imported_count wasm) >>= λ c. function_type wasm f >>= λ ty. Some (function_with ty c))) >>= λ x. Some x.ty) ≡ function_type wasm f
    go true h = absurd cc
    go false h = typed_so wasm f (slice_get wasm.codes (f - imported_count wasm)) (function_type wasm f) h

type_within : (wasm : Module) (f : ℕ) → IsTrue (is_some (function_type wasm f)) → f < length (function_space wasm)
type_within wasm f h = go (slice_get (function_space wasm) f) refl h
  where
    go : (o : Option ℕ) → slice_get (function_space wasm) f ≡ o → IsTrue (is_some (o >>= λ t. slice_get wasm.types t)) → f < length (function_space wasm)
    go None e h = absurd cc
    go (Some t) e h = slice_get_within (function_space wasm) f t e

some_typed : (o : Option Function) → IsSome o → is_some (o >>= λ x. Some x.ty) ≡ true
some_typed None h = absurd cc
some_typed (Some x) h = refl

-- ---- rooms

pub room_is : (now : LinkedSet) (m f : ℕ) (wasm : Module) → wasm_of now m ≡ Some wasm → room_of (set_view now) m f ≡ room_of (module_view wasm) m f
room_is now m f wasm is =
    ap (λ (o : Option Module). room_with (unwrap_or (o >>= λ w. Some (module_height w f)) 0) (o >>= λ w. function_at w f)) is

-- ---- types

module _ (now : LinkedSet) (r : Ref) (some : IsSome (type_of (set_view now) r)) where
  -- an own function
  module _ (m f : ℕ) (is : r ≡ Own m f) where
    own_some : IsSome (wasm_of now m >>= λ w. function_at w f)
    own_some = go (wasm_of now m >>= λ w. function_at w f) (subst (λ (x : Ref). IsSome (type_of (set_view now) x)) is some)
      where
        go : (o : Option Function) → IsSome (o >>= λ x. Some x.ty) → IsSome o
        go None h = absurd cc
        go (Some x) h = refl

    pub own_member : IsMember now m
    own_member = found_in (wasm_of now m) (λ w. function_at w f) own_some

    module _ (wasm : Module) (at : wasm_of now m ≡ Some wasm) where
      own_here : IsSome (function_at wasm f)
      own_here = own_code (wasm_of now m) wasm at f own_some

      pub own_within : f < length (function_space wasm)
      own_within = type_within wasm f (ap is_some (sym (own_type wasm f own_here)) ∙ some_typed (function_at wasm f) own_here)

  -- a stub
  module _ (m f : ℕ) (is : r ≡ Stub m f) where
    stubbed : (found : Option Ref) (ty : Option FuncType) → IsSome (found >>= where_stub ty) → (found >>= where_stub ty) ≡ ty
    stubbed None ty h = absurd cc
    stubbed (Some (Own m f)) ty h = absurd cc
    stubbed (Some (Loader which)) ty h = absurd cc
    stubbed (Some (Host entry)) ty h = absurd cc
    stubbed (Some (Stub m f)) ty h = refl

    here : IsSome (function_ref now m f >>= where_stub (wasm_of now m >>= λ w. function_type w f))
    here = subst (λ (x : Ref). IsSome (type_of (set_view now) x)) is some

    stub_is : (function_ref now m f >>= where_stub (wasm_of now m >>= λ w. function_type w f)) ≡ (wasm_of now m >>= λ w. function_type w f)
    stub_is = stubbed (function_ref now m f) (wasm_of now m >>= λ w. function_type w f) here

    stub_some : IsSome (wasm_of now m >>= λ w. function_type w f)
    stub_some = subst (λ (o : Option FuncType). IsSome o) stub_is here

    module _ (wasm : Module) (at : wasm_of now m ≡ Some wasm) where
      pub stub_within : f < length (function_space wasm)
      stub_within = type_within wasm f (subst (λ (o : Option Module). IsSome (o >>= λ w. function_type w f)) at stub_some)

  -- a host function
  module _ (entry : ℕ) (is : r ≡ Host entry) (hosts : List declared.HostName) (are : map host_name_of hosts ≡ hosts_of now) where
    typed_at : slice_get (hosts_of now) entry ≡ option_map host_name_of (slice_get hosts entry)
    typed_at = ap (λ (hs : List HostName). slice_get hs entry) (sym are) ∙ slice_get-map host_name_of hosts entry

    host_some : IsSome (host_type (option_map host_name_of (slice_get hosts entry)))
    host_some = subst (λ (o : Option HostName). IsSome (host_type o)) typed_at (subst (λ (x : Ref). IsSome (type_of (set_view now) x)) is some)

    pub host_within : entry < length hosts
    host_within = go (slice_get hosts entry) refl host_some
      where
        go : (o : Option declared.HostName) → slice_get hosts entry ≡ o → IsSome (host_type (option_map host_name_of o)) → entry < length hosts
        go None e h = absurd cc
        go (Some x) e h = slice_get_within hosts entry x e

    pub host_type_is : (x : declared.HostName) → x ≡ get_or hosts entry x → Some x.ty ≡ type_of (set_view now) r
    host_type_is x read =
        let found : slice_get hosts entry ≡ Some x = slice_get_read hosts (length hosts) entry x refl host_within read in
        ap (λ (o : Option declared.HostName). host_type (option_map host_name_of o)) (sym found) ∙ ap host_type (sym typed_at) ∙ ap (type_of (set_view now)) (sym is)

-- a type that a member declares
module _ (o : Option Module) (wasm : Module) (is : o ≡ Some wasm) (t : ℕ) where
  pub type_found : (types : List FuncType) (ty : FuncType) → types ≡ wasm.types → t < length types → ty ≡ get_or types t ty → Some ty ≡ (o >>= λ w. slice_get w.types t)
  type_found types ty same lt read =
      sym (slice_get_read types (length types) t ty refl lt read) ∙ ap (λ (ts : List FuncType). slice_get ts t) same ∙ ap (λ (x : Option Module). x >>= λ w. slice_get w.types t) (sym is)
