-- The numbers of functions.
use Rattle.std.proofs.Common.{◌≡◌, ◌<◌, ◌≤◌, ℕ, zero, suc, ◌+◌, ◌-◌, Bool, true, false, List, [], ◌∷◌, length, map, take, nat_lt, nat_le, ◌&&◌, slice_get, Option, Some, None, option_map, if◌then◌else◌, refl, sym, ap, ap₂, ◌∙◌, subst, arith}
use Rattle.std.proofs.lemmas.Bool.Decides.{nat_tests}
use Rattle.std.proofs.lemmas.Option.{slice_get-map, slice_get_within}
use Rattle.wasm_form.specs.declared.module.Module.{Module}
use Rattle.wasm_form.specs.declared.runtime.LoaderCall.{LoaderCall}
use Rattle.wasm_form.specs.declared.runtime.LoaderCall.TheVariants.{Dlopen, Dlsym, Dlclose, Dlerror}
use Rattle.wasm_form.specs.declared.runtime.Ref.{Ref}
use Rattle.wasm_form.specs.declared.runtime.Ref.TheVariants.{Own, Loader, Host, Stub}
use Rattle.spec_loading.specs.spec_binary.Options.{◌>>=◌}
use Rattle.spec_loading.specs.spec_binary.IndexSpaces.{imported_count}
use Rattle.spec_loading.specs.spec_linking.Sets.{Member}
use Rattle.spec_loading.specs.spec_linking.LinkedSets.{LinkedSet, function_ref}
use Rattle.spec_loading.specs.Addresses.{sum_before, item_address}
use Rattle.spec_loading.specs.Members.{uses_loader}
use Rattle.merge_match.specs.Parts.{nowhere, number_of}
use Rattle.merge_match.specs.Joined.{own_address, function_address}
use Rattle.merge_index.specs.Numbering.{host_count, first_stub, stubs_before, stubs_below, is_stub, stub_address, first_phase, first_opening, length_number, first_find, first_call, call_place, call_number, loader_numbers, function_number, named_number}
use Rattle.merge_index.specs.declared.numbers.LoaderNumbers.{LoaderNumbers}
use Rattle.merge_index.specs.Kept.{number_at, own_from, stub_number, call_in}
use Rattle.dyl_addresses.specs.Lists.{numbered}
use Rattle.merge_index.specs.Lists.{Known, stub_size, stubs_end, ref_number, named_from, named_lists}
use Rattle.dyl_addresses.specs.Sets.{wasms}
use Rattle.dyl_addresses.proofs.Items.{numbered_item}
use Rattle.merge_index.proofs.Refs.{ref_fits}
use Rattle.merge_index.proofs.Stubs.{Reads, before_one, stubs_to, counted}
use Rattle.merge_index.proofs.StubNumbers.{stub_within}

abbrev codes_size : Module → ℕ
codes_size x = length x.codes

-- ---- functions that members define

module _ (L : LinkedSet) where
  abbrev members : List Member
  members = L.set.members

  abbrev pub owns : List (List ℕ)
  owns = numbered codes_size (host_count L) (wasms members)

  abbrev pub imports : List ℕ
  imports = map imported_count (wasms members)

  pub own_is : (m f : ℕ) → own_from owns m (slice_get imports m) f ≡ number_of (function_address L (host_count L) m f)
  own_is m f =
      ap (λ o. own_from owns m o f) (slice_get-map imported_count (wasms members) m ∙ ap (option_map imported_count) (slice_get-map (λ x. x.wasm) members m))
      ∙ go (slice_get members m) refl
    where
      at : (y : Member) → slice_get L.set.members m ≡ Some y → (b : Bool)
          → (if b then nowhere else number_at (owns) m (f - imported_count y.wasm))
          ≡ number_of (if b then None else item_address (host_count L + sum_before codes_size L.set.members m) (length y.wasm.codes) (f - imported_count y.wasm))
      at y e true = refl
      at y e false =
          let i = f - imported_count y.wasm in
          ap number_of (numbered_item codes_size (host_count L) L.set.members m i)
          ∙ ap (λ (o : Option Member). number_of (o >>= λ x. item_address (host_count L + sum_before codes_size L.set.members m) (codes_size x.wasm) i)) e

      go : (o : Option Member) → slice_get L.set.members m ≡ o
          → own_from (owns) m (option_map imported_count (option_map (λ x. x.wasm) o)) f
          ≡ number_of ((o >>= λ x. Some x.wasm) >>= λ wasm. own_address L (host_count L) m wasm f)
      go None e = refl
      go (Some y) e = at y e (nat_lt f (imported_count y.wasm))

-- ---- functions that members name

module _ (k : Known) where
  named_item : (rs : List Ref) (s f : ℕ) → slice_get (named_from k s rs) f ≡ (slice_get rs f >>= λ r. Some (ref_number k (stubs_end s (take f rs)) r))
  named_item [] s f = refl
  named_item (r ∷ rs) s zero = refl
  named_item (r ∷ rs) s (suc f) = named_item rs (s + stub_size r) f

  named_at : (s : ℕ) (ks : List (List Ref)) (m f : ℕ)
      → number_at (named_lists k s ks) m f
      ≡ number_of (slice_get ks m >>= λ x. slice_get x f >>= λ r. Some (ref_number k (stubs_end (stubs_to s ks m) (take f x)) r))
  named_at s [] m f = refl
  named_at s (x ∷ ks) zero f = ap number_of (named_item x s f)
  named_at s (x ∷ ks) (suc m) f = named_at (stubs_end s x) ks m f

-- what is read of the kept members is what the numbers name
abbrev pub AreRead : LinkedSet → List (List Ref) → Type 0
AreRead L ks = (m f : ℕ) → (slice_get ks m >>= λ x. slice_get x f) ≡ function_ref L m f

-- the functions of the loader have their numbers
pub called : (L : LinkedSet) (which : LoaderCall) → call_in (loader_numbers L) which ≡ call_number L which
called L which = go (uses_loader L) which
  where
    numbers : LoaderNumbers
    numbers = record {
      first_opening = first_opening L;
      length = length_number L;
      first_find = first_find L;
      dlopen = first_call L + call_place Dlopen;
      dlsym = first_call L + call_place Dlsym;
      dlclose = first_call L + call_place Dlclose;
      dlerror = first_call L + call_place Dlerror;
    }

    go : (b : Bool) (w : LoaderCall) → call_in (if b then Some numbers else None) w ≡ (if b then first_call L + call_place w else nowhere)
    go false w = refl
    go true Dlopen = refl
    go true Dlsym = refl
    go true Dlclose = refl
    go true Dlerror = refl

module _ (L : LinkedSet) (ks : List (List Ref)) (reads : AreRead L ks) where
  abbrev pub known : Known
  known = record { owns = owns L; imported = imports L; loader = loader_numbers L }

  read_one : (m : ℕ) (x : List Ref) → slice_get ks m ≡ Some x → Reads L m x
  read_one m x e f = ap (λ (o : Option (List Ref)). o >>= λ y. slice_get y f) (sym e) ∙ reads m f

  stub_is : (m f : ℕ) (x : List Ref) → slice_get ks m ≡ Some x → f ≤ length x
      → stubs_end (stubs_to (first_stub L) ks m) (take f x) ≡ first_stub L + stubs_before L m + length (stubs_below L m f)
  stub_is m f x e few =
      before_one L (stubs_to (first_stub L) ks m) m f x (read_one m x e) few
      ∙ ap (λ n. n + length (stubs_below L m f)) (counted L (first_stub L) ks m read_one (let within = slice_get_within ks m x e in omega arith))

  ref_is : (m f : ℕ) (x : List Ref) → slice_get ks m ≡ Some x → f ≤ length x → (r : Ref) → function_ref L m f ≡ Some r
      → ref_number known (stubs_end (stubs_to (first_stub L) ks m) (take f x)) r ≡ function_number L r
  ref_is m f x e few (Own k g) is = own_is L k g
  ref_is m f x e few (Loader which) is = called L which
  ref_is m f x e few (Host n) is = refl
  ref_is m f x e few (Stub k g) is =
      let fits = ref_fits L m f (Stub k g) is in
      let first : stub_address L m f ≡ Some (first_stub L + stubs_before L m + length (stubs_below L m f)) =
      ap (λ o. if is_stub o then Some (first_stub L + stubs_before L m + length (stubs_below L m f)) else None) is in
      stub_is m f x e few ∙ ap number_of (sym first) ∙ ap₂ (λ a b. number_of (stub_address L a b)) (sym fits.0) (sym fits.1)

  pub named_is : (m f : ℕ) → number_at (named_lists known (first_stub L) ks) m f ≡ named_number L m f
  named_is m f = named_at known (first_stub L) ks m f ∙ go (slice_get ks m) refl
    where
      of_item : (x : List Ref) → slice_get ks m ≡ Some x → (o : Option Ref) → slice_get x f ≡ o
          → number_of (o >>= λ r. Some (ref_number known (stubs_end (stubs_to (first_stub L) ks m) (take f x)) r))
          ≡ number_of (option_map (function_number L) o)
      of_item x e None q = refl
      of_item x e (Some r) q =
          (let within = slice_get_within x f r q in ref_is m f x e (omega arith) r (sym (read_one m x e f) ∙ q))

      go : (o : Option (List Ref)) → slice_get ks m ≡ o
          → number_of (o >>= λ x. slice_get x f >>= λ r. Some (ref_number known (stubs_end (stubs_to (first_stub L) ks m) (take f x)) r))
          ≡ number_of (option_map (function_number L) (function_ref L m f))
      go None e =
          ap (λ o. number_of (option_map (function_number L) o)) (ap (λ (o : Option (List Ref)). o >>= λ x. slice_get x f) (sym e) ∙ reads m f)
      go (Some x) e =
          of_item x e (slice_get x f) refl ∙ ap (λ o. number_of (option_map (function_number L) o)) (read_one m x e f)

-- ---- stubs by the functions that numbers name

pub sum_within : (size : Module → ℕ) (xs : List Member) (m : ℕ) (x : Member) → slice_get xs m ≡ Some x
    → sum_before size xs m + size x.wasm ≤ sum_before size xs (length xs)
sum_within size [] m x e = absurd cc
sum_within size (y ∷ xs) zero x e = (let same : y ≡ x = cc in subst (λ z. 0 + size z.wasm ≤ size y.wasm + sum_before size xs (length xs)) same (omega arith))
sum_within size (y ∷ xs) (suc m) x e = (let later = sum_within size xs m x e in omega arith)

-- a number below the stubs, or past them, is of none
module _ (first end : ℕ) where
  below_is_none : (n : ℕ) → n < first → stub_number first end n ≡ nowhere
  below_is_none n lt = go (nat_le first n) refl (nat_lt n end)
    where
      go : (b : Bool) → nat_le first n ≡ b → (c : Bool) → (if b && c then n else nowhere) ≡ nowhere
      go true q c = absurd (grind (arith, nat_tests))
      go false q c = refl

  past_is_none : (n : ℕ) → end ≤ n → stub_number first end n ≡ nowhere
  past_is_none n le = go (nat_le first n) (nat_lt n end) refl
    where
      go : (b c : Bool) → nat_lt n end ≡ c → (if b && c then n else nowhere) ≡ nowhere
      go true true q = absurd (grind (arith, nat_tests))
      go true false q = refl
      go false c q = refl

  within_is : (n : ℕ) → first ≤ n → n < end → stub_number first end n ≡ n
  within_is n le lt = go (nat_le first n) refl (nat_lt n end) refl
    where
      go : (b : Bool) → nat_le first n ≡ b → (c : Bool) → nat_lt n end ≡ c → (if b && c then n else nowhere) ≡ n
      go true q true r = refl
      go true q false r = absurd (grind (arith, nat_tests))
      go false q c r = absurd (grind (arith, nat_tests))

  nowhere_is_none : stub_number first end nowhere ≡ nowhere
  nowhere_is_none = go (nat_le first nowhere && nat_lt nowhere end)
    where
      go : (b : Bool) → (if b then nowhere else nowhere) ≡ nowhere
      go true = refl
      go false = refl

  abbrev IsLow : Option ℕ → Type 0
  IsLow o = (a : ℕ) → o ≡ Some a → a < first

  low_is_none : (o : Option ℕ) → IsLow o → stub_number first end (number_of o) ≡ nowhere
  low_is_none None low = nowhere_is_none
  low_is_none (Some a) low = below_is_none a (low a refl)

module _ (L : LinkedSet) where
  own_low : (m f : ℕ) → IsLow (first_stub L) (first_phase L) (function_address L (host_count L) m f)
  own_low m f = go (slice_get L.set.members m) refl
    where
      at : (y : Member) → slice_get L.set.members m ≡ Some y → (b c : Bool) (i : ℕ) → nat_lt i (length y.wasm.codes) ≡ c
          → (a : ℕ) → (if b then None else (if c then Some (host_count L + sum_before codes_size L.set.members m + i) else None)) ≡ Some a → a < first_stub L
      at y e true c i q a is = absurd cc
      at y e false false i q a is = absurd cc
      at y e false true i q a is =
          let same : host_count L + sum_before codes_size L.set.members m + i ≡ a = cc in
          let lt : i < length y.wasm.codes = grind (arith, nat_tests) in
          let within = sum_within codes_size L.set.members m y e in
          omega arith

      go : (o : Option Member) → slice_get L.set.members m ≡ o
          → IsLow (first_stub L) (first_phase L) ((o >>= λ x. Some x.wasm) >>= λ wasm. own_address L (host_count L) m wasm f)
      go None e a is = absurd cc
      go (Some y) e a is = at y e (nat_lt f (imported_count y.wasm)) (nat_lt (f - imported_count y.wasm) (length y.wasm.codes)) (f - imported_count y.wasm) refl a is

  -- that of a function of the loader comes behind them
  call_is_none : (which : LoaderCall) → stub_number (first_stub L) (first_phase L) (call_number L which) ≡ nowhere
  call_is_none which = go (uses_loader L)
    where
      go : (b : Bool) → stub_number (first_stub L) (first_phase L) (if b then first_call L + call_place which else nowhere) ≡ nowhere
      go true = past_is_none (first_stub L) (first_phase L) (first_call L + call_place which) (omega arith)
      go false = nowhere_is_none (first_stub L) (first_phase L)

  pub stub_number_is : (m f : ℕ) → stub_number (first_stub L) (first_phase L) (named_number L m f) ≡ number_of (stub_address L m f)
  stub_number_is m f = go (function_ref L m f) refl
    where
      here : ℕ
      here = first_stub L + stubs_before L m + length (stubs_below L m f)

      addressed : (k g : ℕ) → function_ref L m f ≡ Some (Stub k g) → stub_address L m f ≡ Some here
      addressed k g is = ap (λ o. if is_stub o then Some here else None) is

      stub_here : (k g : ℕ) → function_ref L m f ≡ Some (Stub k g) → number_of (stub_address L k g) ≡ here
      stub_here k g is =
          let fits = ref_fits L m f (Stub k g) is in
          ap₂ (λ a b. number_of (stub_address L a b)) fits.0 fits.1 ∙ ap number_of (addressed k g is)

      go : (o : Option Ref) → function_ref L m f ≡ o
          → stub_number (first_stub L) (first_phase L) (number_of (option_map (function_number L) o)) ≡ number_of (if is_stub o then Some here else None)
      go None is = nowhere_is_none (first_stub L) (first_phase L)
      go (Some (Own k g)) is = low_is_none (first_stub L) (first_phase L) (function_address L (host_count L) k g) (own_low k g)
      go (Some (Loader which)) is = call_is_none which
      go (Some (Host n)) is = (let few = ref_fits L m f (Host n) is in below_is_none (first_stub L) (first_phase L) n (omega arith))
      go (Some (Stub k g)) is =
          let within = stub_within L m f here (addressed k g is) in
          ap (stub_number (first_stub L) (first_phase L)) (stub_here k g is) ∙ within_is (first_stub L) (first_phase L) here within.0 within.1
