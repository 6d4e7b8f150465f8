-- The numbers that imported functions give the types of host functions, and the types that are added, are those of the set.
use Rattle.std.proofs.Common.{◌≡◌, ℕ, zero, suc, ◌+◌, ◌<◌, ◌≤◌, Bool, true, false, cond, List, [], ◌∷◌, ◌++◌, length, slice_get, nat_eq, find, unwrap_or, Option, Some, None, refl, sym, ap, ap₂, ◌∙◌, arith, length-append, if◌then◌else◌}
use Rattle.std.specs.List.{flat_map, range_with_len}
use Rattle.wasm_form.specs.declared.types.FuncType.{FuncType}
use Rattle.wasm_form.specs.declared.module.ImportDesc.{ImportDesc}
use Rattle.wasm_form.specs.declared.module.ImportDesc.TheVariants as imported
use Rattle.wasm_form.specs.declared.module.Import.{Import}
use Rattle.wasm_form.specs.declared.module.Module.{Module}
use Rattle.wasm_form.specs.declared.runtime.Ref.{Ref}
use Rattle.wasm_form.specs.declared.runtime.Ref.TheVariants.{Own, Loader, Host, Stub}
use Rattle.spec_reading.specs.spec_binary.Options.{◌>>=◌}
use Rattle.spec_reading.specs.spec_binary.IndexSpaces.{imports_of, functions_in}
use Rattle.spec_loading.specs.spec_runtime.Names.{HostName}
use Rattle.spec_loading.specs.spec_linking.Gathering.{IsSet}
use Rattle.spec_loading.specs.spec_linking.Definitions.{or_other}
use Rattle.spec_loading.specs.spec_linking.LinkedSets.{LinkedSet, hosts_of, function_ref}
use Rattle.spec_loading.specs.spec_linking.Sets.{Member}
use Rattle.spec_loading.specs.Members.{from_members}
use Rattle.merge_match.specs.Renumbering.{Numbers}
use Rattle.merge_match.specs.Parts.{number_of}
use Rattle.merge_match.specs.Joined.{type_address}
use Rattle.merge_index.specs.Numbering.{numbers_of}
use Rattle.merge_module.specs.MergedModule.{nullary_number, host_use, function_type_number, host_uses, use_among, first_use, with_type, types_added, added_types, first_added, type_number, host_type_number, host_imports, merged_imports}
use Rattle.merge_index.proofs.Counted.{few_bytes, few_hosts, few_of}
use Rattle.merge_module.proofs.AddedTypes.{added_few}
use Rattle.merge_module.proofs.MergedSpaces.{few_generated_types}
use Rattle.merge_whole.specs.Built.{imported_types}
use Rattle.merge_whole.specs.Hosts.{host_of, given_to, given_at, given_from, use_in, number_by}

-- ---- one or another

pub or_nothing : (o : Option ℕ) → or_other o None ≡ o
or_nothing None = refl
or_nothing (Some n) = refl

pub or_assoc : (a b c : Option ℕ) → or_other (or_other a b) c ≡ or_other a (or_other b c)
or_assoc None b c = refl
or_assoc (Some n) b c = refl

-- ---- imports

functions_within : (is : List Import) → length (imports_of functions_in is) ≤ length is
functions_within [] = omega arith
functions_within (i ∷ is) =
    let later = functions_within is in
    let one = at_most_one i.desc in
    omega (arith, length-append (functions_in i.desc) (imports_of functions_in is))
  where
    at_most_one : (d : ImportDesc) → length (functions_in d) ≤ 1
    at_most_one (imported.Func t) = omega arith
    at_most_one (imported.Table ty) = omega arith
    at_most_one (imported.Space limits) = omega arith
    at_most_one (imported.Global ty) = omega arith

pub types_short : (is : List Import) (ts : List ℕ) → ts ≡ imports_of functions_in is → length is < 4294967296 → length ts < 4294967296
types_short is ts same few = (let within = functions_within is in let long = ap length same in omega arith)

in_front : (xs ys : List ℕ) (i t : ℕ) → slice_get xs i ≡ Some t → slice_get (xs ++ ys) i ≡ Some t
in_front [] ys i t e = absurd cc
in_front (x ∷ xs) ys zero t e = e
in_front (x ∷ xs) ys (suc i) t e = in_front xs ys i t e

-- ---- the first that is given

use_append : (a b : List (ℕ × ℕ)) (e : ℕ) → use_among (a ++ b) e ≡ or_other (use_among a e) (use_among b e)
use_append [] b e = refl
use_append (u ∷ a) b e = go (nat_eq u.0 e) (use_append a b e)
  where
    rest : List (ℕ × ℕ) → Option (ℕ × ℕ)
    rest us = find (λ (v : ℕ × ℕ). nat_eq v.0 e) us

    go : (t : Bool) → use_among (a ++ b) e ≡ or_other (use_among a e) (use_among b e)
        → (cond t (Some u) (rest (a ++ b)) >>= λ (v : ℕ × ℕ). Some v.1) ≡ or_other (cond t (Some u) (rest a) >>= λ (v : ℕ × ℕ). Some v.1) (use_among b e)
    go true later = refl
    go false later = later

one_given : (r : Option Ref) (t e : ℕ) → given_to (host_of r) t e ≡ use_among (host_use r t) e
one_given (Some (Host h)) t e = go (nat_eq h e)
  where
    go : (b : Bool) → (if b then Some t else None) ≡ (cond b (Some (h, t)) None >>= λ (v : ℕ × ℕ). Some v.1)
    go true = refl
    go false = refl
one_given (Some (Own m f)) t e = refl
one_given (Some (Loader which)) t e = refl
one_given (Some (Stub m f)) t e = refl
one_given None t e = refl

module _ (L : LinkedSet) where
  functions_given : (m : ℕ) (of g : ℕ → ℕ) (f : ℕ) (ts : List ℕ) (e : ℕ) → ((i t : ℕ) → slice_get ts i ≡ Some t → g (f + i) ≡ of t)
      → given_at L m of f ts e ≡ use_among (flat_map (λ j. host_use (function_ref L m j) (g j)) (range_with_len f (length ts))) e
  functions_given m of g f [] e reads = refl
  functions_given m of g f (t ∷ ts) e reads =
      let place : f ≡ f + 0 = omega arith in
      let number : of t ≡ g f = sym (ap g place ∙ reads 0 t refl) in
      let rest = flat_map (λ j. host_use (function_ref L m j) (g j)) (range_with_len (f + 1) (length ts)) in
      let later = functions_given m of g (f + 1) ts e (λ i u q. let s : f + 1 + i ≡ f + suc i = omega arith in ap g s ∙ reads (suc i) u q) in
      ap₂ or_other
      (ap (λ n. given_to (host_of (function_ref L m f)) n e) number
      ∙ one_given (function_ref L m f) (g f) e)
      later
      ∙ sym (use_append (host_use (function_ref L m f) (g f)) rest e)

  member_given : (m : ℕ) (wasm : Module) (e : ℕ) → given_at L m ((numbers_of L).ty m) 0 (imported_types wasm) e ≡ use_among (host_uses L m wasm) e
  member_given m wasm e =
      functions_given m ((numbers_of L).ty m) (function_type_number L m wasm) 0 (imported_types wasm) e
      (λ i t q.
      let s : 0 + i ≡ i = omega arith in
      ap (function_type_number L m wasm) s
      ∙ ap (λ (o : Option ℕ). number_of (type_address L m (unwrap_or o 0))) (in_front (imported_types wasm) wasm.funcs i t q))

  members_given : (m : ℕ) (xs : List Member) (e : ℕ) → given_from L (numbers_of L) m xs e ≡ use_among (from_members (host_uses L) m xs) e
  members_given m [] e = refl
  members_given m (x ∷ xs) e =
      ap₂ or_other (member_given m x.wasm e) (members_given (m + 1) xs e)
      ∙ sym (use_append (host_uses L m x.wasm) (from_members (host_uses L) (m + 1) xs) e)

  -- what is given to a host function is that of the set
  pub given_is : (n : Numbers) → n ≡ numbers_of L → (e : ℕ) → given_from L n 0 L.set.members e ≡ first_use L e
  given_is n same e = ap (λ x. given_from L x 0 L.set.members e) same ∙ members_given 0 L.set.members e

-- ---- types that are added, and imports

added_same : (u v : ℕ → Option ℕ) (known : List FuncType) (e : ℕ) (hs : List HostName) → ((i : ℕ) → i < length hs → u (e + i) ≡ v (e + i))
    → types_added u known e hs ≡ types_added v known e hs
added_same u v known e [] same = refl
added_same u v known e (h ∷ hs) same =
    let place : e ≡ e + 0 = omega arith in
    let here : u e ≡ v e = ap u place ∙ same 0 (omega arith) ∙ sym (ap v place) in
    ap (λ o. types_added u (with_type known o h.ty) (e + 1) hs) here
    ∙ added_same u v (with_type known (v e) h.ty) (e + 1) hs
    (λ i lt. let next : e + 1 + i ≡ e + suc i = omega arith in ap u next ∙ same (suc i) (omega arith) ∙ sym (ap v next))

imports_same : (t u : ℕ → FuncType → ℕ) (e : ℕ) (hs : List HostName) → ((i : ℕ) (ty : FuncType) → i < length hs → t (e + i) ty ≡ u (e + i) ty)
    → host_imports t e hs ≡ host_imports u e hs
imports_same t u e [] same = refl
imports_same t u e (h ∷ hs) same =
    let place : e ≡ e + 0 = omega arith in
    let here : t e h.ty ≡ u e h.ty = ap (λ n. t n h.ty) place ∙ same 0 h.ty (omega arith) ∙ sym (ap (λ n. u n h.ty) place) in
    ap₂ (λ n (is : List Import). record { «module» = h.module_name; field = h.name; desc = imported.Func n } ∷ is) here
    (imports_same t u (e + 1) hs
    (λ i ty lt. let next : e + 1 + i ≡ e + suc i = omega arith in ap (λ n. t n ty) next ∙ same (suc i) ty (omega arith) ∙ sym (ap (λ n. u n ty) next)))

module _ (L : LinkedSet) (hosts : List HostName) (are : hosts ≡ hosts_of L) (uses : List (Option ℕ))
    (given : (e : ℕ) → e < length hosts → use_in uses e ≡ first_use L e) where
  pub added_are : (added : List FuncType) → added ≡ types_added (use_in uses) [] 0 hosts → added ≡ added_types L
  added_are added is =
      is
      ∙ added_same (use_in uses) (first_use L) [] 0 hosts (λ i lt. given (0 + i) (omega arith))
      ∙ ap (types_added (first_use L) [] 0) are

  pub imports_are : (first : ℕ) (added : List FuncType) → first ≡ first_added L → added ≡ added_types L
      → host_imports (number_by first added uses) 0 hosts ≡ merged_imports L
  imports_are first added at is =
      imports_same (number_by first added uses) (host_type_number L) 0 hosts
      (λ i ty lt. ap (λ o. type_number first added o ty) (given (0 + i) (omega arith)) ∙ ap₂ (λ n tys. type_number n tys (first_use L (0 + i)) ty) at is)
      ∙ ap (host_imports (host_type_number L) 0) are

-- the numbers of types that are added are numbers of 32 bits
first_few : (L : LinkedSet) → IsSet L.set → first_added L ≤ 16777221
first_few L set =
    let own = few_of L set (λ m wasm. wasm.types) (λ k y few. (let all = few.all in omega arith)) in
    let bytes = few_bytes L set in
    let generated = few_generated_types L in
    omega arith

pub nullary_few : (L : LinkedSet) → IsSet L.set → nullary_number L < 2147483648
nullary_few L set = (let front = first_few L set in omega arith)

pub added_fit : (L : LinkedSet) → IsSet L.set → (first : ℕ) (added : List FuncType) (given : ℕ → Option ℕ)
    → first ≡ first_added L → added ≡ types_added given [] 0 (hosts_of L) → first + length added < 4294967296
added_fit L set first added given at is =
    let front = first_few L set in
    let few = added_few given [] 0 (hosts_of L) in
    let long = ap length is in
    let hosts = few_hosts L set in
    let bytes = few_bytes L set in
    omega arith
