-- The functions of the loader, and what they call, stand at their numbers in the merged module of a set that uses it.
use Rattle.std.proofs.Common.{◌≡◌, ◌<◌, ℕ, suc, ◌+◌, ◌*◌, true, List, [], ◌∷◌, ◌++◌, length, replicate, slice_get, Some, refl, ap, ◌∙◌, arith}
use Rattle.std.proofs.lemmas.List.{length-replicate}
use Rattle.std.proofs.lemmas.Option.{slice_get_within}
use Rattle.spec_reading.specs.wasm_form.declared.types.FuncType.{FuncType}
use Rattle.spec_reading.specs.wasm_form.declared.module.Code.{Code}
use Rattle.spec_reading.specs.wasm_form.declared.module.Module.{Module}
use Rattle.spec_reading.specs.wasm_form.declared.runtime.LoaderCall.{LoaderCall}
use Rattle.spec_reading.specs.wasm_form.declared.runtime.LoaderCall.TheVariants.{Dlopen, Dlsym, Dlclose, Dlerror}
use Rattle.spec_reading.specs.wasm_form.declared.runtime.Ref.TheVariants.{Loader}
use Rattle.spec_loading.specs.spec_execution.Views.{loader_type}
use Rattle.spec_loading.specs.spec_linking.Sets.{Member}
use Rattle.spec_loading.specs.spec_linking.Gathering.{IsSet}
use Rattle.spec_loading.specs.spec_linking.LinkedSets.{LinkedSet, hosts_of}
use Rattle.spec_loading.specs.Members.{from_members, uses_loader}
use Rattle.merge_match.specs.Renumbering.{Numbers}
use Rattle.merge_start.specs.Words.{Starts, entry_code, open_code}
use Rattle.merge_dl.specs.Words.{Finders, handle_type, unary_type, binary_type, search_type, length_body, find_body, call_body}
use Rattle.merge_dl.specs.Ready.{HasFunction}
use Rattle.merge_index.specs.Numbering.{sum_of, stubs_before, first_opening, call_number}
use Rattle.merge_module.specs.MergedModule.{with_loader, nullary_number, handle_number, unary_number, binary_number, search_number, loader_funcs, generated_types, plain_code, phase_codes, finders_of, open_codes, find_codes, call_codes, loader_codes}
use Rattle.merge_module.proofs.WithLoader.{with_used}
use Rattle.merge_module.proofs.StubLists.{one_there}
use Rattle.merge_module.proofs.MergedSpaces.{past_front, in_front, one_each, phases_many, generated_codes, generated_type_there}
use Rattle.merge_module.proofs.OwnNumbers.{n as numbers, x as starts, merged as merged_of}
use Rattle.merge_module.proofs.Generated.{repeated_at, generated_target, generated_at}

module _ (L : LinkedSet) (set : IsSet L.set) (used : uses_loader L ≡ true) where
  abbrev n : Numbers
  n = numbers L set

  abbrev x : Starts
  x = starts L set

  abbrev merged : Module
  merged = merged_of L set

  abbrev d : Finders
  d = finders_of L x

  abbrev members : List Member
  members = L.set.members

  abbrev count : ℕ
  count = length members

  -- ---- the j-th of them

  abbrev pub place : ℕ → ℕ
  place j = 4 * count + j

  pub loader_listed : (j t : ℕ) → slice_get (loader_funcs L) j ≡ Some t → slice_get (generated_types L) (place j) ≡ Some t
  loader_listed j t at =
      let phases = replicate (4 * count) (nullary_number L) in
      let loader = with_loader L (loader_funcs L) in
      let many = length-replicate (4 * count) (nullary_number L) in
      let is : place j ≡ length phases + j = omega arith in
      ap (slice_get (generated_types L)) is ∙ past_front phases (loader ++ nullary_number L ∷ []) j
      ∙ in_front loader (nullary_number L ∷ []) j t (ap (λ (l : List ℕ). slice_get l j) (with_used L (loader_funcs L) used) ∙ at)

  loader_coded : (j : ℕ) (c : Code) → slice_get (loader_codes L n x) j ≡ Some c → slice_get (generated_codes L n x) (place j) ≡ Some c
  loader_coded j c at =
      let phases = from_members (phase_codes L n x) 0 members in
      let loader = with_loader L (loader_codes L n x) in
      let last = plain_code (entry_code L n x) in
      let many = phases_many L n x members 0 in
      let is : place j ≡ length phases + j = omega arith in
      ap (slice_get (generated_codes L n x)) is ∙ past_front phases (loader ++ last ∷ []) j
      ∙ in_front loader (last ∷ []) j c (ap (λ (l : List Code). slice_get l j) (with_used L (loader_codes L n x) used) ∙ at)

  is_there : (f j t : ℕ) (ty : FuncType) (c : Code) → f ≡ first_opening L + j → slice_get (loader_funcs L) j ≡ Some t → slice_get merged.types t ≡ Some ty
      → slice_get (loader_codes L n x) j ≡ Some c → HasFunction merged f ty c
  is_there f j t ty c number listed named coded =
      let is : f ≡ length (hosts_of L) + (sum_of (λ y. length y.codes) L + (stubs_before L count + place j)) = omega arith in
      record {
        target = generated_target L set f (place j) is t ty (loader_listed j t listed) named;
        code = generated_at L set f (place j) is t ty (loader_listed j t listed) named c (loader_coded j c coded);
      }

  -- ---- their types

  loader_type_there : (i : ℕ) (ty : FuncType) → slice_get (handle_type ∷ unary_type ∷ binary_type ∷ search_type ∷ []) i ≡ Some ty
      → slice_get merged.types (nullary_number L + suc i) ≡ Some ty
  loader_type_there i ty at =
      generated_type_there L n x (suc i) ty
      (ap (λ (l : List FuncType). slice_get l i) (with_used L (handle_type ∷ unary_type ∷ binary_type ∷ search_type ∷ []) used) ∙ at)

  pub handle_there : slice_get merged.types (handle_number L) ≡ Some handle_type
  handle_there = loader_type_there 0 handle_type refl

  pub unary_there : slice_get merged.types (unary_number L) ≡ Some unary_type
  unary_there = loader_type_there 1 unary_type refl

  pub binary_there : slice_get merged.types (binary_number L) ≡ Some binary_type
  binary_there = loader_type_there 2 binary_type refl

  pub search_there : slice_get merged.types (search_number L) ≡ Some search_type
  search_there = loader_type_there 3 search_type refl

  -- ---- what opens members

  abbrev opens : List ℕ
  opens = replicate count (handle_number L)

  abbrev finds : List ℕ
  finds = replicate count (search_number L)

  abbrev calls : List ℕ
  calls = binary_number L ∷ binary_number L ∷ unary_number L ∷ handle_number L ∷ []

  pub open_listed : (m : ℕ) → m < count → slice_get (loader_funcs L) m ≡ Some (handle_number L)
  open_listed m lt = in_front opens (unary_number L ∷ (finds ++ calls)) m (handle_number L) (repeated_at count m (handle_number L) lt)

  module _ (m : ℕ) (member : Member) (at : slice_get members m ≡ Some member) where
    pub open_there : HasFunction merged (x.opening m) handle_type (plain_code (open_code L n x m))
    open_there =
        is_there (x.opening m) m (handle_number L) handle_type (plain_code (open_code L n x m)) refl (open_listed m (slice_get_within members m member at)) handle_there
        (in_front (open_codes L n x) (length_body ∷ (find_codes L ++ call_codes L x)) m (plain_code (open_code L n x m))
        (one_there (λ k w. plain_code (open_code L n x k)) 0 members m m member at (omega arith)))

  -- ---- the length of a string

  opens_many : length opens ≡ count
  opens_many = length-replicate count (handle_number L)

  finds_many : length finds ≡ count
  finds_many = length-replicate count (search_number L)

  pub open_codes_many : length (open_codes L n x) ≡ count
  open_codes_many = one_each (λ k w. plain_code (open_code L n x k)) 0 members

  pub find_codes_many : length (find_codes L) ≡ count
  find_codes_many = one_each (find_body L) 0 members

  -- what is behind those that open
  pub behind_listed : (j : ℕ) → slice_get (loader_funcs L) (count + j) ≡ slice_get (unary_number L ∷ (finds ++ calls)) j
  behind_listed j =
      let many = opens_many in
      let is : count + j ≡ length opens + j = omega arith in
      ap (slice_get (loader_funcs L)) is ∙ past_front opens (unary_number L ∷ (finds ++ calls)) j

  behind_coded : (j : ℕ) → slice_get (loader_codes L n x) (count + j) ≡ slice_get (length_body ∷ (find_codes L ++ call_codes L x)) j
  behind_coded j =
      let many = open_codes_many in
      let is : count + j ≡ length (open_codes L n x) + j = omega arith in
      ap (slice_get (loader_codes L n x)) is ∙ past_front (open_codes L n x) (length_body ∷ (find_codes L ++ call_codes L x)) j

  pub length_there : HasFunction merged d.length unary_type length_body
  length_there = is_there d.length (count + 0) (unary_number L) unary_type length_body (omega arith) (behind_listed 0) unary_there (behind_coded 0)

  -- ---- what searches members

  pub find_listed : (m : ℕ) → m < count → slice_get (loader_funcs L) (count + suc m) ≡ Some (search_number L)
  find_listed m lt = behind_listed (suc m) ∙ in_front finds calls m (search_number L) (repeated_at count m (search_number L) lt)

  module _ (m : ℕ) (member : Member) (at : slice_get members m ≡ Some member) where
    pub find_there : HasFunction merged (d.find m) search_type (find_body L m member.wasm)
    find_there =
        is_there (d.find m) (count + suc m) (search_number L) search_type (find_body L m member.wasm) (omega arith) (find_listed m (slice_get_within members m member at)) search_there
        (behind_coded (suc m) ∙ in_front (find_codes L) (call_codes L x) m (find_body L m member.wasm) (one_there (find_body L) 0 members m m member at (omega arith)))

  -- ---- the functions themselves

  pub last_listed : (j : ℕ) → slice_get (loader_funcs L) (count + suc (count + j)) ≡ slice_get calls j
  last_listed j =
      let many = finds_many in
      let is : count + j ≡ length finds + j = omega arith in
      behind_listed (suc (count + j)) ∙ ap (slice_get (finds ++ calls)) is ∙ past_front finds calls j

  last_coded : (j : ℕ) → slice_get (loader_codes L n x) (count + suc (count + j)) ≡ slice_get (call_codes L x) j
  last_coded j =
      let many = find_codes_many in
      let is : count + j ≡ length (find_codes L) + j = omega arith in
      behind_coded (suc (count + j)) ∙ ap (slice_get (find_codes L ++ call_codes L x)) is ∙ past_front (find_codes L) (call_codes L x) j

  pub call_there : (which : LoaderCall) → HasFunction merged (n.function (Loader which)) (loader_type which) (call_body L x d which)
  call_there Dlopen = is_there (call_number L Dlopen) (count + suc (count + 0)) (binary_number L) binary_type (call_body L x d Dlopen) (rw used (omega arith)) (last_listed 0) binary_there (last_coded 0)
  call_there Dlsym = is_there (call_number L Dlsym) (count + suc (count + 1)) (binary_number L) binary_type (call_body L x d Dlsym) (rw used (omega arith)) (last_listed 1) binary_there (last_coded 1)
  call_there Dlclose = is_there (call_number L Dlclose) (count + suc (count + 2)) (unary_number L) unary_type (call_body L x d Dlclose) (rw used (omega arith)) (last_listed 2) unary_there (last_coded 2)
  call_there Dlerror = is_there (call_number L Dlerror) (count + suc (count + 3)) (handle_number L) handle_type (call_body L x d Dlerror) (rw used (omega arith)) (last_listed 3) handle_there (last_coded 3)
