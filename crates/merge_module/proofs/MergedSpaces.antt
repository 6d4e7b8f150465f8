-- The function space of a merged module: the host functions, those of the members, stubs, and what is generated.
use Rattle.std.proofs.Common.{◌≡◌, ℕ, zero, suc, ◌+◌, ◌-◌, ◌*◌, ◌≤◌, Bool, true, false, List, [], ◌∷◌, ◌++◌, length, map, replicate, slice_get, Option, Some, None, if◌then◌else◌, refl, sym, ap, ◌∙◌, arith, length-append}
use Rattle.std.specs.Prelude.{unwrap_or}
use Rattle.std.proofs.lemmas.List.{length-map, length-replicate}
use Rattle.std.proofs.lemmas.Option.{slice_get_past}
use Rattle.spec_reading.specs.wasm_form.declared.types.FuncType.{FuncType}
use Rattle.spec_reading.specs.wasm_form.declared.module.Code.{Code}
use Rattle.spec_reading.specs.wasm_form.declared.module.Module.{Module}
use Rattle.spec_reading.specs.spec_binary.Options.{◌>>=◌}
use Rattle.spec_reading.specs.spec_binary.Indices.{nullary, function_type, function_with, function_at}
use Rattle.spec_reading.specs.spec_binary.IndexSpaces.{imports_of, functions_in, function_space, imported_count}
use Rattle.spec_reading.proofs.of_spec_binary.Lists.{slice_get-append-right}
use Rattle.spec_loading.specs.spec_linking.Sets.{Member}
use Rattle.spec_loading.specs.spec_linking.Gathering.{IsSet, total_size}
use Rattle.spec_loading.specs.spec_linking.LinkedSets.{LinkedSet, hosts_of}
use Rattle.spec_loading.specs.Members.{from_members, uses_loader}
use Rattle.merge_match.specs.Renumbering.{Numbers}
use Rattle.merge_match.specs.Parts.{nowhere}
use Rattle.merge_match.specs.Joined.{renumbered_code}
use Rattle.merge_match.proofs.JoinedParts.{own_type, own_at}
use Rattle.merge_start.specs.Words.{Starts, entry_code, open_code}
use Rattle.merge_dl.specs.Words.{handle_type, unary_type, binary_type, search_type, length_body, find_body}
use Rattle.merge_index.specs.Numbering.{stubs_of, loader_size}
use Rattle.merge_module.specs.MergedModule.{with_loader, members_types, nullary_number, handle_number, unary_number, binary_number, search_number, generated_functions_types, first_use, added_types, first_added, host_type_number, stub_types, loader_funcs, generated_types, stub_codes, phase_codes, open_codes, find_codes, call_codes, loader_codes, plain_code, trap_code, module_with}
use Rattle.merge_module.proofs.WithLoader.{with_few, with_many}
use Rattle.merge_module.proofs.HostImports.{functions_of}
use Rattle.merge_module.proofs.AddedTypes.{added_few}
use Rattle.merge_index.proofs.Counted.{few_bytes, few_members, few_hosts, few_of, stubs_within}

-- the item at a place past the front
pub past_front : {A : Type 0} (front rest : List A) (i : ℕ) → slice_get (front ++ rest) (length front + i) ≡ slice_get rest i
past_front front rest i =
    let place : length front + i - length front ≡ i = omega arith in
    slice_get-append-right front rest (length front + i) (omega arith) ∙ ap (slice_get rest) place

-- an item of the front
pub in_front : {A : Type 0} (front rest : List A) (i : ℕ) (x : A) → slice_get front i ≡ Some x → slice_get (front ++ rest) i ≡ Some x
in_front [] rest i x e = absurd cc
in_front (y ∷ front) rest zero x e = e
in_front (y ∷ front) rest (suc i) x e = in_front front rest i x e

-- one of each member
pub one_each : {A : Type 0} (f : ℕ → Module → A) (k : ℕ) (xs : List Member) → length (from_members (λ m w. f m w ∷ []) k xs) ≡ length xs
one_each f k [] = refl
one_each f k (x ∷ xs) = ap suc (one_each f (k + 1) xs)

pub loader_many : (L : LinkedSet) → length (loader_funcs L) ≡ 2 * length L.set.members + 5
loader_many L =
    let members = length L.set.members in
    let opens = length-replicate members (handle_number L) in
    let finds = length-replicate members (search_number L) in
    let calls = binary_number L ∷ binary_number L ∷ unary_number L ∷ handle_number L ∷ [] in
    let one = length-append (replicate members (handle_number L)) (unary_number L ∷ (replicate members (search_number L) ++ calls)) in
    let two = length-append (replicate members (search_number L)) calls in
    omega arith

pub loader_size_is : (L : LinkedSet) → length (with_loader L (loader_funcs L)) ≡ loader_size L
loader_size_is L = go (uses_loader L)
  where
    go : (b : Bool) → length (if b then loader_funcs L else []) ≡ (if b then 2 * length L.set.members + 5 else 0)
    go true = loader_many L
    go false = refl

generated_split : (L : LinkedSet) → length (generated_types L) ≡ 4 * length L.set.members + length (with_loader L (loader_funcs L)) + 1
generated_split L =
    let loader = with_loader L (loader_funcs L) in
    let phases = length-replicate (4 * length L.set.members) (nullary_number L) in
    let entry = length-append loader (nullary_number L ∷ []) in
    omega (arith, length-append (replicate (4 * length L.set.members) (nullary_number L)) (loader ++ nullary_number L ∷ []))

pub generated_many : (L : LinkedSet) → length (generated_types L) ≤ 6 * length L.set.members + 6
generated_many L =
    let all = generated_split L in
    let some = with_few L (loader_funcs L) in
    let many = loader_many L in
    omega arith

-- there are as many types of generated functions
pub few_generated_types : (L : LinkedSet) → length (generated_functions_types L) ≤ 5
few_generated_types L = (let few = with_few L (handle_type ∷ unary_type ∷ binary_type ∷ search_type ∷ []) in omega arith)

module _ (L : LinkedSet) (n : Numbers) (x : Starts) where
  abbrev pub merged : Module
  merged = module_with L n x

  pub host_many : imported_count merged ≡ length (hosts_of L)
  host_many = functions_of (host_type_number L) 0 (hosts_of L)

  -- ---- types

  -- a type of generated functions, by its place among these
  pub generated_type_there : (i : ℕ) (ty : FuncType) → slice_get (generated_functions_types L) i ≡ Some ty → slice_get merged.types (nullary_number L + i) ≡ Some ty
  generated_type_there i ty at =
      past_front (members_types L) (generated_functions_types L ++ added_types L) i ∙ in_front (generated_functions_types L) (added_types L) i ty at

  pub nullary_there : slice_get merged.types (nullary_number L) ≡ Some nullary
  nullary_there =
      let place : nullary_number L + 0 ≡ nullary_number L = omega arith in
      ap (slice_get merged.types) (sym place) ∙ generated_type_there 0 nullary refl

  -- a type that is added, by its place among these
  pub added_type_there : (i : ℕ) → slice_get merged.types (first_added L + i) ≡ slice_get (added_types L) i
  added_type_there i =
      let place : first_added L + i ≡ nullary_number L + (length (generated_functions_types L) + i) = omega arith in
      ap (slice_get merged.types) place ∙ past_front (members_types L) (generated_functions_types L ++ added_types L) (length (generated_functions_types L) + i)
      ∙ past_front (generated_functions_types L) (added_types L) i

  -- ---- functions that the module defines, by their places

  abbrev pub own_funcs : List ℕ
  own_funcs = from_members (λ m wasm. map (n.ty m) wasm.funcs) 0 L.set.members

  abbrev pub own_codes : List Code
  own_codes = from_members (λ m wasm. map (renumbered_code n m) wasm.codes) 0 L.set.members

  pub type_at : (f k : ℕ) → f ≡ length (hosts_of L) + k → function_type merged f ≡ (slice_get merged.funcs k >>= slice_get merged.types)
  type_at f k e =
      let many = host_many in
      let place : f ≡ imported_count merged + k = omega arith in
      ap (function_type merged) place ∙ own_type merged k

  pub code_at : (f k : ℕ) (c : Code) (ty : FuncType) → f ≡ length (hosts_of L) + k → slice_get merged.codes k ≡ Some c
      → function_type merged f ≡ Some ty → function_at merged f ≡ Some (function_with ty c)
  code_at f k c ty e at typed =
      let many = host_many in
      let place : imported_count merged + k ≡ f = omega arith in
      ap (function_at merged) (sym place) ∙ own_at merged k
      ∙ ap (λ (o : Option Code). o >>= λ y. function_type merged (imported_count merged + k) >>= λ ty. Some (function_with ty y)) at
      ∙ ap (λ (o : Option FuncType). o >>= λ ty. Some (function_with ty c)) (ap (function_type merged) place ∙ typed)

  pub phases_many : (xs : List Member) (k : ℕ) → length (from_members (phase_codes L n x) k xs) ≡ 4 * length xs
  phases_many [] k = refl
  phases_many (y ∷ ys) k = (let later = phases_many ys (k + 1) in omega (arith, length-append (phase_codes L n x k y.wasm) (from_members (phase_codes L n x) (k + 1) ys)))

  -- what is generated, and of it what is there for the loader
  pub loader_codes_many : length (loader_codes L n x) ≡ length (loader_funcs L)
  loader_codes_many =
      let members = length L.set.members in
      let opens = one_each (λ m y. plain_code (open_code L n x m)) 0 L.set.members in
      let finds = one_each (find_body L) 0 L.set.members in
      let one = length-append (open_codes L n x) (length_body ∷ (find_codes L ++ call_codes L x)) in
      let two = length-append (find_codes L) (call_codes L x) in
      let three = loader_many L in
      omega arith

  abbrev pub generated_codes : List Code
  generated_codes = from_members (phase_codes L n x) 0 L.set.members ++ (with_loader L (loader_codes L n x) ++ plain_code (entry_code L n x) ∷ [])

  pub generated_codes_many : length generated_codes ≡ length (generated_types L)
  generated_codes_many =
      let phases = phases_many L.set.members 0 in
      let loader = with_loader L (loader_codes L n x) in
      let same = with_many L (loader_codes L n x) (loader_funcs L) loader_codes_many in
      let entry = length-append loader (plain_code (entry_code L n x) ∷ []) in
      let one = length-append (from_members (phase_codes L n x) 0 L.set.members) (loader ++ plain_code (entry_code L n x) ∷ []) in
      let two = generated_split L in
      omega arith

  -- ---- there is nothing at the number of what is out of range

  module _ (set : IsSet L.set) where
    pub few_types : length merged.types ≤ 33554437
    few_types =
        let own = few_of L set (λ m wasm. wasm.types) (λ k y few. (let all = few.all in omega arith)) in
        let hosts = few_hosts L set in
        let bytes = few_bytes L set in
        let generated = few_generated_types L in
        let added = added_few (first_use L) [] 0 (hosts_of L) in
        let rest = length-append (generated_functions_types L) (added_types L) in
        omega (arith, length-append (members_types L) (generated_functions_types L ++ added_types L))

    stub_types_many : length (from_members (stub_types L n) 0 L.set.members) ≤ total_size L.set.members
    stub_types_many =
        few_of L set (stub_types L n) (λ k y few. (let all = few.all in let stubs = stubs_within L k y.wasm in omega (arith, length-map (stubs_of L k y.wasm) (λ f. n.ty k (unwrap_or (slice_get (function_space y.wasm) f) 0)))))

    stub_codes_many : length (from_members (stub_codes L) 0 L.set.members) ≤ 16777216
    stub_codes_many =
        let few = few_of L set (stub_codes L) (λ k y few. (let all = few.all in let stubs = stubs_within L k y.wasm in omega (arith, length-map (stubs_of L k y.wasm) (λ f. trap_code)))) in
        let bytes = few_bytes L set in
        omega arith

    pub funcs_many : length merged.funcs ≤ 2 * total_size L.set.members + 6 * length L.set.members + 6
    funcs_many =
        let own = few_of L set (λ m wasm. map (n.ty m) wasm.funcs) (λ k y few. (let all = few.all in omega (arith, length-map y.wasm.funcs (n.ty k)))) in
        let stubs = stub_types_many in
        let rest = length-append (from_members (stub_types L n) 0 L.set.members) (generated_types L) in
        let generated = generated_many L in
        omega (arith, length-append own_funcs (from_members (stub_types L n) 0 L.set.members ++ generated_types L))

    pub few_funcs : length merged.funcs ≤ 33555974
    few_funcs = (let all = funcs_many in let bytes = few_bytes L set in let members = few_members L set in omega arith)

    pub few_codes : length merged.codes ≤ 33555974
    few_codes =
        let own = few_of L set (λ m wasm. map (renumbered_code n m) wasm.codes) (λ k y few. (let all = few.all in omega (arith, length-map y.wasm.codes (renumbered_code n k)))) in
        let stubs = stub_codes_many in
        let bytes = few_bytes L set in
        let members = few_members L set in
        let rest = length-append (from_members (stub_codes L) 0 L.set.members) generated_codes in
        let types = generated_many L in
        let same = generated_codes_many in
        omega (arith, length-append own_codes (from_members (stub_codes L) 0 L.set.members ++ generated_codes))

    pub no_type : function_type merged nowhere ≡ None
    no_type =
        let all = length-append (imports_of functions_in merged.imports) merged.funcs in
        let many = host_many in
        let hosts = few_hosts L set in
        let bytes = few_bytes L set in
        let few = few_funcs in
        ap (λ (o : Option ℕ). o >>= slice_get merged.types) (slice_get_past (function_space merged) nowhere (omega arith))

    pub no_function : function_at merged nowhere ≡ None
    no_function =
        let many = host_many in
        let hosts = few_hosts L set in
        let bytes = few_bytes L set in
        let few = few_codes in
        let place : imported_count merged + (nowhere - imported_count merged) ≡ nowhere = omega arith in
        ap (function_at merged) (sym place) ∙ own_at merged (nowhere - imported_count merged)
        ∙ ap (λ (o : Option Code). o >>= λ y. function_type merged (imported_count merged + (nowhere - imported_count merged)) >>= λ ty. Some (function_with ty y))
        (slice_get_past merged.codes (nowhere - imported_count merged) (omega arith))
