-- What a linked set has is bounded by the bytes of its files, so the numbers of its functions are numbers of 32 bits.
use Rattle.std.proofs.Common.{◌≡◌, ◌<◌, ◌≤◌, ℕ, ◌+◌, Bool, true, false, List, [], ◌∷◌, length, map, drop, get_or, Option, Some, None, sym, ap, ap₂, subst, ◌∙◌, arith, if◌then◌else◌}
use Rattle.std.specs.Prelude.{IfSome}
use Rattle.std.proofs.lemmas.List.{drop_more, take_all}
use Rattle.wasm_form.specs.declared.module.Module.{Module}
use Rattle.wasm_form.specs.declared.runtime.LoaderCall.TheVariants.{Dlopen, Dlsym, Dlclose, Dlerror}
use Rattle.wasm_form.specs.declared.runtime.Ref.{Ref}
use Rattle.spec_loading.specs.spec_linking.Sets.{Member}
use Rattle.spec_loading.specs.spec_linking.Gathering.{IsSet}
use Rattle.spec_loading.specs.spec_linking.LinkedSets.{LinkedSet}
use Rattle.spec_loading.specs.Members.{from_members, uses_loader}
use Rattle.dyl_link.specs.dyl_search.declared.set.Member as kept
use Rattle.dyl_link.specs.dyl_search.Gathers.{member_of}
use Rattle.dyl_link.specs.Functions.{AreFunctions}
use Rattle.dyl_addresses.specs.Sets.{module_of, wasms}
use Rattle.dyl_addresses.specs.Lists.{size_in, numbers_end}
use Rattle.dyl_addresses.specs.declared.lists.Space.TheVariants.{Codes}
use Rattle.dyl_addresses.specs.Kept.{KeptAddresses}
use Rattle.merge_index.proofs.FewItems.{AreFew, sum_few}
use Rattle.merge_index.specs.Numbering.{host_count, stubs_of, first_phase, first_opening, length_number, first_find, first_call, call_place, loader_numbers}
use Rattle.merge_index.specs.declared.numbers.LoaderNumbers.{LoaderNumbers}
use Rattle.merge_index.specs.Lists.{stub_size, stubs_end, all_stubs_end}
use Rattle.merge_index.proofs.Counted.{few_bytes, few_hosts, few_stubs}
use Rattle.dyl_addresses.proofs.Whole.{of_modules}
use Rattle.merge_index.proofs.Whole.{first_is, first_phase_is}

-- ---- sums go up

total_least : (size : Module → ℕ) (start : ℕ) (xs : List Module) → start ≤ numbers_end size start xs
total_least size start [] = omega arith
total_least size start (x ∷ xs) = (let later = total_least size (start + size x) xs in omega arith)

-- the next number is no more than the last
pub total_room : (size : Module → ℕ) (xs : List kept.Member) (i : ℕ) (x : kept.Member) → i < length xs → x ≡ get_or xs i x → (next all : ℕ)
    → numbers_end size next (map module_of (drop i xs)) ≡ all → next + size (module_of x) ≤ all
total_room size xs i x lt is next all held =
    let rest : drop i xs ≡ x ∷ drop (i + 1) xs = drop_more xs i x lt ∙ ap (λ y. y ∷ drop (i + 1) xs) (sym is) in
    let least = total_least size (next + size (module_of x)) (map module_of (drop (i + 1) xs)) in
    let same : numbers_end size (next + size (module_of x)) (map module_of (drop (i + 1) xs)) ≡ all =
    sym (ap (λ l. numbers_end size next (map module_of l)) rest) ∙ held in
    omega arith

stubs_least : (s : ℕ) (rs : List Ref) → s ≤ stubs_end s rs
stubs_least s [] = omega arith
stubs_least s (r ∷ rs) = (let later = stubs_least (s + stub_size r) rs in omega arith)

pub stubs_room : (rs : List Ref) (i : ℕ) (other : Ref) (size : ℕ) → i < length rs → size ≡ stub_size (get_or rs i other) → (next all : ℕ)
    → stubs_end next (drop i rs) ≡ all → next + size ≤ all
stubs_room rs i other size lt is next all held =
    let r = get_or rs i other in
    let least = stubs_least (next + stub_size r) (drop (i + 1) rs) in
    let same : stubs_end (next + stub_size r) (drop (i + 1) rs) ≡ all = sym (ap (stubs_end next) (drop_more rs i other lt)) ∙ held in
    omega arith

all_least : (s : ℕ) (xs : List (List Ref)) → s ≤ all_stubs_end s xs
all_least s [] = omega arith
all_least s (x ∷ xs) = (let one = stubs_least s x in let later = all_least (stubs_end s x) xs in omega arith)

pub all_room : (xs : List (List Ref)) (i : ℕ) (x : List Ref) → i < length xs → x ≡ get_or xs i x → (next all : ℕ) → all_stubs_end next (drop i xs) ≡ all → stubs_end next x ≤ all
all_room xs i x lt is next all held =
    let rest : drop i xs ≡ x ∷ drop (i + 1) xs = drop_more xs i x lt ∙ ap (λ y. y ∷ drop (i + 1) xs) (sym is) in
    let least = all_least (stubs_end next x) (drop (i + 1) xs) in
    let same : all_stubs_end (stubs_end next x) (drop (i + 1) xs) ≡ all = sym (ap (all_stubs_end next) rest) ∙ held in
    omega arith

-- ---- a set

module _ (L : LinkedSet) (shape : IsSet L.set) where
  pub hosts_few : host_count L < 4294967296
  hosts_few =
      let hosts = few_hosts L shape in
      let bytes = few_bytes L shape in
      omega arith

  codes_each : (x : Member) → AreFew x.wasm x.size → length x.wasm.codes ≤ 0 + x.size
  codes_each x few = (let all = few.all in omega arith)

  phases_most : first_phase L ≤ 50331648
  phases_most =
      let hosts = few_hosts L shape in
      let codes = sum_few (λ w. length w.codes) 0 codes_each L.set.members shape.members in
      let stubs = few_stubs L shape in
      let all = ap (λ ms. length (from_members (stubs_of L) 0 ms)) (take_all (length L.set.members) L.set.members (omega arith)) in
      let bytes = few_bytes L shape in
      omega arith

  pub phases_few : first_phase L < 2147483648
  phases_few = (let most = phases_most in omega arith)

  -- the numbers behind the bodies, where all begins behind the host functions
  codes_few : numbers_end (size_in Codes) (host_count L) (wasms L.set.members) < 4294967296
  codes_few =
      let is = first_is L in
      let most = phases_most in
      omega arith

  -- and behind the stubs
  stubs_few : (refs : List (List Ref)) → AreFunctions L refs → all_stubs_end (numbers_end (size_in Codes) (host_count L) (wasms L.set.members)) refs < 2147483648
  stubs_few refs named =
      let none : KeptAddresses = record { globals = []; tables = []; elems = []; datas = [] } in
      let is = first_phase_is L refs named none in
      let most = phases_most in
      omega arith

  -- the same by what code has of them
  pub ends_few : (hosts first : ℕ) (ms : List kept.Member) (refs : List (List Ref)) → hosts ≡ host_count L → map member_of ms ≡ L.set.members
      → AreFunctions L refs → first ≡ numbers_end (size_in Codes) hosts (map module_of ms) → all_stubs_end first refs < 2147483648
  ends_few hosts first ms refs many list named is =
      subst (λ (n : ℕ). all_stubs_end n refs < 2147483648)
      (sym (is ∙ ap₂ (λ (n : ℕ) (ws : List Module). numbers_end (size_in Codes) n ws) many (of_modules L ms list))) (stubs_few refs named)

  pub totals_few : (hosts : ℕ) (ms : List kept.Member) → hosts ≡ host_count L → map member_of ms ≡ L.set.members
      → numbers_end (size_in Codes) hosts (map module_of ms) < 4294967296
  totals_few hosts ms many list =
      subst (λ (n : ℕ). n < 4294967296) (sym (ap₂ (λ (n : ℕ) (ws : List Module). numbers_end (size_in Codes) n ws) many (of_modules L ms list))) codes_few

  opening_few : first_opening L < 2147483648
  opening_few = (let most = phases_most in let many = shape.few in omega arith)

  length_few : length_number L < 2147483648
  length_few = (let most = phases_most in let many = shape.few in omega arith)

  abbrev found_numbers : LoaderNumbers
  found_numbers = record {
    first_opening = first_opening L;
    length = length_number L;
    first_find = first_find L;
    dlopen = first_call L + call_place Dlopen;
    dlsym = first_call L + call_place Dlsym;
    dlclose = first_call L + call_place Dlclose;
    dlerror = first_call L + call_place Dlerror;
  }

  pub loader_few : (o : Option LoaderNumbers) → o ≡ loader_numbers L → IfSome o (λ l. l.first_opening < 2147483648)
  loader_few o is = subst (λ (x : Option LoaderNumbers). IfSome x (λ l. l.first_opening < 2147483648)) (sym is) (go (uses_loader L))
    where
      go : (b : Bool) → IfSome (if b then Some found_numbers else None) (λ l. l.first_opening < 2147483648)
      go true = opening_few
      go false = tt

  pub loader_length_few : (o : Option LoaderNumbers) → o ≡ loader_numbers L → IfSome o (λ l. l.length < 2147483648)
  loader_length_few o is = subst (λ (x : Option LoaderNumbers). IfSome x (λ l. l.length < 2147483648)) (sym is) (go (uses_loader L))
    where
      go : (b : Bool) → IfSome (if b then Some found_numbers else None) (λ l. l.length < 2147483648)
      go true = length_few
      go false = tt
