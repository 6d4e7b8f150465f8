-- The generated functions have their types and bodies at their numbers in the merged module.
use Rattle.std.proofs.Common.{◌≡◌, ℕ, zero, suc, ◌+◌, ◌-◌, ◌*◌, ◌<◌, List, [], ◌∷◌, ◌++◌, length, replicate, slice_get, Option, Some, refl, ap, ◌∙◌, arith}
use Rattle.std.proofs.Math.Seq.{take-length}
use Rattle.std.proofs.lemmas.List.{length-map, length-replicate}
use Rattle.spec_reading.specs.wasm_form.declared.types.FuncType.{FuncType}
use Rattle.spec_reading.specs.wasm_form.declared.module.Code.{Code}
use Rattle.spec_reading.specs.wasm_form.declared.runtime.Ref.TheVariants.{Own}
use Rattle.spec_reading.specs.spec_binary.Options.{◌>>=◌}
use Rattle.spec_reading.specs.spec_binary.Indices.{nullary, function_type, function_with, function_at}
use Rattle.spec_loading.specs.spec_execution.Instances.{function_named, module_target}
use Rattle.spec_loading.specs.spec_linking.Sets.{Member}
use Rattle.spec_loading.specs.spec_linking.Gathering.{IsSet}
use Rattle.spec_loading.specs.spec_linking.LinkedSets.{LinkedSet, hosts_of}
use Rattle.spec_loading.specs.declared.task.Phase.{Phase}
use Rattle.spec_loading.specs.declared.task.Phase.TheVariants.{Place, Start, Relocate, Construct}
use Rattle.spec_loading.specs.Phases.{stage_of}
use Rattle.spec_loading.specs.Members.{from_members}
use Rattle.merge_match.specs.Renumbering.{Numbers}
use Rattle.merge_match.proofs.JoinedParts.{named_own}
use Rattle.merge_start.specs.Words.{Starts, phase_code, entry_code, nullary_function}
use Rattle.merge_index.specs.Numbering.{sum_of, stubs_of, stubs_before, loader_size}
use Rattle.merge_module.specs.MergedModule.{with_loader, nullary_number, stub_types, loader_funcs, generated_types, stub_codes, phase_codes, loader_codes, plain_code}
use Rattle.merge_module.proofs.StubLists.{lengths_same}
use Rattle.merge_module.proofs.WithLoader.{with_many}
use Rattle.merge_module.proofs.MergedSpaces.{past_front, in_front, loader_size_is, loader_codes_many, host_many, own_funcs, own_codes, type_at, code_at, nullary_there, phases_many, generated_codes}
use Rattle.merge_module.proofs.OwnNumbers.{n, x, merged, own_funcs_many, own_codes_many}

pub repeated_at : {A : Type 0} (count i : ℕ) (a : A) → i < count → slice_get (replicate count a) i ≡ Some a
repeated_at zero i a lt = absurd (omega arith)
repeated_at (suc count) zero a lt = refl
repeated_at (suc count) (suc i) a lt = repeated_at count i a (omega arith)

-- the phases of member j stand behind those of the members before it
phase_at : (L : LinkedSet) (n : Numbers) (x : Starts) (xs : List Member) (k m j : ℕ) (member : Member) → slice_get xs m ≡ Some member → j ≡ k + m → (p : Phase)
    → slice_get (from_members (phase_codes L n x) k xs) (4 * m + (stage_of p - 1)) ≡ Some (plain_code (phase_code L n x j member.wasm p))
phase_at L n x [] k m j member e q p = absurd cc
phase_at L n x (y ∷ ys) k (suc m) j member e q p =
    let four : 4 * suc m + (stage_of p - 1) ≡ suc (suc (suc (suc (4 * m + (stage_of p - 1))))) = omega arith in
    rw four (phase_at L n x ys (k + 1) m j member e (omega arith) p)
phase_at L n x (y ∷ ys) k zero j member e q p = first p
  where
    same : j ≡ k
    same = omega arith

    here : y ≡ member
    here = cc

    first : (p : Phase) → slice_get (from_members (phase_codes L n x) k (y ∷ ys)) (4 * 0 + (stage_of p - 1)) ≡ Some (plain_code (phase_code L n x j member.wasm p))
    first Place = rw (same, ← here) refl
    first Start = rw (same, ← here) refl
    first Relocate = rw (same, ← here) refl
    first Construct = rw (same, ← here) refl

stage_low : (p : Phase) → stage_of p - 1 < 4
stage_low Place = omega arith
stage_low Start = omega arith
stage_low Relocate = omega arith
stage_low Construct = omega arith

module _ (L : LinkedSet) (set : IsSet L.set) where
  abbrev members : List Member
  members = L.set.members

  abbrev codes : ℕ
  codes = sum_of (λ y. length y.codes) L

  stubs_all : stubs_before L (length members) ≡ length (from_members (stubs_of L) 0 members)
  stubs_all = ap (λ xs. length (from_members (stubs_of L) 0 xs)) (take-length members)

  -- ---- the i-th generated function, of the type of this number

  module _ (f i : ℕ) (number : f ≡ length (hosts_of L) + (codes + (stubs_before L (length members) + i))) (t : ℕ) (ty : FuncType)
      (listed : slice_get (generated_types L) i ≡ Some t) (named : slice_get (merged L set).types t ≡ Some ty) where
    abbrev k : ℕ
    k = codes + (stubs_before L (length members) + i)

    pub generated_typed : function_type (merged L set) f ≡ Some ty
    generated_typed =
        let own = own_funcs_many L set in
        let all = stubs_all in
        let types = lengths_same (stub_types L (n L set)) (stubs_of L) (λ m w. length-map (stubs_of L m w) _) 0 members in
        let place : k ≡ length (own_funcs L (n L set) (x L set)) + (stubs_before L (length members) + i) = omega arith in
        let second : stubs_before L (length members) + i ≡ length (from_members (stub_types L (n L set)) 0 members) + i = omega arith in
        let func : slice_get (merged L set).funcs k ≡ Some t =
        ap (slice_get (merged L set).funcs) place ∙ past_front (own_funcs L (n L set) (x L set)) _ (stubs_before L (length members) + i)
        ∙ ap (slice_get (from_members (stub_types L (n L set)) 0 members ++ generated_types L)) second
        ∙ past_front (from_members (stub_types L (n L set)) 0 members) (generated_types L) i ∙ listed in
        type_at L (n L set) (x L set) f k number ∙ ap (λ (o : Option ℕ). o >>= slice_get (merged L set).types) func ∙ named

    pub generated_target : module_target (merged L set) f ≡ Some (Own 0 f)
    generated_target =
        let many = host_many L (n L set) (x L set) in
        ap (λ (o : Option FuncType). o >>= λ ty. Some (function_named (merged L set) f)) generated_typed ∙ ap Some (named_own (merged L set) f (omega arith))

    pub generated_at : (code : Code) → slice_get (generated_codes L (n L set) (x L set)) i ≡ Some code → function_at (merged L set) f ≡ Some (function_with ty code)
    generated_at code at =
        let own = own_codes_many L set in
        let all = stubs_all in
        let stubs = lengths_same (stub_codes L) (stubs_of L) (λ m w. length-map (stubs_of L m w) _) 0 members in
        let place : k ≡ length (own_codes L (n L set) (x L set)) + (stubs_before L (length members) + i) = omega arith in
        let second : stubs_before L (length members) + i ≡ length (from_members (stub_codes L) 0 members) + i = omega arith in
        let there : slice_get (merged L set).codes k ≡ Some code =
        ap (slice_get (merged L set).codes) place ∙ past_front (own_codes L (n L set) (x L set)) _ (stubs_before L (length members) + i)
        ∙ ap (slice_get (from_members (stub_codes L) 0 members ++ generated_codes L (n L set) (x L set))) second
        ∙ past_front (from_members (stub_codes L) 0 members) (generated_codes L (n L set) (x L set)) i ∙ at in
        code_at L (n L set) (x L set) f k code ty number there generated_typed

  -- the phases and the entry function take and give nothing
  pub nullary_listed : (i : ℕ) → i < 4 * length members → slice_get (generated_types L) i ≡ Some (nullary_number L)
  nullary_listed i low =
      in_front (replicate (4 * length members) (nullary_number L)) (with_loader L (loader_funcs L) ++ nullary_number L ∷ []) i (nullary_number L)
      (repeated_at (4 * length members) i (nullary_number L) low)

  abbrev pub last : ℕ
  last = 4 * length members + loader_size L

  pub entry_listed : slice_get (generated_types L) last ≡ Some (nullary_number L)
  entry_listed =
      let phases = replicate (4 * length members) (nullary_number L) in
      let loader = with_loader L (loader_funcs L) in
      let many = length-replicate (4 * length members) (nullary_number L) in
      let size = loader_size_is L in
      let place : last ≡ length phases + (length loader + 0) = omega arith in
      ap (slice_get (generated_types L)) place ∙ past_front phases (loader ++ nullary_number L ∷ []) (length loader + 0)
      ∙ past_front loader (nullary_number L ∷ []) 0

  nullary_is : slice_get (merged L set).types (nullary_number L) ≡ Some nullary
  nullary_is = nullary_there L (n L set) (x L set)

  -- ---- phases

  module _ (m : ℕ) (member : Member) (at : slice_get members m ≡ Some member) (lt : m < length members) (p : Phase) where
    abbrev place_in : ℕ
    place_in = 4 * m + (stage_of p - 1)

    abbrev phase : ℕ
    phase = (x L set).phase m p

    phase_low : place_in < 4 * length members
    phase_low = (let low = stage_low p in omega arith)

    phase_number_is : phase ≡ length (hosts_of L) + (codes + (stubs_before L (length members) + place_in))
    phase_number_is = omega arith

    pub phase_typed : function_type (merged L set) phase ≡ Some nullary
    phase_typed = generated_typed phase place_in phase_number_is (nullary_number L) nullary (nullary_listed place_in phase_low) nullary_is

    pub phase_target : module_target (merged L set) phase ≡ Some (Own 0 phase)
    phase_target = generated_target phase place_in phase_number_is (nullary_number L) nullary (nullary_listed place_in phase_low) nullary_is

    pub phase_there : function_at (merged L set) phase ≡ Some (nullary_function (phase_code L (n L set) (x L set) m member.wasm p))
    phase_there =
        let code = plain_code (phase_code L (n L set) (x L set) m member.wasm p) in
        generated_at phase place_in phase_number_is (nullary_number L) nullary (nullary_listed place_in phase_low) nullary_is code
        (in_front (from_members (phase_codes L (n L set) (x L set)) 0 members) _ place_in code (phase_at L (n L set) (x L set) members 0 m m member at (omega arith) p))

  -- ---- the entry function

  abbrev entry : ℕ
  entry = (x L set).starting

  entry_number_is : entry ≡ length (hosts_of L) + (codes + (stubs_before L (length members) + last))
  entry_number_is = omega arith

  pub entry_typed : function_type (merged L set) entry ≡ Some nullary
  entry_typed = generated_typed entry last entry_number_is (nullary_number L) nullary entry_listed nullary_is

  pub entry_target : module_target (merged L set) entry ≡ Some (Own 0 entry)
  entry_target = generated_target entry last entry_number_is (nullary_number L) nullary entry_listed nullary_is

  pub entry_there : function_at (merged L set) entry ≡ Some (nullary_function (entry_code L (n L set) (x L set)))
  entry_there =
      let phases = from_members (phase_codes L (n L set) (x L set)) 0 members in
      let loader = with_loader L (loader_codes L (n L set) (x L set)) in
      let many = phases_many L (n L set) (x L set) members 0 in
      let same = with_many L (loader_codes L (n L set) (x L set)) (loader_funcs L) (loader_codes_many L (n L set) (x L set)) in
      let size = loader_size_is L in
      let code = plain_code (entry_code L (n L set) (x L set)) in
      let place : last ≡ length phases + (length loader + 0) = omega arith in
      generated_at entry last entry_number_is (nullary_number L) nullary entry_listed nullary_is code
      (ap (slice_get (generated_codes L (n L set) (x L set))) place ∙ past_front phases (loader ++ code ∷ []) (length loader + 0)
      ∙ past_front loader (code ∷ []) 0)
