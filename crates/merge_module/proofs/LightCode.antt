-- How much the code of the merged module weighs.
use Rattle.std.proofs.Common.{◌≡◌, ℕ, ◌+◌, ◌*◌, ◌≤◌, List, [], ◌∷◌, ◌++◌, length, map, refl, arith}
use Rattle.std.specs.List.{All}
use Rattle.std.proofs.lemmas.List.Elements.{All-head, All-tail}
use Rattle.spec_reading.specs.wasm_form.declared.module.Code.{Code}
use Rattle.spec_reading.specs.wasm_form.declared.module.Module.{Module}
use Rattle.spec_reading.specs.wasm_form.declared.runtime.LoaderCall.TheVariants.{Dlopen, Dlsym, Dlclose, Dlerror}
use Rattle.spec_loading.specs.spec_linking.Sets.{Member}
use Rattle.spec_loading.specs.spec_linking.Gathering.{total_size, IsSet}
use Rattle.spec_loading.specs.spec_linking.LinkedSets.{LinkedSet}
use Rattle.spec_loading.specs.spec_linking.Slots.{linked_plan}
use Rattle.spec_loading.specs.Members.{from_members}
use Rattle.wasm_encode.specs.Weight.{sum_of, import_weight, code_weight, elem_weight, data_weight, export_weight}
use Rattle.merge_match.specs.Renumbering.{Numbers}
use Rattle.merge_match.specs.Joined.{renumbered_code}
use Rattle.merge_start.specs.Words.{Starts, entry_code, open_code}
use Rattle.merge_dl.specs.Words.{length_body, find_body}
use Rattle.merge_index.specs.Numbering.{stubs_of}
use Rattle.merge_module.specs.MergedModule.{with_loader, plain_code, trap_code, stub_codes, phase_codes, finders_of, open_codes, find_codes, call_codes, loader_codes}
use Rattle.merge_module.specs.Laws.{names_bulk}
use Rattle.merge_module.proofs.Known.{IsKnown}
use Rattle.merge_module.proofs.WithLoader.{with_either}
use Rattle.merge_index.proofs.FewItems.{total_cons}
use Rattle.merge_index.proofs.Counted.{few_bytes, few_members, stubs_within}
use Rattle.merge_module.proofs.Opens.{N, X, M}
use Rattle.merge_module.proofs.Weights.{sum_then, sum_same, counted, code_weighs}
use Rattle.merge_module.proofs.Pieces.{trap_step}
use Rattle.merge_module.proofs.GeneratedCode.{phases_light, entry_body, open_body}
use Rattle.merge_module.proofs.LoaderCode.{length_written, find_written, call_written}
use Rattle.merge_find.specs.Shape.{SearchIsSmall}
use Rattle.merge_module.proofs.Bounds.{IsLight}

-- ---- of members

traps : {A : Type 0} (xs : List A) → sum_of code_weight (map (λ f. trap_code) xs) ≡ 4 * length xs
traps [] = refl
traps (x ∷ xs) = (let later = traps xs in let one = trap_step.one in omega arith)

module _ (small : SearchIsSmall) (L : LinkedSet) (n : Numbers) (x : Starts) where
  abbrev own : ℕ → Module → List Code
  own m wasm = map (renumbered_code n m) wasm.codes

  -- what there is for a member, but for what opens it
  member_weighs : (m : ℕ) (y : Member) → IsLight y → y.size ≤ 16777216
      → sum_of code_weight (own m y.wasm) + sum_of code_weight (stub_codes L m y.wasm) + sum_of code_weight (phase_codes L n x m y.wasm) + code_weight (find_body L m y.wasm) ≤ 58 + 8 * y.size
  member_weighs m y is short =
      let less = sum_same (renumbered_code n m) code_weight code_weight (code_weighs n m) y.wasm.codes in
      let stubs = traps (stubs_of L m y.wasm) in
      let few = stubs_within L m y.wasm in
      let imports = counted import_weight (λ i. omega arith) y.wasm.imports in
      let phases = phases_light L n x m y.wasm in
      let exports = counted export_weight (λ e. omega arith) y.wasm.exports in
      let find = (find_written small L m y.wasm (omega arith)).light in
      let elems = counted elem_weight (λ e. omega arith) y.wasm.elems in
      let datas = counted data_weight (λ d. omega arith) y.wasm.datas in
      omega arith

  members_weigh : (k : ℕ) (xs : List Member) → All IsLight xs → total_size xs ≤ 16777216
      → sum_of code_weight (from_members own k xs) + sum_of code_weight (from_members (stub_codes L) k xs) + sum_of code_weight (from_members (phase_codes L n x) k xs)
      + sum_of code_weight (from_members (λ m wasm. find_body L m wasm ∷ []) k xs) ≤ 58 * length xs + 8 * total_size xs
  members_weigh k [] all short = omega arith
  members_weigh k (y ∷ ys) all short =
      let total = total_cons y ys in
      let here = member_weighs k y (All-head IsLight y ys all) (omega arith) in
      let later = members_weigh (k + 1) ys (All-tail IsLight y ys all) (omega arith) in
      let a = sum_then code_weight (own k y.wasm) (from_members own (k + 1) ys) in
      let b = sum_then code_weight (stub_codes L k y.wasm) (from_members (stub_codes L) (k + 1) ys) in
      let c = sum_then code_weight (phase_codes L n x k y.wasm) (from_members (phase_codes L n x) (k + 1) ys) in
      omega arith

  module _ (set : IsSet L.set) where
    opens_weigh : (k : ℕ) (xs : List Member) → k + length xs ≤ length L.set.members
        → sum_of code_weight (from_members (λ m wasm. plain_code (open_code L n x m) ∷ []) k xs) ≤ 1030 * length xs
    opens_weigh k [] le = omega arith
    opens_weigh k (y ∷ ys) le =
        let here = (open_body L n x set k (omega arith)).light in
        let count = few_members L set in
        let later = opens_weigh (k + 1) ys (omega arith) in
        omega arith

    calls_weigh : sum_of code_weight (call_codes L x) ≤ 4941 * length L.set.members + 5 * names_bulk L.set.members + 112
    calls_weigh =
        let d = finders_of L x in
        let a = (call_written small L set x d Dlopen).light in
        let b = (call_written small L set x d Dlsym).light in
        let c = (call_written small L set x d Dlclose).light in
        let e = (call_written small L set x d Dlerror).light in
        omega arith

    -- what there is for the loader, where it is used
    loader_weighs : sum_of code_weight (with_loader L (loader_codes L n x))
        ≤ 5971 * length L.set.members + 5 * names_bulk L.set.members + 131 + sum_of code_weight (find_codes L)
    loader_weighs =
        with_either L (λ l. sum_of code_weight l ≤ 5971 * length L.set.members + 5 * names_bulk L.set.members + 131 + sum_of code_weight (find_codes L))
        (loader_codes L n x) (omega arith) (λ used.
        let opens = opens_weigh 0 L.set.members (omega arith) in
        let calls = calls_weigh in
        let one = length_written.light in
        let a = sum_then code_weight (open_codes L n x) (length_body ∷ (find_codes L ++ call_codes L x)) in
        let b = sum_then code_weight (find_codes L) (call_codes L x) in
        omega arith)

-- ---- the whole

module _ (small : SearchIsSmall) (L : LinkedSet) (K : IsKnown L) (few : (linked_plan L).pages_max ≤ 16384) (light : All IsLight L.set.members) where
  abbrev n : Numbers
  n = N L K few

  abbrev x : Starts
  x = X L K few

  abbrev merged : Module
  merged = M L K few

  abbrev members : List Member
  members = L.set.members

  pub codes_weigh : sum_of code_weight merged.codes ≤ 8 * total_size members + 5 * names_bulk members + 6033 * length members + 137
  codes_weigh =
      let mine = from_members (own small L n x) 0 members in
      let stubs = from_members (stub_codes L) 0 members in
      let phases = from_members (phase_codes L n x) 0 members in
      let last = plain_code (entry_code L n x) in
      let loader = with_loader L (loader_codes L n x) in
      let bytes = few_bytes L K.set in
      let all = members_weigh small L n x 0 members light (omega arith) in
      let more = loader_weighs small L n x K.set in
      let entry = (entry_body L n x K.set).light in
      let a = sum_then code_weight mine (stubs ++ (phases ++ (loader ++ last ∷ []))) in
      let b = sum_then code_weight stubs (phases ++ (loader ++ last ∷ [])) in
      let c = sum_then code_weight phases (loader ++ last ∷ []) in
      let e = sum_then code_weight loader (last ∷ []) in
      omega arith

  pub codes_light : names_bulk members ≤ 16777216 → sum_of code_weight merged.codes ≤ 219800000
  codes_light names = (let all = codes_weigh in let bytes = few_bytes L K.set in let count = few_members L K.set in omega arith)
