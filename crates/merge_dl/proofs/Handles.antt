-- dlsym: what a handle leads to is searched.
use Rattle.std.proofs.Common.{◌≡◌, ℕ, zero, suc, ◌+◌, ◌*◌, ◌^◌, ◌<◌, ◌≤◌, Bool, true, false, List, [], ◌∷◌, ◌++◌, length, drop, nat_eq, nat_lt, slice_get, Option, Some, None, refl, sym, ap, ◌∙◌, subst, arith, append_assoc, append-nil, mod-eq_of_lt, if◌then◌else◌}
use Rattle.std.specs.List.{All}
use Rattle.std.proofs.lemmas.Bool.Decides.{nat_tests}
use Rattle.std.proofs.lemmas.List.{length-drop}
use Rattle.std.proofs.lemmas.List.Elements.{All-same}
use Rattle.std.proofs.lemmas.Option.{slice_get_past}
use Rattle.wasm_form.specs.declared.instr.Instr.{Instr, Plain, Index}
use Rattle.wasm_form.specs.declared.module.Module.{Module}
use Rattle.wasm_form.specs.declared.runtime.Trap.TheVariants.{MemoryBounds}
use Rattle.wasm_form.specs.declared.runtime.Value.{Value}
use Rattle.wasm_form.specs.declared.runtime.Value.TheVariants.{Num}
use Rattle.spec_loading.specs.spec_runtime.Numerics.{W32}
use Rattle.spec_loading.specs.spec_execution.Values.{low}
use Rattle.spec_loading.specs.spec_execution.Activations.{one_if}
use Rattle.spec_loading.specs.spec_linking.Sets.{Member}
use Rattle.spec_loading.specs.spec_linking.Orders.{closure}
use Rattle.spec_loading.specs.spec_linking.Gathering.{IsSet}
use Rattle.spec_loading.specs.spec_linking.LinkedSets.{LinkedSet}
use Rattle.spec_loading.specs.spec_linking.Links.{Links}
use Rattle.spec_loading.specs.declared.answers.Finding.{Finding}
use Rattle.spec_loading.specs.declared.answers.Finding.TheVariants as finding
use Rattle.spec_loading.specs.LoaderAnswers.{bad_handle_error, is_placed, find_named, handle_list, symbol_answer, string_at, no_symbol_error}
use Rattle.spec_loading.specs.SetCosts.{named_cost, tries_cost, symbol_cost}
use Rattle.spec_loading.proofs.of_spec_safety.Lookups.{got}
use Rattle.merge_start.specs.Words.{Starts, number}
use Rattle.merge_start.specs.Running.{Changing}
use Rattle.merge_start.proofs.Reaching.{does_number, does_global, does_less}
use Rattle.spec_loading.proofs.InsideSets.{closure_inside}
use Rattle.merge_dl.specs.Words.{Finders, when, fault_code, tries_code, handle_code, handles_code, libraries, symbol_call_code, tries_then, promoted_code}
use Rattle.merge_dl.proofs.Sites.{Outcome, Passes, Fails, Runs, Answers, runs_then, runs_ends, runs_does, runs_get, runs_set, runs_when, runs_over, answers_runs, runs_more}
use Rattle.merge_dl.proofs.Grounds.{Ground, runs_length, fails_length}
use Rattle.merge_dl.proofs.Preferred.{PlacesHeld, promoted_steps, runs_promoted}
use Rattle.merge_dl.proofs.Tries.{runs_fault, runs_if_local, runs_not_local, finding_outcome, finding_ends, search_locals, sought, tries_then_cost, runs_tries}

-- what a handle of a member comes to
abbrev pub placed_finding : LinkedSet → List ℕ → List ℕ → ℕ → Finding
placed_finding L stages s j = if is_placed (slice_get stages j) then sought L s (closure L.set j) else finding.Refused bad_handle_error

low_small : (k : ℕ) → k < 2 ^ 32 → low W32 k ≡ k
low_small k small = mod-eq_of_lt small

pub not_zero : (k : ℕ) → nat_eq (suc k) 0 ≡ false
not_zero k = grind (arith, nat_tests)

pub low_some : (stage : ℕ) → stage ≤ 4 → nat_lt 0 stage ≡ true → (k : ℕ) × (low W32 stage ≡ suc k)
low_some zero small q = absurd (let no : 0 < 0 = grind (arith, nat_tests) in omega (arith, no))
low_some (suc k) small q = (k, low_small (suc k) (omega arith))

module _ {L : LinkedSet} {x : Starts} {d : Finders} {merged : Module} {stages : List ℕ} {c : Changing} (ground : Ground L x d merged stages c)
    {promoted : List ℕ} (placed : PlacesHeld L x promoted c) (set : IsSet L.set) (links : Links L) (h p : ℕ) (s : List ℕ) (known : string_at c.memory (low W32 p) ≡ Some s) where
  abbrev ls : ℕ → List Value
  ls v = search_locals h p s v 0 0

  tries : (ms : List ℕ) → All (λ m. m < length L.set.members) ms → (v : ℕ)
      → Runs merged x 1 (tries_cost L (length s) ms + 5) (tries_code d ms) c (ls v) [] (finding_outcome c d (sought L s ms))
  tries ms all v =
      subst (λ list. Runs merged x 1 (tries_cost L (length s) ms + 5) (tries_code d ms) c (ls v) [] (finding_outcome c d (sought L s list))) (append-nil ms)
      (runs_tries merged x c ground.bounded h p s known L links d ground.finds 0 0 (fault_code d no_symbol_error 0) [] 5
      (λ u. runs_fault (ls u) d no_symbol_error 0 ground.old (omega arith) (omega arith) ground.held) ms all v)

  -- the startup list, and then what is promoted
  tries_all : (ms : List ℕ) → All (λ m. m < length L.set.members) ms → (v : ℕ)
      → Runs merged x 1 (tries_cost L (length s) ms + promoted_steps L promoted s) (tries_then d (promoted_code L x d) ms) c (ls v) [] (finding_outcome c d (sought L s (ms ++ promoted)))
  tries_all ms all v =
      runs_tries merged x c ground.bounded h p s known L links d ground.finds 0 0 (promoted_code L x d) promoted (promoted_steps L promoted s)
      (λ u. runs_promoted merged x c ground.bounded h p s known L links d ground.finds promoted placed ground.old ground.held u 0) ms all v

  refuses : (v : ℕ) → Runs merged x 1 5 (fault_code d bad_handle_error 0) c (ls v) [] (finding_outcome c d (finding.Refused bad_handle_error))
  refuses v = runs_fault (ls v) d bad_handle_error 0 ground.old (omega arith) (omega arith) ground.held

  -- the member's guard is read
  abbrev guard_code : ℕ → List Instr
  guard_code m = Index 0x23 (x.guards + m) ∷ when (tries_code d (closure L.set m)) ∷ fault_code d bad_handle_error 0

  at_guard : (v m stage : ℕ) → m < length L.set.members → slice_get stages m ≡ Some stage
      → Runs merged x 1 (8 + tries_cost L (length s) (closure L.set m)) (guard_code m) c (ls v) [] (finding_outcome c d (placed_finding L stages s m))
  at_guard v m stage lt held =
      let same : placed_finding L stages s m ≡ (if nat_lt 0 stage then sought L s (closure L.set m) else finding.Refused bad_handle_error) =
      ap (λ o. if is_placed o then sought L s (closure L.set m) else finding.Refused bad_handle_error) held in
      subst (λ f. Runs merged x 1 (8 + tries_cost L (length s) (closure L.set m)) (guard_code m) c (ls v) [] (finding_outcome c d f)) (sym same) (go (nat_lt 0 stage) refl)
    where
      guard : (slice_get c.units.globals (x.guards + m) ≡ Some (Num stage)) × (stage ≤ 4)
      guard = ground.guards m stage held

      reads : Runs merged x 1 1 (Index 0x23 (x.guards + m) ∷ []) c (ls v) [] (Passes c (ls v) (Num stage ∷ []))
      reads = runs_does (ls v) (does_global (x.guards + m) (Num stage) [] guard.0)

      small : stage ≤ 4
      small = guard.1

      go : (z : Bool) → nat_lt 0 stage ≡ z
          → Runs merged x 1 (8 + tries_cost L (length s) (closure L.set m)) (guard_code m) c (ls v) [] (finding_outcome c d (if z then sought L s (closure L.set m) else finding.Refused bad_handle_error))
      go false q =
          let o = finding_outcome c d (finding.Refused bad_handle_error) in
          let none : low W32 stage ≡ 0 = (let zero_stage : stage ≡ 0 = grind (arith, nat_tests) in ap (low W32) zero_stage) in
          runs_more (omega arith) (runs_then o reads (runs_then o (runs_over (tries_code d (closure L.set m)) stage none) (refuses v)))
      go true q =
          let o = finding_outcome c d (sought L s (closure L.set m)) in
          let some : (k : ℕ) × (low W32 stage ≡ suc k) = low_some stage small q in
          let all = closure_inside L.set set m lt in
          runs_more (omega arith) (runs_then o reads
          (runs_ends (fault_code d bad_handle_error 0) o (finding_ends c d (sought L s (closure L.set m)))
          (runs_when stage some.0 o some.1 (finding_ends c d (sought L s (closure L.set m))) (tries (closure L.set m) all v))))

  word_inside : (m : ℕ) → m < length L.set.members → m + 1 < 2 ^ 32
  word_inside m lt = (let few = set.few in omega arith)

  handles : (v j m : ℕ) (members : List Member) → m + length members ≡ length L.set.members → low W32 h ≡ suc j → m ≤ j
      → Runs merged x 1 (12 + 5 * length members + tries_cost L (length s) (closure L.set j)) (handles_code L x d m members ++ fault_code d bad_handle_error 0) c (ls v) [] (finding_outcome c d (placed_finding L stages s j))
  handles v j m [] many e le =
      let sized = ground.sized in
      let past : slice_get stages j ≡ None = slice_get_past stages j (omega arith) in
      let same : placed_finding L stages s j ≡ finding.Refused bad_handle_error =
      ap (λ o. if is_placed o then sought L s (closure L.set j) else finding.Refused bad_handle_error) past in
      subst (λ f. Runs merged x 1 (12 + 5 * 0 + tries_cost L (length s) (closure L.set j)) (fault_code d bad_handle_error 0) c (ls v) [] (finding_outcome c d f)) (sym same)
      (runs_more (omega arith) (refuses v))
  handles v j m (member ∷ members) many e le = go (nat_eq j m) refl (λ lt. handles v j (m + 1) members (omega arith) e lt)
    where
      lt : m < length L.set.members
      lt = omega arith

      rest : List Instr
      rest = handles_code L x d (m + 1) members ++ fault_code d bad_handle_error 0

      result : Outcome
      result = finding_outcome c d (placed_finding L stages s j)

      joined : handle_code L x d m ++ rest ≡ handles_code L x d m (member ∷ members) ++ fault_code d bad_handle_error 0
      joined = sym (append_assoc (handle_code L x d m) (handles_code L x d (m + 1) members) (fault_code d bad_handle_error 0))

      go : (z : Bool) → nat_eq j m ≡ z → (m + 1 ≤ j → Runs merged x 1 (12 + 5 * length members + tries_cost L (length s) (closure L.set j)) rest c (ls v) [] result)
          → Runs merged x 1 (12 + 5 * length (member ∷ members) + tries_cost L (length s) (closure L.set j)) (handles_code L x d m (member ∷ members) ++ fault_code d bad_handle_error 0) c (ls v) [] result
      go true q later =
          let same : m ≡ j = grind (arith, nat_tests) in
          let this : low W32 h ≡ m + 1 = omega arith in
          let sized = ground.sized in
          let stage = got stages m (omega arith) in
          let end = finding_ends c d (placed_finding L stages s j) in
          let body : Runs merged x 1 (8 + tries_cost L (length s) (closure L.set j)) (guard_code m) c (ls v) [] result =
          subst (λ k. Runs merged x 1 (8 + tries_cost L (length s) (closure L.set k)) (guard_code m) c (ls v) [] (finding_outcome c d (placed_finding L stages s k))) same (at_guard v m stage.0 lt stage.1) in
          subst (λ (q : List Instr). Runs merged x 1 (12 + 5 * length (member ∷ members) + tries_cost L (length s) (closure L.set j)) q c (ls v) [] result) joined
          (runs_more (omega arith) (runs_ends rest result end (runs_if_local (ls v) 0 (m + 1) h (guard_code m) result (word_inside m lt) refl this end body)))
      go false q later =
          let other : nat_eq (low W32 h) (m + 1) ≡ false = rw e (grind (arith, nat_tests)) in
          let past : m + 1 ≤ j = grind (arith, nat_tests) in
          subst (λ (q : List Instr). Runs merged x 1 (12 + 5 * length (member ∷ members) + tries_cost L (length s) (closure L.set j)) q c (ls v) [] result) joined
          (runs_more (omega arith) (runs_then result (runs_not_local (ls v) 0 (m + 1) h (guard_code m) (word_inside m lt) refl other) (later past)))

  -- ---- dlsym, once the length of the name is known

  abbrev less_code : List Instr
  less_code = Index 0x20 0 ∷ number 2 ∷ Plain 0x49 ∷ []

  abbrev search_code : List Instr
  search_code = less_code ++ when (tries_then d (promoted_code L x d) L.set.startup) ∷ (handles_code L x d 1 (libraries L) ++ fault_code d bad_handle_error 0)

  less_tested : (v a : ℕ) (z : Bool) → low W32 h ≡ a → nat_lt a 2 ≡ z → Runs merged x 1 3 less_code c (ls v) [] (Passes c (ls v) (Num (one_if z) ∷ []))
  less_tested v a z e q =
      let o = Passes c (ls v) (Num (one_if (nat_lt (low W32 h) (low W32 2))) ∷ []) in
      let same : nat_lt (low W32 h) (low W32 2) ≡ z = ap (λ k. nat_lt k 2) e ∙ q in
      subst (λ b. Runs merged x 1 3 less_code c (ls v) [] (Passes c (ls v) (Num (one_if b) ∷ []))) same
      (runs_then o (runs_get 0 (Num h) [] refl) (runs_then o (runs_does (ls v) (does_number 2 (Num h ∷ []) (omega arith))) (runs_does (ls v) (does_less h 2 []))))

  -- where these members are searched
  abbrev steps : List ℕ → ℕ
  steps ms = 16 + 7 * length L.set.members + tries_cost L (length s) ms

  from_main : (a : ℕ) → low W32 h ≡ a → nat_lt a 2 ≡ true → Runs merged x 1 (steps (L.set.startup ++ promoted)) search_code c (ls 0) [] (finding_outcome c d (sought L s (L.set.startup ++ promoted)))
  from_main a e q =
      let o = finding_outcome c d (sought L s (L.set.startup ++ promoted)) in
      let end = finding_ends c d (sought L s (L.set.startup ++ promoted)) in
      let all = All-same (λ m. m < length L.set.members) L.set.startup (closure L.set 0) set.startup (closure_inside L.set set 0 set.some) in
      let both = tries_then_cost L (length s) L.set.startup promoted in
      runs_more (omega (arith, both)) (runs_then o (less_tested 0 a true e q)
      (runs_ends (handles_code L x d 1 (libraries L) ++ fault_code d bad_handle_error 0) o end (runs_when 1 0 o refl end (tries_all L.set.startup all 0))))

  from_handle : (i : ℕ) → low W32 h ≡ suc (suc i) → Runs merged x 1 (steps (closure L.set (suc i))) search_code c (ls 0) [] (finding_outcome c d (placed_finding L stages s (suc i)))
  from_handle i e =
      let o = finding_outcome c d (placed_finding L stages s (suc i)) in
      let many : 1 + length (libraries L) ≡ length L.set.members = (let some = set.some in let rest = length-drop 1 L.set.members in omega arith) in
      runs_more (omega (arith, many)) (runs_then o (less_tested 0 (suc (suc i)) false e (grind (arith, nat_tests)))
      (runs_then o (runs_over (tries_then d (promoted_code L x d) L.set.startup) 0 refl) (handles 0 (suc i) 1 (libraries L) many e (omega arith))))

  -- what is found by a handle
  by_handle : (a : ℕ) → low W32 h ≡ a → Runs merged x 1 (steps (handle_list L.set promoted a)) search_code c (ls 0) [] (finding_outcome c d (find_named L stages promoted a (Some s)))
  by_handle zero e = from_main 0 e refl
  by_handle (suc zero) e = from_main 1 e refl
  by_handle (suc (suc i)) e = subst (λ f. Runs merged x 1 (steps (closure L.set (suc i))) search_code c (ls 0) [] (finding_outcome c d f)) (sym same) (from_handle i e)
    where
      same : find_named L stages promoted (suc (suc i)) (Some s) ≡ placed_finding L stages s (suc i)
      same = rw (not_zero (suc i), not_zero i) refl

module _ {L : LinkedSet} {x : Starts} {d : Finders} {merged : Module} {stages : List ℕ} {c : Changing} (ground : Ground L x d merged stages c)
    {promoted : List ℕ} (placed : PlacesHeld L x promoted c) (set : IsSet L.set) (links : Links L) (h : ℕ) where
  -- what is done by the length of the string
  abbrev by_length : ℕ → ℕ
  by_length k = 31 + 7 * length L.set.members + tries_cost L k (handle_list L.set promoted (low W32 h))

  pub symbol_answers : (p : ℕ)
      → Answers merged x 1 (symbol_cost L c.memory promoted (low W32 h) (low W32 p)) (symbol_call_code L x d) c (Num h ∷ Num p ∷ Num 0 ∷ Num 0 ∷ Num 0 ∷ Num 0 ∷ [])
      (finding_outcome c d (symbol_answer L stages promoted c.memory (low W32 h) (low W32 p)))
  unfolding symbol_call_code
  symbol_answers p = answers_runs (go (string_at c.memory (low W32 p)) refl)
    where
      begun : List Value
      begun = Num h ∷ Num p ∷ Num 0 ∷ Num 0 ∷ Num 0 ∷ Num 0 ∷ []

      rest : List Instr
      rest = Index 0x21 2 ∷ Index 0x20 0 ∷ number 2 ∷ Plain 0x49 ∷ when (tries_then d (promoted_code L x d) L.set.startup) ∷ (handles_code L x d 1 (libraries L) ++ fault_code d bad_handle_error 0)

      go : (o : Option (List ℕ)) → string_at c.memory (low W32 p) ≡ o
          → Runs merged x 1 (named_cost (length (drop (low W32 p) c.memory.bytes)) by_length o) (Index 0x20 1 ∷ Index 0x10 d.length ∷ rest) c begun [] (finding_outcome c d (find_named L stages promoted (low W32 h) o))
      go None q =
          let o = Fails c MemoryBounds in
          runs_more (omega arith) (runs_then o (runs_get 1 (Num p) [] refl) (runs_ends rest o tt (fails_length ground p begun q)))
      go (Some s) q =
          let o = finding_outcome c d (find_named L stages promoted (low W32 h) (Some s)) in
          runs_more (omega arith) (runs_then o (runs_get 1 (Num p) [] refl) (runs_then o (runs_length ground p begun s q)
          (runs_then o (runs_set 2 (Num (length s)) (Num 0) [] refl) (by_handle ground placed set links h p s q (low W32 h) refl))))
