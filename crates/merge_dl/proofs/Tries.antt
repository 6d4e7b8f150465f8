-- Members are searched in order: what is given is the number of the first definition.
use Rattle.std.proofs.Common.{◌≡◌, ℕ, ◌+◌, ◌*◌, ◌%◌, ◌^◌, ◌<◌, Bool, true, false, List, [], ◌∷◌, ◌++◌, length, nat_eq, slice_get, Some, None, refl, sym, ap, ◌∙◌, subst, arith, mod-eq_of_lt, ⊎_elim}
use Rattle.std.proofs.lemmas.Bool.Decides.{nat_tests}
use Rattle.std.specs.List.{All}
use Rattle.std.proofs.lemmas.List.Elements.{All-head, All-tail}
use Rattle.wasm_form.specs.declared.instr.Instr.{Instr, Plain, Index}
use Rattle.wasm_form.specs.declared.module.Module.{Module}
use Rattle.wasm_form.specs.declared.runtime.Trap.TheVariants.{MemoryBounds}
use Rattle.wasm_form.specs.declared.runtime.Value.{Value}
use Rattle.wasm_form.specs.declared.runtime.Value.TheVariants.{Num}
use Rattle.spec_loading.specs.spec_runtime.Numerics.{W32, W64}
use Rattle.spec_loading.specs.spec_execution.Values.{low}
use Rattle.spec_loading.specs.spec_execution.Activations.{one_if}
use Rattle.spec_loading.specs.spec_linking.Definitions.{Definition, LoaderFunction, HeapBase, HeapEnd, MemberFunction, MemberData, HostFunction, WeakSymbol, Undefined, or_defined, member_definition, searched}
use Rattle.spec_loading.specs.spec_linking.LinkedSets.{LinkedSet}
use Rattle.spec_loading.specs.spec_linking.Slots.{cell_number}
use Rattle.spec_loading.specs.spec_linking.Links.{Links}
use Rattle.spec_loading.specs.declared.answers.Finding.{Finding}
use Rattle.spec_loading.specs.declared.answers.Finding.TheVariants as finding
use Rattle.spec_loading.specs.LoaderAnswers.{found_number, string_at}
use Rattle.spec_loading.specs.SetCosts.{search_cost, exports_count, tries_cost}
use Rattle.merge_match.specs.Bounded.{IsBounded}
use Rattle.merge_start.specs.Words.{Starts}
use Rattle.merge_start.specs.Running.{Changing}
use Rattle.merge_start.specs.Started.{IsWord}
use Rattle.merge_start.proofs.Reaching.{with_global, does_number, does_set, does_eqz}
use Rattle.merge_dl.specs.Words.{Finders, when, return_code, give_code, fault_code, is_local, found_value, try_code, tries_then}
use Rattle.merge_dl.specs.Called.{defined_number, search_value, SearchesMember}
use Rattle.merge_dl.proofs.Operators.{does_equal, does_wide_eqz, does_wrap}
use Rattle.merge_dl.proofs.Sites.{Outcome, Passes, Gives, Fails, IsEnd, Runs, runs_then, runs_ends, runs_does, runs_get, runs_tee, runs_when, runs_when_on, runs_over, runs_return, runs_more}
use Rattle.merge_dl.proofs.Defined.{definition_numbered}
use Rattle.merge_dl.proofs.Candidates.{total}

-- ---- pieces

module _ {merged : Module} {x : Starts} where
  pub runs_give : {c : Changing} (ls : List Value) (k : ℕ) → IsWord k → Runs merged x 1 3 (give_code k) c ls [] (Gives c (Num k))
  runs_give {c} ls k small = runs_then (Gives c (Num k)) (runs_does ls (does_number k [] small)) (runs_return (Num k))

  pub runs_fault : {c : Changing} (ls : List Value) (d : Finders) (e answer : ℕ) (old : Value) → IsWord e → IsWord answer
      → slice_get c.units.globals d.error ≡ Some old
      → Runs merged x 1 5 (fault_code d e answer) c ls [] (Gives (with_global c d.error (Num e)) (Num answer))
  runs_fault {c} ls d e answer old small less held =
      let o = Gives (with_global c d.error (Num e)) (Num answer) in
      runs_then o (runs_does ls (does_number e [] small)) (runs_then o (runs_does ls (does_set d.error (Num e) old [] held)) (runs_give ls answer less))

  -- whether a local is a number
  tested : {c : Changing} (ls : List Value) (v k a : ℕ) (z : Bool) → IsWord k → slice_get ls v ≡ Some (Num a) → nat_eq (low W32 a) k ≡ z
      → Runs merged x 1 3 (is_local v k) c ls [] (Passes c ls (Num (one_if z) ∷ []))
  tested {c} ls v k a z small held e =
      let o = Passes c ls (Num (one_if (nat_eq (low W32 a) (low W32 k))) ∷ []) in
      let same : nat_eq (low W32 a) (low W32 k) ≡ z = ap (nat_eq (low W32 a)) (mod-eq_of_lt small) ∙ e in
      subst (λ b. Runs merged x 1 3 (is_local v k) c ls [] (Passes c ls (Num (one_if b) ∷ []))) same
      (runs_then o (runs_get v (Num a) [] held) (runs_then o (runs_does ls (does_number k (Num a ∷ []) small)) (runs_does ls (does_equal a k []))))

  pub runs_if_local : {c : Changing} {i : ℕ} (ls : List Value) (v k a : ℕ) (p : List Instr) (o : Outcome) → IsWord k → slice_get ls v ≡ Some (Num a)
      → low W32 a ≡ k → IsEnd o → Runs merged x 1 i p c ls [] o → Runs merged x 1 (4 + i) (is_local v k ++ when p ∷ []) c ls [] o
  runs_if_local ls v k a p o small held e end r =
      runs_more (omega arith) (runs_then o (tested ls v k a true small held (let q : nat_eq (low W32 a) k ≡ true = grind (arith, nat_tests) in q)) (runs_when 1 0 o refl end r))

  pub runs_if_local_on : {c : Changing} {i : ℕ} (ls : List Value) (v k a : ℕ) (p : List Instr) → IsWord k → slice_get ls v ≡ Some (Num a)
      → low W32 a ≡ k → Runs merged x 1 i p c ls [] (Passes c ls []) → Runs merged x 1 (5 + i) (is_local v k ++ when p ∷ []) c ls [] (Passes c ls [])
  runs_if_local_on {c} ls v k a p small held e r =
      runs_more (omega arith) (runs_then (Passes c ls []) (tested ls v k a true small held (let q : nat_eq (low W32 a) k ≡ true = grind (arith, nat_tests) in q)) (runs_when_on 1 0 refl r))

  pub runs_not_local : {c : Changing} (ls : List Value) (v k a : ℕ) (p : List Instr) → IsWord k → slice_get ls v ≡ Some (Num a)
      → nat_eq (low W32 a) k ≡ false → Runs merged x 1 5 (is_local v k ++ when p ∷ []) c ls [] (Passes c ls [])
  runs_not_local {c} ls v k a p small held e = runs_then (Passes c ls []) (tested ls v k a false small held e) (runs_over p 0 refl)

-- ---- what a search comes to

-- the outcome of a call that looks for a name
abbrev pub finding_outcome : Changing → Finders → Finding → Outcome
finding_outcome c d finding.Trapped = Fails c MemoryBounds
finding_outcome c d (finding.Refused e) = Gives (with_global c d.error (Num e)) (Num 0)
finding_outcome c d (finding.Address k) = Gives c (Num k)

pub finding_ends : (c : Changing) (d : Finders) (f : Finding) → IsEnd (finding_outcome c d f)
finding_ends c d finding.Trapped = tt
finding_ends c d (finding.Refused e) = tt
finding_ends c d (finding.Address k) = tt

-- a handle, the address of a name, its length, what the last search gave, and what the best of them gave, with its place
abbrev pub search_locals : ℕ → ℕ → List ℕ → ℕ → ℕ → ℕ → List Value
search_locals h p s v w b = Num h ∷ Num p ∷ Num (length s) ∷ Num v ∷ Num w ∷ Num b ∷ []

-- how many steps a member takes at most, where it is searched
abbrev pub each_steps : LinkedSet → List ℕ → ℕ → ℕ
each_steps L s m = 17 + search_cost 8 (exports_count L m) (length s)

pub each_total : (L : LinkedSet) (s : List ℕ) (ms : List ℕ) → total (each_steps L s) ms ≡ tries_cost L (length s) ms
each_total L s [] = refl
each_total L s (m ∷ ms) = (let later = each_total L s ms in omega (arith, later))

pub tries_then_cost : (L : LinkedSet) (k : ℕ) (ms others : List ℕ) → tries_cost L k (ms ++ others) ≡ tries_cost L k ms + tries_cost L k others
tries_then_cost L k [] others = omega arith
tries_then_cost L k (m ∷ ms) others = (let later = tries_then_cost L k ms others in omega (arith, later))

abbrev gets : List Instr
gets = Index 0x20 3 ∷ Plain 0xA7 ∷ return_code

-- whether there was a number
abbrev pub asked : ℕ → ℕ
asked v = one_if (nat_eq (low W32 (one_if (nat_eq (low W64 v) 0))) 0)

abbrev pub sought : LinkedSet → List ℕ → List ℕ → Finding
sought L s ms = found_number (cell_number L s (searched L.set ms s))

pub found_wide : (k : ℕ) → k < 2 ^ 32 → nat_eq (low W64 (found_value k)) 0 ≡ false
found_wide k small = (let whole : low W64 (found_value k) ≡ found_value k = mod-eq_of_lt (omega arith) in rw whole (grind (arith, nat_tests)))

pub found_low : (k : ℕ) → k < 2 ^ 32 → low W64 (found_value k) % 2 ^ 32 ≡ k
found_low k small = (let whole : low W64 (found_value k) ≡ found_value k = mod-eq_of_lt (omega arith) in rw whole (omega arith))

-- the first of two definitions, where it has a number
pub first_numbered : (L : LinkedSet) (s : List ℕ) (d other : Definition) (k : ℕ) → cell_number L s d ≡ Some k → cell_number L s (or_defined d other) ≡ Some k
first_numbered L s (LoaderFunction call) other k e = e
first_numbered L s HeapBase other k e = e
first_numbered L s HeapEnd other k e = e
first_numbered L s (MemberFunction m f) other k e = e
first_numbered L s (MemberData m place) other k e = e
first_numbered L s HostFunction other k e = e
first_numbered L s WeakSymbol other k e = e
first_numbered L s Undefined other k e = absurd cc

module _ (merged : Module) (x : Starts) (c : Changing) (bounded : IsBounded c.memory) (h p : ℕ) (s : List ℕ)
    (known : string_at c.memory (low W32 p) ≡ Some s) (L : LinkedSet) (links : Links L) (d : Finders)
    (finds : (m : ℕ) → m < length L.set.members → SearchesMember 8 L m merged (d.find m)) (w b : ℕ) where
  abbrev locals : ℕ → List Value
  locals v = search_locals h p s v w b

  abbrev value : ℕ → ℕ
  value m = search_value (defined_number L m s)

  pub asks : (m v : ℕ) → m < length L.set.members
      → Runs merged x 1 (7 + search_cost 8 (exports_count L m) (length s)) (Index 0x20 1 ∷ Index 0x20 2 ∷ Index 0x10 (d.find m) ∷ Index 0x22 3 ∷ []) c (locals v) [] (Passes c (locals (value m)) (Num (value m) ∷ []))
  asks m v lt =
      let o = Passes c (locals (value m)) (Num (value m) ∷ []) in
      runs_more (omega arith) (runs_then o (runs_get 1 (Num p) [] refl) (runs_then o (runs_get 2 (Num (length s)) (Num p ∷ []) refl)
      (runs_then o (runs_does (locals v) ((finds m lt).calls c bounded p s known))
      (runs_tee 3 (Num (value m)) (Num v) [] refl))))

  pub tests : (ls : List Value) (v : ℕ) → Runs merged x 1 2 (Plain 0x50 ∷ Plain 0x45 ∷ []) c ls (Num v ∷ []) (Passes c ls (Num (asked v) ∷ []))
  tests ls v = runs_then (Passes c ls (Num (asked v) ∷ [])) (runs_does ls (does_wide_eqz v [])) (runs_does ls (does_eqz (one_if (nat_eq (low W64 v) 0)) []))

  tries_none : (m v : ℕ) → m < length L.set.members → defined_number L m s ≡ None → Runs merged x 1 (each_steps L s m) (try_code d m) c (locals v) [] (Passes c (locals 0) [])
  tries_none m v lt none =
      let zero_value : value m ≡ 0 = ap search_value none in
      let asked_it = subst (λ k. Runs merged x 1 (7 + search_cost 8 (exports_count L m) (length s)) (Index 0x20 1 ∷ Index 0x20 2 ∷ Index 0x10 (d.find m) ∷ Index 0x22 3 ∷ []) c (locals v) [] (Passes c (locals k) (Num k ∷ []))) zero_value (asks m v lt) in
      runs_more (omega arith) (runs_then (Passes c (locals 0) []) asked_it (runs_then (Passes c (locals 0) []) (tests (locals 0) 0) (runs_over gets 0 refl)))

  tries_some : (m v k : ℕ) → m < length L.set.members → defined_number L m s ≡ Some k → k < 2 ^ 32 → Runs merged x 1 (each_steps L s m) (try_code d m) c (locals v) [] (Gives c (Num k))
  tries_some m v k lt some small =
      let some_value : value m ≡ found_value k = ap search_value some in
      let ls = locals (found_value k) in
      let o = Gives c (Num k) in
      let asked_it = subst (λ j. Runs merged x 1 (7 + search_cost 8 (exports_count L m) (length s)) (Index 0x20 1 ∷ Index 0x20 2 ∷ Index 0x10 (d.find m) ∷ Index 0x22 3 ∷ []) c (locals v) [] (Passes c (locals j) (Num j ∷ []))) some_value (asks m v lt) in
      let yes : low W32 (asked (found_value k)) ≡ 1 = rw (found_wide k small) refl in
      let gets_it : Runs merged x 1 4 gets c ls [] o =
      runs_then o (runs_get 3 (Num (found_value k)) [] refl)
      (runs_then o (subst (λ j. Runs merged x 1 1 (Plain 0xA7 ∷ []) c ls (Num (found_value k) ∷ []) (Passes c ls (Num j ∷ []))) (found_low k small) (runs_does ls (does_wrap (found_value k) [])))
      (runs_return (Num k))) in
      runs_more (omega arith) (runs_then o asked_it (runs_then o (tests ls (found_value k)) (runs_when (asked (found_value k)) 0 o yes tt gets_it)))

  -- the others are searched last
  pub runs_tries : (last : List Instr) (others : List ℕ) (i : ℕ) → ((v : ℕ) → Runs merged x 1 i last c (locals v) [] (finding_outcome c d (sought L s others)))
      → (ms : List ℕ) → All (λ m. m < length L.set.members) ms → (v : ℕ)
      → Runs merged x 1 (tries_cost L (length s) ms + i) (tries_then d last ms) c (locals v) [] (finding_outcome c d (sought L s (ms ++ others)))
  runs_tries last others i does [] all v = runs_more (omega arith) (does v)
  runs_tries last others i does (m ∷ ms) all v =
      let later = runs_tries last others i does ms (All-tail (λ k. k < length L.set.members) m ms all) 0 in
      ⊎_elim (none later) some (definition_numbered L links m s)
    where
      lt : m < length L.set.members
      lt = All-head (λ k. k < length L.set.members) m ms all

      none : Runs merged x 1 (tries_cost L (length s) ms + i) (tries_then d last ms) c (locals 0) [] (finding_outcome c d (sought L s (ms ++ others))) → member_definition L.set m s ≡ Undefined
          → Runs merged x 1 (tries_cost L (length s) (m ∷ ms) + i) (tries_then d last (m ∷ ms)) c (locals v) [] (finding_outcome c d (sought L s (m ∷ (ms ++ others))))
      none later e =
          let same : sought L s (m ∷ (ms ++ others)) ≡ sought L s (ms ++ others) = ap (λ z. found_number (cell_number L s (or_defined z (searched L.set (ms ++ others) s)))) e in
          subst (λ f. Runs merged x 1 (tries_cost L (length s) (m ∷ ms) + i) (tries_then d last (m ∷ ms)) c (locals v) [] (finding_outcome c d f)) (sym same)
          (runs_more (omega arith) (runs_then (finding_outcome c d (sought L s (ms ++ others))) (tries_none m v lt (ap (cell_number L s) e)) later))

      some : (k : ℕ) × (defined_number L m s ≡ Some k) × (k < 2 ^ 32)
          → Runs merged x 1 (tries_cost L (length s) (m ∷ ms) + i) (tries_then d last (m ∷ ms)) c (locals v) [] (finding_outcome c d (sought L s (m ∷ (ms ++ others))))
      some t =
          let same : sought L s (m ∷ (ms ++ others)) ≡ finding.Address t.0 =
          ap found_number (first_numbered L s (member_definition L.set m s) (searched L.set (ms ++ others) s) t.0 t.1) in
          subst (λ f. Runs merged x 1 (tries_cost L (length s) (m ∷ ms) + i) (tries_then d last (m ∷ ms)) c (locals v) [] (finding_outcome c d f)) (sym same)
          (runs_more (omega arith) (runs_ends (tries_then d last ms) (Gives c (Num t.0)) tt (tries_some m v t.0 lt t.1 t.2)))
