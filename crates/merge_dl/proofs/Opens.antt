-- dlopen: the member of a name is opened.
use Rattle.std.proofs.Common.{◌≡◌, ℕ, zero, suc, ◌+◌, ◌*◌, ◌^◌, ◌<◌, ◌≤◌, Bool, true, false, List, [], ◌∷◌, ◌++◌, length, drop, nat_eq, bit_and, Option, Some, None, unwrap_or, option_map, cond, refl, ap, ◌∙◌, subst, arith, append_assoc, mod-eq_of_lt, if◌then◌else◌}
use Rattle.std.specs.Prelude.{bytes_eq}
use Rattle.std.specs.List.{position_from}
use Rattle.std.proofs.lemmas.Nat.{and_le_r}
use Rattle.std.proofs.lemmas.Bool.Decides.{nat_tests}
use Rattle.wasm_form.specs.declared.instr.Instr.{Instr, Plain, Index}
use Rattle.wasm_form.specs.declared.module.Module.{Module}
use Rattle.wasm_form.specs.declared.runtime.Trap.TheVariants.{MemoryBounds}
use Rattle.wasm_form.specs.declared.runtime.Value.{Value}
use Rattle.wasm_form.specs.declared.runtime.Value.TheVariants.{Num}
use Rattle.spec_loading.specs.spec_runtime.Memories.{MemoryInstance}
use Rattle.spec_loading.specs.spec_runtime.Numerics.{W32}
use Rattle.spec_loading.specs.spec_execution.Values.{low}
use Rattle.spec_loading.specs.spec_execution.Activations.{one_if}
use Rattle.spec_loading.specs.spec_linking.Sets.{Member}
use Rattle.spec_loading.specs.spec_linking.LinkedSets.{LinkedSet}
use Rattle.spec_loading.specs.declared.answers.Opening.{Opening}
use Rattle.spec_loading.specs.declared.answers.Opening.TheVariants as opening
use Rattle.spec_loading.specs.LoaderAnswers.{bad_flags_error, no_module_error, other_flags, global_flag, begin_or, member_named, open_named, open_answer, string_at}
use Rattle.spec_loading.specs.SetCosts.{named_cost, search_cost, open_cost}
use Rattle.merge_start.specs.Words.{Starts, number, promote_code}
use Rattle.merge_pieces.specs.Running.{there}
use Rattle.merge_start.specs.Running.{Changing}
use Rattle.merge_start.proofs.Reaching.{with_global, does_number, does_eqz}
use Rattle.merge_find.specs.Counted.{Comes}
use Rattle.merge_find.specs.Finding.{first_named, search_steps, SearchComes}
use Rattle.merge_dl.specs.Words.{Finders, when, give_code, fault_code, opens_code, named_members, open_goal, members_code, open_call_code, return_code}
use Rattle.merge_dl.proofs.Operators.{does_and}
use Rattle.merge_dl.proofs.Sites.{Outcome, Passes, Gives, Fails, Opens, Runs, Answers, runs_then, runs_ends, runs_does, runs_get, runs_set, runs_when, runs_over, answers_runs, runs_more, OpensThen, IsEnd}
use Rattle.merge_dl.proofs.Calls.{runs_comes}
use Rattle.merge_dl.proofs.Names.{string_lies}
use Rattle.merge_dl.proofs.Grounds.{Ground, runs_length, fails_length}
use Rattle.merge_dl.proofs.Tries.{runs_give, runs_fault}
use Rattle.merge_dl.proofs.Handles.{not_zero}

-- the outcome of a call that opens a name
abbrev pub opening_outcome : LinkedSet → Starts → Changing → Finders → Opening → Outcome
opening_outcome L x c d opening.Main = Gives c (Num 1)
opening_outcome L x c d opening.Trapped = Fails c MemoryBounds
opening_outcome L x c d (opening.Refused e) = Gives (with_global c d.error (Num e)) (Num 0)
opening_outcome L x c d (opening.Begin m) = Opens c m
opening_outcome L x c d (opening.BeginGlobal m) = OpensThen (promote_code L x m) c m

some_word : (k : ℕ) → k < 2 ^ 32 → nat_eq k 0 ≡ false → (j : ℕ) × (low W32 k ≡ suc j)
some_word zero small q = absurd cc
some_word (suc j) small q = (j, mod-eq_of_lt small)

calls : {merged : Module} {x : Starts} (c : Changing) (ls : List Value) (m : ℕ) → Runs merged x 1 0 (Index 0x10 (x.opening m) ∷ return_code) c ls [] (Opens c m)
calls c ls m = record {
  runs = λ w. (
    record { unit = 0; func = w.func; results = 1; locals = ls; values = w.below; rest = Plain 0x0F ∷ w.more; levels = w.levels },
    record { more = w.more; rest = refl; results = refl },
    there,
  );
}

calls_then : {merged : Module} {x : Starts} (c : Changing) (ls : List Value) (m : ℕ) (code : List Instr)
    → Runs merged x 1 0 (Index 0x10 (x.opening m) ∷ (code ++ return_code)) c ls [] (OpensThen code c m)
calls_then c ls m code = record {
  runs = λ w. (
    record { unit = 0; func = w.func; results = 1; locals = ls; values = w.below; rest = (code ++ return_code) ++ w.more; levels = w.levels },
    record { unit = refl; more = w.more; rest = append_assoc code return_code w.more; results = refl },
    there,
  );
}

module _ {L : LinkedSet} {x : Starts} {d : Finders} {merged : Module} {stages : List ℕ} {c : Changing} (ground : Ground L x d merged stages c)
    (comes : SearchComes) (p f : ℕ) (s : List ℕ) (known : string_at c.memory (low W32 p) ≡ Some s) where
  abbrev ls : List Value
  ls = Num p ∷ Num f ∷ Num (length s) ∷ []

  -- some bits of the flags
  masks : (mask : ℕ) → mask < 2 ^ 32 → Runs merged x 1 3 (Index 0x20 1 ∷ number mask ∷ Plain 0x71 ∷ []) c ls [] (Passes c ls (Num (bit_and (low W32 f) mask) ∷ []))
  masks mask small =
      let same : bit_and (low W32 f) (low W32 mask) ≡ bit_and (low W32 f) mask = ap (bit_and (low W32 f)) (mod-eq_of_lt small) in
      let o = Passes c ls (Num (bit_and (low W32 f) (low W32 mask)) ∷ []) in
      subst (λ k. Runs merged x 1 3 (Index 0x20 1 ∷ number mask ∷ Plain 0x71 ∷ []) c ls [] (Passes c ls (Num k ∷ []))) same
      (runs_then o (runs_get 1 (Num f) [] refl) (runs_then o (runs_does ls (does_number mask (Num f ∷ []) small)) (runs_does ls (does_and f mask []))))

  masked_word : (mask : ℕ) → mask < 2 ^ 32 → bit_and (low W32 f) mask < 2 ^ 32
  masked_word mask small = (let le = and_le_r (low W32 f) mask in omega arith)

  -- a member is opened, for itself or so that its closure is promoted
  begun_ends : (m : ℕ) (z : Bool) → IsEnd (opening_outcome L x c d (if z then opening.Begin m else opening.BeginGlobal m))
  begun_ends m true = tt
  begun_ends m false = tt

  runs_opens : (m : ℕ) → Runs merged x 1 5 (opens_code L x m) c ls [] (opening_outcome L x c d (begin_or (low W32 f) (Some m)))
  runs_opens m = go (nat_eq (bit_and (low W32 f) global_flag) 0) refl
    where
      go : (z : Bool) → nat_eq (bit_and (low W32 f) global_flag) 0 ≡ z
          → Runs merged x 1 5 (opens_code L x m) c ls [] (opening_outcome L x c d (if z then opening.Begin m else opening.BeginGlobal m))
      go true q =
          let none : low W32 (bit_and (low W32 f) global_flag) ≡ 0 = (let is_zero : bit_and (low W32 f) global_flag ≡ 0 = grind (arith, nat_tests) in ap (low W32) is_zero) in
          runs_then (Opens c m) (masks global_flag (omega arith))
          (runs_then (Opens c m) (runs_over (Index 0x10 (x.opening m) ∷ (promote_code L x m ++ return_code)) (bit_and (low W32 f) global_flag) none) (calls c ls m))
      go false q =
          let some = some_word (bit_and (low W32 f) global_flag) (masked_word global_flag (omega arith)) q in
          let o = OpensThen (promote_code L x m) c m in
          runs_more (omega arith) (runs_then o (masks global_flag (omega arith))
          (runs_ends (Index 0x10 (x.opening m) ∷ return_code) o tt (runs_when (bit_and (low W32 f) global_flag) some.0 o some.1 tt (calls_then c ls m (promote_code L x m)))))

  abbrev named : ℕ → List Member → Option ℕ
  named m members = position_from (λ y. bytes_eq s y.name) m members

  -- what stands by the name is what opens the member of the name
  named_opens : (m : ℕ) (members : List Member) → first_named (named_members L x m members) s ≡ option_map (opens_code L x) (named m members)
  named_opens m [] = refl
  named_opens m (y ∷ ys) = go (bytes_eq s y.name) (named_opens (m + 1) ys)
    where
      go : (z : Bool) → first_named (named_members L x (m + 1) ys) s ≡ option_map (opens_code L x) (named (m + 1) ys)
          → (if z then Some (opens_code L x m) else first_named (named_members L x (m + 1) ys) s) ≡ option_map (opens_code L x) (cond z (Some m) (named (m + 1) ys))
      go true later = refl
      go false later = later

  abbrev opened : Option ℕ → Outcome
  opened o = opening_outcome L x c d (begin_or (low W32 f) o)

  opened_ends : (o : Option ℕ) → IsEnd (opened o)
  opened_ends None = tt
  opened_ends (Some m) = begun_ends m (nat_eq (bit_and (low W32 f) global_flag) 0)

  runs_opened : (o : Option ℕ) → Runs merged x 1 5 (unwrap_or (option_map (opens_code L x) o) (open_goal d).missed) c ls [] (opened o)
  runs_opened None = runs_fault ls d no_module_error 0 ground.old (omega arith) (omega arith) ground.held
  runs_opened (Some m) = runs_opens m

  named_many : (m : ℕ) (members : List Member) → length (named_members L x m members) ≡ length members
  named_many m [] = refl
  named_many m (y ∷ ys) = ap suc (named_many (m + 1) ys)

  -- what the search of the name takes
  abbrev search : ℕ
  search = search_cost 32 (length L.set.members) (length s)

  opens : Runs merged x 1 (5 + search) (members_code L x d) c ls [] (opened (member_named L.set s))
  opens =
      let o = named 0 L.set.members in
      let r = comes merged (open_goal d) (named_members L x 0 L.set.members) c.units c.memory p s (string_lies c.memory p s known ground.bounded) ls refl refl in
      let among = subst (λ n. Comes merged (search_steps 32 n (length s)) (members_code L x d) c.units c.memory ls (unwrap_or (first_named (named_members L x 0 L.set.members) s) (open_goal d).missed))
      (named_many 0 L.set.members) r in
      runs_more (omega arith) (runs_comes 5 (opened o) (opened_ends o)
      (subst (λ u. Comes merged search (members_code L x d) c.units c.memory ls (unwrap_or u (open_goal d).missed)) (named_opens 0 L.set.members) among) (runs_opened o))

  -- the flags are tested before the name
  abbrev flags : ℕ
  flags = bit_and (low W32 f) other_flags

  abbrev flags_code : List Instr
  flags_code = Index 0x20 1 ∷ number other_flags ∷ Plain 0x71 ∷ []

  reads_flags : Runs merged x 1 3 flags_code c ls [] (Passes c ls (Num flags ∷ []))
  reads_flags = masks other_flags (omega arith)

  flags_word : flags < 2 ^ 32
  flags_word = masked_word other_flags (omega arith)

  some_flags : nat_eq flags 0 ≡ false → (k : ℕ) × (low W32 flags ≡ suc k)
  some_flags q = some_word flags flags_word q

  by_flags : (z : Bool) → nat_eq flags 0 ≡ z
      → Runs merged x 1 (10 + search) (flags_code ++ when (fault_code d bad_flags_error 0) ∷ members_code L x d) c ls []
      (opening_outcome L x c d (if z then begin_or (low W32 f) (member_named L.set s) else opening.Refused bad_flags_error))
  by_flags true q =
      let o = opening_outcome L x c d (begin_or (low W32 f) (member_named L.set s)) in
      let none : low W32 flags ≡ 0 = (let is_zero : flags ≡ 0 = grind (arith, nat_tests) in ap (low W32) is_zero) in
      runs_more (omega arith) (runs_then o reads_flags (runs_then o (runs_over (fault_code d bad_flags_error 0) flags none) opens))
  by_flags false q =
      let o = opening_outcome L x c d (opening.Refused bad_flags_error) in
      let some = some_flags q in
      runs_more (omega arith) (runs_then o reads_flags
      (runs_ends (members_code L x d) o tt
      (runs_when flags some.0 o some.1 tt (runs_fault ls d bad_flags_error 0 ground.old (omega arith) (omega arith) ground.held))))

-- ---- how many steps it takes

-- from where the name is read
abbrev named_steps : LinkedSet → MemoryInstance → ℕ → Option (List ℕ) → ℕ
named_steps L memory at None = 8 * length (drop at memory.bytes) + 7
named_steps L memory at (Some s) = 25 + 8 * length s + search_cost 32 (length L.set.members) (length s)

abbrev pub open_steps : LinkedSet → MemoryInstance → ℕ → ℕ
open_steps L memory zero = 6
open_steps L memory (suc at) = 4 + named_steps L memory (suc at) (string_at memory (suc at))

-- one fewer than it costs
pub open_price : (L : LinkedSet) (memory : MemoryInstance) (at : ℕ) → suc (open_steps L memory at) ≤ open_cost L memory at
open_price L memory zero = omega arith
open_price L memory (suc at) = go (string_at memory (suc at))
  where
    go : (o : Option (List ℕ)) → suc (4 + named_steps L memory (suc at) o)
        ≤ named_cost (length (drop (suc at) memory.bytes)) (λ k. 30 + search_cost 32 (length L.set.members) k) o
    go None = omega arith
    go (Some s) = omega arith

module _ {L : LinkedSet} {x : Starts} {d : Finders} {merged : Module} {stages : List ℕ} {c : Changing} (ground : Ground L x d merged stages c) (comes : SearchComes)
    (p f : ℕ) where
  abbrev begun : List Value
  begun = Num p ∷ Num f ∷ Num 0 ∷ []

  abbrev named_part : List Instr
  named_part =
      Index 0x20 0 ∷ Index 0x10 d.length ∷ Index 0x21 2
      ∷ Index 0x20 1 ∷ number other_flags ∷ Plain 0x71 ∷ when (fault_code d bad_flags_error 0)
      ∷ members_code L x d

  by_string : (o : Option (List ℕ)) → string_at c.memory (low W32 p) ≡ o
      → Runs merged x 1 (named_steps L c.memory (low W32 p) o) named_part c begun [] (opening_outcome L x c d (open_named L (low W32 f) o))
  by_string None q =
      let o = Fails c MemoryBounds in
      runs_more (omega arith) (runs_then o (runs_get 0 (Num p) [] refl)
      (runs_ends (Index 0x21 2 ∷ Index 0x20 1 ∷ number other_flags ∷ Plain 0x71 ∷ when (fault_code d bad_flags_error 0) ∷ members_code L x d)
      o tt (fails_length ground p begun q)))
  by_string (Some s) q =
      let o = opening_outcome L x c d (open_named L (low W32 f) (Some s)) in
      runs_more (omega arith) (runs_then o (runs_get 0 (Num p) [] refl) (runs_then o (runs_length ground p begun s q)
      (runs_then o (runs_set 2 (Num (length s)) (Num 0) [] refl) (by_flags ground comes p f s q (nat_eq (bit_and (low W32 f) other_flags) 0) refl))))

  abbrev whole : List Instr
  whole = Index 0x20 0 ∷ Plain 0x45 ∷ when (give_code 1) ∷ named_part

  tests_zero : (a : ℕ) (z : Bool) → low W32 p ≡ a → nat_eq a 0 ≡ z → Runs merged x 1 2 (Index 0x20 0 ∷ Plain 0x45 ∷ []) c begun [] (Passes c begun (Num (one_if z) ∷ []))
  tests_zero a z e q =
      let o = Passes c begun (Num (one_if (nat_eq (low W32 p) 0)) ∷ []) in
      let same : nat_eq (low W32 p) 0 ≡ z = ap (λ k. nat_eq k 0) e ∙ q in
      subst (λ b. Runs merged x 1 2 (Index 0x20 0 ∷ Plain 0x45 ∷ []) c begun [] (Passes c begun (Num (one_if b) ∷ []))) same
      (runs_then o (runs_get 0 (Num p) [] refl) (runs_does begun (does_eqz p [])))

  by_name : (a : ℕ) → low W32 p ≡ a → Runs merged x 1 (open_steps L c.memory a) whole c begun [] (opening_outcome L x c d (open_answer L c.memory a (low W32 f)))
  by_name zero e =
      runs_more (omega arith) (runs_then (Gives c (Num 1)) (tests_zero 0 true e refl)
      (runs_ends named_part (Gives c (Num 1)) tt (runs_when 1 0 (Gives c (Num 1)) refl tt (runs_give begun 1 (omega arith)))))
  by_name (suc a) e =
      let o = opening_outcome L x c d (open_named L (low W32 f) (string_at c.memory (suc a))) in
      runs_more (omega arith) (runs_then o (tests_zero (suc a) false e (not_zero a))
      (runs_then o (runs_over (give_code 1) 0 refl)
      (subst (λ b. Runs merged x 1 (named_steps L c.memory b (string_at c.memory (suc a))) named_part c begun [] o) e
      (by_string (string_at c.memory (suc a)) (ap (string_at c.memory) e)))))

  pub open_answers : Answers merged x 1 (open_steps L c.memory (low W32 p)) (open_call_code L x d) c begun (opening_outcome L x c d (open_answer L c.memory (low W32 p) (low W32 f)))
  unfolding open_call_code
  open_answers = answers_runs (by_name (low W32 p) refl)
