-- The call of a program of a board that is answered.
use Rattle.std.proofs.Common.{◌≡◌, ◌<◌, ◌+◌, ◌^◌, ℕ, Bool, true, false, ◌||◌, List, [], ◌∷◌, ◌++◌, length, get_or, slice_get, slice_set, nat_le, Some, Result, Ok, Err, sym, ap, ◌∙◌, subst, arith, leb-false}
use Rattle.std.specs.Option.{option_map}
use Rattle.std.proofs.lemmas.List.{map-set}
use Rattle.std.proofs.lemmas.List.Sums.{sum-map, sum_by_push}
use Rattle.std.proofs.lemmas.Option.{same_Some, slice_get-map, slice_get_within, get_or_from_slice_get}
use Rattle.spec_hosts.specs.wasm_form.declared.memory.Memory.{Memory}
use Rattle.spec_hosts.specs.wasm_form.declared.runtime.Answer.{Answer}
use Rattle.spec_hosts.specs.wasm_form.declared.runtime.Trap.{Trap}
use Rattle.spec_hosts.specs.spec_runs.Systems.{Status, Waits}
use Rattle.spec_hosts.specs.spec_runtime.Memories.{MemoryInstance}
use Rattle.spec_hosts.specs.spec_runtime.Hosts.{HostCall, answer_fits}
use Rattle.spec_hosts.specs.spec_runtime.Recorded.{FitsWait}
use Rattle.spec_hosts.specs.spec_runtime.Courses.{status_at, memory_at, with_answer}
use Rattle.spec_hosts.specs.spec_runtime.Recorded.{Recorded}
use Rattle.spec_hosts.specs.Devices.{Devices}
use Rattle.spec_hosts.specs.Ends.{bytes_written, are_many}
use Rattle.wasm_machine.specs.Steps.{Awaits}
use Rattle.dyl_store.specs.Stores.{StoreRun, set_course}
use Rattle.host_calls.specs.declared.hosts.Hosts.{Hosts}
use Rattle.slice_board.specs.Taken.{Answers}
use Rattle.slice_board.specs.declared.board.Seat.{Seat}
use Rattle.slice_exec.specs.Playing.{written_by, written_in, IsAsking, Asks, Serves}
use Rattle.slice_exec.proofs.Calling.{unanswered}

-- ---- how much was written

written_more : (given : List Answer) (a : Answer) → written_by (given ++ a ∷ []) ≡ written_by given + bytes_written a
written_more given a = sum-map bytes_written (given ++ a ∷ []) ∙ sum_by_push bytes_written given a ∙ ap (λ n. n + bytes_written a) (sym (sum-map bytes_written given))

or_second : (a b : Bool) → (a || b) ≡ false → b ≡ false
or_second false b e = e
or_second true b e = absurd cc

few_written : (given : List Answer) → are_many given ≡ false → written_by given < 268435456
few_written given few = leb-false 268435456 (written_by given) (or_second (nat_le 1048576 (length given)) (nat_le 268435456 (written_by given)) few)

module _ (p : ℕ) (seats : List Seat) (written : List ℕ) (s : Seat) (at : slice_get seats p ≡ Some s) (counted : written ≡ written_in seats) where
  written_there : slice_get written p ≡ Some (written_by s.store.run.answers)
  written_there = ap (λ l. slice_get l p) counted ∙ slice_get-map (λ (s : Seat). written_by s.store.run.answers) seats p ∙ ap (option_map (λ (s : Seat). written_by s.store.run.answers)) at

  pub written_within : p < length written
  written_within = slice_get_within written p (written_by s.store.run.answers) written_there

  pub written_at : (n : ℕ) → n ≡ get_or written p n → n ≡ written_by s.store.run.answers
  written_at n is = is ∙ get_or_from_slice_get written p (written_by s.store.run.answers) n written_there

  pub sum_fits : (n bytes : ℕ) → n ≡ get_or written p n → are_many s.store.run.answers ≡ false → bytes < 2 ^ 127 → n + bytes < 2 ^ 128
  sum_fits n bytes is few below =
      let same = written_at n is in
      let less = few_written s.store.run.answers few in
      omega (arith, same, less, below)

  -- with a further answer
  pub written_new : (n bytes : ℕ) (a : Answer) (t : Seat) → n ≡ get_or written p n → bytes ≡ bytes_written a → t.store.run ≡ with_answer s.store.run a → slice_set written p (n + bytes) ≡ written_in (slice_set seats p t)
  written_new n bytes a t is told with =
      let more : n + bytes ≡ written_by t.store.run.answers =
      ap (λ m. m + bytes) (written_at n is) ∙ ap (λ m. written_by s.store.run.answers + m) told ∙ sym (written_more s.store.run.answers a) ∙ ap (λ (x : Recorded). written_by x.answers) (sym with)
      in
      ap (slice_set written p) more ∙ ap (λ l. slice_set l p (written_by t.store.run.answers)) counted ∙ sym (map-set (λ (s : Seat). written_by s.store.run.answers) seats p t)

-- ---- the answer

fits_wait : (a : Answer) (status : Status HostCall Trap) (memory : MemoryInstance) (call : HostCall) → status ≡ Waits call → answer_fits call memory a ≡ true → FitsWait a status memory
fits_wait a status memory call waits fits = subst (λ s. FitsWait a s memory) (sym waits) fits

module _ {X : Type 0} {F : X → Type 0} {g : _} (h : Hosts X F g) (p : ℕ) (seats : List Seat) (t : Seat) (u : StoreRun) (at : slice_get seats p ≡ Some t) (same : u ≡ t.store) where
  pub asking_at : (s : Seat) → slice_get seats p ≡ Some s → IsAsking h s.store → IsAsking h u
  asking_at s there asking = subst (IsAsking h) (ap (λ (x : Seat). x.store) (same_Some s t (sym there ∙ at)) ∙ sym same) asking

  pub awaits_at : (a : Answer) (old new : Devices) → IsAsking h u → Asks h u (Ok a) old new → (s : Seat) × (slice_get seats p ≡ Some s) × Awaits (set_course s.store.linked) s.store.run a
  awaits_at a old new asking gives =
      let C = set_course u.linked in
      let awaits : Awaits C u.run a = (unanswered C u.run asking.waiting, asking.found, fits_wait a (status_at C u.run) (memory_at C u.run) gives.0 gives.1 gives.3) in
      (t, at, subst (λ (v : StoreRun). Awaits (set_course v.linked) v.run a) same awaits)

  asks_there : (r : Result Answer Memory) (old new : Devices) → Asks h u r old new → (s : Seat) → slice_get seats p ≡ Some s → Asks h s.store r old new
  asks_there r old new asks s there = subst (λ v. Asks h v r old new) (same ∙ ap (λ (x : Seat). x.store) (same_Some t s (sym at ∙ there))) asks

  -- memory was wanting in asking
  pub unserved_so : (r : Result Answer Memory) (why : Memory) (news : List Seat) (before written : List ℕ) (old new : Devices) → Asks h u r old new → Serves h p (Err why) seats before news written old new
  unserved_so r why news before written old new asks = λ s there. (r, asks_there r old new asks s there)

  -- the answer was recorded, or memory was wanting for that
  pub served_so : (a : Answer) (r : Result (Unit {0}) Memory) (news : List Seat) (before : List ℕ) (n bytes : ℕ) (old new : Devices) → before ≡ written_in seats → n ≡ get_or before p n → bytes ≡ bytes_written a
      → Asks h u (Ok a) old new → Answers p a r seats news → Serves h p r seats before news (slice_set before p (n + bytes)) old new
  served_so a (Ok done) news before n bytes old new counted is told asks answers = λ s there.
      let one : answers.old ≡ s = same_Some answers.old s (sym answers.there ∙ there) in
      let linked : answers.new.store.linked ≡ s.store.linked = answers.linked ∙ ap (λ (x : Seat). x.store.linked) one in
      let with : answers.new.store.run ≡ with_answer s.store.run a = answers.comes ∙ ap (λ (x : Seat). with_answer x.store.run a) one in (
        a,
        answers.new,
        linked,
        answers.most ∙ ap (λ (x : Seat). x.most) one,
        with,
        answers.set,
        written_new p seats before s there counted n bytes a answers.new is told with ∙ ap written_in (sym answers.set),
        asks_there (Ok a) old new asks s there,
      )
  served_so a (Err why) news before n bytes old new counted is told asks answers = λ s there. (Ok a, asks_there (Ok a) old new asks s there)
