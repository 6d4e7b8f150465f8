-- The board after a further turn, with the answer to the call at which it stopped.
use Rattle.std.proofs.Common.{◌≡◌, ◌<◌, ◌≤◌, ◌+◌, ◌-◌, ℕ, true, false, List, [], ◌∷◌, ◌++◌, length, take, slice_get, slice_set, Some, Result, Ok, refl, sym, ap, ◌∙◌, subst, arith}
use Rattle.std.specs.Option.{option_map}
use Rattle.std.proofs.lemmas.List.{length-map, length_push, map-set, set-set, take_at}
use Rattle.std.proofs.lemmas.List.Elements.{All-set}
use Rattle.std.proofs.lemmas.Option.{slice_get-map}
use Rattle.spec_hosts.specs.wasm_form.declared.memory.Memory.{Memory}
use Rattle.spec_hosts.specs.wasm_form.declared.runtime.Answer.{Answer}
use Rattle.spec_hosts.specs.spec_runs.Systems.{event_at, event}
use Rattle.spec_hosts.specs.spec_runtime.Memories.{MemoryInstance}
use Rattle.spec_hosts.specs.spec_runtime.Hosts.{answer_fits}
use Rattle.spec_hosts.specs.spec_runtime.Recorded.{Recorded}
use Rattle.spec_hosts.specs.spec_runtime.Courses.{Course, memory_at, IsAt, is_waiting, with_answer}
use Rattle.spec_hosts.specs.Devices.{Devices}
use Rattle.spec_hosts.specs.Hosted.{Embedder, IsHosted, BreaksOff}
use Rattle.spec_hosts.specs.Ends.{are_many}
use Rattle.spec_hosts.proofs.Fronts.{asked_broken}
use Rattle.spec_loading.specs.spec_linking.LinkedSets.{LinkedSet}
use Rattle.spec_boards.specs.declared.turn.Stop.{Stop}
use Rattle.spec_boards.specs.declared.turn.Stop.TheVariants as stop
use Rattle.spec_boards.specs.Turns.{Place, reached, Turned, turn_of}
use Rattle.spec_boards.specs.BoardRuns.{IsBoardCut}
use Rattle.spec_boards.proofs.Standing.{map_set_same}
use Rattle.spec_boards.proofs.Extending.{turned_given, turned_few}
use Rattle.spec_boards.proofs.Playing.{SomeGoesOn, IsPicked, cut_here, cut_at_call, played_silent, played_answered}
use Rattle.spec_boards.proofs.Ending.{stops_waiting}
use Rattle.dyl_store.specs.Stores.{set_course}
use Rattle.slice_board.specs.Taken.{next_turn, place_of, IsTurnOf, MadeTurn}
use Rattle.slice_board.specs.declared.board.Seat.{Seat}
use Rattle.slice_exec.specs.declared.tally.Tally.{Tally}
use Rattle.slice_exec.specs.Playing.{sets_in, places_in, written_by, written_in, IsSeated, IsFreeSeat, SomeGoes, CallGives, IsAtRound}
use Rattle.wasm_exec.specs.Driving.{IsFree}
use Rattle.wasm_exec.proofs.Limits.{free_append}
use Rattle.slice_exec.proofs.Frees.{turn_free}
use Rattle.slice_exec.proofs.Lists.{all_at}

-- the set of a program
pub set_there : (seats : List Seat) (i : ℕ) (s : Seat) → slice_get seats i ≡ Some s → slice_get (sets_in seats) i ≡ Some s.store.linked
set_there seats i s at = slice_get-map (λ (s : Seat). s.store.linked) seats i ∙ ap (option_map (λ (s : Seat). s.store.linked)) at

-- memory was wanting
pub cut : (Ls : List LinkedSet) (most slice turns : ℕ) (pick : ℕ → ℕ → ℕ → Type 0) (embedder : Embedder) (seats : List Seat) (turn : ℕ) (tally : Tally) (begun now : Devices)
    → IsAtRound Ls most slice turns pick embedder seats turn tally begun now → IsBoardCut set_course Ls most slice turns pick embedder begun now
cut Ls most slice turns pick embedder seats turn tally begun now here = cut_here set_course Ls most slice turns pick embedder tally.picks.items (places_in seats) begun now here.played

module _ (most slice turns : ℕ) (pick : ℕ → ℕ → ℕ → Type 0) (embedder : Embedder) (seats : List Seat) (turn : ℕ) (tally : Tally) (begun now : Devices)
    (here : IsAtRound (sets_in seats) most slice turns pick embedder seats turn tally begun now) (few : turns < 4294967296) (lt : length tally.picks.items < turns) (goes : SomeGoes most seats)
    (p : ℕ) (picked : pick turn (length seats) p) (old new : Seat) (there : slice_get seats p ≡ Some old) (linked : new.store.linked ≡ old.store.linked) (most_same : new.most ≡ old.most)
    (steps : ℕ) (why : Stop) (made : MadeTurn slice old new steps why) where
  abbrev Ls : List LinkedSet
  Ls = sets_in seats

  abbrev L : LinkedSet
  L = old.store.linked

  abbrev C : Course
  C = set_course L

  abbrev x : Place
  x = place_of old.store.run

  abbrev t : Turned
  t = turn_of C most slice x

  place_there : (i : ℕ) (s : Seat) → slice_get seats i ≡ Some s → slice_get (places_in seats) i ≡ Some (place_of s.store.run)
  place_there i s at = slice_get-map (λ (s : Seat). place_of s.store.run) seats i ∙ ap (option_map (λ (s : Seat). place_of s.store.run)) at

  going : SomeGoesOn set_course Ls most slice turns pick embedder (places_in seats)
  going = record {
    other = goes.0;
    program = goes.1.store.linked;
    place = place_of goes.1.store.run;
    there = set_there seats goes.0 goes.1 goes.2;
    at = place_there goes.0 goes.1 goes.2;
    goes_on = goes.3;
  }

  pub turned : IsTurnOf t steps why new.store.run
  turned = subst (λ n. IsTurnOf (turn_of C n slice x) steps why new.store.run) (all_at (λ (s : Seat). s.most ≡ most) seats p old here.limits there) made.taken

  is : IsPicked set_course Ls most slice turns pick embedder tally.picks.items (places_in seats) p L x
  is =
      let count : length seats ≡ length Ls = sym (length-map seats (λ (s : Seat). s.store.linked)) in
      record {
        few = lt;
        picked = subst (λ n. pick n (length Ls) p) here.counted (subst (λ n. pick turn n p) count picked);
        there = set_there seats p old there;
        at = place_there p old there;
        going = going;
      }

  same_given : new.store.run.answers ≡ old.store.run.answers
  same_given = ap (λ (q : Place). q.given) turned.0.1 ∙ turned_given C most slice x 0

  seated_old : IsSeated most old.store.run
  seated_old = all_at (λ (s : Seat). IsSeated most s.store.run) seats p old here.each there

  few_new : new.store.run.steps ≤ most
  few_new = subst (λ n. n ≤ most) (sym (ap (λ (q : Place). q.steps) turned.0.1)) (turned_few C most slice x 0 seated_old.few)

  seated_new : IsSeated most new.store.run
  seated_new = record {
    found = turned.0.0;
    room = subst (λ given. are_many (take (length given - 1) given) ≡ false) (sym same_given) seated_old.room;
    few = few_new;
  }

  -- no limit was due before one of its steps
  free_here : IsFree C new.store.run.steps new.store.run.answers
  free_here =
      let before : IsFree C old.store.run.steps old.store.run.answers = all_at IsFreeSeat seats p old here.free there in
      let turned_free : IsFree C t.place.steps old.store.run.answers = turn_free C most slice x seated_old.room before in
      subst (IsFree C new.store.run.steps) (sym same_given)
      (subst (λ n. IsFree C n old.store.run.answers) (sym (ap (λ (q : Place). q.steps) turned.0.1)) turned_free)

  free_new : IsFreeSeat new
  free_new = subst (λ (M : LinkedSet). IsFree (set_course M) new.store.run.steps new.store.run.answers) (sym linked) free_here

  most_new : new.most ≡ most
  most_new = most_same ∙ all_at (λ (s : Seat). s.most ≡ most) seats p old here.limits there

  counted_new : (told : Tally) → told.picks.items ≡ tally.picks.items ++ p ∷ [] → next_turn turn ≡ length told.picks.items
  counted_new told same =
      let more : length told.picks.items ≡ length tally.picks.items + 1 = ap length same ∙ length_push tally.picks.items p in
      let counted = here.counted in
      omega (arith, more, counted, few, lt)

  pub written_same : written_in (slice_set seats p new) ≡ written_in seats
  written_same = map_set_same (λ (s : Seat). written_by s.store.run.answers) seats p old new there (ap written_by same_given)

  -- ---- no call, or none that is answered

  pub silent : (told : Tally) → told.picks.items ≡ tally.picks.items ++ p ∷ [] → told.written.items ≡ tally.written.items → (why ≡ stop.Waits → are_many new.store.run.answers ≡ true)
      → IsAtRound Ls most slice turns pick embedder (slice_set seats p new) (next_turn turn) told begun now
  silent told same written full = record {
    limits = All-set (λ (s : Seat). s.most ≡ most) seats p new most_new here.limits;
    each = All-set (λ (s : Seat). IsSeated most s.store.run) seats p new seated_new here.each;
    free = All-set IsFreeSeat seats p new free_new here.free;
    counted = counted_new told same;
    written = written ∙ here.written ∙ sym written_same;
    played =
        let places : places_in (slice_set seats p new) ≡ slice_set (places_in seats) p t.place = map-set (λ (s : Seat). place_of s.store.run) seats p new ∙ ap (slice_set (places_in seats) p) turned.0.1 in
        let given : new.store.run.answers ≡ t.place.given = ap (λ (q : Place). q.given) turned.0.1 in
        rw (same, places) (played_silent set_course Ls most slice turns pick embedder tally.picks.items (places_in seats) begun now here.played p L x is
        (λ stops. ap are_many (sym given) ∙ full (sym turned.2 ∙ stops)));
  }

  -- ---- the call at which it stopped

  -- it waits, with no answer
  pub waiting_new : IsAt C new.store.run → why ≡ stop.Waits → is_waiting C new.store.run ≡ true
  waiting_new stands stops = stops_waiting C most slice x new.store.run stands turned.0.1 (turned.2 ∙ stops)

  module _ (stops : why ≡ stop.Waits) (room : are_many new.store.run.answers ≡ false) where
    room_there : are_many t.place.given ≡ false
    room_there = ap are_many (sym (ap (λ (q : Place). q.given) turned.0.1)) ∙ room

    -- memory was wanting for it
    pub cut_call : (r : Result Answer Memory) (after : Devices) → CallGives embedder C new.store.run r now after → IsBoardCut set_course Ls most slice turns pick embedder begun after
    cut_call r after gives =
        cut_at_call set_course Ls most slice turns pick embedder tally.picks.items (places_in seats) begun now here.played p L x is (turned.2 ∙ stops) room_there after
        (subst (λ q. BreaksOff embedder (event C.system (reached C q).state) now after) turned.0.1
        (subst (λ status. BreaksOff embedder (event_at status (memory_at C new.store.run)) now after) (sym gives.1) (asked_broken embedder (gives.0, memory_at C new.store.run) r now after gives.2)))

    pub answered : (told : Tally) (a : Answer) (last : Seat) (after : Devices) → told.picks.items ≡ tally.picks.items ++ p ∷ [] → IsAt C new.store.run → last.store.linked ≡ new.store.linked → last.most ≡ new.most → last.store.run ≡ with_answer new.store.run a
        → told.written.items ≡ written_in (slice_set (slice_set seats p new) p last) → CallGives embedder C new.store.run (Ok a) now after
        → IsAtRound Ls most slice turns pick embedder (slice_set (slice_set seats p new) p last) (next_turn turn) told begun after
    answered told a last after same stands linked_last most_last with written gives = record {
      limits = All-set (λ (s : Seat). s.most ≡ most) (slice_set seats p new) p last (most_last ∙ most_new) (All-set (λ (s : Seat). s.most ≡ most) seats p new most_new here.limits);
      each = All-set (λ (s : Seat). IsSeated most s.store.run) (slice_set seats p new) p last (subst (IsSeated most) (sym with) seated_last) (All-set (λ (s : Seat). IsSeated most s.store.run) seats p new seated_new here.each);
      free = All-set IsFreeSeat (slice_set seats p new) p last free_last (All-set IsFreeSeat seats p new free_new here.free);
      counted = counted_new told same;
      written = written;
      played =
          let next : Place = record t.place { given = t.place.given ++ a ∷ [] } in
          let last_place : place_of last.store.run ≡ next = ap place_of with ∙ ap (λ (q : Place). let r : Place = record q { given = q.given ++ a ∷ [] } in r) turned.0.1 in
          let places : places_in (slice_set (slice_set seats p new) p last) ≡ slice_set (places_in seats) p next =
          ap places_in (set-set seats p new last) ∙ map-set (λ (s : Seat). place_of s.store.run) seats p last ∙ ap (slice_set (places_in seats) p) last_place
          in
          let memory : MemoryInstance = C.system.memory (reached C t.place).state in
          let same_memory : memory_at C new.store.run ≡ memory = ap (λ (q : Place). C.system.memory (reached C q).state) turned.0.1 in
          rw (same, places) (played_answered set_course Ls most slice turns pick embedder tally.picks.items (places_in seats) begun now here.played p L x is room_there a (turned.2 ∙ stops) gives.0
          (ap (λ (q : Place). C.system.status (reached C q).state) (sym turned.0.1) ∙ gives.1)
          (subst (λ m. answer_fits gives.0 m a ≡ true) same_memory gives.3) after (subst (λ m. IsHosted embedder (gives.0, m) a now after) same_memory gives.2));
    }
      where
        free_last : IsFreeSeat last
        free_last =
            let next : IsFree C new.store.run.steps (new.store.run.answers ++ a ∷ []) = free_append C new.store.run.answers (a ∷ []) new.store.run.steps stands.real free_here in
            let run : IsFree C last.store.run.steps last.store.run.answers = subst (λ (y : Recorded). IsFree C y.steps y.answers) (sym with) next in
            subst (λ (M : LinkedSet). IsFree (set_course M) last.store.run.steps last.store.run.answers) (sym (linked_last ∙ linked)) run

        seated_last : IsSeated most (with_answer new.store.run a)
        seated_last = record {
          found = turned.0.0;
          room =
              let more : length (new.store.run.answers ++ a ∷ []) ≡ length new.store.run.answers + 1 = length_push new.store.run.answers a in
              let count : length (new.store.run.answers ++ a ∷ []) - 1 ≡ length new.store.run.answers = omega (arith, more) in
              ap are_many (ap (λ n. take n (new.store.run.answers ++ a ∷ [])) count ∙ take_at new.store.run.answers (a ∷ []) (length new.store.run.answers) refl) ∙ room;
          few = few_new;
        }
