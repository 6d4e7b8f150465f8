-- Turns over boards of which one program has a further answer to come.
use Rattle.std.proofs.Common.{◌≡◌, ◌≤◌, ℕ, zero, suc, Bool, true, false, List, [], ◌∷◌, ◌++◌, length, map, take, nat_eq, slice_get, slice_set, Option, Some, None, option_map, inl, inr, refl, sym, ap, ◌∙◌, subst, arith, append_assoc}
use Rattle.std.specs.Prelude.{if◌then◌else◌}
use Rattle.std.proofs.lemmas.Bool.{cases_eq, eqb-false}
use Rattle.std.proofs.lemmas.Option.{same_Some, slice_get-map}
use Rattle.spec_hosts.specs.wasm_form.declared.runtime.Answer.{Answer}
use Rattle.spec_hosts.specs.wasm_form.declared.runtime.Trap.{Trap}
use Rattle.spec_hosts.specs.spec_runs.Systems.{Status, Moving, Waits, Returned, Exited, Trapped}
use Rattle.spec_hosts.specs.spec_runtime.Memories.{MemoryInstance}
use Rattle.spec_hosts.specs.spec_runtime.Hosts.{HostCall, answer_fits}
use Rattle.spec_hosts.specs.spec_runtime.Courses.{Course}
use Rattle.spec_boards.specs.declared.turn.Stop.{Stop}
use Rattle.spec_boards.specs.declared.turn.Stop.TheVariants as stop
use Rattle.spec_boards.specs.Turns.{Place, reached, stop_by, stop_at, one_step, on_stop, turned}
use Rattle.spec_boards.specs.Boards.{Seat, Served, Board, opened, next_served, answer_after, moved, with_answer, serving, turn_in, served_at, turn_at, turn, turns, board}
use Rattle.spec_boards.specs.BoardRuns.{given_to}
use Rattle.spec_boards.proofs.Standing.{map_set_same, longer, extended, extended_at, extended_other, extended_none, set_extended, set_extended_other, seated_more, total, seated_total}

-- ---- a turn of one program

module _ (C : Course) (most : ℕ) where
  -- it records no answer
  pub turned_given : (slice : ℕ) (p : Place) (made : ℕ) → (turned C most slice p made).place.given ≡ p.given
  turned_given zero p made = refl
  turned_given (suc slice) p made = go (stop_at C most (suc slice) p) (turned_given slice (one_step p) (suc made))
    where
      go : (o : Option Stop) → (turned C most slice (one_step p) (suc made)).place.given ≡ p.given → (on_stop p made (turned C most slice (one_step p) (suc made)) o).place.given ≡ p.given
      go (Some why) rest = refl
      go None rest = rest

  -- where no cause to stop is due the limit of steps isn't reached
  unlimited : (limited spent deep : Bool) (left : List Answer) (memory : MemoryInstance) (status : Status HostCall Trap) → stop_by limited spent deep left memory status ≡ None → limited ≡ false
  unlimited false spent deep left memory status e = refl
  unlimited true spent deep left memory Moving e = absurd cc
  unlimited true spent deep left memory (Waits call) e = absurd cc
  unlimited true spent deep left memory Returned e = absurd cc
  unlimited true spent deep left memory (Exited code) e = absurd cc
  unlimited true spent deep left memory (Trapped why) e = absurd cc

  -- it makes no more steps than the program may
  pub turned_few : (slice : ℕ) (p : Place) (made : ℕ) → p.steps ≤ most → (turned C most slice p made).place.steps ≤ most
  turned_few zero p made few = few
  turned_few (suc slice) p made few = go (stop_at C most (suc slice) p) refl (λ more. turned_few slice (one_step p) (suc made) more)
    where
      go : (o : Option Stop) → stop_at C most (suc slice) p ≡ o → (suc p.steps ≤ most → (turned C most slice (one_step p) (suc made)).place.steps ≤ most)
          → (on_stop p made (turned C most slice (one_step p) (suc made)) o).place.steps ≤ most
      go (Some why) e more = few
      go None e more =
          let r = reached C p in
          let free : nat_eq p.steps most ≡ false = unlimited (nat_eq p.steps most) (nat_eq (suc slice) 0) (C.deep r.state) r.left (C.system.memory r.state) (C.system.status r.state) e in
          let other = eqb-false p.steps most free in
          more (omega (arith, few, other))

-- without an answer to come none is recorded
pub none_after : (why : Stop) (i : ℕ) (status : Status HostCall Trap) (memory : MemoryInstance) → answer_after why (next_served i status memory []) ≡ None
none_after why i (Waits call) memory = go why
  where
    go : (why : Stop) → answer_after why None ≡ None
    go stop.Waits = refl
    go stop.Ended = refl
    go stop.StepLimit = refl
    go stop.Spent = refl
    go stop.Deep = refl
none_after stop.Waits i Moving memory = refl
none_after stop.Waits i Returned memory = refl
none_after stop.Waits i (Exited code) memory = refl
none_after stop.Waits i (Trapped w) memory = refl
none_after stop.Ended i status memory = refl
none_after stop.StepLimit i status memory = refl
none_after stop.Spent i status memory = refl
none_after stop.Deep i status memory = refl

-- ---- the answer after a turn

-- with a further answer to come behind it
abbrev behind : Answer → Served × List Answer → Served × List Answer
behind a x = (x.0, x.1 ++ a ∷ [])

next_behind : (i : ℕ) (a : Answer) (status : Status HostCall Trap) (memory : MemoryInstance) (c : Answer) (coming : List Answer)
    → next_served i status memory (c ∷ coming ++ a ∷ []) ≡ option_map (behind a) (next_served i status memory (c ∷ coming))
next_behind i a (Waits call) memory c coming = go (answer_fits call memory c)
  where
    x : Served
    x = record { program = i; call = (call, memory); answer = c }

    go : (b : Bool) → (if b then Some (x, coming ++ a ∷ []) else None) ≡ option_map (behind a) (if b then Some (x, coming) else None)
    go true = refl
    go false = refl
next_behind i a Moving memory c coming = refl
next_behind i a Returned memory c coming = refl
next_behind i a (Exited code) memory c coming = refl
next_behind i a (Trapped why) memory c coming = refl

after_behind : (why : Stop) (a : Answer) (i : ℕ) (status : Status HostCall Trap) (memory : MemoryInstance) (coming : List Answer) → (why ≡ stop.Waits → coming ≡ [] → ⊥)
    → answer_after why (next_served i status memory (coming ++ a ∷ [])) ≡ option_map (behind a) (answer_after why (next_served i status memory coming))
after_behind stop.Waits a i status memory [] some = absurd (some refl refl)
after_behind stop.Waits a i status memory (c ∷ coming) some = next_behind i a status memory c coming
after_behind stop.Ended a i status memory coming some = refl
after_behind stop.StepLimit a i status memory coming some = refl
after_behind stop.Spent a i status memory coming some = refl
after_behind stop.Deep a i status memory coming some = refl

-- what is recorded was to come
recorded_total : (why : Stop) (i : ℕ) (status : Status HostCall Trap) (memory : MemoryInstance) (coming : List Answer) (x : Served × List Answer)
    → answer_after why (next_served i status memory coming) ≡ Some x → coming ≡ x.0.answer ∷ x.1
recorded_total stop.Waits i (Waits call) memory [] x e = absurd cc
recorded_total stop.Waits i (Waits call) memory (c ∷ coming) x e = go (answer_fits call memory c) e
  where
    y : Served
    y = record { program = i; call = (call, memory); answer = c }

    go : (b : Bool) → (if b then Some (y, coming) else None) ≡ Some x → c ∷ coming ≡ x.0.answer ∷ x.1
    go true q = ap (λ (z : Served × List Answer). z.0.answer ∷ z.1) (same_Some (y, coming) x q)
    go false q = absurd cc
recorded_total stop.Waits i Moving memory coming x e = absurd cc
recorded_total stop.Waits i Returned memory coming x e = absurd cc
recorded_total stop.Waits i (Exited code) memory coming x e = absurd cc
recorded_total stop.Waits i (Trapped why) memory coming x e = absurd cc
recorded_total stop.Ended i status memory coming x e = absurd cc
recorded_total stop.StepLimit i status memory coming x e = absurd cc
recorded_total stop.Spent i status memory coming x e = absurd cc
recorded_total stop.Deep i status memory coming x e = absurd cc

module _ {P : Type 0} (course : P → Course) (slice : ℕ) where
  -- ---- turns, one more at the end

  pub turns_last : (b : Board P) (picks : List ℕ) (i : ℕ) → turns course slice b (picks ++ i ∷ []) ≡ turn course slice (turns course slice b picks) i
  turns_last b [] i = refl
  turns_last b (j ∷ picks) i = turns_last (turn course slice b j) picks i

  -- ---- what was given and what is to come stay the same

  turn_total : (b : Board P) (i : ℕ) → map total (turn course slice b i).seats ≡ map total b.seats
  turn_total b i = go (slice_get b.seats i) refl
    where
      served : (seat : Seat P) → slice_get b.seats i ≡ Some seat → (o : Option (Served × List Answer))
          → answer_after (turn_in course slice seat).why (served_at course i seat (turn_in course slice seat)) ≡ o
          → map total (serving b i seat (turn_in course slice seat).place o).seats ≡ map total b.seats
      served seat at None e =
          let same = turned_given (course seat.program) seat.most slice seat.place 0 in
          map_set_same total b.seats i seat (moved seat (turn_in course slice seat).place) at (ap (λ g. g ++ seat.coming) same)
      served seat at (Some x) e =
          let t = turn_in course slice seat in
          let s = (reached (course seat.program) t.place).state in
          let same = turned_given (course seat.program) seat.most slice seat.place 0 in
          let coming = recorded_total t.why i ((course seat.program).system.status s) ((course seat.program).system.memory s) seat.coming x e in
          map_set_same total b.seats i seat (with_answer seat t.place x) at
          (append_assoc t.place.given (x.0.answer ∷ []) x.1 ∙ ap (λ g. g ++ x.0.answer ∷ x.1) same ∙ ap (λ l. seat.place.given ++ l) (sym coming))

      go : (o : Option (Seat P)) → slice_get b.seats i ≡ o → map total (turn_at course slice b i o).seats ≡ map total b.seats
      go None q = refl
      go (Some seat) q = served seat q _ refl

  turns_total : (b : Board P) (picks : List ℕ) → map total (turns course slice b picks).seats ≡ map total b.seats
  turns_total b [] = refl
  turns_total b (i ∷ picks) = turns_total (turn course slice b i) picks ∙ turn_total b i

  -- all that a program is ever given, at any place of the run
  pub total_at : (most : ℕ) (ps : List P) (given : List (List Answer)) (picks : List ℕ) (j : ℕ) (seat : Seat P) (answers : List Answer) → length given ≡ length ps → slice_get given j ≡ Some answers
      → slice_get (board course (given_to most ps given) slice picks).seats j ≡ Some seat → total seat ≡ answers
  total_at most ps given picks j seat answers same there at =
      let b = board course (given_to most ps given) slice picks in
      let all : map total b.seats ≡ given = turns_total (opened (given_to most ps given)) picks ∙ seated_total most ps given same in
      same_Some (total seat) answers (sym (ap (option_map total) at) ∙ sym (slice_get-map total b.seats j) ∙ ap (λ l. slice_get l j) all ∙ there)

  -- ---- with a further answer to come

  abbrev pub later : ℕ → Answer → Board P → Board P
  later j a b = record b { seats = extended j a b.seats }

  -- the turn of the program stops at a call only where an answer is to come anyway
  abbrev pub HasMore : Seat P → Type 0
  HasMore seat = (turn_in course slice seat).why ≡ stop.Waits → seat.coming ≡ [] → ⊥

  turn_later : (b : Board P) (j : ℕ) (a : Answer) (i : ℕ) → (i ≡ j → (seat : Seat P) → slice_get b.seats j ≡ Some seat → HasMore seat)
      → turn course slice (later j a b) i ≡ later j a (turn course slice b i)
  turn_later b j a i more = elim (cases_eq i j) [ inl same ↦ mine same | inr other ↦ another other ]
    where
      another_at : (i ≡ j → ⊥) → (o : Option (Seat P)) → turn_at course slice (later j a b) i o ≡ later j a (turn_at course slice b i o)
      another_at other None = refl
      another_at other (Some seat) = served (answer_after (turn_in course slice seat).why (served_at course i seat (turn_in course slice seat)))
        where
          served : (o : Option (Served × List Answer)) → serving (later j a b) i seat (turn_in course slice seat).place o ≡ later j a (serving b i seat (turn_in course slice seat).place o)
          served None = ap (λ l. let new : Board P = record { seats = l; served = b.served } in new) (set_extended_other b.seats j a i (moved seat (turn_in course slice seat).place) other)
          served (Some x) =
              ap (λ l. let new : Board P = record { seats = l; served = b.served ++ x.0 ∷ [] } in new) (set_extended_other b.seats j a i (with_answer seat (turn_in course slice seat).place x) other)

      another : (i ≡ j → ⊥) → turn course slice (later j a b) i ≡ later j a (turn course slice b i)
      another other = ap (turn_at course slice (later j a b) i) (extended_other b.seats j a i other) ∙ another_at other (slice_get b.seats i)

      served_mine : (seat : Seat P) (place : Place) (o : Option (Served × List Answer)) → serving (later j a b) j (longer a seat) place (option_map (behind a) o) ≡ later j a (serving b j seat place o)
      served_mine seat place None = ap (λ l. let new : Board P = record { seats = l; served = b.served } in new) (set_extended b.seats j a (moved seat place))
      served_mine seat place (Some x) = ap (λ l. let new : Board P = record { seats = l; served = b.served ++ x.0 ∷ [] } in new) (set_extended b.seats j a (with_answer seat place x))

      mine_at : ((seat : Seat P) → slice_get b.seats j ≡ Some seat → HasMore seat) → (o : Option (Seat P)) → slice_get b.seats j ≡ o
          → turn_at course slice (later j a b) j (slice_get (extended j a b.seats) j) ≡ later j a (turn_at course slice b j o)
      mine_at has None q = ap (turn_at course slice (later j a b) j) (extended_none b.seats j a q)
      mine_at has (Some seat) q =
          let t = turn_in course slice seat in
          let s = (reached (course seat.program) t.place).state in
          ap (turn_at course slice (later j a b) j) (extended_at b.seats j a seat q)
          ∙ ap (serving (later j a b) j (longer a seat) t.place) (after_behind t.why a j ((course seat.program).system.status s) ((course seat.program).system.memory s) seat.coming (has seat q))
          ∙ served_mine seat t.place (answer_after t.why (served_at course j seat t))

      mine : i ≡ j → turn course slice (later j a b) i ≡ later j a (turn course slice b i)
      mine same =
          subst (λ k. turn course slice (later j a b) k ≡ later j a (turn course slice b k)) (sym same)
          (mine_at (more same) (slice_get b.seats j) refl)

  -- at each place of a run in which it has more
  pub turns_later : (b : Board P) (j : ℕ) (a : Answer) (picks : List ℕ)
      → ((k : ℕ) → slice_get picks k ≡ Some j → (seat : Seat P) → slice_get (turns course slice b (take k picks)).seats j ≡ Some seat → HasMore seat)
      → (k : ℕ) → turns course slice (later j a b) (take k picks) ≡ later j a (turns course slice b (take k picks))
  turns_later b j a picks more zero = refl
  turns_later b j a [] more (suc k) = refl
  turns_later b j a (i ∷ picks) more (suc k) =
      ap (λ c. turns course slice c (take k picks)) (turn_later b j a i (λ same. more 0 (ap Some same)))
      ∙ turns_later (turn course slice b i) j a picks (λ m at. more (suc m) at) k

  -- the same of a run from the opening states
  pub board_later : (most : ℕ) (ps : List P) (given : List (List Answer)) (j : ℕ) (a : Answer) (answers : List Answer) (picks : List ℕ) → length given ≡ length ps → slice_get given j ≡ Some answers
      → ((k : ℕ) → slice_get picks k ≡ Some j → (seat : Seat P) → slice_get (board course (given_to most ps given) slice (take k picks)).seats j ≡ Some seat → HasMore seat)
      → (k : ℕ) → board course (given_to most ps (slice_set given j (answers ++ a ∷ []))) slice (take k picks) ≡ later j a (board course (given_to most ps given) slice (take k picks))
  board_later most ps given j a answers picks same there more k =
      ap (λ l. turns course slice (let b : Board P = record { seats = l; served = [] } in b) (take k picks)) (seated_more most ps given j a answers same there)
      ∙ turns_later (opened (given_to most ps given)) j a picks more k
