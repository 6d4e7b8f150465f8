-- A program on a board fares as the one program of a board.
use Rattle.std.proofs.Common.{◌≡◌, ◌≢◌, ℕ, Bool, true, false, List, [], ◌∷◌, nat_eq, slice_get, Option, Some, None, option_map, refl, sym, ap, ◌∙◌, arith}
use Rattle.std.proofs.lemmas.Bool.Decides.{nat_tests}
use Rattle.std.proofs.lemmas.Option.{slice_get-map}
use Rattle.spec_hosts.specs.wasm_form.declared.runtime.Trap.{Trap}
use Rattle.spec_hosts.specs.wasm_form.declared.runtime.Answer.{Answer}
use Rattle.spec_hosts.specs.spec_runs.Systems.{Status, Moving, Waits, Returned, Exited, Trapped}
use Rattle.spec_hosts.specs.spec_runtime.Memories.{MemoryInstance}
use Rattle.spec_hosts.specs.spec_runtime.Hosts.{HostCall, answer_fits}
use Rattle.spec_hosts.specs.spec_runtime.Courses.{Course}
use Rattle.spec_boards.specs.declared.turn.Stop.{Stop}
use Rattle.spec_boards.specs.declared.turn.Stop.TheVariants as stop
use Rattle.spec_boards.specs.Turns.{Place, reached, Turned}
use Rattle.spec_boards.specs.Boards.{Seat, Served, Board, seated, opened, next_served, answer_after, moved, with_answer, serving, turn_in, served_at, turn_at, turn, turns, board}
use Rattle.spec_boards.specs.Laws.{alone}
use Rattle.spec_boards.proofs.Seats.{get_set}
use Rattle.spec_boards.proofs.Serving.{others_stay}

module _ {P : Type 0} where
  -- a program at a place, with its answer there, if one was served
  abbrev placed : Seat P → Place → Option (Served × List Answer) → Seat P
  placed seat place None = moved seat place
  placed seat place (Some x) = with_answer seat place x

  -- what was served is the same whichever number the program has
  served_same : (seat : Seat P) (place : Place) (i j : ℕ) (memory : MemoryInstance) (status : Status HostCall Trap) (coming : List Answer)
      → placed seat place (next_served i status memory coming) ≡ placed seat place (next_served j status memory coming)
  served_same seat place i j memory (Waits call) [] = refl
  served_same seat place i j memory (Waits call) (a ∷ coming) = go (answer_fits call memory a) refl
    where
      go : (b : Bool) → answer_fits call memory a ≡ b → placed seat place (next_served i (Waits call) memory (a ∷ coming)) ≡ placed seat place (next_served j (Waits call) memory (a ∷ coming))
      go true q = rw q refl
      go false q = rw q refl
  served_same seat place i j memory Moving coming = refl
  served_same seat place i j memory Returned coming = refl
  served_same seat place i j memory (Exited code) coming = refl
  served_same seat place i j memory (Trapped why) coming = refl

  after_same : (seat : Seat P) (place : Place) (x y : Option (Served × List Answer)) → placed seat place x ≡ placed seat place y → (why : Stop)
      → placed seat place (answer_after why x) ≡ placed seat place (answer_after why y)
  after_same seat place x y same stop.Waits = same
  after_same seat place x y same stop.Ended = refl
  after_same seat place x y same stop.StepLimit = refl
  after_same seat place x y same stop.Spent = refl
  after_same seat place x y same stop.Deep = refl

  serving_at : (b : Board P) (i : ℕ) (seat : Seat P) (place : Place) (o : Option (Served × List Answer)) → slice_get b.seats i ≡ Some seat
      → slice_get (serving b i seat place o).seats i ≡ Some (placed seat place o)
  serving_at b i seat place None at = get_set b.seats i (moved seat place) seat at
  serving_at b i seat place (Some x) at = get_set b.seats i (with_answer seat place x) seat at

module _ {P : Type 0} (course : P → Course) (slice : ℕ) where
  -- the program of a seat after its turn, as that of a number
  abbrev next : ℕ → Seat P → Seat P
  next i seat = let t = turn_in course slice seat in placed seat t.place (answer_after t.why (served_at course i seat t))

  next_same : (i j : ℕ) (seat : Seat P) → next i seat ≡ next j seat
  next_same i j seat =
      let t : Turned = turn_in course slice seat in
      let s = (reached (course seat.program) t.place).state in
      let status = (course seat.program).system.status s in
      let memory = (course seat.program).system.memory s in
      after_same seat t.place (next_served i status memory seat.coming) (next_served j status memory seat.coming) (served_same seat t.place i j memory status seat.coming) t.why

  turn_mine : (b : Board P) (i : ℕ) (seat : Seat P) → slice_get b.seats i ≡ Some seat → slice_get (turn course slice b i).seats i ≡ Some (next i seat)
  turn_mine b i seat at =
      let t : Turned = turn_in course slice seat in
      ap (λ (o : Option (Seat P)). slice_get (turn_at course slice b i o).seats i) at ∙ serving_at b i seat t.place (answer_after t.why (served_at course i seat t)) at

  apart : (picks : List ℕ) (b c : Board P) (i : ℕ) (seat : Seat P) → slice_get b.seats i ≡ Some seat → slice_get c.seats 0 ≡ Some seat
      → slice_get (turns course slice b picks).seats i ≡ slice_get (turns course slice c (alone i picks)).seats 0
  apart [] b c i seat at there = at ∙ sym there
  apart (j ∷ picks) b c i seat at there = go (nat_eq i j) refl (λ b c seat at there. apart picks b c i seat at there)
    where
      not_same : j ≡ i → nat_eq i j ≡ false → ⊥
      not_same z q = grind (arith, nat_tests)

      go : (e : Bool) → nat_eq i j ≡ e
          → ((b c : Board P) (seat : Seat P) → slice_get b.seats i ≡ Some seat → slice_get c.seats 0 ≡ Some seat
          → slice_get (turns course slice b picks).seats i ≡ slice_get (turns course slice c (alone i picks)).seats 0)
          → slice_get (turns course slice (turn course slice b j) picks).seats i ≡ slice_get (turns course slice c (alone i (j ∷ picks))).seats 0
      go true q more =
          let same : j ≡ i = grind (arith, nat_tests) in
          let mine : slice_get (turn course slice b j).seats i ≡ Some (next i seat) = ap (λ k. slice_get (turn course slice b k).seats i) same ∙ turn_mine b i seat at in
          let his : slice_get (turn course slice c 0).seats 0 ≡ Some (next i seat) = turn_mine c 0 seat there ∙ ap Some (next_same 0 i seat) in
          rw q (more (turn course slice b j) (turn course slice c 0) (next i seat) mine his)
      go false q more =
          let other : j ≢ i = λ z. not_same z q in
          rw q (more (turn course slice b j) c seat (others_stay course slice b j i other ∙ at) there)

  -- over any picks, as over its own turns alone
  pub seat_alone : (programs : List (P × (ℕ × List Answer))) (picks : List ℕ) (i : ℕ) (x : P × (ℕ × List Answer)) → slice_get programs i ≡ Some x
      → slice_get (board course programs slice picks).seats i ≡ slice_get (board course (x ∷ []) slice (alone i picks)).seats 0
  seat_alone programs picks i x at =
      apart picks (opened programs) (opened (x ∷ [])) i (seated x) (slice_get-map seated programs i ∙ ap (option_map seated) at) refl
