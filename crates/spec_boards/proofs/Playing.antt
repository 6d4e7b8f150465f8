-- The run of a board grows by a turn, with the answer to the call at which it stopped.
use Rattle.std.proofs.Common.{◌≡◌, ◌≤◌, ◌<◌, ℕ, zero, suc, ◌+◌, true, false, true≢false, List, [], ◌∷◌, ◌++◌, length, map, take, nat_eq, slice_get, slice_set, Some, ◌⊎◌, inl, inr, refl, sym, ap, ◌∙◌, subst, arith, append-nil, length-append}
use Rattle.std.specs.List.{All}
use Rattle.std.proofs.lemmas.List.{take_all, take_at, take-append-le, map-set, length-map, length-set}
use Rattle.std.proofs.lemmas.List.Elements.{All-nil, All-cons, All-same}
use Rattle.std.proofs.lemmas.Option.{same_Some, slice_get-map}
use Rattle.std.specs.Option.{option_map}
use Rattle.spec_hosts.specs.wasm_form.declared.runtime.Answer.{Answer}
use Rattle.spec_hosts.specs.wasm_form.declared.runtime.Trap.{Trap}
use Rattle.spec_hosts.specs.spec_runs.Systems.{Status, Waits, event}
use Rattle.spec_hosts.specs.spec_runtime.Memories.{MemoryInstance}
use Rattle.spec_hosts.specs.spec_runtime.Hosts.{HostCall, answer_fits}
use Rattle.spec_hosts.specs.spec_runtime.Courses.{Course}
use Rattle.spec_hosts.specs.Devices.{Devices}
use Rattle.spec_hosts.specs.Hosted.{Embedder, IsHosted, Hosted, BreaksOff}
use Rattle.spec_hosts.specs.Ends.{are_many}
use Rattle.spec_hosts.specs.declared.ran.Ran.{Ran}
use Rattle.spec_boards.specs.declared.ran.BoardRan.{BoardRan}
use Rattle.spec_boards.specs.declared.turn.Stop.{Stop}
use Rattle.spec_boards.specs.declared.turn.Stop.TheVariants as stop
use Rattle.spec_boards.specs.Turns.{Place, reached, Turned, turn_of}
use Rattle.spec_boards.specs.Boards.{Seat, Served, Board, seated, next_served, answer_after, moved, with_answer, serving, turn_in, turn_at, turn, board, calls_of, answers_of}
use Rattle.spec_boards.specs.BoardRuns.{is_done, given_to, IsAnswered, MayTurn, IsTurnServed, AreTurns, IsRanAs, IsBoardRun, IsBoardCut}
use Rattle.spec_boards.specs.Played.{stood, given_at, Played}
use Rattle.spec_boards.proofs.Hosting.{served_hosted}
use Rattle.spec_boards.proofs.Standing.{map_set_same, stood_at, is_stood, stood_set, stood_length, longer, extended, get_extended, extended_at, IsExtended, set_over, total}
use Rattle.spec_boards.proofs.Extending.{turned_given, none_after, turns_last, total_at, later, HasMore, board_later}

-- ---- lists with an element more

get_push : {X : Type 0} (xs : List X) (x : X) (k : ℕ) (y : X) → slice_get (xs ++ x ∷ []) k ≡ Some y → ((k < length xs) × (slice_get xs k ≡ Some y)) ⊎ ((k ≡ length xs) × (x ≡ y))
get_push [] x zero y at = inr (refl, same_Some x y at)
get_push [] x (suc k) y at = absurd cc
get_push (z ∷ xs) x zero y at = inl (omega arith, at)
get_push {X} (z ∷ xs) x (suc k) y at = go (get_push xs x k y at)
  where
    go : ((k < length xs) × (slice_get xs k ≡ Some y)) ⊎ ((k ≡ length xs) × (x ≡ y)) → ((suc k < length (z ∷ xs)) × (slice_get xs k ≡ Some y)) ⊎ ((suc k ≡ length (z ∷ xs)) × (x ≡ y))
    go (inl both) = let lt = both.0 in inl (omega arith, both.1)
    go (inr both) = inr (ap suc both.0, both.1)

-- what is so of each of them, over those before it, and of one more
each_push : (Q : ℕ → List ℕ → Type 0) (picks : List ℕ) (i : ℕ) → ((k j : ℕ) → slice_get picks k ≡ Some j → Q j (take k picks)) → Q i picks
    → (k j : ℕ) → slice_get (picks ++ i ∷ []) k ≡ Some j → Q j (take k (picks ++ i ∷ []))
each_push Q picks i each last k j at = elim (get_push picks i k j at) [
  | inl both ↦ let le : k ≤ length picks = omega (arith, both.0) in subst (Q j) (sym (take-append-le k picks (i ∷ []) le)) (each k j both.1)
  | inr both ↦ subst (Q j) (sym (take_at picks (i ∷ []) k (sym both.0))) (subst (λ n. Q n picks) both.1 last)
]

picked_push : (R : ℕ → ℕ → Type 0) (picks : List ℕ) (i : ℕ) → ((k j : ℕ) → slice_get picks k ≡ Some j → R k j) → R (length picks) i → (k j : ℕ) → slice_get (picks ++ i ∷ []) k ≡ Some j → R k j
picked_push R picks i each last k j at = elim (get_push picks i k j at) [
  | inl both ↦ each k j both.1
  | inr both ↦ subst (λ n. R n j) (sym both.0) (subst (R (length picks)) both.1 last)
]

module _ {P : Type 0} where
  given_length : (most : ℕ) (ps : List P) (given : List (List Answer)) → length (given_to most ps given) ≡ length ps
  given_length most [] given = refl
  given_length most (p ∷ ps) [] = ap suc (given_length most ps [])
  given_length most (p ∷ ps) (x ∷ given) = ap suc (given_length most ps given)

  stood_recorded : (most : ℕ) (ps : List P) (places : List Place) → All (λ (seat : Seat P). seat.coming ≡ []) (stood most ps places)
  stood_recorded most [] places = All-nil (λ (seat : Seat P). seat.coming ≡ [])
  stood_recorded most (p ∷ ps) [] = All-nil (λ (seat : Seat P). seat.coming ≡ [])
  stood_recorded most (p ∷ ps) (x ∷ places) = All-cons (λ (seat : Seat P). seat.coming ≡ []) (record { program = p; most = most; place = x; coming = [] }) (stood most ps places) refl (stood_recorded most ps places)

  -- no program has made a step
  abbrev pub none_made : List P → List Place
  none_made ps = map (λ (p : P). record { steps = 0; given = [] }) ps

  opened_stood : (most : ℕ) (ps : List P) → map seated (given_to most ps (given_at (none_made ps))) ≡ stood most ps (none_made ps)
  opened_stood most [] = refl
  opened_stood most (p ∷ ps) = ap (λ l. record { program = p; most = most; place = record { steps = 0; given = [] }; coming = [] } ∷ l) (opened_stood most ps)

-- the call of a turn with the answer that is to come
answered_after : (why : Stop) (i : ℕ) (status : Status HostCall Trap) (memory : MemoryInstance) (call : HostCall) (a : Answer) → why ≡ stop.Waits → status ≡ Waits call → answer_fits call memory a ≡ true
    → answer_after why (next_served i status memory (a ∷ [])) ≡ Some (record { program = i; call = (call, memory); answer = a }, [])
answered_after why i status memory call a stopped waits fits = rw (stopped, waits, fits) refl

module _ {P : Type 0} (course : P → Course) (programs : List P) (most slice most_turns : ℕ) (pick : ℕ → ℕ → ℕ → Type 0) (embedder : Embedder) where
  abbrev Plays : List ℕ → List Place → Devices → Devices → Type 0
  Plays picks places old new = Played course programs most slice most_turns pick embedder picks places old new

  -- before the first turn
  pub none_played : (d : Devices) → Plays [] (none_made programs) d d
  none_played d = record {
    count = length-map programs (λ (p : P). record { steps = 0; given = [] });
    turns = record {
      few = omega arith;
      picked = λ k i at. absurd cc;
      each = λ k i at. absurd cc;
      recorded = All-same (λ (seat : Seat P). seat.coming ≡ []) (map seated (given_to most programs (given_at (none_made programs)))) (stood most programs (none_made programs)) (opened_stood most programs) (stood_recorded most programs (none_made programs));
      hosted = refl;
    };
    stands = opened_stood most programs;
  }

  -- some program could go on
  pub record SomeGoesOn (places : List Place) : Type 0 where
    pub other : ℕ
    pub program : P
    pub place : Place
    pub there : slice_get programs other ≡ Some program
    pub at : slice_get places other ≡ Some place
    pub goes_on : is_done (course program) most place ≡ false

  -- the turn of a program from its place
  pub record IsPicked (picks : List ℕ) (places : List Place) (i : ℕ) (p : P) (x : Place) : Type 0 where
    pub few : length picks < most_turns
    pub picked : pick (length picks) (length programs) i
    pub there : slice_get programs i ≡ Some p
    pub at : slice_get places i ≡ Some x
    pub going : SomeGoesOn places

  module _ (picks : List ℕ) (places : List Place) (old new : Devices) (played : Plays picks places old new) where
    -- memory was wanting
    pub cut_here : IsBoardCut course programs most slice most_turns pick embedder old new
    cut_here = record {
      given = given_at places;
      count = length-map places (λ (p : Place). p.given) ∙ played.count;
      picks = picks;
      middle = new;
      turns = played.turns;
      broken = inl refl;
    }

    -- what is told at the end
    pub board_ran : (r : BoardRan) → r.picks ≡ picks → length r.runs ≡ length programs → map (λ (x : Ran). x.answers) r.runs ≡ given_at places
        → ((i : ℕ) (p : P) (x : Place) (ran : Ran) → slice_get programs i ≡ Some p → slice_get places i ≡ Some x → slice_get r.runs i ≡ Some ran → IsRanAs (nat_eq (length picks) most_turns) (course p) most x ran)
        → IsBoardRun course programs most slice most_turns pick embedder r old new
    board_ran r same count answers ends = record {
      count = count;
      turns = subst (λ ps. AreTurns course (given_to most programs (map (λ (x : Ran). x.answers) r.runs)) slice most_turns pick ps embedder old new) (sym same)
          (subst (λ g. AreTurns course (given_to most programs g) slice most_turns pick picks embedder old new) (sym answers) played.turns);
      ends = λ i seat ran at is.
          let seats : (board course (given_to most programs (map (λ (x : Ran). x.answers) r.runs)) slice r.picks).seats ≡ stood most programs places =
          ap (λ ps. (board course (given_to most programs (map (λ (x : Ran). x.answers) r.runs)) slice ps).seats) same
          ∙ ap (λ g. (board course (given_to most programs g) slice picks).seats) answers ∙ played.stands
          in
          let stands = is_stood most programs places i seat (sym (ap (λ l. slice_get l i) seats) ∙ at) in
          subst (λ ps. IsRanAs (nat_eq (length ps) most_turns) (course seat.program) most seat.place ran) (sym same) (ends i seat.program seat.place ran stands.there stands.at is);
    }

    module _ (i : ℕ) (p : P) (x : Place) (is : IsPicked picks places i p x) where
      abbrev given : List (List Answer)
      given = given_at places

      abbrev b : Board P
      b = board course (given_to most programs given) slice picks

      abbrev seat : Seat P
      seat = record { program = p; most = most; place = x; coming = [] }

      abbrev t : Turned
      t = turn_of (course p) most slice x

      seat_at : slice_get b.seats i ≡ Some seat
      seat_at = ap (λ l. slice_get l i) played.stands ∙ stood_at most programs places i p x is.there is.at

      abbrev may : MayTurn course b i
      may =
          let g = is.going in
          record {
            seat = seat;
            picked = seat_at;
            other = g.other;
            going = record { program = g.program; most = most; place = g.place; coming = [] };
            there = ap (λ l. slice_get l g.other) played.stands ∙ stood_at most programs places g.other g.program g.place g.there g.at;
            goes_on = g.goes_on;
          }

      few_more : length (picks ++ i ∷ []) ≤ most_turns
      few_more = (let lt = is.few in let more : length (picks ++ i ∷ []) ≡ length picks + 1 = length-append picks (i ∷ []) in omega arith)

      picked_more : (given : List (List Answer)) → (k j : ℕ) → slice_get (picks ++ i ∷ []) k ≡ Some j → pick k (length (given_to most programs given)) j
      picked_more g =
          picked_push (λ k j. pick k (length (given_to most programs g)) j) picks i
          (λ k j at. subst (λ n. pick k n j) (given_length most programs given ∙ sym (given_length most programs g)) (played.turns.picked k j at))
          (subst (λ n. pick (length picks) n i) (sym (given_length most programs g)) is.picked)

      -- ---- memory was wanting for the answer

      pub cut_at_call : t.why ≡ stop.Waits → are_many t.place.given ≡ false → (now : Devices) → BreaksOff embedder (event (course p).system (reached (course p) t.place).state) new now
          → IsBoardCut course programs most slice most_turns pick embedder old now
      cut_at_call stops room now broken = record {
        given = given;
        count = length-map places (λ (q : Place). q.given) ∙ played.count;
        picks = picks;
        middle = new;
        turns = played.turns;
        broken = inr (record {
          few = is.few;
          program = i;
          picked = subst (λ n. pick (length picks) n i) (sym (ap length played.stands ∙ stood_length most programs places played.count)) is.picked;
          may = may;
          stops = stops;
          room = room;
          broken = broken;
        });
      }

      -- ---- a turn without an answer

      abbrev turned_board : Board P
      turned_board = record b { seats = slice_set b.seats i (moved seat t.place) }

      turned_is : board course (given_to most programs given) slice (picks ++ i ∷ []) ≡ turned_board
      turned_is =
          let s = (reached (course p) t.place).state in
          turns_last course slice (board course (given_to most programs given) slice []) picks i
          ∙ ap (turn_at course slice b i) seat_at
          ∙ ap (serving b i seat t.place) (none_after t.why i ((course p).system.status s) ((course p).system.memory s))

      turned_stands : turned_board.seats ≡ stood most programs (slice_set places i t.place)
      turned_stands = ap (λ l. slice_set l i (moved seat t.place)) played.stands ∙ stood_set most programs places i p t.place is.there

      pub played_silent : (t.why ≡ stop.Waits → are_many t.place.given ≡ true) → Plays (picks ++ i ∷ []) (slice_set places i t.place) old new
      played_silent full =
          let kept : given_at (slice_set places i t.place) ≡ given = map_set_same (λ (q : Place). q.given) places i x t.place is.at (turned_given (course p) most slice x 0) in
          let stands : (board course (given_to most programs given) slice (picks ++ i ∷ [])).seats ≡ stood most programs (slice_set places i t.place) = ap (λ (c : Board P). c.seats) turned_is ∙ turned_stands in
          record {
            count = length-set places i t.place ∙ played.count;
            turns = subst (λ g. AreTurns course (given_to most programs g) slice most_turns pick (picks ++ i ∷ []) embedder old new) (sym kept) (record {
              few = few_more;
              picked = picked_more given;
              each = each_push (λ j ps. (m : MayTurn course (board course (given_to most programs given) slice ps) j) × IsTurnServed course slice m.seat) picks i played.turns.each (may, full);
              recorded = All-same (λ (y : Seat P). y.coming ≡ []) (board course (given_to most programs given) slice (picks ++ i ∷ [])).seats (stood most programs (slice_set places i t.place)) stands (stood_recorded most programs (slice_set places i t.place));
              hosted = subst (λ (c : Board P). Hosted embedder (calls_of c.served) (answers_of c.served) old new) (sym turned_is) played.turns.hosted;
            });
            stands = ap (λ g. (board course (given_to most programs g) slice (picks ++ i ∷ [])).seats) kept ∙ stands;
          }

      -- ---- a turn whose call is answered

      module _ (room : are_many t.place.given ≡ false) (a : Answer) where
        abbrev grown : List (List Answer)
        grown = slice_set given i (x.given ++ a ∷ [])

        given_there : slice_get given i ≡ Some x.given
        given_there = slice_get-map (λ (q : Place). q.given) places i ∙ ap (option_map (λ (q : Place). q.given)) is.at

        same_given : t.place.given ≡ x.given
        same_given = turned_given (course p) most slice x 0

        -- where an earlier turn of it stopped at a call an answer came
        had_more : (k : ℕ) → slice_get picks k ≡ Some i → (y : Seat P) → slice_get (board course (given_to most programs given) slice (take k picks)).seats i ≡ Some y → HasMore course slice y
        had_more k at y there stops none =
            let turn = played.turns.each k i at in
            let same : turn.0.seat ≡ y = same_Some turn.0.seat y (sym turn.0.picked ∙ there) in
            let served : IsAnswered (turn_in course slice y).place.given y.coming = (subst (λ z. IsTurnServed course slice z) same turn.1) stops in
            let full : are_many (turn_in course slice y).place.given ≡ true = subst (λ l. IsAnswered (turn_in course slice y).place.given l) none served in
            let all : total y ≡ x.given = total_at course slice most programs given (take k picks) i y x.given (length-map places (λ (q : Place). q.given) ∙ played.count) given_there there in
            let whole : y.place.given ≡ x.given = sym (append-nil y.place.given) ∙ ap (λ l. y.place.given ++ l) (sym none) ∙ all in
            let before : (turn_in course slice y).place.given ≡ t.place.given = turned_given (course y.program) y.most slice y.place 0 ∙ whole ∙ sym same_given in
            true≢false (sym full ∙ ap are_many before ∙ room)

        grown_at : (k : ℕ) → board course (given_to most programs grown) slice (take k picks) ≡ later course slice i a (board course (given_to most programs given) slice (take k picks))
        grown_at = board_later course slice most programs given i a x.given picks (length-map places (λ (q : Place). q.given) ∙ played.count) given_there had_more

        grown_is : board course (given_to most programs grown) slice picks ≡ later course slice i a b
        grown_is = subst (λ ps. board course (given_to most programs grown) slice ps ≡ later course slice i a (board course (given_to most programs given) slice ps)) (take_all (length picks) picks (omega arith)) (grown_at (length picks))

        -- a turn that was served is so with the further answer
        served_longer : (y : Seat P) → IsTurnServed course slice y → HasMore course slice y → IsTurnServed course slice (longer a y)
        served_longer y served more stops = go y.coming (served stops) (more stops)
          where
            go : (coming : List Answer) → IsAnswered (turn_in course slice y).place.given coming → (coming ≡ [] → ⊥) → IsAnswered (turn_in course slice y).place.given (coming ++ a ∷ [])
            go [] answered some = absurd (some refl)
            go (c ∷ coming) answered some = answered

        may_later : (c : Board P) (j : ℕ) (m : MayTurn course c j) → IsTurnServed course slice m.seat → (j ≡ i → HasMore course slice m.seat)
            → (m : MayTurn course (later course slice i a c) j) × IsTurnServed course slice m.seat
        may_later c j m served more =
            let mine = get_extended c.seats i a j m.seat m.picked in
            let going = get_extended c.seats i a m.other m.going m.there in (
              record { seat = mine.0; picked = mine.1; other = m.other; going = going.0; there = going.1; goes_on = so m.going going.0 m.goes_on going.2 },
              still mine.0 mine.2,
            )
          where
            so : (old new : Seat P) → is_done (course old.program) old.most old.place ≡ false → IsExtended i a m.other old new → is_done (course new.program) new.most new.place ≡ false
            so old new on (inl both) = subst (λ (y : Seat P). is_done (course y.program) y.most y.place ≡ false) (sym both.1) on
            so old new on (inr same) = subst (λ (y : Seat P). is_done (course y.program) y.most y.place ≡ false) (sym same) on

            still : (new : Seat P) → IsExtended i a j m.seat new → IsTurnServed course slice new
            still new (inl both) = subst (λ y. IsTurnServed course slice y) (sym both.1) (served_longer m.seat served (more both.0))
            still new (inr same) = subst (λ y. IsTurnServed course slice y) (sym same) served

        each_grown : (k j : ℕ) → slice_get picks k ≡ Some j → (m : MayTurn course (board course (given_to most programs grown) slice (take k picks)) j) × IsTurnServed course slice m.seat
        each_grown k j at =
            let turn = played.turns.each k j at in
            subst (λ c. (m : MayTurn course c j) × IsTurnServed course slice m.seat) (sym (grown_at k))
            (may_later (board course (given_to most programs given) slice (take k picks)) j turn.0 turn.1
            (λ same. had_more k (at ∙ ap Some same) turn.0.seat (ap (slice_get (board course (given_to most programs given) slice (take k picks)).seats) (sym same) ∙ turn.0.picked)))

        longer_at : slice_get (extended i a b.seats) i ≡ Some (longer a seat)
        longer_at = extended_at b.seats i a seat seat_at

        this_turn : (m : MayTurn course (board course (given_to most programs grown) slice picks) i) × IsTurnServed course slice m.seat
        this_turn =
            let going = get_extended b.seats i a may.other may.going may.there in
            subst (λ c. (m : MayTurn course c i) × IsTurnServed course slice m.seat) (sym grown_is) (
              record { seat = longer a seat; picked = longer_at; other = may.other; going = going.0; there = going.1; goes_on = so may.going going.0 may.goes_on going.2 },
              λ stops. room,
            )
          where
            so : (old new : Seat P) → is_done (course old.program) old.most old.place ≡ false → IsExtended i a may.other old new → is_done (course new.program) new.most new.place ≡ false
            so old new on (inl both) = subst (λ (y : Seat P). is_done (course y.program) y.most y.place ≡ false) (sym both.1) on
            so old new on (inr same) = subst (λ (y : Seat P). is_done (course y.program) y.most y.place ≡ false) (sym same) on

        module _ (stops : t.why ≡ stop.Waits) (call : HostCall) (waits : (course p).system.status (reached (course p) t.place).state ≡ Waits call)
            (fits : answer_fits call ((course p).system.memory (reached (course p) t.place).state) a ≡ true) where
          abbrev memory : MemoryInstance
          memory = (course p).system.memory (reached (course p) t.place).state

          abbrev served : Served
          served = record { program = i; call = (call, memory); answer = a }

          abbrev next : Place
          next = record t.place { given = t.place.given ++ a ∷ [] }

          abbrev answered_board : Board P
          answered_board = record { seats = slice_set (extended i a b.seats) i (with_answer (longer a seat) t.place (served, [])); served = b.served ++ served ∷ [] }

          answered_is : board course (given_to most programs grown) slice (picks ++ i ∷ []) ≡ answered_board
          answered_is =
              turns_last course slice (board course (given_to most programs grown) slice []) picks i
              ∙ ap (λ c. turn course slice c i) grown_is
              ∙ ap (turn_at course slice (later course slice i a b) i) longer_at
              ∙ ap (serving (later course slice i a b) i (longer a seat) t.place) (answered_after t.why i ((course p).system.status (reached (course p) t.place).state) memory call a stops waits fits)

          answered_stands : answered_board.seats ≡ stood most programs (slice_set places i next)
          answered_stands =
              set_over b.seats i a (with_answer (longer a seat) t.place (served, []))
              ∙ ap (λ l. slice_set l i (with_answer (longer a seat) t.place (served, []))) played.stands
              ∙ stood_set most programs places i p next is.there

          pub played_answered : (now : Devices) → IsHosted embedder (call, memory) a new now → Plays (picks ++ i ∷ []) (slice_set places i next) old now
          played_answered now hosted =
              let kept : given_at (slice_set places i next) ≡ grown = map-set (λ (q : Place). q.given) places i next ∙ ap (λ g. slice_set given i (g ++ a ∷ [])) same_given in
              let stands : (board course (given_to most programs grown) slice (picks ++ i ∷ [])).seats ≡ stood most programs (slice_set places i next) = ap (λ (c : Board P). c.seats) answered_is ∙ answered_stands in
              record {
                count = length-set places i next ∙ played.count;
                turns = subst (λ g. AreTurns course (given_to most programs g) slice most_turns pick (picks ++ i ∷ []) embedder old now) (sym kept) (record {
                  few = few_more;
                  picked = picked_more grown;
                  each = each_push (λ j ps. (m : MayTurn course (board course (given_to most programs grown) slice ps) j) × IsTurnServed course slice m.seat) picks i each_grown this_turn;
                  recorded = All-same (λ (y : Seat P). y.coming ≡ []) (board course (given_to most programs grown) slice (picks ++ i ∷ [])).seats (stood most programs (slice_set places i next)) stands (stood_recorded most programs (slice_set places i next));
                  hosted = subst (λ (c : Board P). Hosted embedder (calls_of c.served) (answers_of c.served) old now) (sym answered_is) (served_hosted embedder b.served served old new now played.turns.hosted hosted);
                });
                stands = ap (λ g. (board course (given_to most programs g) slice (picks ++ i ∷ [])).seats) kept ∙ stands;
              }
