-- The calls that are answered between turns are those of the programs.
use Rattle.std.proofs.Common.{◌≡◌, ◌≢◌, ℕ, ◌-◌, Bool, true, false, List, [], ◌∷◌, ◌++◌, ◌⊎◌, inl, inr, slice_get, slice_set, Option, Some, None, option_map, refl, sym, ap, ◌∙◌, subst, arith}
use Rattle.std.specs.Prelude.{unwrap_or}
use Rattle.std.specs.List.{All}
use Rattle.std.proofs.lemmas.List.{map-append}
use Rattle.std.proofs.lemmas.List.Elements.{All-nil, All-head, All-tail, All-push}
use Rattle.std.proofs.lemmas.Option.{slice_get-map}
use Rattle.spec_hosts.specs.wasm_form.declared.runtime.Trap.{Trap}
use Rattle.spec_hosts.specs.wasm_form.declared.runtime.Answer.{Answer}
use Rattle.spec_hosts.specs.spec_runs.Systems.{Status, Moving, Waits, Returned, Exited, Trapped, event}
use Rattle.spec_hosts.specs.spec_runtime.Memories.{MemoryInstance}
use Rattle.spec_hosts.specs.spec_runtime.Hosts.{HostCall, answer_fits}
use Rattle.spec_hosts.specs.spec_runtime.Courses.{Course}
use Rattle.spec_boards.specs.declared.turn.Stop.{Stop}
use Rattle.spec_boards.specs.declared.turn.Stop.TheVariants as stop
use Rattle.spec_boards.specs.Turns.{Place, reached, stop_at, Turned}
use Rattle.spec_boards.specs.Boards.{Seat, Served, Board, seated, opened, moved, next_served, with_answer, serving, served_at, answer_after, turn_in, turn_at, turn, turns, only_of, calls_of, answers_of}
use Rattle.spec_boards.specs.Laws.{NeverStuck, unserved, IsServed}
use Rattle.spec_boards.proofs.Turning.{is_turn}
use Rattle.spec_boards.proofs.Calling.{Stands, stands_turned, stands_answered, waits_none}
use Rattle.spec_boards.proofs.Seats.{get_other, after_set, only_his, only_other}

-- ---- what is served next

-- it is the call that the program waits for, and the next of its answers
abbrev IsNext : ℕ → Status HostCall Trap → MemoryInstance → List Answer → Served × List Answer → Type 0
IsNext i status memory coming x =
    (call : HostCall) × (status ≡ Waits call) × (x.0.program ≡ i) × (x.0.call ≡ (call, memory)) × (answer_fits call memory x.0.answer ≡ true) × (coming ≡ x.0.answer ∷ x.1)

next_is : (i : ℕ) (status : Status HostCall Trap) (memory : MemoryInstance) (coming : List Answer) (x : Served × List Answer)
    → next_served i status memory coming ≡ Some x → IsNext i status memory coming x
next_is i Moving memory coming x e = absurd cc
next_is i (Waits call) memory [] x e = absurd cc
next_is i (Waits call) memory (a ∷ coming) x e = go (answer_fits call memory a) refl
  where
    go : (b : Bool) → answer_fits call memory a ≡ b → IsNext i (Waits call) memory (a ∷ coming) x
    go false q = absurd (let bad : None ≡ Some x = rw q at e in cc)
    go true q =
        let y : Served × List Answer = (record { program = i; call = (call, memory); answer = a }, coming) in
        let same : Some y ≡ Some x = rw q at e in
        let is : y ≡ x = ap (λ (o : Option (Served × List Answer)). unwrap_or o y) same in
        let this : IsNext i (Waits call) memory (a ∷ coming) y = (call, refl, refl, refl, q, refl) in
        subst (λ z. IsNext i (Waits call) memory (a ∷ coming) z) is this
next_is i Returned memory coming x e = absurd cc
next_is i (Exited code) memory coming x e = absurd cc
next_is i (Trapped why) memory coming x e = absurd cc

-- where an answer is looked for, the turn stopped at a call
looked_for : (why : Stop) (x : Option (Served × List Answer)) (y : Served × List Answer) → answer_after why x ≡ Some y → (why ≡ stop.Waits) × (x ≡ Some y)
looked_for stop.Waits x y e = (refl, e)
looked_for stop.Ended x y e = absurd cc
looked_for stop.StepLimit x y e = absurd cc
looked_for stop.Spent x y e = absurd cc
looked_for stop.Deep x y e = absurd cc

module _ {P : Type 0} (course : P → Course) where
  -- ---- the others

  pub others_stay : (slice : ℕ) (b : Board P) (i j : ℕ) → i ≢ j → slice_get (turn course slice b i).seats j ≡ slice_get b.seats j
  others_stay slice b i j other = go (slice_get b.seats i)
    where
      after : (seat : Seat P) (place : Place) (x : Option (Served × List Answer)) → slice_get (serving b i seat place x).seats j ≡ slice_get b.seats j
      after seat place None = get_other b.seats i j (moved seat place) other
      after seat place (Some x) = get_other b.seats i j (with_answer seat place x) other

      go : (o : Option (Seat P)) → slice_get (turn_at course slice b i o).seats j ≡ slice_get b.seats j
      go None = refl
      go (Some seat) = (let t = turn_in course slice seat in after seat t.place (answer_after t.why (served_at course i seat t)))

  -- ---- the one whose turn it was

  module _ (Such : Answer → Type 0) where
    -- its program never gets stuck over answers that are such, as all of its answers are
    pub record Goes (seat : Seat P) : Type 0 where
      pub never : NeverStuck Such (course seat.program)
      pub given : All Such seat.place.given
      pub coming : All Such seat.coming

    pub record IsSound (b : Board P) (i : ℕ) (seat : Seat P) : Type 0 where
      pub goes : Goes seat
      pub served : IsServed course b i seat

    abbrev pub AllSound : Board P → Type 0
    AllSound b = (i : ℕ) (seat : Seat P) → slice_get b.seats i ≡ Some seat → IsSound b i seat

    module _ (slice : ℕ) (b : Board P) (i : ℕ) (all : AllSound b) (seat : Seat P) (at : slice_get b.seats i ≡ Some seat) where
      abbrev C : Course
      C = course seat.program

      abbrev t : Turned
      t = turn_in course slice seat

      was : IsSound b i seat
      was = all i seat at

      abbrev calls : List (HostCall × MemoryInstance)
      calls = calls_of (only_of i b.served)

      after : Stands C t.place calls
      after =
          stands_turned C Such was.goes.never seat.most slice seat.place 0 calls was.goes.given
          (record { real = was.served.real; answered = was.served.answered; left = was.served.left; served = was.served.calls })

      given_same : t.place.given ≡ seat.place.given
      given_same = ap (λ (p : Place). p.given) (is_turn C seat.most slice seat.place).same

      given_such : All Such t.place.given
      given_such = subst (λ l. All Such l) (sym given_same) was.goes.given

      due : stop_at C seat.most (slice - t.made) t.place ≡ Some t.why
      due =
          let is = is_turn C seat.most slice seat.place in
          let few = is.few in
          is.due (slice - t.made) (omega arith)

      -- no call is answered
      unanswered : AllSound (record b { seats = slice_set b.seats i (moved seat t.place) })
      unanswered j s e = go (after_set b.seats i (moved seat t.place) seat j s at e)
        where
          later : Board P
          later = record b { seats = slice_set b.seats i (moved seat t.place) }

          mine : IsSound later i (moved seat t.place)
          mine = record {
            goes = record { never = was.goes.never; given = given_such; coming = was.goes.coming };
            served = record { real = after.real; answered = after.answered; left = after.left; answers = was.served.answers ∙ sym given_same; calls = after.served };
          }

          go : (j ≡ i) × (moved seat t.place ≡ s) ⊎ (i ≢ j) × (slice_get b.seats j ≡ Some s) → IsSound later j s
          go (inl h) = subst (λ k. IsSound later k s) (sym h.0) (subst (λ x. IsSound later i x) h.1 mine)
          go (inr h) =
              let his = all j s h.1 in
              record { goes = his.goes; served = record { real = his.served.real; answered = his.served.answered; left = his.served.left; answers = his.served.answers; calls = his.served.calls } }

      -- the call at which the turn stopped is answered
      module _ (x : Served × List Answer) (found : answer_after t.why (served_at course i seat t) ≡ Some x) where
        abbrev last : Place
        last = record t.place { given = t.place.given ++ x.0.answer ∷ [] }

        abbrev late : Board P
        late = record { seats = slice_set b.seats i (with_answer seat t.place x); served = b.served ++ x.0 ∷ [] }

        asked : IsNext i (C.system.status (reached C t.place).state) (C.system.memory (reached C t.place).state) seat.coming x
        asked =
            next_is i (C.system.status (reached C t.place).state) (C.system.memory (reached C t.place).state) seat.coming x
            (looked_for t.why (served_at course i seat t) x found).1

        waits_now : stop_at C seat.most (slice - t.made) t.place ≡ Some stop.Waits
        waits_now = due ∙ ap Some (looked_for t.why (served_at course i seat t) x found).0

        then_stands : Stands C last (calls ++ (asked.0, C.system.memory (reached C t.place).state) ∷ [])
        then_stands =
            stands_answered C t.place calls asked.0 x.0.answer after asked.1
            (waits_none C seat.most (slice - t.made) t.place asked.0 after.answered after.left asked.1 waits_now) asked.4

        only_now : only_of i late.served ≡ only_of i b.served ++ x.0 ∷ []
        only_now = only_his i b.served x.0 asked.2

        calls_now : calls_of (only_of i late.served) ≡ calls ++ (asked.0, C.system.memory (reached C t.place).state) ∷ []
        calls_now = ap calls_of only_now ∙ map-append (λ (y : Served). y.call) (only_of i b.served) (x.0 ∷ []) ∙ ap (λ c. calls ++ c ∷ []) asked.3

        answers_now : answers_of (only_of i late.served) ≡ last.given
        answers_now =
            ap answers_of only_now ∙ map-append (λ (y : Served). y.answer) (only_of i b.served) (x.0 ∷ [])
            ∙ ap (λ l. l ++ x.0.answer ∷ []) (was.served.answers ∙ sym given_same)

        such : All Such (x.0.answer ∷ x.1)
        such = subst (λ l. All Such l) asked.5 was.goes.coming

        mine : IsSound late i (with_answer seat t.place x)
        mine = record {
          goes = record { never = was.goes.never; given = All-push Such t.place.given x.0.answer given_such (All-head Such x.0.answer x.1 such); coming = All-tail Such x.0.answer x.1 such };
          served = record {
            real = then_stands.real;
            answered = then_stands.answered;
            left = then_stands.left;
            answers = answers_now;
            calls = then_stands.served ∙ ap (λ l. l ++ unserved (reached C last).left (event C.system (reached C last).state)) (sym calls_now);
          };
        }

        answered : AllSound late
        answered j s e = go (after_set b.seats i (with_answer seat t.place x) seat j s at e)
          where
            go : (j ≡ i) × (with_answer seat t.place x ≡ s) ⊎ (i ≢ j) × (slice_get b.seats j ≡ Some s) → IsSound late j s
            go (inl h) = subst (λ k. IsSound late k s) (sym h.0) (subst (λ y. IsSound late i y) h.1 mine)
            go (inr h) =
                let his = all j s h.1 in
                let only : only_of j late.served ≡ only_of j b.served = only_other j b.served x.0 (λ e. h.0 (sym asked.2 ∙ e)) in
                record {
                  goes = his.goes;
                  served = record {
                    real = his.served.real;
                    answered = his.served.answered;
                    left = his.served.left;
                    answers = ap answers_of only ∙ his.served.answers;
                    calls = his.served.calls
                        ∙ ap (λ l. calls_of l ++ unserved (reached (course s.program) s.place).left (event (course s.program).system (reached (course s.program) s.place).state)) (sym only);
                  };
                }

    turn_sound : (slice : ℕ) (b : Board P) (i : ℕ) → AllSound b → AllSound (turn course slice b i)
    turn_sound slice b i all = go (slice_get b.seats i) refl
      where
        so : (seat : Seat P) (at : slice_get b.seats i ≡ Some seat) (o : Option (Served × List Answer))
            → answer_after (turn_in course slice seat).why (served_at course i seat (turn_in course slice seat)) ≡ o
            → AllSound (serving b i seat (turn_in course slice seat).place o)
        so seat at None found = unanswered slice b i all seat at
        so seat at (Some x) found = answered slice b i all seat at x found

        go : (o : Option (Seat P)) → slice_get b.seats i ≡ o → AllSound (turn_at course slice b i o)
        go None q = all
        go (Some seat) q = so seat q _ refl

    pub turns_sound : (slice : ℕ) (b : Board P) (picks : List ℕ) → AllSound b → AllSound (turns course slice b picks)
    turns_sound slice b [] all = all
    turns_sound slice b (i ∷ picks) all = turns_sound slice (turn course slice b i) picks (turn_sound slice b i all)

    -- it never gets stuck over answers that are such, and those that it is given are
    pub record MayGo (x : P × (ℕ × List Answer)) : Type 0 where
      pub never : NeverStuck Such (course x.0)
      pub such : All Such x.1.1

    pub opened_sound : (programs : List (P × (ℕ × List Answer))) → ((i : ℕ) (x : P × (ℕ × List Answer)) → slice_get programs i ≡ Some x → MayGo x) → AllSound (opened programs)
    opened_sound programs go i seat e = from (slice_get programs i) refl
      where
        begun : (x : P × (ℕ × List Answer)) → slice_get programs i ≡ Some x → IsSound (opened programs) i (seated x)
        begun x at = (let may = go i x at in record {
          goes = record { never = may.never; given = All-nil Such; coming = may.such };
          served = record { real = tt; answered = false; left = refl; answers = refl; calls = refl };
        })

        from : (o : Option (P × (ℕ × List Answer))) → slice_get programs i ≡ o → IsSound (opened programs) i seat
        from None q = absurd (let bad : None ≡ Some seat = ap (option_map seated) (sym q) ∙ sym (slice_get-map seated programs i) ∙ e in cc)
        from (Some x) q =
            let is : Some (seated x) ≡ Some seat = ap (option_map seated) (sym q) ∙ sym (slice_get-map seated programs i) ∙ e in
            subst (λ s. IsSound (opened programs) i s) (ap (λ (o : Option (Seat P)). unwrap_or o seat) is) (begun x q)
