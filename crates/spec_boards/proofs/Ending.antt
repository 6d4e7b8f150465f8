-- Whether a program of a board is done, and how it ends, by what is seen of its run.
use Rattle.std.proofs.Common.{◌≡◌, ◌<◌, ◌-◌, ℕ, Bool, true, false, true≢false, not, ◌&&◌, ◌||◌, List, [], ◌∷◌, length, take, nat_eq, Some, None, ◌⊎◌, inl, inr, refl, sym, ap, ◌∙◌, arith}
use Rattle.std.proofs.Math.Nat.{sub-zero}
use Rattle.std.proofs.Math.Seq.{take-length}
use Rattle.spec_hosts.specs.wasm_form.declared.runtime.Answer.{Answer}
use Rattle.spec_hosts.specs.wasm_form.declared.runtime.Trap.{Trap}
use Rattle.spec_hosts.specs.spec_runs.Systems.{Status, Moving, Waits, Returned, Exited, Trapped}
use Rattle.spec_hosts.specs.spec_runtime.Memories.{MemoryInstance}
use Rattle.spec_hosts.specs.spec_runtime.Hosts.{HostCall, answer_fits}
use Rattle.spec_hosts.specs.spec_runtime.Recorded.{Recorded, AreLeft, has_ended, waits}
use Rattle.spec_hosts.specs.spec_runtime.Courses.{Course, reached, state_at, status_at, memory_at, IsAt, is_waiting}
use Rattle.spec_hosts.specs.Ends.{are_many, is_due, taken_of, goes_on}
use Rattle.spec_hosts.specs.declared.ran.RunEnd.{RunEnd}
use Rattle.spec_hosts.specs.declared.ran.RunEnd.TheVariants as end
use Rattle.spec_boards.specs.declared.turn.Stop.TheVariants as stop
use Rattle.spec_boards.specs.Turns.{Place, stop_by, stop_at, Turned, turn_of}
use Rattle.spec_boards.specs.BoardRuns.{is_done, EndsBy}
use Rattle.spec_boards.proofs.Turning.{is_turn}

-- a limit that is due, by how the run stands
abbrev due_by : Bool → Bool → Status HostCall Trap → Bool
due_by deep many Moving = deep
due_by deep many (Waits call) = many
due_by deep many Returned = false
due_by deep many (Exited code) = false
due_by deep many (Trapped why) = false

-- the next step would be too deep, of a run that goes on by itself
abbrev pub IsDeep : Bool → Status HostCall Trap → Bool → Type 0
IsDeep seen Moving deep = seen ≡ deep
IsDeep seen (Waits call) deep = seen ≡ false
IsDeep seen Returned deep = seen ≡ false
IsDeep seen (Exited code) deep = seen ≡ false
IsDeep seen (Trapped why) deep = seen ≡ false

seen_done : (status : Status HostCall Trap) (limited deep seen answered many taken : Bool) → IsDeep seen status deep → (waits status ≡ true → taken ≡ (not answered && many))
    → (has_ended status || limited || due_by deep taken status) ≡ (has_ended status || (limited || (seen || ((not answered && waits status) && many))))
seen_done Moving true deep seen answered many taken is before = refl
seen_done Moving false deep true answered many taken is before = sym is
seen_done Moving false deep false true many taken is before = sym is
seen_done Moving false deep false false many taken is before = sym is
seen_done (Waits call) true deep seen answered many taken is before = refl
seen_done (Waits call) false deep true answered many taken is before = absurd (true≢false is)
seen_done (Waits call) false deep false true many taken is before = before refl
seen_done (Waits call) false deep false false many taken is before = before refl
seen_done Returned limited deep seen answered many taken is before = refl
seen_done (Exited code) limited deep seen answered many taken is before = refl
seen_done (Trapped why) limited deep seen answered many taken is before = refl

live : (status : Status HostCall Trap) → has_ended status ≡ false → goes_on status ≡ true
live Moving unended = refl
live (Waits call) unended = refl
live Returned unended = absurd (true≢false unended)
live (Exited code) unended = absurd (true≢false unended)
live (Trapped why) unended = absurd (true≢false unended)

call_of : (answered : Bool) (status : Status HostCall Trap) → (not answered && waits status) ≡ true → (call : HostCall) × (status ≡ Waits call)
call_of answered (Waits call) waiting = (call, refl)
call_of true Moving waiting = absurd (true≢false (sym waiting))
call_of false Moving waiting = absurd (true≢false (sym waiting))
call_of true Returned waiting = absurd (true≢false (sym waiting))
call_of false Returned waiting = absurd (true≢false (sym waiting))
call_of true (Exited code) waiting = absurd (true≢false (sym waiting))
call_of false (Exited code) waiting = absurd (true≢false (sym waiting))
call_of true (Trapped why) waiting = absurd (true≢false (sym waiting))
call_of false (Trapped why) waiting = absurd (true≢false (sym waiting))

-- all answers were taken but for the one that is left
taken_but : (answered : Bool) (given left : List Answer) (status : Status HostCall Trap) (memory : MemoryInstance) → AreLeft answered status memory left
    → are_many (take (length given - 1) given) ≡ false → are_many (taken_of given left) ≡ (not answered && are_many given)
taken_but false given left status memory are before =
    let all : taken_of given left ≡ given = ap (taken_of given) are ∙ ap (λ n. take n given) (sub-zero (length given)) ∙ take-length given in
    ap are_many all
taken_but true given (a ∷ []) (Waits call) memory are before = before
taken_but true given [] (Waits call) memory are before = absurd are
taken_but true given (a ∷ b ∷ left) (Waits call) memory are before = absurd are
taken_but true given left Moving memory are before = absurd are
taken_but true given left Returned memory are before = absurd are
taken_but true given left (Exited code) memory are before = absurd are
taken_but true given left (Trapped why) memory are before = absurd are

-- the turns were used up only where some program could go on
pub ends_used : (used : Bool) (C : Course) (most : ℕ) (p : Place) (e : RunEnd) → (used ≡ true) ⊎ (is_done C most p ≡ true) → EndsBy true C most p e → EndsBy used C most p e
ends_used used C most p end.TurnLimit (inl all) ends = (all, ends.1)
ends_used used C most p end.TurnLimit (inr done) ends = absurd (true≢false (sym done ∙ ends.1))
ends_used used C most p end.Return either ends = ends
ends_used used C most p (end.Exit code) either ends = ends
ends_used used C most p (end.Trap why) either ends = ends
ends_used used C most p end.StepLimit either ends = ends
ends_used used C most p end.DepthLimit either ends = ends
ends_used used C most p end.HostCallLimit either ends = ends

module _ (C : Course) (most : ℕ) (x : Recorded) (stands : IsAt C x) (before : are_many (take (length x.answers - 1) x.answers) ≡ false) where
  abbrev at : Place
  at = record { steps = x.steps; given = x.answers }

  abbrev taken : List Answer
  taken = taken_of x.answers (reached C x).left

  taken_is : are_many taken ≡ (not x.answered && are_many x.answers)
  taken_is = taken_but x.answered x.answers (reached C x).left (status_at C x) (memory_at C x) stands.left before

  due_is : is_due C.system C.deep (state_at C x) taken ≡ due_by (C.deep (state_at C x)) (are_many taken) (status_at C x)
  due_is = by (status_at C x) refl
    where
      by : (status : Status HostCall Trap) → status_at C x ≡ status → is_due C.system C.deep (state_at C x) taken ≡ due_by (C.deep (state_at C x)) (are_many taken) (status_at C x)
      by Moving e = rw (e, is_due) refl
      by (Waits call) e = rw (e, is_due) refl
      by Returned e = rw (e, is_due) refl
      by (Exited code) e = rw (e, is_due) refl
      by (Trapped why) e = rw (e, is_due) refl

  -- whether it is done, by what is seen
  pub done_is : (seen : Bool) → IsDeep seen (status_at C x) (C.deep (state_at C x))
      → is_done C most at ≡ (has_ended (status_at C x) || (nat_eq x.steps most || (seen || (is_waiting C x && are_many x.answers))))
  done_is seen is =
      ap (λ due. has_ended (status_at C x) || nat_eq x.steps most || due) due_is
      ∙ seen_done (status_at C x) (nat_eq x.steps most) (C.deep (state_at C x)) seen x.answered (are_many x.answers) (are_many taken) is (λ waiting. taken_is)

  -- ---- the limits that end it

  pub ends_at_steps : has_ended (status_at C x) ≡ false → x.steps ≡ most → EndsBy true C most at end.StepLimit
  ends_at_steps unended all = (all, live (status_at C x) unended)

  pub ends_at_calls : is_waiting C x ≡ true → are_many x.answers ≡ true → x.steps < most → EndsBy true C most at end.HostCallLimit
  ends_at_calls waiting many lt =
      let still : not x.answered ≡ true = unanswered x.answered waiting in
      (lt, call_of x.answered (status_at C x) waiting, taken_is ∙ ap (λ b. b && are_many x.answers) still ∙ many)
    where
      unanswered : (answered : Bool) → (not answered && waits (status_at C x)) ≡ true → not answered ≡ true
      unanswered false e = refl
      unanswered true e = absurd (true≢false (sym e))

-- ---- a turn that stopped at a call

waits_so : (limited spent deep answered : Bool) (left : List Answer) (memory : MemoryInstance) (status : Status HostCall Trap) → AreLeft answered status memory left
    → stop_by limited spent deep left memory status ≡ Some stop.Waits → (not answered && waits status) ≡ true
waits_so limited spent deep false left memory (Waits call) are e = refl
waits_so true spent deep true (a ∷ []) memory (Waits call) are e = absurd cc
waits_so false true deep true (a ∷ []) memory (Waits call) are e = absurd (let fits : answer_fits call memory a ≡ true = are in let bad : Some stop.Spent ≡ Some stop.Waits = rw fits at e in cc)
waits_so false false deep true (a ∷ []) memory (Waits call) are e = absurd (let fits : answer_fits call memory a ≡ true = are in let bad : None ≡ Some stop.Waits = rw fits at e in cc)
waits_so limited spent deep true [] memory (Waits call) are e = absurd are
waits_so limited spent deep true (a ∷ b ∷ left) memory (Waits call) are e = absurd are
waits_so true spent deep answered left memory Moving are e = absurd cc
waits_so false true deep answered left memory Moving are e = absurd cc
waits_so false false true answered left memory Moving are e = absurd cc
waits_so false false false answered left memory Moving are e = absurd cc
waits_so limited spent deep answered left memory Returned are e = absurd cc
waits_so limited spent deep answered left memory (Exited code) are e = absurd cc
waits_so limited spent deep answered left memory (Trapped why) are e = absurd cc

module _ (C : Course) (most slice : ℕ) (p : Place) where
  abbrev t : Turned
  t = turn_of C most slice p

  -- the run that came there waits for an answer
  pub stops_waiting : (x : Recorded) → IsAt C x → (record { steps = x.steps; given = x.answers }) ≡ t.place → t.why ≡ stop.Waits → is_waiting C x ≡ true
  stops_waiting x stands same stops =
      let turn = is_turn C most slice p in
      let few = turn.few in
      let rest : ℕ = slice - t.made in
      let due : stop_at C most rest t.place ≡ Some stop.Waits = turn.due rest (omega (arith, few)) ∙ ap Some stops in
      let here : stop_at C most rest (record { steps = x.steps; given = x.answers }) ≡ Some stop.Waits = ap (stop_at C most rest) same ∙ due in
      waits_so (nat_eq x.steps most) (nat_eq rest 0) (C.deep (state_at C x)) x.answered (reached C x).left (memory_at C x) (status_at C x) stands.left here
