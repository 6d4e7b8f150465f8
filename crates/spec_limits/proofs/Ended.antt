-- Where a run ends, and where it hasn't ended yet.
use Rattle.std.proofs.Common.{◌≡◌, ℕ, ◌+◌, ◌-◌, ◌<◌, ◌≤◌, List, length, take, Option, Some, None, Bool, true, false, true≢false, refl, sym, ap, ◌∙◌, ⊎_elim, arith}
use Rattle.std.proofs.lemmas.Bool.{cases_lt}
use Rattle.spec_hosts.specs.wasm_form.declared.runtime.Answer.{Answer}
use Rattle.spec_hosts.specs.wasm_form.declared.runtime.Trap.{Trap}
use Rattle.spec_hosts.specs.spec_runs.Systems.{Status, Moving, Waits, Returned, Exited, Trapped, System, Ran, next_at, event_at, run}
use Rattle.spec_hosts.specs.spec_runtime.Hosts.{HostCall, hosts}
use Rattle.spec_hosts.specs.declared.ran.RunEnd.{RunEnd}
use Rattle.spec_hosts.specs.declared.ran.RunEnd.TheVariants as end
use Rattle.spec_hosts.specs.Ends.{EndsAs, goes_on, taken_by}
use Rattle.spec_limits.specs.Ending.{EndsByItself}
use Rattle.spec_limits.proofs.Made.{stays, each_taken}

-- the end of a run that has ended by itself, by how it stands
abbrev pub end_of : Status HostCall Trap → Option RunEnd
end_of Moving = None
end_of (Waits call) = None
end_of Returned = Some end.Return
end_of (Exited code) = Some (end.Exit code)
end_of (Trapped why) = Some (end.Trap why)

module _ (S : System hosts) where
  ended_next : (s : S.State) (given : List Answer) (status : Status HostCall Trap) → goes_on status ≡ false → next_at S status s given ≡ None
  ended_next s given Moving e = absurd (true≢false e)
  ended_next s given (Waits call) e = absurd (true≢false e)
  ended_next s given Returned e = refl
  ended_next s given (Exited code) e = refl
  ended_next s given (Trapped why) e = refl

  -- a run that has ended stays
  pub stays_ended : (n k : ℕ) (s : S.State) (given : List Answer) → n ≤ k → goes_on (S.status (run S n s given).state) ≡ false → run S k s given ≡ run S n s given
  stays_ended n k s given le ended =
      let e : n + (k - n) ≡ k = omega arith in
      ap (λ j. run S j s given) (sym e)
      ∙ stays S n (k - n) s given (ended_next (run S n s given).state (run S n s given).left (S.status (run S n s given).state) ended)

  -- what goes on at a moment has ended later, or never
  pub ends_later : (n k : ℕ) (s : S.State) (given : List Answer) → goes_on (S.status (run S n s given).state) ≡ false
      → goes_on (S.status (run S k s given).state) ≡ true → k < n
  ends_later n k s given ended on = ⊎_elim (λ lt. lt) late (cases_lt k n)
    where
      late : n ≤ k → k < n
      late le = absurd (true≢false (sym on ∙ ap (λ (r : Ran hosts S.State). goes_on (S.status r.state)) (stays_ended n k s given le ended) ∙ ended))

  -- two moments at which a run has ended are alike
  pub one_end : (n k : ℕ) (s : S.State) (given : List Answer) → goes_on (S.status (run S n s given).state) ≡ false
      → goes_on (S.status (run S k s given).state) ≡ false → run S k s given ≡ run S n s given
  one_end n k s given ended other = ⊎_elim (λ lt. sym (stays_ended k n s given (omega arith) other)) (λ le. stays_ended n k s given le ended) (cases_lt k n)

  module _ (deep : S.State → Bool) (most steps : ℕ) (s : S.State) (taken : List Answer) where
    pub ended_by_itself : (e : RunEnd) → EndsByItself e → EndsAs S deep most steps s taken e → end_of (S.status s) ≡ Some e
    ended_by_itself end.Return itself ends = ap end_of ends
    ended_by_itself (end.Exit code) itself ends = ap end_of ends
    ended_by_itself (end.Trap why) itself ends = ap end_of ends
    ended_by_itself end.StepLimit itself ends = absurd itself
    ended_by_itself end.DepthLimit itself ends = absurd itself
    ended_by_itself end.HostCallLimit itself ends = absurd itself
    ended_by_itself end.TurnLimit itself ends = absurd itself

    pub ends_as : (e : RunEnd) → EndsByItself e → end_of (S.status s) ≡ Some e → EndsAs S deep most steps s taken e
    ends_as e itself ends = go e itself (S.status s) refl ends
      where
        go : (e : RunEnd) → EndsByItself e → (status : Status HostCall Trap) → S.status s ≡ status → end_of status ≡ Some e → EndsAs S deep most steps s taken e
        go e itself Moving is ends = absurd cc
        go e itself (Waits call) is ends = absurd cc
        go end.Return itself Returned is ends = is
        go (end.Exit code) itself (Exited found) is ends = let same : found ≡ code = cc in is ∙ ap Exited same
        go (end.Trap why) itself (Trapped found) is ends = let same : found ≡ why = cc in is ∙ ap Trapped same
        go (end.Exit code) itself Returned is ends = absurd cc
        go (end.Trap why) itself Returned is ends = absurd cc
        go end.Return itself (Exited found) is ends = absurd cc
        go (end.Trap why) itself (Exited found) is ends = absurd cc
        go end.Return itself (Trapped found) is ends = absurd cc
        go (end.Exit code) itself (Trapped found) is ends = absurd cc
        go end.StepLimit itself status is ends = absurd itself
        go end.DepthLimit itself status is ends = absurd itself
        go end.HostCallLimit itself status is ends = absurd itself
        go end.TurnLimit itself status is ends = absurd itself

pub end_is_end : (status : Status HostCall Trap) (e : RunEnd) → end_of status ≡ Some e → goes_on status ≡ false
end_is_end Moving e is = absurd cc
end_is_end (Waits call) e is = absurd cc
end_is_end Returned e is = refl
end_is_end (Exited code) e is = refl
end_is_end (Trapped why) e is = refl

pub not_moving : (status : Status HostCall Trap) (e : RunEnd) → end_of status ≡ Some e → status ≡ Moving → ⊥
not_moving Moving e is moving = cc
not_moving (Waits call) e is moving = cc
not_moving Returned e is moving = cc
not_moving (Exited code) e is moving = cc
not_moving (Trapped why) e is moving = cc

-- two runs that stand at one call, after as many events, took as many answers
pub same_taken : (S T : System hosts) (s : S.State) (t : T.State) (given : List Answer) (k n : ℕ) (call : HostCall)
    → (run T k t given).events ≡ (run S n s given).events → T.status (run T k t given).state ≡ Waits call → S.status (run S n s given).state ≡ Waits call
    → taken_by T k t given ≡ taken_by S n s given
same_taken S T s t given k n call events waits stands =
    let mine = each_taken T k t given in
    let theirs = each_taken S n s given in
    let many = ap length events in
    let one = ap (λ status. length (event_at status (T.memory (run T k t given).state))) waits in
    let other = ap (λ status. length (event_at status (S.memory (run S n s given).state))) stands in
    let left : length (run T k t given).left ≡ length (run S n s given).left = omega (arith, mine, theirs, many, one, other) in
    ap (λ l. take (length given - l) given) left
