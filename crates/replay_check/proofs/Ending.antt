-- The end in which a run stands, by what is told of a step.
use Rattle.std.proofs.Common.{◌≡◌, ◌≢◌, ℕ, Bool, true, false, true≢false, List, Option, Some, None, refl, sym, ap, ◌∙◌, subst, arith}
use Rattle.std.specs.Prelude.{Decides, not}
use Rattle.std.proofs.lemmas.Option.{same_Some}
use Rattle.spec_traces.specs.spec_hosts.wasm_form.declared.runtime.Trap.{Trap}
use Rattle.spec_traces.specs.spec_hosts.wasm_form.declared.runtime.Answer.{Answer}
use Rattle.spec_traces.specs.spec_hosts.wasm_form.declared.runtime.Asked.{Asked}
use Rattle.spec_traces.specs.spec_hosts.spec_runs.Systems.{Status, Moving, Waits, Returned, Exited, Trapped, System}
use Rattle.spec_traces.specs.spec_hosts.spec_runtime.Names.{HostName}
use Rattle.spec_traces.specs.spec_hosts.spec_runtime.Hosts.{HostCall, hosts}
use Rattle.spec_traces.specs.spec_hosts.spec_runtime.Recorded.{Recorded, has_ended, waits}
use Rattle.spec_traces.specs.spec_hosts.Ends.{EndsAs, are_many, goes_on}
use Rattle.spec_traces.specs.spec_hosts.declared.ran.RunEnd.{RunEnd}
use Rattle.spec_traces.specs.spec_hosts.declared.ran.RunEnd.TheVariants as end
use Rattle.spec_traces.specs.declared.trace.TraceEnd.{TraceEnd}
use Rattle.spec_traces.specs.declared.trace.TraceEnd.TheVariants as told
use Rattle.spec_traces.specs.Texts.{run_end}
use Rattle.spec_traces.specs.Traces.{most_for}
use Rattle.replay_check.specs.Following.{IsAskedOf, own_end, is_full}
use Rattle.replay_check.proofs.Telling.{waits_for}

-- none, where a step is made
pub none_own : (status : Status HostCall Trap) (deep : Bool) → status ≡ Moving → deep ≡ false → None ≡ own_end status deep
none_own status deep moving flat = sym (ap (λ d. own_end status d) flat ∙ ap (λ s. own_end s false) moving)

-- an end by itself, or of depth
abbrev Own : Status HostCall Trap → Bool → RunEnd → Type 0
Own status deep end.Return = status ≡ Returned
Own status deep (end.Exit code) = status ≡ Exited code
Own status deep (end.Trap why) = status ≡ Trapped why
Own status deep end.DepthLimit = (status ≡ Moving) × (deep ≡ true)
Own status deep end.StepLimit = ⊥
Own status deep end.HostCallLimit = ⊥
Own status deep end.TurnLimit = ⊥

own_from : (status : Status HostCall Trap) (deep : Bool) (e : RunEnd) → own_end status deep ≡ Some e → Own status deep e
own_from Moving true e is = subst (Own Moving true) (same_Some end.DepthLimit e is) (refl, refl)
own_from Moving false e is = absurd cc
own_from (Waits call) deep e is = absurd cc
own_from Returned deep e is = subst (Own Returned deep) (same_Some end.Return e is) refl
own_from (Exited code) deep e is = subst (Own (Exited code) deep) (same_Some (end.Exit code) e is) refl
own_from (Trapped why) deep e is = subst (Own (Trapped why) deep) (same_Some (end.Trap why) e is) refl

own_to : (status : Status HostCall Trap) (deep : Bool) (e : RunEnd) → Own status deep e → own_end status deep ≡ Some e
own_to status deep end.Return is = ap (λ s. own_end s deep) is
own_to status deep (end.Exit code) is = ap (λ s. own_end s deep) is
own_to status deep (end.Trap why) is = ap (λ s. own_end s deep) is
own_to status deep end.DepthLimit is = ap (λ s. own_end s deep) is.0 ∙ ap (λ d. own_end Moving d) is.1
own_to status deep end.StepLimit is = absurd is
own_to status deep end.HostCallLimit is = absurd is
own_to status deep end.TurnLimit is = absurd is

module _ (S : System hosts) (deep : S.State → Bool) (n : ℕ) (s : S.State) (taken : List Answer) where
  abbrev Ends : TraceEnd → Type 0
  Ends e = EndsAs S deep (most_for n e) n s taken (run_end e)

  -- the run ends so where its own end is this
  pub own_ends : (e : TraceEnd) → e ≢ told.StepLimit → e ≢ told.HostCallLimit → (o : Option RunEnd) (b : Bool) → o ≡ own_end (S.status s) (deep s) → Decides b (o ≡ Some (run_end e)) → Decides b (Ends e)
  own_ends e unlimited unanswered o b same decides = (
    λ yes. to e unlimited unanswered (own_from (S.status s) (deep s) (run_end e) (sym same ∙ decides.0 yes)),
    λ ends. decides.1 (same ∙ own_to (S.status s) (deep s) (run_end e) (from e unlimited unanswered ends)),
  )
    where
      to : (e : TraceEnd) → e ≢ told.StepLimit → e ≢ told.HostCallLimit → Own (S.status s) (deep s) (run_end e) → Ends e
      to told.Return a b is = is
      to (told.Exit code) a b is = is
      to (told.Trap why) a b is = is
      to told.StepLimit a b is = absurd is
      to told.DepthLimit a b is = (omega arith, is.0, is.1)
      to told.HostCallLimit a b is = absurd is

      from : (e : TraceEnd) → e ≢ told.StepLimit → e ≢ told.HostCallLimit → Ends e → Own (S.status s) (deep s) (run_end e)
      from told.Return a b is = is
      from (told.Exit code) a b is = is
      from (told.Trap why) a b is = is
      from told.StepLimit a b is = absurd (a refl)
      from told.DepthLimit a b is = (is.1, is.2)
      from told.HostCallLimit a b is = absurd (b refl)

  goes_so : (status : Status HostCall Trap) → goes_on status ≡ not (has_ended status)
  goes_so Moving = refl
  goes_so (Waits call) = refl
  goes_so Returned = refl
  goes_so (Exited code) = refl
  goes_so (Trapped why) = refl

  -- the limit of steps
  pub limit_ends : (b : Bool) → b ≡ has_ended (S.status s) → Decides (not b) (Ends told.StepLimit)
  limit_ends b same = (
    λ live. (refl, goes_so (S.status s) ∙ sym (ap not same) ∙ live),
    λ ends. ap not same ∙ sym (goes_so (S.status s)) ∙ ends.1,
  )

  -- the limit of answers
  pub full_ends : (host : ℕ → Option HostName) (asked : Option Asked) (x : Recorded) → IsAskedOf host (S.status s) asked → x.answers ≡ taken → Decides (is_full asked x) (Ends told.HostCallLimit)
  full_ends host None x still same = (λ yes. absurd (true≢false (sym yes)), λ ends. absurd (true≢false (sym (ap waits ends.1.1) ∙ still)))
  full_ends host (Some a) x tells same =
      let wait = waits_for host a (S.status s) tells in (
        λ many. (omega arith, (wait.call, wait.waits), sym (ap are_many same) ∙ many),
        λ ends. ap are_many same ∙ ends.2,
      )
