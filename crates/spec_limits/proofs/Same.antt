-- Of two runs that agree, over the same answers, one has ended by itself, and the other meets no limit of steps or of depth: both end alike.
use Rattle.std.proofs.Common.{◌≡◌, ℕ, ◌<◌, ◌≤◌, List, ◌++◌, Some, Bool, false, true≢false, refl, sym, ap, ap₂, ◌∙◌, subst}
use Rattle.spec_hosts.specs.wasm_form.declared.runtime.Answer.{Answer}
use Rattle.spec_hosts.specs.spec_runs.Systems.{Waits, System, Ran, event_at, event, run}
use Rattle.spec_hosts.specs.spec_runs.Agreement.{Alike, Follows}
use Rattle.spec_hosts.specs.spec_runs.Costs.{made}
use Rattle.spec_hosts.specs.spec_runtime.Hosts.{HostCall, hosts}
use Rattle.spec_hosts.specs.Devices.{Devices}
use Rattle.spec_hosts.specs.Hosted.{Embedder, Hosted}
use Rattle.spec_hosts.specs.declared.ran.Ran as told
use Rattle.spec_hosts.specs.declared.ran.RunEnd.{RunEnd}
use Rattle.spec_hosts.specs.declared.ran.RunEnd.TheVariants as end
use Rattle.spec_hosts.specs.Ends.{are_many, taken_by, EndsAs, RunsTo, AreHosted, goes_on}
use Rattle.spec_limits.specs.Ending.{EndsByItself}
use Rattle.spec_limits.specs.SameRuns.{HasRoom}
use Rattle.spec_limits.proofs.Made.{made_are_real, run_of_made}
use Rattle.spec_limits.proofs.Ended.{end_of, ends_later, one_end, ended_by_itself, ends_as, end_is_end, not_moving, same_taken}
use Rattle.spec_limits.proofs.Within.{due_at, due_waiting}

-- what has ended by itself wasn't ended by a limit
pub has_room : (e : RunEnd) → EndsByItself e → HasRoom e
has_room end.Return itself = tt
has_room (end.Exit code) itself = tt
has_room (end.Trap why) itself = tt
has_room end.StepLimit itself = absurd itself
has_room end.DepthLimit itself = absurd itself
has_room end.HostCallLimit itself = absurd itself
has_room end.TurnLimit itself = absurd itself

-- What is seen of two runs that have come so far: the same host calls, and how they stand, on which memory.
pub record SeenAlike (S T : System hosts) (r : Ran hosts S.State) (q : Ran hosts T.State) : Type 0 where
  pub events : q.events ≡ r.events
  pub status : T.status q.state ≡ S.status r.state
  pub memory : T.memory q.state ≡ S.memory r.state

pub seen_back : (S T : System hosts) (r : Ran hosts S.State) (q : Ran hosts T.State) → SeenAlike S T r q → SeenAlike T S q r
seen_back S T r q seen = record { events = sym seen.events; status = sym seen.status; memory = sym seen.memory }

-- so the host calls of the one do to the devices what those of the other do
pub hosted_alike : (S T : System hosts) (embedder : Embedder) (s : S.State) (t : T.State) (n m : ℕ) (given taken : List Answer) (old new : Devices)
    → taken ≡ given → SeenAlike S T (run S n s given) (run T m t taken) → AreHosted S embedder s n given old new → AreHosted T embedder t m taken old new
hosted_alike S T embedder s t n m given taken old new same seen hosted =
    let last : event S (run S n s given).state ≡ event T (run T m t taken).state = ap₂ event_at (sym seen.status) (sym seen.memory) in (
      hosted.0,
      seen.events ∙ hosted.1 ∙ ap (λ l. hosted.0 ++ l) last,
      subst (λ answers. Hosted embedder hosted.0 answers old new) (sym same) hosted.2,
    )

module _ (S T : System hosts) (deep : S.State → Bool) (s : S.State) (t : T.State) (there : Follows S T s t) (back : Follows T S t s)
    (least : ℕ) (ran : told.Ran) (is : RunsTo S deep s least ran) (itself : EndsByItself ran.end) where
  abbrev given : List Answer
  given = ran.answers

  abbrev R : ℕ → Ran hosts S.State
  R n = run S n s given

  abbrev Q : ℕ → Ran hosts T.State
  Q m = run T m t given

  ended : end_of (S.status (R ran.steps).state) ≡ Some ran.end
  ended = ended_by_itself S deep least ran.steps (R ran.steps).state (taken_by S ran.steps s given) ran.end itself is.ends

  is_over : goes_on (S.status (R ran.steps).state) ≡ false
  is_over = end_is_end (S.status (R ran.steps).state) ran.end ended

  -- ---- the other run comes to the same end

  abbrev led : ℕ
  led = (there given ran.steps).0

  alike : Alike S T (R ran.steps) (Q led)
  alike = (there given ran.steps).1

  seen : (T.status (Q led).state ≡ S.status (R ran.steps).state) × (T.memory (Q led).state ≡ S.memory (R ran.steps).state)
  seen = alike.seen (not_moving (S.status (R ran.steps).state) ran.end ended)

  there_seen : SeenAlike S T (R ran.steps) (Q led)
  there_seen = record { events = sym alike.events; status = seen.0; memory = seen.1 }

  there_ended : end_of (T.status (Q led).state) ≡ Some ran.end
  there_ended = ap end_of seen.0 ∙ ended

  there_over : goes_on (T.status (Q led).state) ≡ false
  there_over = end_is_end (T.status (Q led).state) ran.end there_ended

  -- after these real steps
  abbrev pub steps : ℕ
  steps = made T led t given

  made_seen : SeenAlike S T (R ran.steps) (Q steps)
  made_seen = subst (λ (q : Ran hosts T.State). SeenAlike S T (R ran.steps) q) (sym (run_of_made T led t given)) there_seen

  -- a call at which it stands is answered in the first run too, where no limit is due
  asked_few : (k : ℕ) (call : HostCall) → T.status (Q k).state ≡ Waits call → are_many (taken_by T k t given) ≡ false
  asked_few k call waits =
      let back = back given k in
      let both = back.1.seen (λ moving. absurd (let w = waits in cc)) in
      let stands : S.status (R back.0).state ≡ Waits call = both.0 ∙ waits in
      let earlier = ends_later S ran.steps back.0 s given is_over (ap goes_on stands) in
      ap are_many (same_taken S T s t given k back.0 call back.1.events waits stands)
      ∙ due_waiting S deep (R back.0).state (taken_by S back.0 s given) call stands (is.made.free back.0 earlier)

  -- so it runs to that end, where it may make so many steps, before which no limit of depth is due
  pub runs_to : (other_deep : T.State → Bool) (most : ℕ) → steps ≤ most → ((k : ℕ) → k < steps → other_deep (Q k).state ≡ false)
      → RunsTo T other_deep t most (record ran { steps = steps })
  runs_to other_deep most few flat = record {
    made = record {
      few = few;
      real = made_are_real T led t given;
      free = λ k lt. due_at T other_deep (Q k).state (taken_by T k t given) (T.status (Q k).state) refl (λ moving. flat k lt) (asked_few k);
    };
    ends = ends_as T other_deep most steps (Q steps).state (taken_by T steps t given) ran.end itself (ap end_of made_seen.status ∙ ended);
  }

  pub runs_seen : SeenAlike S T (R ran.steps) (Q steps)
  runs_seen = made_seen

  -- ---- and no other run that meets no limit of steps or of depth ends otherwise

  module _ (other_deep : T.State → Bool) (most : ℕ) (other : told.Ran) (same : other.answers ≡ given) (its : RunsTo T other_deep t most other)
      (room : HasRoom other.end) where
    abbrev Over : List Answer → Ran hosts T.State
    Over answers = run T other.steps t answers

    stands : EndsAs T other_deep most other.steps (Q other.steps).state (taken_by T other.steps t given) other.end
    stands = subst (λ answers. EndsAs T other_deep most other.steps (Over answers).state (taken_by T other.steps t answers) other.end) same its.ends

    abbrev Meets : RunEnd → Type 0
    Meets e = (e ≡ ran.end) × (Q other.steps ≡ Q led)

    over : (e : RunEnd) → end_of (T.status (Q other.steps).state) ≡ Some e → Meets e
    over e is_end =
        let one = one_end T led other.steps t given there_over (end_is_end (T.status (Q other.steps).state) e is_end) in
        let found : Some e ≡ Some ran.end = sym is_end ∙ ap (λ (q : Ran hosts T.State). end_of (T.status q.state)) one ∙ there_ended in
        (cc, one)

    meets_by : (e : RunEnd) → HasRoom e → EndsAs T other_deep most other.steps (Q other.steps).state (taken_by T other.steps t given) e → Meets e
    meets_by end.Return room ends = over end.Return (ap end_of ends)
    meets_by (end.Exit code) room ends = over (end.Exit code) (ap end_of ends)
    meets_by (end.Trap why) room ends = over (end.Trap why) (ap end_of ends)
    meets_by end.StepLimit room ends = absurd room
    meets_by end.DepthLimit room ends = absurd room
    meets_by end.HostCallLimit room ends = absurd (true≢false (sym ends.2 ∙ asked_few other.steps ends.1.0 ends.1.1))
    meets_by end.TurnLimit room ends = absurd ends

    meets : Meets other.end
    meets = meets_by other.end room stands

    pub same_end : other.end ≡ ran.end
    same_end = meets.0

    pub same_seen : SeenAlike S T (R ran.steps) (run T other.steps t other.answers)
    same_seen = subst (λ (q : Ran hosts T.State). SeenAlike S T (R ran.steps) q) (sym (ap Over same ∙ meets.1)) there_seen
