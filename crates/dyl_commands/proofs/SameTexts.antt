-- What is written or put of one set, or of one run, is the same each time.
use Rattle.std.proofs.Common.{◌≡◌, ◌<◌, ◌≤◌, ℕ, List, Bool, true, false, nat_eq, Option, Some, None, if◌then◌else◌, refl, sym, ap, ◌∙◌, subst, arith}
use Rattle.std.proofs.Math.Nat.{le_antisymm}
use Rattle.wasm_form.specs.declared.runtime.Trap.{Trap}
use Rattle.spec_hosts.specs.spec_runs.Systems.{Status, Moving, Waits, Returned, Exited, Trapped}
use Rattle.spec_hosts.specs.spec_runtime.Hosts.{HostCall}
use Rattle.spec_reading.specs.spec_binary.Number.{IsShortest}
use Rattle.spec_reading.specs.spec_binary.Modules.{SpellsModule}
use Rattle.spec_loading.specs.spec_linking.Sets.{ClosedSet}
use Rattle.spec_loading.specs.spec_linking.LinkedSets.{LinkedSet}
use Rattle.spec_loading.specs.LoadedSet.{SetState, set_loading}
use Rattle.spec_loading.specs.Loading.{loaded_too_deep}
use Rattle.spec_traces.specs.Texts.{trace_text}
use Rattle.spec_traces.specs.Traces.{IsTraceOf}
use Rattle.spec_snapshots.specs.Causes.{SnapCause, Takes, IsFirst, is_started, cause_by, state_after}
use Rattle.spec_snapshots.specs.Stretches.{Contents}
use Rattle.spec_snapshots.specs.Laws.{WrittenIsOne}
use Rattle.wasm_encode.specs.Laws.{OneShortestModule}
use Rattle.snap_set.specs.Parts.{snapshot_module}
use Rattle.snap_merge.specs.Answers.{AreShortestAfter}
use Rattle.run_loaded.specs.Courses.{Origin, course_of}
use Rattle.replay_check.specs.Laws.{OneTrace}
use Rattle.dyl_front.specs.Listing.{listing_of}
use Rattle.dyl_commands.specs.Linking.{linked}
use Rattle.dyl_commands.specs.Laws.{SnapshotsAreOne, ListingsAreOne, TracesAreOne}

-- ---- snapshots

-- a snapshot is taken of started states alone
takes_started : (started used deep : Bool) (status : Status HostCall Trap) → (if started then Some Takes else cause_by used deep status) ≡ Some Takes → started ≡ true
takes_started true used deep status e = refl
takes_started false true deep Moving e = absurd cc
takes_started false false true Moving e = absurd cc
takes_started false false false Moving e = absurd cc
takes_started false used deep (Waits call) e = absurd cc
takes_started false used deep Returned e = absurd cc
takes_started false used deep (Exited code) e = absurd cc
takes_started false used deep (Trapped why) e = absurd cc

-- and of each one something is to be said
started_says : (started : Bool) (cause : Option SnapCause) → started ≡ true → (if started then Some Takes else cause) ≡ None → ⊥
started_says true cause is e = absurd cc
started_says false cause is e = absurd cc

module _ (L : LinkedSet) where
  not_before : (most many n m : ℕ) → IsFirst L most n Takes → IsFirst L many m Takes → n < m → ⊥
  not_before most many n m first other lt =
      let s : SetState = state_after L n in
      let deep = loaded_too_deep (set_loading L) s in
      started_says (is_started s) (cause_by (nat_eq n many) deep s.run.status)
      (takes_started (is_started s) (nat_eq n most) deep s.run.status first.here) (other.before n lt)

  -- however many steps may be made
  same_first : (most many n m : ℕ) → IsFirst L most n Takes → IsFirst L many m Takes → n ≡ m
  same_first most many n m first other = le_antisymm (by (not_before many most m n other first)) (by (not_before most many n m first other))
    where
      by : {a b : ℕ} → (a < b → ⊥) → b ≤ a
      by not = omega arith

  -- the same state has the same bytes
  same_bytes : WrittenIsOne → OneShortestModule → (s : SetState) (bytes also : List ℕ) → AreShortestAfter L s bytes → AreShortestAfter L s also → bytes ≡ also
  same_bytes one law s bytes also x y =
      let same : x.0 ≡ y.0 = one s.run.memory _ x.0 y.0 x.1.written y.1.written in
      law (snapshot_module L s x.0) refl bytes also x.2 (subst (λ (c : Contents). IsShortest (SpellsModule (snapshot_module L s c)) also) (sym same) y.2)

pub one_snapshot : WrittenIsOne → OneShortestModule → SnapshotsAreOne
one_snapshot one law names link o p most many out place files after others later x y same =
    let L : LinkedSet = linked names link x.set in
    let first : IsFirst L many y.steps Takes = subst (λ (S : ClosedSet). IsFirst (linked names link S) many y.steps Takes) (sym same) y.first in
    let steps : x.steps ≡ y.steps = same_first L most many x.steps y.steps x.first first in
    let there : AreShortestAfter L (state_after L y.steps) y.output =
    subst (λ (S : ClosedSet). AreShortestAfter (linked names link S) (state_after (linked names link S) y.steps) y.output) (sym same) y.snapped.shortest
    in
    let here : AreShortestAfter L (state_after L x.steps) y.output = subst (λ n. AreShortestAfter L (state_after L n) y.output) (sym steps) there in
    same_bytes L one law (state_after L x.steps) x.output y.output x.snapped.shortest here

-- ---- texts

pub one_listing : ListingsAreOne
one_listing names link o p files others result also old new before after x y same = ap (λ (S : ClosedSet). listing_of (linked names link S)) same

pub one_trace : OneTrace → TracesAreOne
one_trace law names single link o p out place files after others later r x y same =
    let there : IsTraceOf (course_of x.program) r y.trace = subst (λ (g : Origin). IsTraceOf (course_of g) r y.trace) (sym same) y.is in
    x.of_trace.0 ∙ ap trace_text (law x.program r x.trace y.trace x.is there) ∙ sym y.of_trace.0
