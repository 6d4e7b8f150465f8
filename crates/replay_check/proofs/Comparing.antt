-- A run that follows a trace to its end, whatever it is that is run.
use Rattle.std.proofs.Common.{◌≡◌, ◌≤◌, ◌<◌, ℕ, suc, Bool, true, false, true≢false, List, length, get_or, slice_get, Some, ◌⊎◌, inl, inr, refl, sym, subst, arith}
use Rattle.std.specs.Prelude.{Decides}
use Rattle.std.proofs.lemmas.Option.{slice_get_within, slice_get_read}
use Rattle.spec_traces.specs.spec_hosts.spec_runtime.Courses.{Course, state_at}
use Rattle.spec_traces.specs.spec_hosts.Ends.{is_due}
use Rattle.spec_traces.specs.declared.trace.Trace.{Trace}
use Rattle.spec_traces.specs.declared.trace.TraceCall.{TraceCall}
use Rattle.spec_traces.specs.Traces.{Traces, Agrees}
use Rattle.run_loaded.specs.Courses.{Origin, course_of}
use Rattle.replay_check.specs.declared.replay.Replay.{Replay}
use Rattle.replay_check.specs.Following.{is_held, run_of, Follows, AtCall, HasMet, HasAgreed, StandsAt}
use Rattle.replay_check.proofs.Following.{agrees_more}
use Rattle.replay_check.proofs.Deciding.{agreeing_here, agreeing_next, agreeing_all, none_over, one_over, is_traced, ends_so, is_held_short}

-- what the code reads at a place is the call there
pub call_there : (given calls : List TraceCall) (k : ℕ) (c : TraceCall) → given ≡ calls → k < length given → c ≡ get_or given k c → slice_get calls k ≡ Some c
call_there given calls k c same lt is = subst (λ calls. slice_get calls k ≡ Some c) same (slice_get_read given (length given) k c refl lt is)

module _ (o : Origin) (t : Trace) (k : ℕ) (r : Replay) where
  abbrev C : Course
  C = course_of o

  -- ---- with how many calls it agrees

  -- the next call doesn't agree
  pub agreed_here : Follows o t k r → (c : TraceCall) → slice_get t.calls k ≡ Some c → (Agrees C t k c → ⊥) → (s : Replay) → HasAgreed o t k s
  agreed_here f c at isnt s = (
    agreeing_here C t k (run_of r) f.followed c at isnt,
    λ all. (let lt = slice_get_within t.calls k c at in absurd (omega arith)),
  )

  -- the next call agrees, and the run goes no further from its wait
  pub agreed_next : (c : TraceCall) → AtCall o t k c r → (run_of r).steps ≤ t.steps → ((run_of r).steps ≡ t.steps) ⊎ (is_due C.system C.deep (state_at C (run_of r)) (run_of r).answers ≡ true) → HasAgreed o t (suc k) r
  agreed_next c at few last = (
    agreeing_next C t k (run_of r) at.follows.followed c at.at at.agrees (elim last [ inl all ↦ inl (omega arith) | inr due ↦ inr due ]),
    λ all. record {
      count = k;
      follows = at.follows;
      few = few;
      agrees = λ j d there. (let lt = slice_get_within t.calls j d there in agrees_more C t k (run_of r) at.follows.followed c at.at at.agrees j d (omega arith) there);
      answered = true;
      left = one_over C t k (run_of r) at.follows.followed c at.at at.steps at.agrees all;
      last = λ yes. last;
    },
  )

  -- all calls agree
  pub agreed_all : Follows o t k r → k ≡ length t.calls → (run_of r).steps ≤ t.steps → HasAgreed o t k r
  agreed_all f all few = (
    agreeing_all C t k (run_of r) f.followed all,
    λ same. record {
      count = k;
      follows = f;
      few = few;
      agrees = λ j c there. (let lt = slice_get_within t.calls j c there in f.followed.agrees j c (omega arith) there);
      answered = false;
      left = none_over C t k (run_of r) f.followed all;
      last = λ yes. absurd (true≢false (sym yes));
    },
  )

-- ---- whether it is that of the trace

module _ (o : Origin) (t : Trace) (r : Replay) (met : HasMet o t r) (s : Replay) (f : Follows o t met.count s) (more : (run_of r).steps ≤ (run_of s).steps) where
  abbrev D : Course
  D = course_of o

  -- it makes no step of its own before the last one
  pub falls_short : (run_of s).steps < t.steps → is_held D (state_at D (run_of s)) ≡ true → Decides false (Traces D t)
  falls_short lt held = (
    λ no. absurd (true≢false (sym no)),
    λ is. absurd (is_held_short D t met.count (run_of r) met.follows.followed met.few met.agrees (run_of s) f.followed more met.answered met.left met.last lt held is),
  )

  -- it is, where it ends as the trace does
  pub ends_traced : (run_of s).steps ≡ t.steps → (ends : Bool) → Decides ends (StandsAt o t.end s) → Decides ends (Traces D t)
  ends_traced all ends decides = (
    λ yes. is_traced D t met.count (run_of r) met.follows.followed met.few met.agrees (run_of s) f.followed more all met.answered met.left met.last (decides.0 yes),
    λ is. decides.1 (ends_so D t met.count (run_of r) met.follows.followed met.few met.agrees (run_of s) f.followed more all is),
  )
