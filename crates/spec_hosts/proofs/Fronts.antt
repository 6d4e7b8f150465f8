-- Whatever host calls do, the sinks keep what they held in front of what they hold, and no count of faults falls.
use Rattle.std.proofs.Common.{◌≡◌, ℕ, zero, suc, ◌≤◌, Bool, true, false, List, [], ◌∷◌, ◌++◌, take, Option, Some, None, Result, Ok, Err, IsSomeAnd, inl, inr, refl, sym, ap, ◌∙◌, subst, append_assoc, append-nil, le_refl, le_of_eq, le_trans}
use Rattle.dyl_outside.specs.declared.fault.IoFault.{IoFault}
use Rattle.dyl_outside.specs.declared.fault.IoFault.TheVariants.{Failed, Memory}
use Rattle.dyl_outside.specs.Faults.{FaultCount}
use Rattle.dyl_outside.specs.Sink.{SinkState, IsPut, Puts}
use Rattle.dyl_outside.specs.Ambient.{AmbientState}
use Rattle.spec_runtime.specs.wasm_form.declared.memory.Memory as wanting
use Rattle.spec_runtime.specs.wasm_form.declared.runtime.Answer.{Answer}
use Rattle.spec_runtime.specs.spec_runs.Systems.{System, run, event}
use Rattle.spec_runtime.specs.Memories.{MemoryInstance}
use Rattle.spec_runtime.specs.Hosts.{HostCall, hosts}
use Rattle.spec_hosts.specs.Devices.{Devices, KeepsFront, KeepsFronts}
use Rattle.spec_hosts.specs.declared.ran.Ran.{Ran}
use Rattle.spec_hosts.specs.Calls as calls
use Rattle.spec_hosts.specs.Hosted.{DrawsSome, IsBegun, MayBegin, IsAnswered, Embedder, OneOf, is_wasi, wants, IsHosted, Hosted, IsBroken, CallComesTo, BreaksOff}
use Rattle.spec_hosts.specs.Ends.{IsRunOf, IsCutShort}
use Rattle.spec_hosts.proofs.Begun.{answered_begun}

counted : {T : Type 0} (result : Result T IoFault) (before now : ℕ) → FaultCount result before now → before ≤ now
counted (Ok value) before now e = le_of_eq (sym e)
counted (Err Failed) before now rises = rises.later
counted (Err Memory) before now e = le_of_eq (sym e)

-- ---- sinks

-- these are held with more after them
abbrev IsFront : List ℕ → Option (List ℕ) → Type 0
IsFront before held = IsSomeAnd held (λ after. (gained : List ℕ) × (after ≡ before ++ gained))

front_itself : (before : List ℕ) (held : Option (List ℕ)) → held ≡ Some before → IsFront before held
front_itself before held e = subst (IsFront before) (sym e) ([], sym (append-nil before))

front_put : {T : Type 0} (before bytes : List ℕ) (result : Result T IoFault) (after : Option (List ℕ)) → IsPut before bytes result after → IsFront before after
front_put before bytes (Ok value) after e = subst (IsFront before) (sym e) (bytes, refl)
front_put before bytes (Err Failed) (Some now) gained = (take gained.0 bytes, gained.1)
front_put before bytes (Err Failed) None gained = absurd gained
front_put before bytes (Err Memory) after e = front_itself before after e

sink_itself : (sink : SinkState) → KeepsFront sink sink
sink_itself sink = record { front = λ before e. front_itself before sink.held e; count = le_refl sink.faults }

sink_put : (bytes : List ℕ) (result : Result (Unit {0}) IoFault) (old new : SinkState) → Puts bytes result old new → KeepsFront old new
sink_put bytes result old new puts = record {
  front = λ before e. front_put before bytes result new.held (puts.answer before e);
  count = counted result old.faults new.faults puts.count;
}

-- ---- random words

words_counted : (n : ℕ) (old new : AmbientState) → DrawsSome n old new → old.faults ≤ new.faults
words_counted zero old new same = le_of_eq (ap (λ (c : AmbientState). c.faults) (sym same))
words_counted (suc n) old new (inl same) = le_of_eq (ap (λ (c : AmbientState). c.faults) (sym same))
words_counted (suc n) old new (inr more) = le_trans (counted more.0 old.faults more.1.faults more.2.count) (words_counted n more.1 new more.3)

-- ---- the devices

pub fronts_itself : (d : Devices) → KeepsFronts d d
fronts_itself d = record { output = sink_itself d.output; errors = sink_itself d.errors; input = le_refl d.input.faults; ambient = le_refl d.ambient.faults }

begun_fronts : (wanted : calls.Wanted) (old new : Devices) → IsBegun wanted old new → KeepsFronts old new
begun_fronts (calls.Says said) old new h = subst (KeepsFronts old) (sym h) (fronts_itself old)
begun_fronts (calls.PutsOut bytes said) old new h = subst (KeepsFronts old) (sym h.3) (record {
  output = sink_put bytes h.0 old.output h.1 h.2;
  errors = sink_itself old.errors;
  input = le_refl old.input.faults;
  ambient = le_refl old.ambient.faults;
})
begun_fronts (calls.PutsError bytes said) old new h = subst (KeepsFronts old) (sym h.3) (record {
  output = sink_itself old.output;
  errors = sink_put bytes h.0 old.errors h.1 h.2;
  input = le_refl old.input.faults;
  ambient = le_refl old.ambient.faults;
})
begun_fronts (calls.Takes most go) old new h = subst (KeepsFronts old) (sym h.3) (record {
  output = sink_itself old.output;
  errors = sink_itself old.errors;
  input = counted h.0 old.input.faults h.1.faults h.2.count;
  ambient = le_refl old.ambient.faults;
})
begun_fronts (calls.Times go) old new h = subst (KeepsFronts old) (sym h.3) (record {
  output = sink_itself old.output;
  errors = sink_itself old.errors;
  input = le_refl old.input.faults;
  ambient = counted h.0 old.ambient.faults h.1.faults h.2.count;
})
begun_fronts (calls.Draws n go) old new h = subst (KeepsFronts old) (sym h.2) (record {
  output = sink_itself old.output;
  errors = sink_itself old.errors;
  input = le_refl old.input.faults;
  ambient = words_counted n old.ambient h.0 h.1;
})

may_fronts : (wanted : calls.Wanted) (old new : Devices) → MayBegin wanted old new → KeepsFronts old new
may_fronts wanted old new (inl same) = subst (KeepsFronts old) (sym same) (fronts_itself old)
may_fronts wanted old new (inr begun) = begun_fronts wanted old new begun

-- ---- one use after the other

front_longer : (before gained middle : List ℕ) (held : Option (List ℕ)) → middle ≡ before ++ gained → IsFront middle held → IsFront before held
front_longer before gained middle None e front = front
front_longer before gained middle (Some after) e front = (gained ++ front.0, front.1 ∙ ap (λ x. x ++ front.0) e ∙ append_assoc before gained front.0)

front_trans : (a b c : SinkState) → KeepsFront a b → KeepsFront b c → KeepsFront a c
front_trans a b c first second = record { front = λ before e. by before b.held refl (first.front before e); count = le_trans first.count second.count }
  where
    by : (before : List ℕ) (held : Option (List ℕ)) → b.held ≡ held → IsFront before held → IsFront before c.held
    by before None e front = absurd front
    by before (Some middle) e front = front_longer before front.0 middle c.held front.1 (second.front middle e)

pub fronts_trans : {a b c : Devices} → KeepsFronts a b → KeepsFronts b c → KeepsFronts a c
fronts_trans {a} {b} {c} first second = record {
  output = front_trans a.output b.output c.output first.output second.output;
  errors = front_trans a.errors b.errors c.errors first.errors second.errors;
  input = le_trans first.input second.input;
  ambient = le_trans first.ambient second.ambient;
}

-- ---- the calls of a run

module _ (embedder : Embedder) where
  -- a call that was answered was begun
  pub hosted_broken : (e : HostCall × MemoryInstance) (a : Answer) (old new : Devices) → IsHosted embedder e a old new → IsBroken embedder e old new
  hosted_broken e a old new h = by (is_wasi e.0) h
    where
      by : (b : Bool) → OneOf b (IsAnswered (wants embedder e.0 e.1) a old new) (embedder.callback e.0 e.1 a × (new ≡ old)) → OneOf b (MayBegin (wants embedder e.0 e.1) old new) (new ≡ old)
      by true h = answered_begun (wants embedder e.0 e.1) a old new h
      by false h = h.1

  pub asked_broken : (e : HostCall × MemoryInstance) (r : Result Answer wanting.Memory) (old new : Devices) → CallComesTo embedder e r old new → IsBroken embedder e old new
  asked_broken e (Ok a) old new h = hosted_broken e a old new h
  asked_broken e (Err why) old new h = h

  none_broken : (e : HostCall × MemoryInstance) (d : Devices) → IsBroken embedder e d d
  none_broken e d = by (is_wasi e.0)
    where
      by : (b : Bool) → OneOf b (MayBegin (wants embedder e.0 e.1) d d) (d ≡ d)
      by true = inl refl
      by false = refl

  -- nothing was begun
  pub breaks_none : (es : List (HostCall × MemoryInstance)) (d : Devices) → BreaksOff embedder es d d
  breaks_none [] d = refl
  breaks_none (e ∷ es) d = none_broken e d

  broken_fronts : (e : HostCall × MemoryInstance) (old new : Devices) → IsBroken embedder e old new → KeepsFronts old new
  broken_fronts e old new h = by (is_wasi e.0) h
    where
      by : (b : Bool) → OneOf b (MayBegin (wants embedder e.0 e.1) old new) (new ≡ old) → KeepsFronts old new
      by true h = may_fronts (wants embedder e.0 e.1) old new h
      by false h = subst (KeepsFronts old) (sym h) (fronts_itself old)

  hosted_fronts : (es : List (HostCall × MemoryInstance)) (given : List Answer) (old new : Devices) → Hosted embedder es given old new → KeepsFronts old new
  hosted_fronts [] [] old new h = subst (KeepsFronts old) (sym h) (fronts_itself old)
  hosted_fronts (e ∷ es) (a ∷ given) old new h = fronts_trans (broken_fronts e old h.0 (hosted_broken e a old h.0 h.1)) (hosted_fronts es given h.0 new h.2)
  hosted_fronts [] (a ∷ given) old new h = absurd h
  hosted_fronts (e ∷ es) [] old new h = absurd h

  break_fronts : (es : List (HostCall × MemoryInstance)) (old new : Devices) → BreaksOff embedder es old new → KeepsFronts old new
  break_fronts [] old new h = subst (KeepsFronts old) (sym h) (fronts_itself old)
  break_fronts (e ∷ es) old new h = broken_fronts e old new h

  module _ (S : System hosts) (deep : S.State → Bool) (opening : S.State) (most : ℕ) (old new : Devices) where
    -- a run keeps what the sinks held, and so does one that is cut short
    pub run_fronts : (ran : Ran) → IsRunOf S deep embedder opening most ran old new → KeepsFronts old new
    run_fronts ran run = hosted_fronts run.hosted.0 ran.answers old new run.hosted.2

    pub cut_fronts : IsCutShort S deep embedder opening most old new → KeepsFronts old new
    cut_fronts cut = fronts_trans (hosted_fronts cut.hosted.0 cut.given old cut.middle cut.hosted.2) (break_fronts (event S (run S cut.steps opening cut.given).state) cut.middle new cut.broken)
