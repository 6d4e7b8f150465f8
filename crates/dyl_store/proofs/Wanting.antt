-- A step that calls a function of the loader or of the host is one of code that begins with a call, or of a frame of the loader, so that it
-- may want memory.
use Rattle.std.proofs.Common.{◌≡◌, ◌⊎◌, ℕ, List, [], ◌∷◌, length, Option, Some, None, Bool, true, false, true≢false, Result, Ok, Err, refl, sym, ap, ◌∙◌, subst, inl, inr}
use Rattle.std.proofs.lemmas.Option.{same_Some}
use Rattle.std.specs.Prelude.{IfSome, IsTrue, OnErr, nat_eq}
use Rattle.spec_loading.proofs.of_spec_binary.Options.{each}
use Rattle.spec_loading.specs.spec_binary.Options.{◌>>=◌}
use Rattle.spec_loading.specs.spec_runs.Systems.{Status, Moving, Waits, Returned, Exited, Trapped}
use Rattle.spec_loading.specs.spec_runtime.Names.{HostName}
use Rattle.spec_loading.specs.spec_runtime.Hosts.{HostCall}
use Rattle.spec_loading.specs.spec_runtime.Recorded.{waits}
use Rattle.wasm_form.specs.declared.types.FuncType.{FuncType}
use Rattle.wasm_form.specs.declared.instr.Instr.{Instr, out-Instr}
use Rattle.wasm_form.specs.declared.runtime.LoaderCall.{LoaderCall}
use Rattle.wasm_form.specs.declared.runtime.Trap.{Trap}
use Rattle.wasm_form.specs.declared.runtime.Asked.{Asked}
use Rattle.wasm_form.specs.declared.runtime.Value.{Value}
use Rattle.spec_loading.specs.spec_execution.Activations.{Level, Activation, Move, On, Calls, CallsEntry, Refers, Does, Leaves, Fails, Stuck, end_move, instr_move, code_move, move}
use Rattle.spec_loading.specs.spec_execution.Views.{Effected, performed}
use Rattle.spec_loading.specs.spec_execution.Views as effects
use Rattle.spec_loading.specs.spec_execution.Runs.{Frame, Active, Marked, Next, Goes, Asks, Loads, Ends, Traps, stands, left_with, effected_with, carried_out}
use Rattle.spec_loading.specs.spec_linking.LinkedSets.{set_hosts}
use Rattle.spec_loading.specs.Phases.{LoaderFrame}
use Rattle.spec_loading.specs.Loading.{Loading, LoadedState, Comes, comes_to, with_run, came_to, loaded_next, loaded_from}
use Rattle.spec_loading.specs.LoadedSet.{set_loading}
use Rattle.wasm_step.specs.Named.{is_call}
use Rattle.wasm_view.specs.Seen.{Seen}
use Rattle.spec_loading.specs.spec_execution.Instances.{ModuleParts}
use Rattle.wasm_machine.specs.Machines.{may_grow_at}
use Rattle.wasm_machine.specs.declared.machine.Standing.TheVariants as standing
use Rattle.wasm_machine.specs.declared.event.Event.{Event}
use Rattle.wasm_machine.specs.declared.event.Event.TheVariants as event
use Rattle.wasm_machine.specs.Steps.{TellsStatus, is_wait}
use Rattle.wasm_machine.proofs.Staying.{StaysIn, instr-stays}
use Rattle.dyl_frames.specs.declared.frames.Core.{Core}
use Rattle.dyl_frames.specs.Next.{CallsOrGrows}
use Rattle.dyl_frames.specs.Cores.{stack_of, WantsFrom}
use Rattle.dyl_frames.proofs.CodeSteps.{state_moving}
use Rattle.dyl_store.specs.Worlds.{seen_of}
use Rattle.dyl_store.specs.declared.running.Running.{Running}
use Rattle.dyl_store.specs.Runs.{StepsTo, WantsTo}
use Rattle.dyl_store.proofs.Calling.{either}

-- ---- moves

-- nothing is called
abbrev CallsNothing : Move → Type 0
CallsNothing (Calls f a) = ⊥
CallsNothing (CallsEntry t ty i a) = ⊥
CallsNothing _ = Unit {0}

stays_calling_nothing : (unit func count : ℕ) (m : Move) → StaysIn unit func count m → CallsNothing m
stays_calling_nothing unit func count (On a) h = tt
stays_calling_nothing unit func count (Calls f a) h = absurd h
stays_calling_nothing unit func count (CallsEntry t ty i a) h = absurd h
stays_calling_nothing unit func count (Refers f a) h = tt
stays_calling_nothing unit func count (Does effect a) h = tt
stays_calling_nothing unit func count (Leaves values) h = tt
stays_calling_nothing unit func count (Fails why) h = tt
stays_calling_nothing unit func count Stuck h = tt

end_calls_nothing : (ls : List Level) (a : Activation) → CallsNothing (end_move ls a)
end_calls_nothing [] a = either CallsNothing (nat_eq (length a.values) a.results) (Leaves a.values) Stuck tt tt
end_calls_nothing (l ∷ ls) a = tt

begins_with_call : (types : ℕ → Option FuncType) (is : List Instr) (a : Activation) → IsTrue (may_grow_at is) ⊎ CallsNothing (code_move types is a)
begins_with_call types [] a = inr (end_calls_nothing a.levels a)
begins_with_call types (i ∷ is) a = go (is_call (out-Instr i)) refl
  where
    b : Activation
    b = record a { rest = is }

    go : (calls : Bool) → is_call (out-Instr i) ≡ calls → IsTrue (may_grow_at (i ∷ is)) ⊎ CallsNothing (code_move types (i ∷ is) a)
    go true e = inl (rw e refl)
    go false e = inr (stays_calling_nothing a.unit a.func (length a.locals) (instr_move types (out-Instr i) b) (instr-stays types (out-Instr i) b e))

-- ---- what they come to

-- no function of the loader or of the host is called
abbrev StaysInside : {Units : Type 0} → Next Units LoaderFrame → Type 0
StaysInside (Loads which args frames) = ⊥
StaysInside (Asks entry args frames) = ⊥
StaysInside _ = Unit {0}

abbrev ComesToNone : {Units : Type 0} → Option (Comes Units) → Type 0
ComesToNone o = IfSome o (λ x. IfSome x.next StaysInside)

module _ {Units : Type 0} (D : Loading Units) (s : LoadedState Units) where
  effected_so : (frames : List (Frame LoaderFrame)) (a : Activation) (e : Effected Units) → StaysInside (effected_with frames a e)
  effected_so frames a (effects.Gives values us memory) = tt
  effected_so frames a (effects.Traps why) = tt

  left_so : (values : List Value) (frames : List (Frame LoaderFrame)) → StaysInside (left_with s.run.units s.run.memory values frames)
  left_so values [] = tt
  left_so values (f ∷ fs) = tt

  carried_so : (frames : List (Frame LoaderFrame)) (m : Move) → CallsNothing m → IfSome (carried_out D.view s.run.units s.run.memory frames m) StaysInside
  carried_so frames (On a) h = tt
  carried_so frames (Calls f a) h = absurd h
  carried_so frames (CallsEntry t ty i a) h = absurd h
  carried_so frames (Refers f a) h = each StaysInside (D.view.target a.unit f) _ (λ r. tt)
  carried_so frames (Does effect a) h = each StaysInside (performed D.view s.run.units s.run.memory a.unit effect) _ (effected_so frames a)
  carried_so frames (Leaves values) h = left_so values frames
  carried_so frames (Fails why) h = tt
  carried_so frames Stuck h = tt

  comes_so : (next : Option (Next Units LoaderFrame)) → IfSome next StaysInside → ComesToNone (comes_to s next)
  comes_so None h = tt
  comes_so (Some next) h = h

  module _ (which : LoaderCall) (args : List ℕ) (under : List (Frame LoaderFrame)) where
    loads_from : (stack : List (Frame LoaderFrame)) → loaded_next D s stack ≡ comes_to s (Some (Loads which args under)) → CallsOrGrows stack
    loads_from [] e = absurd cc
    loads_from (Marked frame ∷ frames) e = tt
    loads_from (Active a ∷ frames) e = go (begins_with_call (D.view.declared a.unit) a.rest a)
      where
        go : IsTrue (may_grow_at a.rest) ⊎ CallsNothing (move (D.view.declared a.unit) a) → CallsOrGrows (Active a ∷ frames)
        go (inl grows) = grows
        go (inr none) =
            let next = carried_out D.view s.run.units s.run.memory frames (move (D.view.declared a.unit) a) in
            absurd (subst ComesToNone e (comes_so next (carried_so frames (move (D.view.declared a.unit) a) none)))

  -- ---- the host

  -- a step that stays inside leads to a state that doesn't wait
  unasked : (next : Option (Next Units LoaderFrame)) → IfSome next StaysInside → (t : LoadedState Units) → (comes_to s next >>= λ x. came_to D x.state x.next) ≡ Some t → waits t.run.status ≡ false
  unasked None h t e = absurd cc
  unasked (Some (Goes us memory frames)) h t e =
      ap (λ (x : LoadedState Units). waits x.run.status) (sym (same_Some (with_run s (record { units = us; memory = memory; stack = frames; status = Moving })) t e))
  unasked (Some (Asks entry args frames)) h t e = absurd h
  unasked (Some (Loads which args frames)) h t e = absurd h
  unasked (Some Ends) h t e = ap (λ (x : LoadedState Units). waits x.run.status) (sym (same_Some (with_run s (stands s.run [] Returned)) t e))
  unasked (Some (Traps why)) h t e = ap (λ (x : LoadedState Units). waits x.run.status) (sym (same_Some (with_run s (stands s.run [] (Trapped why))) t e))

  asks_from : (stack : List (Frame LoaderFrame)) (t : LoadedState Units) → loaded_from D s stack ≡ Some t → waits t.run.status ≡ true → CallsOrGrows stack
  asks_from [] t e asks = absurd cc
  asks_from (Marked frame ∷ frames) t e asks = tt
  asks_from (Active a ∷ frames) t e asks = go (begins_with_call (D.view.declared a.unit) a.rest a)
    where
      go : IsTrue (may_grow_at a.rest) ⊎ CallsNothing (move (D.view.declared a.unit) a) → CallsOrGrows (Active a ∷ frames)
      go (inl grows) = grows
      go (inr none) =
          let next = carried_out D.view s.run.units s.run.memory frames (move (D.view.declared a.unit) a) in
          let still = unasked next (carried_so frames (move (D.view.declared a.unit) a) none) t e in
          absurd (true≢false (sym asks ∙ still))

-- ---- what runs

-- where a call of the loader is told the step may want memory
pub told_wants : (call : LoaderCall) (first second : ℕ) (old mid : Running) → StepsTo old.linked.now (event.Loader call first second) old mid → WantsTo old
told_wants call first second old mid told = λ s at.
    let L = old.linked.now in
    let c = (told s at).1.call in
    (c.moving, loads_from (set_loading L) s c.which c.args (stack_of mid.core) s.run.stack c.comes)

-- and where the run waits for a host function after the step
asked_waits : (host : ℕ → Option HostName) (asked : Asked) (status : Status HostCall Trap) → TellsStatus host (event.Waits asked) status → waits status ≡ true
asked_waits host asked (Waits call) tells = refl
asked_waits host asked Moving tells = absurd tells
asked_waits host asked Returned tells = absurd tells
asked_waits host asked (Exited code) tells = absurd tells
asked_waits host asked (Trapped why) tells = absurd tells

pub wait_wants : (e : Event) → is_wait e ≡ true → (old new : Running) → old.core.machine.standing ≡ standing.Moving → StepsTo old.linked.now e old new → WantsTo old
wait_wants (event.Waits asked) is old new moving told = λ s at.
    let L = old.linked.now in
    let made = (told s at).1 in
    let goes = state_moving (set_loading L) old.core old.world.store old.world.memory s at moving in
    (goes.0, asks_from (set_loading L) s s.run.stack made.0 made.1 (asked_waits (set_hosts L) asked made.0.run.status made.2))
wait_wants event.Moved is old new moving told = absurd (true≢false (sym is))
wait_wants (event.Loader which first second) is old new moving told = absurd (true≢false (sym is))
wait_wants (event.Marked tag) is old new moving told = absurd (true≢false (sym is))
wait_wants event.Returned is old new moving told = absurd (true≢false (sym is))
wait_wants (event.Trapped why) is old new moving told = absurd (true≢false (sym is))
wait_wants (event.Exited code) is old new moving told = absurd (true≢false (sym is))
wait_wants event.Deep is old new moving told = absurd (true≢false (sym is))

-- what the frames of the loader may want the run may
abbrev FrameWants : Core → Seen ModuleParts → Type 0
FrameWants core w = (D : Loading ModuleParts) → WantsFrom D core w

pub wants_so : {T E : Type 0} (x : Running) (r : Result T E) → OnErr r (FrameWants x.core (seen_of x.world)) → OnErr r (WantsTo x)
wants_so x (Ok t) wants = tt
wants_so x (Err e) wants = wants (set_loading x.linked.now)

-- the same machine over the same world may want it where it may
pub wants_still : {T E : Type 0} (x : Running) (core : Core) (w : Seen ModuleParts) → core ≡ x.core → w ≡ seen_of x.world → (r : Result T E)
    → OnErr r (WantsFrom (set_loading x.linked.now) core w) → OnErr r (WantsTo x)
wants_still x core w same seen (Ok t) wants = tt
wants_still x core w same seen (Err e) wants =
    let D = set_loading x.linked.now in
    subst (λ (c : Core). WantsFrom D c (seen_of x.world)) same (subst (λ (v : Seen ModuleParts). WantsFrom D core v) seen wants)

-- what is so is so on Err
pub on_lost : {T E : Type 0} (r : Result T E) (P : Type 0) → P → OnErr r P
on_lost (Ok t) P p = tt
on_lost (Err e) P p = p
