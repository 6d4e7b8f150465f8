-- What the machine tells of a step is told of the step of the run.
use Rattle.std.proofs.Common.{◌≡◌, ℕ, List, [], Option, Some, None, refl, ap, sym, ◌∙◌, subst, length, true, false}
use Rattle.std.specs.Prelude.{IfSome}
use Rattle.std.specs.Option.{option_map}
use Rattle.std.proofs.lemmas.Option.{same_Some}
use Rattle.spec_loading.specs.wasm_form.declared.types.FuncType.{FuncType}
use Rattle.spec_loading.specs.wasm_form.declared.runtime.Trap.{Trap}
use Rattle.spec_loading.specs.wasm_form.declared.runtime.Asked.{Asked}
use Rattle.spec_loading.specs.spec_runs.Systems.{Status, Moving, Waits, Returned, Trapped}
use Rattle.spec_loading.specs.spec_binary.Options.{◌>>=◌}
use Rattle.spec_loading.specs.spec_runtime.Names.{HostName}
use Rattle.spec_loading.specs.spec_runtime.Hosts.{HostCall}
use Rattle.spec_loading.specs.spec_runtime.Memories.{MemoryInstance}
use Rattle.spec_loading.specs.spec_execution.Views.{View}
use Rattle.spec_loading.specs.spec_execution.Instances.{host_type}
use Rattle.spec_loading.specs.spec_execution.Limits.{is_deep, passes_limit}
use Rattle.spec_loading.specs.spec_execution.Runs.{Frame, Next, Goes, Asks, Loads, Ends, Traps, stands}
use Rattle.wasm_step.specs.Moves.{Changes}
use Rattle.wasm_machine.specs.Machines.{MachineState, IsAsked, LeavesCode, Told, StandsAt}
use Rattle.wasm_machine.specs.Marks.{marked_stack, marked_next, KeepsOver}
use Rattle.wasm_machine.specs.declared.machine.Standing.{Standing}
use Rattle.wasm_machine.specs.declared.machine.Standing.TheVariants as standing
use Rattle.wasm_machine.specs.declared.event.Event.{Event}
use Rattle.wasm_machine.specs.declared.event.Event.TheVariants as event
use Rattle.wasm_machine.proofs.Marked.{marked_deep}
use Rattle.spec_loading.specs.Phases.{LoaderFrame}
use Rattle.spec_loading.specs.Loading.{Loading, LoadedState, LoaderAnswer, Comes, comes_to, loaded_next, loaded_step, loaded_too_deep, with_run, went, answered, came_to}
use Rattle.dyl_frames.specs.declared.frames.Core.{Core}
use Rattle.spec_loading.specs.wasm_form.declared.runtime.LoaderCall.{LoaderCall}
use Rattle.dyl_frames.specs.declared.frames.Pending.{Pending}
use Rattle.dyl_frames.specs.Next.{answer_of, next_answer}
use Rattle.dyl_frames.specs.Cores.{frame_at, LiesUnder, loader_arguments, IsLive, loader_of, IsState, StandsAs, Steps, is_made}
use Rattle.dyl_frames.proofs.Loads.{IsLoad}

named : (h : Option HostName) (ty : FuncType) → host_type h ≡ Some ty → (x : HostName) × (h ≡ Some x)
named None ty e = absurd cc
named (Some x) ty e = (x, refl)

module _ {Units : Type 0} (D : Loading Units) (s b : LoadedState Units) (new : Core) (us : Units) (memory : MemoryInstance) where
  -- what the step comes to, over what the machine's does
  abbrev pub ComesFrom : (ℕ → LoaderFrame) → Option (Next Units ℕ) → Type 0
  ComesFrom h next = loaded_next D s s.run.stack ≡ comes_to b (option_map (marked_next h) next)

  abbrev since : Changes Units
  since = record { old_units = b.run.units; old_memory = b.run.memory; new_units = us; new_memory = memory }

  depth : (n : Next Units LoaderFrame) → loaded_next D s s.run.stack ≡ comes_to b (Some n) → loaded_too_deep D s ≡ passes_limit D.view (Some n)
  depth n e = ap (λ (o : Option (Comes Units)). passes_limit D.view (o >>= λ x. x.next)) e

  step_is : (n : Next Units LoaderFrame) → loaded_next D s s.run.stack ≡ comes_to b (Some n) → loaded_step D s ≡ went D b n
  step_is n e = ap (λ (o : Option (Comes Units)). o >>= λ x. came_to D x.state x.next) e

  pub stays_at : (t : LoadedState Units) (st : Standing) → t.loader ≡ loader_of new → t.run.units ≡ us → t.run.memory ≡ memory → new.machine.standing ≡ st → StandsAs D new t st → IsState D new us memory t
  stays_at t st loader units space at h = record { loader = loader; units = units; space = space; standing = subst (λ (x : Standing). StandsAs D new t x) (sym at) h }

  module _ (loader : b.loader ≡ loader_of new) where
    went_on : (us' : Units) (memory' : MemoryInstance) (frames : List (Frame ℕ)) → loaded_next D s s.run.stack ≡ comes_to b (Some (Goes us' memory' (marked_stack (frame_at new.frames.items) frames)))
        → StandsAt new.machine frames standing.Moving → is_deep D.view frames ≡ false → us ≡ us' → memory ≡ memory' → Steps D event.Moved s new us memory
    went_on us' memory' frames e at light units space = (
      depth _ e ∙ marked_deep D.view (frame_at new.frames.items) frames ∙ light,
      (
        with_run b (record { units = us'; memory = memory'; stack = marked_stack (frame_at new.frames.items) frames; status = Moving }),
        step_is _ e,
        tt,
        stays_at _ standing.Moving loader (sym units) (sym space) at.standing_is (refl, ap (λ (fs : List (Frame ℕ)). marked_stack (frame_at new.frames.items) fs) (sym at.frames_are)),
      ),
    )

    asked_of : (host : HostName) (a : Asked) (entry : ℕ) (args : List ℕ) (frames : List (Frame ℕ)) (count : ℕ) → D.names entry ≡ Some host
        → loaded_next D s s.run.stack ≡ comes_to b (Some (Asks entry args (marked_stack (frame_at new.frames.items) frames)))
        → StandsAt new.machine frames (standing.Asking entry count) → a.entry ≡ entry → a.args ≡ args → b.run.units ≡ us → b.run.memory ≡ memory → Steps D (event.Waits a) s new us memory
    asked_of host a entry args frames count found e at which same units space =
        let seen = marked_stack (frame_at new.frames.items) frames in (
          depth _ e,
          (
            with_run b (stands b.run seen (Waits (record { host = host; args = args }))),
            step_is _ e ∙ ap (λ (o : Option HostName). (o >>= λ x. Some (stands b.run seen (Waits (record { host = x; args = args })))) >>= λ t. Some (with_run b t)) found,
            (ap D.names which ∙ found, same),
            stays_at _ (standing.Asking entry count) loader units space at.standing_is
                (record { host = host; args = args }, refl, found, ap (λ (fs : List (Frame ℕ)). marked_stack (frame_at new.frames.items) fs) (sym at.frames_are)),
          ),
        )

    returned : loaded_next D s s.run.stack ≡ comes_to b (Some Ends) → new.machine.standing ≡ standing.Returned → b.run.units ≡ us → b.run.memory ≡ memory → Steps D event.Returned s new us memory
    returned e at units space = (depth _ e, (with_run b (stands b.run [] Returned), step_is _ e, tt, stays_at _ standing.Returned loader units space at refl))

    trapped : (why cause : Trap) → loaded_next D s s.run.stack ≡ comes_to b (Some (Traps cause)) → new.machine.standing ≡ standing.Trapped why → why ≡ cause → b.run.units ≡ us → b.run.memory ≡ memory
        → Steps D (event.Trapped why) s new us memory
    trapped why cause e at same units space =
        let of : Trap → Status HostCall Trap = λ x. Trapped x in
        (depth _ e, (with_run b (stands b.run [] (Trapped cause)), step_is _ e, same, stays_at _ (standing.Trapped why) loader units space at (ap of (sym same))))

    module _ (hosts : (entry : ℕ) → D.view.host entry ≡ host_type (D.names entry)) where
      asked : (a : Asked) (entry : ℕ) (args : List ℕ) (frames : List (Frame ℕ)) (count : ℕ) → loaded_next D s s.run.stack ≡ comes_to b (Some (Asks entry args (marked_stack (frame_at new.frames.items) frames)))
          → StandsAt new.machine frames (standing.Asking entry count) → IsAsked D.view new.machine.standing → a.entry ≡ entry → a.args ≡ args → b.run.units ≡ us → b.run.memory ≡ memory
          → Steps D (event.Waits a) s new us memory
      asked a entry args frames count e at host which same units space =
          let there : IsAsked D.view (standing.Asking entry count) = subst (λ (x : Standing). IsAsked D.view x) at.standing_is host in
          let found = named (D.names entry) there.0 (sym (hosts entry) ∙ there.1) in
          asked_of found.0 a entry args frames count found.1 e at which same units space

      -- a step that is made
      pub steps_told : (e : Event) (next : Option (Next Units ℕ)) (old : MachineState) → is_made e ≡ true → ComesFrom (frame_at new.frames.items) next → Told D.view e next old new.machine since
          → IsAsked D.view new.machine.standing → Steps D e s new us memory
      steps_told event.Moved (Some (Goes us' memory' frames)) old is comes t host = went_on us' memory' frames comes t.0 t.1 t.2 t.3
      steps_told (event.Waits a) (Some (Asks entry args frames)) old is comes t host = asked a entry args frames t.0 comes t.1 host t.2 t.3 (sym t.4.0) (sym t.4.1)
      steps_told (event.Loader which first second) (Some (Loads called args frames)) old is comes t host = absurd cc
      steps_told event.Returned (Some Ends) old is comes t host = returned comes t.0.standing_is (sym t.1.0) (sym t.1.1)
      steps_told (event.Trapped why) (Some (Traps cause)) old is comes t host = trapped why cause comes t.0.standing_is t.1 (sym t.2.0) (sym t.2.1)
      steps_told event.Deep (Some (Goes us' memory' frames)) old is comes t host = absurd cc
      steps_told e next old is comes t host = absurd t

  -- a function of the loader is called
  pub loader_told : (which called : LoaderCall) (first second : ℕ) (args : List ℕ) (frames : List (Frame ℕ)) → D.view.has_loader ≡ true → ComesFrom (frame_at new.frames.items) (Some (Loads called args frames)) → b ≡ s
      → StandsAt new.machine frames standing.Loading → which ≡ called → args ≡ loader_arguments called first second → s.loader ≡ loader_of new → s.run.status ≡ Moving → s.run.units ≡ us → s.run.memory ≡ memory
      → Steps D (event.Loader which first second) s new us memory
  loader_told which called first second args frames there comes here at same given loader moving units space =
      let at_s : loaded_next D s s.run.stack ≡ comes_to s (Some (Loads called args (marked_stack (frame_at new.frames.items) frames))) = comes ∙ ap (λ (x : LoadedState Units). comes_to x (Some (Loads called args (marked_stack (frame_at new.frames.items) frames)))) here in (
        at.standing_is,
        record {
          loader = loader;
          units = units;
          space = space;
          call = record {
            which = called;
            args = args;
            moving = moving;
            comes = at_s ∙ ap (λ (fs : List (Frame ℕ)). comes_to s (Some (Loads called args (marked_stack (frame_at new.frames.items) fs)))) (sym at.frames_are);
          };
        },
        record {
          has_loader = there;
          answer = ap (λ (o : Option (Comes Units)). o >>= λ x. answer_of D x.state x.next) at_s ∙ ap (λ (xs : List ℕ). D.answer called xs s.run.memory s.loader) given
              ∙ ap (λ (m : MemoryInstance). D.answer called (loader_arguments called first second) m s.loader) space
              ∙ ap (λ (w : LoaderCall). D.answer w (loader_arguments w first second) memory s.loader) (sym same);
        },
      )

  -- a step that isn't made
  pub deep_is : (next : Option (Next Units ℕ)) (old n : MachineState) (c : Changes Units) (h : ℕ → LoaderFrame) → ComesFrom h next → Told D.view event.Deep next old n c → loaded_too_deep D s ≡ true
  deep_is (Some (Goes us' memory' frames)) old n c h comes t = depth _ comes ∙ marked_deep D.view h frames ∙ t.0
  deep_is (Some (Asks entry args frames)) old n c h comes t = absurd t
  deep_is (Some (Loads which args frames)) old n c h comes t = absurd t
  deep_is (Some Ends) old n c h comes t = absurd t
  deep_is (Some (Traps why)) old n c h comes t = absurd t
  deep_is None old n c h comes t = absurd t

  pub deep_told : (next : Option (Next Units ℕ)) (old : MachineState) (h : ℕ → LoaderFrame) → ComesFrom h next → Told D.view event.Deep next old new.machine since
      → new.machine.standing ≡ standing.Moving → IsState D new us memory s → Steps D event.Deep s new us memory
  deep_told next old h comes t moving stays = (deep_is next old new.machine since h comes t, moving, stays)

  -- a step that leaves the code isn't followed by one that the run makes by itself
  pub leaves_moving : next_answer D s ≡ None → (next : Option (Next Units ℕ)) (h : ℕ → LoaderFrame) → ComesFrom h next → LeavesCode next
      → (t : LoadedState Units) → loaded_step D s ≡ Some t → t.run.status ≡ Moving → ⊥
  leaves_moving none next h comes leaves t step moving =
      go next leaves (sym (ap (λ (o : Option (Comes Units)). o >>= λ x. answer_of D x.state x.next) comes) ∙ none) (sym (ap (λ (o : Option (Comes Units)). o >>= λ x. came_to D x.state x.next) comes) ∙ step)
    where
      status_of : (u : LoadedState Units) → Some u ≡ Some t → u.run.status ≡ Moving
      status_of u e = ap (λ (x : LoadedState Units). x.run.status) (same_Some u t e) ∙ moving

      asked_host : (o : Option HostName) (args : List ℕ) (frames : List (Frame LoaderFrame)) → ((o >>= λ h. Some (stands b.run frames (Waits (record { host = h; args = args })))) >>= λ run. Some (with_run b run)) ≡ Some t → ⊥
      asked_host None args frames e = cc
      asked_host (Some h) args frames e = let waits = status_of (with_run b (stands b.run frames (Waits (record { host = h; args = args })))) e in cc

      unanswered : (o : Option LoaderAnswer) (under : List (Frame LoaderFrame)) → o ≡ None → (o >>= λ x. Some (answered b under x)) ≡ Some t → ⊥
      unanswered None under n e = cc
      unanswered (Some x) under n e = cc

      go : (o : Option (Next Units ℕ)) → LeavesCode o → (comes_to b (option_map (marked_next h) o) >>= λ x. answer_of D x.state x.next) ≡ None → (comes_to b (option_map (marked_next h) o) >>= λ x. came_to D x.state x.next) ≡ Some t → ⊥
      go None leaves n e = cc
      go (Some (Goes us memory frames)) leaves n e = leaves
      go (Some (Asks entry args frames)) leaves n e = asked_host (D.names entry) args (marked_stack h frames) e
      go (Some (Loads which args frames)) leaves n e = unanswered (D.answer which args b.run.memory b.loader) (marked_stack h frames) n e
      go (Some Ends) leaves n e = let ended = status_of (with_run b (stands b.run [] Returned)) e in cc
      go (Some (Traps why)) leaves n e = let ended = status_of (with_run b (stands b.run [] (Trapped why))) e in cc

-- ---- the machine after a step

pub live_at : (ps : List Pending) (n : MachineState) (frames : List (Frame ℕ)) (st : Standing) → StandsAt n frames st → IsLive st ps frames → IsLive n.standing ps n.stack.frames
live_at ps n frames st at h = subst (λ (x : Standing). IsLive x ps n.stack.frames) (sym at.standing_is) (subst (λ (fs : List (Frame ℕ)). IsLive st ps fs) (sym at.frames_are) h)

pub live_told : {Units : Type 0} (V : View Units) (ps : List Pending) (old n : MachineState) (c : Changes Units) (e : Event) (next : Option (Next Units ℕ))
    → Told V e next old n c → IfSome next (KeepsOver (LiesUnder ps) V (length ps)) → IfSome next IsLoad → IsLive old.standing ps old.stack.frames → IsLive n.standing ps n.stack.frames
live_told V ps old n c event.Moved (Some (Goes us memory frames)) t under load h = live_at ps n frames standing.Moving t.0 under
live_told V ps old n c (event.Waits a) (Some (Asks entry args frames)) t under load h = live_at ps n frames (standing.Asking entry t.0) t.1 under
live_told V ps old n c (event.Loader which first second) (Some (Loads called args frames)) t under load h = live_at ps n frames standing.Loading t.0 (under.1, load.0)
live_told V ps old n c event.Returned (Some Ends) t under load h = live_at ps n [] standing.Returned t.0 tt
live_told V ps old n c (event.Trapped why) (Some (Traps cause)) t under load h = live_at ps n [] (standing.Trapped why) t.0 tt
live_told V ps old n c event.Deep (Some (Goes us memory frames)) t under load h = subst (λ (x : MachineState). IsLive x.standing ps x.stack.frames) (sym t.1) h
live_told V ps old n c e next t under load h = absurd t
