-- What is asked of a host function fits its parameters, where these are integers.
use Rattle.std.proofs.Common.{◌≡◌, ℕ, ◌+◌, List, [], ◌∷◌, Option, Some, None, true, false, IsTrue, IfSome, refl, sym, ap, ◌∙◌, subst}
use Rattle.std.specs.Prelude.{nat_lt}
use Rattle.std.specs.List.{list_all}
use Rattle.std.proofs.lemmas.Bool.{and_parts}
use Rattle.std.proofs.lemmas.Option.{same_Some}
use Rattle.wasm_form.specs.declared.types.FuncType.{FuncType}
use Rattle.wasm_form.specs.declared.runtime.Ref.{Ref}
use Rattle.wasm_form.specs.declared.runtime.Trap.{Trap}
use Rattle.wasm_form.specs.declared.runtime.Asked.{Asked}
use Rattle.wasm_form.specs.declared.runtime.Value.TheVariants.{Num}
use Rattle.spec_loading.specs.spec_runs.Systems.{Status, Moving, Waits, Returned, Exited, Trapped}
use Rattle.spec_loading.specs.spec_binary.Options.{◌>>=◌}
use Rattle.spec_loading.proofs.of_spec_binary.Options.{each, either_way, went_on}
use Rattle.spec_loading.specs.spec_runtime.Names.{HostName, is_integer, has_integers}
use Rattle.spec_loading.specs.spec_runtime.Hosts.{HostCall, numbers_fit}
use Rattle.spec_loading.specs.spec_runtime.Recorded.{waits}
use Rattle.spec_loading.specs.spec_execution.Activations.{move}
use Rattle.spec_loading.specs.spec_execution.Segments.{Performed}
use Rattle.spec_loading.specs.spec_execution.Instances.{ModuleParts, host_type}
use Rattle.spec_loading.specs.spec_execution.Runs.{Frame, Active, Marked, Next, Goes, Asks, Loads, Ends, Traps, call, stands}
use Rattle.spec_loading.specs.spec_linking.LinkedSets.{LinkedSet, set_hosts}
use Rattle.spec_loading.specs.declared.task.Phase.{Phase}
use Rattle.spec_loading.specs.declared.task.Phase.TheVariants.{Place, Start, Relocate, Construct}
use Rattle.spec_loading.specs.declared.task.Task.{Task}
use Rattle.spec_loading.specs.declared.task.After.{After}
use Rattle.spec_loading.specs.declared.task.After.TheVariants.{CallEntry, GiveHandle, GiveAndPromote}
use Rattle.spec_loading.specs.Phases.{stage_of, LoaderFrame}
use Rattle.spec_loading.specs.Loading as loading
use Rattle.spec_loading.specs.Loading.{LoaderAnswer, Gives, Opens, Comes, with_run, goes_on, comes_by_itself, comes_to, call_next, ended_by, place_next, work_next, raised, stage_in, task_next, after_next, frame_next, loaded_next, answered, came_to, loaded_step}
use Rattle.spec_loading.specs.LoadedSet.{SetState, set_loading}
use Rattle.wasm_machine.specs.declared.event.Event.{Event}
use Rattle.wasm_machine.specs.declared.event.Event.TheVariants as event
use Rattle.wasm_machine.proofs.Steps.{returned_goes}
use Rattle.wasm_single.proofs.Arguments.{Fit, IsAsked, call_asks, carried_asks}
use Rattle.wasm_machine.specs.Steps.{TellsStatus, ArgumentsFit, AreNumbers}
use Rattle.dyl_frames.specs.Cores.{Steps}
use Rattle.dyl_store.specs.declared.running.Running.{Running}

module _ (L : LinkedSet) where
  -- a state that doesn't wait, or one of which an instruction or a call asks what fits
  abbrev AsksWell : SetState → Option (Next ModuleParts LoaderFrame) → Type 0
  AsksWell s None = waits s.run.status ≡ false
  AsksWell s (Some next) = IsAsked (set_loading L).view next

  abbrev IsWell : Comes ModuleParts → Type 0
  IsWell x = AsksWell x.state x.next

  well_next : (s : SetState) (o : Option (Next ModuleParts LoaderFrame)) → IfSome o (IsAsked (set_loading L).view) → IfSome (comes_to s o) IsWell
  well_next s None h = tt
  well_next s (Some next) h = h

  well_call : (s : SetState) (frames : List (Frame LoaderFrame)) (o : Option Ref) → IfSome (call_next (set_loading L) s frames o) IsWell
  well_call s frames None = refl
  well_call s frames (Some r) = well_next s (call (set_loading L).view s.run.units s.run.memory (λ values. frames) [] r) (call_asks (set_loading L).view s.run.units s.run.memory (λ values. frames) [] r)

  ended_goes : (s : SetState) (frames : List (Frame LoaderFrame)) (o : Option Trap) → waits (ended_by s frames o).run.status ≡ false
  ended_goes s frames None = refl
  ended_goes s frames (Some why) = refl

  well_placed : (s : SetState) (frames : List (Frame LoaderFrame)) (p : Performed ModuleParts) → IfSome (place_next s frames p) IsWell
  well_placed s frames p = ended_goes (with_run s (record s.run { units = p.units; memory = p.memory })) frames p.trap

  well_work : (s : SetState) (frames : List (Frame LoaderFrame)) (phase : Phase) (m : ℕ) → IfSome (work_next (set_loading L) s frames phase m) IsWell
  well_work s frames Place m = each IsWell ((set_loading L).placed m s.run.units s.run.memory) (place_next s frames) (well_placed s frames)
  well_work s frames Start m = each IsWell ((set_loading L).callee Start m) (call_next (set_loading L) s frames) (well_call s frames)
  well_work s frames Relocate m = each IsWell ((set_loading L).callee Relocate m) (call_next (set_loading L) s frames) (well_call s frames)
  well_work s frames Construct m = each IsWell ((set_loading L).callee Construct m) (call_next (set_loading L) s frames) (well_call s frames)

  well_task : (s : SetState) (frames : List (Frame LoaderFrame)) (task : Task) → IfSome (task_next (set_loading L) s frames task) IsWell
  well_task s frames task =
      let goal = stage_of task.phase in
      each IsWell (stage_in s.loader task.member) _
      (λ stage.
      either_way IsWell (nat_lt stage goal) (work_next (set_loading L) (raised s task.member goal) frames task.phase task.member) (comes_by_itself (goes_on s frames))
      (well_work (raised s task.member goal) frames task.phase task.member) refl)

  well_after : (s : SetState) (under : List (Frame LoaderFrame)) (after : After) → IfSome (after_next (set_loading L) s under after) IsWell
  well_after s under CallEntry = each IsWell (set_loading L).entry (λ r. call_next (set_loading L) s under (Some r)) (λ r. well_call s under (Some r))
  well_after s under (GiveHandle m) = returned_goes s.run (Num (m + 1) ∷ []) under
  well_after s under (GiveAndPromote m) = returned_goes s.run (Num (m + 1) ∷ []) under

  well_frame : (s : SetState) (under : List (Frame LoaderFrame)) (after : After) (tasks : List Task) → IfSome (frame_next (set_loading L) s under after tasks) IsWell
  well_frame s under after [] = well_after s under after
  well_frame s under after (task ∷ tasks) = well_task s (Marked (record { tasks = tasks; after = after }) ∷ under) task

  well : (s : SetState) (frames : List (Frame LoaderFrame)) → IfSome (loaded_next (set_loading L) s frames) IsWell
  well s [] = tt
  well s (Active a ∷ under) =
      let moved = move ((set_loading L).view.declared a.unit) a in
      well_next s _ (carried_asks (set_loading L).view s.run.units s.run.memory under moved)
  well s (Marked frame ∷ under) = well_frame s under frame.after frame.tasks

  -- ---- the state after the step

  no_wait : (x t : SetState) (call : HostCall) → Some x ≡ Some t → waits x.run.status ≡ false → t.run.status ≡ Waits call → ⊥
  no_wait x t call e goes at =
      let same : waits x.run.status ≡ waits t.run.status = ap (λ (y : SetState). waits y.run.status) (same_Some x t e) in
      let clash : false ≡ true = sym goes ∙ same ∙ ap waits at in
      cc

  answered_goes : (s : SetState) (under : List (Frame LoaderFrame)) (x : LoaderAnswer) → waits (answered s under x).run.status ≡ false
  answered_goes s under (Gives n loader) = returned_goes s.run (Num n ∷ []) under
  answered_goes s under (loading.Traps why) = refl
  answered_goes s under (Opens frame) = refl

  -- a host function that is asked
  asked_fit : (s : SetState) (entry : ℕ) (args : List ℕ) (frames : List (Frame LoaderFrame)) (t : SetState) (call : HostCall) (o : Option HostName)
      → ((ty : FuncType) × (host_type o ≡ Some ty) × Fit ty.params args)
      → ((o >>= λ h. Some (stands s.run frames (Waits (record { host = h; args = args })))) >>= λ run. Some (with_run s run)) ≡ Some t
      → t.run.status ≡ Waits call → Fit call.host.ty.params call.args
  asked_fit s entry args frames t call None asked e at = absurd cc
  asked_fit s entry args frames t call (Some h) asked e at =
      let x : SetState = with_run s (stands s.run frames (Waits (record { host = h; args = args }))) in
      let status : Waits (record { host = h; args = args }) ≡ t.run.status = ap (λ (y : SetState). y.run.status) (same_Some x t e) in
      let both : Waits (record { host = h; args = args }) ≡ Waits call = status ∙ at in
      let called : record { host = h; args = args } ≡ call = cc in
      let ty : asked.0 ≡ h.ty = same_Some asked.0 h.ty (sym asked.1) in
      let P : HostCall → Type 0 = λ c. Fit c.host.ty.params c.args in
      let Q : FuncType → Type 0 = λ y. Fit y.params args in
      subst P called (subst Q ty asked.2)

  came_fit : (s : SetState) (o : Option (Next ModuleParts LoaderFrame)) (t : SetState) (call : HostCall) → AsksWell s o → came_to (set_loading L) s o ≡ Some t → t.run.status ≡ Waits call
      → Fit call.host.ty.params call.args
  came_fit s None t call h e at = absurd (no_wait s t call e h at)
  came_fit s (Some (Goes us memory frames)) t call h e at = absurd (no_wait (with_run s (record { units = us; memory = memory; stack = frames; status = Moving })) t call e refl at)
  came_fit s (Some (Asks entry args frames)) t call h e at = asked_fit s entry args frames t call (set_hosts L entry) h e at
  came_fit s (Some (Loads which args under)) t call h e at =
      let x = went_on ((set_loading L).answer which args s.run.memory s.loader) (λ x. Some (answered s under x)) t e in
      absurd (no_wait (answered s under x.0) t call x.2 (answered_goes s under x.0) at)
  came_fit s (Some Ends) t call h e at = absurd (no_wait (with_run s (stands s.run [] Returned)) t call e refl at)
  came_fit s (Some (Traps why)) t call h e at = absurd (no_wait (with_run s (stands s.run [] (Trapped why))) t call e refl at)

  -- what a step asks fits the parameters of the host function, if they are integers
  step_arguments : (s t : SetState) (call : HostCall) → loaded_step (set_loading L) s ≡ Some t → t.run.status ≡ Waits call → Fit call.host.ty.params call.args
  step_arguments s t call e at =
      let x = went_on (loaded_next (set_loading L) s s.run.stack) (λ x. came_to (set_loading L) x.state x.next) t e in
      let is_well : IfSome (Some x.0) IsWell = subst (λ (o : Option (Comes ModuleParts)). IfSome o IsWell) x.1 (well s s.run.stack) in
      came_fit x.0.state x.0.next t call is_well x.2 at

  -- the same of what is told of the step
  told_fit : (s t : SetState) (asked : Asked) (status : Status HostCall Trap) → loaded_step (set_loading L) s ≡ Some t → t.run.status ≡ status → TellsStatus (set_hosts L) (event.Waits asked) status
      → AreNumbers (event.Waits asked) → ArgumentsFit (set_hosts L) (event.Waits asked)
  told_fit s t asked Moving made at told numbers = absurd told
  told_fit s t asked (Waits call) made at told numbers =
      let fits : Fit call.host.ty.params asked.args = subst (Fit call.host.ty.params) (sym told.1) (step_arguments s t call made at) in
      let P : Option HostName → Type 0 = λ o. IfSome o (λ h. IsTrue (has_integers h.ty) → IsTrue (numbers_fit h.ty.params asked.args)) in
      subst P (sym told.0) (λ integers. fits (and_parts (list_all is_integer call.host.ty.params) (list_all is_integer call.host.ty.results) integers).0 numbers)
  told_fit s t asked Returned made at told numbers = absurd told
  told_fit s t asked (Exited code) made at told numbers = absurd told
  told_fit s t asked (Trapped why) made at told numbers = absurd told

  pub arguments_told : (e : Event) (s : SetState) (new : Running) → Steps (set_loading L) e s new.core new.world.store new.world.memory → AreNumbers e → ArgumentsFit (set_hosts L) e
  arguments_told (event.Waits asked) s new made numbers = told_fit s made.1.0 asked made.1.0.run.status made.1.1 refl made.1.2 numbers
  arguments_told event.Moved s new made numbers = tt
  arguments_told (event.Loader which first second) s new made numbers = tt
  arguments_told (event.Marked tag) s new made numbers = tt
  arguments_told event.Returned s new made numbers = tt
  arguments_told (event.Trapped why) s new made numbers = tt
  arguments_told (event.Exited code) s new made numbers = tt
  arguments_told event.Deep s new made numbers = tt
