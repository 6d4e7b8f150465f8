-- The run of units that a loader opens: a step from a sound state leads to a sound one, and so does an answer.
use Rattle.std.proofs.Common.{◌≡◌, ◌≢◌, ℕ, ◌+◌, ◌<◌, ◌≤◌, ◌^◌, List, [], ◌∷◌, map, reverse, Option, Some, None, Bool, true, false, refl, sym, ◌∙◌, subst, nat_lt, if◌then◌else◌, arith, length-set}
use Rattle.std.specs.Prelude.{IfSome}
use Rattle.std.specs.List.{All}
use Rattle.std.proofs.lemmas.Bool.{and_parts}
use Rattle.std.proofs.lemmas.List.Elements.{All-head, All-tail, All-set}
use Rattle.spec_linking.specs.spec_runs.Systems.{Moving, Waits}
use Rattle.spec_linking.specs.wasm_form.declared.types.ValType.{ValType}
use Rattle.spec_linking.specs.wasm_form.declared.types.ValType.TheVariants.{I32}
use Rattle.spec_linking.specs.wasm_form.declared.types.FuncType.{FuncType}
use Rattle.spec_linking.specs.wasm_form.declared.runtime.LoaderCall.{LoaderCall}
use Rattle.spec_linking.specs.wasm_form.declared.runtime.LoaderCall.TheVariants.{Dlopen, Dlsym, Dlclose, Dlerror}
use Rattle.spec_linking.specs.wasm_form.declared.runtime.Ref.{Ref}
use Rattle.spec_linking.specs.wasm_form.declared.runtime.Trap.{Trap}
use Rattle.spec_linking.specs.wasm_form.declared.runtime.Value.TheVariants.{Num}
use Rattle.spec_linking.specs.wasm_form.declared.runtime.Answer.{Answer}
use Rattle.spec_linking.specs.wasm_form.declared.runtime.Answer.TheVariants.{Reply, Exit}
use Rattle.spec_linking.specs.spec_binary.Options.{◌>>=◌}
use Rattle.spec_linking.specs.spec_binary.Indices.{nullary}
use Rattle.spec_linking.proofs.of_spec_binary.Lists.{got}
use Rattle.spec_linking.specs.spec_runtime.Memories.{MemoryInstance}
use Rattle.spec_linking.specs.spec_runtime.Hosts.{HostCall, numbers_fit, writes_fit, answer_fits, all_written}
use Rattle.spec_linking.specs.spec_validation.Context.{Context}
use Rattle.spec_linking.specs.spec_execution.Views.{loader_type}
use Rattle.spec_linking.specs.spec_execution.Segments.{Performed}
use Rattle.spec_linking.specs.spec_execution.Runs.{Frame, Active, Marked, Next, Goes, Asks, Loads, Ends, Traps, call, State, became, stands, returned, taken}
use Rattle.spec_loading.specs.declared.task.Phase.{Phase}
use Rattle.spec_loading.specs.declared.task.Phase.TheVariants.{Place, Start, Relocate, Construct}
use Rattle.spec_loading.specs.declared.task.Task.{Task}
use Rattle.spec_loading.specs.declared.task.After.{After}
use Rattle.spec_loading.specs.declared.task.After.TheVariants.{CallEntry, GiveHandle, GiveAndPromote}
use Rattle.spec_loading.specs.Phases.{stage_of, LoaderFrame}
use Rattle.spec_loading.specs.Loading.{stage_in, LoaderAnswer, Loading, LoadedState, with_run, goes_on, Comes, comes_to, call_next, ended_by, place_next, work_next, raised, task_next, gives, promoting, after_next, frame_next, loaded_next, answered, went, came_to, loaded_step}
use Rattle.spec_loading.specs.Loading as loading
use Rattle.spec_safety.specs.ValueTypes.{AreArguments, IsOfBytes, IsMemory}
use Rattle.spec_safety.specs.TypedFrames.{IsCalledOver, Stand, IsSoundNext}
use Rattle.spec_loading.specs.SoundLoading.{IsNullary, Follows, on_loader, IsSoundLoader, StacksFit, IsSound, GivesHandle, IsSoundAnswer, IsSoundLoading}
use Rattle.spec_safety.proofs.KnownStacks.{then_is}
use Rattle.spec_safety.proofs.HeldValues.{have_reverse}
use Rattle.spec_safety.proofs.ModuleSteps.{nullary_over, results_typed}
use Rattle.spec_safety.proofs.KeptMemories.{writes_kept}
use Rattle.spec_safety.proofs.SoundSteps.{code_step, call_ok, given_stand}

-- the store, the memory and what the loader keeps, whatever stands on the call stack
record HoldsAll {Units : Type 0} (Kept : Units → Type 0) (members : ℕ) (s : LoadedState Units) : Type 0 where
  units : Kept s.run.units
  memory : IsMemory s.run.memory
  loader : IsSoundLoader members s.loader

module _ {Units : Type 0} (D : Loading Units) (N : ℕ → Context) (Kept : Units → Type 0) (members : ℕ) (sound : IsSoundLoading D N Kept members) where
  abbrev Stands : List (Frame LoaderFrame) → List ValType → Type 0
  Stands fs rs = Stand D.view N (on_loader members) fs rs

  abbrev NextIsSound : Option (Next Units LoaderFrame) → Type 0
  NextIsSound o = IsSoundNext D.view N Kept (on_loader members) o

  abbrev Holds : LoadedState Units → Type 0
  Holds s = HoldsAll Kept members s

  -- a state that was reached by itself is sound, or what an instruction or a call comes to over it
  abbrev ComesTo : LoadedState Units → Option (Next Units LoaderFrame) → Type 0
  ComesTo s None = StacksFit D N Kept members s.run.status s.run.stack
  ComesTo s (Some next) = NextIsSound (Some next)

  abbrev IsSoundComes : Option (Comes Units) → Type 0
  IsSoundComes None = ⊥
  IsSoundComes (Some x) = Holds x.state × ComesTo x.state x.next

  comes_ok : (s : LoadedState Units) (o : Option (Next Units LoaderFrame)) → Holds s → NextIsSound o → IsSoundComes (comes_to s o)
  comes_ok s None h n = absurd n
  comes_ok s (Some next) h n = (h, n)

  -- ---- what follows

  -- a number is given
  gives_ok : (s : LoadedState Units) (fs : List (Frame LoaderFrame)) (n : ℕ) → n < 2 ^ 32 → Holds s → Stands fs (I32 ∷ []) → IsSound D N Kept members (gives s fs n)
  gives_ok s [] n lt h st = record { units = h.units; memory = h.memory; loader = h.loader; stack = tt }
  gives_ok s (f ∷ fs) n lt h st = record {
    units = h.units;
    memory = h.memory;
    loader = h.loader;
    stack = (λ q. absurd cc, given_stand D.view N Kept (on_loader members) sound.view f fs (I32 ∷ []) (Num n ∷ []) st ((refl, lt), tt));
  }

  called_ok : (s : LoadedState Units) (fs : List (Frame LoaderFrame)) (r : Ref) → Holds s → IsNullary D.view r → Stands fs [] → IsSoundComes (call_next D s fs (Some r))
  called_ok s fs r h e st =
      comes_ok s (call D.view s.run.units s.run.memory (λ values. fs) [] r) h
      (call_ok D.view N Kept (on_loader members) sound.view s.run.units s.run.memory h.units h.memory (λ values. fs) [] [] r nullary e tt (λ ws k. st) (λ ws. nullary_over fs))

  callee_ok : (s : LoadedState Units) (f : Frame LoaderFrame) (fs : List (Frame LoaderFrame)) (o : Option Ref) → Holds s → IfSome o (IsNullary D.view) → Stands (f ∷ fs) []
      → IsSoundComes (call_next D s (f ∷ fs) o)
  callee_ok s f fs None h e st = (record { units = h.units; memory = h.memory; loader = h.loader }, (λ q. absurd cc, st))
  callee_ok s f fs (Some r) h e st = called_ok s (f ∷ fs) r h e st

  placed_ok : (s : LoadedState Units) (f : Frame LoaderFrame) (fs : List (Frame LoaderFrame)) (p : Performed Units) → Holds s → Kept p.units → IsMemory p.memory → Stands (f ∷ fs) []
      → IsSoundComes (place_next s (f ∷ fs) p)
  placed_ok s f fs p h k is st = go p.trap
    where
      go : (o : Option Trap) → IsSoundComes (Some (record { state = ended_by (with_run s (record s.run { units = p.units; memory = p.memory })) (f ∷ fs) o; next = None }))
      go None = (record { units = k; memory = is; loader = h.loader }, (λ q. absurd cc, st))
      go (Some why) = (record { units = k; memory = is; loader = h.loader }, tt)

  -- the function of a phase, over a frame
  phase_ok : (s : LoadedState Units) (f : Frame LoaderFrame) (fs : List (Frame LoaderFrame)) (phase : Phase) (m : ℕ) → m < members → Holds s → Stands (f ∷ fs) []
      → IsSoundComes (D.callee phase m >>= call_next D s (f ∷ fs))
  phase_ok s f fs phase m lt h st =
      let c = sound.callee phase m lt in
      subst IsSoundComes (sym (then_is (D.callee phase m) (call_next D s (f ∷ fs)) c.0 c.1)) (callee_ok s f fs c.0 h c.2 st)

  work_ok : (s : LoadedState Units) (f : Frame LoaderFrame) (fs : List (Frame LoaderFrame)) (phase : Phase) (m : ℕ) → m < members → Holds s → Stands (f ∷ fs) []
      → IsSoundComes (work_next D s (f ∷ fs) phase m)
  work_ok s f fs Place m lt h st =
      let p = sound.placed m s.run.units s.run.memory lt h.units h.memory in
      subst IsSoundComes (sym (then_is (D.placed m s.run.units s.run.memory) (place_next s (f ∷ fs)) p.0 p.1)) (placed_ok s f fs p.0 h p.2 p.3 st)
  work_ok s f fs Start m lt h st = phase_ok s f fs Start m lt h st
  work_ok s f fs Relocate m lt h st = phase_ok s f fs Relocate m lt h st
  work_ok s f fs Construct m lt h st = phase_ok s f fs Construct m lt h st

  few_stages : (phase : Phase) → stage_of phase ≤ 4
  few_stages Place = omega arith
  few_stages Start = omega arith
  few_stages Relocate = omega arith
  few_stages Construct = omega arith

  task_ok : (s : LoadedState Units) (f : Frame LoaderFrame) (fs : List (Frame LoaderFrame)) (task : Task) → task.member < members → Holds s → Stands (f ∷ fs) []
      → IsSoundComes (task_next D s (f ∷ fs) task)
  task_ok s f fs task lt h st =
      let count = h.loader.count in
      let stage = got s.loader.stages task.member (omega arith) in
      let on : ℕ → Option (Comes Units) = λ stage.
      if nat_lt stage (stage_of task.phase) then work_next D (raised s task.member (stage_of task.phase)) (f ∷ fs) task.phase task.member
      else Some (record { state = goes_on s (f ∷ fs); next = None }) in
      subst IsSoundComes (sym (then_is (stage_in s.loader task.member) on stage.0 stage.1)) (go (nat_lt stage.0 (stage_of task.phase)))
    where
      up : Holds (raised s task.member (stage_of task.phase))
      up = record {
        units = h.units;
        memory = h.memory;
        loader = record {
          count = length-set s.loader.stages task.member (stage_of task.phase) ∙ h.loader.count;
          stages = All-set (λ n. n ≤ 4) s.loader.stages task.member (stage_of task.phase) (few_stages task.phase) h.loader.stages;
          error = h.loader.error;
          promoted = h.loader.promoted;
          apart = h.loader.apart;
        };
      }

      go : (b : Bool)
          → IsSoundComes (if b then work_next D (raised s task.member (stage_of task.phase)) (f ∷ fs) task.phase task.member else Some (record { state = goes_on s (f ∷ fs); next = None }))
      go true = work_ok (raised s task.member (stage_of task.phase)) f fs task.phase task.member lt up st
      go false = (record { units = h.units; memory = h.memory; loader = h.loader }, (λ q. absurd cc, st))

  -- the handle of a member is a word
  handle_few : (m : ℕ) → m < members → m + 1 < 2 ^ 32
  handle_few m lt = let few = sound.few in omega arith

  handle_ok : (s : LoadedState Units) (under : List (Frame LoaderFrame)) (m : ℕ) → m < members → Holds s → Stands under (I32 ∷ []) → IsSoundComes (Some (record { state = gives s under (m + 1); next = None }))
  handle_ok s under m lt h st = let t = gives_ok s under (m + 1) (handle_few m lt) h st in (record { units = t.units; memory = t.memory; loader = t.loader }, t.stack)

  after_ok : (s : LoadedState Units) (under : List (Frame LoaderFrame)) (after : After) → Holds s → Follows members after under (Stand D.view N (on_loader members) under)
      → IsSoundComes (after_next D s under after)
  after_ok s under CallEntry h bottom =
      let r = sound.entry in
      subst IsSoundComes (sym (then_is D.entry (λ r. call_next D s under (Some r)) r.0 r.1)) (called_ok s under r.0 h r.2 (subst (λ fs. Stands fs []) (sym bottom) refl))
  after_ok s under (GiveHandle m) h on = handle_ok s under m on.0 h on.1
  after_ok s under (GiveAndPromote m) h on =
      handle_ok (promoting D s m) under m on.0 (record { units = h.units; memory = h.memory; loader = sound.promoting m s.loader on.0 h.loader }) on.1

  frame_ok : (s : LoadedState Units) (under : List (Frame LoaderFrame)) (after : After) (tasks : List Task) → Holds s → All (λ (t : Task). t.member < members) tasks
      → Follows members after under (Stand D.view N (on_loader members) under) → IsSoundComes (frame_next D s under after tasks)
  frame_ok s under after [] h all follows = after_ok s under after h follows
  frame_ok s under after (task ∷ tasks) h all follows =
      task_ok s (Marked (record { tasks = tasks; after = after })) under task (All-head (λ (t : Task). t.member < members) task tasks all) h
      (refl, (All-tail (λ (t : Task). t.member < members) task tasks all, follows))

  next_ok : (s : LoadedState Units) (fs : List (Frame LoaderFrame)) → fs ≢ [] → Holds s → Stands fs [] → IsSoundComes (loaded_next D s fs)
  next_ok s [] some h st = absurd (some refl)
  next_ok s (Active a ∷ fs) some h st = comes_ok s _ h (code_step D.view N Kept (on_loader members) sound.view s.run.units s.run.memory a fs h.units h.memory st)
  next_ok s (Marked frame ∷ fs) some h st = frame_ok s fs frame.after frame.tasks h st.1.0 st.1.1

  -- ---- the state after a step

  answered_ok : (s : LoadedState Units) (under : List (Frame LoaderFrame)) (x : LoaderAnswer) → Holds s → IsSoundAnswer D N Kept members x → Stands under (I32 ∷ [])
      → IsSound D N Kept members (answered s under x)
  answered_ok s under (loading.Gives n loader) h a st = gives_ok (record s { loader = loader }) under n a.0 (record { units = h.units; memory = h.memory; loader = a.1 }) st
  answered_ok s under (loading.Traps why) h a st = record { units = h.units; memory = h.memory; loader = h.loader; stack = tt }
  answered_ok s under (loading.Opens frame) h a st = record {
    units = h.units;
    memory = h.memory;
    loader = h.loader;
    stack = (λ q. absurd cc, (refl, (a.0, follows frame.after a.1)));
  }
    where
      follows : (after : After) → GivesHandle D N Kept members after → Follows members after under (Stand D.view N (on_loader members) under)
      follows CallEntry g = absurd g
      follows (GiveHandle m) g = (g, st)
      follows (GiveAndPromote m) g = (g, st)

  one_i32 : (which : LoaderCall) → reverse (loader_type which).results ≡ I32 ∷ []
  one_i32 Dlopen = refl
  one_i32 Dlsym = refl
  one_i32 Dlclose = refl
  one_i32 Dlerror = refl

  went_ok : (s : LoadedState Units) (next : Next Units LoaderFrame) → Holds s → NextIsSound (Some next) → (t : LoadedState Units) × (went D s next ≡ Some t) × IsSound D N Kept members t
  went_ok s (Goes us memory fs) h n = (_, refl, record { units = n.0; memory = n.1; loader = h.loader; stack = (n.2, n.3) })
  went_ok s (Asks entry args fs) h n =
      let host = sound.hosts entry n.0 n.1 in
      let run : State Units LoaderFrame = stands s.run fs (Waits (record { host = host.0; args = args })) in
      let asked : became D.names s.run (Asks entry args fs) ≡ Some run =
      then_is (D.names entry) (λ h. Some (stands s.run fs (Waits (record { host = h; args = args })))) host.0 host.1 in (
        with_run s run,
        then_is (became D.names s.run (Asks entry args fs)) (λ run. Some (with_run s run)) run asked,
        record {
          units = h.units;
          memory = h.memory;
          loader = h.loader;
          stack = (
            entry,
            host.1,
            subst (λ ty. AreArguments D.view ty args) (sym host.2) n.2,
            subst (IsCalledOver fs) (sym host.2) n.3,
            subst (λ (ty : FuncType). Stands fs (reverse ty.results)) (sym host.2) n.4,
          );
        },
      )
  went_ok s (Loads which args fs) h n =
      let x = sound.answer which args s.run.memory s.loader n.1 h.loader in (
        answered s fs x.0,
        then_is (D.answer which args s.run.memory s.loader) (λ x. Some (answered s fs x)) x.0 x.1,
        answered_ok s fs x.0 h x.2 (subst (Stand D.view N (on_loader members) fs) (one_i32 which) n.2),
      )
  went_ok s Ends h n = (_, refl, record { units = h.units; memory = h.memory; loader = h.loader; stack = tt })
  went_ok s (Traps why) h n = (_, refl, record { units = h.units; memory = h.memory; loader = h.loader; stack = tt })

  came_ok : (o : Option (Comes Units)) → IsSoundComes o → (t : LoadedState Units) × ((o >>= λ x. came_to D x.state x.next) ≡ Some t) × IsSound D N Kept members t
  came_ok None c = absurd c
  came_ok (Some x) c = go x.next c.1
    where
      go : (o : Option (Next Units LoaderFrame)) → ComesTo x.state o → (t : LoadedState Units) × (came_to D x.state o ≡ Some t) × IsSound D N Kept members t
      go None fit = (x.state, refl, record { units = c.0.units; memory = c.0.memory; loader = c.0.loader; stack = fit })
      go (Some next) n = went_ok x.state next c.0 n

  pub step_sound : (s : LoadedState Units) → IsSound D N Kept members s → s.run.status ≡ Moving → (t : LoadedState Units) × (loaded_step D s ≡ Some t) × IsSound D N Kept members t
  step_sound s is moving =
      let st : StacksFit D N Kept members Moving s.run.stack = subst (λ z. StacksFit D N Kept members z s.run.stack) moving is.stack in
      came_ok (loaded_next D s s.run.stack) (next_ok s s.run.stack st.0 (record { units = is.units; memory = is.memory; loader = is.loader }) st.1)

  -- ---- answers of the host

  returned_ok : (s : LoadedState Units) (memory : MemoryInstance) (ty : FuncType) (results : List ℕ) (fs : List (Frame LoaderFrame)) → IsSound D N Kept members s → IsMemory memory
      → numbers_fit ty.results results ≡ true → Stands fs (reverse ty.results) → IsSound D N Kept members (with_run s (returned (record s.run { memory = memory }) (reverse (map Num results)) fs))
  returned_ok s memory ty results [] h is e st = record { units = h.units; memory = is; loader = h.loader; stack = tt }
  returned_ok s memory ty results (f ∷ fs) h is e st =
      let typed = have_reverse D.view ty.results (map Num results) (results_typed D.view ty.results results e) in
      let stood = given_stand D.view N Kept (on_loader members) sound.view f fs (reverse ty.results) (reverse (map Num results)) st typed in
      record { units = h.units; memory = is; loader = h.loader; stack = (λ q. absurd cc, stood) }

  pub answer_sound : (s : LoadedState Units) (asked : HostCall) (a : Answer) → IsSound D N Kept members s → s.run.status ≡ Waits asked → answer_fits asked s.run.memory a ≡ true → IsOfBytes a
      → IsSound D N Kept members (with_run s (taken a s.run))
  answer_sound s asked (Exit code) is waits fits bytes = record { units = is.units; memory = is.memory; loader = is.loader; stack = tt }
  answer_sound s asked (Reply results writes) is waits fits bytes =
      let st : StacksFit D N Kept members (Waits asked) s.run.stack = subst (λ z. StacksFit D N Kept members z s.run.stack) waits is.stack in
      let p = and_parts (numbers_fit asked.host.ty.results results) (writes_fit writes s.run.memory) fits in
      returned_ok s (all_written writes s.run.memory) asked.host.ty results s.run.stack is (writes_kept writes s.run.memory p.1 bytes is.memory) p.0 st.4
