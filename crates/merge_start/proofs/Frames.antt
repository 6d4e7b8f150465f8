-- The law of one step for the loader's frames: each step is one or more steps of generated code.
use denote.Hole.Carrier.{out}
use Rattle.std.proofs.Common.{◌≡◌, ℕ, suc, ◌+◌, ◌*◌, ◌<◌, ◌≤◌, List, [], ◌∷◌, length, nat_lt, nat_le, slice_get, slice_set, Option, Some, None, option_map, Bool, true, false, if◌then◌else◌, ◌++◌, refl, sym, ap, ap₂, ◌∙◌, subst, arith, append-nil}
use Rattle.std.specs.Int.{cast_unsigned, cast_signed, w32}
use Rattle.std.proofs.lemmas.Int.{of_z-to_z}
use Rattle.std.proofs.lemmas.Bool.Decides.{nat_tests}
use Rattle.wasm_form.specs.declared.instr.Instr.{Instr, Plain, Index, out-Instr}
use Rattle.wasm_form.specs.declared.module.Module.{Module}
use Rattle.wasm_form.specs.declared.runtime.Ref.TheVariants.{Own}
use Rattle.wasm_form.specs.declared.runtime.Ref.{Ref}
use Rattle.wasm_form.specs.declared.runtime.Trap.{Trap}
use Rattle.wasm_form.specs.declared.runtime.Value.{Value}
use Rattle.wasm_form.specs.declared.runtime.Value.TheVariants.{Num}
use Rattle.spec_loading.specs.spec_runs.Systems.{Moving}
use Rattle.spec_loading.specs.spec_binary.Options.{◌>>=◌}
use Rattle.spec_loading.proofs.of_spec_binary.Lists.{got}
use Rattle.spec_loading.specs.spec_runtime.Memories.{MemoryInstance}
use Rattle.spec_loading.specs.spec_execution.Activations.{Activation, with_values}
use Rattle.spec_loading.specs.spec_execution.Segments.{Performed, segment_effects}
use Rattle.spec_loading.specs.spec_linking.Slots.{member_number}
use Rattle.spec_loading.specs.Costs.{frame_cost, depth_at}
use Rattle.spec_loading.specs.spec_execution.Limits.{activations}
use Rattle.spec_loading.specs.SetCosts.{placing_with, work_cost, task_cost, set_prices}
use Rattle.spec_loading.specs.LoaderAnswers.{later_members}
use Rattle.spec_loading.specs.spec_execution.Runs.{Frame, Next, call, calling, became}
use Rattle.spec_loading.specs.spec_execution.Runs as frames
use Rattle.spec_loading.specs.spec_execution.Instances.{ModuleParts, module_hosts, module_view, module_target}
use Rattle.spec_loading.specs.spec_execution.OneModule.{Starting, ModuleState, module_next, module_step}
use Rattle.spec_loading.specs.spec_linking.LinkedSets.{LinkedSet}
use Rattle.spec_loading.specs.declared.task.Phase.{Phase}
use Rattle.spec_loading.specs.declared.task.Phase.TheVariants.{Place, Start, Relocate, Construct}
use Rattle.spec_loading.specs.declared.task.Task.{Task}
use Rattle.spec_loading.specs.declared.task.After.{After}
use Rattle.spec_loading.specs.declared.task.After.TheVariants.{CallEntry, GiveHandle, GiveAndPromote}
use Rattle.spec_loading.specs.Phases.{stage_of, phase_function, LoaderFrame}
use Rattle.spec_loading.specs.Loading.{LoaderState, stage_in, goes_on, comes_to, call_next, place_next, work_next, raised, task_next, promoting, gives, after_next, frame_next, went, came_to}
use Rattle.spec_loading.specs.Loading as loading
use Rattle.spec_loading.specs.Members.{Store, set_view}
use Rattle.spec_loading.specs.LoadedSet.{SetState, callee_of, phase_callee, set_loading}
use Rattle.merge_match.specs.Renumbering.{Numbers, reference, activation}
use Rattle.merge_match.specs.Matching.{gives_back, Below, system_of, Answered}
use Rattle.merge_match.specs.Endings.{at_end}
use Rattle.merge_match.specs.Laws.{HasParts}
use Rattle.merge_pieces.specs.Opcodes as op
use Rattle.merge_start.specs.Words.{Starts, member_call, phase_code, work_code, promote_code}
use Rattle.merge_pieces.specs.Running.{Reaches}
use Rattle.merge_start.specs.Running.{Around, at, Does}
use Rattle.merge_start.specs.Started.{IsWord, Same, HoldsSlots, MemberReady, IsReady}
use Rattle.dyl_addresses.specs.Sets.{AreOf}
use Rattle.merge_start.specs.Points.{before_code, before_tasks, behind_call, HandsOn, IsOuter, places, Matched, Promotes}
use Rattle.merge_pieces.proofs.Running.{reaches_more, reaches_deeper, one_more, reaches_then, one_step}
use Rattle.merge_start.proofs.Reaching.{silent_of, of_silent, does_nothing, does_passed, does_guarded, reaches_work, reaches_under, inside}
use Rattle.merge_start.proofs.Keeping.{guard_there, slots_there, stage_same}
use Rattle.merge_start.proofs.Placing.{changing, place_law}
use Rattle.merge_start.proofs.Promoting.{promoting_law}
use Rattle.merge_start.proofs.Returning.{marked, standing}
use Rattle.merge_start.proofs.Calling.{code, Comes, called, called_own}

small_stage : (p : Phase) → stage_of p ≤ 4
small_stage Place = omega arith
small_stage Start = omega arith
small_stage Relocate = omega arith
small_stage Construct = omega arith

some_stage : (p : Phase) → 0 < stage_of p
some_stage Place = omega arith
some_stage Start = omega arith
some_stage Relocate = omega arith
some_stage Construct = omega arith

module _ (L : LinkedSet) where
  -- the state after a step of the set
  abbrev pub outcome : Option (loading.Comes Store) → Option SetState
  outcome o = o >>= λ c. came_to (set_loading L) c.state c.next

  called_outcome : (s : SetState) (o : Option (Next Store LoaderFrame)) → outcome (comes_to s o) ≡ (o >>= went (set_loading L) s)
  called_outcome s None = refl
  called_outcome s (Some y) = refl

module _ (merged : Module) where
  pub calls_at : (t : ModuleState) (k : ℕ) (b : Activation) (gs : List (Frame Starting)) {r : Ref}
      → t.stack ≡ frames.Active (record b { rest = Index op.call k ∷ b.rest }) ∷ gs → module_target merged k ≡ Some r
      → module_step merged t ≡ (call (module_view merged) t.units t.memory (calling b gs) b.values r >>= became (module_hosts merged) t)
  unfolding out-Instr out
  calls_at t k b gs {r} top target =
      ap (λ (fs : List (Frame Starting)). module_next merged t fs >>= became (module_hosts merged) t) top
      ∙ ap (λ o. o >>= call (module_view merged) t.units t.memory (calling b gs) b.values >>= became (module_hosts merged) t) target

module _ (L : LinkedSet) (n : Numbers) (x : Starts) (merged : Module) (is : HasParts L n merged) (ready : IsReady L n x merged) where
  abbrev pub Reached : ℕ → ℕ → Option SetState → Option ModuleState → Type 0
  Reached d c o p = Answered (system_of (module_step merged)) (λ v. depth_at v.status v.stack ≤ d) (Matched L n x) c o p

  pub reached_more : (most c d : ℕ) (o : Option SetState) (p : Option ModuleState) → c ≤ d → Reached most c o p → Reached most d o p
  reached_more most c d None p le r = r
  reached_more most c d (Some s) p le r = (let few = r.6 in (r.0, r.1, r.2, r.3, r.4, r.5, omega (arith, le, few), r.7))

  abbrev frame_of : After → List Task → LoaderFrame
  frame_of after ts = record { tasks = ts; after = after }

  -- the first step, and then some silent ones
  landed : (t : ModuleState) {d c : ℕ} {s : SetState} {t' u : ModuleState} → module_step merged t ≡ Some t' → Reaches merged d c t' u
      → Matched L n x s u → Reached d (suc c) (Some s) (module_step merged t)
  landed t {d} {c} {s} {t'} {u} e more m = (let k = silent_of more in let few = k.2 in (k.0, t', u, e, k.1, m, omega (arith, few), k.3))

  -- the same, where the last of the steps makes a call
  landed_call : (t : ModuleState) {d c : ℕ} {o : Option SetState} {t' u : ModuleState} → module_step merged t ≡ Some t' → Reaches merged d c t' u
      → length (activations u.stack) ≤ d → u.status ≡ Moving → Comes L n x merged is d o (module_step merged u) → Reached d (suc (c + 2)) o (module_step merged t)
  landed_call t {d} {c} {o} {t'} {u} e more low moving come =
      let a = come.answered in
      let few = a.6 in
      subst (λ p. Reached d (suc (c + 2)) p (module_step merged t)) (sym come.is_state)
      (landed t e (reaches_then more (reaches_more {m = suc a.0} (omega (arith, few)) (one_more low moving a.3 (of_silent a.0 a.4 a.7)))) a.5)

  module _ (s : SetState) (parts : ModuleParts) (same : Same L n x s.loader s.run.units parts) (fs : List (Frame LoaderFrame)) (after : After)
      (hs os : List (Frame Starting)) (outer : IsOuter L x after os hs) (below : Below n (places L n x) (gives_back after) fs hs)
      (d : ℕ) (enough : length (activations os) + 4 ≤ d) where
    abbrev marks : List Task → List (Frame LoaderFrame)
    marks ts = frames.Marked (frame_of after ts) ∷ fs

    abbrev before : ModuleParts → MemoryInstance → List Task → ModuleState
    before changed memory ts = standing L n x (frame_of after ts) os changed memory

    at_top : (loader : LoaderState) (us changed : ModuleParts) (memory : MemoryInstance) (ts : List Task) → Same L n x loader us changed
        → AreOf L ts → Matched L n x (marked L n x loader us memory (frame_of after ts) fs) (before changed memory ts)
    at_top loader us changed memory ts is_same of = record {
      memory = refl;
      status = refl;
      units = is_same;
      stacks = (hs, record { outer = os; stack = refl; under = outer; tasks = of }, below);
    }

    -- ---- one task

    module _ (p : Phase) (m : ℕ) (ts : List Task) (inside_set : m < length L.set.members) (of : AreOf L ts) (stage : ℕ)
        (held : stage_in s.loader m ≡ Some stage) where
      abbrev member : MemberReady L n x merged m
      member = ready.members m inside_set

      abbrev around : Around
      around = record {
        func = x.phase m p;
        results = 0;
        locals = [];
        below = [];
        more = [];
        levels = [];
        under = frames.Active (before_tasks L n x (frame_of after ts)) ∷ os;
      }

      abbrev body : List Instr
      body = phase_code L n x m member.wasm p

      abbrev work : List Instr
      work = work_code L n x m member.wasm p

      abbrev start : ModuleState
      start = before parts s.run.memory (record { phase = p; member = m } ∷ ts)

      enters : module_step merged start ≡ Some (at (changing parts s.run.memory) around [] body)
      unfolding out-Instr out
      enters = rw (member.target p, member.code p, append-nil body) refl

      guard : slice_get parts.globals (x.guards + m) ≡ Some (Num stage)
      guard = guard_there L n x s.loader s.run.units parts same m stage held

      small : IsWord stage
      small = (let low = same.store.kept.low m stage held in omega (arith, low))

      new_small : IsWord (stage_of p)
      new_small = (let low = small_stage p in omega (arith, low))

      ends : (changed : ModuleParts) (memory : MemoryInstance) → Reaches merged d 1 (at (changing changed memory) around [] []) (before changed memory ts)
      ends changed memory = reaches_under (x.phase m p) (before_tasks L n x (frame_of after ts)) os (omega (arith, enough))

      passed : nat_lt stage (stage_of p) ≡ false → Reached d 7 (Some (goes_on s (marks ts))) (module_step merged start)
      passed q =
          landed start enters
          (reaches_then (reaches_deeper (omega (arith, enough)) ((does_passed {h = 2} (x.guards + m) stage (stage_of p) small new_small guard work q).runs around)) (ends parts s.run.memory))
          (at_top s.loader s.run.units parts s.run.memory ts same of)

      -- ---- its work, where the stage is raised

      module _ (less : nat_lt stage (stage_of p) ≡ true) where
        abbrev up : SetState
        up = raised s m (stage_of p)

        abbrev changed : ModuleParts
        changed = record parts { globals = slice_set parts.globals (x.guards + m) (Num (stage_of p)) }

        raised_same : Same L n x up.loader s.run.units changed
        raised_same = stage_same L n x s.loader s.run.units parts same m stage (stage_of p) held (small_stage p) (some_stage p)

        through : {k : ℕ} (o : Option Trap) (memory : MemoryInstance) (result : ModuleParts)
            → Does merged 2 k work (changing changed s.run.memory) [] (changing result memory) [] o → Does merged 2 (7 + k) body (changing parts s.run.memory) [] (changing result memory) [] o
        through o memory result does = does_guarded (x.guards + m) stage (stage_of p) small new_small guard work less does

        nine : (k : ℕ) (o : Option SetState) → Reached d (suc (8 + k)) o (module_step merged start) → Reached d (9 + k) o (module_step merged start)
        nine k o r = reached_more d (suc (8 + k)) (9 + k) o (module_step merged start) (omega arith) r

        -- placing
        place_done : {k : ℕ} (o : Option Trap) (us : Store) (memory : MemoryInstance) (result : ModuleParts) → Same L n x up.loader us result
            → Does merged 2 k work (changing changed s.run.memory) [] (changing result memory) [] o
            → Reached d (9 + k) (outcome L (place_next up (marks ts) (record { units = us; memory = memory; trap = o }))) (module_step merged start)
        place_done {k} None us memory result is_same does =
            nine k (outcome L (place_next up (marks ts) (record { units = us; memory = memory; trap = None }))) (landed start {c = 8 + k} enters (reaches_more {m = (7 + k) + 1} (omega arith) (reaches_then (reaches_deeper (omega (arith, enough)) ((through None memory result does).runs around)) (ends result memory))) (at_top up.loader us result memory ts is_same of))
        place_done {k} (Some why) us memory result is_same does =
            nine k (outcome L (place_next up (marks ts) (record { units = us; memory = memory; trap = Some why })))
            (landed start {c = 8 + k} enters (reaches_more {m = 7 + k} (omega arith) (reaches_deeper (omega (arith, enough)) ((through (Some why) memory result does).runs around)))
            (record { memory = refl; status = refl; units = is_same; stacks = tt }))

        -- calling
        call_done : work ≡ member_call n m (phase_function p m member.wasm) → (o : Option ℕ) → phase_function p m member.wasm ≡ o
            → Reached d 9 (outcome L (callee_of L m o >>= call_next (set_loading L) up (marks ts))) (module_step merged start)
        call_done is_call None q =
            let none : work ≡ [] = is_call ∙ ap (member_call n m) q in
            let does : Does merged 2 0 work (changing changed s.run.memory) [] (changing changed s.run.memory) [] None =
            subst (λ (w : List Instr). Does merged 2 0 w (changing changed s.run.memory) [] (changing changed s.run.memory) [] None) (sym none) does_nothing in
            landed start enters (reaches_then (reaches_deeper (omega (arith, enough)) ((through None s.run.memory changed does).runs around)) (ends changed s.run.memory))
            (at_top up.loader s.run.units changed s.run.memory ts raised_same of)
        call_done is_call (Some f) q =
            let r = member.callable p f q in
            let k = n.named m f in
            let one_call : work ≡ Index op.call k ∷ [] = is_call ∙ ap (member_call n m) q in
            let point : ModuleState = at (changing changed s.run.memory) (inside around []) [] (Index op.call k ∷ []) in
            let reached : Reaches merged d 6 (at (changing parts s.run.memory) around [] body) point =
            subst (λ (w : List Instr). Reaches merged d 6 (at (changing parts s.run.memory) around [] body) (at (changing changed s.run.memory) (inside around []) [] w)) one_call
            (reaches_deeper (omega (arith, enough)) (reaches_work 2 (x.guards + m) stage (stage_of p) small new_small guard around work less)) in
            let b : Activation = behind_call (x.phase m p) in
            let gs : List (Frame Starting) = frames.Active (before_tasks L n x (frame_of after ts)) ∷ os in
            let under : Below n (places L n x) 0 (marks ts) (frames.Active b ∷ gs) =
            (hs, record { none = refl; phase = x.phase m p; outer = os; stack = refl; under = outer; tasks = of }, below) in
            let come = called L n x merged is up point (record { units = raised_same; memory = refl }) (marks ts) b gs refl under d (omega (arith, enough)) (λ e. absurd cc) r.0 r.2 in
            let target : module_target merged k ≡ Some (reference n r.0) = (code L n x merged is).target m f ∙ ap (option_map (reference n)) r.1 in
            let there = call (set_view L) s.run.units s.run.memory (λ values. marks ts) [] r.0 in
            let here : Comes L n x merged is d (there >>= went (set_loading L) up) (module_step merged point) =
            subst (λ (o : Option ModuleState). Comes L n x merged is d (there >>= went (set_loading L) up) o) (sym (calls_at merged point k b gs refl target)) come in
            let found : (outcome L (callee_of L m (Some f) >>= call_next (set_loading L) up (marks ts))) ≡ (there >>= went (set_loading L) up) =
            ap (λ (o : Option Ref). outcome L ((o >>= λ r'. Some (Some r')) >>= call_next (set_loading L) up (marks ts))) r.1 ∙ called_outcome L up there in
            subst (λ (o : Option SetState). Reached d 9 o (module_step merged start)) (sym found) (landed_call start enters reached (omega (arith, enough)) refl here)

        calls_through : work ≡ member_call n m (phase_function p m member.wasm)
            → Reached d 9 (outcome L (phase_callee L p m >>= call_next (set_loading L) up (marks ts))) (module_step merged start)
        calls_through is_call =
            subst (λ (o : Option Module). Reached d 9 (outcome L ((o >>= λ wasm. callee_of L m (phase_function p m wasm)) >>= call_next (set_loading L) up (marks ts))) (module_step merged start))
            (sym member.found) (call_done is_call (phase_function p m member.wasm) refl)

    placed_through : (m : ℕ) (ts : List Task) (inside_set : m < length L.set.members) → AreOf L ts → (stage : ℕ)
        → stage_in s.loader m ≡ Some stage → nat_lt stage 1 ≡ true
        → Reached d (9 + (4 * length (segment_effects (member_number L m) (ready.members m inside_set).wasm) + 4))
        (outcome L (work_next (set_loading L) (raised s m 1) (marks ts) Place m))
        (module_step merged (before parts s.run.memory (record { phase = Place; member = m } ∷ ts)))
    placed_through m ts inside_set of stage held less =
        let changed : ModuleParts = record parts { globals = slice_set parts.globals (x.guards + m) (Num 1) } in
        let is_same = stage_same L n x s.loader s.run.units parts same m stage 1 held (omega arith) (omega arith) in
        let first : stage ≡ 0 = grind (arith, nat_tests) in
        let slots : HoldsSlots L n x parts m = slots_there L n x s.loader s.run.units parts same m (held ∙ ap Some first) in
        let placed = place_law L n x merged is (raised s m 1).loader m inside_set (ready.members m inside_set) s.run.units changed s.run.memory is_same slots in
        subst (λ (o : Option (Performed Store)). Reached d (9 + (4 * length (segment_effects (member_number L m) (ready.members m inside_set).wasm) + 4)) (outcome L (o >>= place_next (raised s m 1) (marks ts))) (module_step merged (before parts s.run.memory (record { phase = Place; member = m } ∷ ts))))
        (sym placed.is_placed)
        (place_done Place m ts inside_set of stage held less placed.placed.trap placed.placed.units placed.placed.memory placed.parts placed.same placed.runs)

    works : (p : Phase) (m : ℕ) (ts : List Task) (inside_set : m < length L.set.members) → AreOf L ts → (stage : ℕ)
        → stage_in s.loader m ≡ Some stage → nat_lt stage (stage_of p) ≡ true
        → Reached d (9 + work_cost L p m) (outcome L (work_next (set_loading L) (raised s m (stage_of p)) (marks ts) p m))
        (module_step merged (before parts s.run.memory (record { phase = p; member = m } ∷ ts)))
    works Place m ts inside_set of stage held less =
        subst (λ c. Reached d c (outcome L (work_next (set_loading L) (raised s m 1) (marks ts) Place m))
        (module_step merged (before parts s.run.memory (record { phase = Place; member = m } ∷ ts))))
        (ap (λ o. 9 + placing_with L m o) (sym (ready.members m inside_set).found)) (placed_through m ts inside_set of stage held less)
    works Start m ts inside_set of stage held less = calls_through Start m ts inside_set of stage held less refl
    works Relocate m ts inside_set of stage held less = calls_through Relocate m ts inside_set of stage held less refl
    works Construct m ts inside_set of stage held less = calls_through Construct m ts inside_set of stage held less refl

    task_law : (task : Task) (ts : List Task) → task.member < length L.set.members → AreOf L ts
        → Reached d (task_cost L task) (outcome L (task_next (set_loading L) s (marks ts) task)) (module_step merged (before parts s.run.memory (task ∷ ts)))
    task_law task ts inside_set of =
        let stage = got s.loader.stages task.member (subst (λ c. task.member < c) (sym same.store.kept.sized) inside_set) in
        subst (λ (o : Option ℕ). Reached d (task_cost L task) (outcome L (o >>= then')) (module_step merged (before parts s.run.memory (task ∷ ts)))) (sym stage.1)
        (go stage.0 stage.1 (nat_lt stage.0 (stage_of task.phase)) refl)
      where
        chosen : Bool → Option (loading.Comes Store)
        chosen b = if b then work_next (set_loading L) (raised s task.member (stage_of task.phase)) (marks ts) task.phase task.member else loading.comes_by_itself (goes_on s (marks ts))

        then' : ℕ → Option (loading.Comes Store)
        then' stage = chosen (nat_lt stage (stage_of task.phase))

        go : (stage : ℕ) → stage_in s.loader task.member ≡ Some stage → (b : Bool) → nat_lt stage (stage_of task.phase) ≡ b
            → Reached d (task_cost L task) (outcome L (then' stage)) (module_step merged (before parts s.run.memory (task ∷ ts)))
        go stage held true q =
            subst (λ b. Reached d (task_cost L task) (outcome L (chosen b)) (module_step merged (before parts s.run.memory (task ∷ ts)))) (sym q) (works task.phase task.member ts inside_set of stage held q)
        go stage held false q =
            subst (λ b. Reached d (task_cost L task) (outcome L (chosen b)) (module_step merged (before parts s.run.memory (task ∷ ts)))) (sym q)
            (reached_more d 7 (task_cost L task) (Some (goes_on s (marks ts))) (module_step merged (before parts s.run.memory (task ∷ ts))) (omega arith)
            (passed task.phase task.member ts inside_set of stage held q))

  -- ---- what follows the last task

  -- the entry is called, and the entry function has nothing left
  entry_law : (s : SetState) (parts : ModuleParts) → Same L n x s.loader s.run.units parts → (fs : List (Frame LoaderFrame))
      → Below n (places L n x) 0 fs (frames.Active (at_end x.starting) ∷ [])
      → (d : ℕ) → 3 ≤ d → Reached d 2 (outcome L (after_next (set_loading L) s fs CallEntry)) (module_step merged (standing L n x (frame_of CallEntry []) [] parts s.run.memory))
  entry_law s parts same fs below d enough =
      let e = ready.entry in
      let b : Activation = at_end x.starting in
      let t : ModuleState = record { units = parts; memory = s.run.memory; stack = frames.Active (record b { rest = Index op.call (n.named 0 e.function) ∷ [] }) ∷ []; status = Moving } in
      let t_is : standing L n x (frame_of CallEntry []) [] parts s.run.memory ≡ t =
      ap (λ o. record t { stack = frames.Active (record b { rest = member_call n 0 o }) ∷ [] }) e.entry in
      let come = called_own L n x merged is s t (record { units = same; memory = refl }) fs b [] refl below d enough 0 e.function e.callable in
      let target : module_target merged (n.named 0 e.function) ≡ Some (reference n (Own 0 e.function)) = (code L n x merged is).target 0 e.function ∙ ap (option_map (reference n)) e.target in
      let there = call (set_view L) s.run.units s.run.memory (λ values. fs) [] (Own 0 e.function) in
      let found : outcome L (after_next (set_loading L) s fs CallEntry) ≡ (there >>= went (set_loading L) s) =
      ap (λ o. outcome L ((o >>= λ f. Some (Own 0 f)) >>= λ r. call_next (set_loading L) s fs (Some r))) e.entry ∙ called_outcome L s there in
      subst (λ (u : ModuleState). Reached d 2 (outcome L (after_next (set_loading L) s fs CallEntry)) (module_step merged u)) (sym t_is)
      (subst (λ (o : Option SetState). Reached d 2 o (module_step merged t)) (sym (found ∙ come.is_state))
      (subst (λ (p : Option ModuleState). Reached d 2 (Some come.state) p) (sym (calls_at merged t (n.named 0 e.function) b [] refl target)) come.answered))

  -- the handle is pushed
  pushes : (parts : ModuleParts) (memory : MemoryInstance) (m : ℕ) (os : List (Frame Starting)) → IsWord (m + 1)
      → module_step merged (standing L n x (frame_of (GiveHandle m) []) os parts memory)
      ≡ Some (record { units = parts; memory = memory; stack = frames.Active (record (before_code (x.opening m) 1 []) { values = Num (m + 1) ∷ [] }) ∷ os; status = Moving })
  unfolding out-Instr out
  pushes parts memory m os small = (let q : cast_unsigned w32 (cast_signed w32 (m + 1)) ≡ m + 1 = of_z-to_z w32 (m + 1) small in rw q refl)

  -- it is given to what hands it on
  module _ (s : SetState) (parts : ModuleParts) (same : Same L n x s.loader s.run.units parts) (hs : List (Frame Starting)) (m : ℕ)
      (a : Activation) (hands : HandsOn a) (small : IsWord (m + 1)) where
    abbrev handle : Value
    handle = Num (m + 1)

    abbrev over : Activation → List (Frame Starting) → ModuleState
    over c gs = record { units = parts; memory = s.run.memory; stack = frames.Active c ∷ gs; status = Moving }

    abbrev given_handle : ModuleState
    given_handle = over (record a { values = handle ∷ a.values }) hs

    abbrev returning : Activation
    returning = record a { results = 1; values = handle ∷ []; rest = []; levels = [] }

    returns : module_step merged given_handle ≡ Some (over returning hs)
    unfolding out-Instr out
    returns = (let fits : nat_le 1 (suc (length a.values)) ≡ true = grind (arith, nat_tests) in rw (hands.rest, hands.results, fits) refl)

    given_law : (fs : List (Frame LoaderFrame)) (gs : List (Frame Starting)) → Below n (places L n x) 1 fs gs
        → (u : ModuleState) × (module_step merged (over returning gs) ≡ Some u) × Matched L n x (gives s fs (m + 1)) u
    given_law [] [] under = (_, refl, record { memory = refl; status = refl; units = same; stacks = tt })
    given_law [] (g ∷ gs) under = absurd (omega (arith, under.0))
    given_law (frames.Active c ∷ fs) gs under =
        let u : ModuleState = over (activation n (with_values c (handle ∷ c.values))) under.0 in
        (u, rw under.1 refl, record { memory = refl; status = refl; units = same; stacks = (under.0, refl, under.2) })
    given_law (frames.Marked mark ∷ fs) gs under = (let none = under.1.none in absurd (omega (arith, none)))

    handle_law : (fs : List (Frame LoaderFrame)) → Below n (places L n x) 1 fs hs
        → (d : ℕ) → length (activations hs) + 5 ≤ d → Reached d 4 (outcome L (after_next (set_loading L) s fs (GiveHandle m)))
        (module_step merged (standing L n x (frame_of (GiveHandle m) []) (frames.Active a ∷ hs) parts s.run.memory))
    handle_law fs below d enough =
        let end = given_law fs hs below in
        landed (standing L n x (frame_of (GiveHandle m) []) (frames.Active a ∷ hs) parts s.run.memory) (pushes parts s.run.memory m (frames.Active a ∷ hs) small)
        (one_more {u = given_handle} (omega (arith, enough)) refl refl (one_more (omega (arith, enough)) refl returns (one_step (omega (arith, enough)) refl end.1))) end.2

  -- the handle is pushed, the closure is promoted, and the handle given to what hands it on
  module _ (s : SetState) (parts : ModuleParts) (same : Same L n x s.loader s.run.units parts) (hs : List (Frame Starting)) (m : ℕ)
      (a : Activation) (p : Promotes L x m a) (small : IsWord (m + 1)) where
    abbrev after_promoting : SetState
    after_promoting = promoting (set_loading L) s m

    abbrev handing : Activation
    handing = record a { unit = 0; rest = Plain op.return_ ∷ p.hands.more }

    abbrev place_around : Around
    place_around = record {
      func = a.func;
      results = a.results;
      locals = a.locals;
      below = Num (m + 1) ∷ a.values;
      more = Plain op.return_ ∷ p.hands.more;
      levels = a.levels;
      under = hs;
    }

    abbrev with_code : ℕ → List Instr → ModuleState
    with_code unit code = record { units = parts; memory = s.run.memory; stack = frames.Active (record a { unit = unit; rest = code; values = Num (m + 1) ∷ a.values }) ∷ hs; status = Moving }

    promote_law : (fs : List (Frame LoaderFrame)) → Below n (places L n x) 1 fs hs
        → (d : ℕ) → length (activations hs) + 5 ≤ d
        → Reached d (4 + 10 * length (later_members L.set m)) (outcome L (after_next (set_loading L) s fs (GiveAndPromote m)))
        (module_step merged (standing L n x (frame_of (GiveAndPromote m) []) (frames.Active a ∷ hs) parts s.run.memory))
    promote_law fs below d enough =
        let law = promoting_law L n x merged p.used p.number s.loader s.run.units parts same s.run.memory m p.later in
        let hands : HandsOn handing = record { more = p.hands.more; rest = refl; results = p.hands.results } in
        let end = given_law after_promoting law.0 law.1 hs m handing hands small fs hs below in
        let here : with_code a.unit a.rest ≡ with_code 0 (promote_code L x m ++ Plain op.return_ ∷ p.hands.more) = ap₂ with_code p.hands.unit p.hands.rest in
        let promotes : Reaches merged d (10 * length (later_members L.set m)) (with_code a.unit a.rest) (given_handle after_promoting law.0 law.1 hs m handing hands small) =
        subst (λ u. Reaches merged d (10 * length (later_members L.set m)) u (given_handle after_promoting law.0 law.1 hs m handing hands small)) (sym here) (reaches_deeper (omega (arith, enough)) (law.2.runs place_around)) in
        four (landed (standing L n x (frame_of (GiveAndPromote m) []) (frames.Active a ∷ hs) parts s.run.memory) {c = 3 + 10 * length (later_members L.set m)}
        (pushes parts s.run.memory m (frames.Active a ∷ hs) small)
        (reaches_more {m = suc (10 * length (later_members L.set m) + 2)} (omega arith)
        (one_more {u = with_code a.unit a.rest} (omega (arith, enough)) refl refl (reaches_then promotes (one_more (omega (arith, enough)) refl (returns after_promoting law.0 law.1 hs m handing hands small) (one_step (omega (arith, enough)) refl end.1))))) end.2)
      where
        four : Reached d (suc (3 + 10 * length (later_members L.set m))) (outcome L (after_next (set_loading L) s fs (GiveAndPromote m)))
            (module_step merged (standing L n x (frame_of (GiveAndPromote m) []) (frames.Active a ∷ hs) parts s.run.memory))
            → Reached d (4 + 10 * length (later_members L.set m)) (outcome L (after_next (set_loading L) s fs (GiveAndPromote m)))
            (module_step merged (standing L n x (frame_of (GiveAndPromote m) []) (frames.Active a ∷ hs) parts s.run.memory))
        four r = reached_more d (suc (3 + 10 * length (later_members L.set m))) (4 + 10 * length (later_members L.set m))
            (outcome L (after_next (set_loading L) s fs (GiveAndPromote m)))
            (module_step merged (standing L n x (frame_of (GiveAndPromote m) []) (frames.Active a ∷ hs) parts s.run.memory)) (omega arith) r

  -- ---- a frame

  pub frame_law : (s : SetState) (parts : ModuleParts) → Same L n x s.loader s.run.units parts → (fs : List (Frame LoaderFrame))
      (hs os : List (Frame Starting)) (after : After) → IsOuter L x after os hs → Below n (places L n x) (gives_back after) fs hs
      → (tasks : List Task) → AreOf L tasks → (d : ℕ) → length (activations os) + 4 ≤ d
      → Reached d (frame_cost (set_prices L) (frame_of after tasks)) (outcome L (frame_next (set_loading L) s fs after tasks)) (module_step merged (standing L n x (frame_of after tasks) os parts s.run.memory))
  frame_law s parts same fs hs os after outer below (task ∷ ts) of d enough = task_law s parts same fs after hs os outer below d enough task ts of.0 of.1
  frame_law s parts same fs hs os CallEntry outer below [] of d enough =
      subst (λ (gs : List (Frame Starting)). Reached d 2 (outcome L (after_next (set_loading L) s fs CallEntry)) (module_step merged (standing L n x (frame_of CallEntry []) gs parts s.run.memory))) (sym outer.0)
      (entry_law s parts same fs (subst (λ (gs : List (Frame Starting)). Below n (places L n x) 0 fs gs) outer.1 below) d (omega (arith, enough)))
  frame_law s parts same fs hs os (GiveHandle m) outer below [] of d enough =
      subst (λ (gs : List (Frame Starting)). Reached d 4 (outcome L (after_next (set_loading L) s fs (GiveHandle m))) (module_step merged (standing L n x (frame_of (GiveHandle m) []) gs parts s.run.memory))) (sym outer.1)
      (handle_law s parts same hs m outer.0 outer.2 outer.3 fs below d (let h = rw outer.1 at enough in omega (arith, h)))
  frame_law s parts same fs hs os (GiveAndPromote m) outer below [] of d enough =
      subst (λ (gs : List (Frame Starting)). Reached d (4 + 10 * length (later_members L.set m)) (outcome L (after_next (set_loading L) s fs (GiveAndPromote m))) (module_step merged (standing L n x (frame_of (GiveAndPromote m) []) gs parts s.run.memory))) (sym outer.1)
      (promote_law s parts same hs m outer.0 outer.2 outer.3 fs below d (let h = rw outer.1 at enough in omega (arith, h)))
