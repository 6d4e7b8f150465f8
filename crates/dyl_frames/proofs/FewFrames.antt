-- There are few frames of the loader: each waits for the call of a phase, and a member comes to no stage twice.
use Rattle.std.proofs.Common.{◌≡◌, ◌≢◌, inl, inr, ℕ, zero, suc, ◌+◌, ◌-◌, ◌*◌, ◌<◌, ◌≤◌, true, false, List, [], ◌∷◌, ◌++◌, length, length-append, Option, Some, None, refl, ap, sym, ◌∙◌, subst, sum, arith, All}
use Rattle.std.specs.Prelude.{slice_get, slice_set, replicate, map, reverse, Result, Ok, Err, IfOk, OnOk}
use Rattle.std.proofs.lemmas.Bool.Decides.{nat_tests}
use Rattle.std.proofs.lemmas.List.{length-replicate}
use Rattle.std.proofs.lemmas.List.Elements.{All-nil, All-cons, All-head, All-tail}
use Rattle.std.proofs.lemmas.List.Sums.{sum_by-cons}
use Rattle.spec_loading.specs.wasm_form.declared.Memory.{Memory}
use Rattle.spec_loading.specs.wasm_form.declared.runtime.Answer.{Answer}
use Rattle.spec_loading.specs.wasm_form.declared.runtime.Answer.TheVariants.{Reply, Exit}
use Rattle.spec_loading.specs.wasm_form.declared.runtime.Value.{Value}
use Rattle.spec_loading.specs.wasm_form.declared.runtime.Value.TheVariants.{Num}
use Rattle.spec_loading.specs.spec_execution.Views.{View}
use Rattle.spec_loading.specs.spec_execution.Runs.{Frame, Active, Marked, Next, Goes, is_running, given}
use Rattle.spec_loading.specs.declared.task.Phase.{Phase}
use Rattle.spec_loading.specs.declared.task.Phase.TheVariants.{Place, Start, Relocate, Construct}
use Rattle.spec_loading.specs.declared.task.Task.{Task}
use Rattle.spec_loading.specs.Phases.{stage_of}
use Rattle.wasm_step.specs.Moves.{Changes}
use Rattle.wasm_step.specs.declared.done.Done.{Done}
use Rattle.wasm_step.specs.declared.done.Done.TheVariants as done
use Rattle.wasm_machine.specs.Machines.{MachineState, Told, Stepped, QuickStepped, Received, Answered}
use Rattle.wasm_machine.specs.declared.event.Event.{Event}
use Rattle.wasm_machine.specs.declared.event.Event.TheVariants as event
use Rattle.dyl_frames.specs.declared.frames.Pending.{Pending}
use Rattle.dyl_frames.specs.declared.frames.Core.{Core}
use Rattle.dyl_frames.specs.Cores.{HasFewFrames, is_below, is_behind, is_deep_event, raised_stages, Finishes}
use Rattle.dyl_frames.proofs.CodeSteps.{with_machine}
use Rattle.dyl_frames.proofs.Tops.{length_set}
use Rattle.dyl_world.specs.Promoted.{PromotedMembers}

-- ---- stages

abbrev IsStage : ℕ → Type 0
IsStage stage = stage ≤ 4

sum_cons : (x : ℕ) (xs : List ℕ) → sum (x ∷ xs) ≡ x + sum xs
sum_cons x xs = sum_by-cons (λ n. n) x xs

sum_below : (xs : List ℕ) → All IsStage xs → sum xs ≤ 4 * length xs
sum_below [] h = omega arith
sum_below (x ∷ xs) h =
    let here : x ≤ 4 = All-head IsStage x xs h in
    let later = sum_below xs (All-tail IsStage x xs h) in
    let both = sum_cons x xs in
    omega arith

-- the stages together are more once a member has come to a further one
sum_raised : (xs : List ℕ) (i p x : ℕ) → slice_get xs i ≡ Some x → x < p → sum xs + 1 ≤ sum (slice_set xs i p)
sum_raised [] i p x e lt = absurd cc
sum_raised (y ∷ ys) zero p x e lt =
    let same : y ≡ x = cc in
    let before = sum_cons y ys in
    let after = sum_cons p ys in
    omega arith
sum_raised (y ∷ ys) (suc i) p x e lt =
    let later = sum_raised ys i p x e lt in
    let before = sum_cons y ys in
    let after = sum_cons y (slice_set ys i p) in
    omega arith

all_set : (xs : List ℕ) (i p : ℕ) → All IsStage xs → p ≤ 4 → All IsStage (slice_set xs i p)
all_set [] i p h le = h
all_set (x ∷ xs) zero p h le = All-cons IsStage p xs le (All-tail IsStage x xs h)
all_set (x ∷ xs) (suc i) p h le = All-cons IsStage x (slice_set xs i p) (All-head IsStage x xs h) (all_set xs i p (All-tail IsStage x xs h) le)

none_reached : (n : ℕ) → All IsStage (replicate n 0)
none_reached zero = All-nil IsStage
none_reached (suc n) = All-cons IsStage 0 (replicate n 0) (omega arith) (none_reached n)

phase_stage : (p : Phase) → stage_of p ≤ 4
phase_stage Place = omega arith
phase_stage Start = omega arith
phase_stage Relocate = omega arith
phase_stage Construct = omega arith

further : (o : Option ℕ) (goal : ℕ) → is_below o goal ≡ true → (stage : ℕ) × (o ≡ Some stage) × (stage < goal)
further None goal e = absurd cc
further (Some stage) goal e = (stage, refl, grind (arith, nat_tests))

pub all_further : (c : Core) (t : Task) → is_behind c t ≡ true → sum c.stages + 1 ≤ sum (raised_stages c t)
all_further c t behind =
    let at = further (slice_get c.stages t.member) (stage_of t.phase) behind in
    sum_raised c.stages t.member (stage_of t.phase) at.0 at.1 at.2

-- ---- what runs

runs_given : (values : List Value) (f : Frame ℕ) (fs : List (Frame ℕ)) → is_running (given values f ∷ fs) ≡ is_running (f ∷ fs)
runs_given values (Active a) fs = refl
runs_given values (Marked tag) fs = refl

nothing_runs : (n : MachineState) → n.stack.frames ≡ [] → is_running n.stack.frames ≡ true → ⊥
nothing_runs n none runs = let idle : is_running n.stack.frames ≡ false = ap (λ (fs : List (Frame ℕ)). is_running fs) none in let clash : true ≡ false = sym runs ∙ idle in cc

received_runs : (frames : List (Frame ℕ)) (results : List ℕ) (n : MachineState) → Received frames results n → is_running n.stack.frames ≡ true → is_running frames ≡ true
received_runs [] results n r runs = absurd (nothing_runs n r.frames_are runs)
received_runs (f ∷ fs) results n r runs = sym (runs_given (reverse (map Num results)) f fs) ∙ sym (ap (λ (xs : List (Frame ℕ)). is_running xs) r.frames_are) ∙ runs

-- ---- as many frames

abbrev Runs : Core → Type 0
Runs c = is_running c.machine.stack.frames ≡ true

module _ (c : Core) (h : HasFewFrames c) where
  -- while code runs, which may call a function of the loader
  pub few_running : Runs c → length c.frames.items < 4294967296
  few_running runs =
      let some = h.running runs in
      let all = sum_below c.stages h.stages in
      let members = h.members in
      omega arith

  abbrev Few : Type 0
  Few = length c.frames.items ≤ sum c.stages

  -- the frames and the stages are the same
  pub few_as : (new : Core) → new.frames.items ≡ c.frames.items → new.stages ≡ c.stages → new.promoted.room ≡ c.promoted.room → (Runs new → Few) → HasFewFrames new
  few_as new frames stages room runs = record {
    members = subst (λ (xs : List ℕ). length xs ≤ 256) (sym stages) h.members;
    stages = subst (λ (xs : List ℕ). All IsStage xs) (sym stages) h.stages;
    room = room ∙ h.room ∙ ap length (sym stages);
    frames = subst (λ (xs : List ℕ). length new.frames.items ≤ sum xs + 1) (sym stages) (subst (λ (ps : List Pending). length ps ≤ sum c.stages + 1) (sym frames) h.frames);
    running = λ e. subst (λ (xs : List ℕ). length new.frames.items ≤ sum xs) (sym stages) (subst (λ (ps : List Pending). length ps ≤ sum c.stages) (sym frames) (runs e));
  }

  few_with : (n : MachineState) → (is_running n.stack.frames ≡ true → Few) → HasFewFrames (with_machine c n)
  few_with n runs = few_as (with_machine c n) refl refl refl runs

  pub few_same : (n : MachineState) → n ≡ c.machine → HasFewFrames (with_machine c n)
  few_same n same = few_with n (λ e. h.running (subst (λ (m : MachineState). is_running m.stack.frames ≡ true) same e))

  pub few_ended : (n : MachineState) → n.stack.frames ≡ [] → HasFewFrames (with_machine c n)
  few_ended n none = few_with n (λ e. absurd (nothing_runs n none e))

  pub few_received : (new : Core) (results : List ℕ) → new.frames.items ≡ c.frames.items → new.stages ≡ c.stages → new.promoted.room ≡ c.promoted.room → Received c.machine.stack.frames results new.machine → HasFewFrames new
  few_received new results frames stages room r = few_as new frames stages room (λ e. h.running (received_runs c.machine.stack.frames results new.machine r e))

  pub few_answered : {Units : Type 0} (a : Answer) (n : MachineState) (ch : Changes Units) → Answered a c.machine n ch → HasFewFrames (with_machine c n)
  few_answered (Reply results writes) n ch t = few_received (with_machine c n) results refl refl refl t.0
  few_answered (Exit code) n ch t = few_ended n t.0.frames_are

  few_stepped : {Units : Type 0} (V : View Units) (n : MachineState) (ch : Changes Units) (e : Event) → Stepped V e c.machine n ch → HasFewFrames (with_machine c n)
  few_stepped V n ch e (inl t) = few_with n (λ _. h.running t.1)
  few_stepped V n ch e (inr (inl t)) = few_same n t.2
  few_stepped V n ch e (inr (inr t)) = few_same n t.1

  pub few_after : {Units : Type 0} (V : View Units) (n : MachineState) (ch : Changes Units) (r : Result Event Memory) → IfOk r (λ e. Stepped V e c.machine n ch) → OnOk r (HasFewFrames (with_machine c n))
  few_after V n ch (Ok e) t = few_stepped V n ch e t
  few_after V n ch (Err e) t = tt

  pub few_quick : {Units : Type 0} (V : View Units) (n : MachineState) (ch : Changes Units) (d : Done) → QuickStepped V d c.machine n ch → d ≢ done.NoMemory → HasFewFrames (with_machine c n)
  few_quick V n ch done.Goes t found = few_stepped V n ch event.Moved t
  few_quick V n ch (done.Trapped why) t found = few_stepped V n ch (event.Trapped why) t
  few_quick V n ch done.Returned t found = few_stepped V n ch event.Returned t
  few_quick V n ch done.Exited t found = few_same n t.1
  few_quick V n ch done.Marked t found = few_same n t.1
  few_quick V n ch done.Deep t found = few_stepped V n ch event.Deep t
  few_quick V n ch done.Outside t found = few_same n t.1
  few_quick V n ch done.NoMemory t found = absurd (found refl)

  -- a call that would be too deep leaves what was there
  pub few_unmade : {Units : Type 0} (V : View Units) (next : Option (Next Units ℕ)) (n : MachineState) (ch : Changes Units) (e : Event) → Told V e next c.machine n ch → is_deep_event e ≡ true → HasFewFrames (with_machine c n)
  few_unmade V (Some (Goes us memory frames)) n ch event.Deep t b = few_same n t.1
  few_unmade V next n ch event.Moved t b = absurd cc
  few_unmade V next n ch (event.Waits asked) t b = absurd cc
  few_unmade V next n ch (event.Loader which first second) t b = absurd cc
  few_unmade V next n ch (event.Marked tag) t b = absurd cc
  few_unmade V next n ch event.Returned t b = absurd cc
  few_unmade V next n ch (event.Trapped why) t b = absurd cc
  few_unmade V next n ch (event.Exited code) t b = absurd cc
  few_unmade V next n ch e t b = absurd t

  -- ---- tasks and frames that are done

  module _ (stages : List ℕ) (m : MachineState) (new : Core) (f : Finishes stages (with_machine c m) new) where
    same_frames : length new.frames.items ≡ length c.frames.items
    same_frames = ap length f.frames.3 ∙ length_set c.frames.items (length c.frames.items - 1) f.frames.1

    finished : length stages ≡ length c.stages → All IsStage stages → length c.frames.items ≤ sum stages + 1 → (is_running m.stack.frames ≡ true → length c.frames.items ≤ sum stages) → HasFewFrames new
    finished count all some runs = record {
      members = let most = h.members in let many = ap length f.stages_are in omega arith;
      stages = subst (λ (xs : List ℕ). All IsStage xs) (sym f.stages_are) all;
      room = let kept = ap (λ (p : PromotedMembers). p.room) f.promoted in let had = h.room in let many = ap length f.stages_are in omega arith;
      frames = let is = same_frames in let reached = ap sum f.stages_are in omega arith;
      running = λ e.
          let is = same_frames in
          let reached = ap sum f.stages_are in
          let le : length c.frames.items ≤ sum stages = runs (subst (λ (x : MachineState). is_running x.stack.frames ≡ true) f.machine e) in
          omega arith;
    }

  -- a task that is passed over
  pub few_passed : (new : Core) → Finishes c.stages c new → HasFewFrames new
  few_passed new f = finished c.stages c.machine new f refl h.stages h.frames h.running

  -- a task that is done, by a machine that may be at what it calls
  pub few_finished : (t : Task) (m : MachineState) (new : Core) → is_behind c t ≡ true → Finishes (raised_stages c t) (with_machine c m) new → HasFewFrames new
  few_finished t m new behind f =
      let more = all_further c t behind in
      let some = h.frames in
      finished (raised_stages c t) m new f (length_set c.stages t.member (stage_of t.phase)) (all_set c.stages t.member (stage_of t.phase) h.stages (phase_stage t.phase)) (omega arith) (λ e. omega arith)

  -- the entry is called once the first frame is done
  pub few_entered : (new : Core) → new.frames.items ≡ [] → new.stages ≡ c.stages → new.promoted.room ≡ c.promoted.room → HasFewFrames new
  few_entered new none stages room =
      let count : length new.frames.items ≡ 0 = ap length none in
      record {
        members = subst (λ (xs : List ℕ). length xs ≤ 256) (sym stages) h.members;
        stages = subst (λ (xs : List ℕ). All IsStage xs) (sym stages) h.stages;
        room = room ∙ h.room ∙ ap length (sym stages);
        frames = omega arith;
        running = λ e. omega arith;
      }

  -- a frame is put over code that runs
  pub few_opened : (new : Core) (p : Pending) (tag : ℕ) (rest : List (Frame ℕ)) → new.frames.items ≡ c.frames.items ++ p ∷ [] → new.stages ≡ c.stages → new.promoted.room ≡ c.promoted.room → new.machine.stack.frames ≡ Marked tag ∷ rest → Runs c → HasFewFrames new
  few_opened new p tag rest frames stages room top runs =
      let some = h.running runs in
      let more : length new.frames.items ≡ length c.frames.items + 1 = ap length frames ∙ length-append c.frames.items (p ∷ []) in
      let reached : sum new.stages ≡ sum c.stages = ap sum stages in
      record {
        members = subst (λ (xs : List ℕ). length xs ≤ 256) (sym stages) h.members;
        stages = subst (λ (xs : List ℕ). All IsStage xs) (sym stages) h.stages;
        room = room ∙ h.room ∙ ap length (sym stages);
        frames = omega arith;
        running = λ e. absurd (let idle : is_running new.machine.stack.frames ≡ false = ap (λ (fs : List (Frame ℕ)). is_running fs) top in let clash : true ≡ false = sym e ∙ idle in cc);
      }

  -- the frame on top is taken away
  pub few_handed : (new : Core) → length c.frames.items ≡ suc (length new.frames.items) → new.stages ≡ c.stages → new.promoted.room ≡ c.promoted.room → HasFewFrames new
  few_handed new less stages room =
      let some = h.frames in
      let reached : sum new.stages ≡ sum c.stages = ap sum stages in
      record {
        members = subst (λ (xs : List ℕ). length xs ≤ 256) (sym stages) h.members;
        stages = subst (λ (xs : List ℕ). All IsStage xs) (sym stages) h.stages;
        room = room ∙ h.room ∙ ap length (sym stages);
        frames = omega arith;
        running = λ e. omega arith;
      }

-- the first frame, on an empty call stack
pub few_first : (members : ℕ) (c : Core) (p : Pending) → members ≤ 256 → c.frames.items ≡ p ∷ [] → c.stages ≡ replicate members 0 → c.promoted ≡ record { list = []; room = members } → c.machine.stack.frames ≡ Marked 0 ∷ [] → HasFewFrames c
few_first members c p few frames stages promoted top =
    let one : length c.frames.items ≡ 1 = ap length frames in
    let count : length c.stages ≡ members = ap length stages ∙ length-replicate members 0 in
    record {
      members = omega arith;
      stages = subst (λ (xs : List ℕ). All IsStage xs) (sym stages) (none_reached members);
      room = ap (λ (x : PromotedMembers). x.room) promoted ∙ sym count;
      frames = omega arith;
      running = λ e. absurd (let idle : is_running c.machine.stack.frames ≡ false = ap (λ (fs : List (Frame ℕ)). is_running fs) top in let clash : true ≡ false = sym e ∙ idle in cc);
    }
