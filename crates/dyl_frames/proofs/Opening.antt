-- The first frame is put on an empty call stack.
use Rattle.std.proofs.Common.{◌≡◌, ◌<◌, ℕ, zero, suc, List, [], ◌∷◌, ◌++◌, Some, refl, ap, sym, ◌∙◌, subst, length, All}
use Rattle.std.specs.Prelude.{slice_get, reverse, replicate}
use Rattle.std.proofs.lemmas.List.{length-replicate}
use Rattle.spec_loading.specs.spec_execution.Runs.{Frame, Marked}
use Rattle.spec_loading.proofs.of_spec_safety.Lookups.{All-reverse}
use Rattle.wasm_view.specs.Seen.{Seen}
use Rattle.wasm_machine.specs.Stacks.{CallStack}
use Rattle.wasm_machine.specs.Machines.{MachineState, IsOver, Marks}
use Rattle.wasm_machine.specs.Marks.{marked_stack}
use Rattle.wasm_machine.specs.declared.machine.Standing.{Standing}
use Rattle.spec_loading.specs.declared.task.Task.{Task}
use Rattle.spec_loading.specs.declared.task.After.{After}
use Rattle.spec_loading.specs.declared.task.After.TheVariants.{CallEntry}
use Rattle.spec_loading.specs.Phases.{LoaderFrame}
use Rattle.spec_loading.specs.Loading.{Loading, LoaderState}
use Rattle.dyl_world.specs.Promoted.{PromotedMembers}
use Rattle.dyl_frames.specs.declared.frames.Pending.{Pending}
use Rattle.dyl_frames.specs.declared.frames.Core.{Core}
use Rattle.dyl_frames.specs.Cores.{frame_of, frame_at, LiesOver, IsHandle, IsPending, IsStacked, IsLive, IsSound, loader_of, StandsAs, OpensAt}

pub one_frame : (frames none : List Pending) (p : Pending) → frames ≡ none ++ p ∷ [] → none ≡ [] → frames ≡ p ∷ []
one_frame frames none p is empty = is ∙ ap (λ (ps : List Pending). ps ++ p ∷ []) empty

pub tasks_small : (members : ℕ) (tasks : List Task) → All (λ (t : Task). t.member < members) tasks → All (λ (t : Task). t.member < members) (reverse tasks)
tasks_small members tasks h = All-reverse (λ (t : Task). t.member < members) tasks h

module _ {Units : Type 0} (w : Seen Units) (members : ℕ) (tasks : List Task) (c : Core) (p : Pending) (m : MachineState)
    (frames : c.frames.items ≡ p ∷ []) (items : p.tasks.items ≡ tasks) (follows : p.after ≡ CallEntry) (stages : c.stages ≡ replicate members 0) (error : c.error ≡ 0) (promoted : c.promoted ≡ record { list = []; room = members })
    (bare : m.stack.frames ≡ []) (marks : Marks 0 m c.machine) where
  pub on_stack : c.machine.stack.frames ≡ Marked 0 ∷ []
  on_stack = ap (λ (s : CallStack). s.frames) marks.stack ∙ ap (λ (fs : List (Frame ℕ)). Marked 0 ∷ fs) bare

  begins : loader_of c ≡ record { stages = replicate members 0; error = 0; promoted = [] }
  begins =
      let by : List ℕ → ℕ → PromotedMembers → LoaderState = λ ss e ps. record { stages = ss; error = e; promoted = ps.list } in
      (λ i. by (stages i) (error i) (promoted i))

  pub opened_at : (D : Loading Units) → OpensAt D members (reverse tasks) w c
  opened_at D s o = record {
    loader = o.loader ∙ sym begins;
    units = o.units;
    space = o.space;
    standing = subst (λ (st : Standing). StandsAs D c s st) (sym marks.goes_on) (o.status, stack);
  }
    where
      frame_is : frame_at c.frames.items 0 ≡ record { tasks = reverse tasks; after = CallEntry }
      frame_is = rw (frames, items, follows) refl

      stack : s.run.stack ≡ marked_stack (frame_at c.frames.items) c.machine.stack.frames
      stack = o.stack ∙ ap (λ (f : LoaderFrame). Marked f ∷ []) (sym frame_is) ∙ ap (λ (fs : List (Frame ℕ)). marked_stack (frame_at c.frames.items) fs) (sym on_stack)

  pub opened_core : IsOver w.fixed w.units w.memory c.machine → All (λ (t : Task). t.member < members) (reverse tasks) → IsSound w.fixed w.units w.memory c
  opened_core over small = record {
    over = over;
    live = subst (λ (st : Standing). IsLive st c.frames.items c.machine.stack.frames) (sym marks.goes_on)
        (subst (λ (fs : List (Frame ℕ)). IsStacked c.frames.items fs) (sym on_stack) (subst (λ (xs : List Pending). IsStacked xs (Marked 0 ∷ [])) (sym frames) one));
    pending = λ i q e. found i q (sym (ap (λ (xs : List Pending). slice_get xs i) frames) ∙ e);
  }
    where
      nothing_under : LiesOver p.after []
      nothing_under = subst (λ (a : After). LiesOver a []) (sym follows) refl

      one : IsStacked (p ∷ []) (Marked 0 ∷ [])
      one = record { some = λ e. cc; marks = (refl, nothing_under, refl) }

      count : length c.stages ≡ members
      count = ap length stages ∙ length-replicate members 0

      first : IsPending (length c.stages) p
      first = record {
        tasks = subst (λ (n : ℕ). All (λ (t : Task). t.member < n) (frame_of p).tasks) (sym count) (subst (λ (ts : List Task). All (λ (t : Task). t.member < members) (reverse ts)) (sym items) small);
        handle = subst (λ (a : After). IsHandle (length c.stages) a) (sym follows) tt;
      }

      found : (i : ℕ) (q : Pending) → slice_get (p ∷ []) i ≡ Some q → IsPending (length c.stages) q
      found zero q e = let same : p ≡ q = cc in subst (λ (x : Pending). IsPending (length c.stages) x) same first
      found (suc i) q e = absurd cc
