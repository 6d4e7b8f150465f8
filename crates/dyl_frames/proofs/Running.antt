-- Many steps of the machine are steps of the run.
use Rattle.std.proofs.Common.{◌≡◌, ◌≢◌, inl, inr, ℕ, zero, suc, refl, ap, sym, ◌∙◌, subst}
use Rattle.spec_loading.specs.spec_runs.Systems.{Moving}
use Rattle.wasm_step.specs.Moves.{AreSame, between}
use Rattle.wasm_step.specs.declared.done.Done.{Done}
use Rattle.wasm_step.specs.declared.done.Done.TheVariants as done
use Rattle.wasm_view.specs.Seen.{Seen}
use Rattle.wasm_machine.specs.Machines.{MachineState, IsOver, Point, at_point, passed, GoesOn, Runs}
use Rattle.wasm_machine.specs.Iterated.{Iterated}
use Rattle.wasm_machine.specs.declared.machine.Standing.TheVariants as standing
use Rattle.wasm_machine.proofs.Stepping.{stepped_on}
use Rattle.spec_loading.specs.Loading.{Loading, LoadedState}
use Rattle.dyl_frames.specs.declared.frames.Core.{Core}
use Rattle.dyl_frames.specs.Cores.{IsLoaded, IsCore, IsState, CodeStep, StopsAt, RunsFrom}
use Rattle.dyl_frames.proofs.CodeSteps.{with_machine, state_moving, same_state, same_core, quick_from, quick_core}
use Rattle.dyl_frames.proofs.FewFrames.{few_quick, few_same}

module _ {Units : Type 0} (w : Seen Units) (c : Core) (h : IsCore w.fixed w.units w.memory c) (moving : c.machine.standing ≡ standing.Moving) where
  abbrev seen_at : Point Units → Seen Units
  seen_at p = record { fixed = w.fixed; units = p.units; memory = p.memory }

  abbrev core_at : Point Units → Core
  core_at p = with_machine c p.machine

  -- the core stands at a point after so many steps, and goes on
  record IsThere (n : ℕ) (p : Point Units) : Type 0 where
    pub core : IsCore w.fixed p.units p.memory (core_at p)
    pub goes : p.machine.standing ≡ standing.Moving
    pub stands : (D : Loading Units) → IsLoaded D w.fixed → (s : LoadedState Units) → IsState D c w.units w.memory s
        → (u : LoadedState Units) × Iterated (CodeStep D) n s u × IsState D (core_at p) p.units p.memory u

  there : (n : ℕ) (p : Point Units) → Iterated (GoesOn w.fixed) n (at_point c.machine w) p → IsThere n p
  there zero p same = subst (IsThere zero) (sym same) (record { core = h; goes = moving; stands = λ D loaded s k. (s, refl, k) })
  there (suc n) p made =
      let r = made.0 in
      let a = there n r made.1 in
      let found : done.Goes ≢ done.NoMemory = λ e. cc in
      record {
        core = record {
          sound = quick_core (seen_at r) (seen_at p) (core_at r) p.machine a.core.sound a.goes done.Goes made.2.0 made.2.1 found;
          few = few_quick (core_at r) a.core.few w.fixed p.machine (passed r p) done.Goes made.2.0 found;
        };
        goes = (stepped_on w.fixed r.machine p.machine (passed r p) made.2.0).1;
        stands = λ D loaded s k.
            let b = a.stands D loaded s k in
            let q = quick_from D (seen_at r) (seen_at p) loaded (core_at r) p.machine a.core.sound a.goes made.2.1 done.Goes made.2.0 b.0 b.2 in
            let t = q.2.1 in
            (t.0, (b.0, b.1, (q.1, q.2.0, t.1, (state_moving D (core_at p) p.units p.memory t.0 t.3 q.0).0)), t.3);
      }

  module _ (w' : Seen Units) (n : ℕ) (d : Done) (m : MachineState) (over : IsOver w.fixed w'.units w'.memory m) (runs : Runs w.fixed n d (at_point c.machine w) (at_point m w')) where
    last : IsThere n runs.0
    last = there n runs.0 runs.1

    -- no step more was made
    module _ (same : at_point m w' ≡ runs.0) where
      same_machine : m ≡ runs.0.machine
      same_machine = ap (λ (p : Point Units). p.machine) same

      same_rest : AreSame (between (seen_at runs.0) w')
      same_rest = (ap (λ (p : Point Units). p.units) same, ap (λ (p : Point Units). p.memory) same)

    pub runs_from : (D : Loading Units) → IsLoaded D w.fixed → RunsFrom D n d c w (with_machine c m) w'
    runs_from D loaded s k =
        let b = last.stands D loaded s k in (
          b.0,
          b.1,
          elim runs.2 as (λ _. StopsAt D d b.0 (with_machine c m) w'.units w'.memory) [
            | inl q ↦ inl (
              q.0,
              ap (λ (x : MachineState). x.standing) (same_machine q.1) ∙ last.goes,
              same_state D (core_at runs.0) m runs.0.units w'.units runs.0.memory w'.memory (same_machine q.1) (same_rest q.1) b.0 b.2,
            )
            | inr q ↦ inr (q.0, quick_from D (seen_at runs.0) w' loaded (core_at runs.0) m last.core.sound last.goes over d q.1 b.0 b.2)
          ],
        )

    pub runs_core : d ≢ done.NoMemory → IsCore w.fixed w'.units w'.memory (with_machine c m)
    runs_core found = elim runs.2 as (λ _. IsCore w.fixed w'.units w'.memory (with_machine c m)) [
      | inl q ↦ record {
        sound = same_core w.fixed (core_at runs.0) m runs.0.units w'.units runs.0.memory w'.memory last.core.sound (same_machine q.1) (same_rest q.1);
        few = few_same (core_at runs.0) last.core.few m (same_machine q.1);
      }
      | inr q ↦ record {
        sound = quick_core (seen_at runs.0) w' (core_at runs.0) m last.core.sound last.goes d q.1 over found;
        few = few_quick (core_at runs.0) last.core.few w.fixed m (passed runs.0 (at_point m w')) d q.1 found;
      }
    ]
