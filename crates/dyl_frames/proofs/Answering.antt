-- An answer of a host function is taken by the machine as by the run.
use Rattle.std.proofs.Common.{◌≡◌, ℕ, List, [], ◌∷◌, refl, ap, sym, ◌∙◌, subst, length, map}
use Rattle.std.specs.Prelude.{reverse}
use Rattle.spec_loading.specs.wasm_form.declared.runtime.Answer.{Answer}
use Rattle.spec_loading.specs.wasm_form.declared.runtime.Answer.TheVariants.{Reply, Exit}
use Rattle.spec_loading.specs.wasm_form.declared.runtime.Value.{Value}
use Rattle.spec_loading.specs.wasm_form.declared.runtime.Value.TheVariants.{Num}
use Rattle.spec_loading.specs.spec_runtime.Memories.{MemoryInstance}
use Rattle.spec_loading.specs.spec_runtime.Hosts.{all_written}
use Rattle.spec_loading.specs.spec_execution.Views.{View}
use Rattle.spec_loading.specs.spec_execution.Runs.{Frame, Active, Marked, State, given, returned, stands, taken}
use Rattle.spec_loading.specs.spec_runs.Systems.{Exited}
use Rattle.wasm_view.specs.Seen.{Seen}
use Rattle.wasm_step.specs.Moves.{between}
use Rattle.wasm_machine.specs.Machines.{MachineState, IsOver, StandsAt, FitsAnswer, Received, Answered}
use Rattle.wasm_machine.specs.Marks.{marked_stack, AreMarksOver}
use Rattle.wasm_machine.specs.declared.machine.Standing.{Standing}
use Rattle.wasm_machine.specs.declared.machine.Standing.TheVariants as standing
use Rattle.wasm_machine.proofs.Under.{given_over}
use Rattle.spec_loading.specs.Phases.{LoaderFrame}
use Rattle.spec_loading.specs.Loading.{Loading, LoadedState, with_run}
use Rattle.dyl_frames.specs.declared.frames.Core.{Core}
use Rattle.dyl_frames.specs.declared.frames.Pending.{Pending}
use Rattle.dyl_frames.specs.Cores.{frame_at, LiesUnder, IsStacked, IsLive, IsSound, loader_of, IsState, StandsAs, TakenFrom, FitsHost}
use Rattle.dyl_frames.proofs.CodeSteps.{with_machine}

-- a host function is waited for
pub asking : {Units : Type 0} (V : View Units) (memory : MemoryInstance) (a : Answer) (st : Standing) → FitsHost V memory a st → (entry count : ℕ) × (st ≡ standing.Asking entry count)
asking V memory a (standing.Asking entry count) fits = (entry, count, refl)
asking V memory a st fits = absurd fits

pub fits_answer : {Units : Type 0} (V : View Units) (memory : MemoryInstance) (a : Answer) (st : Standing) → FitsHost V memory a st → FitsAnswer V memory a st
fits_answer V memory a (standing.Asking entry count) fits = fits
fits_answer V memory a st fits = absurd fits

module _ {Units : Type 0} (D : Loading Units) (c : Core) (n : MachineState) (us : Units) (memory : MemoryInstance) (s : LoadedState Units) (loader : s.loader ≡ loader_of c) (units : s.run.units ≡ us) where
  abbrev values_of : List ℕ → List Value
  values_of results = reverse (map Num results)

  module _ (results : List ℕ) (run : State Units LoaderFrame) (same : run.units ≡ us) (space : run.memory ≡ memory) where
    abbrev after : List (Frame LoaderFrame) → LoadedState Units
    after frames = with_run s (returned run (values_of results) frames)

    goes : (f : Frame LoaderFrame) (fs : List (Frame LoaderFrame)) (frames : List (Frame ℕ)) → given (values_of results) f ∷ fs ≡ marked_stack (frame_at c.frames.items) frames → StandsAt n frames standing.Moving
        → IsState D (with_machine c n) us memory (after (f ∷ fs))
    goes f fs frames stack at = record {
      loader = loader;
      units = same;
      space = space;
      standing = subst (λ (st : Standing). StandsAs D (with_machine c n) (after (f ∷ fs)) st) (sym at.standing_is)
          (refl, stack ∙ ap (λ (xs : List (Frame ℕ)). marked_stack (frame_at c.frames.items) xs) (sym at.frames_are));
    }

    pub received : (frames : List (Frame ℕ)) → Received frames results n → IsState D (with_machine c n) us memory (after (marked_stack (frame_at c.frames.items) frames))
    received [] at = record {
      loader = loader;
      units = same;
      space = space;
      standing = subst (λ (st : Standing). StandsAs D (with_machine c n) (after []) st) (sym at.standing_is) refl;
    }
    received (Active a ∷ frames) at = goes (Active a) (marked_stack (frame_at c.frames.items) frames) (given (values_of results) (Active a) ∷ frames) refl at
    received (Marked tag ∷ frames) at = goes (Marked (frame_at c.frames.items tag)) (marked_stack (frame_at c.frames.items) frames) (given (values_of results) (Marked tag) ∷ frames) refl at

  exited : (code : ℕ) → s.run.memory ≡ memory → StandsAt n [] (standing.Exited code) → IsState D (with_machine c n) us memory (with_run s (stands s.run [] (Exited code)))
  exited code space at = record {
    loader = loader;
    units = units;
    space = space;
    standing = subst (λ (st : Standing). StandsAs D (with_machine c n) (with_run s (stands s.run [] (Exited code))) st) (sym at.standing_is) refl;
  }

pub taken_from : {Units : Type 0} (D : Loading Units) (w w' : Seen Units) (c : Core) (n : MachineState) (a : Answer) → FitsHost w.fixed w.memory a c.machine.standing → Answered a c.machine n (between w w') → TakenFrom D a c w (with_machine c n) w'
taken_from {Units} D w w' c n a fits t s k = go a fits t
  where
    go : (x : Answer) → FitsHost w.fixed w.memory x c.machine.standing → Answered x c.machine n (between w w') → IsState D (with_machine c n) w'.units w'.memory (with_run s (taken x s.run))
    go (Reply results writes) fits t =
        let at = asking w.fixed w.memory (Reply results writes) c.machine.standing fits in
        let st = subst (λ (x : Standing). StandsAs D c s x) at.2 k.standing in
        let run : State Units LoaderFrame = record s.run { memory = all_written writes s.run.memory } in
        let space : all_written writes s.run.memory ≡ w'.memory = ap (all_written writes) k.space ∙ sym t.2 in
        subst (λ (fs : List (Frame LoaderFrame)). IsState D (with_machine c n) w'.units w'.memory (with_run s (returned run (reverse (map Num results)) fs))) (sym st.3)
        (received D c n w'.units w'.memory s k.loader (k.units ∙ sym t.1) results run (k.units ∙ sym t.1) space c.machine.stack.frames t.0)
    go (Exit code) fits t = exited D c n w'.units w'.memory s k.loader (k.units ∙ sym t.1.0) code (k.space ∙ sym t.1.1) t.0

-- ---- the core

pub live_after : (ps : List Pending) (frames : List (Frame ℕ)) (results : List ℕ) (new : MachineState) → AreMarksOver (LiesUnder ps) (length ps) frames → Received frames results new → IsLive new.standing ps new.stack.frames
live_after ps [] results new marks at = subst (λ (st : Standing). IsLive st ps new.stack.frames) (sym at.standing_is) tt
live_after ps (f ∷ frames) results new marks at =
    let values : List Value = reverse (map Num results) in
    let there : IsStacked ps (given values f ∷ frames) = record { some = λ e. cc; marks = given_over (LiesUnder ps) (length ps) values f frames marks } in
    subst (λ (st : Standing). IsLive st ps new.stack.frames) (sym at.standing_is) (subst (λ (fs : List (Frame ℕ)). IsStacked ps fs) (sym at.frames_are) there)

pub taken_core : {Units : Type 0} (w w' : Seen Units) (c : Core) (n : MachineState) (a : Answer) → IsSound w.fixed w.units w.memory c → FitsHost w.fixed w.memory a c.machine.standing → Answered a c.machine n (between w w') → IsOver w.fixed w'.units w'.memory n
    → IsSound w.fixed w'.units w'.memory (with_machine c n)
taken_core w w' c n a h fits t over = record { over = over; live = go a fits t; pending = h.pending }
  where
    go : (x : Answer) → FitsHost w.fixed w.memory x c.machine.standing → Answered x c.machine n (between w w') → IsLive n.standing c.frames.items n.stack.frames
    go (Reply results writes) fits t =
        let at = asking w.fixed w.memory (Reply results writes) c.machine.standing fits in
        let live : IsStacked c.frames.items c.machine.stack.frames = subst (λ (x : Standing). IsLive x c.frames.items c.machine.stack.frames) at.2 h.live in
        live_after c.frames.items c.machine.stack.frames results n live.marks t.0
    go (Exit code) fits t = subst (λ (st : Standing). IsLive st c.frames.items n.stack.frames) (sym t.0.standing_is) tt
