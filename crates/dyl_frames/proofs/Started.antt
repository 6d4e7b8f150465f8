-- Whether the entry was called: the frame that calls it lies at the bottom of the call stack, or is gone.
use Rattle.std.proofs.Common.{◌≡◌, ◌⊎◌, inl, inr, ℕ, zero, suc, List, [], ◌∷◌, length, slice_get, Bool, true, false, ◌&&◌, ◌||◌, refl, sym, ap, ◌∙◌, subst}
use Rattle.std.specs.Prelude.{not}
use Rattle.std.specs.List.{list_any}
use Rattle.spec_loading.specs.spec_runtime.Memories.{MemoryInstance}
use Rattle.spec_loading.specs.spec_execution.Views.{View}
use Rattle.spec_loading.specs.spec_execution.Runs.{Frame, Active, Marked}
use Rattle.spec_loading.specs.declared.task.After.{After}
use Rattle.spec_loading.specs.declared.task.After.TheVariants.{CallEntry, GiveHandle, GiveAndPromote}
use Rattle.spec_loading.specs.Phases.{LoaderFrame}
use Rattle.spec_loading.specs.Loading.{Loading, LoadedState}
use Rattle.spec_keeping.specs.Started.{calls_entry, is_startup, goes_on, is_started}
use Rattle.wasm_machine.specs.Marks.{marked_stack, AreMarksOver}
use Rattle.wasm_machine.specs.declared.machine.Standing.{Standing}
use Rattle.wasm_machine.specs.declared.machine.Standing.TheVariants as standing
use Rattle.dyl_frames.specs.declared.frames.Pending.{Pending}
use Rattle.dyl_frames.specs.declared.frames.Core.{Core}
use Rattle.dyl_frames.specs.Cores.{frame_at, LiesOver, LiesUnder, IsStacked, IsLive, IsSound, IsState, StandsAs, stack_of, first_calls}

-- where the entry follows the tasks of a frame, it lies over nothing
entry_bare : (after : After) (frames : List (Frame ℕ)) → LiesOver after frames → calls_entry after ≡ true → frames ≡ []
entry_bare CallEntry frames lies e = lies
entry_bare (GiveHandle m) frames lies e = absurd cc
entry_bare (GiveAndPromote m) frames lies e = absurd cc

or_none : (b : Bool) → (b || false) ≡ b
or_none true = refl
or_none false = refl

module _ (pending : List Pending) where
  abbrev pub starts_in : ℕ → Bool
  starts_in zero = false
  starts_in (suc n) = calls_entry (frame_at pending 0).after

  abbrev seen : List (Frame ℕ) → List (Frame LoaderFrame)
  seen frames = marked_stack (frame_at pending) frames

  -- of the frames on a call stack the first alone may be that one
  pub starts_at : (n : ℕ) (frames : List (Frame ℕ)) → AreMarksOver (LiesUnder pending) n frames → list_any is_startup (seen frames) ≡ starts_in n
  starts_at zero [] marks = refl
  starts_at (suc n) [] marks = absurd cc
  starts_at zero (Active a ∷ frames) marks = starts_at zero frames marks
  starts_at (suc n) (Active a ∷ frames) marks = starts_at (suc n) frames marks
  starts_at zero (Marked tag ∷ frames) marks = absurd marks
  starts_at (suc zero) (Marked tag ∷ frames) marks =
      let under = starts_at zero frames marks.2 in
      ap (λ (b : Bool). calls_entry (frame_at pending tag).after || b) under
      ∙ or_none (calls_entry (frame_at pending tag).after)
      ∙ ap (λ (k : ℕ). calls_entry (frame_at pending k).after) marks.0
  starts_at (suc (suc n)) (Marked tag ∷ frames) marks = go (starts_at (suc n) frames marks.2) (calls_entry (frame_at pending tag).after) refl
    where
      bare : calls_entry (frame_at pending tag).after ≡ true → frames ≡ []
      bare e =
          let same : calls_entry (frame_at pending (suc n)).after ≡ true = sym (ap (λ (k : ℕ). calls_entry (frame_at pending k).after) marks.0) ∙ e in
          entry_bare (frame_at pending (suc n)).after frames marks.1 same

      go : list_any is_startup (seen frames) ≡ starts_in (suc n) → (b : Bool) → calls_entry (frame_at pending tag).after ≡ b → (calls_entry (frame_at pending tag).after || list_any is_startup (seen frames)) ≡ starts_in (suc (suc n))
      go under true e =
          let none : AreMarksOver (LiesUnder pending) (suc n) [] = subst (AreMarksOver (LiesUnder pending) (suc n)) (bare e) marks.2 in
          absurd cc
      go under false e = ap (λ (b : Bool). b || list_any is_startup (seen frames)) e ∙ under

pub starts_first : (pending : List Pending) → starts_in pending (length pending) ≡ first_calls (slice_get pending 0)
starts_first [] = refl
starts_first (p ∷ ps) = refl

-- a machine that goes on or waits
abbrev pub IsGoing : Standing → Type 0
IsGoing st = (st ≡ standing.Moving) ⊎ ((entry : ℕ) × (count : ℕ) × (st ≡ standing.Asking entry count))

module _ {Units : Type 0} (D : Loading Units) (V : View Units) (us : Units) (memory : MemoryInstance) (c : Core) (sound : IsSound V us memory c) (s : LoadedState Units) (k : IsState D c us memory s) where
  -- by whether the frame that calls the entry is there
  by_stack : goes_on s.run.status ≡ true → s.run.stack ≡ stack_of c → IsStacked c.frames.items c.machine.stack.frames → not (first_calls (slice_get c.frames.items 0)) ≡ is_started s
  by_stack goes stack live =
      let found : list_any is_startup s.run.stack ≡ first_calls (slice_get c.frames.items 0) =
      ap (list_any is_startup) stack ∙ starts_at c.frames.items (length c.frames.items) c.machine.stack.frames live.marks ∙ starts_first c.frames.items in
      sym (ap (λ (b : Bool). b && not (list_any is_startup s.run.stack)) goes ∙ ap not found)

  pub started_by : (b : Bool) → b ≡ first_calls (slice_get c.frames.items 0) → IsGoing c.machine.standing → not b ≡ is_started s
  started_by b is (inl moving) =
      let at = subst (StandsAs D c s) moving k.standing in
      ap not is ∙ by_stack (ap goes_on at.0) at.1 (subst (λ (st : Standing). IsLive st c.frames.items c.machine.stack.frames) moving sound.live)
  started_by b is (inr asking) =
      let at = subst (StandsAs D c s) asking.2 k.standing in
      ap not is ∙ by_stack (ap goes_on at.1) at.3 (subst (λ (st : Standing). IsLive st c.frames.items c.machine.stack.frames) asking.2 sound.live)

  none : goes_on s.run.status ≡ false → is_started s ≡ false
  none e = ap (λ (b : Bool). b && not (list_any is_startup s.run.stack)) e

  -- one that doesn't go on
  pub not_started : (st : Standing) → (st ≡ standing.Moving → ⊥) → ((entry count : ℕ) → st ≡ standing.Asking entry count → ⊥) → StandsAs D c s st → false ≡ is_started s
  not_started standing.Moving moving asking at = absurd (moving refl)
  not_started (standing.Asking entry count) moving asking at = absurd (asking entry count refl)
  not_started standing.Loading moving asking at = absurd at
  not_started standing.Returned moving asking at = sym (none (ap goes_on at))
  not_started (standing.Trapped why) moving asking at = sym (none (ap goes_on at))
  not_started (standing.Exited code) moving asking at = sym (none (ap goes_on at))
  not_started standing.Lost moving asking at = absurd at
