-- What a machine that waits is given, and marks that are put and taken away: the machine stands over its view afterwards.
use Rattle.std.proofs.Common.{arith, ◌≡◌, ◌≢◌, ◌⊎◌, inl, inr, ◌<◌, ◌^◌, ℕ, List, [], ◌∷◌, length, map, drop, refl, ap, sym, subst, ◌∙◌, Option, Some, true}
use Rattle.std.specs.Prelude.{IfSome, IsTrue, reverse}
use Rattle.std.proofs.lemmas.Bool.{false≢true, and_parts, lt-ltb}
use Rattle.wasm_form.specs.declared.types.ValType.{ValType}
use Rattle.wasm_form.specs.declared.types.ValType.TheVariants.{I32}
use Rattle.wasm_form.specs.declared.types.FuncType.{FuncType}
use Rattle.wasm_form.specs.declared.runtime.Value.{Value}
use Rattle.wasm_form.specs.declared.runtime.Value.TheVariants.{Num}
use Rattle.wasm_form.specs.declared.runtime.Write.{Write}
use Rattle.wasm_form.specs.declared.runtime.Answer.TheVariants.{Reply}
use Rattle.spec_safety.specs.spec_runtime.Memories.{MemoryInstance}
use Rattle.spec_safety.specs.spec_runtime.Hosts.{number_fits, numbers_fit, writes_fit, fits_results, all_written}
use Rattle.spec_safety.specs.spec_execution.Views.{View}
use Rattle.spec_safety.specs.spec_execution.Limits.{activations}
use Rattle.spec_safety.specs.spec_execution.Runs.{Frame, Active, Marked, given}
use Rattle.wasm_machine.specs.Stacks.{CallStack}
use Rattle.wasm_machine.specs.Machines.{MachineState, HaveLocals, on_tag, StackFits, IsAsked, IsOver, FitsAnswer, IsExpecting, Received, MayMark, Marks, IsMarked, Unmarks, waits_under}
use Rattle.wasm_machine.specs.declared.machine.Standing.{Standing}
use Rattle.wasm_machine.specs.declared.machine.Standing.TheVariants as standing
use Rattle.spec_safety.specs.ValueTypes.{IsOfBytes, IsMemory}
use Rattle.spec_safety.specs.TypedViews.{HoldTypes, IsSoundView}
use Rattle.spec_safety.specs.TypedFrames.{Stand}
use Rattle.spec_safety.proofs.HeldValues.{have_reverse}
use Rattle.spec_safety.proofs.KeptMemories.{writes_kept}
use Rattle.spec_safety.proofs.ModuleSteps.{results_typed}
use Rattle.spec_safety.proofs.SoundSteps.{given_stand}
use Rattle.wasm_machine.proofs.Depths.{room_in, rooms_given}
use Rattle.wasm_machine.proofs.Locals.{locals_given}

-- as many numbers fit as there are types
numbers_count : (ts : List ValType) (ns : List ℕ) → numbers_fit ts ns ≡ true → length ts ≡ length ns
numbers_count [] [] h = omega arith
numbers_count [] (n ∷ ns) h = absurd (false≢true h)
numbers_count (t ∷ ts) [] h = absurd (false≢true h)
numbers_count (t ∷ ts) (n ∷ ns) h = let p = and_parts (number_fits t n) (numbers_fit ts ns) h in let e : length ts ≡ length ns = numbers_count ts ns p.1 in omega arith

module _ {Units : Type 0} (V : View Units) where
  fits_at : (o : Option FuncType) (ty : FuncType) (memory : MemoryInstance) (results : List ℕ) (writes : List Write) → o ≡ Some ty → IfSome o (λ f. IsTrue (fits_results f.results memory (Reply results writes)))
      → (length ty.results ≡ length results) × IsTrue (writes_fit writes memory)
  fits_at o ty memory results writes e h =
      let p = and_parts (numbers_fit ty.results results) (writes_fit writes memory) (rw e at h) in
      (numbers_count ty.results results p.0, p.1)

  pub reply_fits : (s : Standing) (stack : CallStack) (memory : MemoryInstance) (results : List ℕ) (writes : List Write) → IsAsked V s → FitsAnswer V memory (Reply results writes) s
      → IsExpecting (record { stack = stack; standing = s }) (length results) × IsTrue (writes_fit writes memory)
  reply_fits (standing.Asking entry count) stack memory results writes a f =
      let p = fits_at (V.host entry) a.0 memory results writes a.1 f in
      (sym a.2 ∙ p.0, p.1)
  reply_fits standing.Moving stack memory results writes a f = absurd f
  reply_fits standing.Loading stack memory results writes a f = absurd f
  reply_fits standing.Returned stack memory results writes a f = absurd f
  reply_fits (standing.Trapped why) stack memory results writes a f = absurd f
  reply_fits (standing.Exited code) stack memory results writes a f = absurd f
  reply_fits standing.Lost stack memory results writes a f = absurd f

  -- the results are of the types that are waited for
  typed_at : (o : Option FuncType) (ty : FuncType) (memory : MemoryInstance) (results : List ℕ) (writes : List Write) → o ≡ Some ty → IfSome o (λ f. IsTrue (fits_results f.results memory (Reply results writes))) → numbers_fit ty.results results ≡ true
  typed_at o ty memory results writes e h = (and_parts (numbers_fit ty.results results) (writes_fit writes memory) (rw e at h)).0

  -- the call stack takes numbers of these types
  reply_stands : (s : Standing) (frames : List (Frame ℕ)) (memory : MemoryInstance) (results : List ℕ) (writes : List Write) → StackFits V s frames → FitsAnswer V memory (Reply results writes) s
      → (types : List ValType) × (numbers_fit types results ≡ true) × Stand V V.names on_tag frames (reverse types)
  reply_stands (standing.Asking entry count) frames memory results writes st f = (st.0.results, typed_at (V.host entry) st.0 memory results writes st.1 f, st.3)
  reply_stands standing.Moving frames memory results writes st f = absurd f
  reply_stands standing.Loading frames memory results writes st f = absurd f
  reply_stands standing.Returned frames memory results writes st f = absurd f
  reply_stands (standing.Trapped why) frames memory results writes st f = absurd f
  reply_stands (standing.Exited code) frames memory results writes st f = absurd f
  reply_stands standing.Lost frames memory results writes st f = absurd f

  module _ (us : Units) (memory : MemoryInstance) (view : IsSoundView V) (holds : HoldTypes V V.names us) (is : IsMemory memory) (results : List ℕ) (types : List ValType) (typed : numbers_fit types results ≡ true) (new : MachineState) where
    received_at : (frames : List (Frame ℕ)) (rooms : List ℕ) → Stand V V.names on_tag frames (reverse types) → HaveLocals V frames → rooms ≡ map (room_in V) (activations frames) → Received frames results new → new.stack.rooms ≡ rooms → IsOver V us memory new
    received_at [] rooms st l e h q = record {
      view = view;
      units = holds;
      memory = is;
      stack = rw h.standing_is tt;
      locals = rw h.frames_are tt;
      rooms = q ∙ e ∙ ap (λ (fs : List (Frame ℕ)). map (room_in V) (activations fs)) (sym h.frames_are);
      asked = rw h.standing_is tt;
    }
    received_at (f ∷ frames) rooms st l e h q =
        let values : List Value = reverse (map Num results) in
        let stands : Stand V V.names on_tag (given values f ∷ frames) [] =
        given_stand V V.names (HoldTypes V V.names) on_tag view.typed f frames (reverse types) values st (have_reverse V types (map Num results) (results_typed V types results typed)) in
        record {
          view = view;
          units = holds;
          memory = is;
          stack = rw (h.standing_is, h.frames_are) stands;
          locals = rw h.frames_are (locals_given V values f frames l);
          rooms = q ∙ e ∙ sym (rooms_given V values f frames) ∙ ap (λ (fs : List (Frame ℕ)). map (room_in V) (activations fs)) (sym h.frames_are);
          asked = rw h.standing_is tt;
        }

  -- the answer of a host function
  pub replied_over : (us : Units) (memory : MemoryInstance) (results : List ℕ) (writes : List Write) (old new : MachineState) → IsOver V us memory old → FitsAnswer V memory (Reply results writes) old.standing → IsOfBytes (Reply results writes)
      → Received old.stack.frames results new → new.stack.rooms ≡ old.stack.rooms → IsOver V us (all_written writes memory) new
  replied_over us memory results writes old new o f bytes h q =
      let r = reply_stands old.standing old.stack.frames memory results writes o.stack f in
      let fit : writes_fit writes memory ≡ true = (reply_fits old.standing old.stack memory results writes o.asked f).1 in
      received_at us (all_written writes memory) o.view o.units (writes_kept writes memory fit bytes o.memory) results r.0 r.1 new old.stack.frames old.stack.rooms r.2 o.locals o.rooms h q

  -- the result of a function of the loader
  pub given_over : (us : Units) (memory : MemoryInstance) (value : ℕ) (old new : MachineState) → value < 2 ^ 32 → old.standing ≡ standing.Loading → IsOver V us memory old → Received old.stack.frames (value ∷ []) new → new.stack.rooms ≡ old.stack.rooms
      → IsOver V us memory new
  given_over us memory value old new small loading o h q =
      let st : Stand V V.names on_tag old.stack.frames (I32 ∷ []) = subst (λ s. StackFits V s old.stack.frames) loading o.stack in
      received_at us memory o.view o.units o.memory (value ∷ []) (I32 ∷ []) (fits value small) new old.stack.frames old.stack.rooms st o.locals o.rooms h q
    where
      fits : (n : ℕ) → n < 2 ^ 32 → numbers_fit (I32 ∷ []) (n ∷ []) ≡ true
      fits n l = rw (lt-ltb n (2 ^ 32) l) refl

-- ---- marks

module _ {Units : Type 0} (V : View Units) (us : Units) (memory : MemoryInstance) where
  marks_at : (tag : ℕ) (rooms : List ℕ) (frames : List (Frame ℕ)) (s : Standing) → s ≢ standing.Lost → StackFits V s frames → MayMark (record { stack = record { frames = frames; rooms = rooms }; standing = s }) → Stand V V.names on_tag (Marked tag ∷ frames) []
  marks_at tag rooms frames standing.Moving found f may = (refl, inl may)
  marks_at tag rooms frames standing.Loading found f may = (refl, inr f)
  marks_at tag rooms frames standing.Lost found f may = absurd (found refl)
  marks_at tag rooms frames (standing.Asking entry count) found f may = absurd may
  marks_at tag rooms frames standing.Returned found f may = absurd may
  marks_at tag rooms frames (standing.Trapped why) found f may = absurd may
  marks_at tag rooms frames (standing.Exited code) found f may = absurd may

  pub marks_over : (tag : ℕ) (old new : MachineState) → IsOver V us memory old → MayMark old → Marks tag old new → IsOver V us memory new
  marks_over tag old new o may m = record {
    view = o.view;
    units = o.units;
    memory = o.memory;
    stack = rw (m.goes_on, m.stack) (marks_at tag old.stack.rooms old.stack.frames old.standing m.found o.stack may);
    locals = rw m.stack o.locals;
    rooms = rw m.stack o.rooms;
    asked = rw m.goes_on tt;
  }

  asked_under : (frames : List (Frame ℕ)) → IsAsked V (waits_under frames)
  asked_under [] = tt
  asked_under (Active a ∷ frames) = tt
  asked_under (Marked tag ∷ frames) = tt

  -- what lies under a mark fits what the machine is at again
  under_fits : (frames : List (Frame ℕ)) → (frames ≡ []) ⊎ Stand V V.names on_tag frames (I32 ∷ []) → StackFits V (waits_under frames) frames
  under_fits [] f = refl
  under_fits (Active a ∷ frames) (inl e) = absurd cc
  under_fits (Active a ∷ frames) (inr st) = st
  under_fits (Marked tag ∷ frames) (inl e) = absurd cc
  under_fits (Marked tag ∷ frames) (inr st) = absurd (let e = st.0 in cc)

  -- so much is kept under a mark
  abbrev IsKeptUnder : List (Frame ℕ) → List ℕ → Type 0
  IsKeptUnder frames rooms = StackFits V (waits_under frames) frames × HaveLocals V frames × (rooms ≡ map (room_in V) (activations frames))

  kept_under : (frames : List (Frame ℕ)) (rooms : List ℕ) (s : Standing) → IsMarked (record { stack = record { frames = frames; rooms = rooms }; standing = s }) → StackFits V s frames → HaveLocals V frames → rooms ≡ map (room_in V) (activations frames)
      → IsKeptUnder (drop 1 frames) rooms
  kept_under [] rooms s h f l e = absurd h.1
  kept_under (Active a ∷ frames) rooms s h f l e = absurd h.1
  kept_under (Marked tag ∷ frames) rooms s h f l e =
      let fit : StackFits V standing.Moving (Marked tag ∷ frames) = subst (λ x. StackFits V x (Marked tag ∷ frames)) h.0 f in
      (under_fits frames fit.1, l, e)

  pub unmarks_over : (old new : MachineState) → IsOver V us memory old → IsMarked old → Unmarks old new → IsOver V us memory new
  unmarks_over old new o h u =
      let w = kept_under old.stack.frames old.stack.rooms old.standing h o.stack o.locals o.rooms in
      record {
        view = o.view;
        units = o.units;
        memory = o.memory;
        stack = rw (u.waits, u.stack) w.0;
        locals = rw u.stack w.1;
        rooms = rw u.stack w.2;
        asked = rw u.waits (asked_under (drop 1 old.stack.frames));
      }
