-- The call stack over the flat lists, with an activation more.
use Rattle.std.proofs.Common.{arith, ◌≡◌, ℕ, ◌+◌, ◌≤◌, List, [], ◌∷◌, ◌++◌, length, drop, map, refl, ◌∙◌, true, false}
use Rattle.std.specs.Prelude.{reverse}
use Rattle.std.proofs.lemmas.List.{reverse-append}
use Rattle.wasm_form.specs.declared.module.Code.{Code}
use Rattle.spec_safety.specs.spec_execution.Activations.{Activation, with_values}
use Rattle.spec_safety.specs.spec_execution.Views.{View}
use Rattle.spec_safety.specs.spec_execution.Runs.{Active}
use Rattle.spec_safety.specs.spec_execution.Limits.{most_activations, most_values, room_of, activations}
use Rattle.wasm_step.specs.Tops.{Top, with_act}
use Rattle.wasm_step.specs.Primitives.{with_rest, begun, Opened, Started}
use Rattle.wasm_machine.specs.Stacks.{rooms_at, total, most_blocks, is_live, under_of, joined, IsJoined}
use Rattle.wasm_machine.specs.Machines.{RoomsAre, past_call}
use Rattle.wasm_step.specs.declared.current.Place.{Place}
use Rattle.wasm_machine.specs.declared.callers.Caller.{Caller}
use Rattle.wasm_machine.specs.declared.callers.Caller.TheVariants as caller
use Rattle.wasm_machine.proofs.OnTop.{LieWell_more, live_is}

-- ---- what is on top

module _ (cs : List Caller) (t : Top) (live : is_live t ≡ true) where
  pub frames_live : (joined cs t).frames ≡ Active t.act ∷ under_of cs t
  frames_live = rw live refl

  pub nesting_live : IsJoined cs t → t.nesting ≡ most_blocks
  nesting_live j = rw live at j.top

  pub RoomsAre_live : {Units : Type 0} (V : View Units) → RoomsAre V (joined cs t) → t.room ∷ rooms_at (reverse cs) ≡ room_of V t.act.unit t.act.func ∷ map (λ (a : Activation). room_of V a.unit a.func) (activations (under_of cs t))
  RoomsAre_live V h = rw live at h

module _ (cs : List Caller) (t : Top) (idle : is_live t ≡ false) where
  pub RoomsAre_idle : {Units : Type 0} (V : View Units) → RoomsAre V (joined cs t) → rooms_at (reverse cs) ≡ map (λ (a : Activation). room_of V a.unit a.func) (activations (under_of cs t))
  RoomsAre_idle V h = rw idle at h

-- ---- a call

pub past_is : (t u w : Top) (n : ℕ) → u ≡ with_act t (with_rest t.act (drop 1 t.act.rest)) → w ≡ with_act u (with_values u.act (drop n u.act.values)) → w ≡ with_act t (past_call t.act n)
past_is t u w n e f = rw e at f

-- the activation on top, which is t with other code or values, called code, and lies under it
module _ (cs ds : List Caller) (t u new : Top) (a : Activation) (unit func room params results : ℕ) (c : Code) (p : Place) (live : is_live t ≡ true) (eu : u ≡ with_act t a) (o : Opened u new unit func room params results c p) (ed : ds ≡ cs ++ caller.Active p ∷ []) where
  opened : Opened (with_act t a) new unit func room params results c p
  opened = rw eu at o

  pub frames_opened : (joined ds new).frames ≡ Active (begun unit func params results c a.values) ∷ Active (with_values a (drop params a.values)) ∷ under_of cs t
  frames_opened =
      let q : is_live new ≡ true = live_is new opened.nesting_taken in
      rw (q, ed, reverse-append, opened.act, opened.saved.caller, opened.saved.under, opened.saved.outer) refl

  pub rooms_opened : (joined ds new).rooms ≡ room ∷ t.room ∷ rooms_at (reverse cs)
  rooms_opened =
      let q : is_live new ≡ true = live_is new opened.nesting_taken in
      rw (q, ed, reverse-append, opened.room_taken, opened.saved.place_room) refl

  pub joined_opened : IsJoined cs t → length (rooms_at (reverse cs)) + 2 ≤ most_activations → total (rooms_at (reverse cs)) + t.room + room ≤ most_values → IsJoined ds new
  joined_opened j m n =
      let q : is_live new ≡ true = live_is new opened.nesting_taken in
      record {
        lies = rw (ed, reverse-append) (
          record {
            laid = opened.saved.laid;
            kept = opened.saved.kept;
            live = opened.saved.place_nesting ∙ nesting_live cs t live j;
          },
          rw (opened.saved.under, opened.saved.outer) (LieWell_more (reverse cs) t.under t.outer t.capacity t.label_capacity new.capacity new.label_capacity j.lies opened.saved.more opened.saved.more_labels),
        );
        top = rw q opened.nesting_taken;
        bounded = record { activations = rw rooms_opened (omega arith); values = rw rooms_opened (omega arith) };
      }

-- the first activation over a mark or nothing
module _ (cs : List Caller) (t new : Top) (unit func room results : ℕ) (c : Code) (idle : is_live t ≡ false) (o : Started t new unit func room results c) where
  pub frames_started : (joined cs new).frames ≡ Active (begun unit func 0 results c []) ∷ under_of cs t
  frames_started =
      let q : is_live new ≡ true = live_is new o.nesting_taken in
      rw (q, o.act, o.under, o.outer) refl

  pub rooms_started : (joined cs new).rooms ≡ room ∷ rooms_at (reverse cs)
  rooms_started =
      let q : is_live new ≡ true = live_is new o.nesting_taken in
      rw (q, o.room_taken) refl

  pub joined_started : IsJoined cs t → length (rooms_at (reverse cs)) + 1 ≤ most_activations → total (rooms_at (reverse cs)) + room ≤ most_values → IsJoined cs new
  joined_started j m n =
      let q : is_live new ≡ true = live_is new o.nesting_taken in
      record {
        lies = rw (o.under, o.outer) (LieWell_more (reverse cs) t.under t.outer t.capacity t.label_capacity new.capacity new.label_capacity j.lies o.more o.more_labels);
        top = rw q o.nesting_taken;
        bounded = record { activations = rw rooms_started (omega arith); values = rw rooms_started (omega arith) };
      }
