-- A call stack whose rooms are counted and bounded passes no limit of depth.
use Rattle.std.proofs.Common.{arith, ◌≡◌, ℕ, ◌+◌, ◌≤◌, List, [], ◌∷◌, map, length, false, refl, ap, sym, ◌∙◌}
use Rattle.std.specs.Prelude.{◌||◌, nat_lt}
use Rattle.std.proofs.lemmas.Bool.{le-ltb}
use Rattle.std.proofs.lemmas.List.{length-map}
use Rattle.wasm_form.specs.declared.runtime.Value.{Value}
use Rattle.spec_safety.specs.spec_execution.Activations.{Activation}
use Rattle.spec_safety.specs.spec_execution.Views.{View}
use Rattle.spec_safety.specs.spec_execution.Limits.{most_activations, most_values, room_of, activations, rooms_of, is_deep}
use Rattle.spec_safety.specs.spec_execution.Runs.{Frame, Active, Marked, given}
use Rattle.wasm_machine.specs.Stacks.{CallStack, total, IsBounded}
use Rattle.wasm_machine.specs.Machines.{RoomsAre}

abbrev pub room_in : {Units : Type 0} → View Units → Activation → ℕ
room_in V a = room_of V a.unit a.func

module _ {Units : Type 0} (V : View Units) where
  rooms_total : (as' : List Activation) → rooms_of V as' ≡ total (map (room_in V) as')
  rooms_total [] = refl
  rooms_total (a ∷ rest) = ap (λ n. room_in V a + n) (rooms_total rest)

  few : (a b : ℕ) (x y : ℕ) → x ≤ a → y ≤ b → (nat_lt a x || nat_lt b y) ≡ false
  few a b x y h k = rw (le-ltb a x h, le-ltb b y k) refl

  pub not_deep : (s : CallStack) → RoomsAre V s → IsBounded s → is_deep V s.frames ≡ false
  not_deep s r b =
      let n : length s.rooms ≡ length (activations s.frames) = ap length r ∙ length-map (activations s.frames) (room_in V) in
      let m : total s.rooms ≡ rooms_of V (activations s.frames) = ap total r ∙ sym (rooms_total (activations s.frames)) in
      few most_activations most_values (length (activations s.frames)) (rooms_of V (activations s.frames)) (omega (arith, b.activations)) (omega (arith, b.values))

  -- the same where the stack's frames are known
  pub not_deep_at : (s : CallStack) (frames : List (Frame ℕ)) → s.frames ≡ frames → RoomsAre V s → IsBounded s → is_deep V frames ≡ false
  not_deep_at s frames e r b = ap (λ (fs : List (Frame ℕ)). is_deep V fs) (sym e) ∙ not_deep s r b

  -- values that are given take no other room
  pub rooms_given : (values : List Value) (f : Frame ℕ) (frames : List (Frame ℕ)) → map (room_in V) (activations (given values f ∷ frames)) ≡ map (room_in V) (activations (f ∷ frames))
  rooms_given values (Active a) frames = refl
  rooms_given values (Marked mark) frames = refl
