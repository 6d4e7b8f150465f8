-- Marks that are put and taken away, over callers that stand with the latest last.
use Rattle.std.proofs.Common.{◌≡◌, ℕ, List, [], ◌∷◌, ◌++◌, refl, ap, sym, ◌∙◌, Option, Some, None, Result, Ok, Err, Bool, true, false}
use Rattle.std.specs.Prelude.{reverse, IfSome, IfNone, OnOk, is_err, if◌then◌else◌}
use Rattle.std.proofs.lemmas.Bool.{true≢false}
use Rattle.spec_safety.specs.spec_execution.Runs.{Active}
use Rattle.wasm_step.specs.Tops.{Top}
use Rattle.wasm_step.specs.Primitives.{Parked, Widened, HasSpare, resumed}
use Rattle.wasm_machine.specs.Stacks.{frames_at, is_live, joined, IsJoined, latest}
use Rattle.wasm_machine.specs.Machines.{IsMarked}
use Rattle.wasm_step.specs.declared.current.Place.{Place}
use Rattle.wasm_machine.specs.declared.callers.Caller.{Caller}
use Rattle.wasm_machine.specs.declared.callers.Caller.TheVariants as caller
use Rattle.wasm_machine.specs.Whole.{IsMachine}
use Rattle.wasm_machine.specs.declared.machine.Standing.{Standing}
use Rattle.wasm_machine.specs.declared.machine.Standing.TheVariants as standing
use Rattle.wasm_machine.proofs.OnTop.{IsOnTop, from_joined, to_joined, added, widened, marked, parked, resumed_live, resumed_top, resumed_spare}

pub on_ok : {X Y : Type 0} (answer : Result X Y) (P : Type 0) → is_err answer ≡ false → OnOk answer P → P
on_ok (Ok x) P e h = h
on_ok (Err y) P e h = absurd (true≢false e)

-- ---- a mark is put

pub marked_joined : (cs cs' : List Caller) (t t' : Top) (tag : ℕ) → IsJoined cs t → Widened t t' → HasSpare t' 1 → is_live t' ≡ false → cs' ≡ cs ++ caller.Mark tag ∷ [] → IsJoined cs' t'
marked_joined cs cs' t t' tag h w s e c =
    to_joined cs' (caller.Mark tag ∷ reverse cs) t' (added cs cs' (caller.Mark tag) c) (marked (reverse cs) t' tag (widened (reverse cs) t t' w (from_joined cs (reverse cs) t refl h)) e s)

pub parked_joined : (cs cs' cs'' : List Caller) (t t' t'' : Top) (p : Place) (tag : ℕ) → IsJoined cs t → Widened t t' → HasSpare t' 1 → is_live t' ≡ true → Parked t' t'' p → cs' ≡ cs ++ caller.Active p ∷ [] → cs'' ≡ cs' ++ caller.Mark tag ∷ []
    → IsJoined cs'' t''
parked_joined cs cs' cs'' t t' t'' p tag h w s e k c c' =
    let r : reverse cs'' ≡ caller.Mark tag ∷ caller.Active p ∷ reverse cs = added cs' cs'' (caller.Mark tag) c' ∙ ap (λ (rs : List Caller). caller.Mark tag ∷ rs) (added cs cs' (caller.Active p) c) in
    to_joined cs'' (caller.Mark tag ∷ caller.Active p ∷ reverse cs) t'' r (parked (reverse cs) t' t'' p tag (widened (reverse cs) t t' w (from_joined cs (reverse cs) t refl h)) e s k)

-- ---- a mark is taken away

-- the latest is taken away
pub popped : (cs cs' : List Caller) (o : Option Caller) (c : Caller) → latest (reverse cs) ≡ Some c → IfSome o (λ x. cs ≡ cs' ++ x ∷ []) → IfNone o (cs ≡ []) → reverse cs ≡ c ∷ reverse cs'
popped cs cs' None c e s n = absurd (let f : None ≡ Some c = sym (ap (λ (xs : List Caller). latest (reverse xs)) n) ∙ e in cc)
popped cs cs' (Some x) c e s n =
    let r : reverse cs ≡ x ∷ reverse cs' = added cs' cs x s in
    let f : Some x ≡ Some c = sym (ap latest r) ∙ e in
    let g : x ≡ c = cc in
    r ∙ ap (λ (y : Caller). y ∷ reverse cs') g

mark_on : (b : Bool) (rs : List Caller) (t : Top) (rooms : List ℕ) (s : Standing)
    → IsMarked (record { stack = record { frames = (if b then Active t.act ∷ frames_at rs t.under t.outer else frames_at rs t.under t.outer); rooms = rooms }; standing = s }) → (b ≡ false) × ((tag : ℕ) × (latest rs ≡ Some (caller.Mark tag)))
mark_on true rs t rooms s h = absurd h.1
mark_on false [] t rooms s h = absurd h.1
mark_on false (caller.Mark tag ∷ rs) t rooms s h = (refl, (tag, refl))
mark_on false (caller.Active p ∷ rs) t rooms s h = absurd h.1

module _ (cs cs' cs'' : List Caller) (t : Top) (p : Place) (s : Standing) (o o' : Option Caller) (m : IsMarked (record { stack = joined cs t; standing = s })) (h : IsJoined cs t)
    (some : IfSome o (λ x. cs ≡ cs' ++ x ∷ [])) (none : IfNone o (cs ≡ [])) (active : latest (reverse cs') ≡ Some (caller.Active p)) (some' : IfSome o' (λ x. cs' ≡ cs'' ++ x ∷ [])) (none' : IfNone o' (cs' ≡ [])) where
  on : (is_live t ≡ false) × ((tag : ℕ) × (latest (reverse cs) ≡ Some (caller.Mark tag)))
  on = mark_on (is_live t) (reverse cs) t (joined cs t).rooms s m

  over : IsOnTop (caller.Mark on.1.0 ∷ caller.Active p ∷ reverse cs'') t
  over =
      let r : reverse cs ≡ caller.Mark on.1.0 ∷ caller.Active p ∷ reverse cs'' = popped cs cs' o (caller.Mark on.1.0) on.1.1 some none ∙ ap (λ (rs : List Caller). caller.Mark on.1.0 ∷ rs) (popped cs' cs'' o' (caller.Active p) active some' none') in
      from_joined cs (caller.Mark on.1.0 ∷ caller.Active p ∷ reverse cs'') t r h

  -- what called lies on top again, with room for the value that it waits for
  pub unmarked_machine : IsMachine (record { callers = cs''; top = resumed p t; standing = standing.Loading })
  unmarked_machine = record {
    joined = to_joined cs'' (reverse cs'') (resumed p t) refl (resumed_top (reverse cs'') t on.1.0 p over on.0);
    awaited = (resumed_live (reverse cs'') t on.1.0 p over on.0, resumed_spare (reverse cs'') t on.1.0 p over on.0);
  }
