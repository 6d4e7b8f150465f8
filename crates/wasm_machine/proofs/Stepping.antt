-- One step of the code on top of a machine that goes on, whose end or loss is kept afterwards, and many of them.
use Rattle.std.proofs.Common.{arith, ◌<◌, ◌≡◌, ◌≢◌, ◌⊎◌, ◌∙◌, ap, sym, subst, ℕ, zero, suc, List, [], ◌∷◌, Option, Some, None, true, false, refl, inl, inr}
use Rattle.std.specs.Prelude.{IfSome, reverse}
use Rattle.wasm_form.specs.declared.runtime.Trap.{Trap}
use Rattle.spec_safety.specs.spec_execution.Views.{View}
use Rattle.spec_safety.specs.spec_execution.Runs.{is_running, Next, Goes, Asks, Loads, Ends, Traps}
use Rattle.wasm_step.specs.Tops.{Top}
use Rattle.wasm_view.specs.Seen.{Seen}
use Rattle.wasm_step.specs.Moves.{Changes, between}
use Rattle.wasm_machine.specs.Stacks.{CallStack, IsTopOf, frames_at, rooms_at, is_live, joined, IsJoined}
use Rattle.wasm_machine.specs.Machines.{MachineState, RoomsAre, IsOver, IsMarked, MayGrow, Led, Told, Repeats, QuickStepped, calls_outside, next_of, ended, lost_machine, going, settled, Point, at_point, passed, GoesOn, Runs}
use Rattle.wasm_machine.specs.Iterated.{Iterated}
use Rattle.wasm_machine.specs.Marks.{Keeps}
use Rattle.wasm_machine.specs.declared.machine.Standing.{Standing}
use Rattle.wasm_machine.specs.declared.machine.Standing.TheVariants as standing
use Rattle.wasm_machine.specs.declared.callers.Caller.{Caller}
use Rattle.wasm_machine.specs.declared.callers.Caller.TheVariants as caller
use Rattle.wasm_step.specs.declared.done.Done.{Done}
use Rattle.wasm_step.specs.declared.done.Done.TheVariants as done
use Rattle.wasm_machine.specs.declared.event.Event.TheVariants as event
use Rattle.wasm_machine.proofs.Sound.{ended_over}
use Rattle.wasm_machine.proofs.Telling.{returned_same, trapped_same, stays_stepped, stays_over}
use Rattle.wasm_machine.proofs.Under.{some_left}

-- ---- ends

module _ {Units : Type 0} (V : View Units) (Wanting : Type 0) (from to : CallStack) (c : Changes Units) (old : MachineState) where
  returned_told : (next : Option (Next Units ℕ)) → Led V done.Returned next Wanting from to c → Told V event.Returned next old (ended standing.Returned) c
  returned_told None l = absurd l
  returned_told (Some (Goes us memory frames)) l = absurd l
  returned_told (Some (Asks entry args frames)) l = absurd l
  returned_told (Some (Loads which args frames)) l = absurd l
  returned_told (Some Ends) l = (record { frames_are = refl; standing_is = refl }, l)
  returned_told (Some (Traps why)) l = absurd l

  trapped_told : (next : Option (Next Units ℕ)) (why : Trap) → Led V (done.Trapped why) next Wanting from to c → Told V (event.Trapped why) next old (ended (standing.Trapped why)) c
  trapped_told None why l = absurd l
  trapped_told (Some (Goes us memory frames)) why l = absurd l
  trapped_told (Some (Asks entry args frames)) why l = absurd l
  trapped_told (Some (Loads which args frames)) why l = absurd l
  trapped_told (Some Ends) why l = absurd l
  trapped_told (Some (Traps cause)) why l = (record { frames_are = refl; standing_is = refl }, l.0, l.1)

-- ---- a step of code

module _ {Units : Type 0} (V : View Units) (c : Changes Units) (cs cs' : List Caller) (t t' : Top) (d : Done) (live : is_live t ≡ true) (over : IsOver V c.old_units c.old_memory (going (joined cs t)))
    (led : Led V d (next_of V c.old_units c.old_memory (joined cs t).frames) (MayGrow (joined cs t).frames) (joined cs t) (joined cs' t') c)
    (outside : d ≡ done.Outside → calls_outside V c.old_units t.act ≡ true) (lies : d ≢ done.NoMemory → IsJoined cs' t') (rooms : d ≡ done.Goes → RoomsAre V (joined cs' t')) where
  abbrev next : Option (Next Units ℕ)
  next = next_of V c.old_units c.old_memory (joined cs t).frames

  abbrev LedAs : Done → Type 0
  LedAs e = Led V e next (MayGrow (joined cs t).frames) (joined cs t) (joined cs' t') c

  code_runs : is_running (joined cs t).frames ≡ true
  code_runs = rw live refl

  pub code_stepped : QuickStepped V d (going (joined cs t)) (settled d (joined cs' t')) c
  code_stepped = go d led (λ which. stays_stepped V c cs cs' t t' standing.Moving d (going (joined cs t)) live refl led refl over outside lies rooms which)
    where
      go : (e : Done) → LedAs e → ((e ≡ done.Goes) ⊎ ((e ≡ done.Deep) ⊎ (e ≡ done.Outside)) → QuickStepped V e (going (joined cs t)) (going (joined cs' t')) c) → QuickStepped V e (going (joined cs t)) (settled e (joined cs' t')) c
      go done.Goes l stays = stays (inl refl)
      go (done.Trapped why) l stays = inl (refl, code_runs, trapped_told V (MayGrow (joined cs t).frames) (joined cs t) (joined cs' t') c (going (joined cs t)) next why l)
      go done.Returned l stays = inl (refl, code_runs, returned_told V (MayGrow (joined cs t).frames) (joined cs t) (joined cs' t') c (going (joined cs t)) next l)
      go done.Exited l stays = absurd l
      go done.Marked l stays = absurd l
      go done.Deep l stays = stays (inr (inl refl))
      go done.Outside l stays = stays (inr (inr refl))
      go done.NoMemory l stays = (inr (refl, l.0), refl, l.1)

  pub code_over : IsOver V c.new_units c.new_memory (settled d (joined cs' t'))
  code_over = go d led (λ which. stays_over V c cs cs' t t' standing.Moving d (going (joined cs t)) live refl led refl over outside lies rooms which)
    where
      go : (e : Done) → LedAs e → ((e ≡ done.Goes) ⊎ ((e ≡ done.Deep) ⊎ (e ≡ done.Outside)) → IsOver V c.new_units c.new_memory (going (joined cs' t'))) → IsOver V c.new_units c.new_memory (settled e (joined cs' t'))
      go done.Goes l stays = stays (inl refl)
      go (done.Trapped why) l stays =
          ended_over V (going (joined cs t)) (ended (standing.Trapped why)) c over (standing.Trapped why) (trapped_same V (MayGrow (joined cs t).frames) (joined cs t) (joined cs' t') c next why l) tt refl
      go done.Returned l stays = ended_over V (going (joined cs t)) (ended standing.Returned) c over standing.Returned (returned_same V (MayGrow (joined cs t).frames) (joined cs t) (joined cs' t') c next l) tt refl
      go done.Exited l stays = absurd l
      go done.Marked l stays = absurd l
      go done.Deep l stays = stays (inr (inl refl))
      go done.Outside l stays = stays (inr (inr refl))
      go done.NoMemory l stays = ended_over V (going (joined cs t)) lost_machine c over standing.Lost l.1 tt refl

-- ---- where no code is on top

mark_on : (cs : List Caller) (t : Top) (rooms : List ℕ) → IsTopOf t false cs → frames_at cs t.under t.outer ≢ [] → IsMarked (going (record { frames = frames_at cs t.under t.outer; rooms = rooms }))
mark_on [] t rooms top some = absurd (some refl)
mark_on (caller.Active p ∷ cs) t rooms top some = absurd top
mark_on (caller.Mark tag ∷ cs) t rooms top some = (refl, tt)

pub mark_on_top : (cs : List Caller) (t : Top) → is_live t ≡ false → IsJoined cs t → (joined cs t).frames ≢ [] → IsMarked (going (joined cs t))
mark_on_top cs t idle j some = rw idle (mark_on (reverse cs) t (rooms_at (reverse cs)) (rw idle at j.top) (rw idle at some))

-- ---- a step after which code goes on

-- an end isn't told as such a step
moved_ends : (st : Standing) → Repeats event.Moved st → ⊥
moved_ends standing.Moving r = r
moved_ends (standing.Asking entry count) r = r
moved_ends standing.Loading r = r
moved_ends standing.Returned r = r
moved_ends (standing.Trapped why) r = r
moved_ends (standing.Exited code) r = r
moved_ends standing.Lost r = r

module _ {Units : Type 0} (V : View Units) (old new : MachineState) (c : Changes Units) where
  -- it leaves something on the call stack, and the machine goes on
  abbrev IsOn : Type 0
  IsOn = (new.stack.frames ≢ []) × (new.standing ≡ standing.Moving)

  told_on : (next : Option (Next Units ℕ)) → IfSome next (Keeps (λ fs. fs ≢ []) V) → Told V event.Moved next old new c → IsOn
  told_on None k t = absurd t
  told_on (Some (Goes us memory frames)) k t = (rw t.0.frames_are k, t.0.standing_is)
  told_on (Some (Asks entry args frames)) k t = absurd t
  told_on (Some (Loads which args frames)) k t = absurd t
  told_on (Some Ends) k t = absurd t
  told_on (Some (Traps why)) k t = absurd t

  pub stepped_on : QuickStepped V done.Goes old new c → IsOn
  stepped_on (inl t) = told_on (next_of V c.old_units c.old_memory old.stack.frames) (some_left V c.old_units c.old_memory old.stack.frames) t.2
  stepped_on (inr (inl t)) = absurd t.1
  stepped_on (inr (inr t)) = absurd (moved_ends old.standing t.0)

-- ---- many steps

-- one step more, over a view whose fixed part is the same
module _ {Units : Type 0} (V W : View Units) (fixed : W ≡ V) (p : Point Units) (n : ℕ) (s s' : CallStack) (w w' : Seen Units) (d : Done) (stepped : QuickStepped W d (going s) (settled d s') (between w w')) (over : IsOver W w'.units w'.memory (settled d s'))
    (made : Iterated (GoesOn V) n p (at_point (going s) w)) where
  stepped_here : QuickStepped V d (going s) (settled d s') (between w w')
  stepped_here = subst (λ (X : View Units). QuickStepped X d (going s) (settled d s') (between w w')) fixed stepped

  pub over_here : IsOver V w'.units w'.memory (settled d s')
  over_here = subst (λ (X : View Units). IsOver X w'.units w'.memory (settled d s')) fixed over

  -- code goes on after it
  module _ (e : d ≡ done.Goes) where
    stepped_next : QuickStepped V done.Goes (going s) (going s') (between w w')
    stepped_next = subst (λ (x : Done). QuickStepped V x (going s) (settled x s') (between w w')) e stepped_here

    over_on : IsOver V w'.units w'.memory (going s')
    over_on = subst (λ (x : Done). IsOver V w'.units w'.memory (settled x s')) e over_here

    pub over_next : (X : View Units) → X ≡ W → IsOver X w'.units w'.memory (going s')
    over_next X same = subst (λ (Y : View Units). IsOver Y w'.units w'.memory (going s')) (sym (same ∙ fixed)) over_on

    pub some_next : s'.frames ≢ []
    some_next = (stepped_on V (going s) (going s') (between w w') stepped_next).0

    pub goes_next : (m : ℕ) → m ≡ suc n → Iterated (GoesOn V) m p (at_point (going s') w')
    goes_next m count = subst (λ k. Iterated (GoesOn V) k p (at_point (going s') w')) (sym count) (at_point (going s) w, made, (stepped_next, over_on))

  -- it doesn't
  pub stops : d ≢ done.Goes → Runs V n d p (at_point (settled d s') w')
  stops ends = (at_point (going s) w, made, inr (ends, stepped_here))

-- as many were made as could be
pub all_made : {Units : Type 0} (V : View Units) (p : Point Units) (n : ℕ) (s : CallStack) (w : Seen Units) → Iterated (GoesOn V) n p (at_point (going s) w) → Runs V n done.Goes p (at_point (settled done.Goes s) w)
all_made V p n s w made = (at_point (going s) w, made, inl (refl, refl))

-- they are steps of a machine that goes on, whose end or loss is kept
pub run_told : {Units : Type 0} (V : View Units) (n : ℕ) (d : Done) (w w' : Seen Units) (old : MachineState) (s : CallStack) (st : Standing) (from to : CallStack) (new : MachineState) → record { stack = s; standing = st } ≡ old → old.standing ≡ standing.Moving → from ≡ s → new ≡ settled d to
    → Runs V n d (at_point (going from) w) (at_point (settled d to) w') → Runs V n d (at_point old w) (at_point new w')
run_told V n d w w' old s st from to new is moving same kept runs =
    let goes : st ≡ standing.Moving = ap (λ (m : MachineState). m.standing) is ∙ moving in
    let begins : going from ≡ old = ap going same ∙ ap (λ (x : Standing). let m : MachineState = record { stack = s; standing = x } in m) (sym goes) ∙ is in
    subst (λ (m : MachineState). Runs V n d (at_point old w) (at_point m w')) (sym kept) (subst (λ (m : MachineState). Runs V n d (at_point m w) (at_point (settled d to) w')) begins runs)

-- a run of up to one step is what that step comes to
pub one_step : {Units : Type 0} (V : View Units) (n : ℕ) (d : Done) (p q : Point Units) → (d ≡ done.Goes → n ≡ 1) → (d ≢ done.Goes → n < 1) → Runs V n d p q → QuickStepped V d p.machine q.machine (passed p q)
one_step V zero d p q all none (r, same, inl h) = absurd (let clash : 0 ≡ 1 = all h.0 in cc)
one_step V zero d p q all none (r, same, inr h) = subst (λ (x : Point _). QuickStepped V d x.machine q.machine (passed x q)) same h.1
one_step V (suc zero) d p q all none (r, made, inl h) =
    let stepped : QuickStepped V done.Goes p.machine q.machine (passed p q) =
    subst (λ (x : Point _). QuickStepped V done.Goes x.machine q.machine (passed x q)) made.1 (subst (λ (x : Point _). QuickStepped V done.Goes made.0.machine x.machine (passed made.0 x)) (sym h.1) made.2.0) in
    subst (λ (x : Done). QuickStepped V x p.machine q.machine (passed p q)) (sym h.0) stepped
one_step V (suc zero) d p q all none (r, made, inr h) = absurd (let few = none h.0 in omega arith)
one_step V (suc (suc n)) d p q all none (r, made, inl h) = absurd (let one = all h.0 in omega arith)
one_step V (suc (suc n)) d p q all none (r, made, inr h) = absurd (let few = none h.0 in omega arith)

-- steps of a relation are steps of a wider one
pub iterated_wider : {S : Type 0} (Q R : S → S → Type 0) → ((s t : S) → Q s t → R s t) → (n : ℕ) (s t : S) → Iterated Q n s t → Iterated R n s t
iterated_wider Q R wider zero s t same = same
iterated_wider Q R wider (suc n) s t made = (made.0, iterated_wider Q R wider n s made.0 made.1, wider made.0 t made.2)
