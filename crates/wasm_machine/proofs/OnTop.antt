-- The whole call stack over the flat lists: what marks, parked activations and values on top change of it.
use Rattle.std.proofs.Common.{arith, ◌≡◌, ℕ, ◌+◌, ◌≤◌, List, [], ◌∷◌, ◌++◌, length, take, drop, refl, ap, sym, ◌∙◌, subst, Bool, true, false, Some}
use Rattle.std.specs.Prelude.{reverse, if◌then◌else◌}
use Rattle.std.proofs.lemmas.Bool.{le-ltb, lt-ltb}
use Rattle.std.proofs.lemmas.List.{reverse-append, length-take}
use Rattle.wasm_form.specs.declared.instr.Instr.{Instr}
use Rattle.wasm_form.specs.declared.runtime.Value.{Value}
use Rattle.spec_safety.specs.spec_execution.Activations.{Activation}
use Rattle.spec_safety.specs.spec_execution.Runs.{Active, Marked}
use Rattle.wasm_step.specs.Tops.{Top, with_act, below_count, height_of, levels_at, activation_at, IsLaidOut}
use Rattle.wasm_step.specs.Primitives.{first_of, IsIdle, Parked, Widened, HasSpare, resumed}
use Rattle.wasm_machine.specs.Stacks.{CallStack, frames_at, rooms_at, most_blocks, LiesWell, LieWell, IsTopOf, is_live, IsBounded, IsJoined}
use Rattle.wasm_step.specs.declared.current.Label.{Label}
use Rattle.wasm_step.specs.declared.current.Place.{Place}
use Rattle.wasm_machine.specs.declared.callers.Caller.{Caller}
use Rattle.wasm_machine.specs.declared.callers.Caller.TheVariants as caller
use Rattle.wasm_step.proofs.Laid.{floor_le, locals_length, values_length, below_count-at}
use Rattle.wasm_step.proofs.Openings.{HasRoom_more}

-- ---- what lies under

pub LieWell_more : (rs : List Caller) (vs : List Value) (ls : List Label) (cap lcap cap' lcap' : ℕ) → LieWell rs vs ls cap lcap → cap ≤ cap' → lcap ≤ lcap' → LieWell rs vs ls cap' lcap'
LieWell_more [] vs ls cap lcap cap' lcap' h q r = tt
LieWell_more (caller.Active p ∷ rs) vs ls cap lcap cap' lcap' h q r =
    (record { laid = h.0.laid; kept = HasRoom_more p cap lcap cap' lcap' h.0.kept q r; live = h.0.live }, LieWell_more rs (take p.base vs) (take p.outer ls) cap lcap cap' lcap' h.1 q r)
LieWell_more (caller.Mark tag ∷ rs) vs ls cap lcap cap' lcap' h q r = (omega (arith, h.0), LieWell_more rs vs ls cap lcap cap' lcap' h.1 q r)

-- all values are those under an activation, its locals and those on them
pub place_length : (p : Place) (vs : List Value) (ls : List Label) → IsLaidOut p vs ls → length (take p.base vs) + length (activation_at p vs ls).locals + height_of (activation_at p vs ls) ≡ length vs
place_length p vs ls h =
    let fl : p.floor ≤ p.start = floor_le p vs ls h in
    let b : p.floor + below_count (levels_at p.start (reverse (drop p.outer ls)) vs) ≡ p.start = below_count-at p.floor p.start (reverse (drop p.outer ls)) vs h.rises h.start in
    omega (arith, b, h.base, h.start, values_length p vs ls h, locals_length p vs ls h, length-take p.base vs)

-- ---- the call stack, where the callers stand with the latest first

abbrev pub stack_on : List Caller → Top → CallStack
stack_on rs t = record {
  frames = (if is_live t then Active t.act ∷ frames_at rs t.under t.outer else frames_at rs t.under t.outer);
  rooms = (if is_live t then t.room ∷ rooms_at rs else rooms_at rs);
}

pub record IsOnTop (rs : List Caller) (t : Top) : Type 0 where
  pub lies : LieWell rs t.under t.outer t.capacity t.label_capacity
  pub top : IsTopOf t (is_live t) rs
  pub bounded : IsBounded (stack_on rs t)

pub from_joined : (cs rs : List Caller) (t : Top) → reverse cs ≡ rs → IsJoined cs t → IsOnTop rs t
from_joined cs rs t e h = rw (← e) (record { lies = h.lies; top = h.top; bounded = h.bounded })

pub to_joined : (cs rs : List Caller) (t : Top) → reverse cs ≡ rs → IsOnTop rs t → IsJoined cs t
to_joined cs rs t e h = let h' : IsOnTop (reverse cs) t = rw e h in record { lies = h'.lies; top = h'.top; bounded = h'.bounded }

pub added : (cs cs' : List Caller) (c : Caller) → cs' ≡ cs ++ c ∷ [] → reverse cs' ≡ c ∷ reverse cs
added cs cs' c e = rw (e, reverse-append cs (c ∷ [])) refl

-- ---- what is on top

pub live_is : (t : Top) → t.nesting ≡ most_blocks → is_live t ≡ true
live_is t e = lt-ltb 0 t.nesting (omega arith)

pub idle_is : (t : Top) → IsIdle t → is_live t ≡ false
idle_is t h = le-ltb 0 t.nesting (omega (arith, h.nesting))

pub blocks_of : (rs : List Caller) (t : Top) → IsOnTop rs t → is_live t ≡ true → t.nesting ≡ most_blocks
blocks_of rs t h e = rw e at h.top

idle_of : (rs : List Caller) (t : Top) → IsTopOf t false rs → IsIdle t
idle_of [] t h = h
idle_of (caller.Mark tag ∷ rs) t h = h
idle_of (caller.Active p ∷ rs) t h = absurd h

pub is_idle : (rs : List Caller) (t : Top) → IsOnTop rs t → is_live t ≡ false → IsIdle t
is_idle rs t h e = idle_of rs t (rw e at h.top)

-- where nothing is on top, nothing remains to be run
pub none_remain : (cs : List Caller) (t : Top) → IsJoined cs t → is_live t ≡ false → t.act.rest ≡ []
none_remain cs t h e = (is_idle (reverse cs) t (from_joined cs (reverse cs) t refl h) e).rest

-- where something remains to be run, an activation is on top
pub rest_is_live : (cs : List Caller) (t : Top) (i : Instr) → IsJoined cs t → Some i ≡ first_of t.act.rest → is_live t ≡ true
rest_is_live cs t i h e = go (is_live t) refl
  where
    go : (b : Bool) → is_live t ≡ b → is_live t ≡ true
    go true q = q
    go false q = absurd (let none : t.act.rest ≡ [] = none_remain cs t h q in let clash : Some i ≡ first_of [] = rw none at e in cc)

pub stack_live : (rs : List Caller) (t : Top) → is_live t ≡ true → stack_on rs t ≡ record { frames = Active t.act ∷ frames_at rs t.under t.outer; rooms = t.room ∷ rooms_at rs }
stack_live rs t e = rw e refl

pub stack_idle : (rs : List Caller) (t : Top) → is_live t ≡ false → stack_on rs t ≡ record { frames = frames_at rs t.under t.outer; rooms = rooms_at rs }
stack_idle rs t e = rw e refl

-- ---- more room

more_room : (rs : List Caller) (t : Top) (cap : ℕ) → IsOnTop rs t → t.capacity ≤ cap → IsOnTop rs (record t { capacity = cap })
more_room rs t cap h q = record { lies = LieWell_more rs t.under t.outer t.capacity t.label_capacity cap t.label_capacity h.lies q (omega arith); top = top_more (is_live t) rs h.top; bounded = h.bounded }
  where
    top_more : (b : Bool) (rs' : List Caller) → IsTopOf t b rs' → IsTopOf (record t { capacity = cap }) b rs'
    top_more true rs' k = k
    top_more false [] k = record { nesting = k.nesting; room = k.room; locals = k.locals; values = k.values; levels = k.levels; rest = k.rest }
    top_more false (caller.Mark tag ∷ rs') k = record { nesting = k.nesting; room = k.room; locals = k.locals; values = k.values; levels = k.levels; rest = k.rest }
    top_more false (caller.Active p ∷ rs') k = k

module _ (rs : List Caller) (t t' : Top) (w : Widened t t') where
  pub widened : IsOnTop rs t → IsOnTop rs t'
  widened h = subst (λ (x : Top). IsOnTop rs x) (sym w.same) (more_room rs t t'.capacity h w.more)

  pub widened_is : stack_on rs t' ≡ stack_on rs t
  widened_is = ap (λ (x : Top). stack_on rs x) w.same

  pub widened_live : is_live t' ≡ is_live t
  widened_live = ap is_live w.same

-- ---- marks

module _ (rs : List Caller) (t : Top) (tag : ℕ) (h : IsOnTop rs t) (e : is_live t ≡ false) (s : HasSpare t 1) where
  pub marked : IsOnTop (caller.Mark tag ∷ rs) t
  marked =
      let b = rw (stack_idle rs t e) at h.bounded in
      record { lies = (omega (arith, s), h.lies); top = rw e (is_idle rs t h e); bounded = rw (stack_idle (caller.Mark tag ∷ rs) t e) (record { activations = b.activations; values = b.values }) }

-- what was on top lies under a mark
module _ (rs : List Caller) (t t' : Top) (p : Place) (tag : ℕ) (h : IsOnTop rs t) (e : is_live t ≡ true) (s : HasSpare t 1) (k : Parked t t' p) where
  parked_lies : LieWell (caller.Active p ∷ rs) t'.under t'.outer t'.capacity t'.label_capacity
  parked_lies =
      let under : LieWell rs (take p.base t'.under) (take p.outer t'.outer) t'.capacity t'.label_capacity =
      rw (k.saved.under, k.saved.outer) (LieWell_more rs t.under t.outer t.capacity t.label_capacity t'.capacity t'.label_capacity h.lies k.saved.more k.saved.more_labels) in
      (record { laid = k.saved.laid; kept = k.saved.kept; live = k.saved.place_nesting ∙ blocks_of rs t h e }, under)

  parked_length : length t'.under ≡ length t.under + length t.act.locals + height_of t.act
  parked_length =
      let l : length (take p.base t'.under) + length (activation_at p t'.under t'.outer).locals + height_of (activation_at p t'.under t'.outer) ≡ length t'.under = place_length p t'.under t'.outer k.saved.laid in
      sym l
      ∙ ap (λ (a : Activation). length (take p.base t'.under) + length a.locals + height_of a) k.saved.caller
      ∙ ap (λ (vs : List Value). length vs + length t.act.locals + height_of t.act) k.saved.under

  parked_frames : frames_at (caller.Active p ∷ rs) t'.under t'.outer ≡ Active t.act ∷ frames_at rs t.under t.outer
  parked_frames = rw (k.saved.caller, k.saved.under, k.saved.outer) refl

  pub parked_is : stack_on (caller.Mark tag ∷ caller.Active p ∷ rs) t' ≡ record (stack_on rs t) { frames = Marked tag ∷ (stack_on rs t).frames }
  parked_is = rw (idle_is t' k.idle, e, parked_frames, k.saved.place_room) refl

  pub parked : IsOnTop (caller.Mark tag ∷ caller.Active p ∷ rs) t'
  parked =
      let b : IsBounded (record { frames = Active t.act ∷ frames_at rs t.under t.outer; rooms = t.room ∷ rooms_at rs }) = rw (stack_live rs t e) at h.bounded in
      record {
        lies = (omega (arith, s, parked_length, k.saved.more), parked_lies);
        top = rw (idle_is t' k.idle) k.idle;
        bounded = rw parked_is (record { activations = rw e b.activations; values = rw e b.values });
      }

-- ---- what was under a mark

module _ (rs : List Caller) (t : Top) (tag : ℕ) (p : Place) (h : IsOnTop (caller.Mark tag ∷ caller.Active p ∷ rs) t) (e : is_live t ≡ false) where
  pub under_lies : LiesWell p t.under t.outer t.capacity t.label_capacity
  under_lies = h.lies.1.0

  idle : IsIdle t
  idle = is_idle (caller.Mark tag ∷ caller.Active p ∷ rs) t h e

  pub resumed_live : is_live (resumed p t) ≡ true
  resumed_live = live_is (resumed p t) under_lies.live

  pub resumed_top : IsOnTop rs (resumed p t)
  resumed_top =
      let b = rw (stack_idle (caller.Mark tag ∷ caller.Active p ∷ rs) t e) at h.bounded in
      record {
        lies = h.lies.1.1;
        top = rw resumed_live under_lies.live;
        bounded = rw (stack_live rs (resumed p t) resumed_live) (record { activations = b.activations; values = b.values });
      }

  pub resumed_spare : HasSpare (resumed p t) 1
  resumed_spare =
      let l : length (take p.base t.under) + length (activation_at p t.under t.outer).locals + height_of (activation_at p t.under t.outer) ≡ length t.under = place_length p t.under t.outer under_lies.laid in
      let m : length t.under + 1 ≤ t.capacity = h.lies.0 in
      rw idle.values (omega (arith, l, m))

-- ---- another activation on top

module _ (rs : List Caller) (t : Top) (a : Activation) (e : is_live t ≡ true) where
  pub acted_is : stack_on rs (with_act t a) ≡ record { frames = Active a ∷ frames_at rs t.under t.outer; rooms = (stack_on rs t).rooms }
  acted_is = rw e refl

  pub acted : IsOnTop rs t → IsOnTop rs (with_act t a)
  acted h =
      let b = rw (stack_live rs t e) at h.bounded in
      record { lies = h.lies; top = rw e (blocks_of rs t h e); bounded = rw (stack_live rs (with_act t a) e) (record { activations = b.activations; values = b.values }) }
