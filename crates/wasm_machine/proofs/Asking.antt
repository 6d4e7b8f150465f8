-- A call of a function outside: its arguments, what is left on top, and what is told.
use Rattle.std.proofs.Common.{arith, ◌≡◌, ℕ, ◌+◌, ◌≤◌, ◌<◌, ◌^◌, List, [], ◌∷◌, length, take, drop, map, length-drop, refl, ap, sym, ◌∙◌, subst, Option, Some, Bool, true, false}
use Rattle.std.specs.Prelude.{reverse, is_some, if◌then◌else◌, slice_get, unwrap_or}
use Rattle.std.specs.List.{All}
use Rattle.std.proofs.lemmas.List.Elements.{All-nil, All-cons, All-head, All-tail}
use Rattle.spec_safety.specs.spec_runs.Systems.{only_if}
use Rattle.wasm_form.specs.declared.types.ValType.{ValType}
use Rattle.wasm_form.specs.declared.types.ValType.TheVariants.{I32}
use Rattle.wasm_form.specs.declared.types.FuncType.{FuncType}
use Rattle.wasm_form.specs.declared.runtime.LoaderCall.{LoaderCall}
use Rattle.wasm_form.specs.declared.runtime.LoaderCall.TheVariants.{Dlopen, Dlsym, Dlclose, Dlerror}
use Rattle.wasm_form.specs.declared.runtime.Ref.TheVariants.{Host, Loader}
use Rattle.wasm_form.specs.declared.runtime.Value.{Value}
use Rattle.wasm_form.specs.declared.runtime.Value.TheVariants.{Num, Func}
use Rattle.spec_safety.specs.spec_runtime.Memories.{MemoryInstance}
use Rattle.spec_safety.specs.spec_execution.Values.{take_values, number_of, numbers_of}
use Rattle.spec_safety.specs.spec_execution.Activations.{Activation, with_values}
use Rattle.spec_safety.specs.spec_execution.Views.{View, type_of, loader_type}
use Rattle.spec_safety.specs.spec_execution.Ranges.{AreInRange}
use Rattle.spec_safety.specs.spec_execution.Limits.{activations}
use Rattle.spec_safety.specs.spec_execution.Runs.{Frame, Active, Next, Asks, Loads, call, calling}
use Rattle.wasm_step.specs.Tops.{Top, with_act}
use Rattle.wasm_step.specs.Primitives.{Widened, HasSpare, with_rest}
use Rattle.wasm_machine.specs.Stacks.{CallStack, frames_at, IsTopOf, under_of, is_live, joined, IsJoined}
use Rattle.wasm_machine.specs.Machines.{MachineState, RoomsAre, on_tag, IsOver, IsAsked, IsCallingOutside, calls_outside, Told, first_of, second_of, next_of, past_call}
use Rattle.wasm_machine.specs.Outside.{IsOutsideCall}
use Rattle.wasm_machine.specs.declared.callers.Caller.{Caller}
use Rattle.wasm_machine.specs.declared.callers.Caller.TheVariants as caller
use Rattle.wasm_machine.specs.declared.calls.OutsideCall.{OutsideCall}
use Rattle.wasm_machine.specs.declared.machine.Standing.{Standing}
use Rattle.wasm_machine.specs.declared.machine.Standing.TheVariants as standing
use Rattle.wasm_machine.specs.declared.event.Event.{Event}
use Rattle.wasm_machine.specs.declared.event.Event.TheVariants as event
use Rattle.spec_safety.specs.TypedViews.{HoldTypes}
use Rattle.spec_safety.specs.TypedFrames.{IsSoundNext}
use Rattle.wasm_step.proofs.Arguments.{parts, arguments_are, arguments_count}
use Rattle.spec_safety.proofs.Lookups.{All-reverse}
use Rattle.wasm_machine.proofs.Depths.{room_in}
use Rattle.wasm_machine.proofs.OnTop.{from_joined, to_joined, widened, widened_is, widened_live, acted, acted_is}
use Rattle.wasm_machine.proofs.Sound.{NextIsSound, arguments_there, told_over}
use Rattle.wasm_machine.proofs.Telling.{unchanged, here_sound, here_in_range}

pub arguments_room : (ts : List ValType) (vs : List Value) (above : ℕ) → above ≤ length vs → is_some (take_values (reverse ts) (drop above vs)) ≡ true → above + length ts ≤ length vs
arguments_room ts vs above h e = omega (arith, arguments_count ts (drop above vs) e, length-drop above vs)

-- ---- functions of the loader

first_is : (ns : List ℕ) → unwrap_or (slice_get ns 0) 0 ≡ first_of ns
first_is [] = refl
first_is (n ∷ ns) = refl

second_is : (ns : List ℕ) → unwrap_or (slice_get ns 1) 0 ≡ second_of ns
second_is [] = refl
second_is (n ∷ ns) = first_is ns

small_numbers : (ts : List ValType) (vs : List Value) → All (λ t. t ≡ I32) ts → All (λ n. n < 2 ^ 32) (numbers_of ts vs)
small_numbers [] vs h = All-nil (λ n. n < 2 ^ 32)
small_numbers (t ∷ ts) [] h = All-nil (λ n. n < 2 ^ 32)
small_numbers (t ∷ ts) (Num n ∷ vs) h =
    let e : t ≡ I32 = All-head (λ u. u ≡ I32) t ts h in
    All-cons (λ m. m < 2 ^ 32) (number_of t n) (numbers_of ts vs) (rw e (omega arith)) (small_numbers ts vs (All-tail (λ u. u ≡ I32) t ts h))
small_numbers (t ∷ ts) (Func r ∷ vs) h = small_numbers ts vs (All-tail (λ u. u ≡ I32) t ts h)

loader_words : (which : LoaderCall) → All (λ t. t ≡ I32) (loader_type which).params
loader_words Dlopen = All-cons (λ t. t ≡ I32) I32 (I32 ∷ []) refl (All-cons (λ t. t ≡ I32) I32 [] refl (All-nil (λ t. t ≡ I32)))
loader_words Dlsym = All-cons (λ t. t ≡ I32) I32 (I32 ∷ []) refl (All-cons (λ t. t ≡ I32) I32 [] refl (All-nil (λ t. t ≡ I32)))
loader_words Dlclose = All-cons (λ t. t ≡ I32) I32 [] refl (All-nil (λ t. t ≡ I32))
loader_words Dlerror = All-nil (λ t. t ≡ I32)

-- their arguments are numbers of 32 bits
loader_numbers : (which : LoaderCall) (vs : List Value) → All (λ n. n < 2 ^ 32) (reverse (numbers_of (reverse (loader_type which).params) vs))
loader_numbers which vs = All-reverse (λ n. n < 2 ^ 32) _ (small_numbers (reverse (loader_type which).params) vs (All-reverse (λ t. t ≡ I32) (loader_type which).params (loader_words which)))

loader_results : (which : LoaderCall) → length (loader_type which).results ≡ 1
loader_results Dlopen = refl
loader_results Dlsym = refl
loader_results Dlclose = refl
loader_results Dlerror = refl

-- a type that is given only by a test
given_type : (b : Bool) (known ty : FuncType) → Some ty ≡ only_if b known → known ≡ ty
given_type true known ty e = cc
given_type false known ty e = cc

-- ---- what is left on top

-- an activation past a call, without its arguments
abbrev pub past_arguments : Activation → ℕ → ℕ → Activation
past_arguments a above n = with_values (with_rest a (drop 1 a.rest)) (drop n (drop above a.values))

module _ (cs : List Caller) (t new : Top) (a : Activation) (live : is_live t ≡ true) (w : Widened (with_act t a) new) where
  left_live : is_live new ≡ true
  left_live = widened_live (reverse cs) (with_act t a) new w ∙ live

  left_joined : IsJoined cs t → IsJoined cs new
  left_joined h = to_joined cs (reverse cs) new refl (widened (reverse cs) (with_act t a) new w (acted (reverse cs) t a live (from_joined cs (reverse cs) t refl h)))

  left_is : joined cs new ≡ record { frames = Active a ∷ under_of cs t; rooms = (joined cs t).rooms }
  left_is = widened_is (reverse cs) (with_act t a) new w ∙ acted_is (reverse cs) t a live

live_frames : (cs : List Caller) (t : Top) → is_live t ≡ true → (joined cs t).frames ≡ Active t.act ∷ under_of cs t
live_frames cs t e = rw e refl

-- ---- the step

module _ {Units : Type 0} (V : View Units) (us : Units) (memory : MemoryInstance) (a : Activation) (o : OutsideCall) (ty : FuncType) (args : List ℕ) (frames : List (Frame ℕ)) (is : IsOutsideCall V us memory a o) (there : Some ty ≡ type_of V o.target)
    (kinds : is_some (take_values (reverse ty.params) (drop o.above a.values)) ≡ true) (are : args ≡ reverse (numbers_of (reverse ty.params) (take (length ty.params) (drop o.above a.values)))) where
  taken : take_values (reverse ty.params) (drop o.above a.values) ≡ Some (parts (length ty.params) (drop o.above a.values))
  taken = arguments_are ty.params (drop o.above a.values) kinds

  host_is : (entry : ℕ) → o.target ≡ Host entry → V.host entry ≡ Some ty
  host_is entry e = sym (there ∙ ap (type_of V) e)

  host_next : (entry : ℕ) → o.target ≡ Host entry → next_of V us memory (Active a ∷ frames) ≡ Some (Asks entry args (Active (past_arguments a o.above (length ty.params)) ∷ frames))
  host_next entry e = is.next frames ∙ ap (call V us memory (calling (past_call a o.above) frames) (past_call a o.above).values) e ∙ rw (host_is entry e, taken, are) refl

  loader_is : (which : LoaderCall) → o.target ≡ Loader which → loader_type which ≡ ty
  loader_is which e = given_type V.has_loader (loader_type which) ty (there ∙ ap (type_of V) e)

  loader_there : (which : LoaderCall) → o.target ≡ Loader which → only_if V.has_loader (loader_type which) ≡ Some ty
  loader_there which e = sym (there ∙ ap (type_of V) e)

  loader_next : (which : LoaderCall) → o.target ≡ Loader which → next_of V us memory (Active a ∷ frames) ≡ Some (Loads which args (Active (past_arguments a o.above (length ty.params)) ∷ frames))
  loader_next which e = is.next frames ∙ ap (call V us memory (calling (past_call a o.above) frames) (past_call a o.above).values) e ∙ rw (loader_there which e, taken, are) refl

-- ---- the next step leaves the code

module _ {Units : Type 0} (V : View Units) (us : Units) where
  calling_at : (b : Bool) (rs : List Caller) (t : Top) (rooms : List ℕ) (s : Standing) → IsTopOf t b rs
      → IsCallingOutside V us (record { stack = record { frames = (if b then Active t.act ∷ frames_at rs t.under t.outer else frames_at rs t.under t.outer); rooms = rooms }; standing = s }) → (b ≡ true) × (calls_outside V us t.act ≡ true)
  calling_at true rs t rooms s k h = (refl, h.1)
  calling_at false [] t rooms s k h = absurd h.1
  calling_at false (caller.Mark tag ∷ rs) t rooms s k h = absurd h.1
  calling_at false (caller.Active p ∷ rs) t rooms s k h = absurd k

  module _ (cs : List Caller) (t : Top) (s : Standing) (old : MachineState) (at : record { stack = joined cs t; standing = s } ≡ old) (lies : IsJoined cs t) (calls : IsCallingOutside V us old) where
    called : (is_live t ≡ true) × (calls_outside V us t.act ≡ true)
    called = calling_at (is_live t) (reverse cs) t (joined cs t).rooms s lies.top (rw (← at) at calls)

    pub calling_live : is_live t ≡ true
    calling_live = called.0

    pub calling_outside : calls_outside V us t.act ≡ true
    calling_outside = called.1

    -- the machine goes on
    calling_moves : s ≡ standing.Moving
    calling_moves = let c : IsCallingOutside V us (record { stack = joined cs t; standing = s }) = rw (← at) at calls in c.0

    pub calling_range : (memory : MemoryInstance) → IsOver V us memory old → AreInRange (V.counts t.act.unit) t.act.rest
    calling_range memory v = here_in_range V us memory cs t s old calling_live calling_moves at v

    calling_sound : (memory : MemoryInstance) → IsOver V us memory old → NextIsSound V (next_of V us memory (Active t.act ∷ under_of cs t))
    calling_sound memory v = subst (λ fs. NextIsSound V (next_of V us memory fs)) (live_frames cs t calling_live) (here_sound V us memory cs t s old calling_live calling_moves at v)

    -- its arguments are there
    pub calling_arguments : (memory : MemoryInstance) (o : OutsideCall) (ty : FuncType) (params : List ValType) → IsOver V us memory old → IsOutsideCall V us memory t.act o → Some ty ≡ type_of V o.target → params ≡ ty.params
        → is_some (take_values (reverse params) (drop o.above t.act.values)) ≡ true
    calling_arguments memory o ty params v is there e =
        let n = subst (IsSoundNext V V.names (HoldTypes V V.names) on_tag) (is.next (under_of cs t)) (calling_sound memory v).0 in
        rw e (arguments_there V us memory (calling (past_call t.act o.above) (under_of cs t)) (past_call t.act o.above).values o.target ty is.outside (sym there) n)

-- ---- what is told

-- the machine goes past a call of a function outside, with these arguments
pub record IsLeaving {Units : Type 0} (V : View Units) (us : Units) (memory : MemoryInstance) (cs : List Caller) (t new : Top) (s : Standing) (old : MachineState) (o : OutsideCall) (ty : FuncType) (args : List ℕ) : Type 0 where
  pub lies : IsJoined cs t
  pub live : is_live t ≡ true
  pub at : record { stack = joined cs t; standing = s } ≡ old
  pub moves : s ≡ standing.Moving
  pub calls : IsOutsideCall V us memory t.act o
  pub typed : Some ty ≡ type_of V o.target
  pub kinds : is_some (take_values (reverse ty.params) (drop o.above t.act.values)) ≡ true
  pub are : args ≡ reverse (numbers_of (reverse ty.params) (take (length ty.params) (drop o.above t.act.values)))
  pub left : Widened (with_act t (past_arguments t.act o.above (length ty.params))) new

pub leaving : {Units : Type 0} (V : View Units) (us : Units) (memory : MemoryInstance) (cs : List Caller) (t new : Top) (s : Standing) (old : MachineState) (o : OutsideCall) (ty : FuncType) (params : List ValType) (args : List ℕ)
    → IsJoined cs t → record { stack = joined cs t; standing = s } ≡ old → IsCallingOutside V us old → IsOutsideCall V us memory t.act o → Some ty ≡ type_of V o.target → params ≡ ty.params
    → is_some (take_values (reverse params) (drop o.above t.act.values)) ≡ true → args ≡ reverse (numbers_of (reverse params) (take (length params) (drop o.above t.act.values)))
    → Widened (with_act t (past_arguments t.act o.above (length params))) new → IsLeaving V us memory cs t new s old o ty args
leaving V us memory cs t new s old o ty params args lies at calls is there e kinds are left = record {
  lies = lies;
  live = calling_live V us cs t s old at lies calls;
  at = at;
  moves = calling_moves V us cs t s old at lies calls;
  calls = is;
  typed = there;
  kinds = rw e at kinds;
  are = rw e at are;
  left = rw e at left;
}

module _ {Units : Type 0} {V : View Units} {us : Units} {memory : MemoryInstance} {cs : List Caller} {t new : Top} {s : Standing} {old : MachineState} {o : OutsideCall} {ty : FuncType} {args : List ℕ} (l : IsLeaving V us memory cs t new s old o ty args) where
  abbrev past : Activation
  past = past_arguments t.act o.above (length ty.params)

  pub leaves_joined : IsJoined cs new
  leaves_joined = left_joined cs t new past l.live l.left l.lies

  pub leaves_live : is_live new ≡ true
  leaves_live = left_live cs t new past l.live l.left

  frames_old : old.stack.frames ≡ Active t.act ∷ under_of cs t
  frames_old = ap (λ (m : MachineState). m.stack.frames) (sym l.at) ∙ live_frames cs t l.live

  frames_new : (joined cs new).frames ≡ Active past ∷ under_of cs t
  frames_new = ap (λ (st : CallStack). st.frames) (left_is cs t new past l.live l.left)

  -- what is left took the same rooms
  rooms_left : IsOver V us memory old → RoomsAre V (joined cs new)
  rooms_left v =
      let v' : IsOver V us memory (record { stack = joined cs t; standing = s }) = rw (← l.at) at v in
      ap (λ (st : CallStack). st.rooms) (left_is cs t new past l.live l.left)
      ∙ v'.rooms
      ∙ ap (λ (fs : List (Frame ℕ)). map (room_in V) (activations fs)) (live_frames cs t l.live)
      ∙ sym (ap (λ (fs : List (Frame ℕ)). map (room_in V) (activations fs)) frames_new)

  old_sound : IsOver V us memory old → NextIsSound V (next_of V us memory old.stack.frames)
  old_sound v =
      subst (λ fs. NextIsSound V (next_of V us memory fs)) (ap (λ (m : MachineState). m.stack.frames) l.at) (here_sound V us memory cs t s old l.live l.moves l.at v)

  over_left : (e : Event) (st : Standing) → Told V e (next_of V us memory old.stack.frames) old (record { stack = joined cs new; standing = st }) (unchanged us memory) → IsAsked V st → IsOver V us memory old
      → IsOver V us memory (record { stack = joined cs new; standing = st })
  over_left e st told a v = told_over V old (record { stack = joined cs new; standing = st }) (unchanged us memory) v e (next_of V us memory old.stack.frames) (old_sound v) told (rooms_left v) a

  module _ (entry : ℕ) (e : o.target ≡ Host entry) (count : ℕ) where
    next_host : next_of V us memory (Active t.act ∷ under_of cs t) ≡ Some (Asks entry args (Active past ∷ under_of cs t))
    next_host = host_next V us memory t.act o ty args (under_of cs t) l.calls l.typed l.kinds l.are entry e

    pub told_host : (ws : List ℕ) → ws ≡ args
        → Told V (event.Waits (record { entry = entry; args = ws })) (next_of V us memory old.stack.frames) old (record { stack = joined cs new; standing = standing.Asking entry count }) (unchanged us memory)
    told_host ws q =
        subst (λ (n : Option (Next Units ℕ)). Told V (event.Waits (record { entry = entry; args = ws })) n old (record { stack = joined cs new; standing = standing.Asking entry count }) (unchanged us memory))
        (sym (ap (next_of V us memory) frames_old ∙ next_host)) (count, record { frames_are = frames_new; standing_is = refl }, refl, q, (refl, refl))

    pub over_host : count ≡ length ty.results → IsOver V us memory old → IsOver V us memory (record { stack = joined cs new; standing = standing.Asking entry count })
    over_host q v =
        over_left (event.Waits (record { entry = entry; args = args })) (standing.Asking entry count) (told_host args refl)
        (ty, host_is V us memory t.act o ty args (under_of cs t) l.calls l.typed l.kinds l.are entry e, sym q) v

  module _ (which : LoaderCall) (e : o.target ≡ Loader which) where
    next_loader : next_of V us memory (Active t.act ∷ under_of cs t) ≡ Some (Loads which args (Active past ∷ under_of cs t))
    next_loader = loader_next V us memory t.act o ty args (under_of cs t) l.calls l.typed l.kinds l.are which e

    pub told_loader : (first second : ℕ) → first ≡ unwrap_or (slice_get args 0) 0 → second ≡ unwrap_or (slice_get args 1) 0
        → Told V (event.Loader which first second) (next_of V us memory old.stack.frames) old (record { stack = joined cs new; standing = standing.Loading }) (unchanged us memory)
    told_loader first second p q =
        subst (λ (n : Option (Next Units ℕ)). Told V (event.Loader which first second) n old (record { stack = joined cs new; standing = standing.Loading }) (unchanged us memory))
        (sym (ap (next_of V us memory) frames_old ∙ next_loader)) (record { frames_are = frames_new; standing_is = refl }, refl, p ∙ first_is args, q ∙ second_is args, (refl, refl))

    pub over_loader : IsOver V us memory old → IsOver V us memory (record { stack = joined cs new; standing = standing.Loading })
    over_loader v = over_left (event.Loader which (unwrap_or (slice_get args 0) 0) (unwrap_or (slice_get args 1) 0)) standing.Loading (told_loader _ _ refl refl) tt v

    pub loader_spare : HasSpare new (length ty.results) → HasSpare new 1
    loader_spare h = let n : length ty.results ≡ 1 = sym (ap (λ (f : FuncType). length f.results) (loader_is V us memory t.act o ty args (under_of cs t) l.calls l.typed l.kinds l.are which e)) ∙ loader_results which in rw n at h

    pub loader_small : All (λ n. n < 2 ^ 32) args
    loader_small = rw (l.are, ← loader_is V us memory t.act o ty args (under_of cs t) l.calls l.typed l.kinds l.are which e) (loader_numbers which (take (length (loader_type which).params) (drop o.above t.act.values)))
