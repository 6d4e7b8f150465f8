-- What a machine is, and what it answers of a step, beside what the definition of the step says.
-- Serves the contracts of this crate, which follow Runs of `spec_execution`.
use Rattle.std.specs.Prelude.{◌≡◌, ◌≢◌, ◌≤◌, ◌⊎◌, ◌||◌, ◌+◌, ℕ, List, [], ◌∷◌, map, length, reverse, drop, Option, Some, None, IfSome, Bool, true, false, IsTrue, if◌then◌else◌}
use Rattle.wasm_form.specs.declared.types.ValType.TheVariants.{I32}
use Rattle.wasm_form.specs.declared.types.FuncType.{FuncType}
use Rattle.wasm_form.specs.declared.instr.Instr.{Instr, out-Instr}
use Rattle.wasm_form.specs.declared.instr.Instr.TheOpen as Open
use Rattle.wasm_form.specs.declared.instr.Expr.{Expr}
use Rattle.wasm_form.specs.declared.runtime.Ref.{Ref}
use Rattle.wasm_form.specs.declared.runtime.Ref.TheVariants as ref
use Rattle.wasm_form.specs.declared.index.IndexForm.{IndexForm}
use Rattle.wasm_form.specs.declared.index.IndexForm.TheVariants.{Call}
use Rattle.wasm_form.specs.Index.{index_form}
use Rattle.wasm_form.specs.declared.runtime.Value.{Value}
use Rattle.wasm_form.specs.declared.runtime.Value.TheVariants.{Num}
use Rattle.wasm_form.specs.declared.runtime.Answer.{Answer}
use Rattle.wasm_form.specs.declared.runtime.Answer.TheVariants.{Reply, Exit}
use Rattle.spec_safety.specs.spec_binary.Options.{◌>>=◌}
use Rattle.spec_safety.specs.spec_binary.SameTypes.{same_function_type}
use Rattle.spec_safety.specs.spec_runtime.Numerics.{W32}
use Rattle.spec_safety.specs.spec_runtime.Memories.{MemoryInstance}
use Rattle.spec_safety.specs.spec_runtime.Tables.{entry_at}
use Rattle.spec_safety.specs.spec_runtime.Hosts.{fits_results, all_written}
use Rattle.spec_safety.specs.spec_execution.Values.{low}
use Rattle.spec_safety.specs.spec_execution.Activations.{Activation, Move, Calls, CallsEntry, with_values, with_i32, move}
use Rattle.spec_safety.specs.spec_execution.Views.{View, type_of}
use Rattle.spec_safety.specs.spec_execution.Runs.{is_running, Frame, Active, Marked, Next, Goes, Asks, Loads, Ends, Traps, call, calling, carried_out, given}
use Rattle.spec_safety.specs.spec_execution.Limits.{room_of, room_with, activations, is_deep, passes_limit}
use Rattle.spec_safety.specs.ValueTypes.{IsMemory}
use Rattle.spec_safety.specs.TypedViews.{HoldTypes, IsSoundView}
use Rattle.spec_safety.specs.TypedFrames.{OnMark, IsCalledOver, Stand}
use Rattle.wasm_step.specs.Tops.{height_of}
use Rattle.wasm_step.specs.Primitives.{number_on, with_rest}
use Rattle.wasm_view.specs.Seen.{Seen}
use Rattle.wasm_machine.specs.Stacks.{CallStack, empty_stack, most_blocks}
use Rattle.wasm_machine.specs.Iterated.{Iterated}
use Rattle.wasm_step.specs.Moves.{Changes, AreSame, between}
use Rattle.wasm_step.specs.Named.{is_call, is_growth}
use Rattle.wasm_machine.specs.declared.machine.Standing.{Standing}
use Rattle.wasm_machine.specs.declared.machine.Standing.TheVariants as standing
use Rattle.wasm_machine.specs.declared.machine.StackTop.{StackTop}
use Rattle.wasm_machine.specs.declared.machine.StackTop.TheVariants as top
use Rattle.wasm_step.specs.declared.done.Done.{Done}
use Rattle.wasm_step.specs.declared.done.Done.TheVariants as done
use Rattle.wasm_machine.specs.declared.event.Event.{Event}
use Rattle.wasm_machine.specs.declared.event.Event.TheVariants as event

-- a machine: its call stack, and what it is at
pub record MachineState : Type 0 where
  pub stack : CallStack
  pub standing : Standing

-- ---- what is kept

-- the activations took the rooms that the view tells
abbrev pub RoomsAre : {Units : Type 0} → View Units → CallStack → Type 0
RoomsAre V s = s.rooms ≡ map (λ a. room_of V a.unit a.func) (activations s.frames)

-- a host function that is waited for has so many results
abbrev pub IsAsked : {Units : Type 0} → View Units → Standing → Type 0
IsAsked V (standing.Asking entry count) = (ty : FuncType) × (V.host entry ≡ Some ty) × (length ty.results ≡ count)
IsAsked V _ = Unit {0}

-- an activation has as many locals as its function
abbrev pub locals_of : {Units : Type 0} → View Units → ℕ → ℕ → ℕ
locals_of V unit f = room_with 0 (V.code unit f)

abbrev pub HaveLocals : {Units : Type 0} → View Units → List (Frame ℕ) → Type 0
HaveLocals V [] = Unit {0}
HaveLocals V (Active a ∷ frames) = (length a.locals ≡ locals_of V a.unit a.func) × HaveLocals V frames
HaveLocals V (Marked tag ∷ frames) = HaveLocals V frames

-- what is so of a mark: it lies over nothing, or over what takes one i32
abbrev pub on_tag : OnMark ℕ
on_tag tag under stands = (under ≡ []) ⊎ stands (I32 ∷ [])

-- the call stack fits what the machine is at: a wait stands on what takes the results that are waited for
abbrev pub StackFits : {Units : Type 0} → View Units → Standing → List (Frame ℕ) → Type 0
StackFits V standing.Moving frames = Stand V V.names on_tag frames []
StackFits V (standing.Asking entry count) frames = (ty : FuncType) × (V.host entry ≡ Some ty) × IsCalledOver frames ty × Stand V V.names on_tag frames (reverse ty.results)
StackFits V standing.Loading frames = Stand V V.names on_tag frames (I32 ∷ [])
StackFits V _ frames = Unit {0}

-- The condition on a view, its units, the memory and a machine: the view is typed, and the machine over it is sound in its part.
pub record IsOver {Units : Type 0} (V : View Units) (us : Units) (space : MemoryInstance) (m : MachineState) : Type 0 where
  pub view : IsSoundView V
  pub units : HoldTypes V V.names us
  pub memory : IsMemory space
  pub stack : StackFits V m.standing m.stack.frames
  pub locals : HaveLocals V m.stack.frames
  pub rooms : RoomsAre V m.stack
  pub asked : IsAsked V m.standing

-- ---- steps

-- the next step of the code on top
abbrev pub next_of : {Units : Type 0} → View Units → Units → MemoryInstance → List (Frame ℕ) → Option (Next Units ℕ)
next_of V us memory [] = None
next_of V us memory (Active a ∷ frames) = carried_out V us memory frames (move (V.declared a.unit) a)
next_of V us memory (Marked tag ∷ frames) = None

abbrev pub next_in : {Units : Type 0} → Seen Units → List (Frame ℕ) → Option (Next Units ℕ)
next_in w frames = next_of w.fixed w.units w.memory frames

-- a step after which no code goes on by itself
abbrev pub LeavesCode : {Units : Type 0} → Option (Next Units ℕ) → Type 0
LeavesCode (Some (Goes us memory frames)) = ⊥
LeavesCode _ = Unit {0}

-- What is answered in few bytes, and what has changed. What is outside is told by a slower call.
abbrev pub Led : {Units : Type 0} → View Units → Done → Option (Next Units ℕ) → Type 0 → CallStack → CallStack → Changes Units → Type 0
Led V done.Goes (Some (Goes us memory frames)) Wanting old new c = (new.frames ≡ frames) × (c.new_units ≡ us) × (c.new_memory ≡ memory)
Led V done.Deep (Some (Goes us memory frames)) Wanting old new c = (is_deep V frames ≡ true) × (new ≡ old) × AreSame c
Led V done.Returned (Some Ends) Wanting old new c = AreSame c
Led V (done.Trapped why) (Some (Traps cause)) Wanting old new c = (why ≡ cause) × AreSame c
Led V done.Outside next Wanting old new c = (new ≡ old) × AreSame c × LeavesCode next
Led V done.NoMemory next Wanting old new c = Wanting × AreSame c
Led V _ next Wanting old new c = ⊥

-- what a step comes to that is answered in few bytes, and what has changed
abbrev pub Leads : {Units : Type 0} → Done → Option (Next Units ℕ) → Type 0 → CallStack → CallStack → Seen Units → Seen Units → Type 0
Leads done next Wanting old new before after = Led before.fixed done next Wanting old new (between before after)

-- the arguments of a function of the loader, or 0 where there are fewer
abbrev pub first_of : List ℕ → ℕ
first_of [] = 0
first_of (n ∷ ns) = n

abbrev pub second_of : List ℕ → ℕ
second_of [] = 0
second_of (n ∷ ns) = first_of ns

-- the machine stands at a call stack
pub record StandsAt (m : MachineState) (frames : List (Frame ℕ)) (s : Standing) : Type 0 where
  pub frames_are : m.stack.frames ≡ frames
  pub standing_is : m.standing ≡ s

-- an event and what has changed fit what the step comes to
abbrev pub Told : {Units : Type 0} → View Units → Event → Option (Next Units ℕ) → MachineState → MachineState → Changes Units → Type 0
Told V event.Moved (Some (Goes us memory frames)) old new c =
    StandsAt new frames standing.Moving × (is_deep V frames ≡ false) × (c.new_units ≡ us) × (c.new_memory ≡ memory)
Told V (event.Waits asked) (Some (Asks entry args frames)) old new c =
    (count : ℕ) × StandsAt new frames (standing.Asking entry count) × (asked.entry ≡ entry) × (asked.args ≡ args) × AreSame c
Told V (event.Loader which first second) (Some (Loads called args frames)) old new c =
    StandsAt new frames standing.Loading × (which ≡ called) × (first ≡ first_of args) × (second ≡ second_of args) × AreSame c
Told V event.Returned (Some Ends) old new c = StandsAt new [] standing.Returned × AreSame c
Told V (event.Trapped why) (Some (Traps cause)) old new c = StandsAt new [] (standing.Trapped why) × (why ≡ cause) × AreSame c
Told V event.Deep (Some (Goes us memory frames)) old new c = (is_deep V frames ≡ true) × (new ≡ old) × AreSame c
Told V _ next old new c = ⊥

-- the event of an end
abbrev pub Repeats : Event → Standing → Type 0
Repeats event.Returned standing.Returned = Unit {0}
Repeats (event.Trapped why) (standing.Trapped cause) = why ≡ cause
Repeats (event.Exited code) (standing.Exited value) = code ≡ value
Repeats _ _ = ⊥

abbrev pub IsAtMark : Event → List (Frame ℕ) → Type 0
IsAtMark (event.Marked tag) (Marked top ∷ frames) = tag ≡ top
IsAtMark _ frames = ⊥

-- what is on top
abbrev pub on_top : List (Frame ℕ) → StackTop
on_top [] = top.Nothing
on_top (Active a ∷ frames) = top.Code
on_top (Marked tag ∷ frames) = top.Mark tag

-- a step: code on top goes on, a mark is told, and an end is told again
abbrev pub Stepped : {Units : Type 0} → View Units → Event → MachineState → MachineState → Changes Units → Type 0
Stepped V e old new c =
    ((old.standing ≡ standing.Moving) × (is_running old.stack.frames ≡ true) × Told V e (next_of V c.old_units c.old_memory old.stack.frames) old new c)
    ⊎ ((old.standing ≡ standing.Moving) × IsAtMark e old.stack.frames × (new ≡ old) × AreSame c)
    ⊎ (Repeats e old.standing × (new ≡ old) × AreSame c)

-- it may be asked for a step: it doesn't wait, and it has ended or has something on its call stack
abbrev pub IsReady : MachineState → Type 0
IsReady m = go m.standing
  where
    go : Standing → Type 0
    go standing.Moving = m.stack.frames ≢ []
    go (standing.Asking entry count) = ⊥
    go standing.Loading = ⊥
    go _ = Unit {0}

-- whether the next step passes a limit of depth: one of code on top of a machine that goes on, and no other
abbrev pub is_deep_next : {Units : Type 0} → Seen Units → MachineState → Bool
is_deep_next w m = go m.standing
  where
    go : Standing → Bool
    go standing.Moving = passes_limit w.fixed (next_in w m.stack.frames)
    go _ = false

-- ---- where memory may be wanting

-- these instructions begin with a call, or with one that grows a memory or a table
abbrev pub may_grow_at : List Instr → Bool
may_grow_at [] = false
may_grow_at (i ∷ is) = is_call (out-Instr i) || is_growth (out-Instr i)

-- the code on top calls or grows next
abbrev pub MayGrow : List (Frame ℕ) → Type 0
MayGrow [] = ⊥
MayGrow (Marked tag ∷ frames) = ⊥
MayGrow (Active a ∷ frames) = IsTrue (may_grow_at a.rest)

-- a step leads to an activation on top that has no more values than its room, and no more than 1,001 open blocks
abbrev pub StaysWithin : {Units : Type 0} → View Units → Option (Next Units ℕ) → Type 0
StaysWithin V (Some (Goes us memory (Active a ∷ frames))) = (length a.locals + height_of a ≤ room_of V a.unit a.func) × (length a.levels ≤ most_blocks)
StaysWithin V _ = Unit {0}

-- the next step may want memory
abbrev pub IsWanting : MachineState → Type 0
IsWanting m = (m.standing ≡ standing.Lost) ⊎ ((m.standing ≡ standing.Moving) × MayGrow m.stack.frames)

-- nothing is left but this
abbrev pub ended : Standing → MachineState
ended s = record { stack = empty_stack; standing = s }

-- memory was wanting: nothing is left, and it wants memory from then on
abbrev pub lost_machine : MachineState
lost_machine = ended standing.Lost

-- the step of the code on top is answered
abbrev pub Advances : {Units : Type 0} → Done → CallStack → CallStack → Seen Units → Seen Units → Type 0
Advances done old new before after = Leads done (next_in before old.frames) (MayGrow old.frames) old new before after

-- ---- beginnings and marks

-- a function without parameters is called over a call stack
abbrev pub called_over : {Units : Type 0} → Seen Units → List (Frame ℕ) → Ref → Option (Next Units ℕ)
called_over w frames r = call w.fixed w.units w.memory (λ _. frames) [] r

abbrev pub Begins : {Units : Type 0} → Seen Units → Event → Ref → MachineState → MachineState → Type 0
Begins w e r old new = (old.standing ≡ standing.Moving) × Told w.fixed e (called_over w old.stack.frames r) old new (between w w)

-- whether that call passes a limit of depth, of a machine that goes on
abbrev pub is_deep_call : {Units : Type 0} → Seen Units → Ref → MachineState → Bool
is_deep_call w r m = go m.standing
  where
    go : Standing → Bool
    go standing.Moving = passes_limit w.fixed (called_over w m.stack.frames r)
    go _ = false

-- nothing is on the call stack, or a mark is on top
abbrev pub IsClear : List (Frame ℕ) → Type 0
IsClear [] = Unit {0}
IsClear (Marked tag ∷ frames) = Unit {0}
IsClear (Active a ∷ frames) = ⊥

-- a call may begin
abbrev pub IsStart : MachineState → Type 0
IsStart m = go m.standing
  where
    go : Standing → Type 0
    go standing.Moving = IsClear m.stack.frames
    go standing.Lost = Unit {0}
    go _ = ⊥

-- a mark may be put: on an empty call stack, or where a function of the loader is waited for
abbrev pub MayMark : MachineState → Type 0
MayMark m = go m.standing
  where
    go : Standing → Type 0
    go standing.Moving = m.stack.frames ≡ []
    go standing.Loading = Unit {0}
    go standing.Lost = Unit {0}
    go _ = ⊥

pub record Marks (tag : ℕ) (old new : MachineState) : Type 0 where
  pub stack : new.stack ≡ record old.stack { frames = Marked tag ∷ old.stack.frames }
  pub goes_on : new.standing ≡ standing.Moving
  pub found : old.standing ≢ standing.Lost

-- a mark is on top
abbrev pub IsMarked : MachineState → Type 0
IsMarked m = (m.standing ≡ standing.Moving) × go m.stack.frames
  where
    go : List (Frame ℕ) → Type 0
    go (Marked tag ∷ frames) = Unit {0}
    go _ = ⊥

-- it may be ended by a trap of what was called: a function of the loader that is waited for, or what put the mark on top
abbrev pub MayTrap : MachineState → Type 0
MayTrap m = (m.standing ≡ standing.Loading) ⊎ IsMarked m

-- what a machine is at over what was under a mark
abbrev pub waits_under : List (Frame ℕ) → Standing
waits_under (Active a ∷ frames) = standing.Loading
waits_under _ = standing.Moving

pub record Unmarks (old new : MachineState) : Type 0 where
  pub stack : new.stack ≡ record old.stack { frames = drop 1 old.stack.frames }
  pub waits : new.standing ≡ waits_under (drop 1 old.stack.frames)

-- ---- answers

-- an answer fits the host function that is waited for
abbrev pub FitsAnswer : {Units : Type 0} → View Units → MemoryInstance → Answer → Standing → Type 0
FitsAnswer V memory a (standing.Asking entry count) = IfSome (V.host entry) (λ ty. IsTrue (fits_results ty.results memory a))
FitsAnswer V memory a _ = ⊥

-- so many results are waited for
abbrev pub IsExpecting : MachineState → ℕ → Type 0
IsExpecting m n = go m.standing
  where
    go : Standing → Type 0
    go (standing.Asking entry count) = count ≡ n
    go _ = ⊥

-- numbers were given to what waited: to code on top, or else they are dropped; over nothing that is the end
abbrev pub Received : List (Frame ℕ) → List ℕ → MachineState → Type 0
Received [] results new = StandsAt new [] standing.Returned
Received (f ∷ frames) results new = StandsAt new (given (reverse (map Num results)) f ∷ frames) standing.Moving

abbrev pub Answered : {Units : Type 0} → Answer → MachineState → MachineState → Changes Units → Type 0
Answered (Reply results writes) old new c = Received old.stack.frames results new × (c.new_units ≡ c.old_units) × (c.new_memory ≡ all_written writes c.old_memory)
Answered (Exit code) old new c = StandsAt new [] (standing.Exited code) × AreSame c

-- an end, which is told again
abbrev pub IsEnd : Standing → Type 0
IsEnd standing.Moving = ⊥
IsEnd (standing.Asking entry count) = ⊥
IsEnd standing.Loading = ⊥
IsEnd _ = Unit {0}

-- ---- returns and calls

-- the values are given to what called: the last return ends
abbrev pub Finished : Done → List Value → CallStack → CallStack → Type 0
Finished done.Goes values old new = go old.frames
  where
    go : List (Frame ℕ) → Type 0
    go (top ∷ under ∷ frames) = (new.frames ≡ given values under ∷ frames) × (new.rooms ≡ drop 1 old.rooms)
    go _ = ⊥
Finished done.Returned values old new = length old.frames ≡ 1
Finished _ values old new = ⊥

-- an activation past a call, without the values above its arguments
abbrev pub past_call : Activation → ℕ → Activation
past_call a above = with_values (with_rest a (drop 1 a.rest)) (drop above a.values)

-- a call from an activation, with the arguments under the topmost `above` values
abbrev pub called_from : {Units : Type 0} → Seen Units → Activation → ℕ → List (Frame ℕ) → Ref → Option (Next Units ℕ)
called_from w a above frames r = call w.fixed w.units w.memory (calling (past_call a above) frames) (past_call a above).values r

-- the moves of a call by the number of a function, and of one by an entry of a table
abbrev pub direct : ℕ → Activation → Move
direct f a = Calls f (with_rest a (drop 1 a.rest))

abbrev pub indirect : ℕ → ℕ → Activation → Move
indirect ty table a = with_i32 a.values (λ i vs. CallsEntry table ty i (with_values (with_rest a (drop 1 a.rest)) vs))

abbrev pub carried_in : {Units : Type 0} → Seen Units → List (Frame ℕ) → Move → Option (Next Units ℕ)
carried_in w frames m = carried_out w.fixed w.units w.memory frames m

-- functions outside the code
abbrev pub is_outside : Ref → Bool
is_outside (ref.Own unit f) = false
is_outside (ref.Loader which) = true
is_outside (ref.Host entry) = true
is_outside (ref.Stub unit f) = false

abbrev pub some_outside : Option Ref → Bool
some_outside None = false
some_outside (Some r) = is_outside r

abbrev pub names_outside : {Units : Type 0} → View Units → Activation → ℕ → Bool
names_outside V a f = some_outside (V.target a.unit f)

-- the entry of a table that the number on top names, where it is of a type
abbrev pub entry_of_type : {Units : Type 0} → View Units → Option FuncType → Option (Option Ref) → Option Ref
entry_of_type V ty None = None
entry_of_type V ty (Some None) = None
entry_of_type V ty (Some (Some r)) = ty >>= λ wanted. type_of V r >>= λ found. if same_function_type found wanted then Some r else None

abbrev pub entry_on_top : {Units : Type 0} → View Units → Units → Activation → ℕ → ℕ → Option Ref
entry_on_top V us a ty table =
    number_on a.values >>= λ n. V.table us a.unit table >>= λ x. entry_of_type V (V.declared a.unit ty) (entry_at x (low W32 n))

abbrev pub entry_is_outside : {Units : Type 0} → View Units → Units → Activation → ℕ → ℕ → Bool
entry_is_outside V us a ty table = some_outside (entry_on_top V us a ty table)

abbrev pub call_is_outside : {Units : Type 0} → View Units → Activation → ℕ → Option IndexForm → Bool
call_is_outside V a f (Some Call) = names_outside V a f
call_is_outside V a f _ = false

-- whether an instruction calls a function outside
abbrev pub calls_outside_here : {Units : Type 0} → View Units → Units → Activation → Open.Instr-F Instr Expr → Bool
calls_outside_here V us a (Open.Index op f) = call_is_outside V a f (index_form op)
calls_outside_here V us a (Open.CallIndirect ty table) = entry_is_outside V us a ty table
calls_outside_here V us a _ = false

abbrev pub calls_outside : {Units : Type 0} → View Units → Units → Activation → Bool
calls_outside V us a = go a.rest
  where
    go : List Instr → Bool
    go [] = false
    go (i ∷ is) = calls_outside_here V us a (out-Instr i)

-- the code on top calls a function outside next
abbrev pub IsCallingOutside : {Units : Type 0} → View Units → Units → MachineState → Type 0
IsCallingOutside V us m = (m.standing ≡ standing.Moving) × go m.stack.frames
  where
    go : List (Frame ℕ) → Type 0
    go (Active a ∷ frames) = calls_outside V us a ≡ true
    go _ = ⊥

-- the program has exited
abbrev pub IsExited : Standing → Type 0
IsExited (standing.Exited code) = Unit {0}
IsExited _ = ⊥

-- the same of a step that is told in few bytes: of an exit and a mark it isn't told which
abbrev pub QuickStepped : {Units : Type 0} → View Units → Done → MachineState → MachineState → Changes Units → Type 0
QuickStepped V done.Goes old new c = Stepped V event.Moved old new c
QuickStepped V (done.Trapped why) old new c = Stepped V (event.Trapped why) old new c
QuickStepped V done.Returned old new c = Stepped V event.Returned old new c
QuickStepped V done.Exited old new c = IsExited old.standing × (new ≡ old) × AreSame c
QuickStepped V done.Marked old new c = IsMarked old × (new ≡ old) × AreSame c
QuickStepped V done.Deep old new c = Stepped V event.Deep old new c
QuickStepped V done.Outside old new c = IsCallingOutside V c.old_units old × (new ≡ old) × AreSame c × LeavesCode (next_of V c.old_units c.old_memory old.stack.frames)
QuickStepped V done.NoMemory old new c = IsWanting old × (new ≡ lost_machine) × AreSame c

-- ---- many steps

-- a machine that goes on
abbrev pub going : CallStack → MachineState
going s = record { stack = s; standing = standing.Moving }

-- an end, or that no memory was found, is kept
abbrev pub settled : Done → CallStack → MachineState
settled done.Returned s = ended standing.Returned
settled (done.Trapped why) s = ended (standing.Trapped why)
settled done.NoMemory s = lost_machine
settled _ s = going s

-- A machine, with the units and the memory of its view.
pub record Point (Units : Type 0) : Type 0 where
  pub machine : MachineState
  pub units : Units
  pub memory : MemoryInstance

abbrev pub at_point : {Units : Type 0} → MachineState → Seen Units → Point Units
at_point m w = record { machine = m; units = w.units; memory = w.memory }

abbrev pub passed : {Units : Type 0} → Point Units → Point Units → Changes Units
passed p q = record { old_units = p.units; old_memory = p.memory; new_units = q.units; new_memory = q.memory }

-- a step after which code goes on, and the machine stands over its view
abbrev pub GoesOn : {Units : Type 0} → View Units → Point Units → Point Units → Type 0
GoesOn V p q = QuickStepped V done.Goes p.machine q.machine (passed p q) × IsOver V q.units q.memory q.machine

-- this is what one step more comes to; `Goes` says that none was made
abbrev pub Stops : {Units : Type 0} → View Units → Done → Point Units → Point Units → Type 0
Stops V d p q = ((d ≡ done.Goes) × (q ≡ p)) ⊎ ((d ≢ done.Goes) × QuickStepped V d p.machine q.machine (passed p q))

-- so many steps, and then what one more comes to
abbrev pub Runs : {Units : Type 0} → View Units → ℕ → Done → Point Units → Point Units → Type 0
Runs {Units} V n d p q = (r : Point Units) × Iterated (GoesOn V) n p r × Stops V d r q
