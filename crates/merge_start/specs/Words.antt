-- The code that a merged module has for the loader's work: the phases of each member, and what goes through them.
-- This profile: docs/FORMATS.md, "What merge writes".
use Rattle.std.specs.Prelude.{ℕ, ◌+◌, List, [], ◌∷◌, ◌++◌, length, Option, Some, None, option_map}
use Rattle.wasm_form.specs.declared.types.ValType.TheVariants.{I32}
use Rattle.wasm_form.specs.declared.instr.BlockType.TheVariants.{Empty}
use Rattle.wasm_form.specs.declared.instr.Instr.{Instr, Plain, Index, If, Prefixed}
use Rattle.wasm_form.specs.declared.module.Module.{Module}
use Rattle.spec_loading.specs.spec_binary.Indices.{Function, nullary}
use Rattle.spec_loading.specs.spec_execution.Activations.{Effect, TableInit, ElemDrop, MemoryInit, DataDrop}
use Rattle.spec_loading.specs.spec_execution.Segments.{segment_effects}
use Rattle.spec_loading.specs.spec_linking.LinkedSets.{LinkedSet}
use Rattle.spec_loading.specs.spec_linking.Slots.{member_number}
use Rattle.spec_loading.specs.spec_linking.Links.{set_entry}
use Rattle.spec_loading.specs.declared.task.Phase.{Phase}
use Rattle.spec_loading.specs.declared.task.Phase.TheVariants.{Place, Start, Relocate, Construct}
use Rattle.spec_loading.specs.declared.task.Task.{Task}
use Rattle.spec_loading.specs.declared.task.After.{After}
use Rattle.spec_loading.specs.declared.task.After.TheVariants.{CallEntry, GiveHandle, GiveAndPromote}
use Rattle.spec_loading.specs.Phases.{stage_of, phase_function, LoaderFrame, startup_frame, open_frame}
use Rattle.spec_loading.specs.Addresses.{shared_table_address}
use Rattle.spec_loading.specs.LoaderAnswers.{later_members}
use Rattle.spec_loading.specs.LoadedSet.{first_slot, own_functions}
use Rattle.merge_match.specs.Renumbering.{Numbers}
use Rattle.merge_match.specs.Moves.{effect}
use Rattle.merge_pieces.specs.Opcodes as op
pub use Rattle.merge_pieces.specs.Code.{number}
unfoldable pub use Rattle.merge_pieces.specs.Code.{guarded}

-- The numbers of what the merger adds. The guard of member m is the m-th of some globals, and holds its stage; there is a segment of its
-- fresh slots, a function of each phase of it, and one that opens it. The entry function opens main. A global holds how many members are
-- promoted; behind it comes one for each member, which holds its place among them, counted from 1, or 0.
pub record Starts : Type 0 where
  pub guards : ℕ
  pub slots : ℕ → ℕ
  pub phase : ℕ → Phase → ℕ
  pub starting : ℕ
  pub opening : ℕ → ℕ
  pub promoted : ℕ

-- ---- effects

abbrev pub on_three : ℕ → ℕ → ℕ → Instr → List Instr
on_three to from count i = number to ∷ number from ∷ number count ∷ i ∷ []

-- what has an effect of segments; the others are of no use to the loader
abbrev pub effect_code : Effect → List Instr
effect_code (TableInit e t to from count) = on_three to from count (Prefixed op.table_init e t)
effect_code (ElemDrop e) = Prefixed op.elem_drop e 0 ∷ []
effect_code (MemoryInit d to from count) = on_three to from count (Prefixed op.memory_init d 0)
effect_code (DataDrop d) = Prefixed op.data_drop d 0 ∷ []
effect_code _ = []

-- effects of member m in order, by the numbers of the module
abbrev pub effects_code : Numbers → ℕ → List Effect → List Instr
effects_code n m [] = []
effects_code n m (x ∷ xs) = effect_code (effect n m x) ++ effects_code n m xs

-- ---- phases

-- the fresh slots of a member are written to the shared table, from the segment that has them
abbrev pub slots_effect : LinkedSet → Starts → ℕ → Effect
slots_effect L x m = TableInit (x.slots m) shared_table_address (first_slot L m) 0 (length (own_functions L m))

abbrev pub place_code : LinkedSet → Numbers → Starts → ℕ → Module → List Instr
place_code L n x m wasm = effects_code n m (segment_effects (member_number L m) wasm) ++ effect_code (slots_effect L x m)

-- a function is called, if there is one
abbrev pub call_code : Option ℕ → List Instr
call_code None = []
call_code (Some f) = Index op.call f ∷ []

-- a function of member m is, if there is one
abbrev pub member_call : Numbers → ℕ → Option ℕ → List Instr
member_call n m f = call_code (option_map (n.named m) f)

abbrev pub work_code : LinkedSet → Numbers → Starts → ℕ → Module → Phase → List Instr
work_code L n x m wasm Place = place_code L n x m wasm
work_code L n x m wasm Start = member_call n m (phase_function Start m wasm)
work_code L n x m wasm Relocate = member_call n m (phase_function Relocate m wasm)
work_code L n x m wasm Construct = member_call n m (phase_function Construct m wasm)

-- the body of the function of a phase
abbrev pub phase_code : LinkedSet → Numbers → Starts → ℕ → Module → Phase → List Instr
phase_code L n x m wasm p = guarded (x.guards + m) (stage_of p) (work_code L n x m wasm p)

-- ---- frames

-- the functions of the tasks are called in order
abbrev pub tasks_code : Starts → List Task → List Instr
tasks_code x [] = []
tasks_code x (task ∷ tasks) = Index op.call (x.phase task.member task.phase) ∷ tasks_code x tasks

-- what follows them: the entry of main is called, or a handle given
abbrev pub after_code : LinkedSet → Numbers → After → List Instr
after_code L n CallEntry = member_call n 0 (set_entry L.set.members)
after_code L n (GiveHandle m) = number (m + 1) ∷ []
after_code L n (GiveAndPromote m) = number (m + 1) ∷ []

abbrev pub frame_code : LinkedSet → Numbers → Starts → LoaderFrame → List Instr
frame_code L n x frame = tasks_code x frame.tasks ++ after_code L n frame.after

-- the body of the entry function, and that of the function that opens a member
abbrev pub entry_code : LinkedSet → Numbers → Starts → List Instr
entry_code L n x = frame_code L n x (startup_frame L.set)

abbrev pub open_code : LinkedSet → Numbers → Starts → ℕ → List Instr
open_code L n x m = frame_code L n x (open_frame L.set m)

-- ---- promoted members

-- the global of the place of a member
abbrev pub place_global : Starts → ℕ → ℕ
place_global x k = x.promoted + 1 + k

-- a member that has no place gets the next one
abbrev pub next_place : Starts → ℕ → List Instr
next_place x k =
    Index op.global_get x.promoted ∷ number 1 ∷ Plain op.i32_add ∷ Index op.global_set x.promoted
    ∷ Index op.global_get x.promoted ∷ Index op.global_set (place_global x k) ∷ []

abbrev pub promote_one : Starts → ℕ → List Instr
promote_one x k = Index op.global_get (place_global x k) ∷ Plain op.i32_eqz ∷ If Empty (record { list = next_place x k }) None ∷ []

abbrev pub promote_each : Starts → List ℕ → List Instr
promote_each x [] = []
promote_each x (k ∷ ks) = promote_one x k ++ promote_each x ks

-- those of the closure of a member are promoted that aren't in the startup list, breadth first
abbrev pub promote_code : LinkedSet → Starts → ℕ → List Instr
promote_code L x m = promote_each x (later_members L.set m)

-- ---- functions

abbrev pub nullary_function : List Instr → Function
nullary_function code = record { ty = nullary; locals = []; body = code }

-- a function that gives a handle
abbrev pub handle_function : List Instr → Function
handle_function code = record { ty = record { params = []; results = I32 ∷ [] }; locals = []; body = code }
