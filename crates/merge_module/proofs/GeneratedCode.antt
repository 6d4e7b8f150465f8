-- The generated code of phases, of the entry and of what opens members can be written, and is supported and short.
use Rattle.std.proofs.Common.{◌≡◌, ◌≤◌, ◌<◌, ℕ, ◌+◌, ◌*◌, List, [], ◌∷◌, length, Option, Some, None, refl, arith, length-append}
use Rattle.spec_reading.specs.wasm_form.declared.instr.Instr.{Instr, Prefixed}
use Rattle.spec_reading.specs.wasm_form.declared.instr.Expr.{Expr}
use Rattle.spec_reading.specs.wasm_form.declared.module.ElemMode.{ElemMode}
use Rattle.spec_reading.specs.wasm_form.declared.module.ElemMode.TheVariants as elem_mode
use Rattle.spec_reading.specs.wasm_form.declared.module.ElemItems.{ElemItems}
use Rattle.spec_reading.specs.wasm_form.declared.module.DataMode.{DataMode}
use Rattle.spec_reading.specs.wasm_form.declared.module.DataMode.TheVariants as data_mode
use Rattle.spec_reading.specs.wasm_form.declared.module.Module.{Module}
use Rattle.spec_loading.specs.spec_execution.Activations.{Effect, TableInit, ElemDrop, MemoryInit, DataDrop}
use Rattle.spec_loading.specs.spec_execution.Segments.{effects_at, elem_applied, data_applied, elem_effects, data_effects, all_effects, segment_effects, items_count}
use Rattle.spec_loading.specs.spec_linking.Gathering.{IsSet}
use Rattle.spec_loading.specs.spec_linking.LinkedSets.{LinkedSet}
use Rattle.spec_loading.specs.spec_linking.Slots.{member_number}
use Rattle.spec_loading.specs.spec_linking.Links.{set_entry}
use Rattle.spec_loading.specs.declared.task.Phase.{Phase}
use Rattle.spec_loading.specs.declared.task.Phase.TheVariants.{Place, Start, Relocate, Construct}
use Rattle.spec_loading.specs.declared.task.Task.{Task}
use Rattle.spec_loading.specs.Phases.{stage_of, phase_function, startup_frame, open_frame}
use Rattle.wasm_encode.specs.Weight.{sum_of, code_weight}
use Rattle.merge_match.specs.Renumbering.{Numbers}
use Rattle.merge_match.specs.Moves.{effect}
use Rattle.merge_start.specs.Words.{Starts, number, on_three, effect_code, effects_code, slots_effect, member_call, work_code, guarded, phase_code, tasks_code, entry_code, open_code}
use Rattle.merge_module.specs.MergedModule.{plain_code, trap_code, phase_codes}
use Rattle.merge_module.proofs.Orders.{startup_tasks_few, open_tasks_few}
use Rattle.merge_module.proofs.Pieces.{IsStep, call_step, get_global_step, set_global_step, trap_step, operator_step, number_step, second_step, IsPiece, nothing, within, step, then_piece, in_if, IsBody, body_by}

-- ---- effects

three_piece : (to from count : ℕ) (i : Instr) → IsStep i → IsPiece 0 4 (on_three to from count i)
three_piece to from count i is = step (number_step to) (step (number_step from) (step (number_step count) (step is (nothing 0))))

effect_piece : (y : Effect) → IsPiece 0 4 (effect_code y)
effect_piece (TableInit e t to from count) = three_piece to from count (Prefixed 12 e t) (second_step 12 e t refl (λ wasm k. refl))
effect_piece (ElemDrop e) = within 0 4 (step (second_step 13 e 0 refl (λ wasm k. refl)) (nothing 0)) (omega arith) (omega arith)
effect_piece (MemoryInit d to from count) = three_piece to from count (Prefixed 8 d 0) (second_step 8 d 0 refl (λ wasm k. refl))
effect_piece (DataDrop d) = within 0 4 (step (second_step 9 d 0 refl (λ wasm k. refl)) (nothing 0)) (omega arith) (omega arith)
effect_piece _ = within 0 4 (nothing 0) (omega arith) (omega arith)

effects_piece : (n : Numbers) (m : ℕ) (ys : List Effect) → IsPiece 0 (4 * length ys) (effects_code n m ys)
effects_piece n m [] = nothing 0
effects_piece n m (y ∷ ys) = within 0 (4 * length (y ∷ ys)) (then_piece (effect_piece (effect n m y)) (effects_piece n m ys)) (omega arith) (omega arith)

at_few : (f : ℕ → List Effect) (o : Option ℕ) → ((k : ℕ) → length (f k) ≡ 2) → length (effects_at f o) ≤ 2
at_few f None two = omega arith
at_few f (Some k) two = (let it = two k in omega arith)

elem_few : (number : Expr → Option ℕ) (e : ℕ) (mode : ElemMode) (items : ElemItems) → length (elem_effects number e (record { mode = mode; items = items })) ≤ 2
elem_few number e (elem_mode.Active t offset) items = at_few (elem_applied e t (items_count items)) (number offset) (λ k. refl)
elem_few number e elem_mode.Passive items = omega arith
elem_few number e elem_mode.Declarative items = omega arith

data_few : (number : Expr → Option ℕ) (d : ℕ) (mode : DataMode) (bytes : List ℕ) → length (data_effects number d (record { mode = mode; bytes = bytes })) ≤ 2
data_few number d (data_mode.Active memory offset) bytes = at_few (data_applied d (length bytes)) (number offset) (λ k. refl)
data_few number d data_mode.Passive bytes = omega arith

all_few : {A : Type 0} (f : ℕ → A → List Effect) → ((k : ℕ) (a : A) → length (f k a) ≤ 2) → (k : ℕ) (xs : List A) → length (all_effects f k xs) ≤ 2 * length xs
all_few f each k [] = omega arith
all_few f each k (x ∷ xs) = (let here = each k x in let later = all_few f each (k + 1) xs in omega (arith, length-append (f k x) (all_effects f (k + 1) xs)))

segments_few : (number : Expr → Option ℕ) (wasm : Module) → length (segment_effects number wasm) ≤ 2 * (length wasm.elems + length wasm.datas)
segments_few number wasm =
    let elems = all_few (elem_effects number) (λ k e. elem_few number k e.mode e.items) 0 wasm.elems in
    let datas = all_few (data_effects number) (λ k d. data_few number k d.mode d.bytes) 0 wasm.datas in
    omega (arith, length-append (all_effects (elem_effects number) 0 wasm.elems) (all_effects (data_effects number) 0 wasm.datas))

-- ---- phases

call_piece : (n : Numbers) (m : ℕ) (f : Option ℕ) → IsPiece 0 1 (member_call n m f)
call_piece n m None = within 0 1 (nothing 0) (omega arith) (omega arith)
call_piece n m (Some f) = step (call_step (n.named m f)) (nothing 0)

-- how much the code of a phase of a member has
abbrev pub work_size : Phase → Module → ℕ
work_size Place wasm = 4 + 8 * (length wasm.elems + length wasm.datas)
work_size Start wasm = 1
work_size Relocate wasm = 1
work_size Construct wasm = 1

guarded_piece : (g stage size : ℕ) (work : List Instr) → IsPiece 0 size work → IsPiece 1 (size + 6) (guarded g stage work)
unfolding guarded
guarded_piece g stage size work p =
    within 1 (size + 6)
    (step (get_global_step g) (step (number_step stage) (step (operator_step 0x49 refl (λ wasm k. refl)) (in_if (step (number_step stage) (step (set_global_step g) p)) (nothing 1)))))
    (omega arith) (omega arith)

module _ (L : LinkedSet) (n : Numbers) (x : Starts) where
  work_piece : (m : ℕ) (wasm : Module) (p : Phase) → IsPiece 0 (work_size p wasm) (work_code L n x m wasm p)
  work_piece m wasm Place =
      let few = segments_few (member_number L m) wasm in
      within 0 (4 + 8 * (length wasm.elems + length wasm.datas)) (then_piece (effects_piece n m (segment_effects (member_number L m) wasm)) (effect_piece (slots_effect L x m))) (omega arith) (omega arith)
  work_piece m wasm Start = call_piece n m (phase_function Start m wasm)
  work_piece m wasm Relocate = call_piece n m (phase_function Relocate m wasm)
  work_piece m wasm Construct = call_piece n m (phase_function Construct m wasm)

  pub phase_body : (m : ℕ) (wasm : Module) (p : Phase) → IsBody (work_size p wasm + 11) (plain_code (phase_code L n x m wasm p))
  phase_body m wasm p =
      let is = body_by 1 (work_size p wasm + 6) (plain_code (phase_code L n x m wasm p)) (guarded_piece (x.guards + m) (stage_of p) (work_size p wasm) (work_code L n x m wasm p) (work_piece m wasm p)) (omega arith) (omega arith) (omega arith) refl in
      let light = is.light in
      record { formed = is.formed; supported = is.supported; light = omega arith }

  pub phases_light : (m : ℕ) (wasm : Module) → sum_of code_weight (phase_codes L n x m wasm) ≤ 51 + 8 * (length wasm.elems + length wasm.datas)
  phases_light m wasm =
      let place = (phase_body m wasm Place).light in
      let start = (phase_body m wasm Start).light in
      let relocate = (phase_body m wasm Relocate).light in
      let construct = (phase_body m wasm Construct).light in
      omega arith

  -- ---- frames

  tasks_piece : (tasks : List Task) → IsPiece 0 (length tasks) (tasks_code x tasks)
  tasks_piece [] = nothing 0
  tasks_piece (task ∷ tasks) = step (call_step (x.phase task.member task.phase)) (tasks_piece tasks)

  module _ (set : IsSet L.set) where
    pub entry_body : IsBody (4 * length L.set.members + 6) (plain_code (entry_code L n x))
    entry_body =
        let few = startup_tasks_few L set in
        let is = body_by 0 (4 * length L.set.members + 1) (plain_code (entry_code L n x))
        (within 0 (4 * length L.set.members + 1) (then_piece (tasks_piece (startup_frame L.set).tasks) (call_piece n 0 (set_entry L.set.members))) (omega arith) (omega arith)) (omega arith) (omega arith) (omega arith) refl in
        let light = is.light in
        record { formed = is.formed; supported = is.supported; light = omega arith }

    pub open_body : (m : ℕ) → m < length L.set.members → IsBody (4 * length L.set.members + 6) (plain_code (open_code L n x m))
    open_body m lt =
        let few = open_tasks_few L set m lt in
        let is = body_by 0 (4 * length L.set.members + 1) (plain_code (open_code L n x m))
        (within 0 (4 * length L.set.members + 1) (then_piece (tasks_piece (open_frame L.set m).tasks) (step (number_step (m + 1)) (nothing 0))) (omega arith) (omega arith)) (omega arith) (omega arith) (omega arith) refl in
        let light = is.light in
        record { formed = is.formed; supported = is.supported; light = omega arith }

-- a stub
pub trap_body : IsBody 6 trap_code
trap_body = body_by 0 1 trap_code (step trap_step (nothing 0)) (omega arith) (omega arith) (omega arith) refl
