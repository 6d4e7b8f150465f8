-- The numbers that generated code names, as lists, and what is made by them.
-- Serves the contracts of this crate, which follow Words of `merge_start`.
use Rattle.std.specs.Prelude.{◌≡◌, ℕ, ◌+◌, ◌-◌, ◌*◌, ◌<◌, ◌^◌, List, [], ◌∷◌, ◌++◌, length, slice_get, nat_lt, Option, Some, option_map, if◌then◌else◌}
use Rattle.wasm_form.specs.declared.types.ValType.{ValType}
use Rattle.wasm_form.specs.declared.types.ValType.TheVariants.{I32}
use Rattle.wasm_form.specs.declared.instr.Instr.{Instr}
use Rattle.wasm_form.specs.declared.module.Module.{Module}
use Rattle.spec_loading.specs.spec_binary.Options.{◌>>=◌}
use Rattle.spec_loading.specs.spec_binary.IndexSpaces.{table_space}
use Rattle.spec_loading.specs.spec_execution.Activations.{TableInit}
use Rattle.spec_loading.specs.spec_execution.Segments.{segment_effects}
use Rattle.spec_loading.specs.spec_linking.LinkedSets.{LinkedSet, wasm_of}
use Rattle.spec_loading.specs.spec_linking.Links.{set_entry}
use Rattle.spec_loading.specs.declared.task.Phase.{Phase}
use Rattle.spec_loading.specs.declared.task.Phase.TheVariants.{Place, Start, Relocate, Construct}
use Rattle.spec_loading.specs.Phases.{stage_of, phase_function}
use Rattle.spec_loading.specs.Addresses.{sum_before}
use Rattle.dyl_addresses.specs.Bases.{AreBases}
use Rattle.dyl_addresses.specs.Offsets.{number_with}
use Rattle.merge_match.specs.Renumbering.{Numbers}
use Rattle.merge_match.specs.Parts.{nowhere, number_of}
use Rattle.merge_pieces.specs.Code as pieces
pub use Rattle.merge_pieces.specs.Code.{AreFew}
use Rattle.merge_start.specs.Words.{Starts, effect_code, effects_code, call_code, guarded, phase_code, open_code}
use Rattle.merge_start.specs.declared.numbers.StartNumbers.{StartNumbers}
use Rattle.merge_start.specs.declared.numbers.Span.{Span}
use Rattle.merge_start.specs.declared.numbers.Spans.{Spans}
use Rattle.merge_start.specs.declared.numbers.Places.{Places}
use Rattle.merge_start.specs.declared.phases.Slots.{Slots}
use Rattle.wasm_form.specs.declared.module.Part.{Part}

-- ---- lists

-- item i of so many that stand in a list from a place on
abbrev pub in_part : List ℕ → ℕ → ℕ → ℕ → ℕ
in_part list first count i = if nat_lt i count then number_of (slice_get list (first + i)) else nowhere

abbrev pub item : List ℕ → Span → ℕ → ℕ
item list s i = in_part list s.first s.count i

abbrev pub fits : Span → Type 0
fits s = s.first + s.count < 2 ^ 64

abbrev pub Fit : Spans → Type 0
Fit at = fits at.elems × fits at.datas × fits at.tables

-- the numbers of a member's segments and tables, by where these stand in the lists
abbrev pub numbers_at : StartNumbers → Spans → Numbers
numbers_at n at = record {
  function = λ r. nowhere;
  named = λ m f. nowhere;
  ty = λ m t. nowhere;
  global = λ m g. nowhere;
  table = λ m t. item n.tables at.tables t;
  elem = λ m e. item n.elems at.elems e;
  segment = λ m d. item n.datas at.datas d;
}

-- ---- where the numbers of members stand

-- those of a member that begin at these places
abbrev pub spans_at : Places → Module → Spans
spans_at at wasm = record {
  elems = record { first = at.elems; count = length wasm.elems };
  datas = record { first = at.datas; count = length wasm.datas };
  tables = record { first = at.tables; count = length (table_space wasm) };
}

-- the places behind these
abbrev pub behind : Spans → Places
behind s = record {
  elems = s.elems.first + s.elems.count;
  datas = s.datas.first + s.datas.count;
  tables = s.tables.first + s.tables.count;
}

-- member m begins there
pub record IsAt (L : LinkedSet) (m : ℕ) (at : Places) : Type 0 where
  pub elems : at.elems ≡ sum_before (λ w. length w.elems) L.set.members m
  pub datas : at.datas ≡ sum_before (λ w. length w.datas) L.set.members m
  pub tables : at.tables ≡ sum_before (λ w. length (table_space w)) L.set.members m

-- how many element segments there are, beside so many
abbrev pub elems_total : ℕ → List Module → ℕ
elems_total start [] = start
elems_total start (x ∷ xs) = elems_total (start + length x.elems) xs

-- ---- parts

-- a function without parameters and locals
abbrev pub part_of : List ValType → List Instr → Part
part_of results is = record { ty = record { params = []; results = results }; code = record { locals = []; body = record { list = is } } }

abbrev pub nullary_part : List Instr → Part
nullary_part is = part_of [] is

-- a function that gives a handle
abbrev pub handle_part : List Instr → Part
handle_part is = part_of (I32 ∷ []) is

-- the code that places a member, by where its numbers stand
abbrev pub placed_with : StartNumbers → Spans → List (Option ℕ) → ℕ → ℕ → ℕ → Module → List Instr
placed_with n at bases slots first count wasm =
    effects_code (numbers_at n at) 0 (segment_effects (number_with bases) wasm) ++ effect_code (TableInit slots 0 first 0 count)

abbrev pub call_at : List (Option ℕ) → ℕ → Option ℕ
call_at calls k = slice_get calls k >>= λ f. f

-- the function of the phase after so many of a member, which calls what is listed for it
abbrev pub calling_part : StartNumbers → ℕ → ℕ → Part
calling_part n m before = nullary_part (guarded (n.guard + m) (before + 1) (call_code (call_at n.calls (4 * m + before))))

-- the four functions of a member, by the code that places it
abbrev pub parts_of : StartNumbers → ℕ → List Instr → List Part
parts_of n m place =
    nullary_part (guarded (n.guard + m) 1 place) ∷ calling_part n m 1 ∷ calling_part n m 2 ∷ calling_part n m 3 ∷ []

-- ---- a set

-- The lists are those of numbers of a set: of each member in set order, those of its element segments, its data segments, its tables, imported
-- ones too; behind the element segments the segment of the fresh slots of each member, whatever its number is; and for each phase of each member what it calls.
pub record AreListed (L : LinkedSet) (s : StartNumbers) (n : Numbers) (x : Starts) : Type 0 where
  pub guards : x.guards ≡ s.guard
  pub phases : (m : ℕ) (p : Phase) → x.phase m p ≡ s.first_function + 4 * m + (stage_of p - 1)
  pub calls : (m : ℕ) (p : Phase) (wasm : Module) → wasm_of L m ≡ Some wasm
      → slice_get s.calls (4 * m + (stage_of p - 1)) ≡ Some (option_map (n.named m) (phase_function p m wasm))
  pub entry : (f : ℕ) → set_entry L.set.members ≡ Some f → n.named 0 f ≡ s.entry
  pub elems : (m e : ℕ) (wasm : Module) → wasm_of L m ≡ Some wasm
      → n.elem m e ≡ in_part s.elems (sum_before (λ w. length w.elems) L.set.members m) (length wasm.elems) e
  pub slots : (m : ℕ) → m < length L.set.members
      → x.slots m ≡ number_of (slice_get s.elems (sum_before (λ w. length w.elems) L.set.members (length L.set.members) + m))
  pub datas : (m d : ℕ) (wasm : Module) → wasm_of L m ≡ Some wasm
      → n.segment m d ≡ in_part s.datas (sum_before (λ w. length w.datas) L.set.members m) (length wasm.datas) d
  pub tables : (m t : ℕ) (wasm : Module) → wasm_of L m ≡ Some wasm
      → n.table m t ≡ in_part s.tables (sum_before (λ w. length (table_space w)) L.set.members m) (length (table_space wasm)) t

-- the functions of the phases of member m
abbrev pub phase_parts : LinkedSet → Numbers → Starts → ℕ → Module → List Part
phase_parts L n x m wasm =
    nullary_part (phase_code L n x m wasm Place) ∷ nullary_part (phase_code L n x m wasm Start)
    ∷ nullary_part (phase_code L n x m wasm Relocate) ∷ nullary_part (phase_code L n x m wasm Construct) ∷ []

-- the four functions of member m are made of what stands in the lists
abbrev pub IsMadeOf : LinkedSet → StartNumbers → ℕ → Spans → Slots → List Part → Type 0
IsMadeOf L s m spans slots parts = (wasm : Module) → wasm_of L m ≡ Some wasm
    → (bases : List (Option ℕ)) × AreBases L m bases
    × (parts ≡ parts_of s m (placed_with s spans bases slots.segment slots.first slots.count wasm))

-- ---- calls

-- the functions of the phase after so many are called for some members, in order
abbrev pub phase_calls : StartNumbers → ℕ → List ℕ → List Instr
phase_calls s before ms = pieces.phase_calls s.first_function before ms

-- the functions of the phases of some members, the last of them in an order of its own, and then an instruction
abbrev pub opening_with : StartNumbers → List ℕ → List ℕ → Instr → List Instr
opening_with s breadth post last = pieces.opening_code s.first_function breadth post last

-- ---- what opens a member

abbrev pub open_parts : LinkedSet → Numbers → Starts → ℕ → Module → List Part
open_parts L n x m wasm = handle_part (open_code L n x m) ∷ []
