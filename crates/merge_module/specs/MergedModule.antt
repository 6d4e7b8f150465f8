-- The module that is written for a linked set, part by part.
-- This profile: docs/FORMATS.md, "What merge writes".
use Rattle.std.specs.Prelude.{ℕ, ◌+◌, ◌*◌, true, false, List, [], ◌∷◌, ◌++◌, length, map, replicate, slice_get, nat_eq, Bool, Option, Some, None, unwrap_or, if◌then◌else◌}
use Rattle.std.specs.Int.{cast_signed, w64}
use Rattle.std.specs.List.{flat_map, find, list_any, position_or_len, range_with_len}
use Rattle.spec_reading.specs.wasm_form.declared.types.ValType.{ValType}
use Rattle.spec_reading.specs.wasm_form.declared.types.ValType.TheVariants.{I32, I64, FuncRef}
use Rattle.spec_reading.specs.wasm_form.declared.types.FuncType.{FuncType}
use Rattle.spec_reading.specs.wasm_form.declared.types.TableType.{TableType}
use Rattle.spec_reading.specs.wasm_form.declared.instr.Instr.{Instr, Index, I64Const, RefNull, roll-Instr}
use Rattle.spec_reading.specs.wasm_form.declared.instr.Instr.TheOpen as Open
use Rattle.spec_reading.specs.wasm_form.declared.instr.Expr.{Expr}
use Rattle.spec_reading.specs.wasm_form.declared.module.ImportDesc.TheVariants as imported
use Rattle.spec_reading.specs.wasm_form.declared.module.Import.{Import}
use Rattle.spec_reading.specs.wasm_form.declared.module.GlobalDef.{GlobalDef}
use Rattle.spec_reading.specs.wasm_form.declared.module.ExportDesc.{ExportDesc}
use Rattle.spec_reading.specs.wasm_form.declared.module.ExportDesc.TheVariants as exported
use Rattle.spec_reading.specs.wasm_form.declared.module.Export.{Export}
use Rattle.spec_reading.specs.wasm_form.declared.module.ElemMode.{ElemMode}
use Rattle.spec_reading.specs.wasm_form.declared.module.ElemMode.TheVariants as elem_mode
use Rattle.spec_reading.specs.wasm_form.declared.module.ElemItems.TheVariants as elem_items
use Rattle.spec_reading.specs.wasm_form.declared.module.Elem.{Elem}
use Rattle.spec_reading.specs.wasm_form.declared.module.Code.{Code}
use Rattle.spec_reading.specs.wasm_form.declared.module.DataMode.TheVariants as data_mode
use Rattle.spec_reading.specs.wasm_form.declared.module.Data.{Data}
use Rattle.spec_reading.specs.wasm_form.declared.module.Module.{Module}
use Rattle.spec_reading.specs.wasm_form.declared.runtime.LoaderCall.TheVariants.{Dlopen, Dlsym, Dlclose, Dlerror}
use Rattle.spec_reading.specs.wasm_form.declared.runtime.Ref.{Ref}
use Rattle.spec_reading.specs.wasm_form.declared.runtime.Ref.TheVariants.{Own, Loader, Host, Stub}
use Rattle.spec_reading.specs.wasm_form.declared.runtime.Value.{Value}
use Rattle.spec_reading.specs.wasm_form.declared.runtime.Value.TheVariants.{Num, Func}
use Rattle.spec_reading.specs.spec_binary.Options.{◌>>=◌}
use Rattle.spec_reading.specs.spec_binary.Indices.{nullary}
use Rattle.spec_reading.specs.spec_binary.IndexSpaces.{function_space, imported_count}
use Rattle.spec_reading.specs.spec_binary.SameTypes.{same_function_type}
use Rattle.spec_loading.specs.spec_runtime.Names.{HostName}
use Rattle.spec_loading.specs.spec_linking.LinkedSets.{LinkedSet, hosts_of, function_ref}
use Rattle.spec_loading.specs.spec_linking.Slots.{linked_plan, memory_base, table_base, cells_of, cell_value, fresh_functions, outside_slots}
use Rattle.spec_loading.specs.Texts.{error_texts}
use Rattle.spec_loading.specs.declared.task.Phase.TheVariants.{Place, Start, Relocate, Construct}
use Rattle.spec_loading.specs.Members.{from_members, uses_loader, opened_global}
use Rattle.merge_pieces.specs.Opcodes as op
use Rattle.merge_match.specs.Renumbering.{Numbers, expr}
use Rattle.merge_match.specs.Parts.{number_of}
use Rattle.merge_match.specs.Joined.{renumbered_code, type_address}
use Rattle.merge_start.specs.Words.{Starts, number, phase_code, entry_code, open_code}
use Rattle.merge_dl.specs.Words.{Finders, handle_type, unary_type, binary_type, search_type, length_body, find_body, call_body}
use Rattle.merge_index.specs.Numbering.{stubs_of, length_number, first_find, numbers_of, starts_of}
pub use Rattle.merge_start.specs.Passive.{passive_mode, renumbered_items, passive_elem, renumbered_elems, functions_elem, slots_elem, passive_elems, passive_data, passive_datas}
pub use Rattle.merge_module.specs.Shape.{shared_table_type, shared_memory_type, entry_exports}

-- what each member has, one after the other
abbrev of_members : {X : Type 0} → LinkedSet → (ℕ → Module → List X) → List X
of_members L of = from_members of 0 L.set.members

-- what is there where a member uses the loader
abbrev pub with_loader : {X : Type 0} → LinkedSet → List X → List X
with_loader L xs = if uses_loader L then xs else []

-- ---- types and imports

abbrev pub members_types : LinkedSet → List FuncType
members_types L = of_members L (λ m wasm. wasm.types)

-- behind those of the members come the types of generated functions
abbrev pub nullary_number : LinkedSet → ℕ
nullary_number L = length (members_types L)

-- those of the functions of the loader, and of what they call
abbrev pub loader_types : LinkedSet → List FuncType
loader_types L = with_loader L (handle_type ∷ unary_type ∷ binary_type ∷ search_type ∷ [])

abbrev pub handle_number : LinkedSet → ℕ
handle_number L = nullary_number L + 1

abbrev pub unary_number : LinkedSet → ℕ
unary_number L = nullary_number L + 2

abbrev pub binary_number : LinkedSet → ℕ
binary_number L = nullary_number L + 3

abbrev pub search_number : LinkedSet → ℕ
search_number L = nullary_number L + 4

abbrev pub generated_functions_types : LinkedSet → List FuncType
generated_functions_types L = nullary ∷ loader_types L

-- the host function that an imported function is, with the number of its type
abbrev pub host_use : Option Ref → ℕ → List (ℕ × ℕ)
host_use (Some (Host e)) t = (e, t) ∷ []
host_use (Some (Own m f)) t = []
host_use (Some (Loader which)) t = []
host_use (Some (Stub m f)) t = []
host_use None t = []

-- the number of the type of function f of member m
abbrev pub function_type_number : LinkedSet → ℕ → Module → ℕ → ℕ
function_type_number L m wasm f = number_of (type_address L m (unwrap_or (slice_get (function_space wasm) f) 0))

-- the host functions that functions which member m imports are, with the numbers of their types
abbrev pub host_uses : LinkedSet → ℕ → Module → List (ℕ × ℕ)
host_uses L m wasm = flat_map (λ f. host_use (function_ref L m f) (function_type_number L m wasm f)) (range_with_len 0 (imported_count wasm))

-- what the first of some that are host function e gives
abbrev pub use_among : List (ℕ × ℕ) → ℕ → Option ℕ
use_among uses e = find (λ (u : ℕ × ℕ). nat_eq u.0 e) uses >>= λ (u : ℕ × ℕ). Some u.1

-- the number of the type of the first imported function that is host function e, if there is one
abbrev pub first_use : LinkedSet → ℕ → Option ℕ
first_use L e = use_among (of_members L (host_uses L)) e

-- a type that is added behind some, if it isn't one of these
abbrev pub with_type : List FuncType → Option ℕ → FuncType → List FuncType
with_type known (Some t) ty = known
with_type known None ty = if list_any (same_function_type ty) known then known else known ++ ty ∷ []

-- those of the host functions, which are numbered from e on, that no imported function is
abbrev pub types_added : (ℕ → Option ℕ) → List FuncType → ℕ → List HostName → List FuncType
types_added given known e [] = known
types_added given known e (h ∷ hs) = types_added given (with_type known (given e) h.ty) (e + 1) hs

-- Host functions that no imported function is are asked for by `GOT.func` alone. Their types come last, each once.
abbrev pub added_types : LinkedSet → List FuncType
added_types L = types_added (first_use L) [] 0 (hosts_of L)

abbrev pub first_added : LinkedSet → ℕ
first_added L = nullary_number L + length (generated_functions_types L)

abbrev pub merged_types : LinkedSet → List FuncType
merged_types L = members_types L ++ (generated_functions_types L ++ added_types L)

-- a number that is given, or else that of the type among those that are added, which have their numbers from one on
abbrev pub type_number : ℕ → List FuncType → Option ℕ → FuncType → ℕ
type_number first added (Some t) ty = t
type_number first added None ty = first + position_or_len (same_function_type ty) added

-- The number of the type of host function e is that of the first imported function that is this host function.
abbrev pub host_type_number : LinkedSet → ℕ → FuncType → ℕ
host_type_number L e ty = type_number (first_added L) (added_types L) (first_use L e) ty

-- host functions, which are numbered from e on, with these numbers of their types
abbrev pub host_imports : (ℕ → FuncType → ℕ) → ℕ → List HostName → List Import
host_imports t e [] = []
host_imports t e (h ∷ hs) = record { «module» = h.module_name; field = h.name; desc = imported.Func (t e h.ty) } ∷ host_imports t (e + 1) hs

abbrev pub merged_imports : LinkedSet → List Import
merged_imports L = host_imports (host_type_number L) 0 (hosts_of L)

-- ---- functions

-- the types of the functions that stand for the imports of member m which nothing defines
abbrev pub stub_types : LinkedSet → Numbers → ℕ → Module → List ℕ
stub_types L n m wasm = map (λ f. n.ty m (unwrap_or (slice_get (function_space wasm) f) 0)) (stubs_of L m wasm)

-- What opens each member, what gives the length of a string, what searches each member, and dlopen, dlsym, dlclose and dlerror.
abbrev pub loader_funcs : LinkedSet → List ℕ
loader_funcs L =
    replicate (length L.set.members) (handle_number L)
    ++ unary_number L ∷ (replicate (length L.set.members) (search_number L)
    ++ binary_number L ∷ binary_number L ∷ unary_number L ∷ handle_number L ∷ [])

-- the four phases of each member, those of the loader, and the entry function
abbrev pub generated_types : LinkedSet → List ℕ
generated_types L = replicate (4 * length L.set.members) (nullary_number L) ++ (with_loader L (loader_funcs L) ++ nullary_number L ∷ [])

abbrev pub merged_funcs : LinkedSet → Numbers → List ℕ
merged_funcs L n = of_members L (λ m wasm. map (n.ty m) wasm.funcs) ++ (of_members L (stub_types L n) ++ generated_types L)

-- a body that declares no locals
abbrev pub plain_code : List Instr → Code
plain_code is = record { locals = []; body = record { list = is } }

-- a call of what nothing defines traps
abbrev pub trap_code : Code
trap_code = plain_code (roll-Instr (Open.Plain op.unreachable) ∷ [])

abbrev pub stub_codes : LinkedSet → ℕ → Module → List Code
stub_codes L m wasm = map (λ f. trap_code) (stubs_of L m wasm)

abbrev pub phase_codes : LinkedSet → Numbers → Starts → ℕ → Module → List Code
phase_codes L n x m wasm =
    plain_code (phase_code L n x m wasm Place) ∷ plain_code (phase_code L n x m wasm Start)
    ∷ plain_code (phase_code L n x m wasm Relocate) ∷ plain_code (phase_code L n x m wasm Construct) ∷ []

-- the number of the error comes behind the guards
abbrev pub finders_of : LinkedSet → Starts → Finders
finders_of L x = record {
  error = x.guards + length L.set.members;
  length = length_number L;
  find = λ m. first_find L + m;
}

abbrev pub open_codes : LinkedSet → Numbers → Starts → List Code
open_codes L n x = of_members L (λ m wasm. plain_code (open_code L n x m) ∷ [])

abbrev pub find_codes : LinkedSet → List Code
find_codes L = of_members L (λ m wasm. find_body L m wasm ∷ [])

abbrev pub call_codes : LinkedSet → Starts → List Code
call_codes L x =
    call_body L x (finders_of L x) Dlopen ∷ call_body L x (finders_of L x) Dlsym ∷ call_body L x (finders_of L x) Dlclose
    ∷ call_body L x (finders_of L x) Dlerror ∷ []

abbrev pub loader_codes : LinkedSet → Numbers → Starts → List Code
loader_codes L n x = open_codes L n x ++ length_body ∷ (find_codes L ++ call_codes L x)

abbrev pub merged_codes : LinkedSet → Numbers → Starts → List Code
merged_codes L n x =
    of_members L (λ m wasm. map (renumbered_code n m) wasm.codes)
    ++ (of_members L (stub_codes L)
    ++ (of_members L (phase_codes L n x)
    ++ (with_loader L (loader_codes L n x) ++ plain_code (entry_code L n x) ∷ [])))

-- ---- tables

abbrev pub merged_tables : LinkedSet → List TableType
merged_tables L = shared_table_type L ∷ of_members L (λ m wasm. wasm.tables)

-- ---- globals

abbrev pub number_expr : ℕ → Expr
number_expr k = record { list = number k ∷ [] }

-- an i32 that begins with this number, and may be set or may not
abbrev pub number_global : Bool → ℕ → GlobalDef
number_global may_be_set k = record { ty = record { value = I32; mutable = may_be_set }; init = number_expr k }

-- a constant of a type
abbrev pub constant_instr : Numbers → ValType → Value → Instr
constant_instr n I64 (Num k) = I64Const (cast_signed w64 k)
constant_instr n _ (Num k) = number k
constant_instr n _ (Func None) = RefNull FuncRef
constant_instr n _ (Func (Some r)) = Index op.ref_func (n.function r)

-- a global that member m defines begins with its value
abbrev pub own_global : LinkedSet → Numbers → ℕ → GlobalDef → GlobalDef
own_global L n m g = record g { init = record { list = constant_instr n g.ty.value (opened_global L m g) ∷ [] } }

-- the bases of a member, its cells and its own globals
abbrev pub member_globals : LinkedSet → Numbers → ℕ → Module → List GlobalDef
member_globals L n m wasm =
    number_global false (unwrap_or (memory_base L m) 0) ∷ number_global false (unwrap_or (table_base L m) 0)
    ∷ (map (λ c. number_global true (cell_value L m c)) (cells_of wasm) ++ map (own_global L n m) wasm.globals)

-- one that begins with 0 for each member
abbrev pub zero_globals : LinkedSet → List GlobalDef
zero_globals L = map (λ m. number_global true 0) L.set.members

-- the number of the error, how many members are promoted, and the place of each member among these
abbrev pub loader_globals : LinkedSet → List GlobalDef
loader_globals L = number_global true 0 ∷ number_global true 0 ∷ zero_globals L

-- the guards begin with 0, and so do the globals of the loader
abbrev pub guard_globals : LinkedSet → List GlobalDef
guard_globals L = zero_globals L ++ with_loader L (loader_globals L)

abbrev pub merged_globals : LinkedSet → Numbers → List GlobalDef
merged_globals L n = number_global true (linked_plan L).stack_top ∷ (of_members L (member_globals L n) ++ guard_globals L)

-- ---- element segments

-- functions outside the members that have slots stand in the table from the beginning
abbrev pub outside_elem : LinkedSet → Numbers → Elem
outside_elem L n =
    functions_elem n (elem_mode.Active 0 (number_expr ((linked_plan L).table_end + length (fresh_functions L)))) (outside_slots L)

-- the functions that exports name
abbrev pub named_functions : ExportDesc → List ℕ
named_functions (exported.Func f) = f ∷ []
named_functions (exported.Table t) = []
named_functions (exported.Space k) = []
named_functions (exported.Global g) = []

abbrev pub exported_functions : Module → List ℕ
exported_functions wasm = flat_map (λ (e : Export). named_functions e.desc) wasm.exports

-- code may refer to those that members export
abbrev pub declared_elem : LinkedSet → Numbers → Elem
declared_elem L n = record {
  mode = elem_mode.Declarative;
  items = elem_items.Funcs (of_members L (λ m wasm. map (n.named m) (exported_functions wasm)));
}

abbrev pub merged_elems : LinkedSet → Numbers → List Elem
merged_elems L n =
    of_members L (renumbered_elems n)
    ++ (of_members L (λ m wasm. slots_elem L n m ∷ []) ++ outside_elem L n ∷ declared_elem L n ∷ [])

-- ---- data segments

-- the error texts stand in the memory from the beginning
abbrev pub texts_segment : LinkedSet → Data
texts_segment L = record { mode = data_mode.Active 0 (number_expr (linked_plan L).stack_top); bytes = error_texts }

abbrev pub merged_datas : LinkedSet → List Data
merged_datas L = passive_datas L ++ texts_segment L ∷ []

-- ---- the whole

abbrev pub module_with : LinkedSet → Numbers → Starts → Module
module_with L n x = record {
  types = merged_types L;
  imports = merged_imports L;
  funcs = merged_funcs L n;
  tables = merged_tables L;
  memories = shared_memory_type L ∷ [];
  globals = merged_globals L n;
  exports = entry_exports x.starting;
  start = None;
  elems = merged_elems L n;
  data_count = Some (length (merged_datas L));
  codes = merged_codes L n x;
  datas = merged_datas L;
  customs = [];
}

-- The merged module of a linked set. It imports the set's host functions. Functions, types, globals, tables and segments of the members
-- come one after the other, by their numbers; segments are passive, for they are applied when their member is placed. Behind them come what
-- stands for imports that nothing defines, a function for each phase of each member and one that calls these for main and then the entry,
-- a guard for each member, which says how far it has come, and the segments of fresh slots. Where a member uses the loader, there are its
-- functions, with what they call, the number of the last error, and the members that are promoted.
abbrev pub merged_module : LinkedSet → Module
merged_module L = module_with L (numbers_of L) (starts_of L)
