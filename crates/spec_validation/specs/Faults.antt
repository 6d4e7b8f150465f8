-- The first fault of a module (WebAssembly Core 2.0, section 3.4, and what this profile supports).
use Rattle.std.specs.Prelude.{ℕ, ◌+◌, length, ◌&&◌, ◌||◌, not, nat_eq, nat_le, nat_lt, Bool, true, false, List, [], ◌∷◌, ◌++◌, slice_get, Option, Some, None, is_some, if◌then◌else◌, bytes_eq}
use Rattle.std.specs.List.{list_all, list_any}
use Rattle.spec_binary.specs.wasm_form.declared.types.ValType.{ValType}
use Rattle.spec_binary.specs.wasm_form.declared.types.ValType.TheVariants.{I32, I64, FuncRef}
use Rattle.spec_binary.specs.wasm_form.declared.types.FuncType.{FuncType}
use Rattle.spec_binary.specs.wasm_form.declared.types.Limits.{Limits}
use Rattle.spec_binary.specs.wasm_form.declared.types.TableType.{TableType}
use Rattle.spec_binary.specs.wasm_form.declared.types.GlobalType.{GlobalType}
use Rattle.spec_binary.specs.wasm_form.declared.instr.BlockType.{BlockType}
use Rattle.spec_binary.specs.wasm_form.declared.instr.BlockType.TheVariants as block
use Rattle.spec_binary.specs.wasm_form.declared.instr.Instr.{Instr, out-Instr, fold-Instr}
use Rattle.spec_binary.specs.wasm_form.declared.instr.Instr.TheOpen as Open
use Rattle.spec_binary.specs.wasm_form.declared.instr.Expr.{Expr}
use Rattle.spec_binary.specs.wasm_form.declared.module.ImportDesc.{ImportDesc}
use Rattle.spec_binary.specs.wasm_form.declared.module.ImportDesc.TheVariants as imported
use Rattle.spec_binary.specs.wasm_form.declared.module.Import.{Import}
use Rattle.spec_binary.specs.wasm_form.declared.module.GlobalDef.{GlobalDef}
use Rattle.spec_binary.specs.wasm_form.declared.module.ExportDesc.{ExportDesc}
use Rattle.spec_binary.specs.wasm_form.declared.module.ExportDesc.TheVariants as exported
use Rattle.spec_binary.specs.wasm_form.declared.module.Export.{Export}
use Rattle.spec_binary.specs.wasm_form.declared.module.ElemMode.{ElemMode}
use Rattle.spec_binary.specs.wasm_form.declared.module.ElemMode.TheVariants as element
use Rattle.spec_binary.specs.wasm_form.declared.module.ElemItems.{ElemItems}
use Rattle.spec_binary.specs.wasm_form.declared.module.ElemItems.TheVariants.{Funcs, Exprs}
use Rattle.spec_binary.specs.wasm_form.declared.module.Elem.{Elem}
use Rattle.spec_binary.specs.wasm_form.declared.module.Group.{Group}
use Rattle.spec_binary.specs.wasm_form.declared.module.Code.{Code}
use Rattle.spec_binary.specs.wasm_form.declared.module.DataMode.{DataMode}
use Rattle.spec_binary.specs.wasm_form.declared.module.DataMode.TheVariants as data_mode
use Rattle.spec_binary.specs.wasm_form.declared.module.Data.{Data}
use Rattle.spec_binary.specs.wasm_form.declared.module.Module.{Module}
use Rattle.spec_binary.specs.wasm_form.declared.index.IndexForm.{IndexForm}
use Rattle.spec_binary.specs.wasm_form.declared.index.IndexForm.TheVariants.{RefFunc, GlobalGet}
use Rattle.spec_binary.specs.wasm_form.Ranges.{within}
use Rattle.spec_binary.specs.wasm_form.Index.{index_form}
use Rattle.spec_binary.specs.Options.{◌>>=◌}
use Rattle.spec_binary.specs.Constants.{is_constant_operator}
use Rattle.spec_binary.specs.SameTypes.{same_type}
use Rattle.spec_binary.specs.IndexSpaces.{imports_of, globals_in, function_space, table_space, memory_space, global_space}
use Rattle.spec_binary.specs.Indices.{function_type, declared_locals, nullary_at}
use Rattle.spec_validation.specs.declared.fault.Place.TheVariants as place
use Rattle.spec_validation.specs.declared.fault.Field.TheVariants as field
use Rattle.spec_validation.specs.declared.fault.CheckFault.{CheckFault}
use Rattle.spec_validation.specs.declared.fault.CheckFault.TheVariants.{UnsupportedOp, UnsupportedType, BadModule, BadBody}
use Rattle.spec_validation.specs.Context.{Context}
use Rattle.spec_validation.specs.Typing.{height}

-- What is found at fault first, if anything. The body with a number has the opcode of a fault; one behind the byte 0xFC is counted from
-- 0xFC00. Want of memory is no fault of a module: no definition gives it.
abbrev pub Finding : Type 0
Finding = Option CheckFault

-- the one, or else the other
infixr 10 ◌or_else◌
abbrev pub ◌or_else◌ : Finding → Finding → Finding
None or_else later = later
(Some fault) or_else later = Some fault

-- the first fault of the elements, which are numbered from n
abbrev pub first_in : {A : Type 0} → (ℕ → A → Finding) → ℕ → List A → Finding
first_in find n [] = None
first_in find n (x ∷ xs) = find n x or_else first_in find (n + 1) xs

abbrev pub unless : Bool → CheckFault → Finding
unless holds fault = if holds then None else Some fault

-- ---- what is not supported: other types than i32, i64 and funcref, and floats

abbrev pub is_supported : ValType → Bool
is_supported I32 = true
is_supported I64 = true
is_supported FuncRef = true
is_supported _ = false

abbrev pub is_function_supported : FuncType → Bool
is_function_supported f = list_all is_supported f.params && list_all is_supported f.results

-- a type number out of range is passed over
abbrev pub type_supported : Module → ℕ → Bool
type_supported m t = named (slice_get m.types t)
  where
    named : Option FuncType → Bool
    named None = true
    named (Some f) = is_function_supported f

abbrev pub desc_supported : Module → ImportDesc → Bool
desc_supported m (imported.Func t) = type_supported m t
desc_supported m (imported.Table ty) = is_supported ty.elem
desc_supported m (imported.Space limits) = true
desc_supported m (imported.Global ty) = is_supported ty.value

abbrev pub import_supported : Module → ℕ → Import → Finding
import_supported m n i = unless (desc_supported m i.desc) (UnsupportedType (place.Import n))

abbrev pub function_supported : Module → ℕ → ℕ → Finding
function_supported m n t = unless (type_supported m t) (UnsupportedType (place.Function n))

abbrev pub table_supported : ℕ → TableType → Finding
table_supported n ty = unless (is_supported ty.elem) (UnsupportedType (place.Table n))

abbrev pub global_supported : ℕ → GlobalDef → Finding
global_supported n g = unless (is_supported g.ty.value) (UnsupportedType (place.Global n))

abbrev pub item_type : ElemItems → ValType
item_type (Funcs ns) = FuncRef
item_type (Exprs t es) = t

abbrev pub elem_supported : ℕ → Elem → Finding
elem_supported n s = unless (is_supported (item_type s.items)) (UnsupportedType (place.Element n))

-- the opcodes without a second one whose instructions load, store or compute floats
abbrev pub is_float_opcode : ℕ → Bool
is_float_opcode op =
    within 0x2A 0x2B op || within 0x38 0x39 op || within 0x5B 0x66 op || within 0x8B 0xA6 op || within 0xA8 0xAB op || within 0xAE 0xBF op

abbrev pub block_supported : Module → BlockType → Bool
block_supported m block.Empty = true
block_supported m (block.Value t) = is_supported t
block_supported m (block.Index n) = type_supported m n

-- of an instruction the opcode comes first, then the types that it names, then what is inside
abbrev pub unsupported_here : Module → ℕ → Open.Instr-F Finding Finding → Finding
unsupported_here m n (Open.Plain op) = unless (not (is_float_opcode op)) (UnsupportedOp n op)
unsupported_here m n (Open.Access op align offset) = unless (not (is_float_opcode op)) (UnsupportedOp n op)
unsupported_here m n (Open.F32Const bits) = Some (UnsupportedOp n 0x43)
unsupported_here m n (Open.F64Const bits) = Some (UnsupportedOp n 0x44)
unsupported_here m n (Open.Prefixed op x y) = unless (nat_le 8 op) (UnsupportedOp n (0xFC00 + op))
unsupported_here m n (Open.Block t inside) = unless (block_supported m t) (UnsupportedType (place.Body n)) or_else inside
unsupported_here m n (Open.Loop t inside) = unless (block_supported m t) (UnsupportedType (place.Body n)) or_else inside
unsupported_here m n (Open.If t inside None) = unless (block_supported m t) (UnsupportedType (place.Body n)) or_else inside
unsupported_here m n (Open.If t inside (Some other)) = unless (block_supported m t) (UnsupportedType (place.Body n)) or_else (inside or_else other)
unsupported_here m n (Open.CallIndirect ty table) = unless (type_supported m ty) (UnsupportedType (place.Body n))
unsupported_here m n (Open.Select ts) = unless (list_all is_supported ts) (UnsupportedType (place.Body n))
unsupported_here m n (Open.RefNull t) = unless (is_supported t) (UnsupportedType (place.Body n))
unsupported_here m n _ = None

abbrev pub first_of : List Finding → Finding
first_of [] = None
first_of (f ∷ fs) = f or_else first_of fs

abbrev pub unsupported_inside : Open.Expr-F Finding Finding → Finding
unsupported_inside e = first_of e.list

unfoldable pub unsupported : Module → ℕ → Instr → Finding
unsupported m n = fold-Instr Finding Finding (unsupported_here m n) unsupported_inside

abbrev pub unsupported_of : Module → ℕ → List Instr → Finding
unsupported_of m n [] = None
unsupported_of m n (i ∷ is) = unsupported m n i or_else unsupported_of m n is

abbrev pub is_group_supported : Group → Bool
is_group_supported g = is_supported g.ty

-- the locals come first, then the instructions in the order of their bytes
abbrev pub body_supported : Module → ℕ → Code → Finding
body_supported m n c = unless (list_all is_group_supported c.locals) (UnsupportedType (place.Body n)) or_else unsupported_of m n c.body.list

-- ---- parts of the module

abbrev pub is_type : Module → ℕ → Bool
is_type m t = nat_lt t (length m.types)

-- a maximum is at least the minimum
abbrev pub no_fewer : ℕ → Option ℕ → Bool
no_fewer least None = true
no_fewer least (Some most) = nat_le least most

-- the most entries that a table begins with (a limit of this program)
abbrev pub most_entries : ℕ
most_entries = 1048576

abbrev pub table_bounded : TableType → Bool
table_bounded ty = nat_le ty.limits.min most_entries && no_fewer ty.limits.min ty.limits.max

-- the most pages of a memory
abbrev pub most_pages : ℕ
most_pages = 65536

-- a maximum is at least the minimum, and at most this
abbrev pub max_fits : ℕ → ℕ → Option ℕ → Bool
max_fits least most None = true
max_fits least most (Some max) = nat_le least max && nat_le max most

abbrev pub memory_bounded : Limits → Bool
memory_bounded limits = nat_le limits.min most_pages && max_fits limits.min most_pages limits.max

abbrev pub desc_fits : Module → ImportDesc → Bool
desc_fits m (imported.Func t) = is_type m t
desc_fits m (imported.Table ty) = table_bounded ty
desc_fits m (imported.Space limits) = memory_bounded limits
desc_fits m (imported.Global ty) = true

abbrev pub import_fits : Module → Import → Bool
import_fits m i = desc_fits m i.desc

abbrev pub is_function : Module → ℕ → Bool
is_function m f = nat_lt f (length (function_space m))

-- the value of an immutable global
abbrev pub immutable : GlobalType → Option ValType
immutable ty = if ty.mutable then None else Some ty.value

-- ref.func of a function, or global.get of an imported immutable global
abbrev pub constant_index : Module → IndexForm → ℕ → Option ValType
constant_index m RefFunc n = if is_function m n then Some FuncRef else None
constant_index m GlobalGet n = slice_get (imports_of globals_in m.imports) n >>= immutable
constant_index m _ n = None

-- the type of an instruction that puts a constant on the stack
abbrev pub constant_step : Module → Open.Instr-F Instr Expr → Option ValType
constant_step m (Open.I32Const n) = Some I32
constant_step m (Open.I64Const n) = Some I64
constant_step m (Open.RefNull t) = if same_type t FuncRef then Some FuncRef else None
constant_step m (Open.Index op n) = index_form op >>= λ f. constant_index m f n
constant_step m _ = None

-- whether an instruction may stand in a constant expression: one that puts a constant on the stack, or one of the six operators
abbrev pub may_be_constant : Module → Open.Instr-F Instr Expr → Bool
may_be_constant m (Open.Plain op) = is_constant_operator op
may_be_constant m i = is_some (constant_step m i)

-- what a constant expression of a type may name
abbrev pub constant_context : Module → ValType → Context
constant_context m t = record {
  types = slice_get m.types;
  functions = function_type m;
  globals = slice_get (imports_of globals_in m.imports);
  tables = λ n. None;
  elems = λ n. None;
  memory = false;
  datas = 0;
  refers = is_function m;
  locals = [];
  results = t ∷ [];
}

-- A constant expression of a type is a list of these instructions, and is typed as a body without parameters and locals whose one result is
-- of the type (section 3.3.10, with the operators of extended constant expressions).
abbrev pub is_constant : Module → ValType → Expr → Bool
is_constant m t e = list_all (λ i. may_be_constant m (out-Instr i)) e.list && is_some (height (constant_context m t) e.list)

abbrev pub global_fits : Module → GlobalDef → Bool
global_fits m g = is_constant m g.ty.value g.init

abbrev pub contains_name : List ℕ → List Export → Bool
contains_name name [] = false
contains_name name (e ∷ es) = bytes_eq name e.name || contains_name name es

abbrev pub names_distinct : List Export → Bool
names_distinct [] = true
names_distinct (e ∷ es) = not (contains_name e.name es) && names_distinct es

abbrev pub is_there : Module → ExportDesc → Bool
is_there m (exported.Func n) = is_function m n
is_there m (exported.Table n) = nat_lt n (length (table_space m))
is_there m (exported.Space n) = nat_lt n (length (memory_space m))
is_there m (exported.Global n) = nat_lt n (length (global_space m))

abbrev pub export_fits : Module → Export → Bool
export_fits m e = is_there m e.desc

abbrev pub start_fits : Module → Option ℕ → Bool
start_fits m None = true
start_fits m (Some f) = nullary_at (function_type m f)

-- a table of functions, by its index
abbrev pub has_functions : Option TableType → Bool
has_functions None = false
has_functions (Some ty) = same_type ty.elem FuncRef

abbrev pub elem_mode_fits : Module → ElemMode → Bool
elem_mode_fits m (element.Active table offset) = has_functions (slice_get (table_space m) table) && is_constant m I32 offset
elem_mode_fits m element.Passive = true
elem_mode_fits m element.Declarative = true

abbrev pub items_fit : Module → ElemItems → Bool
items_fit m (Funcs ns) = list_all (is_function m) ns
items_fit m (Exprs t es) = same_type t FuncRef && list_all (is_constant m FuncRef) es

abbrev pub elem_fits : Module → Elem → Bool
elem_fits m s = elem_mode_fits m s.mode && items_fit m s.items

abbrev pub data_mode_fits : Module → DataMode → Bool
data_mode_fits m (data_mode.Active memory offset) = nat_lt memory (length (memory_space m)) && is_constant m I32 offset
data_mode_fits m data_mode.Passive = true

abbrev pub data_fits : Module → Data → Bool
data_fits m s = data_mode_fits m s.mode

-- ---- which functions a body may refer to: those in an element segment, an export or the value of a global (section 3.4.10)

abbrev pub refers_step : ℕ → Open.Instr-F Instr Expr → Bool
refers_step f (Open.Index op n) = is_ref_func (index_form op) && nat_eq n f
  where
    is_ref_func : Option IndexForm → Bool
    is_ref_func (Some RefFunc) = true
    is_ref_func _ = false
refers_step f _ = false

abbrev pub instr_refers : ℕ → Instr → Bool
instr_refers f i = refers_step f (out-Instr i)

abbrev pub expr_refers : ℕ → Expr → Bool
expr_refers f e = list_any (instr_refers f) e.list

abbrev pub items_refer : ℕ → ElemItems → Bool
items_refer f (Funcs ns) = list_any (nat_eq f) ns
items_refer f (Exprs t es) = list_any (expr_refers f) es

abbrev pub elem_refers : ℕ → Elem → Bool
elem_refers f s = items_refer f s.items

abbrev pub desc_refers : ℕ → ExportDesc → Bool
desc_refers f (exported.Func n) = nat_eq f n
desc_refers f (exported.Table n) = false
desc_refers f (exported.Space n) = false
desc_refers f (exported.Global n) = false

abbrev pub export_refers : ℕ → Export → Bool
export_refers f e = desc_refers f e.desc

abbrev pub global_refers : ℕ → GlobalDef → Bool
global_refers f g = expr_refers f g.init

abbrev pub refers : Module → ℕ → Bool
refers m f = is_function m f && (list_any (elem_refers f) m.elems || list_any (export_refers f) m.exports || list_any (global_refers f) m.globals)

-- ---- bodies

abbrev pub elem_of_table : TableType → Option ValType
elem_of_table ty = Some ty.elem

abbrev pub type_of_elem : Elem → Option ValType
type_of_elem s = Some (item_type s.items)

abbrev pub is_some_memory : List Limits → Bool
is_some_memory [] = false
is_some_memory (l ∷ ls) = true

-- the parameters come before the declared locals
abbrev pub body_context : Module → FuncType → Code → Context
body_context m f c = record {
  types = slice_get m.types;
  functions = function_type m;
  globals = slice_get (global_space m);
  tables = λ n. slice_get (table_space m) n >>= elem_of_table;
  elems = λ n. slice_get m.elems n >>= type_of_elem;
  memory = is_some_memory (memory_space m);
  datas = length m.datas;
  refers = refers m;
  locals = f.params ++ declared_locals c.locals;
  results = f.results;
}

-- the type of a function that the module defines, by its place among those
abbrev pub type_of_body : Module → ℕ → Option FuncType
type_of_body m n = slice_get m.funcs n >>= λ t. slice_get m.types t

-- the greatest number of values on the stack of a body, if it is well typed
abbrev pub body_height : Module → ℕ → Code → Option ℕ
body_height m n c = type_of_body m n >>= λ f. height (body_context m f c) c.body.list

abbrev pub body_typed : Module → ℕ → Code → Finding
body_typed m n c = unless (is_some (body_height m n c)) (BadBody n)

-- what is not supported, in the order of the sections
abbrev pub support_fault : Module → Finding
support_fault m =
    first_in (import_supported m) 0 m.imports
    or_else (first_in (function_supported m) 0 m.funcs)
    or_else (first_in table_supported 0 m.tables)
    or_else (first_in global_supported 0 m.globals)
    or_else (first_in elem_supported 0 m.elems)
    or_else (first_in (body_supported m) 0 m.codes)

-- the part of the module that is not valid
abbrev pub module_fault : Module → Finding
module_fault m =
    unless (list_all (import_fits m) m.imports) (BadModule field.Import)
    or_else (unless (list_all (is_type m) m.funcs) (BadModule field.Function))
    or_else (unless (list_all table_bounded m.tables) (BadModule field.Table))
    or_else (unless (nat_le (length (memory_space m)) 1 && list_all memory_bounded m.memories) (BadModule field.Space))
    or_else (unless (list_all (global_fits m) m.globals) (BadModule field.Global))
    or_else (unless (names_distinct m.exports && list_all (export_fits m) m.exports) (BadModule field.Export))
    or_else (unless (start_fits m m.start) (BadModule field.Start))
    or_else (unless (list_all (elem_fits m) m.elems) (BadModule field.Element))
    or_else (unless (list_all (data_fits m) m.datas) (BadModule field.Data))

-- The first fault, or none: first what is not supported, then a part of the module that is not valid, then a body that is
-- not well typed.
abbrev pub fault : Module → Finding
fault m = support_fault m or_else (module_fault m or_else first_in (body_typed m) 0 m.codes)
