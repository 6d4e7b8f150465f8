-- The listing of a linked set.
-- This profile: docs/FORMATS.md, "The listing".
use Rattle.std.specs.Prelude.{ℕ, ◌+◌, List, [], ◌∷◌, ◌++◌, length, flat_map, Bool, false, not, ◌&&◌, nat_eq, codes, decimal, Option, Some, None, unwrap_or, slice_get}
use Rattle.std.specs.List.{find}
use Rattle.std.specs.Option.{option_map}
use Rattle.spec_merging.specs.wasm_form.declared.module.Import.{Import}
use Rattle.spec_merging.specs.wasm_form.declared.module.Export.{Export}
use Rattle.spec_merging.specs.wasm_form.declared.module.ExportDesc.{ExportDesc}
use Rattle.spec_merging.specs.wasm_form.declared.module.ExportDesc.TheVariants as desc
use Rattle.spec_merging.specs.wasm_form.declared.runtime.LoaderCall.{LoaderCall}
use Rattle.spec_merging.specs.wasm_form.declared.runtime.LoaderCall.TheVariants.{Dlopen, Dlsym, Dlclose, Dlerror}
use Rattle.spec_merging.specs.wasm_form.declared.runtime.Ref.{Ref}
use Rattle.spec_merging.specs.wasm_form.declared.runtime.Ref.TheVariants.{Own, Loader, Host, Stub}
use Rattle.spec_traces.specs.spec_hosts.spec_binary.IndexSpaces.{functions_in, globals_in}
use Rattle.spec_traces.specs.spec_hosts.spec_runtime.Names.{HostName}
use Rattle.spec_linking.specs.Sets.{Member}
use Rattle.spec_linking.specs.Plans.{Plan, stack_end, texts_size}
use Rattle.spec_linking.specs.Definitions.{is_one_of, reserved_names}
use Rattle.spec_linking.specs.Imports.{ImportUse, DataCell, SlotCell, EnvFunction, ModuleFunction, use_of}
use Rattle.spec_linking.specs.LinkedSets.{LinkedSet, hosts_of, function_ref}
use Rattle.spec_linking.specs.Slots.{linked_plan, slot_of, fresh_slots, table_entries, table_most, heap_end, imported_number}
use Rattle.spec_traces.specs.dyl_print.Printed.{escaped}

abbrev pub line_end : List ℕ
line_end = 0x0A ∷ []

abbrev pub space : List ℕ
space = codes " "

-- ---- the plan

-- a name, and where a range begins and ends
abbrev pub range_line : List ℕ → ℕ → ℕ → List ℕ
range_line name lower upper = name ++ space ++ decimal lower ++ space ++ decimal upper ++ line_end

-- the sizes of memory and table, and what lies below the members' regions and above them
abbrev pub plan_lines : Plan → ℕ → ℕ → ℕ → List ℕ
plan_lines plan end entries most =
    range_line (codes "memory") plan.pages plan.pages_max
    ++ range_line (codes "table") entries most
    ++ range_line (codes "stack") stack_end plan.stack_top
    ++ range_line (codes "texts") plan.stack_top (plan.stack_top + texts_size)
    ++ range_line (codes "heap") plan.heap_base end

-- ---- members

-- a number and the name of a member, and the base and the size of its region in memory and in the table
abbrev pub module_line : ℕ → Member → ℕ → ℕ → List ℕ
module_line m member memory table =
    (codes "module " ++ decimal m ++ space) ++ escaped member.name
    ++ (space ++ decimal memory ++ space ++ decimal member.dylink.mem_size ++ space ++ decimal table ++ space ++ decimal member.dylink.table_size ++ line_end)

-- those of the members, which are numbered from m on
abbrev pub module_lines : Plan → ℕ → List Member → List ℕ
module_lines plan m [] = []
module_lines plan m (x ∷ xs) = module_line m x (unwrap_or (slice_get plan.bases m) 0) (unwrap_or (slice_get plan.table_bases m) 0) ++ module_lines plan (m + 1) xs

-- ---- fresh slots

abbrev pub call_name : LoaderCall → List ℕ
call_name Dlopen = codes "dlopen"
call_name Dlsym = codes "dlsym"
call_name Dlclose = codes "dlclose"
call_name Dlerror = codes "dlerror"

abbrev pub is_function : ℕ → ExportDesc → Bool
is_function f (desc.Func g) = nat_eq g f
is_function f (desc.Table n) = false
is_function f (desc.Space n) = false
is_function f (desc.Global n) = false

-- the export defines its name as this function, which is the module's own
abbrev pub is_name_of : ℕ → Export → Bool
is_name_of f e = not (is_one_of e.name reserved_names) && is_function f e.desc

-- the first name that the module defines as this function of its own
abbrev pub function_name : Option Member → ℕ → List ℕ
function_name None f = []
function_name (Some member) f = unwrap_or (option_map (λ e. e.name) (find (is_name_of f) member.wasm.exports)) []

abbrev pub host_name : List HostName → ℕ → List ℕ
host_name hosts n = unwrap_or (option_map (λ h. h.name) (slice_get hosts n)) []

-- the slot of a function, whose it is, and its name
abbrev pub slot_text : ℕ → List ℕ → List ℕ → List ℕ
slot_text slot place name = (codes "slot " ++ decimal slot ++ space ++ place ++ space) ++ escaped name ++ line_end

abbrev pub slot_line : List Member → List HostName → Ref → ℕ → List ℕ
slot_line members hosts (Own m f) slot = slot_text slot (decimal m) (function_name (slice_get members m) f)
slot_line members hosts (Loader call) slot = slot_text slot (codes "loader") (call_name call)
slot_line members hosts (Host n) slot = slot_text slot (codes "host") (host_name hosts n)
slot_line members hosts (Stub m f) slot = []

-- those of some functions
abbrev pub slot_lines : List Member → List HostName → (Ref → Option ℕ) → List Ref → List ℕ
slot_lines members hosts slot refs = flat_map (λ r. slot_line members hosts r (unwrap_or (slot r) 0)) refs

-- ---- imports

abbrev pub place_text : Ref → List ℕ
place_text (Own m f) = decimal m
place_text (Loader call) = codes "loader"
place_text (Host n) = codes "host"
place_text (Stub m f) = codes "weak"

abbrev pub bind_line : ℕ → List ℕ → List ℕ → List ℕ → List ℕ
bind_line m kind name what = (codes "bind " ++ decimal m ++ space ++ kind ++ space) ++ escaped name ++ (space ++ what ++ line_end)

-- an imported function, by what it is
abbrev pub function_bind : ℕ → List ℕ → Option Ref → List ℕ
function_bind m name None = []
function_bind m name (Some r) = bind_line m (codes "function") name (place_text r)

-- an imported cell, by its initial value
abbrev pub cell_bind : ℕ → List ℕ → List ℕ → Option ℕ → List ℕ
cell_bind m kind name None = []
cell_bind m kind name (Some n) = bind_line m kind name (decimal n)

-- an import of member m that stands for this, which is this function if it is one, and has this initial value if it is a cell
abbrev pub bind_as : ℕ → Import → Option Ref → Option ℕ → ImportUse → List ℕ
bind_as m i function cell (EnvFunction t) = function_bind m i.field function
bind_as m i function cell (ModuleFunction t) = function_bind m i.field function
bind_as m i function cell DataCell = cell_bind m (codes "mem") i.field cell
bind_as m i function cell SlotCell = cell_bind m (codes "func") i.field cell
bind_as m i function cell _ = []

-- the functions of members, and the initial values of their imported globals, by member and number
abbrev pub Functions : Type 0
Functions = ℕ → ℕ → Option Ref

abbrev pub Cells : Type 0
Cells = ℕ → ℕ → Option ℕ

-- those of imports of member m, before which so many functions and globals are imported
abbrev pub import_lines : Functions → Cells → ℕ → ℕ → ℕ → List Import → List ℕ
import_lines functions cells m f g [] = []
import_lines functions cells m f g (i ∷ is) =
    bind_as m i (functions m f) (cells m g) (use_of i) ++ import_lines functions cells m (f + length (functions_in i.desc)) (g + length (globals_in i.desc)) is

-- those of the members, which are numbered from m on
abbrev pub bind_lines : Functions → Cells → ℕ → List Member → List ℕ
bind_lines functions cells m [] = []
bind_lines functions cells m (x ∷ xs) = import_lines functions cells m 0 0 x.wasm.imports ++ bind_lines functions cells (m + 1) xs

-- ---- the listing

-- What is listed: the plan, with the end of the memory, and the initial entries of the table and the most; the members; the host functions;
-- the functions that have fresh slots; slots, what members' functions are, and initial values.
pub record Listed : Type 0 where
  pub plan : Plan
  pub end : ℕ
  pub entries : ℕ
  pub most : ℕ
  pub members : List Member
  pub hosts : List HostName
  pub fresh : List Ref
  pub slot : Ref → Option ℕ
  pub function : Functions
  pub cell : Cells

abbrev pub lines_of : Listed → List ℕ
lines_of l =
    plan_lines l.plan l.end l.entries l.most
    ++ module_lines l.plan 0 l.members
    ++ slot_lines l.members l.hosts l.slot l.fresh
    ++ bind_lines l.function l.cell 0 l.members

-- The listing of a linked set: its plan, its members, the fresh slots, and what each import is.
abbrev pub listing_of : LinkedSet → List ℕ
listing_of L = lines_of (record {
  plan = linked_plan L;
  end = heap_end L;
  entries = table_entries L;
  most = table_most L;
  members = L.set.members;
  hosts = hosts_of L;
  fresh = fresh_slots L;
  slot = slot_of L;
  function = function_ref L;
  cell = imported_number L;
})
