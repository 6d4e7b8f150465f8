-- How much a set imports: its cells and host functions are no more than its imports, which are no more than the bytes of its files.
use Rattle.std.proofs.Common.{ℕ, suc, ◌+◌, ◌≤◌, Bool, true, false, List, [], ◌∷◌, ◌++◌, length, slice_get, Option, Some, None, arith, length-append, if◌then◌else◌}
use Rattle.std.specs.List.{All, flat_map, list_any}
use Rattle.std.proofs.lemmas.List.Elements.{All-head, All-tail}
use Rattle.spec_execution.specs.wasm_form.declared.types.FuncType.{FuncType}
use Rattle.spec_execution.specs.wasm_form.declared.module.ImportDesc.{ImportDesc}
use Rattle.spec_execution.specs.wasm_form.declared.module.ImportDesc.TheVariants as imported
use Rattle.spec_execution.specs.wasm_form.declared.module.Import.{Import}
use Rattle.spec_execution.specs.wasm_form.declared.module.Module.{Module}
use Rattle.spec_execution.specs.spec_binary.IndexSpaces.{imports_of, functions_in}
use Rattle.spec_execution.specs.spec_runtime.Names.{HostName, host_typed}
use Rattle.spec_linking.specs.declared.fault.Kind.TheVariants as kind
use Rattle.spec_linking.specs.Sets.{Member}
use Rattle.spec_linking.specs.Gathering.{total_size, IsMember, IsSet}
use Rattle.spec_linking.specs.Definitions.{Definition, HostFunction, env_name}
use Rattle.spec_linking.specs.Imports.{ImportUse, DataCell, SlotCell, EnvFunction, ModuleFunction, use_of}
use Rattle.spec_linking.specs.LinkedSets.{LinkedSet, definition, is_declared, host_named, where_declared, host_defined, host_as, host_of_import, hosts_from, is_same_name, first_names, hosts_of}
use Rattle.spec_linking.specs.Slots.{CellName, same_cell, cell_as, cell_of_import, first_cells, cells_of}
use Rattle.spec_linking.proofs.FewParts.{member_few, total_cons}

-- ---- functions

at_most_one : (d : ImportDesc) → length (functions_in d) ≤ 1
at_most_one (imported.Func t) = omega arith
at_most_one (imported.Table ty) = omega arith
at_most_one (imported.Space limits) = omega arith
at_most_one (imported.Global ty) = omega arith

pub imports_within : (is : List Import) → length (imports_of functions_in is) ≤ length is
imports_within [] = omega arith
imports_within (i ∷ is) = (let later = imports_within is in let one = at_most_one i.desc in omega (arith, length-append (functions_in i.desc) (imports_of functions_in is)))

-- ---- cells

cells_of_import_few : (i : Import) (u : ImportUse) → length (cell_as i u) ≤ 1
cells_of_import_few i DataCell = omega arith
cells_of_import_few i SlotCell = omega arith
cells_of_import_few i _ = omega arith

cells_named : (is : List Import) → length (flat_map cell_of_import is) ≤ length is
cells_named [] = omega arith
cells_named (i ∷ is) =
    let one = cells_of_import_few i (use_of i) in
    let later = cells_named is in
    omega (arith, length-append (cell_of_import i) (flat_map cell_of_import is))

cells_first : (known cs : List CellName) → length (first_cells known cs) ≤ length cs
cells_first known [] = omega arith
cells_first known (c ∷ cs) = go (list_any (same_cell c) known) (cells_first known cs) (cells_first (known ++ c ∷ []) cs)
  where
    go : (b : Bool) → length (first_cells known cs) ≤ length cs → length (first_cells (known ++ c ∷ []) cs) ≤ length cs
        → length (if b then first_cells known cs else c ∷ first_cells (known ++ c ∷ []) cs) ≤ suc (length cs)
    go true le more = omega arith
    go false le more = omega arith

pub cells_few : (w : Module) → length (cells_of w) ≤ length w.imports
cells_few w = (let first = cells_first [] (flat_map cell_of_import w.imports) in let all = cells_named w.imports in omega arith)

-- ---- host functions

named_one : (from name : List ℕ) (o : Option FuncType) → length (host_named from name o) ≤ 1
named_one from name None = omega arith
named_one from name (Some ty) = omega arith

declared_one : (b : Bool) (hs : List HostName) → length hs ≤ 1 → length (where_declared b hs) ≤ 1
declared_one true hs le = le
declared_one false hs le = omega arith

defined_one : (d : Definition) (hs : List HostName) → length hs ≤ 1 → length (host_defined d hs) ≤ 1
defined_one HostFunction hs le = le
defined_one _ hs le = omega arith

host_one : (L : LinkedSet) (m : ℕ) (wasm : Module) (i : Import) (u : ImportUse) → length (host_as L m wasm i u) ≤ 1
host_one L m wasm i (EnvFunction t) =
    defined_one (definition L m kind.Function i.field) (host_named env_name i.field (slice_get wasm.types t)) (named_one env_name i.field (slice_get wasm.types t))
host_one L m wasm i (ModuleFunction t) =
    declared_one (is_declared L.names i.module i.field) (host_named i.module i.field (slice_get wasm.types t)) (named_one i.module i.field (slice_get wasm.types t))
host_one L m wasm i SlotCell =
    defined_one (definition L m kind.Func i.field) (host_named env_name i.field (host_typed L.names env_name i.field)) (named_one env_name i.field (host_typed L.names env_name i.field))
host_one L m wasm i _ = omega arith

hosts_within : (L : LinkedSet) (m : ℕ) (wasm : Module) (is : List Import) → length (flat_map (host_of_import L m wasm) is) ≤ length is
hosts_within L m wasm [] = omega arith
hosts_within L m wasm (i ∷ is) =
    let one = host_one L m wasm i (use_of i) in
    let later = hosts_within L m wasm is in
    omega (arith, length-append (host_of_import L m wasm i) (flat_map (host_of_import L m wasm) is))

all_hosts_within : (L : LinkedSet) (m : ℕ) (xs : List Member) → All IsMember xs → length (hosts_from L m xs) ≤ total_size xs
all_hosts_within L m [] all = omega arith
all_hosts_within L m (x ∷ xs) all =
    let one = hosts_within L m x.wasm x.wasm.imports in
    let few = (member_few x (All-head IsMember x xs all)).all in
    let later = all_hosts_within L (m + 1) xs (All-tail IsMember x xs all) in
    let sum = total_cons x xs in
    omega (arith, length-append (flat_map (host_of_import L m x.wasm) x.wasm.imports) (hosts_from L (m + 1) xs))

first_within : (known hs : List HostName) → length (first_names known hs) ≤ length hs
first_within known [] = omega arith
first_within known (h ∷ hs) = go (list_any (is_same_name h) known) (first_within known hs) (first_within (known ++ h ∷ []) hs)
  where
    go : (b : Bool) → length (first_names known hs) ≤ length hs → length (first_names (known ++ h ∷ []) hs) ≤ length hs
        → length (if b then first_names known hs else h ∷ first_names (known ++ h ∷ []) hs) ≤ suc (length hs)
    go true le more = omega arith
    go false le more = omega arith

pub few_hosts : (L : LinkedSet) → IsSet L.set → length (hosts_of L) ≤ total_size L.set.members
few_hosts L set =
    let first = first_within [] (hosts_from L 0 L.set.members) in
    let all = all_hosts_within L 0 L.set.members set.members in
    omega arith
