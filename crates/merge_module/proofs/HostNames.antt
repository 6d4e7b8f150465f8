-- The names of host functions are names of imports, which are short.
use Rattle.std.proofs.Common.{ℕ, ◌+◌, Bool, true, false, List, [], ◌∷◌, ◌++◌, slice_get, Option, Some, None, arith, if◌then◌else◌}
use Rattle.std.specs.List.{All, flat_map, list_any}
use Rattle.std.proofs.lemmas.List.Elements.{All-nil, All-cons, All-head, All-tail, All-append}
use Rattle.spec_reading.specs.wasm_form.declared.types.FuncType.{FuncType}
use Rattle.spec_reading.specs.wasm_form.declared.module.Import.{Import}
use Rattle.spec_reading.specs.wasm_form.declared.module.Module.{Module}
use Rattle.spec_reading.specs.spec_binary.WellFormed.{IsShort, IsFormedImport}
use Rattle.spec_loading.specs.spec_runtime.Names.{HostName, host_typed}
use Rattle.spec_loading.specs.spec_linking.declared.fault.Kind.TheVariants as kind
use Rattle.spec_loading.specs.spec_linking.Sets.{Member}
use Rattle.spec_loading.specs.spec_linking.Gathering.{IsMember, IsSet}
use Rattle.spec_loading.specs.spec_linking.Definitions.{Definition, HostFunction, env_name}
use Rattle.spec_loading.specs.spec_linking.Imports.{ImportUse, SlotCell, EnvFunction, ModuleFunction, use_of}
use Rattle.spec_loading.specs.spec_linking.LinkedSets.{LinkedSet, definition, is_declared, host_named, where_declared, host_defined, host_as, host_of_import, hosts_from, is_same_name, first_names, hosts_of}
use Rattle.merge_module.proofs.SetMembers.{member_formed}

-- a host function whose names can be written
abbrev pub IsNamed : HostName → Type 0
IsNamed h = IsShort h.module_name × IsShort h.name

env_short : IsShort env_name
env_short = omega arith

named_all : (from name : List ℕ) (o : Option FuncType) → IsShort from → IsShort name → All IsNamed (host_named from name o)
named_all from name None a b = All-nil IsNamed
named_all from name (Some ty) a b = All-cons IsNamed (record { module_name = from; name = name; ty = ty }) [] (a, b) (All-nil IsNamed)

declared_all : (b : Bool) (hs : List HostName) → All IsNamed hs → All IsNamed (where_declared b hs)
declared_all true hs all = all
declared_all false hs all = All-nil IsNamed

defined_all : (d : Definition) (hs : List HostName) → All IsNamed hs → All IsNamed (host_defined d hs)
defined_all HostFunction hs all = all
defined_all _ hs all = All-nil IsNamed

module _ (L : LinkedSet) where
  import_all : (m : ℕ) (wasm : Module) (i : Import) (u : ImportUse) → IsFormedImport i → All IsNamed (host_as L m wasm i u)
  import_all m wasm i (EnvFunction t) is =
      defined_all (definition L m kind.Function i.field) (host_named env_name i.field (slice_get wasm.types t))
      (named_all env_name i.field (slice_get wasm.types t) env_short is.field)
  import_all m wasm i (ModuleFunction t) is =
      declared_all (is_declared L.names i.module i.field) (host_named i.module i.field (slice_get wasm.types t))
      (named_all i.module i.field (slice_get wasm.types t) is.from is.field)
  import_all m wasm i SlotCell is =
      defined_all (definition L m kind.Func i.field) (host_named env_name i.field (host_typed L.names env_name i.field))
      (named_all env_name i.field (host_typed L.names env_name i.field) env_short is.field)
  import_all m wasm i _ is = All-nil IsNamed

  imports_all : (m : ℕ) (wasm : Module) (is : List Import) → All IsFormedImport is → All IsNamed (flat_map (host_of_import L m wasm) is)
  imports_all m wasm [] all = All-nil IsNamed
  imports_all m wasm (i ∷ is) all =
      All-append IsNamed (host_of_import L m wasm i) (flat_map (host_of_import L m wasm) is)
      (import_all m wasm i (use_of i) (All-head IsFormedImport i is all)) (imports_all m wasm is (All-tail IsFormedImport i is all))

  members_all : (m : ℕ) (xs : List Member) → All IsMember xs → All IsNamed (hosts_from L m xs)
  members_all m [] all = All-nil IsNamed
  members_all m (x ∷ xs) all =
      let formed = member_formed x (All-head IsMember x xs all) in
      All-append IsNamed (flat_map (host_of_import L m x.wasm) x.wasm.imports) (hosts_from L (m + 1) xs)
      (imports_all m x.wasm x.wasm.imports formed.imports.1) (members_all (m + 1) xs (All-tail IsMember x xs all))

  first_all : (known hs : List HostName) → All IsNamed hs → All IsNamed (first_names known hs)
  first_all known [] all = All-nil IsNamed
  first_all known (h ∷ hs) all =
      go (list_any (is_same_name h) known) (first_all known hs (All-tail IsNamed h hs all)) (first_all (known ++ h ∷ []) hs (All-tail IsNamed h hs all))
    where
      go : (b : Bool) → All IsNamed (first_names known hs) → All IsNamed (first_names (known ++ h ∷ []) hs)
          → All IsNamed (if b then first_names known hs else h ∷ first_names (known ++ h ∷ []) hs)
      go true fewer more = fewer
      go false fewer more = All-cons IsNamed h (first_names (known ++ h ∷ []) hs) (All-head IsNamed h hs all) more

  pub hosts_named : IsSet L.set → All IsNamed (hosts_of L)
  hosts_named set = first_all [] (hosts_from L 0 L.set.members) (members_all 0 L.set.members set.members)
