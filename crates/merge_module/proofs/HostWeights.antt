-- What the imports of host functions weigh: no more than three times the imports of the members.
use Rattle.std.proofs.Common.{◌≡◌, ℕ, ◌+◌, ◌*◌, ◌≤◌, Bool, true, false, List, [], ◌∷◌, ◌++◌, length, slice_get, Option, Some, None, refl, arith, if◌then◌else◌}
use Rattle.std.specs.List.{All, flat_map, list_any}
use Rattle.std.proofs.lemmas.List.Elements.{All-head, All-tail}
use Rattle.spec_reading.specs.wasm_form.declared.types.FuncType.{FuncType}
use Rattle.spec_reading.specs.wasm_form.declared.module.Import.{Import}
use Rattle.spec_reading.specs.wasm_form.declared.module.Module.{Module}
use Rattle.spec_loading.specs.spec_runtime.Names.{HostName, host_typed}
use Rattle.spec_loading.specs.spec_linking.declared.fault.Kind.TheVariants as kind
use Rattle.spec_loading.specs.spec_linking.Sets.{Member}
use Rattle.spec_loading.specs.spec_linking.Gathering.{total_size}
use Rattle.spec_loading.specs.spec_linking.Definitions.{Definition, HostFunction, env_name}
use Rattle.spec_loading.specs.spec_linking.Imports.{ImportUse, SlotCell, EnvFunction, ModuleFunction, use_of}
use Rattle.spec_loading.specs.spec_linking.LinkedSets.{LinkedSet, definition, is_declared, host_named, where_declared, host_defined, host_as, host_of_import, hosts_from, is_same_name, first_names, hosts_of}
use Rattle.wasm_encode.specs.Weight.{sum_of, import_weight}
use Rattle.merge_module.specs.MergedModule.{host_imports}
use Rattle.merge_index.proofs.FewItems.{total_cons}
use Rattle.merge_module.proofs.Weights.{sum_then}
use Rattle.merge_module.proofs.Bounds.{IsLight}

abbrev host_weight : HostName → ℕ
host_weight h = 2 + (length h.module_name + length h.name)

abbrev all_weight : List HostName → ℕ
all_weight hs = sum_of host_weight hs

env_long : length env_name ≡ 3
env_long = refl

named_weighs : (from name : List ℕ) (o : Option FuncType) → all_weight (host_named from name o) ≤ 2 + (length from + length name)
named_weighs from name None = omega arith
named_weighs from name (Some ty) = omega arith

declared_weighs : (b : Bool) (hs : List HostName) → all_weight (where_declared b hs) ≤ all_weight hs
declared_weighs true hs = omega arith
declared_weighs false hs = omega arith

defined_weighs : (d : Definition) (hs : List HostName) → all_weight (host_defined d hs) ≤ all_weight hs
defined_weighs HostFunction hs = omega arith
defined_weighs _ hs = omega arith

module _ (L : LinkedSet) where
  import_weighs : (m : ℕ) (wasm : Module) (i : Import) (u : ImportUse) → all_weight (host_as L m wasm i u) ≤ 3 * import_weight i
  import_weighs m wasm i (EnvFunction t) =
      let less = defined_weighs (definition L m kind.Function i.field) (host_named env_name i.field (slice_get wasm.types t)) in
      let most = named_weighs env_name i.field (slice_get wasm.types t) in
      let long = env_long in
      omega arith
  import_weighs m wasm i (ModuleFunction t) =
      let less = declared_weighs (is_declared L.names i.module i.field) (host_named i.module i.field (slice_get wasm.types t)) in
      let most = named_weighs i.module i.field (slice_get wasm.types t) in
      omega arith
  import_weighs m wasm i SlotCell =
      let less = defined_weighs (definition L m kind.Func i.field) (host_named env_name i.field (host_typed L.names env_name i.field)) in
      let most = named_weighs env_name i.field (host_typed L.names env_name i.field) in
      let long = env_long in
      omega arith
  import_weighs m wasm i _ = omega arith

  imports_weigh : (m : ℕ) (wasm : Module) (is : List Import) → all_weight (flat_map (host_of_import L m wasm) is) ≤ 3 * sum_of import_weight is
  imports_weigh m wasm [] = omega arith
  imports_weigh m wasm (i ∷ is) =
      let here = import_weighs m wasm i (use_of i) in
      let later = imports_weigh m wasm is in
      let both = sum_then host_weight (host_of_import L m wasm i) (flat_map (host_of_import L m wasm) is) in
      omega arith

  members_weigh : (m : ℕ) (xs : List Member) → All IsLight xs → all_weight (hosts_from L m xs) ≤ 3 * total_size xs
  members_weigh m [] all = omega arith
  members_weigh m (x ∷ xs) all =
      let light : IsLight x = All-head IsLight x xs all in
      let here = imports_weigh m x.wasm x.wasm.imports in
      let later = members_weigh (m + 1) xs (All-tail IsLight x xs all) in
      let both = sum_then host_weight (flat_map (host_of_import L m x.wasm) x.wasm.imports) (hosts_from L (m + 1) xs) in
      let sum = total_cons x xs in
      omega arith

  first_weighs : (known hs : List HostName) → all_weight (first_names known hs) ≤ all_weight hs
  first_weighs known [] = omega arith
  first_weighs known (h ∷ hs) = go (list_any (is_same_name h) known) (first_weighs known hs) (first_weighs (known ++ h ∷ []) hs)
    where
      go : (b : Bool) → all_weight (first_names known hs) ≤ all_weight hs → all_weight (first_names (known ++ h ∷ []) hs) ≤ all_weight hs
          → all_weight (if b then first_names known hs else h ∷ first_names (known ++ h ∷ []) hs) ≤ all_weight (h ∷ hs)
      go true fewer more = omega arith
      go false fewer more = omega arith

imported_weigh : (t : ℕ → FuncType → ℕ) (e : ℕ) (hs : List HostName) → sum_of import_weight (host_imports t e hs) ≡ all_weight hs
imported_weigh t e [] = refl
imported_weigh t e (h ∷ hs) = (let later = imported_weigh t (e + 1) hs in omega arith)

pub hosts_light : (L : LinkedSet) (t : ℕ → FuncType → ℕ) → All IsLight L.set.members → sum_of import_weight (host_imports t 0 (hosts_of L)) ≤ 3 * total_size L.set.members
hosts_light L t light =
    let same = imported_weigh t 0 (hosts_of L) in
    let fewer = first_weighs L [] (hosts_from L 0 L.set.members) in
    let all = members_weigh L 0 L.set.members light in
    omega arith
