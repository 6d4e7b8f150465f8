-- Modules whose imports are met by host functions.
use Rattle.std.proofs.Common.{◌≡◌, ℕ, true, List, [], ◌∷◌, length, map, Option, Some, None, Result, Ok, Err, refl, ◌∙◌, length-append, arith}
use Rattle.std.specs.Prelude.{slice_get}
use Rattle.std.specs.List.{list_all}
use Rattle.std.proofs.lemmas.List.{length-map}
use Rattle.wasm_form.specs.declared.types.FuncType.{FuncType}
use Rattle.wasm_form.specs.declared.module.Import.{Import}
use Rattle.wasm_form.specs.declared.module.ImportDesc.{ImportDesc}
use Rattle.wasm_form.specs.declared.module.ImportDesc.TheVariants as imported
use Rattle.wasm_form.specs.declared.module.Module.{Module}
use Rattle.spec_safety.specs.spec_binary.IndexSpaces.{functions_in, imports_of}
use Rattle.spec_safety.specs.spec_runtime.Names.{HostNames}
use Rattle.spec_safety.specs.spec_execution.Instances.{hosts_in, named_host, imported_hosts}
use Rattle.spec_safety.specs.spec_execution.OneModule.{import_met, met_then, imports_met}
use Rattle.spec_safety.specs.spec_execution.declared.fault.SingleFault.{SingleFault}
use Rattle.spec_safety.specs.Laws.{is_function_import}

pub both_met : (a b : Result (Unit {0}) SingleFault) → met_then a b ≡ Ok tt → (a ≡ Ok tt) × (b ≡ Ok tt)
both_met (Err why) b e = absurd cc
both_met (Ok met) b e = (refl, e)

-- an import that is met is a function, and its type is there
record IsMet (m : Module) (d : ImportDesc) : Type 0 where
  number : ℕ
  ty : FuncType
  function : d ≡ imported.Func number
  found : slice_get m.types number ≡ Some ty

one_met : (m : Module) (names : HostNames) (i : Import) → import_met m names i ≡ Ok tt → IsMet m i.desc
one_met m names i = go i.desc
  where
    named : (t : ℕ) (found : Option FuncType) → slice_get m.types t ≡ found → import_met m names (record i { desc = imported.Func t }) ≡ Ok tt → IsMet m (imported.Func t)
    named t None q e = absurd (let h = rw q at e in cc)
    named t (Some ty) q e = record { number = t; ty = ty; function = refl; found = q }

    go : (d : ImportDesc) → import_met m names (record i { desc = d }) ≡ Ok tt → IsMet m d
    go (imported.Func t) e = named t (slice_get m.types t) refl e
    go (imported.Table ty) e = absurd cc
    go (imported.Space limits) e = absurd cc
    go (imported.Global ty) e = absurd cc

-- so many host functions as functions are imported
one_host : (m : Module) (i : Import) → IsMet m i.desc → length (map (named_host i) (hosts_in m i.desc)) ≡ length (functions_in i.desc)
one_host m i met = length-map (hosts_in m i.desc) (named_host i) ∙ rw (met.function, met.found) refl

module _ (m : Module) (names : HostNames) where
  pub hosts_counted : (is : List Import) → imports_met m names is ≡ Ok tt → length (imported_hosts m is) ≡ length (imports_of functions_in is)
  hosts_counted [] met = refl
  hosts_counted (i ∷ is) met =
      let b = both_met (import_met m names i) (imports_met m names is) met in
      let here = one_host m i (one_met m names i b.0) in
      let later = hosts_counted is b.1 in
      simp length-append (omega (arith, here, later))

  pub functions_alone : (is : List Import) → imports_met m names is ≡ Ok tt → list_all is_function_import is ≡ true
  functions_alone [] met = refl
  functions_alone (i ∷ is) met =
      let b = both_met (import_met m names i) (imports_met m names is) met in
      rw ((one_met m names i b.0).function, functions_alone is b.1) refl
