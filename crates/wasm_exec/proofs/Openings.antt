-- What follows from an opening state: the imports are met by declared host functions.
use Rattle.std.proofs.Common.{◌≡◌, ℕ, zero, suc, List, [], ◌∷◌, ◌++◌, map, slice_get, Option, Some, None, Ok, refl, subst}
use Rattle.std.proofs.lemmas.Option.{same_Some}
use Rattle.spec_hosts.specs.wasm_form.declared.types.FuncType.{FuncType}
use Rattle.spec_hosts.specs.wasm_form.declared.module.Import.{Import}
use Rattle.spec_hosts.specs.wasm_form.declared.module.ImportDesc.{ImportDesc}
use Rattle.spec_hosts.specs.wasm_form.declared.module.ImportDesc.TheVariants as imported
use Rattle.spec_hosts.specs.wasm_form.declared.module.Module.{Module}
use Rattle.spec_hosts.specs.spec_runtime.Names.{HostName, HostNames, HostMatch, Unknown, Fits, OtherType, host_match}
use Rattle.spec_loading.specs.spec_execution.Instances.{hosts_in, named_host, imported_hosts, module_hosts}
use Rattle.spec_loading.specs.spec_execution.OneModule.{ModuleState, import_matched, import_met, imports_met, module_opening}
use Rattle.wasm_single.proofs.Imports.{both_met}
use Rattle.run_loaded.proofs.Openings.{opening_parts}
use Rattle.wasm_exec.specs.Driving.{AreDeclared}
use Rattle.dyl_link.specs.host_table.Names.{HaveIntegers}

module _ (m : Module) (names : HostNames) where
  -- a host function is declared with its type
  abbrev IsDeclared : HostName → Type 0
  IsDeclared h = host_match names h.module_name h.name h.ty ≡ Fits

  matched : (i : Import) (found : HostMatch) → import_matched i found ≡ Ok tt → found ≡ Fits
  matched i Unknown e = absurd cc
  matched i Fits e = refl
  matched i OtherType e = absurd cc

  typed : (i : Import) (rest : List HostName) (ty : FuncType) (k : ℕ) (h : HostName) → IsDeclared (named_host i ty) → slice_get (named_host i ty ∷ rest) k ≡ Some h
      → ((j : ℕ) → slice_get rest j ≡ Some h → IsDeclared h) → IsDeclared h
  typed i rest ty zero h fits at others = subst IsDeclared (same_Some (named_host i ty) h at) fits
  typed i rest ty (suc j) h fits at others = others j at

  -- what an import that is met names first is declared
  one_declared : (i : Import) (rest : List HostName) (k : ℕ) (h : HostName) → import_met m names i ≡ Ok tt → slice_get (map (named_host i) (hosts_in m i.desc) ++ rest) k ≡ Some h
      → ((j : ℕ) → slice_get rest j ≡ Some h → IsDeclared h) → IsDeclared h
  one_declared i rest k h met at others = by i.desc refl
    where
      of_type : (t : ℕ) → i.desc ≡ imported.Func t → (ty : Option FuncType) → slice_get m.types t ≡ ty → IsDeclared h
      of_type t e None there = absurd (let none = rw there at (rw (e, import_met) at met) in cc)
      of_type t e (Some ty) there =
          typed i rest ty k h (matched i (host_match names i.module i.field ty) (rw there at (rw (e, import_met) at met))) (rw there at (rw (e, hosts_in) at at)) others

      by : (desc : ImportDesc) → i.desc ≡ desc → IsDeclared h
      by (imported.Func t) e = of_type t e (slice_get m.types t) refl
      by (imported.Table ty) e = absurd (let none = rw (e, import_met) at met in cc)
      by (imported.Space limits) e = absurd (let none = rw (e, import_met) at met in cc)
      by (imported.Global ty) e = absurd (let none = rw (e, import_met) at met in cc)

  each_declared : (is : List Import) (k : ℕ) (h : HostName) → imports_met m names is ≡ Ok tt → slice_get (imported_hosts m is) k ≡ Some h → IsDeclared h
  each_declared [] k h met at = absurd cc
  each_declared (i ∷ is) k h met at =
      let both = both_met (import_met m names i) (imports_met m names is) met in
      one_declared i (imported_hosts m is) k h both.0 at (λ j there. each_declared is j h both.1 there)

  -- each host function of a module that has an opening state is declared
  pub are_declared : HaveIntegers names → (opening : ModuleState) → module_opening m names ≡ Ok opening → AreDeclared (module_hosts m) names
  are_declared integers opening opens entry h at =
      let fits = each_declared m.imports entry h (opening_parts m names opening opens).0 at in
      (fits, integers h.module_name h.name h.ty fits)
