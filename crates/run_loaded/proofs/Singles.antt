-- The run of one module, seen as a run of a course.
use Rattle.std.proofs.Common.{◌≡◌, ℕ, List, map, slice_get, Option, Ok, sym, ap, ◌∙◌, subst}
use Rattle.spec_hosts.specs.spec_runtime.Names.{HostName}
use Rattle.spec_loading.specs.spec_execution.Instances.{imported_hosts}
use Rattle.spec_loading.specs.spec_execution.OneModule.{ModuleState}
use Rattle.dyl_link.specs.host_table.Names.{host_name_of}
use Rattle.dyl_link.specs.host_table.declared.host.HostName as code
use Rattle.wasm_single.specs.Starts.{opened}
use Rattle.wasm_single.specs.Singles.{SingleRun}
use Rattle.run_loaded.specs.declared.loaded.Loaded.TheVariants as loaded
use Rattle.run_loaded.specs.Courses.{Origin, OfModule, OfSet, course_of}
use Rattle.run_loaded.specs.Programs.{IsOf, Keeps}

module _ (s : SingleRun) (P : Origin → Type 0) where
  -- what is so from each opening state of the module is so of the run
  pub by_module : ((opening : ModuleState) → opened s.wasm ≡ Ok opening → P (OfModule s.wasm opening)) → (o : Origin) → IsOf (loaded.Module s) o → P o
  by_module holds (OfModule m opening) of = subst (λ m. opened m ≡ Ok opening → P (OfModule m opening)) of.0 (holds opening) of.1
  by_module holds (OfSet L) of = absurd of

  -- and there is no other opening state
  pub from_opening : (opening : ModuleState) × (opened s.wasm ≡ Ok opening) × P (OfModule s.wasm opening) → (opening : ModuleState) → opened s.wasm ≡ Ok opening → P (OfModule s.wasm opening)
  from_opening h opening opens = let same : h.0 ≡ opening = cc (h.1, opens) in subst (λ o. P (OfModule s.wasm o)) same h.2

  pub at_opening : (o : Origin) → IsOf (loaded.Module s) o → P o → (opening : ModuleState) × (opened s.wasm ≡ Ok opening) × P (OfModule s.wasm opening)
  at_opening (OfModule m opening) of holds =
      let same = sym of.0 in (
        opening,
        subst (λ m. opened m ≡ Ok opening) same of.1,
        subst (λ m. P (OfModule m opening)) same holds,
      )
  at_opening (OfSet L) of holds = absurd of

-- it stays a run of its module
pub module_kept : (s t : SingleRun) → t.wasm ≡ s.wasm → Keeps (loaded.Module s) (loaded.Module t)
module_kept s t same (OfModule m opening) of = (same ∙ of.0, of.1)
module_kept s t same (OfSet L) of = of

-- the host functions, as the code keeps them
pub hosts_so : (s : SingleRun) (all : List code.HostName) → map host_name_of all ≡ imported_hosts s.wasm s.wasm.imports → (o : Origin) → IsOf (loaded.Module s) o → (course_of o).host ≡ slice_get (map host_name_of all)
hosts_so s all same = by_module s (λ o. (course_of o).host ≡ slice_get (map host_name_of all)) (λ opening opens. let read : List HostName → ℕ → Option HostName = λ hs entry. slice_get hs entry in ap read (sym same))
