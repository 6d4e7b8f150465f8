-- The run of a loaded set, seen as a run of a course.
use Rattle.std.proofs.Common.{◌≡◌, ℕ, List, map, slice_get, Option, Result, Ok, Err, IfOk, sym, ap, subst}
use Rattle.spec_hosts.specs.wasm_form.declared.memory.Memory.{Memory}
use Rattle.spec_hosts.specs.spec_runtime.Names.{HostName}
use Rattle.spec_loading.specs.spec_linking.LinkedSets.{LinkedSet, hosts_of}
use Rattle.dyl_link.specs.host_table.Names.{host_name_of}
use Rattle.dyl_link.specs.host_table.declared.host.HostName as code
use Rattle.dyl_store.specs.Stores.{StoreRun}
use Rattle.run_loaded.specs.declared.loaded.Loaded.TheVariants as loaded
use Rattle.run_loaded.specs.Courses.{Origin, OfModule, OfSet, course_of}
use Rattle.run_loaded.specs.Programs.{IsOf, Keeps}

-- what is so of its set is so of what it is a run of
pub by_set : (s : StoreRun) (P : Origin → Type 0) → P (OfSet s.linked) → (o : Origin) → IsOf (loaded.Set s) o → P o
by_set s P holds (OfModule m opening) of = absurd of
by_set s P holds (OfSet L) of = subst (λ (M : LinkedSet). P (OfSet M)) of holds

-- and the other way round
pub set_at : (s : StoreRun) (P : Origin → Type 0) (o : Origin) → IsOf (loaded.Set s) o → P o → P (OfSet s.linked)
set_at s P (OfModule m opening) of holds = absurd of
set_at s P (OfSet L) of holds = subst (λ (M : LinkedSet). P (OfSet M)) (sym of) holds

-- what is so of its set at a result is so of the run
pub at_ok : {X : Type 0} (s : StoreRun) (result : Result X Memory) (P : X → Origin → Type 0) → IfOk result (λ x. P x (OfSet s.linked)) → IfOk result (λ x. (o : Origin) → IsOf (loaded.Set s) o → P x o)
at_ok s (Ok x) P holds = by_set s (P x) holds
at_ok s (Err why) P holds = tt

-- it stays a run of its set
pub set_kept : (s t : StoreRun) → t.linked ≡ s.linked → Keeps (loaded.Set s) (loaded.Set t)
set_kept s t same = by_set s (IsOf (loaded.Set t)) same

-- the host functions, as the code keeps them
pub hosts_so : (s : StoreRun) (all : List code.HostName) → map host_name_of all ≡ hosts_of s.linked → (o : Origin) → IsOf (loaded.Set s) o → (course_of o).host ≡ slice_get (map host_name_of all)
hosts_so s all same = by_set s (λ o. (course_of o).host ≡ slice_get (map host_name_of all)) (let read : List HostName → ℕ → Option HostName = λ hs entry. slice_get hs entry in ap read (sym same))
