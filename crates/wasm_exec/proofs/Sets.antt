-- A loaded set, from its opening state.
use Rattle.std.proofs.Common.{◌≡◌, ℕ, Result, Ok, Err, refl, subst}
use Rattle.spec_hosts.specs.wasm_form.declared.memory.Memory.{Memory}
use Rattle.spec_hosts.specs.spec_runtime.Names.{HostNames, Fits, host_match}
use Rattle.spec_hosts.specs.Devices.{Devices}
use Rattle.spec_hosts.specs.Hosted.{Embedder}
use Rattle.spec_hosts.specs.declared.ran.Ran as run
use Rattle.spec_loading.specs.spec_linking.LinkedSets.{LinkedSet, set_hosts, hosts_of}
use Rattle.spec_loading.specs.spec_linking.Links.{Links}
use Rattle.dyl_link.specs.host_table.Names.{HaveIntegers}
use Rattle.dyl_store.specs.Stores.{StoreRun, new_run}
use Rattle.run_loaded.specs.declared.loaded.Loaded.TheVariants as loaded
use Rattle.run_loaded.specs.Courses.{OfSet, course_of}
use Rattle.run_loaded.proofs.Openings.{set_loaded}
use Rattle.wasm_exec.specs.Driving.{AreDeclared, Begins, Opens, CourseGives}
use Rattle.wasm_exec.specs.Executed.{ExecutesSet}
use Rattle.dyl_link.proofs.SetHosts.{IsDeclared, each_at, set_declared}

-- the host functions of a set that was linked over these are declared, and have integers
pub are_declared : (L : LinkedSet) (names : HostNames) → HaveIntegers L.names → Links L → L.names ≡ names → AreDeclared (set_hosts L) names
are_declared L names integers links over = λ entry h at.
    let fits = each_at (IsDeclared L) (hosts_of L) entry h (set_declared L links) at in
    let declared : host_match names h.module_name h.name h.ty ≡ Fits = subst (λ n. host_match n h.module_name h.name h.ty ≡ Fits) over fits in
    (declared, integers h.module_name h.name h.ty fits)

-- and it begins over them
pub set_begins : (L : LinkedSet) (names : HostNames) → HaveIntegers L.names → Links L → L.names ≡ names → Begins (course_of (OfSet L)) names
set_begins L names integers links over = record { declared = are_declared L names integers links over; moving = refl }

pub set_opens : (L : LinkedSet) (names : HostNames) → HaveIntegers L.names → Links L → L.names ≡ names → (s : StoreRun) → s ≡ new_run L → Opens (OfSet L) names (loaded.Set s)
set_opens L names integers links over s new = (set_loaded L s new, set_begins L names integers links over)

-- what came of its run
pub set_executes : (L : LinkedSet) (embedder : Embedder) (most : ℕ) (r : Result run.Ran Memory) (begun now : Devices) → CourseGives (course_of (OfSet L)) embedder most r begun now → ExecutesSet L embedder most r begun now
set_executes L embedder most (Ok r) begun now gives = gives
set_executes L embedder most (Err why) begun now gives = gives
