-- What is run: a module from its opening state, or a linked set from its own. Both are runs of a step system.
-- This profile: docs/FORMATS.md, "Runs".
use Rattle.std.specs.Prelude.{◌≡◌, []}
use Rattle.spec_hosts.specs.wasm_form.declared.module.Module.{Module}
use Rattle.spec_loading.specs.spec_execution.OneModule.{ModuleState}
use Rattle.spec_loading.specs.spec_linking.LinkedSets.{LinkedSet}
use Rattle.spec_hosts.specs.spec_runtime.Courses.{Course, after}
use Rattle.spec_hosts.specs.declared.ran.Ran.{Ran}
use Rattle.wasm_single.specs.Singles.{module_course}
use Rattle.dyl_store.specs.Stores.{set_course}

-- a module with the state from which it begins, or a linked set
pub data Origin : Type 0 where
  OfModule : Module → ModuleState → Origin
  OfSet : LinkedSet → Origin

abbrev pub course_of : Origin → Course
course_of (OfModule m opening) = module_course m opening
course_of (OfSet L) = set_course L

-- the steps of a run took all its answers
abbrev pub TakesAll : Course → Ran → Type 0
TakesAll C r = (after C r.steps r.answers).left ≡ []
