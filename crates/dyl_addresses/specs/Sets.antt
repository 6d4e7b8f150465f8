-- The members of a linked set.
-- Serves the contracts of this crate, which follow LinkedSets of `spec_linking`.
use Rattle.std.specs.Prelude.{◌<◌, List, [], ◌∷◌, length, map}
use Rattle.wasm_form.specs.declared.module.Module.{Module}
use Rattle.spec_loading.specs.spec_linking.Sets as sets
use Rattle.spec_loading.specs.spec_linking.LinkedSets.{LinkedSet}
use Rattle.spec_loading.specs.declared.task.Task.{Task}
use Rattle.dyl_link.specs.dyl_search.declared.set.Member.{Member}

-- the modules of members
abbrev pub wasms : List sets.Member → List Module
wasms xs = map (λ x. x.wasm) xs

abbrev pub module_of : Member → Module
module_of x = x.checked

-- the tasks are of members of the set
abbrev pub AreOf : LinkedSet → List Task → Type 0
AreOf L [] = Unit {0}
AreOf L (task ∷ tasks) = (task.member < length L.set.members) × AreOf L tasks
