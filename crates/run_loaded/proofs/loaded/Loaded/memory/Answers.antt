use Rattle.std.proofs.Common.{◌≡◌}
use Rattle.spec_hosts.specs.spec_runtime.Courses.{memory_at}
use Rattle.run_loaded.specs.Courses.{course_of}
use Rattle.run_loaded.proofs.Singles.{by_module}
use Rattle.run_loaded.proofs.Sets.{by_set}
use Rattle.run_loaded.proofs.loaded.Loaded.memory.Goals as goal

pub returns-in-Module : goal.returns-in-Module
returns-in-Module c =
    let s = c.in-Module.single in
    rw c.in-Module.is (λ found. by_module s (λ o. c.memory.result.now ≡ memory_at (course_of o) s.run) (c.memory.ensures found))

pub returns-in-Set : goal.returns-in-Set
returns-in-Set c =
    let s = c.in-Set.store in
    rw c.in-Set.is (λ found. by_set s (λ o. c.memory-in-Set.result.now ≡ memory_at (course_of o) s.run) (c.memory-in-Set.ensures found))
