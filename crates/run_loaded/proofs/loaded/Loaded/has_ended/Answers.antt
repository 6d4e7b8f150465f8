use Rattle.std.proofs.Common.{◌≡◌}
use Rattle.spec_hosts.specs.spec_runtime.Recorded.{has_ended}
use Rattle.spec_hosts.specs.spec_runtime.Courses.{status_at}
use Rattle.run_loaded.specs.Courses.{course_of}
use Rattle.run_loaded.proofs.Singles.{by_module}
use Rattle.run_loaded.proofs.Sets.{by_set}
use Rattle.run_loaded.proofs.loaded.Loaded.has_ended.Goals as goal

pub returns-in-Module : goal.returns-in-Module
returns-in-Module c =
    let s = c.in-Module.single in
    rw c.in-Module.is (λ found. by_module s (λ o. c.has_ended.result ≡ has_ended (status_at (course_of o) s.run)) (c.has_ended.ensures found))

pub returns-in-Set : goal.returns-in-Set
returns-in-Set c =
    let s = c.in-Set.store in
    rw c.in-Set.is (λ found. by_set s (λ o. c.has_ended-in-Set.result ≡ has_ended (status_at (course_of o) s.run)) (c.has_ended-in-Set.ensures found))
