use Rattle.spec_hosts.specs.spec_runtime.Courses.{IsAt}
use Rattle.run_loaded.specs.Courses.{course_of}
use Rattle.run_loaded.proofs.Singles.{by_module, from_opening}
use Rattle.run_loaded.proofs.Sets.{by_set}
use Rattle.run_loaded.proofs.loaded.Loaded.steps.Goals as goal

pub returns-in-Module-clause-stands : goal.returns-in-Module-clause-stands
returns-in-Module-clause-stands c =
    let s = c.in-Module.single in
    rw c.in-Module.is (λ found. by_module s (λ o. IsAt (course_of o) s.run) (from_opening s (λ o. IsAt (course_of o) s.run) (c.steps.ensures.stands found)))

pub returns-in-Set-clause-stands : goal.returns-in-Set-clause-stands
returns-in-Set-clause-stands c =
    let s = c.in-Set.store in
    rw c.in-Set.is (λ found. by_set s (λ o. IsAt (course_of o) s.run) (c.steps-in-Set.ensures.stands found))
