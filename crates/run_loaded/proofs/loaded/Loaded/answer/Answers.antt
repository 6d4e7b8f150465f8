use Rattle.wasm_machine.specs.Steps.{Awaits}
use Rattle.run_loaded.specs.Courses.{course_of}
use Rattle.run_loaded.proofs.Singles.{at_opening, module_kept}
use Rattle.run_loaded.proofs.Sets.{set_at, set_kept}
use Rattle.run_loaded.proofs.loaded.Loaded.answer.Goals as goal

pub answer-requires : goal.answer-requires
answer-requires c =
    let r = rw c.in-Module.is at c.requires in
    let s = c.in-Module.single in
    at_opening s (λ o. Awaits (course_of o) s.run c.args.a) r.0 r.1 r.2

pub answer-requires-in-Set : goal.answer-requires-in-Set
answer-requires-in-Set c =
    let r = rw c.in-Set.is at c.requires in
    let s = c.in-Set.store in
    set_at s (λ o. Awaits (course_of o) s.run c.args.a) r.0 r.1 r.2

pub returns-in-Module-clause-recorded : goal.returns-in-Module-clause-recorded
returns-in-Module-clause-recorded c = rw c.in-Module.is c.answer.ensures.recorded

pub returns-in-Module-clause-lost : goal.returns-in-Module-clause-lost
returns-in-Module-clause-lost c = rw c.in-Module.is c.answer.ensures.lost

pub returns-in-Module-clause-kept : goal.returns-in-Module-clause-kept
returns-in-Module-clause-kept c = rw c.in-Module.is (module_kept c.in-Module.single c.answer.new.self c.answer.ensures.same)

pub returns-in-Set-clause-recorded : goal.returns-in-Set-clause-recorded
returns-in-Set-clause-recorded c = rw c.in-Set.is c.answer-in-Set.ensures.recorded

pub returns-in-Set-clause-lost : goal.returns-in-Set-clause-lost
returns-in-Set-clause-lost c = rw c.in-Set.is c.answer-in-Set.ensures.lost

pub returns-in-Set-clause-kept : goal.returns-in-Set-clause-kept
returns-in-Set-clause-kept c = rw c.in-Set.is (set_kept c.in-Set.store c.answer-in-Set.new.self c.answer-in-Set.ensures.same)
