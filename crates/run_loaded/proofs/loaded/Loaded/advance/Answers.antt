use Rattle.wasm_machine.specs.Steps.{AreOfCode}
use Rattle.wasm_machine.proofs.Steps.{few_steps}
use Rattle.run_loaded.specs.Courses.{course_of}
use Rattle.run_loaded.proofs.Singles.{by_module, module_kept}
use Rattle.run_loaded.proofs.Sets.{by_set, set_kept}
use Rattle.run_loaded.proofs.loaded.Loaded.advance.Goals as goal

pub returns-in-Module-clause-advances : goal.returns-in-Module-clause-advances
returns-in-Module-clause-advances c = rw c.in-Module.is c.advance.ensures.advances

pub returns-in-Module-clause-code : goal.returns-in-Module-clause-code
returns-in-Module-clause-code c = let s = c.in-Module.single in rw c.in-Module.is (by_module s (λ o. AreOfCode (course_of o) s.run c.advance.new.self.run) c.advance.ensures.code)

pub returns-in-Module-clause-more : goal.returns-in-Module-clause-more
returns-in-Module-clause-more c = rw c.in-Module.is c.advance.ensures.advances.more

pub returns-in-Module-clause-few : goal.returns-in-Module-clause-few
returns-in-Module-clause-few c = rw c.in-Module.is (few_steps c.args.most c.in-Module.single.run c.advance.new.self.run c.advance.ensures.advances)

pub returns-in-Module-clause-kept : goal.returns-in-Module-clause-kept
returns-in-Module-clause-kept c = rw c.in-Module.is (module_kept c.in-Module.single c.advance.new.self c.advance.ensures.same)

pub returns-in-Set-clause-advances : goal.returns-in-Set-clause-advances
returns-in-Set-clause-advances c = rw c.in-Set.is c.advance-in-Set.ensures.advances

pub returns-in-Set-clause-code : goal.returns-in-Set-clause-code
returns-in-Set-clause-code c = let s = c.in-Set.store in rw c.in-Set.is (by_set s (λ o. AreOfCode (course_of o) s.run c.advance-in-Set.new.self.run) c.advance-in-Set.ensures.code)

pub returns-in-Set-clause-more : goal.returns-in-Set-clause-more
returns-in-Set-clause-more c = rw c.in-Set.is c.advance-in-Set.ensures.advances.more

pub returns-in-Set-clause-few : goal.returns-in-Set-clause-few
returns-in-Set-clause-few c = rw c.in-Set.is (few_steps c.args.most c.in-Set.store.run c.advance-in-Set.new.self.run c.advance-in-Set.ensures.advances)

pub returns-in-Set-clause-kept : goal.returns-in-Set-clause-kept
returns-in-Set-clause-kept c = rw c.in-Set.is (set_kept c.in-Set.store c.advance-in-Set.new.self c.advance-in-Set.ensures.same)
