use Rattle.std.proofs.Common.{ap}
use Rattle.std.specs.Borrow.{Bor}
use Rattle.wasm_form.specs.declared.module.Module.{Module}
use Rattle.wasm_single.proofs.ModuleRuns.{runs_so}
use Rattle.wasm_single.proofs.module_run.ModuleRunBareChecked.run.Goals as goal

pub returns-clause-ran : goal.returns-clause-ran
returns-clause-ran c = λ o of s is.
    runs_so c.args.self.now.core.checked.now (record c.args.self.now { core = c.run.new.self }) (ap (λ (b : Bor Module). b.now) c.run.ensures.wasm) o s c.run.result.0 c.run.result.1 (c.run.ensures.ran s is)
