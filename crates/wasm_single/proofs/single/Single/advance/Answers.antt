use Rattle.std.proofs.Common.{◌≡◌, ◌<◌, Ok, OnOk, subst}
use Rattle.spec_safety.specs.spec_runtime.Courses.{state_at}
use Rattle.spec_safety.specs.spec_execution.OneModule.{ModuleState}
use Rattle.wasm_machine.specs.Steps.{AreOfCode}
use Rattle.wasm_single.specs.Starts.{opened}
use Rattle.wasm_single.specs.Cores.{IsCodeNext}
use Rattle.wasm_single.specs.Singles.{SingleRun, module_course}
use Rattle.wasm_single.proofs.single.Single.advance.Goals as goal

pub returns-clause-code : goal.returns-clause-code
returns-clause-code c =
    subst (λ (v : SingleRun). (opening : ModuleState) → opened v.wasm ≡ Ok opening → AreOfCode (module_course v.wasm opening) v.run c.advance.new.self.run) c.self.view_is c.advance.ensures.code

pub returns-clause-left : goal.returns-clause-left
returns-clause-left c =
    let y = c.advance.new.self.run in
    subst (λ (v : SingleRun). (opening : ModuleState) → opened v.wasm ≡ Ok opening → OnOk c.advance.result (y.steps < c.args.most → IsCodeNext v.wasm (state_at (module_course v.wasm opening) y) → ⊥)) c.self.view_is c.advance.ensures.left
