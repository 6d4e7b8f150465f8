use Rattle.spec_execution.specs.Instances.{module_view, module_names}
use Rattle.spec_safety.specs.SoundModules.{on_start}
use Rattle.spec_safety.specs.TypedViews.{HoldTypes}
use Rattle.spec_safety.proofs.SoundSteps.{code_step}
use Rattle.spec_safety.proofs.ModuleSteps.{step_ok, answer_ok}
use Rattle.spec_safety.proofs.modules_step_soundly.Goals as goal

pub returns-clause-steps : goal.returns-clause-steps
returns-clause-steps c = λ m s alone numbers. step_ok m alone numbers s

pub returns-clause-answers : goal.returns-clause-answers
returns-clause-answers c = λ m s call a alone numbers. answer_ok m alone numbers s call a

pub returns-clause-code : goal.returns-clause-code
returns-clause-code c = λ m. code_step (module_view m) (module_names m) (HoldTypes (module_view m) (module_names m)) (on_start m)
