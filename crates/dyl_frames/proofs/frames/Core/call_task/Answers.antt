use Rattle.std.proofs.Common.{Option, Some, ap, ◌∙◌}
use Rattle.spec_loading.specs.wasm_form.declared.runtime.Ref.{Ref}
use Rattle.dyl_frames.proofs.frames.Core.call_task.Goals as goal

pub returns-then-not-is_behind-clause-stepped : goal.returns-then-not-is_behind-clause-stepped
returns-then-not-is_behind-clause-stepped g c D loaded callee = c.pass.ensures.stepped D

pub returns-in-None-clause-stepped : goal.returns-in-None-clause-stepped
returns-in-None-clause-stepped g c D loaded callee = c.call_nothing.ensures.stepped D (callee ∙ ap (λ (o : Option Ref). Some o) c.in-None.is)
