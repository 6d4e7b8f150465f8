use Rattle.std.proofs.Common.{rules, ◌≢◌, sym, ◌∙◌}
use Rattle.wasm_single.specs.declared.bare_run.Phase.TheVariants as phase
use Rattle.wasm_single.proofs.CoreSteps.{core_after, steps_after}
use Rattle.wasm_single.proofs.bare_run.Core.step.Goals as goal

pub returns-clause-stepped : goal.returns-clause-stepped
returns-clause-stepped c =
    let called : c.args.self.now.phase ≢ phase.Opened = search rules in
    let told = c.in_ok-event.ensures in
    steps_after c.args.self.now c.step.new.view c.step.new.self c.requires.core c.requires.moving called told.fixed c.in_ok-event.event told.stepped told.over (sym c.is_mark.ensures ∙ c.if-is_mark.false)

pub returns-clause-core : goal.returns-clause-core
returns-clause-core c =
    let called : c.args.self.now.phase ≢ phase.Opened = search rules in
    let told = c.in_ok-event.ensures in
    core_after c.args.self.now c.step.new.view c.step.new.self c.requires.core c.requires.moving called told.fixed c.in_ok-event.event told.stepped told.over
