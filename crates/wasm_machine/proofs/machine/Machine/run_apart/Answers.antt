use Rattle.std.proofs.Common.{ap}
use Rattle.wasm_machine.specs.Stacks.{joined}
use Rattle.wasm_machine.proofs.Stepping.{run_told}
use Rattle.wasm_machine.proofs.machine.Machine.run_apart.Goals as goal

pub returns-clause-ran : goal.returns-clause-ran
returns-clause-ran g c =
    let cs = c.self.inside.callers in
    let made = c.steps_apart-made in
    run_told (g.V.View.seen c.args.view.now).fixed made.result.0 made.result.1 (g.V.View.seen c.args.view.now) (g.V.View.seen made.new.view) c.args.self.now (joined cs c.self.inside.top) c.self.inside.standing (joined cs c.replace-top.result) (joined made.new.callers made.new.top) _
    c.self.view_is c.requires.moving (ap (joined cs) c.replace-top.ensures.value) c.settle.ensures.settled made.ensures.ran
