use Rattle.wasm_machine.specs.Machines.{at_point}
use Rattle.wasm_machine.proofs.Stepping.{one_step}
use Rattle.wasm_machine.proofs.machine.Machine.quick.Goals as goal

pub returns-clause-stepped : goal.returns-clause-stepped
returns-clause-stepped g c =
    one_step (g.V.View.seen c.args.view.now).fixed c.run.result.0 c.run.result.1 (at_point c.args.self.now (g.V.View.seen c.args.view.now)) (at_point c.run.new.self (g.V.View.seen c.run.new.view)) c.run.ensures.most c.run.ensures.fewer c.run.ensures.ran
