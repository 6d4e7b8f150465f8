use Rattle.wasm_machine.specs.Machines.{at_point}
use Rattle.wasm_machine.proofs.Stepping.{one_step}
use Rattle.wasm_machine.proofs.machine.Machine.quick_apart.Goals as goal

pub returns-clause-stepped : goal.returns-clause-stepped
returns-clause-stepped g c =
    one_step (g.V.View.seen c.args.view.now).fixed c.run_apart.result.0 c.run_apart.result.1 (at_point c.args.self.now (g.V.View.seen c.args.view.now)) (at_point c.run_apart.new.self (g.V.View.seen c.run_apart.new.view)) c.run_apart.ensures.most c.run_apart.ensures.fewer c.run_apart.ensures.ran
