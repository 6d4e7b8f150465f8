use Rattle.std.proofs.Common.{rules}
use Rattle.wasm_machine.proofs.Receiving.{given_over}
use Rattle.wasm_machine.proofs.machine.Machine.give.Goals as goal

pub returns-clause-over : goal.returns-clause-over
returns-clause-over g c = given_over (g.V.View.seen c.args.view.now).fixed (g.V.View.seen c.args.view.now).units (g.V.View.seen c.args.view.now).memory c.args.value c.args.self.now _ c.ranges.value.fits c.requires.loading c.requires.over (search rules) (search rules)
