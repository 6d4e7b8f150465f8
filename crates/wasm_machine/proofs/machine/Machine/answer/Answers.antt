use Rattle.wasm_machine.proofs.Receiving.{reply_fits, replied_over}
use Rattle.wasm_machine.proofs.machine.Machine.answer.Goals as goal

pub receive-requires : goal.receive-requires
receive-requires g c =
    let fits = rw c.in-Reply.is at c.requires.fits in
    rw c.items-in-Reply.ensures ((reply_fits (g.V.View.seen c.args.view.now).fixed c.args.self.now.standing c.args.self.now.stack (g.V.View.seen c.args.view.now).memory c.in-Reply.results c.in-Reply.writes c.requires.over.asked fits).0)

pub returns-in-Reply-clause-over : goal.returns-in-Reply-clause-over
returns-in-Reply-clause-over g c =
    let fits = rw c.in-Reply.is at c.requires.fits in
    let bytes = rw c.in-Reply.is at c.is_of_bytes.ensures in
    let received = rw c.items-in-Reply.ensures at c.receive.ensures.received in
    rw (c.write_all.ensures.others, c.write_all.ensures.memory, c.items.ensures) (replied_over (g.V.View.seen c.args.view.now).fixed (g.V.View.seen c.args.view.now).units (g.V.View.seen c.args.view.now).memory c.in-Reply.results c.in-Reply.writes c.args.self.now c.receive.new.self c.requires.over fits bytes received c.receive.ensures.rooms)
