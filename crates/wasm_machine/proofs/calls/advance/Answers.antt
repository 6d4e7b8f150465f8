use Rattle.std.proofs.Common.{refl}
use Rattle.wasm_machine.proofs.Coming.{not_true, rest_some, named_next}
use Rattle.wasm_machine.proofs.Leading.{led_plain, rooms_plain, within_plain}
use Rattle.wasm_machine.proofs.calls.advance.Goals as goal

pub instruction-requires : goal.instruction-requires
instruction-requires g c κs =
    let V = (g.V.View.seen c.args.view.now).fixed in
    let named = named_next (V.counts c.args.top.now.act.unit) _ _ c.requires.rest c.requires.next in (
      (refl, tt),
      (
        rest_some _ _ c.requires.next,
        (named, (c.requires.names, (c.requires.holds, λ q. within_plain V _ _ c.args.callers.now c.args.top.now c.args.i.now c.requires.live c.requires.next q c.requires.joined c.requires.rooms c.requires.within c.requires.moves))),
      ),
    )

pub returns-in-Some-clause-led : goal.returns-in-Some-clause-led
returns-in-Some-clause-led g c =
    led_plain (g.V.View.seen c.args.view.now).fixed _ _ c.args.callers.now c.args.top.now c.args.i.now c.in-Some.done _ c.requires.live c.requires.next c.instruction.new.top
    (not_true _ c.in-Some.ensures.call) c.in-Some.ensures.acted

pub returns-in-Some-clause-rooms : goal.returns-in-Some-clause-rooms
returns-in-Some-clause-rooms g c =
    rooms_plain (g.V.View.seen c.args.view.now).fixed _ _ c.args.callers.now c.args.top.now c.args.i.now c.in-Some.done _ c.requires.live c.requires.next c.instruction.new.top
    (not_true _ c.in-Some.ensures.call) c.in-Some.ensures.acted c.requires.rooms c.in-Some.ensures.rest
