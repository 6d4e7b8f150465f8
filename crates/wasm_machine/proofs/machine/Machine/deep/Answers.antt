use Rattle.std.proofs.Common.{refl, sym, ◌∙◌}
use Rattle.wasm_machine.proofs.Sound.{names_there, all_held}
use Rattle.wasm_machine.proofs.Telling.{here_over, here_in_range}
use Rattle.wasm_machine.proofs.machine.Machine.deep.Goals as goal

pub next_passes-requires : goal.next_passes-requires
next_passes-requires g c κs =
    let w = g.V.View.seen c.args.view.now in
    let live = sym c.is_live.ensures ∙ c.if-is_live.true in
    let over = here_over w.fixed w.units w.memory c.self.inside.callers c.self.inside.top c.self.inside.standing c.args.self.now live c.in-Moving.is c.self.view_is c.requires.over in
    let range = here_in_range w.fixed w.units w.memory c.self.inside.callers c.self.inside.top c.self.inside.standing c.args.self.now live c.in-Moving.is c.self.view_is c.requires.over in
    ((refl, tt), (c.self.invariant.joined, (live, (over.rooms, (names_there w.fixed c.requires.over.view, (all_held w.fixed w.units c.requires.over.view c.requires.over.units, range))))))
