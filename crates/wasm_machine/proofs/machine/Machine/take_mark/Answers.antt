use Rattle.std.proofs.Common.{◌∙◌, ap, sym, Some}
use Rattle.wasm_machine.proofs.Marking.{unmarked_machine}
use Rattle.wasm_machine.proofs.machine.Machine.take_mark.Goals as goal

pub invariant_of-self : goal.invariant_of-self
invariant_of-self c =
    let marked = rw (← c.self.view_is) at c.requires in
    let active = sym c.last.ensures ∙ c.in-Some-Active.is ∙ ap Some c.in-Some-Active.field-0-is in
    rw c.resume.ensures
    (unmarked_machine c.self.inside.callers c.pop.new.self c.pop-in-Some-Active.new.self c.self.inside.top c.in-Some-Active.place c.self.inside.standing c.pop.result c.pop-in-Some-Active.result marked c.self.invariant.joined c.pop.ensures.some c.pop.ensures.none active c.pop-in-Some-Active.ensures.some c.pop-in-Some-Active.ensures.none)
