use Rattle.std.proofs.Common.{rules, ◌≡◌, refl, false}
use Rattle.wasm_form.specs.declared.runtime.Ref.TheVariants.{Own}
use Rattle.wasm_machine.specs.Stacks.{is_live}
use Rattle.wasm_machine.specs.declared.machine.Standing.TheVariants as standing
use Rattle.wasm_machine.specs.declared.event.Event.TheVariants as event
use Rattle.wasm_machine.proofs.Telling.{begun_told_at, begins_over}
use Rattle.wasm_machine.proofs.machine.Machine.begin.Goals as goal

pub returns-in-Goes-clause-told : goal.returns-in-Goes-clause-told
returns-in-Goes-clause-told g c =
    let moving : c.self.inside.standing ≡ standing.Moving = search rules in
    let idle : is_live c.self.inside.top ≡ false = search rules in
    let started : c.args.self.now.standing ≡ standing.Moving = search rules in
    (started, begun_told_at (g.V.View.seen c.args.view.now).fixed (Unit {0}) (g.V.View.seen c.args.view.now).units (g.V.View.seen c.args.view.now).memory c.self.inside.callers c.self.inside.top c.begin_own.new.top c.self.inside.standing (Own c.in-Own.unit c.in-Own.func) idle moving c.in-Goes.ensures.led (c.in-Goes.ensures.rooms refl) c.args.self.now c.args.r c.self.view_is c.in-Own.is (c.in-Goes.ensures.joined (λ e. cc)).bounded)

pub returns-in-Goes-clause-over : goal.returns-in-Goes-clause-over
returns-in-Goes-clause-over g c =
    let started : c.args.self.now.standing ≡ standing.Moving = search rules in
    begins_over (g.V.View.seen c.args.view.now).fixed (g.V.View.seen c.args.view.now).units (g.V.View.seen c.args.view.now).memory event.Moved c.args.r c.args.self.now _ c.requires.over started c.requires.nullary (returns-in-Goes-clause-told g c).1 (c.in-Goes.ensures.rooms refl) (search rules)
