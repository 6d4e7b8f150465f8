use Rattle.std.proofs.Common.{refl, sym, subst, ◌∙◌}
use Rattle.std.proofs.lemmas.Result.{IfOk-weaker}
use Rattle.spec_loading.specs.LoadedSet.{set_loading}
use Rattle.wasm_machine.specs.Machines.{IsMarked}
use Rattle.dyl_frames.specs.declared.frames.Core.{Core}
use Rattle.dyl_store.specs.Worlds.{seen_of}
use Rattle.dyl_store.specs.Runs.{WantsTo}
use Rattle.dyl_store.specs.declared.running.Running.{Running}
use Rattle.dyl_store.proofs.Loads.{loaded, running_after, still_somewhere, steps_same}
use Rattle.dyl_store.proofs.Wanting.{on_lost, wants_still}
use Rattle.dyl_store.proofs.running.Running.next.Goals as goal

pub load-requires-clause-running : goal.load-requires-clause-running
load-requires-clause-running c =
    let new : Running = record c.args.self.now { world = c.step.new.view; core = c.step.new.self } in
    running_after c.args.self.now new c.requires.running refl refl c.step.ensures.fixed c.in_ok-event.ensures.core c.step.ensures.members

pub load-requires-clause-stands : goal.load-requires-clause-stands
load-requires-clause-stands c =
    let mark = c.in_ok-event.ensures.marked (sym c.is_mark.ensures ∙ c.if-is_mark.true) in
    still_somewhere c.args.self.now c.step.new.self c.step.new.view mark.0 mark.1 c.requires.stands

pub load-requires-clause-marked : goal.load-requires-clause-marked
load-requires-clause-marked c =
    let mark = c.in_ok-event.ensures.marked (sym c.is_mark.ensures ∙ c.if-is_mark.true) in
    subst (λ (x : Core). IsMarked x.machine) (sym mark.0) mark.2

pub returns-then-is_mark-clause-stepped : goal.returns-then-is_mark-clause-stepped
returns-then-is_mark-clause-stepped c =
    let mark = c.in_ok-event.ensures.marked (sym c.is_mark.ensures ∙ c.if-is_mark.true) in
    IfOk-weaker c.load.result _ _ (λ e s. steps_same c.args.self.now.linked.now e c.args.self.now c.load.new.self c.step.new.self (seen_of c.step.new.view) mark.0 mark.1 s) c.load.ensures.stepped

pub returns-in_err-event-clause-wanting : goal.returns-in_err-event-clause-wanting
returns-in_err-event-clause-wanting c = on_lost c.from_residual.result (WantsTo c.args.self.now) (c.in_err-event.ensures.wanting (set_loading c.args.self.now.linked.now))

pub returns-then-is_mark-clause-wanting : goal.returns-then-is_mark-clause-wanting
returns-then-is_mark-clause-wanting c =
    let mark = c.in_ok-event.ensures.marked (sym c.is_mark.ensures ∙ c.if-is_mark.true) in
    wants_still c.args.self.now c.step.new.self (seen_of c.step.new.view) mark.0 mark.1 c.load.result c.load.ensures.wanting

pub returns-clause-stepped : goal.returns-clause-stepped
returns-clause-stepped c = c.in_ok-event.ensures.stepped (sym c.is_mark.ensures ∙ c.if-is_mark.false) (set_loading c.args.self.now.linked.now) (loaded c.args.self.now c.requires.running)

pub returns-clause-running : goal.returns-clause-running
returns-clause-running c =
    let new : Running = record c.args.self.now { world = c.step.new.view; core = c.step.new.self } in
    running_after c.args.self.now new c.requires.running refl refl c.step.ensures.fixed c.in_ok-event.ensures.core c.step.ensures.members
