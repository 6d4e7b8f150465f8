use Rattle.std.proofs.Common.{◌<◌, ℕ, length, refl, sym, ap, subst, ◌∙◌, arith}
use Rattle.std.proofs.lemmas.Option.{slice_get_read}
use Rattle.spec_loading.specs.LoadedSet.{set_loading}
use Rattle.spec_loading.specs.spec_linking.LinkedSets.{LinkedSet}
use Rattle.spec_loading.specs.Members.{set_view}
use Rattle.dyl_frames.specs.Cores.{IsCore}
use Rattle.dyl_store.specs.Worlds.{seen_of}
use Rattle.dyl_store.specs.declared.running.Running.{Running}
use Rattle.dyl_store.proofs.Loads.{running_after, placed_core}
use Rattle.dyl_store.proofs.running.Running.place.Goals as goal

pub place-outcome-requires-clause-member : goal.place-outcome-requires-clause-member
place-outcome-requires-clause-member c = subst (λ (n : ℕ). c.args.task.member < n) c.requires.running.members c.requires.placing.member

pub returns-clause-stepped : goal.returns-clause-stepped
returns-clause-stepped c = c.placed.ensures.stepped (set_loading c.args.self.now.linked.now) (seen_of c.args.self.now.world) c.place-outcome.ensures.placed

pub returns-clause-running : goal.returns-clause-running
returns-clause-running c =
    let world = c.place-outcome.new.self in
    let new : Running = record c.args.self.now { world = world; core = c.placed.new.self } in
    running_after c.args.self.now new c.requires.running refl refl (ap set_view c.place-outcome.ensures.linked)
    (subst (λ (L : LinkedSet). IsCore (set_view L) world.store world.memory c.placed.new.self) c.place-outcome.ensures.linked c.placed.ensures.core) c.placed.ensures.members

pub index-placement-requires : goal.index-placement-requires
index-placement-requires c =
    let lt = subst (λ (n : ℕ). c.args.task.member < n) (c.requires.running.members ∙ sym c.requires.running.placements.count) c.requires.placing.member in
    omega (arith, lt, c.args.self.now.placements.ok.0)

pub place-outcome-requires-clause-placement : goal.place-outcome-requires-clause-placement
place-outcome-requires-clause-placement c =
    let ps = c.args.self.now.placements.items in
    let lt = subst (λ (n : ℕ). c.args.task.member < n) (c.requires.running.members ∙ sym c.requires.running.placements.count) c.requires.placing.member in
    c.requires.running.placements.each c.args.task.member c.index-placement.result.now (slice_get_read ps (length ps) c.args.task.member c.index-placement.result.now refl lt c.index-placement.ensures)

pub placed-requires : goal.placed-requires
placed-requires c κs =
    let world = c.place-outcome.new.self in
    let lt = subst (λ (n : ℕ). c.args.task.member < n) c.requires.running.members c.requires.placing.member in
    let core = placed_core c.linked_sets_step_soundly.ensures.set c.args.self.now c.requires.running c.requires.stands c.args.task.member lt c.place-outcome.result world c.place-outcome.ensures.placed in
    ((refl, tt), (subst (λ (L : LinkedSet). IsCore (set_view L) world.store world.memory c.args.self.now.core) (sym c.place-outcome.ensures.linked) core, (c.requires.marked, (c.requires.placing.next, (c.requires.placing.member, (c.requires.placing.behind, c.requires.placing.places))))))
