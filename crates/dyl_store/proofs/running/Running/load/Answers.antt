use Rattle.std.proofs.Common.{◌≡◌, Some, Option, refl, sym, ap, subst}
use Rattle.std.specs.Prelude.{MatchOption}
use Rattle.std.proofs.lemmas.Result.{IfOk-weaker}
use Rattle.spec_loading.specs.declared.task.Task.{Task}
use Rattle.spec_loading.specs.spec_binary.Indices.{nullary}
use Rattle.spec_loading.specs.spec_execution.Views.{View, type_of}
use Rattle.spec_loading.specs.spec_execution.Instances.{ModuleParts}
use Rattle.spec_loading.specs.LoadedSet.{set_loading}
use Rattle.dyl_store.specs.Runs.{IsPlacing, NonePlaces}
use Rattle.dyl_store.specs.declared.running.Running.{Running}
use Rattle.dyl_store.proofs.Loads.{loaded, running_after, serves, both_ok}
use Rattle.dyl_store.proofs.Wanting.{wants_so}
use Rattle.dyl_store.proofs.running.Running.load.Goals as goal

pub place-requires-clause-placing : goal.place-requires-clause-placing
place-requires-clause-placing c = subst (λ (o : Option Task). MatchOption o (NonePlaces c.args.self.now.core) (IsPlacing c.args.self.now.core)) c.in-Some.is c.placing.ensures

pub proceed-requires : goal.proceed-requires
proceed-requires c κs =
    let running = c.requires.running in
    let none = subst (λ (o : Option Task). MatchOption o (NonePlaces c.args.self.now.core) (IsPlacing c.args.self.now.core)) c.in-None.is c.placing.ensures in
    let callable = subst (λ (V : View ModuleParts). type_of V c.entry_of.result ≡ Some nullary) (sym running.fixed) c.entry_of.ensures.nullary in
    ((refl, tt), (running.core, (c.requires.marked, (none, (running.members, ((λ r. ap (λ (V : View ModuleParts). type_of V r) running.fixed), (callable, c.entry_of.ensures.own)))))))

pub returns-in-None-clause-stepped : goal.returns-in-None-clause-stepped
returns-in-None-clause-stepped c =
    IfOk-weaker c.proceed.result _ _
    (λ e s. s (set_loading c.args.self.now.linked.now) (loaded c.args.self.now c.requires.running) (serves c.args.self.now.linked.now c.entry_of.result c.entry_of.ensures.is))
    c.proceed.ensures.stepped

pub returns-in-None-clause-wanting : goal.returns-in-None-clause-wanting
returns-in-None-clause-wanting c = wants_so c.args.self.now c.proceed.result c.proceed.ensures.wanting

pub returns-in-None-clause-running : goal.returns-in-None-clause-running
returns-in-None-clause-running c =
    let new : Running = record c.args.self.now { core = c.proceed.new.core } in
    both_ok c.proceed.result _ _ _ (λ core members. running_after c.args.self.now new c.requires.running refl refl refl core members) c.proceed.ensures.core c.proceed.ensures.members
