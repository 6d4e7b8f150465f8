use Rattle.std.proofs.Common.{Err, sym, ap, subst}
use Rattle.spec_loading.specs.spec_runtime.Courses.{state_at}
use Rattle.spec_loading.specs.spec_linking.LinkedSets.{LinkedSet}
use Rattle.spec_loading.specs.SoundSets.{HoldBytes}
use Rattle.dyl_store.specs.Stores.{StoreRun, set_course}
use Rattle.merge_module.specs.Laws.{IsMergeable}
use Rattle.spec_snapshots.specs.Causes.{Takes, IsFirst}
use Rattle.snap_merge.specs.StartUp.{Refuses}
use Rattle.snap_merge.proofs.StartUp.{here_is}
use Rattle.snap_merge.proofs.Answered.{if_ok, if_err, opened, first_tells, snapped_of, spelled_first, exact_of, only_long_of, refused_long, written_tells}
use Rattle.snap_merge.proofs.taken.Goals as goal

pub start_up-requires-clause-able : goal.start_up-requires-clause-able
start_up-requires-clause-able c =
    let same = ap (λ (v : StoreRun). v.linked) c.requires.fresh in
    let known : IsMergeable c.args.linked.now = record { shape = c.links.ensures.shape; links = c.links.ensures.links; pages = c.has_few_pages.ensures; hosts = c.hosts_have_integers.ensures.supported } in
    (subst IsMergeable (sym same) known, c.holds_bytes.ensures)

pub start_up-requires-clause-starting : goal.start_up-requires-clause-starting
start_up-requires-clause-starting c = opened c.args.most c.args.store.now c.args.linked.now c.requires.fresh

pub written-requires-clause-taken : goal.written-requires-clause-taken
written-requires-clause-taken c = record {
  most = c.args.most;
  first = subst (λ (M : LinkedSet). IsFirst M c.args.most c.start_up.new.store.run.steps Takes) (ap (λ (v : StoreRun). v.linked) c.requires.fresh) c.in-Ok.ensures.first;
  found = c.in-Ok.ensures.starting.found;
  none = c.in-Ok.ensures.starting.none;
}

pub returns-in-Ok-clause-snapped : goal.returns-in-Ok-clause-snapped
returns-in-Ok-clause-snapped c =
    if_ok c.written.result (λ b spelled.
    let L = c.args.linked.now in
    let same = ap (λ (x : StoreRun). x.linked) c.requires.fresh in
    let v = c.start_up.new.store in
    let known : IsMergeable L = record { shape = c.links.ensures.shape; links = c.links.ensures.links; pages = c.has_few_pages.ensures; hosts = c.hosts_have_integers.ensures.supported } in
    snapped_of c.spelled_snapshots_are_snapshots.ensures c.bytes_spell_one_module.ensures c.merged_modules_are_formed.ensures.shape L known (subst HoldBytes same c.holds_bytes.ensures) c.args.most v.run.steps
    (subst (λ (M : LinkedSet). IsFirst M c.args.most v.run.steps Takes) same c.in-Ok.ensures.first) (state_at (set_course L) v.run) (here_is L c.args.most v c.in-Ok.ensures.starting) b.items spelled) c.written.ensures.spelled

pub returns-in-Ok-clause-tells : goal.returns-in-Ok-clause-tells
returns-in-Ok-clause-tells c =
    if_err c.written.result (λ fault tells.
    let L = c.args.linked.now in
    let same = ap (λ (x : StoreRun). x.linked) c.requires.fresh in
    let v = c.start_up.new.store in
    written_tells L c.args.most v.run.steps (subst (λ (M : LinkedSet). IsFirst M c.args.most v.run.steps Takes) same c.in-Ok.ensures.first)
    (state_at (set_course L) v.run) (here_is L c.args.most v c.in-Ok.ensures.starting) fault tells) c.written.ensures.tells

pub returns-in-Err-clause-tells : goal.returns-in-Err-clause-tells
returns-in-Err-clause-tells c =
    let same = ap (λ (v : StoreRun). v.linked) c.requires.fresh in
    first_tells c.args.linked.now c.args.most c.in-Err.fault (subst (λ (M : LinkedSet). Refuses M c.args.most c.in-Err.fault) same c.in-Err.ensures.refuses)

pub returns-in-Ok-clause-spelled : goal.returns-in-Ok-clause-spelled
returns-in-Ok-clause-spelled c =
    if_ok c.written.result (λ b spelled.
    let L = c.args.linked.now in
    let same = ap (λ (x : StoreRun). x.linked) c.requires.fresh in
    let v = c.start_up.new.store in
    spelled_first L c.args.most v.run.steps (subst (λ (M : LinkedSet). IsFirst M c.args.most v.run.steps Takes) same c.in-Ok.ensures.first)
    (state_at (set_course L) v.run) (here_is L c.args.most v c.in-Ok.ensures.starting) b.items spelled) c.written.ensures.spelled

pub returns-in-Ok-clause-exact : goal.returns-in-Ok-clause-exact
returns-in-Ok-clause-exact c = λ id e. exact_of c.args.linked.now c.args.most c.written.result (returns-in-Ok-clause-tells c) id e

pub returns-in-Ok-clause-only_long : goal.returns-in-Ok-clause-only_long
returns-in-Ok-clause-only_long c =
    let L = c.args.linked.now in
    let same = ap (λ (x : StoreRun). x.linked) c.requires.fresh in
    let v = c.start_up.new.store in
    only_long_of c.first_states_are_one.ensures.one L c.args.most v.run.steps
    (subst (λ (M : LinkedSet). IsFirst M c.args.most v.run.steps Takes) same c.in-Ok.ensures.first) (state_at (set_course L) v.run)
    (here_is L c.args.most v c.in-Ok.ensures.starting) c.written.result c.written.ensures.only_long

pub returns-in-Err-clause-exact : goal.returns-in-Err-clause-exact
returns-in-Err-clause-exact c = λ id e. exact_of c.args.linked.now c.args.most (Err c.in-Err.fault) (returns-in-Err-clause-tells c) id e

pub returns-in-Err-clause-only_long : goal.returns-in-Err-clause-only_long
returns-in-Err-clause-only_long c =
    let same = ap (λ (v : StoreRun). v.linked) c.requires.fresh in
    refused_long c.first_states_are_one.ensures.one c.args.linked.now c.args.most c.in-Err.fault
    (subst (λ (M : LinkedSet). Refuses M c.args.most c.in-Err.fault) same c.in-Err.ensures.refuses)
