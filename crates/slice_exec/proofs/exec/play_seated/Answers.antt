-- What answers the calls of each set was found, and turns were taken.
use Rattle.std.proofs.Common.{◌∙◌, Ok, Err, refl, subst, arith}
use Rattle.std.specs.List.{AllZip}
use Rattle.std.proofs.lemmas.List.{take_all}
use Rattle.slice_exec.specs.Playing.{IsHostsOf}
use Rattle.slice_exec.proofs.HostsBound.{bound_so}
use Rattle.slice_exec.proofs.Lists.{zip_more}
use Rattle.slice_exec.proofs.Whole.{runs_none, have_hosts, runs_played}
use Rattle.slice_exec.proofs.exec.play_seated.Goals as goal

pub loop-linked-preserved : goal.loop-linked-preserved
loop-linked-preserved g c =
    let e = c.in-Ok-bind.ensures in
    zip_more (IsHostsOf c.args.name.now c.args.table.now) c.args.sets.now c.loop-linked.hosts.items c.push.new.self.items c.loop-linked.linked-index c.linked-item.result c.in-Ok-bind.bound c.loop-linked-test.true c.linked-item.is
    c.loop-linked.invariant
    (bound_so c.args.name.now c.args.table.now c.linked-item.result c.new.result _ (Ok c.in-Ok-bind.bound) (c.new.ensures ∙ c.in-Ok.ensures) c.hosts.ensures e.wasi e.table e.bound)
    c.in_default-push.ensures.items

pub returns-in_default : goal.returns-in_default
returns-in_default g c = runs_none c.args.sets.now _ c.args.most c.args.slice c.args.turns _ (Err (record {})) c.args.board.now.seats.items c.args.tally.now _ refl

pub returns-in_default-bind : goal.returns-in_default-bind
returns-in_default-bind g c = runs_none c.args.sets.now _ c.args.most c.args.slice c.args.turns _ (Err (record {})) c.args.board.now.seats.items c.args.tally.now _ refl

pub returns-in-Err : goal.returns-in-Err
returns-in-Err g c = runs_none c.args.sets.now _ c.args.most c.args.slice c.args.turns _ (Err (record {})) c.args.board.now.seats.items c.args.tally.now _ refl

pub play-played-requires-clause-hosts : goal.play-played-requires-clause-hosts
play-played-requires-clause-hosts g c =
    let l = c.loop-linked in
    let all = subst (λ ks. AllZip (IsHostsOf c.args.name.now c.args.table.now) ks l.hosts.items) (take_all l.linked-index c.args.sets.now (omega (arith, c.loop-linked-test.false))) l.invariant in
    have_hosts c.args.name.now c.args.table.now l.hosts.items c.deref.result.now c.args.sets.now _ c.requires.sets c.deref.ensures.value all c.requires.names c.requires.integers

pub returns : goal.returns
returns g c =
    let l = c.loop-linked in
    let all = subst (λ ks. AllZip (IsHostsOf c.args.name.now c.args.table.now) ks l.hosts.items) (take_all l.linked-index c.args.sets.now (omega (arith, c.loop-linked-test.false))) l.invariant in
    runs_played c.args.sets.now c.args.name.now c.args.table.now l.hosts.items c.deref.result.now c.args.most c.args.slice c.args.turns _ _ c.play-played.result c.args.board.now.seats.items c.play-played.new.board.seats.items
    c.play-played.new.tally _ _ c.requires.sets c.deref.ensures.value refl all c.requires.names c.requires.integers c.play-played.ensures
