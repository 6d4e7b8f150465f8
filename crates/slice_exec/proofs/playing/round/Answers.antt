-- What comes of a round, at each of its ends.
use Rattle.std.proofs.Common.{◌∙◌, sym, ap, refl, true, false}
use Rattle.std.proofs.lemmas.Result.{err_from_is_err_and}
use Rattle.slice_board.specs.Taken.{picks_of}
use Rattle.slice_exec.specs.declared.tally.Tally.{Tally}
use Rattle.dyl_store.specs.Stores.{StoreRun}
use Rattle.slice_exec.specs.Playing.{written_by}
use Rattle.slice_exec.proofs.Serving.{written_at}
use Rattle.slice_exec.proofs.TakenRounds.{lost_round, lost_by, silent_round, seen_full, seen_at, program_within, written_so, serving_so, answered_round}
use Rattle.slice_exec.proofs.playing.round.Goals as goal

pub returns-in_err-turn-clause-round : goal.returns-in_err-turn-clause-round
returns-in_err-turn-clause-round g c =
    let b = c.args.board.now in
    let r = err_from_is_err_and c.from_residual.result c.from_residual.ensures.1 in
    rw r.1 (lost_round c.args.slice (picks_of b.picker.now) c.args.hosts.now b.seats.items b.turn c.args.tally.now r.0 b.seats.items b.turn c.args.tally.now _)

pub returns-in_err-push-clause-round : goal.returns-in_err-push-clause-round
returns-in_err-push-clause-round g c =
    let b = c.args.board.now in
    let told : Tally = record c.args.tally.now { picks = c.push.new.self } in
    lost_by c.args.slice (picks_of b.picker.now) c.args.hosts.now b.seats.items b.turn c.args.tally.now c.from_residual-in_err-push.result c.from_residual-in_err-push.ensures.0 c.turn.new.self.seats.items c.turn.new.self.turn
    told _

pub returns-in_default-clause-round : goal.returns-in_default-clause-round
returns-in_default-clause-round g c =
    let b = c.args.board.now in
    let told : Tally = record c.args.tally.now { picks = c.push.new.self } in
    silent_round c.args.slice (picks_of b.picker.now) c.args.hosts.now b.seats.items b.turn c.args.tally.now c.in_ok-turn.turn c.turn.new.self.seats.items c.in_ok-turn.ensures.taken told c.in_ok-push.ensures.items refl
    tt c.turn.new.self.turn _ c.turn.ensures.next (λ stops. absurd (c.in_default.not-Waits stops))

pub is_full-requires : goal.is_full-requires
is_full-requires g c =
    let b = c.args.board.now in
    let told : Tally = record c.args.tally.now { picks = c.push.new.self } in
    let s = c.store.ensures in
    let counted = written_so c.args.slice (picks_of b.picker.now) c.args.hosts.now b.seats.items b.turn c.args.tally.now c.in_ok-turn.turn c.turn.new.self.seats.items c.in_ok-turn.ensures.taken told c.in_ok-push.ensures.items refl
    _ c.requires s.0 c.store.result.now s.1 s.2
    in
    written_at c.in_ok-turn.turn.program c.turn.new.self.seats.items c.args.tally.now.written.items s.0 s.1 counted c.index.result.now c.index.ensures ∙ ap (λ (u : StoreRun). written_by u.run.answers) (sym s.2)

pub returns-then-is_full-clause-round : goal.returns-then-is_full-clause-round
returns-then-is_full-clause-round g c =
    let b = c.args.board.now in
    let told : Tally = record c.args.tally.now { picks = c.push.new.self } in
    let s = c.store.ensures in
    let full = seen_full c.args.slice (picks_of b.picker.now) c.args.hosts.now b.seats.items b.turn c.args.tally.now c.in_ok-turn.turn c.turn.new.self.seats.items c.in_ok-turn.ensures.taken told c.in_ok-push.ensures.items refl
    s.0 c.store.result.now c.is_full.result true s.1 s.2 c.is_full.ensures.value c.if-is_full.true
    in
    silent_round c.args.slice (picks_of b.picker.now) c.args.hosts.now b.seats.items b.turn c.args.tally.now c.in_ok-turn.turn c.turn.new.self.seats.items c.in_ok-turn.ensures.taken told c.in_ok-push.ensures.items refl
    tt c.turn.new.self.turn _ c.turn.ensures.next (λ stops. full)

pub bounds-hosts-p : goal.bounds-hosts-p
bounds-hosts-p g c =
    let b = c.args.board.now in
    let told : Tally = record c.args.tally.now { picks = c.push.new.self } in
    program_within c.args.slice (picks_of b.picker.now) c.args.hosts.now b.seats.items b.turn c.args.tally.now c.in_ok-turn.turn c.turn.new.self.seats.items c.in_ok-turn.ensures.taken told c.in_ok-push.ensures.items refl _ c.requires

pub answer-requires : goal.answer-requires
answer-requires g c =
    let b = c.args.board.now in
    let told : Tally = record c.args.tally.now { picks = c.push.new.self } in
    let s = c.store.ensures in
    let few = seen_full c.args.slice (picks_of b.picker.now) c.args.hosts.now b.seats.items b.turn c.args.tally.now c.in_ok-turn.turn c.turn.new.self.seats.items c.in_ok-turn.ensures.taken told c.in_ok-push.ensures.items refl
    s.0 c.store.result.now c.is_full.result false s.1 s.2 c.is_full.ensures.value c.if-is_full.false
    in
    serving_so c.args.slice (picks_of b.picker.now) c.args.hosts.now b.seats.items b.turn c.args.tally.now c.in_ok-turn.turn c.turn.new.self.seats.items c.in_ok-turn.ensures.taken told c.in_ok-push.ensures.items refl
    _ c.requires c.index-hosts-p.result c.index-hosts-p.is s.0 c.store.result.now s.1 s.2 c.is_full.ensures.stands c.in-Waits.is few

pub returns-clause-round : goal.returns-clause-round
returns-clause-round g c =
    let b = c.args.board.now in
    let told : Tally = record c.args.tally.now { picks = c.push.new.self } in
    let s = c.store.ensures in
    let few = seen_full c.args.slice (picks_of b.picker.now) c.args.hosts.now b.seats.items b.turn c.args.tally.now c.in_ok-turn.turn c.turn.new.self.seats.items c.in_ok-turn.ensures.taken told c.in_ok-push.ensures.items refl
    s.0 c.store.result.now c.is_full.result false s.1 s.2 c.is_full.ensures.value c.if-is_full.false
    in
    let stands =
    seen_at c.args.slice (picks_of b.picker.now) c.args.hosts.now b.seats.items b.turn c.args.tally.now c.in_ok-turn.turn c.turn.new.self.seats.items c.in_ok-turn.ensures.taken told c.in_ok-push.ensures.items refl
    s.0 c.store.result.now s.1 s.2 c.is_full.ensures.stands
    in
    answered_round c.args.slice (picks_of b.picker.now) c.args.hosts.now b.seats.items b.turn c.args.tally.now c.in_ok-turn.turn c.turn.new.self.seats.items c.in_ok-turn.ensures.taken told c.in_ok-push.ensures.items refl
    _ c.requires c.index-hosts-p.result c.index-hosts-p.is c.answer.result c.answer.new.board.seats.items c.answer.new.board.turn c.answer.new.tally _ _ stands c.in-Waits.is few (c.answer.ensures.turn ∙ c.turn.ensures.next)
    (ap (λ v. v.items) c.answer.ensures.picks) c.answer.ensures.served
