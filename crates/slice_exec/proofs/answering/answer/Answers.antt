-- The answer is recorded and counted.
use Rattle.std.proofs.Common.{arith}
use Rattle.std.proofs.lemmas.Option.{slice_get_within}
use Rattle.std.proofs.lemmas.Result.{err_from_is_err_and}
use Rattle.slice_exec.proofs.Serving.{written_within, sum_fits, asking_at, awaits_at, unserved_so, served_so}
use Rattle.slice_exec.proofs.answering.answer.Goals as goal

pub store-requires : goal.store-requires
store-requires g c =
    let q = c.requires in
    slice_get_within c.args.board.now.seats.items c.args.p q.0 q.1

pub ask-requires : goal.ask-requires
ask-requires g c =
    let q = c.requires in
    let s = c.store.ensures in
    asking_at c.args.hosts.now c.args.p c.args.board.now.seats.items s.0 c.store.result.now s.1 s.2 q.0 q.1 q.2

pub index_mut-requires : goal.index_mut-requires
index_mut-requires g c =
    let q = c.requires in
    let within = written_within c.args.p c.args.board.now.seats.items c.args.tally.now.written.items q.0 q.1 q.3 in
    let ok = c.args.tally.now.written.ok in
    omega (arith, within, ok)

pub overflow_add-index_mut : goal.overflow_add-index_mut
overflow_add-index_mut g c =
    let q = c.requires in
    let fits = sum_fits c.args.p c.args.board.now.seats.items c.args.tally.now.written.items q.0 q.1 q.3 c.index_mut.result.now c.bytes_written.result c.index_mut.ensures.value q.4 c.bytes_written.ensures.below in
    omega (arith, fits)

pub answer-requires : goal.answer-requires
answer-requires g c =
    let q = c.requires in
    let s = c.store.ensures in
    let asking = asking_at c.args.hosts.now c.args.p c.args.board.now.seats.items s.0 c.store.result.now s.1 s.2 q.0 q.1 q.2 in
    awaits_at c.args.hosts.now c.args.p c.args.board.now.seats.items s.0 c.store.result.now s.1 s.2 c.in_ok-given.given _ _ asking c.in_ok-given.ensures

pub returns-in_err-given-clause-served : goal.returns-in_err-given-clause-served
returns-in_err-given-clause-served g c =
    let s = c.store.ensures in
    let r = err_from_is_err_and c.from_residual.result c.from_residual.ensures.1 in
    rw r.1 (unserved_so c.args.hosts.now c.args.p c.args.board.now.seats.items s.0 c.store.result.now s.1 s.2 c.ask.result r.0 c.args.board.now.seats.items c.args.tally.now.written.items c.args.tally.now.written.items _ _ c.ask.ensures)

pub returns-clause-served : goal.returns-clause-served
returns-clause-served g c =
    let q = c.requires in
    let s = c.store.ensures in
    served_so c.args.hosts.now c.args.p c.args.board.now.seats.items s.0 c.store.result.now s.1 s.2 c.in_ok-given.given c.answer.result c.answer.new.self.seats.items c.args.tally.now.written.items
    c.index_mut.result.now c.bytes_written.result _ _ q.3 c.index_mut.ensures.value c.bytes_written.ensures.bytes c.in_ok-given.ensures c.answer.ensures.answered
