use Rattle.slice_board.proofs.Answering.{awaits, answers}
use Rattle.slice_board.proofs.board.Board.answer.Goals as goal

pub answer-requires : goal.answer-requires
answer-requires g c = awaits c.args.self.now.seats.items c.args.p c.args.a c.index_mut.result.now c.index_mut.ensures.value c.requires

pub returns-clause-answered : goal.returns-clause-answered
returns-clause-answered g c =
    answers c.args.self.now.seats.items c.args.p c.args.a c.index_mut.result.now c.index_mut.ensures.value c.requires c.answer.new.self c.answer.result
    c.answer.ensures.recorded c.answer.ensures.lost c.answer.ensures.same
