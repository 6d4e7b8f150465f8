use Rattle.std.proofs.Common.{ap, ◌∙◌, refl, subst}
use Rattle.spec_loading.specs.spec_linking.LinkedSets.{LinkedSet}
use Rattle.dyl_link.specs.host_table.Names.{HaveIntegers}
use Rattle.slice_board.specs.Taken.{picks_of}
use Rattle.slice_exec.proofs.Whole.{seated, counted, finished, fronts, stopped, stopped_fronts}
use Rattle.slice_exec.proofs.exec.execute_board.Goals as goal

pub run_board-played-requires-clause-integers : goal.run_board-played-requires-clause-integers
run_board-played-requires-clause-integers g c =
    subst HaveIntegers (ap (λ (L : LinkedSet). L.names) c.index-sets-0.is ∙ c.requires.names 0 _ c.requires.some) c.hosts_have_integers.ensures.integers

pub finish-requires-clause-seated : goal.finish-requires-clause-seated
finish-requires-clause-seated g c =
    seated c.args.sets.now _ c.args.most c.args.slice c.args.turns _ _ (ap (λ p. picks_of p) c.new-board.ensures.picker) c.run_board-played.result
    c.run_board-played.new.board.seats.items c.run_board-played.new.tally _ _ c.run_board-played.ensures _ c.in-Ok.is

pub finish-requires-clause-written : goal.finish-requires-clause-written
finish-requires-clause-written g c =
    counted c.args.sets.now _ c.args.most c.args.slice c.args.turns _ _ (ap (λ p. picks_of p) c.new-board.ensures.picker) c.run_board-played.result
    c.run_board-played.new.board.seats.items c.run_board-played.new.tally _ _ c.run_board-played.ensures _ c.in-Ok.is

pub returns-in-Ok-clause-executes : goal.returns-in-Ok-clause-executes
returns-in-Ok-clause-executes g c =
    finished c.args.sets.now _ c.args.most c.args.slice c.args.turns _ _ (ap (λ p. picks_of p) c.new-board.ensures.picker) c.run_board-played.result
    c.run_board-played.new.board.seats.items c.run_board-played.new.tally _ _ c.run_board-played.ensures _ c.in-Ok.is c.finish.result c.finish.ensures.runs c.finish.ensures.picks

pub returns-in-Ok-clause-fronts : goal.returns-in-Ok-clause-fronts
returns-in-Ok-clause-fronts g c =
    fronts c.args.sets.now _ c.args.most c.args.slice c.args.turns _ _ (ap (λ p. picks_of p) c.new-board.ensures.picker) c.run_board-played.result
    c.run_board-played.new.board.seats.items c.run_board-played.new.tally _ _ c.run_board-played.ensures _ c.in-Ok.is

pub returns-in-Err-clause-executes : goal.returns-in-Err-clause-executes
returns-in-Err-clause-executes g c =
    stopped c.args.sets.now _ c.args.most c.args.slice c.args.turns _ _ (ap (λ p. picks_of p) c.new-board.ensures.picker) c.run_board-played.result
    c.run_board-played.new.board.seats.items c.run_board-played.new.tally _ _ c.run_board-played.ensures _ c.in-Err.is _ _ refl

pub returns-in-Err-clause-fronts : goal.returns-in-Err-clause-fronts
returns-in-Err-clause-fronts g c =
    stopped_fronts c.args.sets.now _ c.args.most c.args.slice c.args.turns _ _ (ap (λ p. picks_of p) c.new-board.ensures.picker) c.run_board-played.result
    c.run_board-played.new.board.seats.items c.run_board-played.new.tally _ _ c.run_board-played.ensures _ c.in-Err.is
