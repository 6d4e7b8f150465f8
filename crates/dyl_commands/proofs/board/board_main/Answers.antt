use Rattle.std.proofs.Common.{◌≡◌, ◌<◌, ◌≤◌, [], length, subst, sym}
use Rattle.std.specs.List.{All}
use Rattle.spec_loading.specs.spec_linking.LinkedSets.{LinkedSet}
use Rattle.host_calls.specs.Embedders.{names_of, embedder_of}
use Rattle.slice_board.specs.Taken.{picks_of}
use Rattle.dyl_link.specs.Sets as links
use Rattle.dyl_commands.specs.Runs.{guest_arguments}
use Rattle.dyl_commands.proofs.InTurns.{some_sets, few_sets, all_over, turns_serve, turns_work, turns_count, turns_not_done, unlinked_count, board_refused, board_idle, board_not_done}
use Rattle.dyl_commands.proofs.board.board_main.Goals as goal

pub run_in_turns-outcome-requires : goal.run_in_turns-outcome-requires
run_in_turns-outcome-requires g c =
    let names = names_of c.args.host.now in
    let l = links.options_of c.args.link.now in
    let old = g.F.Files.seen c.args.files.now in
    let same = sym c.items.ensures in
    record {
      some = subst (λ Ls. 0 < length Ls) same (some_sets names l old c.args.mains.now c.in-Ok.sets c.in-Ok.ensures.got c.requires.some);
      few = subst (λ Ls. length Ls ≤ 64) same (few_sets names l old c.args.mains.now c.in-Ok.sets c.in-Ok.ensures.got c.requires.few);
      names = subst (All (λ (L : LinkedSet). L.names ≡ names)) same (all_over names l old c.args.mains.now c.in-Ok.sets c.in-Ok.ensures.got);
      steps = c.requires.steps;
    }

pub returns-in-Ok-clause-serves : goal.returns-in-Ok-clause-serves
returns-in-Ok-clause-serves g c =
    turns_serve (embedder_of (guest_arguments []) c.args.host.now) c.args.mains.now c.args.link.now c.in-Ok.sets c.items.result.now c.items.ensures _ _ c.in-Ok.ensures c.args.steps c.args.slice c.args.turns (picks_of c.args.picker.now) _ _
    c.run_in_turns-outcome.result c.run_in_turns-outcome.ensures _ _

pub returns-in-Ok-clause-counts : goal.returns-in-Ok-clause-counts
returns-in-Ok-clause-counts g c =
    turns_count (embedder_of (guest_arguments []) c.args.host.now) c.args.mains.now c.args.link.now c.in-Ok.sets c.items.result.now c.items.ensures _ _ c.in-Ok.ensures c.args.steps c.args.slice c.args.turns (picks_of c.args.picker.now) _ _
    c.run_in_turns-outcome.result c.run_in_turns-outcome.ensures

pub returns-in-Ok-clause-done : goal.returns-in-Ok-clause-done
returns-in-Ok-clause-done g c =
    turns_not_done (embedder_of (guest_arguments []) c.args.host.now) c.args.mains.now c.args.link.now c.in-Ok.sets c.items.result.now c.items.ensures _ _ c.in-Ok.ensures c.args.steps c.args.slice c.args.turns (picks_of c.args.picker.now) _ _
    c.run_in_turns-outcome.result c.run_in_turns-outcome.ensures

pub returns-in-Ok-clause-works : goal.returns-in-Ok-clause-works
returns-in-Ok-clause-works g c =
    turns_work (embedder_of (guest_arguments []) c.args.host.now) c.args.mains.now c.args.link.now c.in-Ok.sets c.items.result.now c.items.ensures _ _ c.in-Ok.ensures c.args.steps c.args.slice c.args.turns (picks_of c.args.picker.now) _ _
    c.run_in_turns-outcome.result c.run_in_turns-outcome.ensures

pub returns-in-Err-clause-serves : goal.returns-in-Err-clause-serves
returns-in-Err-clause-serves g c =
    board_refused (names_of c.args.host.now) c.args.mains.now c.args.link.now _ _ c.args.steps c.args.slice c.args.turns _ _ c.in-Err.ensures.files c.in-Err.outcome c.in-Err.ensures.fault

pub returns-in-Err-clause-counts : goal.returns-in-Err-clause-counts
returns-in-Err-clause-counts g c = unlinked_count (names_of c.args.host.now) c.args.mains.now c.args.link.now _ _ c.in-Err.outcome c.in-Err.ensures

pub returns-in-Err-clause-done : goal.returns-in-Err-clause-done
returns-in-Err-clause-done g c = board_not_done (names_of c.args.host.now) c.args.mains.now c.args.link.now _ _ c.args.steps c.args.slice c.args.turns c.in-Err.outcome c.in-Err.ensures.fault

pub returns-in-Err-clause-works : goal.returns-in-Err-clause-works
returns-in-Err-clause-works g c =
    board_idle (names_of c.args.host.now) c.args.mains.now c.args.link.now _ _ c.args.steps c.args.slice c.args.turns _ (picks_of c.args.picker.now) (embedder_of (guest_arguments []) c.args.host.now) _ c.in-Err.outcome c.in-Err.ensures.fault
