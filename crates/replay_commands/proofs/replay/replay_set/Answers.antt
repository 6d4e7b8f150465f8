use Rattle.dyl_link.specs.dyl_search.Gathers.{options_of}
use Rattle.dyl_link.specs.Sets as links
use Rattle.host_calls.specs.Embedders.{names_of}
use Rattle.replay_commands.proofs.Replaying.{set_replays, set_replay_refused}
use Rattle.dyl_commands.proofs.Counting.{refused_counts}
use Rattle.replay_commands.proofs.Counting.{set_replay_counts}
use Rattle.replay_commands.proofs.replay.replay_set.Goals as goal

pub returns-in-Ok-clause-replays : goal.returns-in-Ok-clause-replays
returns-in-Ok-clause-replays g c =
    set_replays (names_of c.args.host.now) c.args.set.now c.args.link.now c.args.steps c.args.trace.now _ _ (record { ref_ptr = c.args.set.ref_ptr; now = c.in-Ok.linked }) c.in-Ok.ensures c.check_outcome-outcome.result c.check_outcome-outcome.ensures

pub returns-in-Err-clause-replays : goal.returns-in-Err-clause-replays
returns-in-Err-clause-replays g c =
    set_replay_refused (names_of c.args.host.now) c.args.set.now c.args.link.now c.args.steps c.args.trace.now _ _ c.in-Err.outcome c.in-Err.ensures.files c.in-Err.ensures.fault

pub returns-in-Ok-clause-counts : goal.returns-in-Ok-clause-counts
returns-in-Ok-clause-counts g c =
    set_replay_counts (names_of c.args.host.now) (options_of c.args.set.now) (links.options_of c.args.link.now) c.in-Ok.linked _ _ c.in-Ok.ensures _ (λ why. ⊥) c.args.trace.now c.args.steps c.check_outcome-outcome.result
    c.check_outcome-outcome.ensures

pub returns-in-Err-clause-counts : goal.returns-in-Err-clause-counts
returns-in-Err-clause-counts g c =
    refused_counts (names_of c.args.host.now) (options_of c.args.set.now) (links.options_of c.args.link.now) _ _ c.in-Err.ensures.writes c.in-Err.ensures.absents c.in-Err.outcome
    c.in-Err.ensures.fault c.in-Err.ensures.reads c.in-Err.ensures.tried
