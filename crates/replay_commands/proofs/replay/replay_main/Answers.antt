use Rattle.std.proofs.Common.{inl, inr}
use Rattle.dyl_link.specs.dyl_search.Gathers.{options_of}
use Rattle.host_calls.specs.Embedders.{names_of}
use Rattle.replay_commands.proofs.Replaying.{found_serves}
use Rattle.replay_commands.proofs.Counting.{after_trace}
use Rattle.replay_commands.proofs.replay.replay_main.Goals as goal

pub returns-in-Ok-clause-serves : goal.returns-in-Ok-clause-serves
returns-in-Ok-clause-serves g c =
    found_serves (names_of c.args.host.now) c.args.one c.args.trace.now c.args.set.now c.args.link.now c.args.steps c.in-Ok.found c.replay_found-outcome.result _ _ _ c.in-Ok.ensures c.replay_found-outcome.ensures.replays

pub returns-in-Ok-clause-counts : goal.returns-in-Ok-clause-counts
returns-in-Ok-clause-counts g c =
    inr (
      (λ files told. (c.in-Ok.found, c.in-Ok.ensures.tells files told)),
      after_trace c.args.one (options_of c.args.set.now) c.replay_found-outcome.result _ _ _ c.in-Ok.ensures.same c.replay_found-outcome.ensures.counts,
    )

pub returns-in-Err-clause-counts : goal.returns-in-Err-clause-counts
returns-in-Err-clause-counts g c = inl (c.in-Err.ensures.tells, c.in-Err.ensures.counts)
