use Rattle.std.proofs.Common.{[], ap}
use Rattle.spec_loading.specs.spec_linking.LinkedSets.{LinkedSet}
use Rattle.host_calls.specs.Embedders.{names_of, embedder_of}
use Rattle.dyl_commands.specs.Runs.{guest_arguments}
use Rattle.dyl_commands.proofs.Generating.{little, gen_works, gen_serves, gen_refused, gen_idle}
use Rattle.dyl_commands.proofs.generated.gen_main.Goals as goal

pub run_both-outcome-requires : goal.run_both-outcome-requires
run_both-outcome-requires g c =
    let made = c.in-Ok.ensures in
    record {
      names = ap (λ (L : LinkedSet). L.names) made.is;
      little = little (names_of c.args.host.now) c.args.n c.args.pages c.in-Ok.linked c.generated_set_links.ensures.small made;
      steps = c.requires.steps;
    }

pub returns-in-Ok-clause-serves : goal.returns-in-Ok-clause-serves
returns-in-Ok-clause-serves g c = λ files.
    gen_serves (embedder_of (guest_arguments []) c.args.host.now) c.args.n c.args.pages c.args.steps c.in-Ok.linked c.in-Ok.ensures _ _ c.run_both-outcome.result files c.run_both-outcome.ensures

pub returns-in-Ok-clause-works : goal.returns-in-Ok-clause-works
returns-in-Ok-clause-works g c =
    gen_works (embedder_of (guest_arguments []) c.args.host.now) c.args.n c.args.pages c.args.steps c.in-Ok.linked c.in-Ok.ensures _ _ c.run_both-outcome.result c.run_both-outcome.ensures

pub returns-in-Err-clause-serves : goal.returns-in-Err-clause-serves
returns-in-Err-clause-serves g c = λ files. gen_refused (embedder_of (guest_arguments []) c.args.host.now) c.args.n c.args.pages c.args.steps c.in-Err.outcome files _ _ c.in-Err.ensures

pub returns-in-Err-clause-works : goal.returns-in-Err-clause-works
returns-in-Err-clause-works g c = gen_idle (embedder_of (guest_arguments []) c.args.host.now) c.args.n c.args.pages c.args.steps c.in-Err.outcome _ c.in-Err.ensures
