use Rattle.std.proofs.Common.{[], Ok}
use Rattle.host_calls.specs.Embedders.{names_of, embedder_of}
use Rattle.dyl_front.specs.declared.order.Order.TheVariants.{Gen}
use Rattle.dyl_commands.specs.Runs.{guest_arguments}
use Rattle.dyl_commands.proofs.Telling.{done_silent, told_serves, told_gens}
use Rattle.dyl_app.proofs.service.perform_gen.Goals as goal

pub returns-clause-serves : goal.returns-clause-serves
returns-clause-serves g c = λ files.
    told_serves (names_of c.args.host.now) (Ok (Gen c.args.n c.args.pages c.args.steps)) c.gen_main-made.result c.tell.result files files _ _ c.tell.ensures.answer (c.gen_main-made.ensures.serves files)

pub returns-clause-works : goal.returns-clause-works
returns-clause-works g c =
    told_gens (embedder_of (guest_arguments []) c.args.host.now) c.args.n c.args.pages c.args.steps c.gen_main-made.result c.tell.result _ _ c.tell.ensures.answer c.gen_main-made.ensures.works

pub returns-clause-quiet : goal.returns-clause-quiet
returns-clause-quiet g c = λ is. c.tell.ensures.quiet (done_silent c.tell.result is)
