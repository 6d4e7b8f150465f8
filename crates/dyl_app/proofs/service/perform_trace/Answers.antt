use Rattle.std.proofs.Common.{Ok, sym, ◌∙◌, true≢false}
use Rattle.spec_hosts.specs.Devices.{devices}
use Rattle.host_calls.specs.Embedders.{names_of, embedder_of}
use Rattle.dyl_front.specs.declared.order.Order.TheVariants.{Trace}
use Rattle.dyl_commands.specs.Runs.{guest_arguments, no_picks}
use Rattle.dyl_commands.proofs.Telling.{not_told_done, told_serves, told_works}
use Rattle.dyl_commands.proofs.Counting.{told_counts}
use Rattle.replay_commands.proofs.Writing.{told_writes}
use Rattle.dyl_app.proofs.service.perform_trace.Goals as goal

pub returns-clause-serves : goal.returns-clause-serves
returns-clause-serves g c =
    told_serves (names_of c.args.host.now) (Ok (Trace c.args.one c.args.set.now c.args.link.now c.args.steps c.args.out.now c.args.args.now)) c.trace_main-traced.result c.tell.result
    (g.F.Files.seen c.args.files.now) (g.F.Files.seen c.trace_main-traced.new.files) _ _ c.tell.ensures.answer c.trace_main-traced.ensures.serves

pub returns-clause-does : goal.returns-clause-does
returns-clause-does g c =
    record {
      errors = g.E.Sink.seen c.trace_main-traced.new.errors;
      works = told_works (g.F.Files.seen c.args.files.now).told (λ texts. embedder_of texts c.args.host.now) no_picks (Ok (Trace c.args.one c.args.set.now c.args.link.now c.args.steps c.args.out.now c.args.args.now)) c.trace_main-traced.result c.tell.result
          (devices (g.I.Source.seen c.args.input.now) (g.O.Sink.seen c.args.output.now) (g.E.Sink.seen c.args.errors.now) (g.A.Ambient.seen c.args.ambient.now))
          (devices (g.I.Source.seen c.trace_main-traced.new.input) (g.O.Sink.seen c.trace_main-traced.new.output) (g.E.Sink.seen c.trace_main-traced.new.errors) (g.A.Ambient.seen c.trace_main-traced.new.ambient))
          c.tell.ensures.answer c.trace_main-traced.ensures.works;
      line = c.tell.ensures.told;
    }

pub returns-clause-quiet : goal.returns-clause-quiet
returns-clause-quiet g c = λ is. absurd (true≢false (sym is ∙ not_told_done c.trace_main-traced.result c.tell.result c.tell.ensures.answer c.trace_main-traced.ensures.done))

pub returns-clause-counts : goal.returns-clause-counts
returns-clause-counts g c =
    told_counts (Ok (Trace c.args.one c.args.set.now c.args.link.now c.args.steps c.args.out.now c.args.args.now)) c.trace_main-traced.result c.tell.result _ _ c.tell.ensures.answer c.trace_main-traced.ensures.counts

pub returns-clause-writes : goal.returns-clause-writes
returns-clause-writes g c = λ files told. (
  g.E.Sink.seen c.trace_main-traced.new.errors,
  told_writes (embedder_of (guest_arguments c.args.args.now) c.args.host.now) c.args.one c.args.set.now c.args.link.now c.args.steps c.args.out.now c.args.args.now c.trace_main-traced.result c.tell.result
      (g.F.Files.seen c.args.files.now) (g.F.Files.seen c.trace_main-traced.new.files) _ _
      (devices (g.I.Source.seen c.args.input.now) (g.O.Sink.seen c.args.output.now) (g.E.Sink.seen c.args.errors.now) (g.A.Ambient.seen c.args.ambient.now))
      (devices (g.I.Source.seen c.trace_main-traced.new.input) (g.O.Sink.seen c.trace_main-traced.new.output) (g.E.Sink.seen c.trace_main-traced.new.errors) (g.A.Ambient.seen c.trace_main-traced.new.ambient))
      c.tell.ensures.answer c.trace_main-traced.ensures.serves c.trace_main-traced.ensures.writes files told,
  c.tell.ensures.told,
)
