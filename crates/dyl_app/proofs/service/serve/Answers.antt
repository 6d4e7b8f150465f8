use Rattle.std.proofs.Common.{◌≡◌, Err}
use Rattle.spec_hosts.specs.Devices.{devices}
use Rattle.host_calls.specs.Embedders.{names_of, embedder_of}
use Rattle.slice_board.specs.Taken.{picks_of}
use Rattle.dyl_front.specs.Orders.{order_of}
use Rattle.dyl_front.specs.declared.outcome.Outcome.TheVariants.{Usage, Memory}
use Rattle.dyl_commands.proofs.Telling.{done_silent, told_serves, memory_serves, usage_serves}
use Rattle.dyl_commands.proofs.Performing.{usage_due, memory_due, usage_complete, memory_complete, usage_does, memory_does}
use Rattle.dyl_commands.proofs.Counting.{told_counts, nothing_counted, usage_counts}
use Rattle.replay_commands.proofs.Writing.{usage_writes, lost_writes}
use Rattle.dyl_app.proofs.service.serve.Goals as goal

pub returns-in-Ok-clause-due : goal.returns-in-Ok-clause-due
returns-in-Ok-clause-due g c = rw c.in-Ok.ensures.reads c.perform-outcome.ensures.due

pub returns-in-Ok-clause-tells : goal.returns-in-Ok-clause-tells
returns-in-Ok-clause-tells g c = rw c.in-Ok.ensures.reads c.perform-outcome.ensures.tells

pub returns-in-Ok-clause-files : goal.returns-in-Ok-clause-files
returns-in-Ok-clause-files g c = rw c.in-Ok.ensures.reads c.perform-outcome.ensures.files

pub returns-in-Ok-clause-complete : goal.returns-in-Ok-clause-complete
returns-in-Ok-clause-complete g c = rw c.in-Ok.ensures.reads c.perform-outcome.ensures.complete

pub returns-in-Ok-clause-caused : goal.returns-in-Ok-clause-caused
returns-in-Ok-clause-caused g c = rw c.in-Ok.ensures.reads c.perform-outcome.ensures.caused

pub returns-in-Ok-clause-counts : goal.returns-in-Ok-clause-counts
returns-in-Ok-clause-counts g c = rw c.in-Ok.ensures.reads c.perform-outcome.ensures.counts

pub returns-in-Ok-clause-does : goal.returns-in-Ok-clause-does
returns-in-Ok-clause-does g c = rw c.in-Ok.ensures.reads c.perform-outcome.ensures.does

pub returns-in-Ok-clause-writes : goal.returns-in-Ok-clause-writes
returns-in-Ok-clause-writes g c = rw c.in-Ok.ensures.reads c.perform-outcome.ensures.writes

pub returns-in-Err-Usage : goal.returns-in-Err-Usage
returns-in-Err-Usage g c =
    let is : order_of c.args.words.now ≡ Err c.in-Err-Usage.kind = rw c.in-Err-Usage.field-0-is at c.in-Err-Usage.ensures.reads in
    let serves =
    told_serves (names_of c.args.host.now) (order_of c.args.words.now) (Usage c.in-Err-Usage.kind) c.tell.result (g.F.Files.seen c.args.files.now) (g.F.Files.seen c.args.files.now) _ _ c.tell.ensures.answer
    (usage_serves (names_of c.args.host.now) (order_of c.args.words.now) c.in-Err-Usage.kind is (g.F.Files.seen c.args.files.now) (g.O.Sink.seen c.args.output.now).faults (g.O.Sink.seen c.args.output.now).faults) in
    record {
      due = usage_due (names_of c.args.host.now) (order_of c.args.words.now) c.tell.result (g.F.Files.seen c.args.files.now) c.in-Err-Usage.kind is c.tell.ensures.answer;
      tells = serves.tells;
      files = serves.leaves;
      complete = usage_complete (names_of c.args.host.now) (order_of c.args.words.now) c.tell.result (g.F.Files.seen c.args.files.now) (g.F.Files.seen c.args.files.now) _ _ c.in-Err-Usage.kind is;
      caused = serves.caused;
      inner = serves.inner;
      counts = usage_counts (order_of c.args.words.now) c.in-Err-Usage.kind c.tell.result (g.F.Files.seen c.args.files.now) is;
      does = usage_does (g.F.Files.seen c.args.files.now).told (λ texts. embedder_of texts c.args.host.now) (picks_of c.args.picker.now) (order_of c.args.words.now) c.in-Err-Usage.kind is c.tell.result
          (devices (g.I.Source.seen c.args.input.now) (g.O.Sink.seen c.args.output.now) (g.E.Sink.seen c.args.errors.now) (g.A.Ambient.seen c.args.ambient.now))
          (g.E.Sink.seen c.tell.new.errors) c.tell.ensures.told;
      writes = λ files told. usage_writes (λ texts. embedder_of texts c.args.host.now) (order_of c.args.words.now) files c.tell.result (g.F.Files.seen c.args.files.now)
          (devices (g.I.Source.seen c.args.input.now) (g.O.Sink.seen c.args.output.now) (g.E.Sink.seen c.args.errors.now) (g.A.Ambient.seen c.args.ambient.now))
          (g.E.Sink.seen c.tell.new.errors) c.in-Err-Usage.kind is;
      quiet = λ done. c.tell.ensures.quiet (done_silent c.tell.result done);
    }

pub returns-in-Err-Memory : goal.returns-in-Err-Memory
returns-in-Err-Memory g c =
    let serves =
    told_serves (names_of c.args.host.now) (order_of c.args.words.now) Memory c.tell-in-Err-Memory.result (g.F.Files.seen c.args.files.now) (g.F.Files.seen c.args.files.now) _ _ c.tell-in-Err-Memory.ensures.answer
    (memory_serves (names_of c.args.host.now) (order_of c.args.words.now) (g.F.Files.seen c.args.files.now) (g.O.Sink.seen c.args.output.now).faults (g.O.Sink.seen c.args.output.now).faults) in
    record {
      due = memory_due (names_of c.args.host.now) (order_of c.args.words.now) c.tell-in-Err-Memory.result (g.F.Files.seen c.args.files.now) c.tell-in-Err-Memory.ensures.answer;
      tells = serves.tells;
      files = serves.leaves;
      complete = memory_complete (names_of c.args.host.now) (order_of c.args.words.now) c.tell-in-Err-Memory.result (g.F.Files.seen c.args.files.now) (g.F.Files.seen c.args.files.now) _ _ c.tell-in-Err-Memory.ensures.answer;
      caused = serves.caused;
      inner = serves.inner;
      counts = told_counts (order_of c.args.words.now) Memory c.tell-in-Err-Memory.result (g.F.Files.seen c.args.files.now) (g.F.Files.seen c.args.files.now) c.tell-in-Err-Memory.ensures.answer
          (nothing_counted (g.F.Files.seen c.args.files.now) (order_of c.args.words.now));
      does = memory_does (g.F.Files.seen c.args.files.now).told (λ texts. embedder_of texts c.args.host.now) (picks_of c.args.picker.now) (order_of c.args.words.now) c.tell-in-Err-Memory.result
          (devices (g.I.Source.seen c.args.input.now) (g.O.Sink.seen c.args.output.now) (g.E.Sink.seen c.args.errors.now) (g.A.Ambient.seen c.args.ambient.now))
          (g.E.Sink.seen c.tell-in-Err-Memory.new.errors) c.tell-in-Err-Memory.ensures.answer c.tell-in-Err-Memory.ensures.told;
      writes = λ files told. lost_writes (λ texts. embedder_of texts c.args.host.now) (order_of c.args.words.now) files c.tell-in-Err-Memory.result (g.F.Files.seen c.args.files.now)
          (devices (g.I.Source.seen c.args.input.now) (g.O.Sink.seen c.args.output.now) (g.E.Sink.seen c.args.errors.now) (g.A.Ambient.seen c.args.ambient.now))
          (g.E.Sink.seen c.tell-in-Err-Memory.new.errors) told c.tell-in-Err-Memory.ensures.answer c.tell-in-Err-Memory.ensures.told;
      quiet = λ done. c.tell-in-Err-Memory.ensures.quiet (done_silent c.tell-in-Err-Memory.result done);
    }
