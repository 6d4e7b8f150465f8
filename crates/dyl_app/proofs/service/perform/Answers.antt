use Rattle.std.proofs.Common.{Ok, refl, arith}
use Rattle.std.specs.Option.{ForSome}
use Rattle.spec_hosts.specs.Devices.{devices}
use Rattle.host_calls.specs.Embedders.{names_of, embedder_of}
use Rattle.dyl_link.specs.host_table.Table.{functions_of}
use Rattle.slice_board.specs.Taken.{picks_of}
use Rattle.dyl_front.specs.declared.order.Order.TheVariants.{Run, Exec, Trace}
use Rattle.dyl_commands.specs.Counts.{Counts}
use Rattle.dyl_commands.specs.Runs.{Does}
use Rattle.dyl_commands.specs.Served.{Serves}
use Rattle.dyl_commands.proofs.Writing.{can_write}
use Rattle.dyl_commands.proofs.Dues.{laws_of, served_due, served_complete}
use Rattle.dyl_commands.proofs.Performing.{at_merge, at_run, at_exec, at_plan, at_gen, at_trace, at_replay, at_snap, at_board, range_of_merge, range_of_run, range_of_plan, range_of_gen, range_of_trace, range_of_replay, range_of_snap, range_of_board, does_without_picks}
use Rattle.replay_commands.specs.Written.{WritesFor}
use Rattle.dyl_app.proofs.service.perform.Goals as goal

pub perform_merge-requires : goal.perform_merge-requires
perform_merge-requires g c = range_of_merge c.args.order.now _ _ _ c.in-Merge.is c.requires

pub perform_run-requires : goal.perform_run-requires
perform_run-requires g c = let r = range_of_run c.args.order.now _ _ _ _ c.in-Run.is c.requires in record { link = r.0; steps = r.1.0 }

pub perform_plan-requires : goal.perform_plan-requires
perform_plan-requires g c = range_of_plan c.args.order.now _ _ c.in-Plan.is c.requires

pub perform_gen-requires : goal.perform_gen-requires
perform_gen-requires g c = let r = range_of_gen c.args.order.now _ _ _ c.in-Gen.is c.requires in record { some = r.0; few = r.1; steps = r.2 }

pub perform_trace-requires : goal.perform_trace-requires
perform_trace-requires g c = let r = range_of_trace c.args.order.now _ _ _ _ _ _ c.in-Trace.is c.requires in record { link = r.0; steps = r.1 }

pub perform_replay-requires : goal.perform_replay-requires
perform_replay-requires g c = range_of_replay c.args.order.now _ _ _ _ _ c.in-Replay.is c.requires

pub perform_snap-requires : goal.perform_snap-requires
perform_snap-requires g c = let r = range_of_snap c.args.order.now _ _ _ _ c.in-Snap.is c.requires in record { link = r.0; steps = r.1 }

pub perform_board-requires : goal.perform_board-requires
perform_board-requires g c = let r = range_of_board c.args.order.now _ _ _ _ _ _ c.in-Board.is c.items-in-Board.ensures c.requires in record { link = r.0; steps = r.1; some = (let some = r.2 in omega arith); few = r.3 }

pub returns-in-Merge : goal.returns-in-Merge
returns-in-Merge g c =
    let laws = laws_of c.reading_answers.ensures c.one_record_answer.ensures c.one_gathered.ensures c.generated_set_links.ensures.three c.texts_are_of_one_trace.ensures c.runs_agree_up_to_one_call.ensures.one c.first_states_are_one.ensures.one in
    let can = can_write (functions_of c.args.host.now) in
    let serves =
    at_merge (λ asked. Serves (names_of c.args.host.now) asked c.perform_merge.result (g.F.Files.seen c.args.files.now) (g.F.Files.seen c.perform_merge.new.files) (g.O.Sink.seen c.args.output.now).faults (g.O.Sink.seen c.args.output.now).faults)
    c.args.order.now _ _ _ _ c.in-Merge.is c.as_str.ensures (c.perform_merge.ensures.serves _ _) in
    record {
      due = served_due laws (names_of c.args.host.now) can _ _ _ _ _ _ serves;
      tells = serves.tells;
      files = serves.leaves;
      complete = served_complete laws (names_of c.args.host.now) can _ _ _ _ _ _ serves;
      caused = serves.caused;
      inner = serves.inner;
      counts = at_merge (λ asked. Counts asked c.perform_merge.result (g.F.Files.seen c.args.files.now) (g.F.Files.seen c.perform_merge.new.files))
          c.args.order.now _ _ _ _ c.in-Merge.is c.as_str.ensures c.perform_merge.ensures.counts;
      does = at_merge
          (λ asked. Does (g.F.Files.seen c.args.files.now).told (λ texts. embedder_of texts c.args.host.now) (picks_of c.args.picker.now) asked c.perform_merge.result
          (devices (g.I.Source.seen c.args.input.now) (g.O.Sink.seen c.args.output.now) (g.E.Sink.seen c.args.errors.now) (g.A.Ambient.seen c.args.ambient.now))
          (devices (g.I.Source.seen c.args.input.now) (g.O.Sink.seen c.args.output.now) (g.E.Sink.seen c.perform_merge.new.errors) (g.A.Ambient.seen c.args.ambient.now)))
          c.args.order.now _ _ _ _ c.in-Merge.is c.as_str.ensures (record { errors = g.E.Sink.seen c.args.errors.now; works = refl; line = c.perform_merge.ensures.told });
      writes = at_merge
          (λ asked. ForSome (g.F.Files.seen c.args.files.now).told (λ files. WritesFor (λ texts. embedder_of texts c.args.host.now) asked files c.perform_merge.result (g.F.Files.seen c.args.files.now) (g.F.Files.seen c.perform_merge.new.files)
          (devices (g.I.Source.seen c.args.input.now) (g.O.Sink.seen c.args.output.now) (g.E.Sink.seen c.args.errors.now) (g.A.Ambient.seen c.args.ambient.now))
          (devices (g.I.Source.seen c.args.input.now) (g.O.Sink.seen c.args.output.now) (g.E.Sink.seen c.perform_merge.new.errors) (g.A.Ambient.seen c.args.ambient.now))))
          c.args.order.now _ _ _ _ c.in-Merge.is c.as_str.ensures (λ files told. tt);
      quiet = c.perform_merge.ensures.quiet;
    }

pub returns-in-Run : goal.returns-in-Run
returns-in-Run g c =
    let laws = laws_of c.reading_answers.ensures c.one_record_answer.ensures c.one_gathered.ensures c.generated_set_links.ensures.three c.texts_are_of_one_trace.ensures c.runs_agree_up_to_one_call.ensures.one c.first_states_are_one.ensures.one in
    let can = can_write (functions_of c.args.host.now) in
    let serves =
    at_run (λ asked. Serves (names_of c.args.host.now) asked c.perform_run.result (g.F.Files.seen c.args.files.now) (g.F.Files.seen c.perform_run.new.files) (g.O.Sink.seen c.args.output.now).faults (g.O.Sink.seen c.perform_run.new.output).faults)
    c.args.order.now _ _ _ _ _ c.in-Run.is c.items.ensures c.perform_run.ensures.serves in
    record {
      due = served_due laws (names_of c.args.host.now) can _ _ _ _ _ _ serves;
      tells = serves.tells;
      files = serves.leaves;
      complete = served_complete laws (names_of c.args.host.now) can _ _ _ _ _ _ serves;
      caused = serves.caused;
      inner = serves.inner;
      counts = at_run (λ asked. Counts asked c.perform_run.result (g.F.Files.seen c.args.files.now) (g.F.Files.seen c.perform_run.new.files))
          c.args.order.now _ _ _ _ _ c.in-Run.is c.items.ensures c.perform_run.ensures.counts;
      does =
          let told = (g.F.Files.seen c.args.files.now).told in
          let begun = devices (g.I.Source.seen c.args.input.now) (g.O.Sink.seen c.args.output.now) (g.E.Sink.seen c.args.errors.now) (g.A.Ambient.seen c.args.ambient.now) in
          let now = devices (g.I.Source.seen c.perform_run.new.input) (g.O.Sink.seen c.perform_run.new.output) (g.E.Sink.seen c.perform_run.new.errors) (g.A.Ambient.seen c.perform_run.new.ambient) in
          at_run (λ asked. Does told (λ texts. embedder_of texts c.args.host.now) (picks_of c.args.picker.now) asked c.perform_run.result begun now)
          c.args.order.now _ _ _ _ _ c.in-Run.is c.items.ensures
          (does_without_picks told (λ texts. embedder_of texts c.args.host.now) (picks_of c.args.picker.now) (Ok (Run _ _ _ _)) c.perform_run.result begun now refl c.perform_run.ensures.does);
      writes = at_run
          (λ asked. ForSome (g.F.Files.seen c.args.files.now).told (λ files. WritesFor (λ texts. embedder_of texts c.args.host.now) asked files c.perform_run.result (g.F.Files.seen c.args.files.now) (g.F.Files.seen c.perform_run.new.files)
          (devices (g.I.Source.seen c.args.input.now) (g.O.Sink.seen c.args.output.now) (g.E.Sink.seen c.args.errors.now) (g.A.Ambient.seen c.args.ambient.now))
          (devices (g.I.Source.seen c.perform_run.new.input) (g.O.Sink.seen c.perform_run.new.output) (g.E.Sink.seen c.perform_run.new.errors) (g.A.Ambient.seen c.perform_run.new.ambient))))
          c.args.order.now _ _ _ _ _ c.in-Run.is c.items.ensures (λ files told. tt);
      quiet = c.perform_run.ensures.quiet;
    }

pub returns-in-Exec : goal.returns-in-Exec
returns-in-Exec g c =
    let laws = laws_of c.reading_answers.ensures c.one_record_answer.ensures c.one_gathered.ensures c.generated_set_links.ensures.three c.texts_are_of_one_trace.ensures c.runs_agree_up_to_one_call.ensures.one c.first_states_are_one.ensures.one in
    let can = can_write (functions_of c.args.host.now) in
    let serves =
    at_exec (λ asked. Serves (names_of c.args.host.now) asked c.perform_exec.result (g.F.Files.seen c.args.files.now) (g.F.Files.seen c.perform_exec.new.files) (g.O.Sink.seen c.args.output.now).faults (g.O.Sink.seen c.perform_exec.new.output).faults)
    c.args.order.now _ _ _ _ _ c.in-Exec.is c.as_str-in-Exec.ensures c.items-in-Exec.ensures c.perform_exec.ensures.serves in
    record {
      due = served_due laws (names_of c.args.host.now) can _ _ _ _ _ _ serves;
      tells = serves.tells;
      files = serves.leaves;
      complete = served_complete laws (names_of c.args.host.now) can _ _ _ _ _ _ serves;
      caused = serves.caused;
      inner = serves.inner;
      counts = at_exec (λ asked. Counts asked c.perform_exec.result (g.F.Files.seen c.args.files.now) (g.F.Files.seen c.perform_exec.new.files))
          c.args.order.now _ _ _ _ _ c.in-Exec.is c.as_str-in-Exec.ensures c.items-in-Exec.ensures c.perform_exec.ensures.counts;
      does =
          let told = (g.F.Files.seen c.args.files.now).told in
          let begun = devices (g.I.Source.seen c.args.input.now) (g.O.Sink.seen c.args.output.now) (g.E.Sink.seen c.args.errors.now) (g.A.Ambient.seen c.args.ambient.now) in
          let now = devices (g.I.Source.seen c.perform_exec.new.input) (g.O.Sink.seen c.perform_exec.new.output) (g.E.Sink.seen c.perform_exec.new.errors) (g.A.Ambient.seen c.perform_exec.new.ambient) in
          at_exec (λ asked. Does told (λ texts. embedder_of texts c.args.host.now) (picks_of c.args.picker.now) asked c.perform_exec.result begun now)
          c.args.order.now _ _ _ _ _ c.in-Exec.is c.as_str-in-Exec.ensures c.items-in-Exec.ensures
          (does_without_picks told (λ texts. embedder_of texts c.args.host.now) (picks_of c.args.picker.now) (Ok (Exec _ _ _)) c.perform_exec.result begun now refl c.perform_exec.ensures.does);
      writes = at_exec
          (λ asked. ForSome (g.F.Files.seen c.args.files.now).told (λ files. WritesFor (λ texts. embedder_of texts c.args.host.now) asked files c.perform_exec.result (g.F.Files.seen c.args.files.now) (g.F.Files.seen c.perform_exec.new.files)
          (devices (g.I.Source.seen c.args.input.now) (g.O.Sink.seen c.args.output.now) (g.E.Sink.seen c.args.errors.now) (g.A.Ambient.seen c.args.ambient.now))
          (devices (g.I.Source.seen c.perform_exec.new.input) (g.O.Sink.seen c.perform_exec.new.output) (g.E.Sink.seen c.perform_exec.new.errors) (g.A.Ambient.seen c.perform_exec.new.ambient))))
          c.args.order.now _ _ _ _ _ c.in-Exec.is c.as_str-in-Exec.ensures c.items-in-Exec.ensures (λ files told. tt);
      quiet = c.perform_exec.ensures.quiet;
    }

pub returns-in-Plan : goal.returns-in-Plan
returns-in-Plan g c =
    let laws = laws_of c.reading_answers.ensures c.one_record_answer.ensures c.one_gathered.ensures c.generated_set_links.ensures.three c.texts_are_of_one_trace.ensures c.runs_agree_up_to_one_call.ensures.one c.first_states_are_one.ensures.one in
    let can = can_write (functions_of c.args.host.now) in
    let serves =
    at_plan (λ asked. Serves (names_of c.args.host.now) asked c.perform_plan.result (g.F.Files.seen c.args.files.now) (g.F.Files.seen c.perform_plan.new.files) (g.O.Sink.seen c.args.output.now).faults (g.O.Sink.seen c.perform_plan.new.output).faults)
    c.args.order.now _ _ c.in-Plan.is c.perform_plan.ensures.serves in
    record {
      due = served_due laws (names_of c.args.host.now) can _ _ _ _ _ _ serves;
      tells = serves.tells;
      files = serves.leaves;
      complete = served_complete laws (names_of c.args.host.now) can _ _ _ _ _ _ serves;
      caused = serves.caused;
      inner = serves.inner;
      counts = at_plan (λ asked. Counts asked c.perform_plan.result (g.F.Files.seen c.args.files.now) (g.F.Files.seen c.perform_plan.new.files))
          c.args.order.now _ _ c.in-Plan.is c.perform_plan.ensures.counts;
      does = at_plan
          (λ asked. Does (g.F.Files.seen c.args.files.now).told (λ texts. embedder_of texts c.args.host.now) (picks_of c.args.picker.now) asked c.perform_plan.result
          (devices (g.I.Source.seen c.args.input.now) (g.O.Sink.seen c.args.output.now) (g.E.Sink.seen c.args.errors.now) (g.A.Ambient.seen c.args.ambient.now))
          (devices (g.I.Source.seen c.args.input.now) (g.O.Sink.seen c.perform_plan.new.output) (g.E.Sink.seen c.perform_plan.new.errors) (g.A.Ambient.seen c.args.ambient.now)))
          c.args.order.now _ _ c.in-Plan.is (record { errors = g.E.Sink.seen c.args.errors.now; works = (c.perform_plan.ensures.works, refl); line = c.perform_plan.ensures.told });
      writes = at_plan
          (λ asked. ForSome (g.F.Files.seen c.args.files.now).told (λ files. WritesFor (λ texts. embedder_of texts c.args.host.now) asked files c.perform_plan.result (g.F.Files.seen c.args.files.now) (g.F.Files.seen c.perform_plan.new.files)
          (devices (g.I.Source.seen c.args.input.now) (g.O.Sink.seen c.args.output.now) (g.E.Sink.seen c.args.errors.now) (g.A.Ambient.seen c.args.ambient.now))
          (devices (g.I.Source.seen c.args.input.now) (g.O.Sink.seen c.perform_plan.new.output) (g.E.Sink.seen c.perform_plan.new.errors) (g.A.Ambient.seen c.args.ambient.now))))
          c.args.order.now _ _ c.in-Plan.is (λ files told. tt);
      quiet = c.perform_plan.ensures.quiet;
    }

pub returns-in-Gen : goal.returns-in-Gen
returns-in-Gen g c =
    let laws = laws_of c.reading_answers.ensures c.one_record_answer.ensures c.one_gathered.ensures c.generated_set_links.ensures.three c.texts_are_of_one_trace.ensures c.runs_agree_up_to_one_call.ensures.one c.first_states_are_one.ensures.one in
    let can = can_write (functions_of c.args.host.now) in
    let serves =
    at_gen (λ asked. Serves (names_of c.args.host.now) asked c.perform_gen.result (g.F.Files.seen c.args.files.now) (g.F.Files.seen c.args.files.now) (g.O.Sink.seen c.args.output.now).faults (g.O.Sink.seen c.perform_gen.new.output).faults)
    c.args.order.now _ _ _ c.in-Gen.is (c.perform_gen.ensures.serves (g.F.Files.seen c.args.files.now)) in
    record {
      due = served_due laws (names_of c.args.host.now) can _ _ _ _ _ _ serves;
      tells = serves.tells;
      files = serves.leaves;
      complete = served_complete laws (names_of c.args.host.now) can _ _ _ _ _ _ serves;
      caused = serves.caused;
      inner = serves.inner;
      counts = at_gen (λ asked. Counts asked c.perform_gen.result (g.F.Files.seen c.args.files.now) (g.F.Files.seen c.args.files.now))
          c.args.order.now _ _ _ c.in-Gen.is refl;
      does = at_gen
          (λ asked. Does (g.F.Files.seen c.args.files.now).told (λ texts. embedder_of texts c.args.host.now) (picks_of c.args.picker.now) asked c.perform_gen.result
          (devices (g.I.Source.seen c.args.input.now) (g.O.Sink.seen c.args.output.now) (g.E.Sink.seen c.args.errors.now) (g.A.Ambient.seen c.args.ambient.now))
          (devices (g.I.Source.seen c.args.input.now) (g.O.Sink.seen c.perform_gen.new.output) (g.E.Sink.seen c.perform_gen.new.errors) (g.A.Ambient.seen c.args.ambient.now)))
          c.args.order.now _ _ _ c.in-Gen.is (record { errors = g.E.Sink.seen c.args.errors.now; works = (c.perform_gen.ensures.works, refl); line = c.perform_gen.ensures.told });
      writes = at_gen
          (λ asked. ForSome (g.F.Files.seen c.args.files.now).told (λ files. WritesFor (λ texts. embedder_of texts c.args.host.now) asked files c.perform_gen.result (g.F.Files.seen c.args.files.now) (g.F.Files.seen c.args.files.now)
          (devices (g.I.Source.seen c.args.input.now) (g.O.Sink.seen c.args.output.now) (g.E.Sink.seen c.args.errors.now) (g.A.Ambient.seen c.args.ambient.now))
          (devices (g.I.Source.seen c.args.input.now) (g.O.Sink.seen c.perform_gen.new.output) (g.E.Sink.seen c.perform_gen.new.errors) (g.A.Ambient.seen c.args.ambient.now))))
          c.args.order.now _ _ _ c.in-Gen.is (λ files told. tt);
      quiet = c.perform_gen.ensures.quiet;
    }

pub returns-in-Trace : goal.returns-in-Trace
returns-in-Trace g c =
    let laws = laws_of c.reading_answers.ensures c.one_record_answer.ensures c.one_gathered.ensures c.generated_set_links.ensures.three c.texts_are_of_one_trace.ensures c.runs_agree_up_to_one_call.ensures.one c.first_states_are_one.ensures.one in
    let can = can_write (functions_of c.args.host.now) in
    let serves =
    at_trace (λ asked. Serves (names_of c.args.host.now) asked c.perform_trace.result (g.F.Files.seen c.args.files.now) (g.F.Files.seen c.perform_trace.new.files) (g.O.Sink.seen c.args.output.now).faults (g.O.Sink.seen c.perform_trace.new.output).faults)
    c.args.order.now _ _ _ _ _ _ _ _ c.in-Trace.is c.as_str-in-Trace.ensures c.items-in-Trace.ensures c.perform_trace.ensures.serves in
    record {
      due = served_due laws (names_of c.args.host.now) can _ _ _ _ _ _ serves;
      tells = serves.tells;
      files = serves.leaves;
      complete = served_complete laws (names_of c.args.host.now) can _ _ _ _ _ _ serves;
      caused = serves.caused;
      inner = serves.inner;
      counts = at_trace (λ asked. Counts asked c.perform_trace.result (g.F.Files.seen c.args.files.now) (g.F.Files.seen c.perform_trace.new.files))
          c.args.order.now _ _ _ _ _ _ _ _ c.in-Trace.is c.as_str-in-Trace.ensures c.items-in-Trace.ensures c.perform_trace.ensures.counts;
      does =
          let told = (g.F.Files.seen c.args.files.now).told in
          let begun = devices (g.I.Source.seen c.args.input.now) (g.O.Sink.seen c.args.output.now) (g.E.Sink.seen c.args.errors.now) (g.A.Ambient.seen c.args.ambient.now) in
          let now = devices (g.I.Source.seen c.perform_trace.new.input) (g.O.Sink.seen c.perform_trace.new.output) (g.E.Sink.seen c.perform_trace.new.errors) (g.A.Ambient.seen c.perform_trace.new.ambient) in
          at_trace (λ asked. Does told (λ texts. embedder_of texts c.args.host.now) (picks_of c.args.picker.now) asked c.perform_trace.result begun now)
          c.args.order.now _ _ _ _ _ _ _ _ c.in-Trace.is c.as_str-in-Trace.ensures c.items-in-Trace.ensures
          (does_without_picks told (λ texts. embedder_of texts c.args.host.now) (picks_of c.args.picker.now) (Ok (Trace _ _ _ _ _ _)) c.perform_trace.result begun now refl c.perform_trace.ensures.does);
      writes = at_trace
          (λ asked. ForSome (g.F.Files.seen c.args.files.now).told (λ files. WritesFor (λ texts. embedder_of texts c.args.host.now) asked files c.perform_trace.result (g.F.Files.seen c.args.files.now) (g.F.Files.seen c.perform_trace.new.files)
          (devices (g.I.Source.seen c.args.input.now) (g.O.Sink.seen c.args.output.now) (g.E.Sink.seen c.args.errors.now) (g.A.Ambient.seen c.args.ambient.now))
          (devices (g.I.Source.seen c.perform_trace.new.input) (g.O.Sink.seen c.perform_trace.new.output) (g.E.Sink.seen c.perform_trace.new.errors) (g.A.Ambient.seen c.perform_trace.new.ambient))))
          c.args.order.now _ _ _ _ _ _ _ _ c.in-Trace.is c.as_str-in-Trace.ensures c.items-in-Trace.ensures c.perform_trace.ensures.writes;
      quiet = c.perform_trace.ensures.quiet;
    }

pub returns-in-Replay : goal.returns-in-Replay
returns-in-Replay g c =
    let laws = laws_of c.reading_answers.ensures c.one_record_answer.ensures c.one_gathered.ensures c.generated_set_links.ensures.three c.texts_are_of_one_trace.ensures c.runs_agree_up_to_one_call.ensures.one c.first_states_are_one.ensures.one in
    let can = can_write (functions_of c.args.host.now) in
    let serves =
    at_replay (λ asked. Serves (names_of c.args.host.now) asked c.perform_replay.result (g.F.Files.seen c.args.files.now) (g.F.Files.seen c.perform_replay.new.files) (g.O.Sink.seen c.args.output.now).faults (g.O.Sink.seen c.args.output.now).faults)
    c.args.order.now _ _ _ _ _ _ c.in-Replay.is c.as_str-in-Replay.ensures (c.perform_replay.ensures.serves _ _) in
    record {
      due = served_due laws (names_of c.args.host.now) can _ _ _ _ _ _ serves;
      tells = serves.tells;
      files = serves.leaves;
      complete = served_complete laws (names_of c.args.host.now) can _ _ _ _ _ _ serves;
      caused = serves.caused;
      inner = serves.inner;
      counts = at_replay (λ asked. Counts asked c.perform_replay.result (g.F.Files.seen c.args.files.now) (g.F.Files.seen c.perform_replay.new.files))
          c.args.order.now _ _ _ _ _ _ c.in-Replay.is c.as_str-in-Replay.ensures c.perform_replay.ensures.counts;
      does = at_replay
          (λ asked. Does (g.F.Files.seen c.args.files.now).told (λ texts. embedder_of texts c.args.host.now) (picks_of c.args.picker.now) asked c.perform_replay.result
          (devices (g.I.Source.seen c.args.input.now) (g.O.Sink.seen c.args.output.now) (g.E.Sink.seen c.args.errors.now) (g.A.Ambient.seen c.args.ambient.now))
          (devices (g.I.Source.seen c.args.input.now) (g.O.Sink.seen c.args.output.now) (g.E.Sink.seen c.perform_replay.new.errors) (g.A.Ambient.seen c.args.ambient.now)))
          c.args.order.now _ _ _ _ _ _ c.in-Replay.is c.as_str-in-Replay.ensures (record { errors = g.E.Sink.seen c.args.errors.now; works = refl; line = c.perform_replay.ensures.told });
      writes = at_replay
          (λ asked. ForSome (g.F.Files.seen c.args.files.now).told (λ files. WritesFor (λ texts. embedder_of texts c.args.host.now) asked files c.perform_replay.result (g.F.Files.seen c.args.files.now) (g.F.Files.seen c.perform_replay.new.files)
          (devices (g.I.Source.seen c.args.input.now) (g.O.Sink.seen c.args.output.now) (g.E.Sink.seen c.args.errors.now) (g.A.Ambient.seen c.args.ambient.now))
          (devices (g.I.Source.seen c.args.input.now) (g.O.Sink.seen c.args.output.now) (g.E.Sink.seen c.perform_replay.new.errors) (g.A.Ambient.seen c.args.ambient.now))))
          c.args.order.now _ _ _ _ _ _ c.in-Replay.is c.as_str-in-Replay.ensures (λ files told. tt);
      quiet = c.perform_replay.ensures.quiet;
    }

pub returns-in-Snap : goal.returns-in-Snap
returns-in-Snap g c =
    let laws = laws_of c.reading_answers.ensures c.one_record_answer.ensures c.one_gathered.ensures c.generated_set_links.ensures.three c.texts_are_of_one_trace.ensures c.runs_agree_up_to_one_call.ensures.one c.first_states_are_one.ensures.one in
    let can = can_write (functions_of c.args.host.now) in
    let serves =
    at_snap (λ asked. Serves (names_of c.args.host.now) asked c.perform_snap.result (g.F.Files.seen c.args.files.now) (g.F.Files.seen c.perform_snap.new.files) (g.O.Sink.seen c.args.output.now).faults (g.O.Sink.seen c.args.output.now).faults)
    c.args.order.now _ _ _ _ _ c.in-Snap.is c.as_str-in-Snap.ensures (c.perform_snap.ensures.serves _ _) in
    record {
      due = served_due laws (names_of c.args.host.now) can _ _ _ _ _ _ serves;
      tells = serves.tells;
      files = serves.leaves;
      complete = served_complete laws (names_of c.args.host.now) can _ _ _ _ _ _ serves;
      caused = serves.caused;
      inner = serves.inner;
      counts = at_snap (λ asked. Counts asked c.perform_snap.result (g.F.Files.seen c.args.files.now) (g.F.Files.seen c.perform_snap.new.files))
          c.args.order.now _ _ _ _ _ c.in-Snap.is c.as_str-in-Snap.ensures c.perform_snap.ensures.counts;
      does = at_snap
          (λ asked. Does (g.F.Files.seen c.args.files.now).told (λ texts. embedder_of texts c.args.host.now) (picks_of c.args.picker.now) asked c.perform_snap.result
          (devices (g.I.Source.seen c.args.input.now) (g.O.Sink.seen c.args.output.now) (g.E.Sink.seen c.args.errors.now) (g.A.Ambient.seen c.args.ambient.now))
          (devices (g.I.Source.seen c.args.input.now) (g.O.Sink.seen c.args.output.now) (g.E.Sink.seen c.perform_snap.new.errors) (g.A.Ambient.seen c.args.ambient.now)))
          c.args.order.now _ _ _ _ _ c.in-Snap.is c.as_str-in-Snap.ensures (record { errors = g.E.Sink.seen c.args.errors.now; works = refl; line = c.perform_snap.ensures.told });
      writes = at_snap
          (λ asked. ForSome (g.F.Files.seen c.args.files.now).told (λ files. WritesFor (λ texts. embedder_of texts c.args.host.now) asked files c.perform_snap.result (g.F.Files.seen c.args.files.now) (g.F.Files.seen c.perform_snap.new.files)
          (devices (g.I.Source.seen c.args.input.now) (g.O.Sink.seen c.args.output.now) (g.E.Sink.seen c.args.errors.now) (g.A.Ambient.seen c.args.ambient.now))
          (devices (g.I.Source.seen c.args.input.now) (g.O.Sink.seen c.args.output.now) (g.E.Sink.seen c.perform_snap.new.errors) (g.A.Ambient.seen c.args.ambient.now))))
          c.args.order.now _ _ _ _ _ c.in-Snap.is c.as_str-in-Snap.ensures (λ files told. tt);
      quiet = c.perform_snap.ensures.quiet;
    }

pub returns-in-Board : goal.returns-in-Board
returns-in-Board g c =
    let laws = laws_of c.reading_answers.ensures c.one_record_answer.ensures c.one_gathered.ensures c.generated_set_links.ensures.three c.texts_are_of_one_trace.ensures c.runs_agree_up_to_one_call.ensures.one c.first_states_are_one.ensures.one in
    let can = can_write (functions_of c.args.host.now) in
    let serves =
    at_board (λ asked. Serves (names_of c.args.host.now) asked c.perform_board.result (g.F.Files.seen c.args.files.now) (g.F.Files.seen c.perform_board.new.files) (g.O.Sink.seen c.args.output.now).faults (g.O.Sink.seen c.perform_board.new.output).faults)
    c.args.order.now _ _ _ _ _ _ c.in-Board.is c.items-in-Board.ensures c.perform_board.ensures.serves in
    record {
      due = served_due laws (names_of c.args.host.now) can _ _ _ _ _ _ serves;
      tells = serves.tells;
      files = serves.leaves;
      complete = served_complete laws (names_of c.args.host.now) can _ _ _ _ _ _ serves;
      caused = serves.caused;
      inner = serves.inner;
      counts = at_board (λ asked. Counts asked c.perform_board.result (g.F.Files.seen c.args.files.now) (g.F.Files.seen c.perform_board.new.files))
          c.args.order.now _ _ _ _ _ _ c.in-Board.is c.items-in-Board.ensures c.perform_board.ensures.counts;
      does = at_board
          (λ asked. Does (g.F.Files.seen c.args.files.now).told (λ texts. embedder_of texts c.args.host.now) (picks_of c.args.picker.now) asked c.perform_board.result
          (devices (g.I.Source.seen c.args.input.now) (g.O.Sink.seen c.args.output.now) (g.E.Sink.seen c.args.errors.now) (g.A.Ambient.seen c.args.ambient.now))
          (devices (g.I.Source.seen c.perform_board.new.input) (g.O.Sink.seen c.perform_board.new.output) (g.E.Sink.seen c.perform_board.new.errors) (g.A.Ambient.seen c.perform_board.new.ambient)))
          c.args.order.now _ _ _ _ _ _ c.in-Board.is c.items-in-Board.ensures c.perform_board.ensures.does;
      writes = at_board
          (λ asked. ForSome (g.F.Files.seen c.args.files.now).told (λ files. WritesFor (λ texts. embedder_of texts c.args.host.now) asked files c.perform_board.result (g.F.Files.seen c.args.files.now) (g.F.Files.seen c.perform_board.new.files)
          (devices (g.I.Source.seen c.args.input.now) (g.O.Sink.seen c.args.output.now) (g.E.Sink.seen c.args.errors.now) (g.A.Ambient.seen c.args.ambient.now))
          (devices (g.I.Source.seen c.perform_board.new.input) (g.O.Sink.seen c.perform_board.new.output) (g.E.Sink.seen c.perform_board.new.errors) (g.A.Ambient.seen c.perform_board.new.ambient))))
          c.args.order.now _ _ _ _ _ _ c.in-Board.is c.items-in-Board.ensures (λ files told. tt);
      quiet = c.perform_board.ensures.quiet;
    }
