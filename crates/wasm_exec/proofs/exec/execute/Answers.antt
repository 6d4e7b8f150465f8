-- The run begins at the opening state.
use Rattle.std.proofs.Common.{◌≡◌, Ok, Err, inl, inr, refl, ap, subst}
use Rattle.std.proofs.lemmas.Result.{err_from_is_err_and}
use Rattle.spec_loading.specs.spec_execution.OneModule.{module_opening}
use Rattle.spec_hosts.specs.Devices.{devices}
use Rattle.spec_hosts.proofs.Fronts.{fronts_itself}
use Rattle.host_calls.specs.Embedders.{embedder_of}
use Rattle.wasm_single.specs.Starts.{IsTold}
use Rattle.wasm_single.specs.Singles.{SingleRun}
use Rattle.run_loaded.specs.Courses.{OfModule, course_of}
use Rattle.wasm_exec.proofs.Beginning.{module_opens, refuses}
use Rattle.wasm_exec.proofs.Proceeding.{course_fronts}
use Rattle.wasm_exec.proofs.Taken.{all_taken}
use Rattle.wasm_exec.proofs.exec.execute.Goals as goal

pub run_program-requires-clause-fresh : goal.run_program-requires-clause-fresh
run_program-requires-clause-fresh g c = ap (λ (s : SingleRun). s.run) c.in-Ok.ensures.0

pub run_program-requires-clause-opened : goal.run_program-requires-clause-opened
run_program-requires-clause-opened g c =
    let m = c.args.checked.now in
    let loaded = c.in-Ok.ensures in
    let e = embedder_of c.args.args c.args.table.now in
    let opens = subst (λ names. module_opening m names ≡ Ok loaded.1.0) c.in_ok-names.ensures.names loaded.1.1 in
    (OfModule m loaded.1.0, module_opens e.names m loaded.1.0 c.in-Ok.single c.in_ok-names.ensures.integers opens loaded.0)

pub returns-in-Ok-run_program-clause-executes : goal.returns-in-Ok-run_program-clause-executes
returns-in-Ok-run_program-clause-executes g c =
    let m = c.args.checked.now in
    let loaded = c.in-Ok.ensures in
    let e = embedder_of c.args.args c.args.table.now in
    let opens = subst (λ names. module_opening m names ≡ Ok loaded.1.0) c.in_ok-names.ensures.names loaded.1.1 in
    (loaded.1.0, opens, c.in-Ok-run_program.ensures (OfModule m loaded.1.0) (module_opens e.names m loaded.1.0 c.in-Ok.single c.in_ok-names.ensures.integers opens loaded.0))

pub returns-in-Ok-run_program-clause-fronts : goal.returns-in-Ok-run_program-clause-fronts
returns-in-Ok-run_program-clause-fronts g c =
    let m = c.args.checked.now in
    let loaded = c.in-Ok.ensures in
    let e = embedder_of c.args.args c.args.table.now in
    let opens = subst (λ names. module_opening m names ≡ Ok loaded.1.0) c.in_ok-names.ensures.names loaded.1.1 in
    let begun = devices (g.I.Source.seen c.args.input.now) (g.O.Sink.seen c.args.output.now) (g.E.Sink.seen c.args.errors.now) (g.A.Ambient.seen c.args.ambient.now) in
    let now = devices (g.I.Source.seen c.run_program.new.input) (g.O.Sink.seen c.run_program.new.output) (g.E.Sink.seen c.run_program.new.errors) (g.A.Ambient.seen c.run_program.new.ambient) in
    course_fronts (course_of (OfModule m loaded.1.0)) e c.args.most (Ok c.in-Ok-run_program.ran) begun now (c.in-Ok-run_program.ensures (OfModule m loaded.1.0) (module_opens e.names m loaded.1.0 c.in-Ok.single c.in_ok-names.ensures.integers opens loaded.0))

pub returns-in-Ok-run_program-clause-taken : goal.returns-in-Ok-run_program-clause-taken
returns-in-Ok-run_program-clause-taken g c = λ opening opens.
    let m = c.args.checked.now in
    let e = embedder_of c.args.args c.args.table.now in
    all_taken e c.args.most _ _ (course_of (OfModule m opening)) c.in-Ok-run_program.ran (c.in-Ok-run_program.ensures (OfModule m opening) (module_opens e.names m opening c.in-Ok.single c.in_ok-names.ensures.integers opens c.in-Ok.ensures.0))

pub returns-in-Err-run_program-clause-executes : goal.returns-in-Err-run_program-clause-executes
returns-in-Err-run_program-clause-executes g c =
    let m = c.args.checked.now in
    let loaded = c.in-Ok.ensures in
    let e = embedder_of c.args.args c.args.table.now in
    let opens = subst (λ names. module_opening m names ≡ Ok loaded.1.0) c.in_ok-names.ensures.names loaded.1.1 in
    inr (loaded.1.0, opens, c.in-Err-run_program.ensures (OfModule m loaded.1.0) (module_opens e.names m loaded.1.0 c.in-Ok.single c.in_ok-names.ensures.integers opens loaded.0))

pub returns-in-Err-run_program-clause-fronts : goal.returns-in-Err-run_program-clause-fronts
returns-in-Err-run_program-clause-fronts g c =
    let m = c.args.checked.now in
    let loaded = c.in-Ok.ensures in
    let e = embedder_of c.args.args c.args.table.now in
    let opens = subst (λ names. module_opening m names ≡ Ok loaded.1.0) c.in_ok-names.ensures.names loaded.1.1 in
    let begun = devices (g.I.Source.seen c.args.input.now) (g.O.Sink.seen c.args.output.now) (g.E.Sink.seen c.args.errors.now) (g.A.Ambient.seen c.args.ambient.now) in
    let now = devices (g.I.Source.seen c.run_program.new.input) (g.O.Sink.seen c.run_program.new.output) (g.E.Sink.seen c.run_program.new.errors) (g.A.Ambient.seen c.run_program.new.ambient) in
    course_fronts (course_of (OfModule m loaded.1.0)) e c.args.most (Err (record {})) begun now (c.in-Err-run_program.ensures (OfModule m loaded.1.0) (module_opens e.names m loaded.1.0 c.in-Ok.single c.in_ok-names.ensures.integers opens loaded.0))

pub returns-in_err-names-clause-executes : goal.returns-in_err-names-clause-executes
returns-in_err-names-clause-executes g c =
    let p = err_from_is_err_and c.from_residual.result c.from_residual.ensures.1 in
    rw (p.1, p.2) (inl refl)

pub returns-in_err-names-clause-taken : goal.returns-in_err-names-clause-taken
returns-in_err-names-clause-taken g c =
    let p = err_from_is_err_and c.from_residual.result c.from_residual.ensures.1 in
    rw p.1 tt

pub returns-in_err-names-clause-fronts : goal.returns-in_err-names-clause-fronts
returns-in_err-names-clause-fronts g c =
    fronts_itself _

pub returns-in-Err-clause-executes : goal.returns-in-Err-clause-executes
returns-in-Err-clause-executes g c =
    let m = c.args.checked.now in
    refuses m (embedder_of c.args.args c.args.table.now) c.args.most c.in-Err.fault _ (subst (λ names. IsTold (module_opening m names) c.in-Err.fault) c.in_ok-names.ensures.names c.in-Err.ensures)

pub returns-in-Err-clause-fronts : goal.returns-in-Err-clause-fronts
returns-in-Err-clause-fronts g c =
    fronts_itself _
