-- The run is driven from its opening state.
use Rattle.std.proofs.Common.{◌≡◌, ◌∙◌, ap, sym}
use Rattle.spec_hosts.specs.Devices.{devices}
use Rattle.host_calls.specs.Embedders.{embedder_of, embedder}
use Rattle.run_loaded.specs.Courses.{course_of}
use Rattle.wasm_exec.proofs.Beginning.{begins_driven, not_begun}
use Rattle.wasm_exec.proofs.exec.run_program.Goals as goal

pub drive-told-requires-clause-driven : goal.drive-told-requires-clause-driven
drive-told-requires-clause-driven g c =
    let opens = c.requires.opened in
    let e = embedder_of c.args.args c.args.table.now in
    let same : embedder c.in-Ok.hosts ≡ e = λ i. embedder_of ((c.in-Ok.ensures.wasi ∙ c.new.ensures) i) (c.in-Ok.ensures.table i) in
    let begun = devices (g.I.Source.seen c.args.input.now) (g.O.Sink.seen c.args.output.now) (g.E.Sink.seen c.args.errors.now) (g.A.Ambient.seen c.args.ambient.now) in (
      opens.0,
      λ entry h at. rw c.in-Ok.ensures.table (c.in-Ok.ensures.bound entry h (sym (ap (λ f. f entry) (c.hosts.ensures opens.0 opens.1.0)) ∙ at)),
      rw same (begins_driven e opens.0 c.args.program c.new-driver.result begun opens.1 c.requires.fresh c.new-driver.ensures.progress c.new-driver.ensures.program),
    )

pub returns-in-Ok : goal.returns-in-Ok
returns-in-Ok g c = λ o opens.
    let e = embedder_of c.args.args c.args.table.now in
    let same : embedder c.in-Ok.hosts ≡ e = λ i. embedder_of ((c.in-Ok.ensures.wasi ∙ c.new.ensures) i) (c.in-Ok.ensures.table i) in
    let begun = devices (g.I.Source.seen c.args.input.now) (g.O.Sink.seen c.args.output.now) (g.E.Sink.seen c.args.errors.now) (g.A.Ambient.seen c.args.ambient.now) in
    (rw same at c.drive-told.ensures) o (begins_driven e o c.args.program c.new-driver.result begun opens c.requires.fresh c.new-driver.ensures.progress c.new-driver.ensures.program)

pub returns-in-Err : goal.returns-in-Err
returns-in-Err g c = λ o opens. not_begun (course_of o) (embedder_of c.args.args c.args.table.now) _ c.args.most opens.1
