-- The run begins at the opening state of the set.
use Rattle.std.proofs.Common.{ap}
use Rattle.spec_hosts.proofs.Fronts.{fronts_itself}
use Rattle.host_calls.specs.Embedders.{embedder_of}
use Rattle.dyl_store.specs.Stores.{StoreRun}
use Rattle.run_loaded.specs.Courses.{OfSet, course_of}
use Rattle.wasm_exec.proofs.Beginning.{not_begun}
use Rattle.wasm_exec.proofs.Proceeding.{course_fronts}
use Rattle.wasm_exec.proofs.Taken.{set_taken}
use Rattle.wasm_exec.proofs.Sets.{set_begins, set_opens, set_executes}
use Rattle.wasm_exec.proofs.exec.execute_set.Goals as goal

pub run_program-requires-clause-fresh : goal.run_program-requires-clause-fresh
run_program-requires-clause-fresh g c = ap (λ (s : StoreRun). s.run) c.in-Ok.ensures

pub run_program-requires-clause-opened : goal.run_program-requires-clause-opened
run_program-requires-clause-opened g c =
    let L = c.args.linked.now in
    (OfSet L, set_opens L _ c.hosts_have_integers.ensures.integers c.links.ensures.links c.requires.names c.in-Ok.store c.in-Ok.ensures)

pub returns-in-Ok-clause-executes : goal.returns-in-Ok-clause-executes
returns-in-Ok-clause-executes g c =
    let L = c.args.linked.now in
    let e = embedder_of c.args.args c.args.table.now in
    set_executes L e c.args.most c.run_program.result _ _ (c.run_program.ensures (OfSet L) (set_opens L e.names c.hosts_have_integers.ensures.integers c.links.ensures.links c.requires.names c.in-Ok.store c.in-Ok.ensures))

pub returns-in-Ok-clause-fronts : goal.returns-in-Ok-clause-fronts
returns-in-Ok-clause-fronts g c =
    let L = c.args.linked.now in
    let e = embedder_of c.args.args c.args.table.now in
    course_fronts (course_of (OfSet L)) e c.args.most c.run_program.result _ _ (c.run_program.ensures (OfSet L) (set_opens L e.names c.hosts_have_integers.ensures.integers c.links.ensures.links c.requires.names c.in-Ok.store c.in-Ok.ensures))

pub returns-in-Ok-clause-taken : goal.returns-in-Ok-clause-taken
returns-in-Ok-clause-taken g c =
    let L = c.args.linked.now in
    let e = embedder_of c.args.args c.args.table.now in
    set_taken e c.args.most _ _ L c.run_program.result (c.run_program.ensures (OfSet L) (set_opens L e.names c.hosts_have_integers.ensures.integers c.links.ensures.links c.requires.names c.in-Ok.store c.in-Ok.ensures))

pub returns-in-Err-clause-executes : goal.returns-in-Err-clause-executes
returns-in-Err-clause-executes g c =
    let L = c.args.linked.now in
    let e = embedder_of c.args.args c.args.table.now in
    not_begun (course_of (OfSet L)) e _ c.args.most (set_begins L e.names c.hosts_have_integers.ensures.integers c.links.ensures.links c.requires.names)

pub returns-in-Err-clause-fronts : goal.returns-in-Err-clause-fronts
returns-in-Err-clause-fronts g c = fronts_itself _
