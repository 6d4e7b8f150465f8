-- What WASI answers fits, and so does what the table answers.
use Rattle.host_table.specs.Table.{functions_of}
use Rattle.host_calls.specs.Embedders.{embedder, call_of}
use Rattle.host_calls.proofs.WasiTypes.{wasi_type, wasi_arguments, wasi_fits, wasi_asked, table_asked}
use Rattle.host_calls.proofs.hosts.Hosts.ask.Goals as goal

pub answer-requires : goal.answer-requires
answer-requires g c =
    let h = c.args.host.now in
    let bound = rw c.in-Wasi.is at c.binding_at.ensures in
    wasi_arguments _ h.name h.ty c.args.asked.now.args bound.1 (wasi_type c.names_have_their_types.ensures.wasi (functions_of c.args.self.now.table.now) h.«module» h.name h.ty bound.0 c.requires.declared) c.requires.arguments

pub ask_table-requires-clause-other : goal.ask_table-requires-clause-other
ask_table-requires-clause-other g c = (rw c.in-Table.is at c.binding_at.ensures).0

pub ask_table-requires-clause-bound : goal.ask_table-requires-clause-bound
ask_table-requires-clause-bound g c = (rw c.in-Table.is at c.binding_at.ensures).1

pub returns-in-Wasi-clause-asked : goal.returns-in-Wasi-clause-asked
returns-in-Wasi-clause-asked g c =
    let bound = rw c.in-Wasi.is at c.binding_at.ensures in
    wasi_asked (embedder c.args.self.now) (call_of c.args.host.now c.args.asked.now) c.args.memory.now _ c.answer.result _ _ bound.0 bound.1 c.answer.ensures

pub returns-in-Wasi-clause-fits : goal.returns-in-Wasi-clause-fits
returns-in-Wasi-clause-fits g c =
    let h = c.args.host.now in
    let bound = rw c.in-Wasi.is at c.binding_at.ensures in
    let typed = wasi_type c.names_have_their_types.ensures.wasi (functions_of c.args.self.now.table.now) h.«module» h.name h.ty bound.0 c.requires.declared in
    wasi_fits c.wasi_answers_fit.ensures c.args.self.now.wasi c.args.memory.now _ h.name h.ty c.args.asked.now.args _ _ bound.1 typed c.requires.arguments c.answer.result c.answer.ensures

pub returns-in-Table-clause-asked : goal.returns-in-Table-clause-asked
returns-in-Table-clause-asked g c =
    table_asked (embedder c.args.self.now) (call_of c.args.host.now c.args.asked.now) c.args.memory.now c.ask_table.result _ (rw c.in-Table.is at c.binding_at.ensures).0 c.ask_table.ensures.answered
