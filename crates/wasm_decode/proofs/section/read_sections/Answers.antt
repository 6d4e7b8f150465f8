use Rattle.std.proofs.lemmas.Result.{err_from_is_err_and}
use Rattle.wasm_decode.specs.Sections.{progress_of}
use Rattle.wasm_decode.proofs.Chain.{chain_begin, chain_end, chain_fails, chain_goes_on, nothing_left, something_left}
use Rattle.wasm_decode.proofs.section.read_sections.Goals as goal

pub loop-rest-init : goal.loop-rest-init
loop-rest-init c = chain_begin (progress_of c.args.progress.now) c.args.bytes.now c.requires

pub returns : goal.returns
returns c =
    chain_end (progress_of c.loop-rest.progress) c.loop-rest.count c.loop-rest.rest.now c.args.bytes.now (nothing_left c.is_empty.result c.loop-rest.rest.now c.is_empty.ensures c.loop-rest-test.false) c.loop-rest.invariant

pub returns-in_err-rest : goal.returns-in_err-rest
returns-in_err-rest c = λ fuel enough.
    let p = err_from_is_err_and c.from_residual.result c.from_residual.ensures.1 in
    rw (p.1, p.2) (chain_fails c.in_err-rest.field-0.0 (progress_of c.loop-rest.progress) c.loop-rest.count c.loop-rest.rest.now c.args.bytes.now
    (something_left c.is_empty.result c.loop-rest.rest.now c.is_empty.ensures c.loop-rest-test.true) c.in_err-rest.ensures.reads c.loop-rest.invariant fuel enough)

pub loop-rest-preserved : goal.loop-rest-preserved
loop-rest-preserved c =
    chain_goes_on (progress_of c.loop-rest.progress) (progress_of c.read_section.new.self) c.loop-rest.count c.saturating_add-count.result c.loop-rest.rest.now c.in_ok-rest.rest.now c.args.bytes.now
    c.in_ok-rest.ensures.shorter c.in_ok-rest.ensures.reads c.saturating_add-count.ensures c.loop-rest.invariant
