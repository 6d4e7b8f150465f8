use Rattle.spec_reading.proofs.of_spec_binary.Joined.{on_ok}
use Rattle.wasm_encode.proofs.Segments.{place_written, offset_written}
use Rattle.wasm_encode.proofs.segment.put_place.Goals as goal

pub returns-then-not-named-clause-ok : goal.returns-then-not-named-clause-ok
returns-then-not-named-clause-ok c = on_ok c.put.result (offset_written c.args.named _ _ c.args.number c.args.offset.now c.if-not-named.true) c.put.ensures.ok

pub returns-clause-ok : goal.returns-clause-ok
returns-clause-ok c = on_ok c.put-2.result (place_written c.args.named _ _ c.args.number c.args.offset.now c.put_u32.new.to.items c.if-not-named.false c.in_ok-put_u32.ensures.ok) c.put-2.ensures.ok
