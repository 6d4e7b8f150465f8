use Rattle.spec_reading.proofs.of_spec_binary.Joined.{on_ok}
use Rattle.wasm_encode.proofs.Segments.{active_data_written, no_data_mode}
use Rattle.wasm_encode.proofs.segment.put_data_mode.Goals as goal

pub returns-in-Active-clause-ok : goal.returns-in-Active-clause-ok
returns-in-Active-clause-ok c = on_ok c.put_place.result (active_data_written c.args.named _ _ c.args.mode.now c.in-Active.memory c.in-Active.offset c.in-Active.is) c.put_place.ensures.ok

pub returns-in-Passive-clause-ok : goal.returns-in-Passive-clause-ok
returns-in-Passive-clause-ok c = no_data_mode c.args.named c.args.mode.now _ c.in-Passive.is
