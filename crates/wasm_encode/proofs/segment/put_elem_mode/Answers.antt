use Rattle.std.proofs.Common.{inl, inr}
use Rattle.spec_reading.proofs.of_spec_binary.Joined.{on_ok}
use Rattle.wasm_encode.proofs.Segments.{active_written, no_elem_mode}
use Rattle.wasm_encode.proofs.segment.put_elem_mode.Goals as goal

pub returns-in-Active-clause-ok : goal.returns-in-Active-clause-ok
returns-in-Active-clause-ok c = on_ok c.put_place.result (active_written c.args.named _ _ c.args.mode.now c.in-Active.table c.in-Active.offset c.in-Active.is) c.put_place.ensures.ok

pub returns-in-Passive-clause-ok : goal.returns-in-Passive-clause-ok
returns-in-Passive-clause-ok c = no_elem_mode c.args.named c.args.mode.now _ (inl c.in-Passive.is)

pub returns-in-Declarative-clause-ok : goal.returns-in-Declarative-clause-ok
returns-in-Declarative-clause-ok c = no_elem_mode c.args.named c.args.mode.now _ (inr c.in-Declarative.is)
