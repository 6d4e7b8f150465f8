use Rattle.spec_reading.proofs.of_spec_binary.Joined.{on_ok}
use Rattle.wasm_encode.proofs.TypeForms.{open_written, bounded_written}
use Rattle.wasm_encode.proofs.types.put_limits.Goals as goal

pub returns-in-None : goal.returns-in-None
returns-in-None c = on_ok c.put_numbered.result (open_written c.args.limits.now _ _ c.in-None.is) c.put_numbered.ensures

pub returns-in_ok-put_numbered-in-Some : goal.returns-in_ok-put_numbered-in-Some
returns-in_ok-put_numbered-in-Some c =
    on_ok c.put_u32.result (bounded_written c.args.limits.now c.in-Some.max _ c.put_numbered-in-Some.new.to.items _ c.in-Some.is c.in_ok-put_numbered-in-Some.ensures) c.put_u32.ensures.ok
