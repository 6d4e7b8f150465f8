use Rattle.std.proofs.Common.{arith, ◌∙◌}
use Rattle.spec_hosts.specs.Calls as calls
use Rattle.host_wasi.proofs.Fronts.{take_after}
use Rattle.host_wasi.proofs.buffers.add_front.Goals as goal

pub returns : goal.returns
returns c =
    c.loop-k.invariant ∙ take_after calls.most_bytes c.args.buffer.len c.loop-k.k c.args.bytes.now.items _ c.requires.few (omega arith)
