use Rattle.std.proofs.Common.{◌∙◌, arith}
use Rattle.host_wasi.proofs.Vectors.{buffer_in}
use Rattle.host_wasi.proofs.Fronts.{front_length, joined_more}
use Rattle.host_wasi.proofs.buffers.joined.Goals as goal

pub add_front-requires-clause-few : goal.add_front-requires-clause-few
add_front-requires-clause-few c = front_length _ _ _ c.loop-buffer.invariant

pub add_front-requires-clause-is_in : goal.add_front-requires-clause-is_in
add_front-requires-clause-is_in c =
    buffer_in c.args.memory.now c.args.buffers.now c.loop-buffer.buffer-index _ (omega arith) c.requires

pub loop-buffer-preserved : goal.loop-buffer-preserved
loop-buffer-preserved c =
    c.in_ok-add_front.ensures ∙ joined_more c.args.memory.now c.args.buffers.now c.loop-buffer.buffer-index _ c.loop-buffer.bytes.items (omega arith) c.loop-buffer.invariant
