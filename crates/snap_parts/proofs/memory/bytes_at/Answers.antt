use Rattle.std.proofs.Common.{take, ap, ◌∙◌, ◌++◌, arith}
use Rattle.snap_parts.proofs.Putting.{read_more}
use Rattle.snap_parts.proofs.memory.bytes_at.Goals as goal

pub overflow_add-piece : goal.overflow_add-piece
overflow_add-piece c = (let ends = c.requires.within.1 in omega arith)

pub loop-done-preserved : goal.loop-done-preserved
loop-done-preserved c = record {
  within = omega arith;
  read = c.in_ok-extend_from_slice.ensures.items
      ∙ ap (λ l. l ++ take c.min-n.result c.rest_of_page-rest.result.now) c.loop-done.invariant.read
      ∙ read_more c.args.memory.now.bytes c.args.piece.at c.loop-done.done c.min-n.result c.rest_of_page-rest.result.now c.rest_of_page-rest.ensures.value
      (omega arith);
}
