use Rattle.std.proofs.Common.{◌≡◌, true, ◌∙◌, sym, arith}
use Rattle.spec_loading.specs.LoaderAnswers.{is_handle}
use Rattle.dyl_world.proofs.Known.{handle_inside}
use Rattle.dyl_world.proofs.answers.find_named.Goals as goal
use Rattle.dyl_world.proofs.answers.find_named.Goals.{else-handle-ne0-via-then-handle-ne0+else-not-is_handle, else-handle-ne0-via-else-handle-ne0}

pub search_handle-requires : goal.search_handle-requires
search_handle-requires c =
    let some = c.links.ensures.shape.some in
    let stages = c.requires in
    elim c.else-handle-ne0.branch [
      | else-handle-ne0-via-then-handle-ne0+else-not-is_handle w ↦
          let known : is_handle c.args.stages.now c.args.handle ≡ true = sym w.is_handle.ensures ∙ w.if-not-is_handle.false in
          let inside = handle_inside c.args.stages.now c.args.handle (omega arith) known in
          omega arith
      | else-handle-ne0-via-else-handle-ne0 w ↦ omega arith
    ]
