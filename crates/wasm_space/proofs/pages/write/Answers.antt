use Rattle.std.proofs.Common.{◌≡◌, ◌∙◌, ap, sym, ◌+◌, ◌%◌, ◌/◌, get_or, ◌≤◌, ◌<◌, length, take, drop, arith}
use Rattle.std.proofs.lemmas.List.{length-take-le}
use Rattle.std.proofs.Math.Seq.{take-add}
use Rattle.spec_runtime.specs.Memories.{overwritten}
use Rattle.wasm_space.specs.Paged.{joined}
use Rattle.wasm_space.proofs.Joined.{nothing_wrote, wrote_more}
use Rattle.wasm_space.proofs.Changes.{length_part}
use Rattle.wasm_space.proofs.Overwriting.{part_is}
use Rattle.wasm_space.proofs.pages.write.Goals as goal

pub loop-done-init : goal.loop-done-init
loop-done-init c = let none = nothing_wrote c.args.pages.now c.args.at c.requires.whole in (omega arith, none.0, none.1)

pub overflow_add-to : goal.overflow_add-to
overflow_add-to c = omega (arith, c.requires.within, c.requires.few, c.loop-done.invariant.0)

pub loop-done-preserved : goal.loop-done-preserved
loop-done-preserved c =
    let bytes = c.args.bytes.now in
    let done = c.loop-done.done in
    let n = c.min-n.result in
    let within : done + n ≤ length bytes = omega (arith, c.min-n.ensures) in
    let some : 0 < n = omega (arith, c.min-n.ensures) in
    let inside : (c.args.at + done) % 65536 + n ≤ 65536 = omega (arith, c.min-n.ensures) in
    let size : length (take n (drop done bytes)) ≡ n = length_part bytes done n within in
    let put = c.put.ensures ∙ ap (overwritten (get_or c.loop-done.pages ((c.args.at + done) / 65536) c.index-pages-to.result) ((c.args.at + done) % 65536)) (part_is bytes done n) in
    let w = wrote_more c.args.pages.now c.loop-done.pages c.args.at done (take done bytes) (take n (drop done bytes)) c.index-pages-to.result c.put.new.self c.requires.whole c.loop-done.auto.pages
    (c.loop-done.invariant.1, c.loop-done.invariant.2) (length-take-le done bytes c.loop-done.invariant.0) (rw size (omega (arith, c.requires.within))) (rw size inside) (rw size some) put in
    (within, w.0 ∙ ap (overwritten (joined c.args.pages.now) c.args.at) (sym (take-add done n bytes)), w.1)
