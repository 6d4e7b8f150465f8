use Rattle.std.proofs.Common.{◌≡◌, ◌∙◌, ap, ◌+◌, ◌%◌, ◌≤◌, ◌<◌, length, replicate, arith}
use Rattle.std.proofs.lemmas.List.{length-replicate, replicate-append-replicate}
use Rattle.spec_runtime.specs.Memories.{overwritten}
use Rattle.wasm_space.specs.Paged.{joined}
use Rattle.wasm_space.proofs.Joined.{nothing_wrote, wrote_more}
use Rattle.wasm_space.proofs.pages.fill.Goals as goal

pub loop-done-init : goal.loop-done-init
loop-done-init c = let none = nothing_wrote c.args.pages.now c.args.at c.requires.whole in (omega arith, none.0, none.1)

pub overflow_add-to : goal.overflow_add-to
overflow_add-to c = omega (arith, c.requires.within, c.requires.few, c.loop-done.invariant.0)

pub loop-done-preserved : goal.loop-done-preserved
loop-done-preserved c =
    let byte = c.args.byte in
    let done = c.loop-done.done in
    let n = c.min-n.result in
    let within : done + n ≤ c.args.count = omega (arith, c.min-n.ensures) in
    let some : 0 < n = omega (arith, c.min-n.ensures) in
    let inside : (c.args.at + done) % 65536 + n ≤ 65536 = omega (arith, c.min-n.ensures) in
    let size : length (replicate n byte) ≡ n = length-replicate n byte in
    let w = wrote_more c.args.pages.now c.loop-done.pages c.args.at done (replicate done byte) (replicate n byte) c.index-pages-to.result c.fill.new.self c.requires.whole c.loop-done.auto.pages
    (c.loop-done.invariant.1, c.loop-done.invariant.2) (length-replicate done byte) (rw size (omega (arith, c.requires.within))) (rw size inside) (rw size some) c.fill.ensures in
    (within, w.0 ∙ ap (overwritten (joined c.args.pages.now) c.args.at) (replicate-append-replicate done n byte), w.1)
