use Rattle.std.proofs.Common.{◌≡◌, ◌∙◌, ap, sym, ◌+◌, ◌-◌, ◌≤◌, length, take, drop, arith}
use Rattle.std.proofs.Math.Seq.{take-length}
use Rattle.std.proofs.lemmas.Slice.Eq.{bytes_eq-Decides}
use Rattle.dyl_world.proofs.Pieces.{same_more, different, not_same, differ, alike}
use Rattle.dyl_world.proofs.strings.stand_at.Goals as goal

pub returns-then-ne : goal.returns-then-ne
returns-then-ne c =
    let memory = c.args.memory.now.bytes in
    let bytes = c.args.bytes.now in
    let done = c.loop-done.done in
    let n = c.min-n.result in
    let rest = c.rest_of_page-rest.result.now in
    let within : done + n ≤ length bytes = omega (arith, c.min-n.ensures) in
    let fits : n ≤ length rest = omega (arith, c.min-n.ensures) in
    not_same (take (length bytes) (drop c.args.at memory)) bytes
    (different memory bytes c.args.at done n rest within c.rest_of_page-rest.ensures.value fits (differ (take n rest) (take (done + n - done) (drop done bytes)) (sym c.if-ne.true ∙ c.ne.ensures)))

pub loop-done-preserved : goal.loop-done-preserved
loop-done-preserved c =
    let bytes = c.args.bytes.now in
    let done = c.loop-done.done in
    let n = c.min-n.result in
    let rest = c.rest_of_page-rest.result.now in
    let within : done + n ≤ length bytes = omega (arith, c.min-n.ensures) in
    let fits : n ≤ length rest = omega (arith, c.min-n.ensures) in
    (within, same_more c.args.memory.now.bytes bytes c.args.at done n rest c.loop-done.invariant.1 c.rest_of_page-rest.ensures.value fits (alike (take n rest) (take (done + n - done) (drop done bytes)) (sym c.if-ne.false ∙ c.ne.ensures)))

pub returns : goal.returns
returns c =
    let bytes = c.args.bytes.now in
    let all : c.loop-done.done ≡ length bytes = omega (arith, c.loop-done.invariant.0, c.loop-done-test.false) in
    let same : take (length bytes) (drop c.args.at c.args.memory.now.bytes) ≡ bytes = rw (← all) (sym c.loop-done.invariant.1) ∙ ap (λ k. take k bytes) all ∙ take-length bytes in
    sym ((bytes_eq-Decides (take (length bytes) (drop c.args.at c.args.memory.now.bytes)) bytes).1 same)
