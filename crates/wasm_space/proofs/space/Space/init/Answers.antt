use Rattle.std.proofs.Common.{◌∙◌, ap, ◌+◌, ◌*◌, ◌≤◌, length, take, drop, arith}
use Rattle.std.specs.Vec.{with_items}
use Rattle.std.proofs.lemmas.List.{with_items_is}
use Rattle.spec_runtime.specs.Memories.{overwritten}
use Rattle.wasm_space.specs.Paged.{joined}
use Rattle.wasm_space.proofs.Overwriting.{part_is}
use Rattle.wasm_space.proofs.Stored.{initial, size_is}
use Rattle.wasm_space.proofs.space.Space.init.Goals as goal

pub returns : goal.returns
returns c =
    let s = c.self.inside in
    let size = size_is c.args.self.now s.pages.items s.max c.self.view_is c.self.invariant.0 in
    let n = c.args.n in
    let given : c.args.from + n ≤ length c.args.bytes.now = omega arith in
    let fits : c.args.to + n ≤ length s.pages.items * 65536 = omega arith in
    initial c.args.self.now s.pages.items s.max c.self.view_is c.self.invariant.0 (with_items s.pages c.write.new.pages).items c.args.bytes.now c.args.to c.args.from n given fits
    (ap joined (with_items_is s.pages c.write.new.pages (c.write.auto.pages ∙ c.deref_mut.ensures.len)) ∙ c.write.ensures.bytes ∙ ap (overwritten (joined c.deref_mut.result.now) c.args.to) (part_is c.args.bytes.now c.args.from n) ∙ ap (λ xs. overwritten (joined xs) c.args.to (take n (drop c.args.from c.args.bytes.now))) c.deref_mut.ensures.value)

pub write-requires-clause-within : goal.write-requires-clause-within
write-requires-clause-within c =
    let s = c.self.inside in
    let size = size_is c.args.self.now s.pages.items s.max c.self.view_is c.self.invariant.0 in
    let same = ap length c.deref_mut.ensures.value in
    omega (arith, size, same)
