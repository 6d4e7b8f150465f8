use Rattle.std.proofs.Common.{◌∙◌, ap, ◌+◌, ◌*◌, ◌≤◌, length, take, drop, sym, arith}
use Rattle.std.specs.Vec.{with_items}
use Rattle.std.proofs.lemmas.List.{with_items_is}
use Rattle.spec_runtime.specs.Memories.{overwritten}
use Rattle.wasm_space.specs.Paged.{joined}
use Rattle.wasm_space.proofs.Stored.{initial, size_is, bytes_are}
use Rattle.wasm_space.proofs.space.Space.copy_across.Goals as goal

pub returns : goal.returns
returns c =
    let s = c.self.inside in
    let size = size_is c.args.self.now s.pages.items s.max c.self.view_is c.self.invariant.0 in
    let n = c.args.n in
    let given : c.args.from + n ≤ length c.args.self.now.bytes = omega arith in
    let fits : c.args.to + n ≤ length s.pages.items * 65536 = omega arith in
    initial c.args.self.now s.pages.items s.max c.self.view_is c.self.invariant.0 (with_items s.pages c.move_bytes.new.pages).items c.args.self.now.bytes c.args.to c.args.from n given fits
    (ap joined (with_items_is s.pages c.move_bytes.new.pages (c.move_bytes.auto.pages ∙ c.deref_mut.ensures.len)) ∙ c.move_bytes.ensures.bytes ∙ ap (λ xs. overwritten (joined xs) c.args.to (take n (drop c.args.from (joined xs)))) c.deref_mut.ensures.value ∙ ap (λ xs. overwritten (joined s.pages.items) c.args.to (take n (drop c.args.from xs))) (sym (bytes_are c.args.self.now s.pages.items s.max c.self.view_is c.self.invariant.0)))

pub move_bytes-requires-clause-to : goal.move_bytes-requires-clause-to
move_bytes-requires-clause-to c =
    let s = c.self.inside in
    let size = size_is c.args.self.now s.pages.items s.max c.self.view_is c.self.invariant.0 in
    let same = ap length c.deref_mut.ensures.value in
    omega (arith, size, same)

pub move_bytes-requires-clause-from : goal.move_bytes-requires-clause-from
move_bytes-requires-clause-from c =
    let s = c.self.inside in
    let size = size_is c.args.self.now s.pages.items s.max c.self.view_is c.self.invariant.0 in
    let same = ap length c.deref_mut.ensures.value in
    omega (arith, size, same)
