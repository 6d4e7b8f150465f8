use Rattle.std.proofs.Common.{◌≡◌, ◌∙◌, ap, sym, ◌+◌, ◌*◌, ◌/◌, ◌%◌, ◌≤◌, ◌<◌, ℕ, List, length, set, take, drop, length-set, arith}
use Rattle.spec_runtime.specs.Memories.{overwritten}
use Rattle.wasm_space.specs.Paged.{joined}
use Rattle.wasm_space.proofs.Joined.{page_shifted}
use Rattle.wasm_space.proofs.Stored.{initial, size_is, bytes_are}
use Rattle.wasm_space.proofs.space.Space.copy.Goals as goal

pub invariant_of-self : goal.invariant_of-self
invariant_of-self c =
    let s = c.self.inside in
    let to = c.args.to in
    let from = c.args.from in
    let n = c.args.n in
    let lt : to / 65536 < length s.pages.items = omega (arith, s.pages.ok.0) in
    let same : to / 65536 ≡ from / 65536 = omega arith in
    let fits_to : to % 65536 + n ≤ 65536 = omega (arith, c.max.ensures) in
    let fits_from : from % 65536 + n ≤ 65536 = omega (arith, c.max.ensures) in
    let new = c.shift.ensures ∙ ap (λ (p : List ℕ). overwritten p (to % 65536) (take n (drop (from % 65536) p))) c.index_mut.ensures.value in
    let w = page_shifted s.pages.items c.index_mut.result.now c.shift.new.self to from n c.self.invariant.0 same lt fits_to fits_from new in
    (w.1, rw length-set c.self.invariant.1, c.self.invariant.2)

pub returns-then-max-n-le-PAGE : goal.returns-then-max-n-le-PAGE
returns-then-max-n-le-PAGE c =
    let s = c.self.inside in
    let to = c.args.to in
    let from = c.args.from in
    let n = c.args.n in
    let size = size_is c.args.self.now s.pages.items s.max c.self.view_is c.self.invariant.0 in
    let lt : to / 65536 < length s.pages.items = omega (arith, s.pages.ok.0) in
    let same : to / 65536 ≡ from / 65536 = omega arith in
    let fits_to : to % 65536 + n ≤ 65536 = omega (arith, c.max.ensures) in
    let fits_from : from % 65536 + n ≤ 65536 = omega (arith, c.max.ensures) in
    let new = c.shift.ensures ∙ ap (λ (p : List ℕ). overwritten p (to % 65536) (take n (drop (from % 65536) p))) c.index_mut.ensures.value in
    let w = page_shifted s.pages.items c.index_mut.result.now c.shift.new.self to from n c.self.invariant.0 same lt fits_to fits_from new in
    let given : from + n ≤ length c.args.self.now.bytes = omega (arith, size) in
    let fits : to + n ≤ length s.pages.items * 65536 = omega arith in
    initial c.args.self.now s.pages.items s.max c.self.view_is c.self.invariant.0 (set s.pages.items (to / 65536) c.shift.new.self) c.args.self.now.bytes to from n given fits
    (w.0 ∙ ap (λ xs. overwritten (joined s.pages.items) to (take n (drop from xs))) (sym (bytes_are c.args.self.now s.pages.items s.max c.self.view_is c.self.invariant.0)))
