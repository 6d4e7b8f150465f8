use Rattle.std.proofs.Common.{◌∙◌, ap, sym, ℕ, ◌-◌, ◌/◌, ◌%◌, ◌<◌, length, take, drop, arith}
use Rattle.wasm_space.proofs.Joined.{part_of_page}
use Rattle.wasm_space.proofs.Stored.{bytes_are, size_is}
use Rattle.wasm_space.proofs.space.Space.rest_of_page.Goals as goal

pub returns-then-at-len-clause-some : goal.returns-then-at-len-clause-some
returns-then-at-len-clause-some c lt =
    let s = c.self.inside in
    let size = size_is c.args.self.now s.pages.items s.max c.self.view_is c.self.invariant.0 in
    omega (arith, size, lt, s.pages.ok.0)

pub returns-clause-value : goal.returns-clause-value
returns-clause-value c =
    let s = c.self.inside in
    let at = c.args.at in
    let lt : at / 65536 < length s.pages.items = omega (arith, s.pages.ok.0) in
    let n : ℕ = 65536 - at % 65536 in
    let part = part_of_page s.pages.items at n c.index.result.now c.self.invariant.0 lt (omega arith) in
    c.part.ensures.value ∙ ap (λ p. take n (drop (at % 65536) p)) c.index.ensures ∙ part ∙ ap (λ xs. take n (drop at xs)) (sym (bytes_are c.args.self.now s.pages.items s.max c.self.view_is c.self.invariant.0))
    ∙ ap (λ k. take k (drop at c.args.self.now.bytes)) (sym c.part.ensures.len)
