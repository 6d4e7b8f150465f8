use Rattle.std.proofs.Common.{◌∙◌, ap, ℕ, List, [], ◌∷◌, ◌≡◌, ◌≤◌, length, take, drop, arith}
use Rattle.std.proofs.lemmas.List.{length-take-le, take_at}
use Rattle.wasm_space.proofs.Stored.{size_is}
use Rattle.wasm_space.proofs.space.Space.store_across.Goals as goal

pub write-requires-clause-within : goal.write-requires-clause-within
write-requires-clause-within c =
    let s = c.self.inside in
    let size = size_is c.args.self.now s.pages.items s.max c.self.view_is c.self.invariant.0 in
    let same = ap length c.deref_mut.ensures.value in
    let zeros : List ℕ = 0 ∷ 0 ∷ 0 ∷ 0 ∷ 0 ∷ 0 ∷ 0 ∷ 0 ∷ [] in
    let small : c.args.len ≤ length zeros = omega (arith, c.requires.access) in
    let n : length (take c.args.len zeros) ≡ c.args.len = length-take-le c.args.len zeros small in
    let put = take_at c.write_little.new.bytes (drop c.args.len zeros) c.args.len (c.write_little.auto.bytes ∙ n) in
    rw (put, c.write_little.auto.bytes, n) (omega (arith, size, same, c.end.ensures.value))
