use Rattle.std.proofs.Common.{ap, ℕ, List, [], ◌∷◌, ◌≡◌, ◌≤◌, length, take, arith}
use Rattle.std.proofs.lemmas.List.{length-take-le}
use Rattle.wasm_space.proofs.Stored.{size_is}
use Rattle.wasm_space.proofs.space.Space.load_across.Goals as goal

pub read-requires-clause-within : goal.read-requires-clause-within
read-requires-clause-within c =
    let s = c.self.inside in
    let size = size_is c.args.self.now s.pages.items s.max c.self.view_is c.self.invariant.0 in
    let same = ap length c.deref.ensures.value in
    let zeros : List ℕ = 0 ∷ 0 ∷ 0 ∷ 0 ∷ 0 ∷ 0 ∷ 0 ∷ 0 ∷ [] in
    let small : c.args.len ≤ length zeros = omega (arith, c.requires.access) in
    let n : length (take c.args.len zeros) ≡ c.args.len = length-take-le c.args.len zeros small in
    rw n (omega (arith, size, same, c.end.ensures.value))
