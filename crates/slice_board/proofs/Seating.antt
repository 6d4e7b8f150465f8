-- The seats of a board with one that was added, if there was room for it.
use Rattle.std.proofs.Common.{◌≡◌, ◌≤◌, ◌+◌, Bool, true, false, List, [], ◌∷◌, ◌++◌, length, ap, subst, sym, arith, if◌then◌else◌}
use Rattle.std.specs.List.{All}
use Rattle.std.proofs.lemmas.List.{length-append}
use Rattle.std.proofs.lemmas.List.Elements.{All-push}
use Rattle.slice_board.specs.declared.board.Seat.{Seat}

abbrev IsWithin : Seat → Type 0
IsWithin seat = seat.store.run.steps ≤ seat.most

pub added_few : (old new : List Seat) (seat : Seat) (ok : Bool) → new ≡ (if ok then old ++ seat ∷ [] else old) → length old ≤ 64 → (length old ≡ 64 → ⊥) → length new ≤ 64
added_few old new seat true e few room =
    let count : length new ≡ length (old ++ seat ∷ []) = ap length e in
    let more : length (old ++ seat ∷ []) ≡ length old + 1 = length-append old (seat ∷ []) in
    grind arith
added_few old new seat false e few room = (let count : length new ≡ length old = ap length e in omega arith)

pub added_within : (old new : List Seat) (seat : Seat) (ok : Bool) → new ≡ (if ok then old ++ seat ∷ [] else old) → IsWithin seat → All IsWithin old → All IsWithin new
added_within old new seat true e within all = subst (λ xs. All IsWithin xs) (sym e) (All-push IsWithin old seat all within)
added_within old new seat false e within all = subst (λ xs. All IsWithin xs) (sym e) all
