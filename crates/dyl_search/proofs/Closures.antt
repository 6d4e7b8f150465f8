-- The closure of a member, turn by turn.
use Rattle.std.proofs.Common.{◌≡◌, ℕ, suc, ◌+◌, ◌-◌, ◌<◌, List, [], ◌∷◌, take, length, get_or, slice_get, sym, ap, ◌∙◌, arith}
use Rattle.std.proofs.lemmas.List.{take_more}
use Rattle.std.proofs.lemmas.List.Sums.{fold-append}
use Rattle.spec_linking.specs.Sets as sets
use Rattle.spec_linking.specs.Orders.{needed_by, with_number, with_numbers, breadth_from}

pub with_more_numbers : (known ns : List ℕ) (i : ℕ) → i < length ns → with_number (with_numbers known (take i ns)) (get_or ns i 0) ≡ with_numbers known (take (i + 1) ns)
with_more_numbers known ns i lt = sym (fold-append with_number known (take i ns) (get_or ns i 0 ∷ [])) ∙ ap (with_numbers known) (sym (take_more ns i 0 lt))

-- one turn
pub turn : (members : List sets.Member) (n k : ℕ) (known : List ℕ) → k < n → breadth_from members (n - k) k known ≡ breadth_from members (n - (k + 1)) (k + 1) (with_numbers known (needed_by members (slice_get known k)))
turn members n k known lt =
    let e : n - k ≡ suc (n - (k + 1)) = omega arith in
    ap (λ turns. breadth_from members turns k known) e
