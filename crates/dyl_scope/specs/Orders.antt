-- The orders in which members are gone through, by what each of them needs.
-- Serves the contracts of this crate, which follow Orders of `spec_linking`.
use Rattle.std.specs.Prelude.{ℕ, zero, suc, ◌+◌, List, [], ◌∷◌, Option, Some, None, slice_get, if◌then◌else◌}
use Rattle.spec_linking.specs.Orders.{is_among, with_numbers, Walk, walk_each, entering, leaving}
use Rattle.dyl_scope.specs.declared.maker.Told.{Told}
use Rattle.dyl_scope.specs.declared.orders.Walk as code

abbrev pub needed_of : Option Told → List ℕ
needed_of None = []
needed_of (Some t) = t.needed

-- what a member needs
abbrev pub needed_in : List Told → ℕ → List ℕ
needed_in members m = needed_of (slice_get members m)

abbrev pub needed_at : (ℕ → List ℕ) → Option ℕ → List ℕ
needed_at needs None = []
needed_at needs (Some m) = needs m

-- from place k on, each known member in its turn makes those known that it needs
abbrev pub reached : (ℕ → List ℕ) → ℕ → ℕ → List ℕ → List ℕ
reached needs zero k known = known
reached needs (suc turns) k known = reached needs turns (k + 1) (with_numbers known (needed_at needs (slice_get known k)))

-- the closure of a member, of so many
abbrev pub closure_by : (ℕ → List ℕ) → ℕ → ℕ → List ℕ
closure_by needs count m = reached needs count 0 (m ∷ [])

-- the walk from a member on
abbrev pub walk_by : (ℕ → List ℕ) → ℕ → ℕ → Walk → Walk
walk_by needs zero m w = w
walk_by needs (suc depth) m w = if is_among m w.entered then w else leaving m (walk_each (walk_by needs depth) (needs m) (entering m w))

abbrev pub post_order_by : (ℕ → List ℕ) → ℕ → ℕ → List ℕ
post_order_by needs count m = (walk_by needs count m (record { entered = []; left = [] })).left

abbrev pub walk_value : code.Walk → Walk
walk_value w = record { entered = w.entered; left = w.left.items }
