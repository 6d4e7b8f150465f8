-- A member that isn't noted for a name doesn't define it.
use Rattle.std.proofs.Common.{◌≡◌, ℕ, false, List, ap}
use Rattle.spec_linking.specs.Orders.{is_among}
use Rattle.spec_linking.specs.Definitions as defined
use Rattle.dyl_names.specs.Names.{Defined}
use Rattle.dyl_names.specs.First.{AreOnly, by_member}

module _ (names : List Defined) (name : List ℕ) where
  pub not_among : (definers : List ℕ) → AreOnly names definers name → (m : ℕ) → is_among m definers ≡ false → by_member names m name ≡ defined.Undefined
  not_among definers only m none = ap (defined.defined_by m) (only m none)
