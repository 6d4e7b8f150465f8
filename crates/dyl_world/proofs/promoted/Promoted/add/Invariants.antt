use Rattle.std.proofs.Common.{◌≡◌, drop}
use Rattle.spec_loading.specs.spec_linking.Orders.{with_numbers}
use Rattle.dyl_world.proofs.Known.{later}
use Rattle.dyl_world.proofs.promoted.Promoted.add.Given as goal

abbrev pub invariant-loop-k : goal.invariant-loop-k
invariant-loop-k l =
    (l.self.room ≡ l.fn.self.room) × (with_numbers l.self.list (later l.startup (drop l.k-index l.closure)) ≡ with_numbers l.fn.self.list (later l.startup l.closure))
