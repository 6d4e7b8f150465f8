use Rattle.dyl_world.proofs.Room.{none_promoted}
use Rattle.dyl_world.proofs.promoted.Promoted.new.Goals as goal

pub invariant_of-result : goal.invariant_of-result
invariant_of-result c = none_promoted c.resize.new.self.items
