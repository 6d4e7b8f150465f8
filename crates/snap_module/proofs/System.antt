-- It has the code of the module, and makes its very steps.
use Rattle.std.proofs.Common.{refl}
use Rattle.snap_module.specs.Laws.{HeldHasCode, HeldSteps}

pub held_has_code : HeldHasCode
held_has_code m entry p memory c = record { types = refl; imports = refl; funcs = refl; codes = refl }

pub held_steps : HeldSteps
held_steps m entry p memory c s = refl
