use Rattle.std.proofs.Common.{refl}
use Rattle.std.proofs.lemmas.List.{map-set}
use Rattle.wasm_instance.proofs.view.InstanceView.drop_data.Goals as goal

pub returns-clause-changes : goal.returns-clause-changes
returns-clause-changes c = rw (← c.self.view_is, map-set) refl
