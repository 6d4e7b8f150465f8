use Rattle.spec_loading.specs.spec_linking.LinkedSets.{wasm_of}
use Rattle.dyl_store.proofs.Members.{counted_types}
use Rattle.dyl_store.proofs.view.WorldView.declared.Goals as goal

pub unit-requires : goal.unit-requires
unit-requires c = counted_types (wasm_of c.args.self.now.linked c.args.unit) c.args.t c.requires
