use Rattle.std.proofs.Common.{take}
use Rattle.std.specs.List.{All}
use Rattle.wasm_form.specs.declared.module.Data.{Data}
use Rattle.spec_safety.specs.ValueTypes.{AreBytes}
use Rattle.wasm_machine.proofs.told.hold_bytes.Given as goal

abbrev pub invariant-loop-data : goal.invariant-loop-data
invariant-loop-data l = All (λ (d : Data). AreBytes d.bytes) (take l.data-index l.datas)
