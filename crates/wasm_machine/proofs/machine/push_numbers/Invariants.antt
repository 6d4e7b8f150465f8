use Rattle.std.proofs.Common.{◌≡◌, ◌++◌, take}
use Rattle.std.specs.Prelude.{map, reverse}
use Rattle.wasm_form.specs.declared.runtime.Value.TheVariants.{Num}
use Rattle.spec_safety.specs.spec_execution.Activations.{with_values}
use Rattle.wasm_step.specs.Tops.{with_act}
use Rattle.wasm_machine.proofs.machine.push_numbers.Given as goal

-- the numbers so far stand on top
abbrev pub invariant-loop-n : goal.invariant-loop-n
invariant-loop-n l = l.top ≡ with_act l.fn.top (with_values l.fn.top.act (reverse (map Num (take l.n-index l.numbers)) ++ l.fn.top.act.values))
