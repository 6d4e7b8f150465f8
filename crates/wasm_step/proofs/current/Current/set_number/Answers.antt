use Rattle.std.proofs.Common.{arith, refl, ◌-◌}
use Rattle.wasm_form.specs.declared.runtime.Value.TheVariants.{Num}
use Rattle.wasm_step.proofs.Laid.{number_there, top_set}
use Rattle.wasm_step.proofs.current.Current.set_number.Goals as goal

pub returns : goal.returns
returns c = top_set _ _ _ _ _ _ c.self.invariant.laid c.self.view_is _ (c.len-last.result - 1) _ (Num c.args.n) (number_there _ c.requires) (omega arith) (rw c.set_bits.ensures refl) refl
