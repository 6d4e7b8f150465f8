use Rattle.std.proofs.Common.{◌≡◌, ◌≢◌, ℕ, refl, ◌∙◌}
use Rattle.wasm_form.specs.declared.types.ValType.{ValType}
use Rattle.wasm_form.specs.declared.types.ValType.TheVariants.{I32, I64, F32, F64, FuncRef, ExternRef}
use Rattle.wasm_form.specs.declared.runtime.Value.TheVariants.{Num}
use Rattle.merge_match.specs.Renumbering.{Numbers}
use Rattle.merge_start.specs.Words.{number}
use Rattle.merge_module.specs.MergedModule.{constant_instr}
use Rattle.merge_whole.proofs.GlobalFits.{short_fits}
use Rattle.merge_whole.proofs.built.constants.number_instr.Goals as goal

short_is : (ty : ValType) → ty ≢ I64 → (k : ℕ) (n : Numbers) → number k ≡ constant_instr n ty (Num k)
short_is I32 other k n = refl
short_is I64 other k n = absurd (other refl)
short_is F32 other k n = refl
short_is F64 other k n = refl
short_is FuncRef other k n = refl
short_is ExternRef other k n = refl

pub short_instr-requires : goal.short_instr-requires
short_instr-requires c = short_fits c.args.ty c.in_default.not-I64 c.args.k c.requires

pub returns-in_default : goal.returns-in_default
returns-in_default c = λ n. c.short_instr.ensures ∙ short_is c.args.ty c.in_default.not-I64 c.args.k n
