use Rattle.std.proofs.Common.{ℕ, Option, subst}
use Rattle.std.specs.Prelude.{IfSome}
use Rattle.wasm_form.specs.declared.runtime.Ref.{Ref}
use Rattle.spec_execution.specs.spec_runtime.Constants.{constant_of, numbered_globals}
use Rattle.wasm_check.specs.declared.value.Constant.{Constant}
use Rattle.wasm_check.specs.Constants.{StandsFor, IsOfType}
use Rattle.wasm_check.proofs.ConstantTypes.{has_value, of_types}
use Rattle.wasm_check.proofs.evaluation.constant.Goals as goal

pub unwrap-requires : goal.unwrap-requires
unwrap-requires c =
    has_value c.args.m.now c.args.imported.now c.requires.numbers c.in_ok-value.value c.args.e.now c.in_ok-value.ensures.value c.requires.typed.0 c.requires.typed.1

pub returns-clause-value : goal.returns-clause-value
returns-clause-value c =
    subst (λ (k : Option Constant). StandsFor k (λ (functions : ℕ → Option Ref). constant_of functions (numbered_globals c.args.imported.now) c.args.e.now)) c.unwrap.ensures c.in_ok-value.ensures.value

pub returns-clause-typed : goal.returns-clause-typed
returns-clause-typed c = λ t typed given.
    subst (λ (k : Option Constant). IfSome k (IsOfType c.args.m.now t)) c.unwrap.ensures
    (c.in_ok-value.ensures.typed c.args.m.now t typed (of_types c.args.m.now c.args.imported.now given t))
