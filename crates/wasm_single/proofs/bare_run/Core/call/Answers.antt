use Rattle.std.proofs.Common.{refl}
use Rattle.std.proofs.lemmas.Result.{IfOk-weaker}
use Rattle.wasm_single.proofs.Calling.{over_view, may_begin, in_range, named_nullary, told_calls}
use Rattle.wasm_single.proofs.bare_run.Core.call.Goals as goal

pub target-r-requires : goal.target-r-requires
target-r-requires c = in_range c.args.self.now c.requires.core c.args.f c.requires.startable

pub begin-requires : goal.begin-requires
begin-requires c κs = (
  (refl, tt),
  (
    over_view c.args.self.now c.requires.core,
    (
      may_begin c.args.self.now.machine c.requires.moving c.requires.clear,
      named_nullary c.args.self.now c.requires.core c.args.f c.requires.startable c.target-r.result c.target-r.ensures,
    ),
  ),
)

pub returns-clause-told : goal.returns-clause-told
returns-clause-told c =
    IfOk-weaker c.begin.result _ _ (λ e t. told_calls c.args.self.now c.requires.core c.args.f c.requires.startable c.target-r.result c.target-r.ensures e c.begin.new.self t.1) c.begin.ensures.told
