use Rattle.std.proofs.Common.{◌≡◌, Option, sym, subst}
use Rattle.std.specs.Prelude.{IfOk}
use Rattle.spec_linking.specs.Definitions.{Symbol}
use Rattle.dyl_scope.specs.Names.{maybe_symbol}
use Rattle.dyl_scope.proofs.OwnData.{own_at}
use Rattle.dyl_scope.proofs.exports.own_global.Goals as goal

pub returns : goal.returns
returns c =
    subst (λ (x : Option Symbol). IfOk c.data_at.result (λ s. maybe_symbol s ≡ x))
    (sym (own_at c.args.m.now c.args.g c.args.imported.globals c.requires.counted.1 c.if-g-imported.false)) c.data_at.ensures
