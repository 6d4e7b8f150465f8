use Rattle.std.proofs.Common.{sym, subst}
use Rattle.dyl_addresses.specs.Bases.{AreBases}
use Rattle.dyl_store.specs.declared.constants.Names.{Names}
use Rattle.dyl_store.proofs.Beginning.{adds_globals, on_ok}
use Rattle.dyl_store.proofs.contents.put_own_globals.Goals as goal

pub returns : goal.returns
returns c =
    let L = c.args.linked.now in
    let m = c.args.m in
    let names : Names = record { functions = c.functions_of.result; bases = c.deref.result } in
    on_ok _ (adds_globals L m c.module.result.now c.module.ensures names c.functions_of.ensures (subst (AreBases L m) (sym c.deref.ensures.value) c.in_ok-bases.ensures) c.items.result.now _ _ c.items.ensures) c.put_globals.ensures
