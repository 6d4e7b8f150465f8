use Rattle.std.proofs.Common.{sym, subst}
use Rattle.merge_whole.specs.GlobalDefs.{FitsIn}
use Rattle.merge_whole.proofs.built.globals.own_global.Goals as goal

pub constant_instr-init-requires : goal.constant_instr-init-requires
constant_instr-init-requires c = subst (FitsIn c.args.g.now.ty.value) (sym c.in_ok-value.ensures) c.requires
