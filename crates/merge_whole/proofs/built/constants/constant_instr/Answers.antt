use Rattle.std.proofs.Common.{sym, ap, subst, ◌∙◌}
use Rattle.merge_index.specs.Kept.{numbers_in}
use Rattle.merge_module.specs.MergedModule.{constant_instr}
use Rattle.merge_whole.specs.GlobalDefs.{FitsIn}
use Rattle.merge_whole.proofs.built.constants.constant_instr.Goals as goal

pub number_instr-requires : goal.number_instr-requires
number_instr-requires c = subst (FitsIn c.args.ty) c.in-Num.is c.requires

pub returns-in-Num : goal.returns-in-Num
returns-in-Num c =
    let n = numbers_in c.args.n.now in
    c.number_instr.ensures n ∙ ap (constant_instr n c.args.ty) (sym c.in-Num.is)
