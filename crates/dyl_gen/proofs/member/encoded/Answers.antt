use Rattle.std.proofs.Common.{refl, arith}
use Rattle.dyl_gen.proofs.member.encoded.Goals as goal

pub unreachable-requires : goal.unreachable-requires
unreachable-requires c =
    c.light_modules_fit.ensures c.args.«module».now (let light = c.requires.light in omega arith) _
    ((rw c.in-Err-SectionSize.field-0-is at c.in-Err-SectionSize.ensures.too_long) _ refl)
