use Rattle.std.proofs.Common.{[], ◌∷◌, sym, subst, ◌∙◌}
use Rattle.merge_dl.specs.Words.{unary_type, one_i32, length_code}
use Rattle.merge_dl.specs.Called.{IsLengthPart}
use Rattle.merge_dl.proofs.Making.{part_same}
use Rattle.merge_dl.proofs.Called.{length_works}
use Rattle.merge_dl.proofs.strings.length_function.Goals as goal

pub returns-clause-works : goal.returns-clause-works
returns-clause-works c =
    subst IsLengthPart
    (sym (c.part.ensures
    ∙ part_same c.in_ok-ty.ty unary_type c.in_ok-locals.locals.items (one_i32 ∷ []) c.in_ok-code.code.items length_code
    c.in_ok-ty.ensures c.in_ok-locals.ensures c.in_ok-code.ensures))
    length_works
