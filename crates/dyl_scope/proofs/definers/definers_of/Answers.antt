use Rattle.std.proofs.Common.{◌≡◌, ◌∙◌, [], ap, sym, subst, map, drop}
use Rattle.std.proofs.lemmas.List.{drop_all}
use Rattle.dyl_scope.specs.Kept.{names_by}
use Rattle.dyl_scope.specs.Definers.{with_told, AreDefiners}
use Rattle.dyl_scope.proofs.Noted.{told_definers}
use Rattle.dyl_scope.proofs.definers.definers_of.Goals as goal

pub returns : goal.returns
returns c =
    let members = c.args.members.now in
    let all : drop c.loop-member.member-index members ≡ [] = drop_all c.loop-member.member-index members c.loop-member-test.false in
    let noted : c.loop-member.definers ≡ with_told 0 members [] = ap (λ ts. with_told c.loop-member.m ts c.loop-member.definers) (sym all) ∙ c.loop-member.invariant.noted in
    subst (AreDefiners (map names_by members)) (sym noted) (told_definers members)
