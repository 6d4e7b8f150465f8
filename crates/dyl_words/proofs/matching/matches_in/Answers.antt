use Rattle.std.proofs.Common.{rules, ◌≡◌, ◌∙◌, ap, subst, map, string_bytes, IfOk}
use Rattle.clap.specs.Words.{app_of, fault_of, HasMatchesOf, is_simple_and_free}
use Rattle.clap.specs.Kinds.{FailsBy}
use Rattle.dyl_words.specs.Clap.{app}
use Rattle.dyl_words.proofs.Rules.{simple}
use Rattle.dyl_words.proofs.Commands.{by_kinds, passes_by, rows_by}
use Rattle.dyl_words.proofs.matching.matches_in.Goals as goal

pub returns-clause-fails : goal.returns-clause-fails
returns-clause-fails c =
    let is : app_of c.in_ok-whole.whole ≡ app c.args.command = search rules in
    by_kinds c.try_get_matches_from.result _ (subst (λ a. FailsBy (fault_of a (map string_bytes c.args.words.now)) c.try_get_matches_from.result) is
    (c.try_get_matches_from.ensures.kinds (ap is_simple_and_free is ∙ simple c.args.command)))

pub returns-clause-passes : goal.returns-clause-passes
returns-clause-passes c =
    let is : app_of c.in_ok-whole.whole ≡ app c.args.command = search rules in
    passes_by c.try_get_matches_from.result _ (subst (λ a. FailsBy (fault_of a (map string_bytes c.args.words.now)) c.try_get_matches_from.result) is
    (c.try_get_matches_from.ensures.kinds (ap is_simple_and_free is ∙ simple c.args.command)))

pub returns-clause-rows : goal.returns-clause-rows
returns-clause-rows c =
    let is : app_of c.in_ok-whole.whole ≡ app c.args.command = search rules in
    rows_by c.args.command c.try_get_matches_from.result (map string_bytes c.args.words.now)
    (subst (λ a. IfOk c.try_get_matches_from.result (HasMatchesOf a (map string_bytes c.args.words.now))) is c.try_get_matches_from.ensures.matches)
