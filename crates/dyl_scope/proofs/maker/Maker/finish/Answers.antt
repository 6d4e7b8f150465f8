use Rattle.std.proofs.Common.{◌≡◌, ◌∙◌, ap, sym, subst, map, length}
use Rattle.std.proofs.lemmas.List.{length-map}
use Rattle.dyl_scope.specs.Scopes.{Scopes, AreOf, IsTold, told_value}
use Rattle.dyl_scope.specs.Kept.{names_by}
use Rattle.dyl_scope.proofs.Told.{kept_is}
use Rattle.dyl_scope.proofs.maker.Maker.finish.Goals as goal

members : (c : goal.In_ok-symbols) → map told_value c.as_slice.result.now ≡ c.args.self.now
members c = ap (map told_value) c.as_slice.ensures.value ∙ c.self.view_is

pub returns-clause-exact : goal.returns-clause-exact
returns-clause-exact c = λ S is. subst (AreOf S) (sym c.in_ok-symbols.ensures) (kept_is c.as_slice.result.now S (subst (IsTold S) (sym (members c)) is))

pub returns-clause-count : goal.returns-clause-count
returns-clause-count c =
    let ts = c.as_slice.result.now in
    ap (λ (s : Scopes). length s.names) c.in_ok-symbols.ensures ∙ length-map ts names_by ∙ sym (length-map ts told_value) ∙ ap length (members c)
