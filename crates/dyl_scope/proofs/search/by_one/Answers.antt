use Rattle.std.proofs.Common.{◌≡◌, ◌∙◌, ap, sym, cond, true, false}
use Rattle.spec_linking.specs.Definitions.{Undefined}
use Rattle.spec_linking.specs.Orders.{is_among}
use Rattle.dyl_scope.specs.Scopes.{by_member}
use Rattle.dyl_scope.proofs.Noted.{one_first}
use Rattle.dyl_scope.proofs.search.by_one.Goals as goal

pub returns-then-contains-clause-meaning : goal.returns-then-contains-clause-meaning
returns-then-contains-clause-meaning c =
    let there : is_among c.args.definer c.args.members.now ≡ true = sym c.contains.ensures ∙ c.if-contains.true in
    c.by_member.ensures.meaning
    ∙ sym (one_first c.args.names.now c.args.name.now c.args.definer c.requires c.args.members.now
    ∙ ap (λ b. cond b (by_member c.args.names.now c.args.definer c.args.name.now) Undefined) there)

pub returns-else-contains-clause-meaning : goal.returns-else-contains-clause-meaning
returns-else-contains-clause-meaning c =
    let none : is_among c.args.definer c.args.members.now ≡ false = sym c.contains.ensures ∙ c.if-contains.false in
    sym (one_first c.args.names.now c.args.name.now c.args.definer c.requires c.args.members.now
    ∙ ap (λ b. cond b (by_member c.args.names.now c.args.definer c.args.name.now) Undefined) none)
