use Rattle.std.proofs.Common.{◌≡◌, ◌∙◌, ◌-◌, ◌<◌, [], ℕ, List, ap, sym, arith, drop, false}
use Rattle.std.proofs.lemmas.List.{drop_all}
use Rattle.spec_linking.specs.Orders.{is_among, Walk, walk_each, entering}
use Rattle.dyl_scope.specs.Orders.{needed_in, walk_by, walk_value}
use Rattle.dyl_scope.proofs.Distinct.{with_new}
use Rattle.dyl_scope.proofs.Walks.{finished}
use Rattle.dyl_scope.proofs.orders.+go_through.Goals as goal

pub returns : goal.returns
returns t c =
    let needs = needed_in c.args.members.now in
    let depth = c.args.depth in
    let m = c.args.m in
    let w : Walk = walk_value c.args.w.now in
    let mid : Walk = record { entered = c.add.new.self; left = c.args.w.now.left.items } in
    let after : Walk = walk_value c.loop-k.w in
    let items = c.needed_in-k-items.result.now in
    let some : 0 < depth = omega arith in
    let new : is_among m w.entered ≡ false = sym c.contains.ensures ∙ c.if-contains.false in
    let first : mid ≡ entering m w = ap (λ (e : List ℕ). record w { entered = e }) (c.in_ok-add.ensures.added ∙ with_new w.entered m new) in
    let all : drop c.loop-k.k-index items ≡ [] = drop_all c.loop-k.k-index items c.loop-k-test.false in
    let gone : after ≡ walk_each (walk_by needs (depth - 1)) items mid = sym (ap (λ l. walk_each (walk_by needs (depth - 1)) l after) all) ∙ c.loop-k.invariant in
    ap (λ (l : List ℕ). record after { left = l }) c.in_ok-push.ensures.items
    ∙ finished needs depth m w mid after items some new first c.needed_in-k-items.ensures gone
