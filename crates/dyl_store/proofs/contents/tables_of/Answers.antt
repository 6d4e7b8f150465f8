use Rattle.std.proofs.Common.{◌≡◌, List, [], ◌∷◌, ◌++◌, ◌<◌, length, ap, ◌∙◌, arith, rules}
use Rattle.spec_loading.specs.spec_runtime.Tables.{TableInstance}
use Rattle.spec_loading.specs.Members.{opening_table}
use Rattle.dyl_store.specs.Opening.{tables_of}
use Rattle.dyl_store.proofs.Beginning.{begins_more, begins_all}
use Rattle.dyl_store.proofs.contents.tables_of.Goals as goal

pub loop-m-init : goal.loop-m-init
loop-m-init c =
    let none : c.new-all.result.items ≡ [] = first_of (cc, search rules) in
    c.in_ok-push.ensures.items ∙ ap (λ (ts : List TableInstance). ts ++ c.in_ok-shared.shared ∷ []) none ∙ ap (λ (t : TableInstance). t ∷ []) c.in_ok-shared.ensures

pub loop-m-preserved : goal.loop-m-preserved
loop-m-preserved c =
    let L = c.args.linked.now in
    let inside : c.loop-m.m < length L.set.members = omega (arith, c.loop-m-test.true) in
    begins_more (λ L. opening_table L ∷ []) tables_of L c.loop-m.m _ _ inside c.loop-m.invariant c.in_ok-put_member_tables.ensures

pub returns : goal.returns
returns c =
    let L = c.args.linked.now in
    let all : c.loop-m.m ≡ length L.set.members = omega (arith, c.loop-m-test.false) in
    begins_all (λ L. opening_table L ∷ []) tables_of L c.loop-m.m _ all c.loop-m.invariant
