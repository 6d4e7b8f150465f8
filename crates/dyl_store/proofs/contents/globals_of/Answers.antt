use Rattle.std.proofs.Common.{◌≡◌, ℕ, List, [], ◌∷◌, ◌++◌, ◌<◌, length, ap, ◌∙◌, arith, rules}
use Rattle.wasm_form.specs.declared.runtime.Value.{Value}
use Rattle.wasm_form.specs.declared.runtime.Value.TheVariants.{Num}
use Rattle.spec_loading.specs.spec_linking.Plans.{Plan}
use Rattle.spec_loading.specs.spec_linking.Slots.{linked_plan}
use Rattle.spec_loading.specs.Members.{opened_globals}
use Rattle.dyl_store.proofs.Beginning.{begins_more, begins_all}
use Rattle.dyl_store.proofs.contents.globals_of.Goals as goal

pub loop-m-init : goal.loop-m-init
loop-m-init c =
    let none : c.new-all.result.items ≡ [] = first_of (cc, search rules) in
    let top : c.from.result ≡ c.stack_top.result = omega arith in
    c.in_ok-push.ensures.items
    ∙ ap (λ (vs : List Value). vs ++ Num c.from.result ∷ []) none
    ∙ ap (λ (n : ℕ). Num n ∷ []) (top ∙ c.stack_top.ensures ∙ ap (λ (p : Plan). p.stack_top) c.plan.ensures)

pub loop-m-preserved : goal.loop-m-preserved
loop-m-preserved c =
    let L = c.args.linked.now in
    let inside : c.loop-m.m < length L.set.members = omega (arith, c.loop-m-test.true) in
    begins_more (λ L. Num (linked_plan L).stack_top ∷ []) opened_globals L c.loop-m.m _ _ inside c.loop-m.invariant c.in_ok-put_member_globals.ensures

pub returns : goal.returns
returns c =
    let L = c.args.linked.now in
    let all : c.loop-m.m ≡ length L.set.members = omega (arith, c.loop-m-test.false) in
    begins_all (λ L. Num (linked_plan L).stack_top ∷ []) opened_globals L c.loop-m.m _ all c.loop-m.invariant
