use Rattle.std.proofs.Common.{◌≡◌, ◌≤◌, ◌+◌, List, [], ◌∷◌, ◌++◌, length, ap, ◌∙◌, refl, arith}
use Rattle.wasm_form.specs.declared.module.Elem.{Elem}
use Rattle.wasm_form.specs.declared.module.Module.{Module}
use Rattle.spec_loading.specs.spec_binary.IndexSpaces.{function_space}
use Rattle.dyl_link.specs.dyl_search.Gathers.{member_of}
use Rattle.merge_start.specs.Passive.{fresh_elems}
use Rattle.merge_start.proofs.Made.{next_sum, next_made}
use Rattle.merge_start.proofs.Items.{few_functions, fresh_is}
use Rattle.merge_start.proofs.passive.slots_elems.Goals as goal

pub listed_elem-requires : goal.listed_elem-requires
listed_elem-requires c =
    let few : c.loop-m.m ≤ 256 = omega (arith, c.loop-m-test.true, c.member_count-m-end.ensures.few) in
    let within = c.loop-m.invariant.within in
    let all = few_functions _ c.module.ensures.formed in
    let same = c.function_count.ensures ∙ ap (λ (w : Module). length (function_space w)) c.module.ensures.same in
    omega (arith, all, same, few, within)

pub overflow_add-at : goal.overflow_add-at
overflow_add-at c =
    let few : c.loop-m.m ≤ 256 = omega (arith, c.loop-m-test.true, c.member_count-m-end.ensures.few) in
    let within = c.loop-m.invariant.within in
    let all = few_functions _ c.module.ensures.formed in
    let same = c.function_count.ensures ∙ ap (λ (w : Module). length (function_space w)) c.module.ensures.same in
    omega (arith, all, same, few, within)

pub loop-m-preserved : goal.loop-m-preserved
loop-m-preserved c =
    let L = c.args.linked.now in
    let m = c.loop-m.m in
    let x = member_of c.member.result.now in
    let wasm : c.module.result.now ≡ x.wasm = c.module.ensures.same in
    let count : c.function_count.result ≡ length (function_space x.wasm) =
    c.function_count.ensures ∙ ap (λ (w : Module). length (function_space w)) wasm in
    let all = few_functions _ c.module.ensures.formed in
    let low = c.loop-m.invariant.within in
    let own = fresh_is L c.args.n.now m x.wasm c.items.result.now c.loop-m.at c.function_count.result c.items.ensures
    c.loop-m.invariant.at count c.fresh.result.now c.fresh.ensures in
    record {
      made = next_made L m x c.member.ensures (fresh_elems L c.args.n.now) c.loop-m.list.items (fresh_elems L c.args.n.now m x.wasm) c.push.new.self.items _
          c.loop-m.invariant.made refl
          (c.in_ok-push.ensures.items ∙ ap (λ (l : List Elem). c.loop-m.list.items ++ l) (ap (λ (e : Elem). e ∷ []) c.in_ok-one.ensures ∙ own));
      at = ap (λ n. c.loop-m.at + n) count ∙ next_sum L m x c.member.ensures (λ w. length (function_space w)) c.loop-m.at c.loop-m.invariant.at;
      within = omega (arith, all, count, low);
    }
