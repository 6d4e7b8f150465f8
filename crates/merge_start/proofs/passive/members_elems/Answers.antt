use Rattle.std.proofs.Common.{◌≡◌, ◌≤◌, ◌+◌, List, ◌++◌, length, sym, ap, subst, ◌∙◌, refl, arith}
use Rattle.std.specs.List.{All}
use Rattle.wasm_form.specs.declared.module.Elem.{Elem}
use Rattle.wasm_form.specs.declared.module.Module.{Module}
use Rattle.spec_loading.specs.spec_binary.IndexSpaces.{function_space}
use Rattle.spec_loading.specs.spec_validation.Faults.{fault}
use Rattle.dyl_link.specs.dyl_search.Gathers.{member_of}
use Rattle.merge_start.specs.Passive.{AreItems, own_elems}
use Rattle.merge_start.proofs.Made.{next_sum, next_made}
use Rattle.merge_start.proofs.Items.{elems_are, few_functions, own_is}
use Rattle.merge_start.proofs.passive.members_elems.Goals as goal

pub put_passive-requires-clause-fits : goal.put_passive-requires-clause-fits
put_passive-requires-clause-fits c =
    let few : c.loop-m.m ≤ 256 = omega (arith, c.loop-m-test.true, c.member_count-m-end.ensures.few) in
    let within = c.loop-m.invariant.within in
    let all = few_functions _ c.module-wasm.ensures.formed in
    let same = c.function_count.ensures ∙ ap (λ (w : Module). length (function_space w)) c.module-wasm.ensures.same in
    omega (arith, all, same, few, within)

pub put_passive-requires-clause-all : goal.put_passive-requires-clause-all
put_passive-requires-clause-all c =
    subst (λ (es : List Elem). All (λ (e : Elem). AreItems e.items) es) (sym c.items-in-loop-m.ensures)
    (elems_are c.module-wasm.result.now (ap (λ (w : Module). fault w) c.module-wasm.ensures.same ∙ c.module-wasm.ensures.valid))

pub overflow_add-at : goal.overflow_add-at
overflow_add-at c =
    let few : c.loop-m.m ≤ 256 = omega (arith, c.loop-m-test.true, c.member_count-m-end.ensures.few) in
    let within = c.loop-m.invariant.within in
    let all = few_functions _ c.module-wasm.ensures.formed in
    let same = c.function_count.ensures ∙ ap (λ (w : Module). length (function_space w)) c.module-wasm.ensures.same in
    omega (arith, all, same, few, within)

pub loop-m-preserved : goal.loop-m-preserved
loop-m-preserved c =
    let L = c.args.linked.now in
    let m = c.loop-m.m in
    let x = member_of c.member.result.now in
    let wasm : c.module-wasm.result.now ≡ x.wasm = c.module-wasm.ensures.same in
    let count : c.function_count.result ≡ length (function_space x.wasm) =
    c.function_count.ensures ∙ ap (λ (w : Module). length (function_space w)) wasm in
    let all = few_functions _ c.module-wasm.ensures.formed in
    let low = c.loop-m.invariant.within in
    let own = own_is L c.args.n.now m x.wasm c.items.result.now c.loop-m.at c.function_count.result c.items.ensures
    c.loop-m.invariant.at count c.items-in-loop-m.result.now (c.items-in-loop-m.ensures ∙ ap (λ (w : Module). w.elems) wasm) in
    record {
      made = next_made L m x c.member.ensures (own_elems L c.args.n.now) c.loop-m.list.items (own_elems L c.args.n.now m x.wasm) c.put_passive.new.to.items _
          c.loop-m.invariant.made refl (c.in_ok-put_passive.ensures ∙ ap (λ (l : List Elem). c.loop-m.list.items ++ l) own);
      at = ap (λ n. c.loop-m.at + n) count ∙ next_sum L m x c.member.ensures (λ w. length (function_space w)) c.loop-m.at c.loop-m.invariant.at;
      within = omega (arith, all, count, low);
    }
