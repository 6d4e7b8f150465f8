use Rattle.std.proofs.Common.{refl, ◌≡◌, ◌∙◌, ◌+◌, ◌++◌, ◌∷◌, [], List, length, map, ap, sym, append_assoc, length-append, arith}
use Rattle.std.specs.List.{range_with_len}
use Rattle.std.proofs.lemmas.List.FromFn.{map-range_with_len_more}
use Rattle.std.proofs.lemmas.Grind.{common_steps}
use Rattle.wasm_form.specs.declared.runtime.Ref.{Ref}
use Rattle.wasm_form.specs.declared.runtime.Ref.TheVariants.{Own}
use Rattle.dyl_imports.proofs.own.add_own.Goals as goal

pub loop-k-preserved : goal.loop-k-preserved
loop-k-preserved c =
    let old : List Ref = c.args.refs.now.items in
    let first = length old in
    let k = c.loop-k.k in
    let so_far = c.loop-k.invariant.many in
    let func : c.len-func.result ≡ first + k = grind (arith, common_steps, so_far) in
    let pushed = c.in_ok-push.ensures.items in
    record {
      items =
          pushed
          ∙ (λ i. c.loop-k.invariant.items i ++ Own c.args.m (func i) ∷ [])
          ∙ append_assoc old (map (Own c.args.m) (range_with_len first k)) (Own c.args.m (first + k) ∷ [])
          ∙ ap (λ (r : List Ref). old ++ r) (sym (map-range_with_len_more (Own c.args.m) first k (first + k) refl));
      many = ap length pushed ∙ length-append c.loop-k.refs.items (Own c.args.m c.len-func.result ∷ []) ∙ grind (arith, so_far);
    }
