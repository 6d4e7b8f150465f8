use Rattle.std.proofs.Common.{◌≡◌, ℕ, List, [], ◌∷◌, ◌++◌, ap, ap₂, ◌∙◌, arith}
use Rattle.wasm_form.specs.declared.runtime.Value.{Value}
use Rattle.wasm_form.specs.declared.runtime.Value.TheVariants.{Num}
use Rattle.dyl_store.proofs.Beginning.{adds_bases}
use Rattle.dyl_store.proofs.contents.put_bases.Goals as goal

pub returns : goal.returns
returns c =
    let one : c.from.result ≡ c.memory_base-memory.result = omega arith in
    let two : c.from-2.result ≡ c.table_base-table.result = omega arith in
    adds_bases c.args.linked.now c.args.m c.memory_base-memory.result c.table_base-table.result _ _ c.memory_base-memory.ensures c.table_base-table.ensures
    (c.in_ok-push-2.ensures.items ∙ ap₂ (λ (l : List Value) (n : ℕ). l ++ Num n ∷ []) (c.in_ok-push.ensures.items ∙ ap (λ (n : ℕ). c.args.to.now.items ++ Num n ∷ []) one) two)
