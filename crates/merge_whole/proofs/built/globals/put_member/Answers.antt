use Rattle.std.proofs.Common.{◌≡◌, ℕ, Option, unwrap_or, List, sym, ap, ap₂, subst, ◌∙◌}
use Rattle.wasm_form.specs.declared.module.GlobalDef.{GlobalDef}
use Rattle.merge_index.specs.Kept.{numbers_in}
use Rattle.dyl_addresses.specs.Bases.{bases_from}
use Rattle.merge_whole.specs.GlobalDefs.{AreFit, bases_by}
use Rattle.merge_whole.proofs.GlobalLists.{member_put}
use Rattle.merge_whole.proofs.built.globals.put_member.Goals as goal

pub returns : goal.returns
returns c =
    let memory = c.memory_base-memory.result in
    let table = c.table_base-table.result in
    member_put c.args.linked.now (numbers_in c.args.n.now) c.args.m c.args.wasm.now memory table
    c.memory_base-memory.ensures c.table_base-table.ensures
    c.as_slice.result.now (c.as_slice.ensures.value ∙ c.in_ok-bases.ensures ∙ ap (bases_from memory table) c.items.ensures)
    c.items-2.result.now c.items-2.ensures
    c.items-3.result.now c.items-3.ensures
    c.args.to.now.items _ _ _ _ _ _
    c.in_ok-number_global.ensures c.in_ok-number_global-2.ensures
    c.in_ok-push.ensures.items c.in_ok-push-2.ensures.items c.in_ok-put_cells.ensures c.in_ok-put_own.ensures

pub put_own-requires : goal.put_own-requires
put_own-requires c =
    let L = c.args.linked.now in
    let m = c.args.m in
    let wasm = c.args.wasm.now in
    let bases : c.as_slice.result.now ≡ bases_by L m wasm =
    c.as_slice.ensures.value ∙ c.in_ok-bases.ensures ∙ ap (bases_from c.memory_base-memory.result c.table_base-table.result) c.items.ensures
    ∙ ap₂ (λ a b. bases_from a b wasm.imports) (sym (ap (λ (o : Option ℕ). unwrap_or o 0) c.memory_base-memory.ensures)) (sym (ap (λ (o : Option ℕ). unwrap_or o 0) c.table_base-table.ensures)) in
    let own : AreFit L (bases_by L m wasm) m c.items-3.result.now = subst (λ (gs : List GlobalDef). AreFit L (bases_by L m wasm) m gs) (sym c.items-3.ensures) c.requires.fit in
    subst (λ bs. AreFit L bs m c.items-3.result.now) (sym bases) own
