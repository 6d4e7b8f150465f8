use Rattle.std.proofs.Common.{◌≡◌, List, sym, ap, ◌∙◌, true, subst, ◌++◌}
use Rattle.std.specs.List.{list_all}
use Rattle.wasm_form.specs.declared.types.TableType.{TableType}
use Rattle.wasm_form.specs.declared.module.Module.{Module}
use Rattle.spec_loading.specs.spec_runtime.Tables.{TableInstance}
use Rattle.spec_loading.specs.spec_validation.Faults.{fault, table_bounded}
use Rattle.spec_loading.proofs.of_spec_validation.Parts.{parts_fit}
use Rattle.spec_loading.specs.spec_execution.OneModule.{opened_table}
use Rattle.dyl_store.proofs.Beginning.{adds_part}
use Rattle.dyl_store.proofs.contents.put_member_tables.Goals as goal
use Rattle.dyl_store.proofs.Addressed.{member_wasm}

pub tables_of-requires : goal.tables_of-requires
tables_of-requires c =
    let fits : list_all table_bounded c.module-wasm.result.now.tables ≡ true =
    (parts_fit c.module-wasm.result.now (ap (λ (w : Module). fault w) c.module-wasm.ensures.same ∙ c.module-wasm.ensures.valid)).tables in
    subst (λ (ts : List TableType). list_all table_bounded ts ≡ true) (sym c.items.ensures) fits

pub returns : goal.returns
returns c =
    let x = c.member.result.now in
    adds_part c.args.linked.now c.args.m x.checked (member_wasm c.args.linked.now c.args.m x c.member.ensures) opened_table (λ w. w.tables) c.items.result.now _ _ (c.items.ensures ∙ ap (λ (w : Module). w.tables) c.module-wasm.ensures.same)
    (c.in_ok-append.ensures.items ∙ ap (λ (ts : List TableInstance). c.args.to.now.items ++ ts) c.in_ok-own.ensures)
