use Rattle.std.proofs.Common.{◌≡◌, length, refl, ap, ◌∙◌, arith}
use Rattle.wasm_form.specs.declared.module.Module.{Module}
use Rattle.spec_loading.specs.spec_binary.IndexSpaces.{imported_count, global_space, table_space}
use Rattle.dyl_link.specs.dyl_search.Gathers.{member_of}
use Rattle.dyl_addresses.proofs.Ends.{member_within}
use Rattle.dyl_store.specs.Opening.{global_place, table_place, first_of}
use Rattle.dyl_store.proofs.Addressed.{member_wasm, unit_is}
use Rattle.dyl_store.proofs.opened_members.unit_of.Goals as goal

pub returns : goal.returns
returns c =
    let L = c.args.linked.now in
    let m = c.args.m in
    let x = c.member.result.now in
    let same : c.module-wasm.result.now ≡ x.checked = c.module-wasm.ensures.same in
    unit_is L c.args.addresses.now c.requires.addresses m x.checked (member_wasm L m x c.member.ensures) _ refl (c.function_count-imported.ensures ∙ ap imported_count same) c.in_ok-rooms.ensures
    (c.in_ok-globals.ensures ∙ ap (λ (w : Module). first_of (global_place c.args.addresses.now m) (length (global_space w))) same)
    (c.in_ok-tables.ensures ∙ ap (λ (w : Module). first_of (table_place c.args.addresses.now m) (length (table_space w))) same) (search) (search)

pub function_count-imported-requires : goal.function_count-imported-requires
function_count-imported-requires c =
    let few = (member_within c.args.linked.now c.links.ensures.shape c.args.m (member_of c.member.result.now) c.member.ensures).all in
    let imports = ap (λ (w : Module). length w.imports) c.module-wasm.ensures.same in
    omega (arith, few, imports)

pub global_addresses-requires : goal.global_addresses-requires
global_addresses-requires c =
    let few = (member_within c.args.linked.now c.links.ensures.shape c.args.m (member_of c.member.result.now) c.member.ensures).all in
    let imports = ap (λ (w : Module). length w.imports) c.module-wasm.ensures.same in
    let own = ap (λ (w : Module). length w.globals) c.module-wasm.ensures.same in
    omega (arith, few, imports, own)

pub table_addresses-requires : goal.table_addresses-requires
table_addresses-requires c =
    let few = (member_within c.args.linked.now c.links.ensures.shape c.args.m (member_of c.member.result.now) c.member.ensures).all in
    let imports = ap (λ (w : Module). length w.imports) c.module-wasm.ensures.same in
    let own = ap (λ (w : Module). length w.tables) c.module-wasm.ensures.same in
    omega (arith, few, imports, own)
