use Rattle.std.proofs.Common.{◌≡◌, List, ◌<◌, ◌^◌, map, sym, ap, ◌∙◌, subst, arith}
use Rattle.wasm_form.specs.declared.module.Module.{Module}
use Rattle.dyl_addresses.specs.declared.lists.Space.TheVariants.{Tables, Elems, Datas}
use Rattle.dyl_addresses.specs.Lists.{size_in, numbers_end}
use Rattle.dyl_addresses.specs.Globals.{globals_ends}
use Rattle.dyl_addresses.specs.Sets.{module_of}
use Rattle.dyl_addresses.specs.Kept.{KeptAddresses, addresses_with}
use Rattle.dyl_addresses.proofs.Whole.{of_modules}
use Rattle.dyl_addresses.proofs.Ends.{space_ends, globals_end_below}
use Rattle.dyl_addresses.proofs.addresses.kept.Goals as goal

pub global_lists-requires : goal.global_lists-requires
global_lists-requires c =
    let L = c.args.linked.now in
    subst (λ (ws : List Module). globals_ends 1 ws < 2 ^ 32) (sym (of_modules L c.members-members.result.now c.members-members.ensures)) (globals_end_below L c.requires)

pub table_lists-requires : goal.table_lists-requires
table_lists-requires c =
    let L = c.args.linked.now in
    subst (λ (ws : List Module). numbers_end (size_in Tables) 1 ws < 2 ^ 32) (sym (of_modules L c.members-members.result.now c.members-members.ensures)) (space_ends L c.requires Tables 1 (omega arith))

pub numbered-requires : goal.numbered-requires
numbered-requires c =
    let L = c.args.linked.now in
    subst (λ (ws : List Module). numbers_end (size_in Elems) 0 ws < 2 ^ 32) (sym (of_modules L c.members-members.result.now c.members-members.ensures)) (space_ends L c.requires Elems 0 (omega arith))

pub numbered-requires-2 : goal.numbered-requires-2
numbered-requires-2 c =
    let L = c.args.linked.now in
    subst (λ (ws : List Module). numbers_end (size_in Datas) 0 ws < 2 ^ 32) (sym (of_modules L c.members-members.result.now c.members-members.ensures)) (space_ends L c.requires Datas 0 (omega arith))

pub returns : goal.returns
returns c =
    let L = c.args.linked.now in
    let made : KeptAddresses = record {
      globals = c.in_ok-globals.globals.items;
      tables = c.in_ok-tables.tables.items;
      elems = c.in_ok-elems.elems.items;
      datas = c.in_ok-datas.datas.items;
    } in
    let with : made ≡ addresses_with (map module_of c.members-members.result.now) =
    λ i. record { globals = c.in_ok-globals.ensures i; tables = c.in_ok-tables.ensures i; elems = c.in_ok-elems.ensures i; datas = c.in_ok-datas.ensures i } in
    with ∙ ap addresses_with (of_modules L c.members-members.result.now c.members-members.ensures)
