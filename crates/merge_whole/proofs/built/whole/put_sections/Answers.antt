use Rattle.std.proofs.Common.{◌≡◌, length, arith, sym, ap, subst, ◌∙◌}
use Rattle.merge_start.specs.Listed.{AreListed}
use Rattle.merge_index.specs.Numbering.{starts_of}
use Rattle.merge_module.specs.MergedModule.{merged_funcs, entry_exports, merged_codes}
use Rattle.merge_whole.proofs.BuiltWhole.{starting_is, whole_is}
use Rattle.merge_whole.proofs.HostUses.{nullary_few}
use Rattle.merge_whole.proofs.FewNumbers.{datas_few}
use Rattle.merge_whole.proofs.built.whole.put_sections.Goals as goal

pub merged_imports-requires : goal.merged_imports-requires
merged_imports-requires c = c.requires.given.numbers

pub merged_funcs-requires : goal.merged_funcs-requires
merged_funcs-requires c = record { types = nullary_few c.args.linked.now c.links.ensures.shape }

pub overflow_cast-count : goal.overflow_cast-count
overflow_cast-count c =
    let items = ap length c.items.ensures in
    let same = ap length c.requires.given.datas in
    let few = datas_few c.args.linked.now c.links.ensures.shape in
    omega arith

pub returns : goal.returns
returns c =
    let L = c.args.linked.now in
    let g = c.requires.given in
    let s = c.args.starts.now in
    let count : length c.items.result.now ≡ length c.args.to.now.datas = ap length c.items.ensures in
    whole_is L _ _ _ _ _ _ _ _ _ _ _ _ _
    c.in_ok-types.ensures
    c.in_ok-imports.ensures.imports
    (c.in_ok-funcs.ensures ∙ ap (merged_funcs L) g.numbers)
    c.in_ok-tables.ensures
    c.in_ok-memories.ensures
    g.globals
    (c.in_ok-exports.ensures ∙ ap entry_exports (starting_is L s g.listed _ c.starting-starting.ensures))
    g.elems
    count
    (c.in_ok-codes.ensures (starts_of L) (subst (λ n. AreListed L s n (starts_of L)) (sym g.numbers) g.listed) g.loader
    ∙ ap (λ n. merged_codes L n (starts_of L)) g.numbers)
    g.datas
    c.requires.customs
    c.requires.start
