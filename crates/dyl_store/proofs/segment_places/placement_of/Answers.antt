use Rattle.std.proofs.Common.{ℕ, List, map, Option, ap, ◌∙◌}
use Rattle.dyl_addresses.specs.Offsets.{number_with}
use Rattle.dyl_store.specs.Placements.{elem_offset, data_offset, own_entry}
use Rattle.dyl_store.proofs.Addressed.{member_wasm}
use Rattle.dyl_store.proofs.Offsets.{placement_is}
use Rattle.dyl_store.proofs.segment_places.placement_of.Goals as goal

pub returns : goal.returns
returns c =
    let L = c.args.linked.now in
    let m = c.args.m in
    let x = c.member.result.now in
    placement_is L m x.checked c.in_ok-bases.bases.items (record { elems = c.in_ok-elems.elems; datas = c.in_ok-datas.datas; slots = c.in_ok-slots.slots }) (member_wasm L m x c.member.ensures) c.requires c.in_ok-bases.ensures
    (c.in_ok-elems.ensures ∙ ap (λ (bs : List (Option ℕ)). map (elem_offset (number_with bs)) x.checked.elems) c.deref.ensures.value)
    (c.in_ok-datas.ensures ∙ ap (λ (bs : List (Option ℕ)). map (data_offset (number_with bs)) x.checked.datas) c.deref-2.ensures.value)
    (c.in_ok-slots.ensures ∙ ap (map (own_entry m)) c.fresh.ensures) c.links.ensures.links c.slots_fit.ensures.slots c.slots_fit.ensures.sizes
