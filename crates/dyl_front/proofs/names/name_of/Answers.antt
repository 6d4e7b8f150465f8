use Rattle.std.proofs.Common.{◌≡◌, ◌∙◌, ◌<◌, [], None, ap, sym, length, unwrap_or, arith}
use Rattle.std.specs.List.{position_from}
use Rattle.std.specs.Option.{option_map}
use Rattle.spec_merging.specs.wasm_form.declared.module.Export.{Export}
use Rattle.dyl_front.specs.Listing.{is_name_of}
use Rattle.dyl_front.specs.Named.{name_placed}
use Rattle.dyl_front.proofs.FirstNames.{find_placed}
use Rattle.dyl_front.proofs.names.name_of.Goals as goal

pub returns-in-Some : goal.returns-in-Some
returns-in-Some c =
    let exports = c.args.exports.now in
    let f = c.args.f in
    let inside : f < length c.args.firsts.now = c.in-Some.ensures.lookup.3.0 in
    let first : c.in-Some.place.now ≡ position_from (is_name_of f) 0 exports = c.in-Some.ensures.lookup.4 (omega arith) None ∙ c.requires f inside in
    c.name_at.ensures
    ∙ ap (name_placed exports) first
    ∙ ap (λ o. unwrap_or (option_map (λ (e : Export). e.name) o) []) (sym (find_placed (is_name_of f) exports))
