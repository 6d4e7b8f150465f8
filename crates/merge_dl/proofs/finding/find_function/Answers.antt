use Rattle.std.proofs.Common.{[], sym, ap, ◌∙◌}
use Rattle.std.specs.List.{flat_map}
use Rattle.merge_find.specs.Decisions.{search_code}
use Rattle.merge_find.specs.Finding.{number_goal}
use Rattle.merge_dl.specs.Words.{search_type}
use Rattle.merge_dl.specs.Listed.{export_names}
use Rattle.merge_dl.proofs.Making.{part_same}
use Rattle.merge_dl.proofs.Searches.{exports_named}
use Rattle.merge_dl.proofs.finding.find_function.Goals as goal

pub returns : goal.returns
returns c =
    let L = c.args.linked.now in
    let m = c.args.m in
    let names = c.in_ok-names.ensures.names ∙ ap (λ es. flat_map (export_names L m) es) c.items.ensures ∙ sym (exports_named L m c.args.wasm.now.exports) in
    c.part.ensures ∙ part_same _ search_type _ [] _ _ c.in_ok-ty.ensures c.new.ensures.items (c.in_ok-code.ensures ∙ ap (search_code number_goal) names)
