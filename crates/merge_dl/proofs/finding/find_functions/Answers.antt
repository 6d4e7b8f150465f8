use Rattle.std.proofs.Common.{◌≡◌, ◌++◌, List, ap, ◌∙◌}
use Rattle.wasm_form.specs.declared.module.Part.{Part}
use Rattle.spec_loading.specs.Members.{from_members}
use Rattle.merge_dl.specs.Listed.{find_parts}
use Rattle.merge_dl.proofs.Called.{searches_work}
use Rattle.merge_dl.proofs.finding.find_functions.Goals as goal

pub returns-in-Ok : goal.returns-in-Ok
returns-in-Ok c =
    let L = c.args.linked.now in
    let code : c.of.result ≡ from_members (find_parts L) 0 L.set.members =
    c.of.ensures ∙ c.in-Ok.ensures ∙ ap (λ (l : List Part). l ++ from_members (find_parts L) 0 L.set.members) c.new-parts.ensures.items in
    record {
      code = code;
      works = searches_work L c.of.result code c.searches_find.ensures.soon c.exports_are_texts.ensures.texts c.exports_are_texts.ensures.apart
          c.searches_are_typed.ensures.body c.links.ensures.shape c.links.ensures.links;
    }
