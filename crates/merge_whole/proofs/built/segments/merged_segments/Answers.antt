use Rattle.std.proofs.Common.{◌++◌, ◌∷◌, [], List, ap, ◌∙◌}
use Rattle.std.proofs.lemmas.List.{append_assoc}
use Rattle.wasm_form.specs.declared.module.Elem.{Elem}
use Rattle.wasm_form.specs.declared.module.Data.{Data}
use Rattle.spec_loading.specs.Members.{from_members}
use Rattle.merge_index.specs.Kept.{numbers_in}
use Rattle.merge_module.specs.MergedModule.{renumbered_elems, slots_elem, outside_elem, declared_elem, texts_segment}
use Rattle.merge_whole.proofs.built.segments.merged_segments.Goals as goal

pub returns-in-Ok : goal.returns-in-Ok
returns-in-Ok c =
    let L = c.args.linked.now in
    let n = numbers_in c.args.n.now in
    let parts = c.in_ok-parts.ensures.renumbered n c.requires in
    record {
      elems =
          c.of.ensures
          ∙ c.in-Ok.ensures.elems
          ∙ ap (λ (l : List Elem). l ++ outside_elem L n ∷ declared_elem L n ∷ []) (c.into_vec-elems.ensures ∙ parts.elems)
          ∙ append_assoc (from_members (renumbered_elems n) 0 L.set.members) (from_members (λ m wasm. slots_elem L n m ∷ []) 0 L.set.members) (outside_elem L n ∷ declared_elem L n ∷ []);
      datas = c.of-in-Ok.ensures ∙ c.in-Ok.ensures.datas ∙ ap (λ (l : List Data). l ++ texts_segment L ∷ []) (c.into_vec-datas.ensures ∙ parts.datas);
    }
