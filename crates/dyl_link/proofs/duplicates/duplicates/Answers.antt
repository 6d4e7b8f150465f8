use Rattle.std.proofs.Common.{rules, ◌≡◌, ◌∙◌, ◌<◌, ◌+◌, ◌++◌, ◌∷◌, [], List, ℕ, length, get_or, take, drop, ap, ap₂, sym, subst, arith}
use Rattle.std.proofs.lemmas.List.{length-map}
use Rattle.wasm_form.specs.declared.module.Export.{Export}
use Rattle.spec_loading.specs.spec_linking.Links.{◌or_else◌, first_fault, duplicate_of, duplicates_from}
use Rattle.dyl_slots.specs.dyl_search.Gathers.{member_of}
use Rattle.dyl_link.specs.Answers.{Tells}
use Rattle.dyl_link.specs.Duplicates.{duplicate_by}
use Rattle.dyl_link.proofs.OneMore.{member_here, duplicates_step}
use Rattle.dyl_link.proofs.Definers.{duplicates_exact, range_more}
use Rattle.dyl_link.proofs.duplicates.duplicates.Goals as goal

pub returns-in_err-duplicates_of : goal.returns-in_err-duplicates_of
returns-in_err-duplicates_of c = λ S of set e.
    let members = c.args.members.now in
    let m = c.loop-m.m in
    let x = c.index-members-m.result in
    let less : m < length members = omega arith in
    let at : x ≡ get_or members m x = cc in
    let count : length S.members ≡ length members = ap length e ∙ length-map members member_of in
    let same : first_fault (duplicate_by S c.deref.result.now m) c.items-exports.result.now ≡ first_fault (duplicate_of (take m S.members) m x.checked) x.checked.exports =
    ap₂ (λ (earlier : List ℕ) (exports : List Export). first_fault (duplicate_by S earlier m) exports) (c.deref.ensures.value ∙ c.loop-m.invariant.earlier) (c.items-exports.ensures ∙ ap (λ w. w.exports) (c.module.ensures.same ∙ ap (λ y. y.checked) (sym at)))
    ∙ duplicates_exact S m (member_of x) set (member_here S.members members m x e less at) (omega arith) in
    let first = c.in_err-duplicates_of.ensures S of in
    let step : duplicates_from S.members 0 S.members ≡ (first_fault (duplicate_by S c.deref.result.now m) c.items-exports.result.now or_else duplicates_from S.members (m + 1) (drop (m + 1) S.members)) =
    sym (c.loop-m.invariant.rest S of set e) ∙ duplicates_step S.members members m x e less at ∙ ap (λ f. f or_else duplicates_from S.members (m + 1) (drop (m + 1) S.members)) (sym same) in
    subst (Tells c.from_residual.result) (sym step) (search (rules, first))

pub loop-m-preserved : goal.loop-m-preserved
loop-m-preserved c = record {
  earlier = c.in_ok-add.ensures ∙ ap (λ (l : List ℕ). l ++ c.loop-m.m ∷ []) c.loop-m.invariant.earlier ∙ sym (range_more c.loop-m.m);
  rest = λ S of set e.
      let members = c.args.members.now in
      let m = c.loop-m.m in
      let x = c.index-members-m.result in
      let less : m < length members = omega arith in
      let at : x ≡ get_or members m x = cc in
      let count : length S.members ≡ length members = ap length e ∙ length-map members member_of in
      let same : first_fault (duplicate_by S c.deref.result.now m) c.items-exports.result.now ≡ first_fault (duplicate_of (take m S.members) m x.checked) x.checked.exports =
      ap₂ (λ (earlier : List ℕ) (exports : List Export). first_fault (duplicate_by S earlier m) exports) (c.deref.ensures.value ∙ c.loop-m.invariant.earlier) (c.items-exports.ensures ∙ ap (λ w. w.exports) (c.module.ensures.same ∙ ap (λ y. y.checked) (sym at)))
      ∙ duplicates_exact S m (member_of x) set (member_here S.members members m x e less at) (omega arith) in
      sym (duplicates_step S.members members m x e less at ∙ ap (λ f. f or_else duplicates_from S.members (m + 1) (drop (m + 1) S.members)) (sym same ∙ c.in_ok-duplicates_of.ensures S of))
      ∙ c.loop-m.invariant.rest S of set e;
}
