use Rattle.std.proofs.Common.{◌≡◌, ◌∙◌, ◌<◌, ℕ, ap, sym, arith, length, get_or, None, map, Option}
use Rattle.wasm_form.specs.declared.runtime.Ref.{Ref}
use Rattle.wasm_form.specs.declared.runtime.Ref.TheVariants.{Own}
use Rattle.spec_loading.specs.spec_linking.Slots.{all_applied, index_of, nowhere}
use Rattle.spec_loading.specs.spec_linking.Definitions.{or_other}
use Rattle.dyl_slots.specs.Regions.{placing_value, IsRegion, first_left}
use Rattle.dyl_slots.proofs.Applied.{index_in_region, whole}
use Rattle.dyl_slots.proofs.regions.segment_slots.Goals as goal

pub returns-clause-first : goal.returns-clause-first
returns-clause-first c = λ f inside.
    let base = c.args.base in
    let table : ℕ → Option Ref = all_applied nowhere (map placing_value c.args.placings.now) in
    let region = c.apply_all.new.region in
    let had = c.in_ok-region.region.items in
    let long : length had ≡ c.args.size = c.in_ok-region.ensures.length in
    let kept : length region ≡ length had = c.apply_all.auto.region ∙ ap length c.deref_mut.ensures.value in
    let size : c.in_ok-region.region.len ≡ length had = omega (arith, c.in_ok-region.region.ok.0) in
    let start : IsRegion c.deref_mut.result.now base nowhere = λ k h. ap (λ r. get_or r k None) c.deref_mut.ensures.value ∙ c.in_ok-region.ensures.nulls k in
    let placed : IsRegion region base table = c.apply_all.ensures nowhere start in
    let seen : c.deref.result.now ≡ region = c.deref.ensures.value ∙ whole c.in_ok-region.region.len region had (kept ∙ sym size) (sym size) in
    let slots = c.note_all.new.slots in
    let none = c.in_ok-slots.slots.items in
    let many : length none ≡ c.args.functions = c.in_ok-slots.ensures.length in
    let same : c.deref_mut-2.result.now ≡ none = c.deref_mut-2.ensures.value in
    let stay : length slots ≡ length none = c.note_all.auto.slots ∙ ap length same in
    let count : c.in_ok-slots.slots.len ≡ length none = omega (arith, c.in_ok-slots.slots.ok.0) in
    let within : f < length c.deref_mut-2.result.now = omega (arith, ap length same) in
    ap (λ s. get_or s f None) (whole c.in_ok-slots.slots.len slots none (stay ∙ sym count) (sym count))
    ∙ c.note_all.ensures f within
    ∙ ap (λ x. or_other x (first_left c.args.m f base c.deref.result.now)) (ap (λ s. get_or s f None) same ∙ c.in_ok-slots.ensures.nulls f)
    ∙ ap (first_left c.args.m f base) seen
    ∙ sym (index_in_region (Own c.args.m f) region base table placed)
    ∙ ap (index_of (Own c.args.m f) table base) (kept ∙ long)
