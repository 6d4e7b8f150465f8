use Rattle.std.proofs.Common.{◌≡◌, ℕ, ◌∙◌, None, List, length, map, sym, ap, subst, slice_get}
use Rattle.std.specs.Prelude.{IsTrue}
use Rattle.std.specs.List.{list_all}
use Rattle.wasm_form.specs.declared.module.Module.{Module}
use Rattle.wasm_form.specs.declared.runtime.Ref.TheVariants.{Own}
use Rattle.spec_loading.specs.spec_validation.Faults.{fault, elem_fits}
use Rattle.spec_loading.proofs.of_spec_validation.Parts.{parts_fit}
use Rattle.spec_loading.specs.spec_runtime.Constants.{numbered_globals}
use Rattle.spec_loading.specs.spec_linking.Slots as slots
use Rattle.spec_loading.specs.spec_linking.Slots.{all_applied, nowhere, index_of}
use Rattle.dyl_imports.specs.wasm_check.Constants.{AreOfTypes}
use Rattle.dyl_slots.specs.Regions.{placing_value}
use Rattle.dyl_slots.specs.Placings.{base_numbers, placings_by}
use Rattle.dyl_slots.proofs.Segments.{numbers_length, are_words, shared_same, segment_is, if_ok_more}
use Rattle.dyl_slots.proofs.segmented.segments_of.Goals as goal

pub placings_of-requires-clause-numbers : goal.placings_of-requires-clause-numbers
placings_of-requires-clause-numbers c =
    let wasm = c.module-wasm.result.now in
    ap length (c.as_slice.ensures.value ∙ c.in_ok-globals.ensures ∙ ap (base_numbers c.args.bases) c.items.ensures) ∙ numbers_length c.args.bases wasm.imports

pub placings_of-requires-clause-types : goal.placings_of-requires-clause-types
placings_of-requires-clause-types c =
    let wasm = c.module-wasm.result.now in
    let member = c.args.member.now in
    let same : wasm ≡ member.checked = c.module-wasm.ensures.same in
    let valid : fault member.checked ≡ None = c.module-wasm.ensures.valid in
    let words : AreOfTypes member.checked (base_numbers c.args.bases member.checked.imports) = are_words c.requires.at.0 c.args.m member c.args.functions.now c.args.bases c.requires.at.1 valid in
    let here : AreOfTypes wasm (base_numbers c.args.bases wasm.imports) = subst (λ (w : Module). AreOfTypes w (base_numbers c.args.bases w.imports)) (sym same) words in
    let numbers : c.as_slice.result.now ≡ base_numbers c.args.bases wasm.imports = c.as_slice.ensures.value ∙ c.in_ok-globals.ensures ∙ ap (base_numbers c.args.bases) c.items.ensures in
    subst (AreOfTypes wasm) (sym numbers) here

pub placings_of-requires-clause-fits : goal.placings_of-requires-clause-fits
placings_of-requires-clause-fits c =
    let fits = (parts_fit c.args.member.now.checked c.module-wasm.ensures.valid).elems in
    subst (λ (w : Module). IsTrue (list_all (elem_fits w) w.elems)) (sym c.module-wasm.ensures.same) fits

pub returns-clause-slots : goal.returns-clause-slots
returns-clause-slots c =
    if_ok_more c.segment_slots.result _ _ (λ v first L at f inside.
    let wasm = c.module-wasm.result.now in
    let member = c.args.member.now in
    let same : wasm ≡ member.checked = c.module-wasm.ensures.same in
    let valid : fault member.checked ≡ None = c.module-wasm.ensures.valid in
    let base = c.args.bases.table in
    let size = member.dylink.table_size in
    let numbers : c.as_slice.result.now ≡ base_numbers c.args.bases wasm.imports = c.as_slice.ensures.value ∙ c.in_ok-globals.ensures ∙ ap (base_numbers c.args.bases) c.items.ensures in
    let seen = ap (map placing_value) c.deref.ensures.value in
    let there = c.in_ok-placings.ensures in
    let by_numbers = ap (λ (ns : List ℕ). placings_by (slice_get c.args.functions.now) (numbered_globals ns) wasm) numbers in
    let by_module = ap (λ (w : Module). placings_by (slice_get c.args.functions.now) (numbered_globals (base_numbers c.args.bases w.imports)) w) same in
    let all = seen ∙ there ∙ by_numbers ∙ by_module ∙ shared_same L c.args.m member c.args.functions.now c.args.bases at valid in
    first f inside ∙ ap (λ (ps : List slots.Placing). index_of (Own c.args.m f) (all_applied nowhere ps) base size) all ∙ sym (segment_is L c.args.m member c.args.functions.now c.args.bases at valid f)) c.segment_slots.ensures.first
