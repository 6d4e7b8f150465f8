-- How a member is placed is what is kept of it.
use Rattle.std.proofs.Common.{◌≡◌, ℕ, ◌<◌, List, [], ◌∷◌, ◌++◌, length, map, Option, Some, refl, ap, ap₂, sym, ◌∙◌, subst, arith, inl, inr, length-append}
use Rattle.std.specs.Prelude.{slice_get}
use Rattle.std.proofs.lemmas.Bool.{cases_lt}
use Rattle.std.proofs.lemmas.List.{length-map}
use Rattle.std.proofs.lemmas.Option.{slice_get_within, same_Some}
use Rattle.spec_loading.proofs.of_spec_binary.Lists.{slice_get-append-left, slice_get-append-last}
use Rattle.wasm_form.specs.declared.instr.Expr.{Expr}
use Rattle.wasm_form.specs.declared.module.Module.{Module}
use Rattle.wasm_form.specs.declared.runtime.Ref.TheVariants.{Own}
use Rattle.spec_loading.specs.spec_linking.LinkedSets.{LinkedSet, wasm_of}
use Rattle.spec_loading.specs.spec_linking.Slots.{member_number, fresh_of}
use Rattle.spec_loading.specs.spec_linking.Links.{Links}
use Rattle.spec_loading.specs.Laws.{SizesArePlanned, SlotsFit}
use Rattle.dyl_addresses.specs.Bases.{AreBases}
use Rattle.dyl_addresses.specs.Offsets.{number_with}
use Rattle.dyl_addresses.proofs.Linked.{one_module}
use Rattle.dyl_addresses.proofs.Offsets.{with_bases}
use Rattle.dyl_store.specs.declared.place_member.Placement.{Placement}
use Rattle.dyl_store.proofs.SharedTable.{fresh_few}
use Rattle.dyl_store.specs.Placements.{IsPlacement, elem_offset, data_offset, own_entry}

own_entries : (m : ℕ) (fs : List ℕ) → map (own_entry m) fs ≡ map Some (map (Own m) fs)
own_entries m [] = refl
own_entries m (f ∷ fs) = ap (λ (rs : List _). Some (Own m f) ∷ rs) (own_entries m fs)

pub placement_is : (L : LinkedSet) (m : ℕ) (its : Module) (bases : List (Option ℕ)) (p : Placement)
    → wasm_of L m ≡ Some its → m < length L.set.members → AreBases L m bases
    → p.elems.items ≡ map (elem_offset (number_with bases)) its.elems → p.datas.items ≡ map (data_offset (number_with bases)) its.datas
    → p.slots.items ≡ map (own_entry m) (fresh_of L m) → Links L → SlotsFit → SizesArePlanned → IsPlacement L m p
placement_is L m its bases p here inside are elems datas slots links fit sizes = λ wasm is.
    let same : its ≡ wasm = one_module its wasm (sym here ∙ is) in
    let numbers : number_with bases ≡ member_number L m = with_bases L m bases are in
    let few = fresh_few L links fit sizes m inside in
    let many = ap length slots ∙ length-map (fresh_of L m) (own_entry m) in
    record {
      elems = elems ∙ ap₂ (λ (n : Expr → Option ℕ) (w : Module). map (elem_offset n) w.elems) numbers same;
      datas = datas ∙ ap₂ (λ (n : Expr → Option ℕ) (w : Module). map (data_offset n) w.datas) numbers same;
      slots = slots ∙ own_entries m (fresh_of L m);
      few = omega arith;
    }

-- one member more
pub one_more : (L : LinkedSet) (ps more : List Placement) (p : Placement) (m : ℕ) → length ps ≡ m → ((i : ℕ) (x : Placement) → slice_get ps i ≡ Some x → IsPlacement L i x) → IsPlacement L m p → more ≡ ps ++ p ∷ []
    → (i : ℕ) (x : Placement) → slice_get more i ≡ Some x → IsPlacement L i x
one_more L ps more p m count each is e i x found =
    let at : slice_get (ps ++ p ∷ []) i ≡ Some x = ap (λ (us : List Placement). slice_get us i) (sym e) ∙ found in
    let within = slice_get_within (ps ++ p ∷ []) i x at in
    let many = length-append ps (p ∷ []) in
    elim (cases_lt i (length ps)) [
      | inl before ↦ each i x (sym (slice_get-append-left ps (p ∷ []) i before) ∙ at)
      | inr past ↦ last at (omega (arith, within, many, past))
    ]
  where
    last : slice_get (ps ++ p ∷ []) i ≡ Some x → i ≡ length ps → IsPlacement L i x
    last at here =
        let same : p ≡ x = same_Some p x (sym (slice_get-append-last ps p i here) ∙ at) in
        subst (λ (y : Placement). IsPlacement L i y) same (subst (λ (n : ℕ). IsPlacement L n p) (sym (here ∙ count)) is)
