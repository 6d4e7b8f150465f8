-- A whole member is placed.
use Rattle.std.proofs.Common.{◌≡◌, ℕ, ◌<◌, List, [], ◌∷◌, ◌++◌, length, Option, Some, None, refl, sym, ap, ◌∙◌, subst, true, All}
use Rattle.std.specs.Prelude.{slice_get, Result, Ok, Err, IsErrAnd}
use Rattle.std.proofs.lemmas.Option.{slice_get_within}
use Rattle.wasm_form.specs.declared.module.Module.{Module}
use Rattle.wasm_form.specs.declared.runtime.Trap.{Trap}
use Rattle.std.specs.List.{list_all}
use Rattle.std.proofs.lemmas.Bool.{and_parts}
use Rattle.std.proofs.lemmas.List.Elements.{All-nil, All-cons, All-head, All-tail}
use Rattle.wasm_form.specs.declared.types.ValType.TheVariants.{I32}
use Rattle.wasm_form.specs.declared.types.TableType.{TableType}
use Rattle.wasm_form.specs.declared.module.ElemMode.{ElemMode}
use Rattle.wasm_form.specs.declared.module.ElemMode.TheVariants as elem_mode
use Rattle.wasm_form.specs.declared.module.Elem.{Elem}
use Rattle.spec_loading.specs.spec_binary.Options.{◌>>=◌}
use Rattle.spec_loading.specs.spec_binary.IndexSpaces.{table_space}
use Rattle.spec_loading.specs.spec_binary.WellFormed.{IsWellFormed, IsFormedElem}
use Rattle.spec_loading.specs.spec_validation.Faults.{is_constant, has_functions, elem_mode_fits, items_fit, elem_fits, fault}
use Rattle.spec_loading.proofs.of_spec_validation.Parts.{parts_fit}
use Rattle.spec_loading.specs.spec_execution.Views.{View}
use Rattle.dyl_store.specs.Placements.{IsTableBelow, IsPlaceable}
use Rattle.spec_loading.specs.spec_runtime.Memories.{MemoryInstance}
use Rattle.spec_loading.specs.spec_execution.Activations.{Effect}
use Rattle.spec_loading.specs.spec_execution.Instances.{ModuleParts}
use Rattle.spec_loading.specs.spec_execution.Segments.{Performed, all_performed, elem_effects, data_effects, all_effects}
use Rattle.spec_loading.proofs.of_spec_execution.Segments.{performed_rest, performed_trapped}
use Rattle.spec_loading.specs.spec_linking.LinkedSets.{LinkedSet, wasm_of}
use Rattle.spec_loading.specs.spec_linking.Slots.{member_number}
use Rattle.spec_loading.specs.Members.{set_view}
use Rattle.spec_loading.specs.LoadedSet.{slots_written, slots_after, member_placed}
use Rattle.spec_loading.specs.Members.{counts_of}
use Rattle.dyl_frames.specs.Cores.{Places}

pub err_as : (o : Option (Performed ModuleParts)) (r : Result (Unit {0}) Trap) (why : Trap) (us : ModuleParts) (memory : MemoryInstance) → IsErrAnd r (λ e. e ≡ why) → Places o (Err why) us memory → Places o r us memory
err_as o (Ok u) why us memory told done = absurd told
err_as o (Err e) why us memory told done = subst (λ (y : Trap). Places o (Err y) us memory) (sym told) done

module _ (L : LinkedSet) (m : ℕ) (wasm : Module) (is : wasm_of L m ≡ Some wasm) (us us1 : ModuleParts) (memory memory1 : MemoryInstance) where
  abbrev pub elems : List Effect
  elems = all_effects (elem_effects (member_number L m)) 0 wasm.elems

  abbrev pub datas : List Effect
  datas = all_effects (data_effects (member_number L m)) 0 wasm.datas

  abbrev then_slots : Option (Performed ModuleParts) → Option (Performed ModuleParts)
  then_slots o = o >>= λ p. slots_after L m p p.trap

  whole : member_placed L m us memory ≡ then_slots (all_performed (set_view L) m (elems ++ datas) us memory)
  whole = ap (λ (o : Option Module). o >>= λ w. then_slots (all_performed (set_view L) m (all_effects (elem_effects (member_number L m)) 0 w.elems ++ all_effects (data_effects (member_number L m)) 0 w.datas) us memory)) is

  pub elems_trapped : (why : Trap) → Places (all_performed (set_view L) m elems us memory) (Err why) us1 memory1 → Places (member_placed L m us memory) (Err why) us1 memory1
  elems_trapped why e = whole ∙ ap then_slots (performed_trapped (set_view L) m elems datas us us1 memory memory1 why e)

  module _ (us2 : ModuleParts) (memory2 : MemoryInstance) (first : Places (all_performed (set_view L) m elems us memory) (Ok tt) us1 memory1) where
    rest : all_performed (set_view L) m (elems ++ datas) us memory ≡ all_performed (set_view L) m datas us1 memory1
    rest = performed_rest (set_view L) m elems datas us us1 memory memory1 first

    pub datas_trapped : (why : Trap) → Places (all_performed (set_view L) m datas us1 memory1) (Err why) us2 memory2 → Places (member_placed L m us memory) (Err why) us2 memory2
    datas_trapped why e = whole ∙ ap then_slots (rest ∙ e)

    pub all_placed : (r : Result (Unit {0}) Trap) (us3 : ModuleParts) (memory3 : MemoryInstance) → Places (all_performed (set_view L) m datas us1 memory1) (Ok tt) us2 memory2 → Places (slots_written L m us2 memory2) r us3 memory3
        → Places (member_placed L m us memory) r us3 memory3
    all_placed r us3 memory3 e slots = whole ∙ ap then_slots (rest ∙ e) ∙ slots

-- effects as they are seen over another name of the view and of the segments
pub seen_as : {A : Type 0} (V W : View ModuleParts) → V ≡ W → (m : ℕ) (of_segment : ℕ → A → List Effect) (xs ys : List A) → xs ≡ ys → (us us' : ModuleParts) (memory memory' : MemoryInstance) (r : Result (Unit {0}) Trap)
    → Places (all_performed V m (all_effects of_segment 0 xs) us memory) r us' memory' → Places (all_performed W m (all_effects of_segment 0 ys) us memory) r us' memory'
seen_as {A} V W same m of_segment xs ys are us us' memory memory' r done =
    subst (λ (X : View ModuleParts). Places (all_performed X m (all_effects of_segment 0 ys) us memory) r us' memory') same
    (subst (λ (l : List A). Places (all_performed V m (all_effects of_segment 0 l) us memory) r us' memory') are done)

-- ---- the segments of a valid member may be placed

table_within : (types : List TableType) (t : ℕ) (found : Option TableType) → slice_get types t ≡ found → has_functions found ≡ true → t < length types
table_within types t (Some ty) is e = slice_get_within types t ty is
table_within types t None is e = absurd cc

table_below : (wasm : Module) (mode : ElemMode) → elem_mode_fits wasm mode ≡ true → IsTableBelow (length (table_space wasm)) mode
table_below wasm (elem_mode.Active t offset) e = table_within (table_space wasm) t (slice_get (table_space wasm) t) refl (and_parts (has_functions (slice_get (table_space wasm) t)) (is_constant wasm I32 offset) e).0
table_below wasm elem_mode.Passive e = tt
table_below wasm elem_mode.Declarative e = tt

all_placeable : (wasm : Module) (xs : List Elem) → list_all (elem_fits wasm) xs ≡ true → All IsFormedElem xs → All (IsPlaceable (length (table_space wasm))) xs
all_placeable wasm [] fit formed = All-nil (IsPlaceable (length (table_space wasm)))
all_placeable wasm (x ∷ xs) fit formed =
    let both = and_parts (elem_fits wasm x) (list_all (elem_fits wasm) xs) fit in
    let parts = and_parts (elem_mode_fits wasm x.mode) (items_fit wasm x.items) both.0 in
    All-cons (IsPlaceable (length (table_space wasm))) x xs (record { table = table_below wasm x.mode parts.0; items = (All-head IsFormedElem x xs formed).items })
    (all_placeable wasm xs both.1 (All-tail IsFormedElem x xs formed))

pub elems_placeable : (wasm : Module) → IsWellFormed wasm → fault wasm ≡ None → (segments : List Elem) (n : ℕ) → segments ≡ wasm.elems → n ≡ length (table_space wasm) → All (IsPlaceable n) segments
elems_placeable wasm formed valid segments n same count =
    subst (λ (k : ℕ). All (IsPlaceable k) segments) (sym count) (subst (λ (l : List Elem). All (IsPlaceable (length (table_space wasm))) l) (sym same) (all_placeable wasm wasm.elems (parts_fit wasm valid).elems formed.elems.1))

-- the counts of the member, over another name of the view
pub counts_in : (L now : LinkedSet) (m : ℕ) (wasm : Module) → wasm_of L m ≡ Some wasm → set_view now ≡ set_view L → (set_view now).counts m ≡ counts_of (Some wasm)
counts_in L now m wasm is same = ap (λ (V : View ModuleParts). V.counts m) same ∙ ap counts_of is
