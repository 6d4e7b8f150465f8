-- The opening state of a module: the active segments are applied to what is opened of it.
use Rattle.std.proofs.Common.{◌≡◌, ℕ, List, ◌++◌, length, map, refl, sym, ap, ◌∙◌, subst}
use Rattle.std.specs.Prelude.{Some, Option, Result, Ok, Err, IsErrAnd, Vec}
use Rattle.std.specs.Vec.{with_items}
use Rattle.std.specs.declared.alloc.Global.{Global}
use Rattle.std.proofs.lemmas.List.{with_items_is}
use Rattle.std.proofs.lemmas.List.{length-map}
use Rattle.wasm_form.specs.declared.module.Module.{Module}
use Rattle.wasm_form.specs.declared.runtime.Ref.{Ref}
use Rattle.wasm_form.specs.declared.runtime.Value.{Value}
use Rattle.spec_safety.specs.spec_runtime.Memories.{MemoryInstance}
use Rattle.spec_safety.specs.spec_runtime.Tables.{TableInstance}
use Rattle.spec_safety.specs.spec_execution.Activations.{Effect}
use Rattle.spec_safety.specs.spec_execution.Instances.{ModuleParts, module_view, constant_offset}
use Rattle.spec_safety.specs.spec_execution.Segments.{Performed, all_performed, elem_effects, data_effects, all_effects}
use Rattle.spec_safety.specs.spec_execution.OneModule.{opened_memory, opened_parts, segments_performed}
use Rattle.spec_safety.specs.spec_execution.declared.fault.SingleFault.{SingleFault}
use Rattle.spec_safety.specs.spec_execution.declared.fault.SingleFault.TheVariants.{SegmentTrap, Memory}
use Rattle.spec_safety.proofs.of_spec_execution.Segments.{performed_rest, performed_trapped}
use Rattle.wasm_instance.specs.Kept.{HasAll}
use Rattle.wasm_instance.specs.States.{InstanceState}
use Rattle.wasm_instance.specs.Opening.{Applies, ElementsApply, BytesApply, Opens}

-- as much is opened as the module numbers
pub opened_counts : (m : Module) (us : ModuleParts) → us ≡ opened_parts m → HasAll m us
opened_counts m us is = record {
  globals = ap (λ (p : ModuleParts). length p.globals) is ∙ length-map m.globals _;
  tables = ap (λ (p : ModuleParts). length p.tables) is ∙ length-map m.tables _;
  elems = ap (λ (p : ModuleParts). length p.elems) is ∙ length-map m.elems _;
  datas = ap (λ (p : ModuleParts). length p.datas) is ∙ length-map m.datas _;
}

pub seen_count : {A B : Type 0} (seen : A → B) (xs ys : List A) (n : ℕ) → xs ≡ ys → length (map seen ys) ≡ n → length xs ≡ n
seen_count seen xs ys n same h = ap length same ∙ sym (length-map ys seen) ∙ h

-- ---- vectors that were written over

-- as many items were written
pub whole : {A : Type 0} (v : Vec A Global) (slice new : List A) → slice ≡ v.items → length new ≡ length slice → (with_items v new).items ≡ new
whole v slice new same as_many = with_items_is v new (as_many ∙ ap length same ∙ sym v.ok.0)

pub whole_count : {A : Type 0} (v : Vec A Global) (slice new : List A) (n : ℕ) → slice ≡ v.items → length new ≡ length slice → length v.items ≡ n → length (with_items v new).items ≡ n
whole_count v slice new n same as_many h = ap length (whole v slice new same as_many) ∙ as_many ∙ ap length same ∙ h

pub whole_seen : {A B : Type 0} (seen : A → B) (v : Vec A Global) (slice new : List A) (n : ℕ) → slice ≡ v.items → length new ≡ length slice → length (map seen v.items) ≡ n → length (map seen (with_items v new).items) ≡ n
whole_seen seen v slice new n same as_many h = length-map (with_items v new).items seen ∙ whole_count v slice new n same as_many (sym (length-map v.items seen) ∙ h)

-- what is said of some parts is said of the same parts
pub applies_as : (wanted : Option (Performed ModuleParts)) (r : Result (Unit {0}) SingleFault) (memory : MemoryInstance) (globals : List Value) (tables tables' : List TableInstance) (elems elems' : List (List (Option Ref))) (datas datas' : List (List ℕ))
    → tables' ≡ tables → elems' ≡ elems → datas' ≡ datas → Applies wanted r (record { globals = globals; tables = tables; elems = elems; datas = datas }) memory
    → Applies wanted r (record { globals = globals; tables = tables'; elems = elems'; datas = datas' }) memory
applies_as wanted r memory globals tables tables' elems elems' datas datas' t e d h = rw (t, e, d) h

-- ---- the effects of the segments, over what is opened of a module

module _ (m : Module) (old : ModuleParts) (memory : MemoryInstance) (is : old ≡ opened_parts m) (space : memory ≡ opened_memory m.memories) where
  abbrev elements : List Effect
  elements = all_effects (elem_effects (constant_offset m)) 0 m.elems

  abbrev bytes : List Effect
  bytes = all_effects (data_effects (constant_offset m)) 0 m.datas

  performed : segments_performed m ≡ all_performed (module_view m) 0 (elements ++ bytes) old memory
  performed = rw (is, space) refl

  module _ (tables : List TableInstance) (elems : List (List (Option Ref))) where
    abbrev between : ModuleParts
    between = record old { tables = tables; elems = elems }

    failed : (why : SingleFault) → Applies (all_performed (module_view m) 0 elements old memory) (Err why) between memory → Applies (segments_performed m) (Err why) between memory
    failed SegmentTrap a = (a.0, performed ∙ performed_trapped (module_view m) 0 elements bytes old between memory memory a.0 a.1)
    failed Memory a = tt
    failed _ a = a

    told_failed : (r : Result (Unit {0}) SingleFault) (why : SingleFault) → IsErrAnd r (λ e. e ≡ why) → ElementsApply m elements old.tables old.elems (Err why) tables elems → Applies (segments_performed m) r between memory
    told_failed (Ok u) why told h = absurd told
    told_failed (Err e) why told h = subst (λ x. Applies (segments_performed m) (Err x) between memory) (sym told) (failed why (h old.globals old.datas memory))

    -- those of the element segments didn't go on
    pub elements_failed : (old_tables : List TableInstance) (old_elems : List (List (Option Ref))) → old_tables ≡ old.tables → old_elems ≡ old.elems
        → (r : Result (Unit {0}) SingleFault) (why : SingleFault) → IsErrAnd r (λ e. e ≡ why) → ElementsApply m elements old_tables old_elems (Err why) tables elems
        → Applies (segments_performed m) r between memory
    elements_failed old_tables old_elems same_tables same_elems r why told h =
        told_failed r why told (subst (λ e. ElementsApply m elements old.tables e (Err why) tables elems) same_elems (subst (λ t. ElementsApply m elements t old_elems (Err why) tables elems) same_tables h))

    -- they went on, and then those of the data segments
    module _ (old_tables : List TableInstance) (old_elems : List (List (Option Ref))) (same_tables : old_tables ≡ old.tables) (same_elems : old_elems ≡ old.elems) (new_memory : MemoryInstance) (datas : List (List ℕ)) (there : ElementsApply m elements old_tables old_elems (Ok tt) tables elems) where
      went : ElementsApply m elements old.tables old.elems (Ok tt) tables elems
      went = subst (λ e. ElementsApply m elements old.tables e (Ok tt) tables elems) same_elems (subst (λ t. ElementsApply m elements t old_elems (Ok tt) tables elems) same_tables there)

      abbrev after : ModuleParts
      after = record between { datas = datas }

      rest : segments_performed m ≡ all_performed (module_view m) 0 bytes between memory
      rest = performed ∙ performed_rest (module_view m) 0 elements bytes old between memory memory (went old.globals old.datas memory)

      go : (r : Result (Unit {0}) SingleFault) → Applies (all_performed (module_view m) 0 bytes between memory) r after new_memory → Applies (segments_performed m) r after new_memory
      go (Ok u) a = rest ∙ a
      go (Err SegmentTrap) a = (a.0, rest ∙ a.1)
      go (Err Memory) a = tt
      go (Err _) a = a

      pub segments_applied : (r : Result (Unit {0}) SingleFault) (old_datas : List (List ℕ)) → old_datas ≡ old.datas → BytesApply m bytes memory old_datas r new_memory datas → Applies (segments_performed m) r after new_memory
      segments_applied r old_datas same h = go r (subst (λ d. BytesApply m bytes memory d r new_memory datas) same h old.globals tables elems)

-- what comes of the segments is said of the same module
opens_failed : (m : Module) (us : ModuleParts) (memory : MemoryInstance) (why : SingleFault) → Applies (segments_performed m) (Err why) us memory → Opens m (Err why)
opens_failed m us memory SegmentTrap a = (record { units = us; memory = memory; trap = Some a.0 }, a.0, a.1, refl)
opens_failed m us memory Memory a = tt
opens_failed m us memory _ a = a

pub opens_told : (m n : Module) → m ≡ n → (us : ModuleParts) (memory : MemoryInstance) (r : Result InstanceState SingleFault) (why : SingleFault) → IsErrAnd r (λ e. e ≡ why)
    → Applies (segments_performed m) (Err why) us memory → Opens n r
opens_told m n same us memory (Ok i) why told a = absurd told
opens_told m n same us memory (Err e) why told a = subst (λ x. Opens x (Err e)) same (subst (λ x. Opens m (Err x)) (sym told) (opens_failed m us memory why a))
