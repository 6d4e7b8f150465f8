-- What code of a member may refer to, renumbered code may refer to in the merged module.
use Rattle.std.proofs.Common.{◌≡◌, ◌≤◌, ℕ, zero, suc, ◌+◌, Bool, true, false, ◌||◌, nat_eq, List, [], ◌∷◌, ◌++◌, length, map, slice_get, Option, Some, None, option_map, refl, sym, ap, ◌∙◌, arith, subst, if◌then◌else◌}
use Rattle.std.specs.Prelude.{unwrap_or}
use Rattle.std.specs.List.{list_any, flat_map, list_all}
use Rattle.std.proofs.lemmas.Bool.{and_parts, and_from, eqb-true, eq-eqb, or_left, or_right, lt-ltb, ltb-true}
use Rattle.std.proofs.lemmas.List.Folds.{list_any-append}
use Rattle.std.proofs.lemmas.Option.{slice_get_within}
use denote.Hole.Carrier.{out}
use Rattle.spec_reading.specs.wasm_form.declared.types.ValType.{ValType}
use Rattle.spec_reading.specs.wasm_form.declared.types.ValType.TheVariants.{I32, I64, F32, F64, FuncRef, ExternRef}
use Rattle.spec_reading.specs.wasm_form.declared.instr.Instr.{Instr, out-Instr}
use Rattle.spec_reading.specs.wasm_form.declared.instr.Instr.TheOpen as Open
use Rattle.spec_reading.specs.wasm_form.declared.instr.Expr.{Expr}
use Rattle.spec_reading.specs.wasm_form.declared.module.GlobalDef.{GlobalDef}
use Rattle.spec_reading.specs.wasm_form.declared.module.ExportDesc.{ExportDesc}
use Rattle.spec_reading.specs.wasm_form.declared.module.ExportDesc.TheVariants as exported
use Rattle.spec_reading.specs.wasm_form.declared.module.Export.{Export}
use Rattle.spec_reading.specs.wasm_form.declared.module.ElemItems.{ElemItems}
use Rattle.spec_reading.specs.wasm_form.declared.module.ElemItems.TheVariants as elem_items
use Rattle.spec_reading.specs.wasm_form.declared.module.Module.{Module}
use Rattle.spec_reading.specs.wasm_form.declared.runtime.Ref.{Ref}
use Rattle.spec_reading.specs.wasm_form.declared.index.IndexForm.{IndexForm}
use Rattle.spec_reading.specs.wasm_form.declared.index.IndexForm.TheVariants as index
use Rattle.spec_reading.specs.wasm_form.Index.{index_form}
use Rattle.spec_reading.specs.wasm_form.declared.runtime.Value.{Value}
use Rattle.spec_reading.specs.wasm_form.declared.runtime.Value.TheVariants.{Func}
use Rattle.spec_reading.specs.spec_binary.Options.{◌>>=◌}
use Rattle.spec_reading.specs.spec_binary.IndexSpaces.{function_space}
use Rattle.spec_loading.specs.spec_validation.Faults.{is_function, constant_index, is_constant, global_fits, refers_step, instr_refers, expr_refers, items_refer, elem_refers, desc_refers, export_refers, global_refers, refers}
use Rattle.spec_loading.proofs.of_spec_validation.Parts.{parts_fit}
use Rattle.spec_loading.specs.spec_binary.SameTypes.{same_type}
use Rattle.spec_loading.specs.spec_binary.Counted.{Puts, Other, after_step, left}
use Rattle.spec_loading.specs.spec_validation.Counted.{PutsOne, kind_of, step_at, step_of}
use Rattle.spec_loading.proofs.of_spec_binary.OneType.{one_type}
use Rattle.spec_loading.proofs.of_spec_validation.Constants.{constant_counts}
use Rattle.spec_loading.proofs.of_spec_execution.Constants.{reference_value}
use Rattle.spec_loading.specs.spec_runtime.Constants.{instruction_constant, constant_of}
use Rattle.spec_loading.specs.spec_execution.Values.{zero_of}
use Rattle.spec_loading.specs.spec_linking.Sets.{Member}
use Rattle.spec_loading.specs.spec_linking.LinkedSets.{LinkedSet, wasm_of, function_ref}
use Rattle.spec_loading.specs.spec_linking.Slots.{linked_plan, imported_base}
use Rattle.spec_loading.proofs.of_spec_safety.Lookups.{went_on}
use Rattle.spec_loading.proofs.of_spec_safety.Spaces.{function_has_type}
use Rattle.spec_loading.specs.Members.{from_members, opened_global}
use Rattle.merge_match.specs.Renumbering.{Numbers, index_in, renumbered, instr, expr}
use Rattle.merge_match.specs.Parts.{number_of}
use Rattle.merge_match.proofs.OneLevel.{inside as with_numbers, out_instr}
use Rattle.merge_index.specs.Numbering.{function_number}
use Rattle.merge_module.specs.MergedModule.{constant_instr, number_global, own_global, member_globals, guard_globals, renumbered_items, passive_elem, outside_elem, declared_elem, named_functions, exported_functions}
use Rattle.spec_loading.specs.spec_linking.Slots.{cells_of, cell_value, memory_base, table_base}
use Rattle.merge_module.proofs.Known.{IsKnown}
use Rattle.merge_module.proofs.SetMembers.{is_sound}
use Rattle.merge_module.proofs.Applied.{slot_elems}
use Rattle.merge_module.proofs.Opens.{N, M}
use Rattle.merge_module.proofs.Carries.{function_carried}

-- ---- lists

either : {P : Type 0} (a b : Bool) → (a || b) ≡ true → (a ≡ true → P) → (b ≡ true → P) → P
either true b e one two = one refl
either false b e one two = two e

module _ {A : Type 0} (q : A → Bool) where
  any_left : (xs ys : List A) → list_any q xs ≡ true → list_any q (xs ++ ys) ≡ true
  any_left xs ys e = list_any-append q xs ys ∙ or_left (list_any q xs) (list_any q ys) e

  any_right : (xs ys : List A) → list_any q ys ≡ true → list_any q (xs ++ ys) ≡ true
  any_right xs ys e = list_any-append q xs ys ∙ or_right (list_any q xs) (list_any q ys) e

  any_member : (of : ℕ → Module → List A) (k : ℕ) (xs : List Member) (j i : ℕ) (y : Member) → slice_get xs j ≡ Some y → i ≡ k + j → list_any q (of i y.wasm) ≡ true
      → list_any q (from_members of k xs) ≡ true
  any_member of k [] j i y at is e = absurd cc
  any_member of k (x ∷ xs) zero i y at is e =
      let same : x ≡ y = cc in
      let first : i ≡ k = omega arith in
      any_left (of k x.wasm) (from_members of (k + 1) xs) (rw (same, ← first) e)
  any_member of k (x ∷ xs) (suc j) i y at is e = any_right (of k x.wasm) (from_members of (k + 1) xs) (any_member of (k + 1) xs j i y at (omega arith) e)

any_map : {A B : Type 0} (p : A → Bool) (q : B → Bool) (f : A → B) → ((x : A) → p x ≡ true → q (f x) ≡ true) → (xs : List A) → list_any p xs ≡ true → list_any q (map f xs) ≡ true
any_map p q f so [] e = absurd cc
any_map p q f so (x ∷ xs) e =
    either (p x) (list_any p xs) e (λ h. or_left (q (f x)) (list_any q (map f xs)) (so x h)) (λ h. or_right (q (f x)) (list_any q (map f xs)) (any_map p q f so xs h))

same_number : (f : ℕ → ℕ) (j k : ℕ) → nat_eq j k ≡ true → nat_eq (f j) (f k) ≡ true
same_number f j k e = eq-eqb (f j) (f k) (ap f (eqb-true j k e))

module _ (n : Numbers) (m : ℕ) (f : ℕ) where
  -- ---- expressions

  by_form : (op k : ℕ) (form : Option IndexForm) → index_form op ≡ form → refers_step f (Open.Index op k) ≡ true → refers_step (n.named m f) (Open.Index op (index_in n m (index_form op) k)) ≡ true
  by_form op k (Some index.RefFunc) q e = (let h = rw q at e in rw q (same_number (n.named m) k f h))
  by_form op k _ q e = (let h = rw q at e in absurd cc)

  step_refers : (x : Open.Instr-F Instr Expr) → refers_step f x ≡ true → refers_step (n.named m f) (renumbered n m (with_numbers n m x)) ≡ true
  step_refers (Open.Index op k) e = by_form op k (index_form op) refl e
  step_refers _ e = absurd cc

  renumbered_refers : (i : Instr) → instr_refers f i ≡ true → instr_refers (n.named m f) (instr n m i) ≡ true
  renumbered_refers i e = ap (refers_step (n.named m f)) (out_instr n m i) ∙ step_refers (out-Instr i) e

  expr_refers_too : (e : Expr) → expr_refers f e ≡ true → expr_refers (n.named m f) (expr n m e) ≡ true
  expr_refers_too e = any_map (instr_refers f) (instr_refers (n.named m f)) (instr n m) renumbered_refers e.list

  -- ---- segments and exports

  items_refer_too : (items : ElemItems) → items_refer f items ≡ true → items_refer (n.named m f) (renumbered_items n m items) ≡ true
  items_refer_too (elem_items.Funcs fs) = any_map (nat_eq f) (nat_eq (n.named m f)) (n.named m) (same_number (n.named m) f) fs
  items_refer_too (elem_items.Exprs ty es) = any_map (expr_refers f) (expr_refers (n.named m f)) (expr n m) expr_refers_too es

  exports_refer : (es : List Export) → list_any (export_refers f) es ≡ true → list_any (nat_eq f) (flat_map (λ (e : Export). named_functions e.desc) es) ≡ true
  exports_refer [] e = absurd cc
  exports_refer (x ∷ xs) e =
      either (export_refers f x) (list_any (export_refers f) xs) e (λ h. go x.desc refl h)
      (λ h. any_right (nat_eq f) (named_functions x.desc) (flat_map (λ (e : Export). named_functions e.desc) xs) (exports_refer xs h))
    where
      go : (d : ExportDesc) → x.desc ≡ d → desc_refers f x.desc ≡ true → list_any (nat_eq f) (flat_map (λ (e : Export). named_functions e.desc) (x ∷ xs)) ≡ true
      go (exported.Func k) q h = (let g = rw q at h in rw q (or_left (nat_eq f k) (list_any (nat_eq f) (flat_map (λ (e : Export). named_functions e.desc) xs)) g))
      go (exported.Table k) q h = (let g = rw q at h in absurd cc)
      go (exported.Space k) q h = (let g = rw q at h in absurd cc)
      go (exported.Global k) q h = (let g = rw q at h in absurd cc)

-- a constant that refers to a function
constant_refers : (n : Numbers) (t : ValType) (r : Ref) (k : ℕ) → n.function r ≡ k → instr_refers k (constant_instr n t (Func (Some r))) ≡ true
unfolding out-Instr out
constant_refers n I32 r k e = eq-eqb (n.function r) k e
constant_refers n I64 r k e = eq-eqb (n.function r) k e
constant_refers n F32 r k e = eq-eqb (n.function r) k e
constant_refers n F64 r k e = eq-eqb (n.function r) k e
constant_refers n FuncRef r k e = eq-eqb (n.function r) k e
constant_refers n ExternRef r k e = eq-eqb (n.function r) k e

-- ---- a constant expression that refers to a function is a reference

module _ (wasm : Module) (t : ValType) (f : ℕ) where
  by_type : (b : Bool) → (step_at t ((if b then Some FuncRef else None) >>= λ u. Some (PutsOne u)) ≡ Other → ⊥) → t ≡ FuncRef
  by_type false counts = absurd (counts refl)
  by_type true counts = at (same_type t FuncRef) refl counts
    where
      at : (b : Bool) → same_type t FuncRef ≡ b → ((if b then Puts else Other) ≡ Other → ⊥) → t ≡ FuncRef
      at true q c = one_type t FuncRef q
      at false q c = absurd (c refl)

  form_reference : (op k : ℕ) (form : Option IndexForm) → index_form op ≡ form → refers_step f (Open.Index op k) ≡ true
      → (step_at t (kind_of wasm (Open.Index op k)) ≡ Other → ⊥) → t ≡ FuncRef
  form_reference op k (Some index.RefFunc) q e counts =
      by_type (is_function wasm k) (λ h. counts (ap (λ (o : Option IndexForm). step_at t ((o >>= λ i. constant_index wasm i k) >>= λ u. Some (PutsOne u))) q ∙ h))
  form_reference op k _ q e counts = (let h = rw q at e in absurd cc)

  step_reference : (x : Open.Instr-F Instr Expr) → refers_step f x ≡ true → (step_at t (kind_of wasm x) ≡ Other → ⊥) → t ≡ FuncRef
  step_reference (Open.Index op k) e counts = form_reference op k (index_form op) refl e counts
  step_reference _ e counts = absurd cc

  list_reference : (is : List Instr) (n k : ℕ) → left (step_of wasm t) is n ≡ Some k → list_any (instr_refers f) is ≡ true → t ≡ FuncRef
  list_reference [] n k e h = absurd cc
  list_reference (i ∷ is) n k e h = go (after_step (step_of wasm t i) n) refl e (λ j later g. list_reference is j k later g)
    where
      go : (o : Option ℕ) → after_step (step_of wasm t i) n ≡ o → (o >>= left (step_of wasm t) is) ≡ Some k
          → ((j : ℕ) → left (step_of wasm t) is j ≡ Some k → list_any (instr_refers f) is ≡ true → t ≡ FuncRef) → t ≡ FuncRef
      go None q e later = absurd cc
      go (Some j) q e later =
          either (instr_refers f i) (list_any (instr_refers f) is) h
          (λ g. step_reference (out-Instr i) g (λ z. (let none : None ≡ Some j = ap (λ y. after_step y n) (sym z) ∙ q in cc)))
          (λ g. later j e g)

  refers_reference : (e : Expr) → is_constant wasm t e ≡ true → expr_refers f e ≡ true → t ≡ FuncRef
  refers_reference e typed h = list_reference e.list 0 1 (constant_counts wasm t e typed) h

module _ (L : LinkedSet) (K : IsKnown L) (few : (linked_plan L).pages_max ≤ 16384) (m : ℕ) (member : Member)
    (at : slice_get L.set.members m ≡ Some member) where
  abbrev n : Numbers
  n = N L K few

  abbrev merged : Module
  merged = M L K few

  abbrev wasm : Module
  wasm = member.wasm

  here : wasm_of L m ≡ Some wasm
  here = ap (λ (o : Option Member). o >>= λ y. Some y.wasm) at

  pub function_too : (f : ℕ) → is_function wasm f ≡ true → is_function merged (n.named m f) ≡ true
  function_too f e =
      let ty = function_has_type wasm (parts_fit wasm (is_sound L m wasm K.set here).valid) f (ltb-true f (length (function_space wasm)) e) in
      let typed = function_carried L K few m member at f ty.0 ty.1 in
      let t = went_on (slice_get (function_space merged) (n.named m f)) (slice_get merged.types) ty.0 typed in
      lt-ltb (n.named m f) (length (function_space merged)) (slice_get_within (function_space merged) (n.named m f) t.0 t.1)

  module _ (f : ℕ) (is : is_function wasm f ≡ true) where
    abbrev named : ℕ
    named = n.named m f

    place : m ≡ 0 + m
    place = omega arith

    elems_refer : list_any (elem_refers f) wasm.elems ≡ true → list_any (elem_refers named) merged.elems ≡ true
    elems_refer e =
        any_left (elem_refers named) (from_members (λ k w. map (passive_elem n k) w.elems) 0 L.set.members) _
        (any_member (elem_refers named) (λ k w. map (passive_elem n k) w.elems) 0 L.set.members m m member at place
        (any_map (elem_refers f) (elem_refers named) (passive_elem n m) (λ s. items_refer_too n m f s.items) wasm.elems e))

    exports_declared : list_any (export_refers f) wasm.exports ≡ true → list_any (elem_refers named) merged.elems ≡ true
    exports_declared e =
        let own = any_map (nat_eq f) (nat_eq named) (n.named m) (same_number (n.named m) f) (exported_functions wasm) (exports_refer n m f wasm.exports e) in
        let all = any_member (nat_eq named) (λ k w. map (n.named k) (exported_functions w)) 0 L.set.members m m member at place own in
        any_right (elem_refers named) (from_members (λ k w. map (passive_elem n k) w.elems) 0 L.set.members) (slot_elems L n ++ outside_elem L n ∷ declared_elem L n ∷ [])
        (any_right (elem_refers named) (slot_elems L n) (outside_elem L n ∷ declared_elem L n ∷ [])
        (or_right (elem_refers named (outside_elem L n)) (list_any (elem_refers named) (declared_elem L n ∷ []))
        (or_left (elem_refers named (declared_elem L n)) false all)))

    -- a global that begins with the function
    function_there : (r : Ref) × (function_ref L m f ≡ Some r)
    function_there =
        let ty = function_has_type wasm (parts_fit wasm (is_sound L m wasm K.set here).valid) f (ltb-true f (length (function_space wasm)) is) in
        let r = K.typed m f member ty.0 at ty.1 in
        (r.0, r.1)

    form_value : (op k : ℕ) (form : Option IndexForm) → index_form op ≡ form → refers_step f (Open.Index op k) ≡ true
        → instruction_constant (function_ref L m) (imported_base L m) (Open.Index op k) ≡ Some (Func (Some function_there.0))
    form_value op k (Some index.RefFunc) q e =
        let h = rw q at e in
        let same : k ≡ f = eqb-true k f h in
        rw (q, same, function_there.1) refl
    form_value op k _ q e = (let h = rw q at e in absurd cc)

    step_value : (y : Open.Instr-F Instr Expr) → refers_step f y ≡ true → instruction_constant (function_ref L m) (imported_base L m) y ≡ Some (Func (Some function_there.0))
    step_value (Open.Index op k) e = form_value op k (index_form op) refl e
    step_value _ e = absurd cc

    init_value : (t : ValType) (e : Expr) → is_constant wasm t e ≡ true → expr_refers f e ≡ true
        → constant_of (function_ref L m) (imported_base L m) e ≡ Some (Func (Some function_there.0))
    init_value t e typed h =
        let is : t ≡ FuncRef = refers_reference wasm t f e typed h in
        let one = reference_value wasm (function_ref L m) (imported_base L m) e (subst (λ u. is_constant wasm u e ≡ true) is typed) in
        let here : list_any (instr_refers f) (one.0 ∷ []) ≡ true = subst (λ l. list_any (instr_refers f) l ≡ true) one.1 h in
        one.3 ∙ step_value (out-Instr one.0) (either (instr_refers f one.0) false here (λ g. g) (λ g. absurd cc))

    global_too : (g : GlobalDef) → global_fits wasm g ≡ true → global_refers f g ≡ true → global_refers named (own_global L n m g) ≡ true
    global_too g fits e =
        let value : opened_global L m g ≡ Func (Some function_there.0) = ap (λ (o : Option Value). unwrap_or o (zero_of g.ty.value)) (init_value g.ty.value g.init fits e) in
        let number : n.function function_there.0 ≡ named = sym (ap (λ (o : Option Ref). number_of (option_map (function_number L) o)) function_there.1) in
        ap (λ v. list_any (instr_refers named) (constant_instr n g.ty.value v ∷ [])) value
        ∙ or_left (instr_refers named (constant_instr n g.ty.value (Func (Some function_there.0)))) false (constant_refers n g.ty.value function_there.0 named number)

    globals_too : (gs : List GlobalDef) → list_all (global_fits wasm) gs ≡ true → list_any (global_refers f) gs ≡ true → list_any (global_refers named) (map (own_global L n m) gs) ≡ true
    globals_too [] fits e = absurd cc
    globals_too (g ∷ gs) fits e =
        let both = and_parts (global_fits wasm g) (list_all (global_fits wasm) gs) fits in
        either (global_refers f g) (list_any (global_refers f) gs) e
        (λ h. or_left (global_refers named (own_global L n m g)) (list_any (global_refers named) (map (own_global L n m) gs)) (global_too g both.0 h))
        (λ h. or_right (global_refers named (own_global L n m g)) (list_any (global_refers named) (map (own_global L n m) gs)) (globals_too gs both.1 h))

    globals_refer : list_any (global_refers f) wasm.globals ≡ true → list_any (global_refers named) merged.globals ≡ true
    globals_refer e =
        let own = globals_too wasm.globals (parts_fit wasm (is_sound L m wasm K.set here).valid).globals e in
        let cells = map (λ c. number_global true (cell_value L m c)) (cells_of wasm) in
        let two = any_right (global_refers named) cells (map (own_global L n m) wasm.globals) own in
        let mine : list_any (global_refers named) (member_globals L n m wasm) ≡ true =
        any_right (global_refers named) (number_global false (unwrap_or (memory_base L m) 0) ∷ number_global false (unwrap_or (table_base L m) 0) ∷ []) (cells ++ map (own_global L n m) wasm.globals) two in
        any_right (global_refers named) (number_global true (linked_plan L).stack_top ∷ []) (from_members (member_globals L n) 0 L.set.members ++ guard_globals L)
        (any_left (global_refers named) (from_members (member_globals L n) 0 L.set.members) (guard_globals L)
        (any_member (global_refers named) (member_globals L n) 0 L.set.members m m member at place mine))

  pub refers_too : (f : ℕ) → refers wasm f ≡ true → refers merged (n.named m f) ≡ true
  refers_too f e =
      let named = n.named m f in
      let both = and_parts (is_function wasm f) (list_any (elem_refers f) wasm.elems || list_any (export_refers f) wasm.exports || list_any (global_refers f) wasm.globals) e in
      let elems = list_any (elem_refers named) merged.elems in
      let exports = list_any (export_refers named) merged.exports in
      let globals = list_any (global_refers named) merged.globals in
      let by_elem : list_any (elem_refers named) merged.elems ≡ true → (elems || exports || globals) ≡ true = λ h. or_left (elems || exports) globals (or_left elems exports h) in
      and_from (is_function merged named) (elems || exports || globals) (function_too f both.0)
      (either (list_any (elem_refers f) wasm.elems || list_any (export_refers f) wasm.exports) (list_any (global_refers f) wasm.globals) both.1
      (λ h. either (list_any (elem_refers f) wasm.elems) (list_any (export_refers f) wasm.exports) h (λ g. by_elem (elems_refer f both.0 g)) (λ g. by_elem (exports_declared f both.0 g)))
      (λ h. or_right (elems || exports) globals (globals_refer f both.0 h)))
