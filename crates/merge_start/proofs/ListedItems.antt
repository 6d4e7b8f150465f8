-- In a linked set an item of a segment refers to a function by its number, or is null: imported globals are numbers. So what is listed for functions
-- renumbers it whole.
use Rattle.std.proofs.Common.{◌≡◌, ℕ, suc, ◌+◌, ◌<◌, Bool, true, false, List, [], ◌∷◌, ◌++◌, length, map, slice_get, Option, Some, None, refl, sym, ap, ap₂, ◌∙◌, subst, arith, if◌then◌else◌}
use Rattle.std.specs.List.{list_all}
use Rattle.std.proofs.lemmas.Bool.{and_parts}
use Rattle.std.proofs.lemmas.Option.{slice_get_within}
use Rattle.wasm_form.specs.declared.types.ValType.{ValType}
use Rattle.wasm_form.specs.declared.types.ValType.TheVariants.{I32, FuncRef}
use Rattle.wasm_form.specs.declared.types.GlobalType.{GlobalType}
use Rattle.wasm_form.specs.declared.instr.Instr.{Instr, roll-Instr, out-Instr}
use Rattle.wasm_form.specs.declared.instr.Instr.TheOpen as Open
use Rattle.wasm_form.specs.declared.instr.Expr.{Expr}
use Rattle.wasm_form.specs.declared.index.IndexForm.{IndexForm}
use Rattle.wasm_form.specs.declared.index.IndexForm.TheVariants.{Br, BrIf, Call, LocalGet, LocalSet, LocalTee, GlobalGet, GlobalSet, TableGet, TableSet, RefFunc}
use Rattle.wasm_form.specs.Index.{index_form}
use Rattle.wasm_form.specs.declared.module.ElemMode.TheVariants as elem_mode
use Rattle.wasm_form.specs.declared.module.ElemItems.{ElemItems}
use Rattle.wasm_form.specs.declared.module.ElemItems.TheVariants as elem_items
use Rattle.wasm_form.specs.declared.module.Elem.{Elem}
use Rattle.wasm_form.specs.declared.module.Module.{Module}
use Rattle.spec_loading.proofs.of_wasm_form.Levels.{fold_level}
use Rattle.spec_loading.specs.spec_binary.Options.{◌>>=◌}
use Rattle.spec_loading.specs.spec_binary.SameTypes.{same_type}
use Rattle.spec_loading.specs.spec_binary.IndexSpaces.{imports_of, globals_in}
use Rattle.spec_loading.specs.spec_validation.Faults.{immutable, constant_index, constant_step, is_constant, items_fit, elem_mode_fits, elem_fits}
use Rattle.spec_loading.proofs.of_spec_validation.Parts.{parts_fit}
use Rattle.spec_loading.specs.spec_linking.Sets as sets
use Rattle.spec_loading.specs.spec_linking.Gathering.{IsMember, IsSet}
use Rattle.spec_loading.specs.spec_linking.LinkedSets.{LinkedSet, wasm_of}
use Rattle.spec_loading.specs.spec_linking.Slots.{linked_plan, fresh_of}
use Rattle.spec_loading.specs.spec_linking.Links.{Finding, Links, first_fault, import_fault}
use Rattle.spec_loading.proofs.of_spec_binary.Lists.{got, holds_at}
use Rattle.spec_loading.proofs.of_spec_linking.LinkedFacts.{linked_member}
use Rattle.spec_loading.specs.Members.{from_members}
use Rattle.dyl_slots.proofs.Globals.{global_is_word}
use Rattle.dyl_link.proofs.Indices.{bases_long, table_bases_long}
use Rattle.merge_match.specs.Renumbering.{Numbers, index_in, rolled, same_expr, instr, code, expr}
use Rattle.merge_match.proofs.OneLevel.{in_expr, inside}
use Rattle.merge_start.specs.declared.numbers.StartNumbers.{StartNumbers}
use Rattle.spec_loading.proofs.of_spec_validation.Constants.{reference_alone}
use Rattle.merge_start.specs.Passive.{functions_at, functions_span, passive_mode, renumbered_items, passive_elem, own_elems, fresh_elems, AreNamed, renumbered_elems, slots_elem, ListedIsRenumbered}

-- ---- imported globals are numbers

all_none : {A : Type 0} (find : A → Finding) (xs : List A) → ((i : ℕ) (x : A) → slice_get xs i ≡ Some x → find x ≡ None) → first_fault find xs ≡ None
all_none find [] each = refl
all_none find (x ∷ xs) each = (let here = each 0 x refl in let later = all_none find xs (λ i y e. each (suc i) y e) in rw (here, later) refl)

no_function : (b : Bool) (v : ValType) → v ≡ I32 → (if b then None else Some v) ≡ Some FuncRef → ⊥
no_function true v word h = absurd cc
no_function false v word h = (let q : Some I32 ≡ Some FuncRef = subst (λ (u : ValType). Some u ≡ Some FuncRef) word h in absurd cc)

module _ (L : LinkedSet) (shape : IsSet L.set) (links : Links L) (m : ℕ) (member : sets.Member) (at : slice_get L.set.members m ≡ Some member)
    (lt : m < length L.set.members) where
  abbrev wasm : Module
  wasm = member.wasm

  here : wasm_of L m ≡ Some wasm
  here = ap (λ (o : Option sets.Member). o >>= λ x. Some x.wasm) at

  imports_none : first_fault (import_fault L m wasm) wasm.imports ≡ None
  imports_none = all_none (import_fault L m wasm) wasm.imports (linked_member L m member links at).imports

  is_word : (g : ℕ) (ty : GlobalType) → slice_get (imports_of globals_in wasm.imports) g ≡ Some ty → ty.value ≡ I32
  is_word g ty e =
      let memory = got (linked_plan L).bases m (let long = bases_long L in omega arith) in
      let table = got (linked_plan L).table_bases m (let long = table_bases_long L in omega arith) in
      global_is_word L m wasm here imports_none (record { memory = memory.0; table = table.0 })
      memory.1 table.1 g ty e

  no_global : (g : ℕ) (o : Option GlobalType) → slice_get (imports_of globals_in wasm.imports) g ≡ o → (o >>= immutable) ≡ Some FuncRef → ⊥
  no_global g None e fits = absurd cc
  no_global g (Some ty) e fits = no_function ty.mutable ty.value (is_word g ty e) fits

  -- ---- items

  module _ (s : StartNumbers) (n : Numbers) (named : AreNamed L s n) where
    abbrev P : Numbers
    P = functions_at s.functions (functions_span L m wasm)

    name_is : (f : ℕ) → P.named 0 f ≡ n.named m f
    name_is f = sym (named.named m f wasm here)

    index_is : (o : Option IndexForm) (i : ℕ) → (o >>= λ f. constant_index wasm f i) ≡ Some FuncRef → index_in P 0 o i ≡ index_in n m o i
    index_is None i fits = refl
    index_is (Some RefFunc) i fits = name_is i
    index_is (Some Call) i fits = name_is i
    index_is (Some GlobalGet) i fits = absurd (no_global i (slice_get (imports_of globals_in wasm.imports) i) refl fits)
    index_is (Some Br) i fits = refl
    index_is (Some BrIf) i fits = refl
    index_is (Some LocalGet) i fits = refl
    index_is (Some LocalSet) i fits = refl
    index_is (Some LocalTee) i fits = refl
    index_is (Some GlobalSet) i fits = absurd cc
    index_is (Some TableGet) i fits = absurd cc
    index_is (Some TableSet) i fits = absurd cc

    level_is : (x : Open.Instr-F Instr Expr) → constant_step wasm x ≡ Some FuncRef
        → rolled P 0 (inside P 0 x) ≡ rolled n m (inside n m x)
    level_is (Open.I32Const c) fits = refl
    level_is (Open.I64Const c) fits = refl
    level_is (Open.RefNull t) fits = refl
    level_is (Open.Index op i) fits = ap (λ j. roll-Instr (Open.Index op j)) (index_is (index_form op) i fits)
    level_is _ fits = absurd cc

    instr_is : (i : Instr) → constant_step wasm (out-Instr i) ≡ Some FuncRef → instr P 0 i ≡ instr n m i
    instr_is i fits =
        fold_level (rolled P 0) same_expr (in_expr P 0) (λ is. refl) i
        ∙ level_is (out-Instr i) fits
        ∙ sym (fold_level (rolled n m) same_expr (in_expr n m) (λ is. refl) i)

    list_is : (e : Expr) → is_constant wasm FuncRef e ≡ true → code P 0 e.list ≡ code n m e.list
    list_is e fits =
        let one = reference_alone wasm e fits in
        subst (λ (is : List Instr). code P 0 is ≡ code n m is) (sym one.1) (ap (λ (j : Instr). j ∷ []) (instr_is one.0 one.2))

    exprs_are : (es : List Expr) → list_all (is_constant wasm FuncRef) es ≡ true → map (expr P 0) es ≡ map (expr n m) es
    exprs_are [] fits = refl
    exprs_are (e ∷ es) fits =
        let both = and_parts (is_constant wasm FuncRef e) (list_all (is_constant wasm FuncRef) es) fits in
        ap₂ (λ (x : Expr) (xs : List Expr). x ∷ xs) (ap (λ (is : List Instr). record { list = is }) (list_is e both.0)) (exprs_are es both.1)

    names_are : (fs : List ℕ) → map (P.named 0) fs ≡ map (n.named m) fs
    names_are [] = refl
    names_are (f ∷ fs) = ap₂ (λ (x : ℕ) (xs : List ℕ). x ∷ xs) (name_is f) (names_are fs)

    items_are : (items : ElemItems) → items_fit wasm items ≡ true → renumbered_items P 0 items ≡ renumbered_items n m items
    items_are (elem_items.Funcs fs) fits = ap elem_items.Funcs (names_are fs)
    items_are (elem_items.Exprs t es) fits =
        ap (elem_items.Exprs t) (exprs_are es (and_parts (same_type t FuncRef) (list_all (is_constant wasm FuncRef) es) fits).1)

    elems_same : (es : List Elem) → list_all (elem_fits wasm) es ≡ true → map (passive_elem P 0) es ≡ map (passive_elem n m) es
    elems_same [] fits = refl
    elems_same (e ∷ es) fits =
        let both = and_parts (elem_fits wasm e) (list_all (elem_fits wasm) es) fits in
        let one = and_parts (elem_mode_fits wasm e.mode) (items_fit wasm e.items) both.0 in
        ap₂ (λ (x : Elem) (xs : List Elem). x ∷ xs) (ap (λ (i : ElemItems). record { mode = passive_mode e.mode; items = i }) (items_are e.items one.1))
        (elems_same es both.1)

    pub own_renumbered : own_elems L s m wasm ≡ renumbered_elems n m wasm
    own_renumbered =
        let is : IsMember member = holds_at IsMember L.set.members m member shape.members at in
        elems_same wasm.elems (parts_fit wasm is.read.valid).elems

    pub fresh_renumbered : fresh_elems L s m wasm ≡ slots_elem L n m ∷ []
    fresh_renumbered =
        ap (λ (fs : List ℕ). record { mode = elem_mode.Passive; items = elem_items.Funcs fs } ∷ []) (names_are (fresh_of L m) ∙ named.fresh m lt)

-- ---- all members

members_same : (f g : ℕ → Module → List Elem) (k : ℕ) (xs : List sets.Member)
    → ((i : ℕ) (x : sets.Member) → slice_get xs i ≡ Some x → f (k + i) x.wasm ≡ g (k + i) x.wasm) → from_members f k xs ≡ from_members g k xs
members_same f g k [] each = refl
members_same f g k (x ∷ xs) each =
    let first : k + 0 ≡ k = omega arith in
    let here : f k x.wasm ≡ g k x.wasm = subst (λ j. f j x.wasm ≡ g j x.wasm) first (each 0 x refl) in
    ap₂ (λ (a b : List Elem). a ++ b) here
    (members_same f g (k + 1) xs (λ i y e. (let place : k + suc i ≡ k + 1 + i = omega arith in subst (λ j. f j y.wasm ≡ g j y.wasm) place (each (suc i) y e))))

pub listed_is_renumbered : ListedIsRenumbered
listed_is_renumbered L shape links s n named =
    ap₂ (λ (a b : List Elem). a ++ b)
    (members_same (own_elems L s) (renumbered_elems n) 0 L.set.members (λ i x e. at_place (own_elems L s) (renumbered_elems n) i x
    (own_renumbered L shape links i x e (slice_get_within L.set.members i x e) s n named)))
    (members_same (fresh_elems L s) slots 0 L.set.members (λ i x e. at_place (fresh_elems L s) slots i x
    (fresh_renumbered L shape links i x e (slice_get_within L.set.members i x e) s n named)))
  where
    slots : ℕ → Module → List Elem
    slots m wasm = slots_elem L n m ∷ []

    at_place : (f g : ℕ → Module → List Elem) (i : ℕ) (x : sets.Member) → f i x.wasm ≡ g i x.wasm → f (0 + i) x.wasm ≡ g (0 + i) x.wasm
    at_place f g i x e = (let place : i ≡ 0 + i = omega arith in subst (λ j. f j x.wasm ≡ g j x.wasm) place e)
