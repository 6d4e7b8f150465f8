-- How long the element segments of the module are spelled.
use Rattle.std.proofs.Common.{◌≡◌, ℕ, zero, suc, ◌+◌, ◌*◌, ◌≤◌, List, [], ◌∷◌, ◌++◌, length, map, Option, refl, ap, arith, length-append}
use Rattle.wasm_form.specs.declared.types.ValType.TheVariants.{FuncRef}
use Rattle.wasm_form.specs.declared.instr.Expr.{Expr}
use Rattle.wasm_form.specs.declared.module.ElemMode.TheVariants as elem_mode
use Rattle.wasm_form.specs.declared.module.ElemItems.{ElemItems}
use Rattle.wasm_form.specs.declared.module.ElemItems.TheVariants as elem_items
use Rattle.wasm_form.specs.declared.module.Elem.{Elem}
use Rattle.wasm_form.specs.declared.module.Module.{Module}
use Rattle.wasm_form.specs.declared.runtime.Ref.{Ref}
use Rattle.spec_reading.specs.spec_binary.Sequence.{SpellsEach, SpellsVec, none, next}
use Rattle.spec_reading.specs.spec_binary.Types as types
use Rattle.spec_reading.specs.spec_binary.IndexSpaces.{function_space}
use Rattle.spec_reading.specs.spec_binary.Parts.{SpellsConstant, SpellsElemMode, SpellsElemItems, SpellsElem}
use Rattle.spec_reading.specs.spec_binary.Parts as parts
use Rattle.spec_reading.proofs.of_spec_binary.UnsignedSpelling.{unsigned_few}
use Rattle.spec_loading.specs.spec_runtime.Tables.{TableInstance}
use Rattle.wasm_encode.specs.Weight.{sum_of, expr_weight, items_weight, elem_weight}
use Rattle.wasm_encode.proofs.Units.{expr_about, labels_within, value_type_one}
use Rattle.snap_module.specs.Held.{Stretch, offset_expr, entry_expr, held_elem, held_elems, table_elem, table_elems, below, declared_elem}
use Rattle.spec_snapshots.specs.Stretches.{AreSparse, entries}
use Rattle.snap_sizes.proofs.Spelled.{offset_short, entry_short, split, one_most, mapped_most, vec_most}
use Rattle.snap_sizes.proofs.Apart.{cost, apart_most}

-- ---- parts of a segment

passive_none : {flags : ℕ} {w : List ℕ} → SpellsElemMode flags elem_mode.Passive w → length w ≡ 0
passive_none parts.passive = refl

declarative_none : {flags : ℕ} {w : List ℕ} → SpellsElemMode flags elem_mode.Declarative w → length w ≡ 0
declarative_none parts.declarative = refl

active_short : {flags t : ℕ} (k : ℕ) {w : List ℕ} → SpellsElemMode flags (elem_mode.Active t (offset_expr k)) w → length w ≤ 12
active_short k (parts.first_table {w = w} s) = (let few = offset_short k w s in omega arith)
active_short k (parts.named_table {w = w} {v = v} number s) =
    (let few = offset_short k v s in let one = unsigned_few number in omega (arith, length-append w v))

exprs_most : (es : List Expr) (w : List ℕ) → SpellsVec SpellsConstant es w → length w ≤ 5 + 16 * sum_of expr_weight es
exprs_most es w s = vec_most SpellsConstant es (16 * sum_of expr_weight es) (all es) w s
  where
    all : (es : List Expr) (w : List ℕ) → SpellsEach SpellsConstant es w → length w ≤ 16 * sum_of expr_weight es
    all [] _ none = omega arith
    all (e ∷ es) _ (next {w = w} {v = v} (parts.constant flat s) rest) =
        let one = (expr_about s).most in
        let later = all es v rest in
        omega (arith, length-append w v)

items_most : {flags : ℕ} {items : ElemItems} {w : List ℕ} → SpellsElemItems flags items w → length w ≤ 16 * items_weight items
items_most (parts.functions s) = (let few = (labels_within s).1 in omega arith)
items_most (parts.kind_and_functions low high s) = (let few = (labels_within s).1 in omega arith)
items_most (parts.expressions {es} {w} s) = (let few = exprs_most es w s in omega arith)
items_most (parts.type_and_expressions {es = es} {w = w} {v = v} low high ty s) =
    let few = exprs_most es v s in
    let one = value_type_one (types.reference ty) in
    omega (arith, length-append w v)

functions_most : {flags : ℕ} {ns w : List ℕ} → SpellsElemItems flags (elem_items.Funcs ns) w → length w ≤ 6 + 5 * length ns
functions_most (parts.functions s) = (let few = (labels_within s).1 in omega arith)
functions_most (parts.kind_and_functions low high s) = (let few = (labels_within s).1 in omega arith)

entries_most : (rs : List (Option Ref)) (w : List ℕ) → SpellsVec SpellsConstant (map entry_expr rs) w → length w ≤ 5 + sum_of (λ r. 7) rs
entries_most rs w s =
    vec_most SpellsConstant (map entry_expr rs) (sum_of (λ r. 7) rs) (λ v each. mapped_most SpellsConstant entry_expr (λ r. 7) entry_short rs v each) w s

sevens : (rs : List (Option Ref)) → sum_of (λ r. 7) rs ≡ 7 * length rs
sevens [] = refl
sevens (r ∷ rs) = (let later = sevens rs in omega arith)

entry_items_most : {flags : ℕ} (rs : List (Option Ref)) {w : List ℕ} → SpellsElemItems flags (elem_items.Exprs FuncRef (map entry_expr rs)) w
    → length w ≤ 6 + 7 * length rs
entry_items_most rs (parts.expressions {w = w} s) = (let few = entries_most rs w s in let all = sevens rs in omega arith)
entry_items_most rs (parts.type_and_expressions {w = w} {v = v} low high ty s) =
    let few = entries_most rs v s in
    let all = sevens rs in
    let one = value_type_one (types.reference ty) in
    omega (arith, length-append w v)

-- ---- those of the merged module

some_items : (items : ElemItems) → 1 ≤ items_weight items
some_items (elem_items.Funcs ns) = omega arith
some_items (elem_items.Exprs t es) = omega arith

passive_most : (items : ElemItems) (w : List ℕ) → SpellsElem (record { mode = elem_mode.Passive; items = items }) w → length w ≤ 5 + 16 * items_weight items
passive_most items _ (parts.segment {w = w} {v = v} {u = u} flags mode s) =
    let few = unsigned_few flags in
    let nothing = passive_none mode in
    let all = items_most s in
    omega (arith, length-append w (v ++ u), length-append v u)

held_most : (e : Elem) (x : List (Option Ref)) (w : List ℕ) → SpellsElem (held_elem e x) w → length w ≤ 16 * elem_weight e
held_most e [] w s = (let few = passive_most (elem_items.Funcs []) w s in let some = some_items e.items in omega arith)
held_most e (r ∷ rs) w s = (let few = passive_most e.items w s in omega arith)

pub helds_most : (es : List Elem) (xs : List (List (Option Ref))) (w : List ℕ) → SpellsEach SpellsElem (held_elems es xs) w → length w ≤ 16 * sum_of elem_weight es
helds_most [] xs _ none = omega arith
helds_most (e ∷ es) [] _ none = omega arith
helds_most (e ∷ es) (x ∷ xs) _ (next {w = w} {v = v} here rest) =
    let one = held_most e x w here in
    let later = helds_most es xs v rest in
    omega (arith, length-append w v)

-- ---- those of tables

stretch_most : (t : ℕ) (s : Stretch (Option Ref)) (w : List ℕ) → SpellsElem (table_elem t s) w → length w ≤ cost 23 7 s
stretch_most t s _ (parts.segment {w = w} {v = v} {u = u} flags mode items) =
    let few = unsigned_few flags in
    let active = active_short s.at mode in
    let all = entry_items_most s.items items in
    omega (arith, length-append w (v ++ u), length-append v u)

pub tables_most : (gap : ℕ) → 16 ≤ gap → (t : ℕ) (xs : List TableInstance) (sss : List (List (Stretch (Option Ref)))) → AreSparse gap xs sss
    → (w : List ℕ) → SpellsEach SpellsElem (table_elems t sss) w → length w ≤ 7 * sum_of entries xs + 23 * length xs
tables_most gap wide t [] [] are _ none = omega arith
tables_most gap wide t (x ∷ xs) (ss ∷ sss) are w s =
    let parts = split SpellsElem (map (table_elem t) ss) (table_elems (t + 1) sss) w s in
    let here = mapped_most SpellsElem (table_elem t) (cost 23 7) (stretch_most t) ss parts.first parts.one in
    let most = apart_most gap 23 7 (length x.entries) (omega arith) ss are.0.apart are.0.made.within in
    let later = tables_most gap wide (t + 1) xs sss are.1 parts.second parts.other in
    let both = parts.both in
    omega arith
tables_most gap wide t _ _ are w s = absurd are

-- ---- the segment that names each function

many_below : (n : ℕ) → length (below n) ≡ n
many_below zero = refl
many_below (suc n) = ap suc (many_below n)

pub declared_most : (m : Module) (w : List ℕ) → SpellsElem (declared_elem m) w → length w ≤ 11 + 5 * length (function_space m)
declared_most m _ (parts.segment {w = w} {v = v} {u = u} flags mode s) =
    let few = unsigned_few flags in
    let nothing = declarative_none mode in
    let all = functions_most s in
    let many = many_below (length (function_space m)) in
    omega (arith, length-append w (v ++ u), length-append v u)

-- ---- all of them

pub elems_most : (m : Module) (es : List Elem) (xs : List (List (Option Ref))) (gap : ℕ) → 16 ≤ gap → (ts : List TableInstance)
    (sss : List (List (Stretch (Option Ref)))) → AreSparse gap ts sss → (w : List ℕ)
    → SpellsVec SpellsElem (held_elems es xs ++ (table_elems 0 sss ++ declared_elem m ∷ [])) w
    → length w ≤ 16 + 16 * sum_of elem_weight es + 7 * sum_of entries ts + 23 * length ts + 5 * length (function_space m)
elems_most m es xs gap wide ts sss are w s =
    let most = vec_most SpellsElem (held_elems es xs ++ (table_elems 0 sss ++ declared_elem m ∷ []))
    (11 + 16 * sum_of elem_weight es + 7 * sum_of entries ts + 23 * length ts + 5 * length (function_space m)) each w s in
    omega arith
  where
    each : (v : List ℕ) → SpellsEach SpellsElem (held_elems es xs ++ (table_elems 0 sss ++ declared_elem m ∷ [])) v
        → length v ≤ 11 + 16 * sum_of elem_weight es + 7 * sum_of entries ts + 23 * length ts + 5 * length (function_space m)
    each v t =
        let first = split SpellsElem (held_elems es xs) (table_elems 0 sss ++ declared_elem m ∷ []) v t in
        let second = split SpellsElem (table_elems 0 sss) (declared_elem m ∷ []) first.second first.other in
        let one = helds_most es xs first.first first.one in
        let two = tables_most gap wide 0 ts sss are second.first second.one in
        let three = one_most SpellsElem (declared_elem m) (11 + 5 * length (function_space m)) (declared_most m) second.second second.other in
        let both = first.both in
        let rest = second.both in
        omega arith
