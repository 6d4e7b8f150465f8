-- Of the words of what stands in sections one alone is the shortest.
use Rattle.std.proofs.Common.{◌≡◌, ◌⊎◌, inl, inr, ℕ, ◌%◌, ◌<◌, ◌≤◌, Bool, true, false, List, [], ◌∷◌, ◌++◌, length, length-append, refl, sym, subst, arith}
use Rattle.wasm_form.specs.declared.instr.Expr.{Expr}
use Rattle.wasm_form.specs.declared.module.ImportDesc.{ImportDesc}
use Rattle.wasm_form.specs.declared.module.ImportDesc.TheVariants as imported
use Rattle.wasm_form.specs.declared.module.Import.{Import}
use Rattle.wasm_form.specs.declared.module.GlobalDef.{GlobalDef}
use Rattle.wasm_form.specs.declared.module.ExportDesc.{ExportDesc}
use Rattle.wasm_form.specs.declared.module.Export.{Export}
use Rattle.wasm_form.specs.declared.module.ElemMode.{ElemMode}
use Rattle.wasm_form.specs.declared.module.ElemMode.TheVariants as element
use Rattle.wasm_form.specs.declared.module.ElemItems.{ElemItems}
use Rattle.wasm_form.specs.declared.module.ElemItems.TheVariants.{Funcs, Exprs}
use Rattle.wasm_form.specs.declared.module.Elem.{Elem}
use Rattle.wasm_form.specs.declared.module.Group.{Group}
use Rattle.wasm_form.specs.declared.module.Code.{Code}
use Rattle.wasm_form.specs.declared.module.DataMode.{DataMode}
use Rattle.wasm_form.specs.declared.module.DataMode.TheVariants as data_mode
use Rattle.wasm_form.specs.declared.module.Data.{Data}
use Rattle.spec_reading.specs.spec_binary.Number.{SpellsUnsigned}
use Rattle.spec_reading.specs.spec_binary.Trees.{nesting_all}
use Rattle.spec_reading.specs.spec_binary.Parts as part
use Rattle.spec_reading.specs.spec_binary.Parts.{SpellsByte, byte, SpellsConstant, constant, SpellsImportDesc, SpellsImport, import, SpellsGlobal, SpellsExportDesc, SpellsExport, export, SpellsElemMode, SpellsElemItems, SpellsElem, SpellsGroup, group, SpellsFunc, func, SpellsCode, code, SpellsDataMode, SpellsData}
use Rattle.spec_reading.proofs.of_spec_binary.Joined.{joined, behind, unjoined, after_byte}
use Rattle.spec_reading.proofs.of_spec_binary.UnsignedSpelling.{one_shortest_unsigned, unsigned_some}
use Rattle.spec_reading.proofs.of_spec_binary.NameSpelling.{one_shortest_name}
use Rattle.wasm_encode.specs.Segments.{IsPlace, names_table, elem_flags, IsElemMode, IsItems, names_memory, data_flags, IsDataMode}
use Rattle.wasm_encode.proofs.Parts.{byte_is, constant_expr, import_function, import_table, import_memory, import_global, import_parts, global_parts, kind_of, number_of, export_parts, export_made, whole_export_parts, group_parts, func_parts}
use Rattle.wasm_encode.proofs.Segments.{flags_least, few_flags, ElemWord, elem_made, few_data_flags, DataWord, data_made}
use Rattle.wasm_encode.proofs.OneWord.{OneWord, one_is, one_byte, one_like, one_split, one_joined, one_vec, Sized, one_sized}
use Rattle.wasm_encode.proofs.OneForm.{one_ref_type, one_val_type, one_limits, one_table_type, one_global_type}
use Rattle.wasm_encode.proofs.OneCode.{one_expr}

number : (v : ℕ) → OneWord (SpellsUnsigned 32 v)
number v = one_shortest_unsigned 32 v

flat_of : {e : Expr} {w : List ℕ} → SpellsConstant e w → nesting_all e.list ≡ 0
flat_of (constant flat s) = flat

one_constant : (e : Expr) → OneWord (SpellsConstant e)
one_constant e w v s t = one_like (λ u p. constant_expr p) (λ u p. constant (flat_of s.spelled) p) (one_expr e) w v s t

-- imports, globals and exports
one_import_desc : (d : ImportDesc) → OneWord (SpellsImportDesc d)
one_import_desc (imported.Func n) =
    one_like (λ w s. import_function s) (after_byte (SpellsImportDesc (imported.Func n)) (λ w s. part.function s)) (one_joined (one_byte 0x00) (number n))
one_import_desc (imported.Table ty) =
    one_like (λ w s. import_table s) (after_byte (SpellsImportDesc (imported.Table ty)) (λ w s. part.table s)) (one_joined (one_byte 0x01) (one_table_type ty))
one_import_desc (imported.Space limits) =
    one_like (λ w s. import_memory s) (after_byte (SpellsImportDesc (imported.Space limits)) (λ w s. part.memory s)) (one_joined (one_byte 0x02) (one_limits limits))
one_import_desc (imported.Global ty) =
    one_like (λ w s. import_global s) (after_byte (SpellsImportDesc (imported.Global ty)) (λ w s. part.global s)) (one_joined (one_byte 0x03) (one_global_type ty))

pub one_import : (i : Import) → OneWord (SpellsImport i)
one_import i =
    one_like (λ w s. import_parts s) (unjoined (SpellsImport i) (λ w u s. unjoined (λ x. SpellsImport i (w ++ x)) (λ v x t d. import s t d) u))
    (one_joined (one_shortest_name i.module) (one_joined (one_shortest_name i.field) (one_import_desc i.desc)))

pub one_global : (g : GlobalDef) → OneWord (SpellsGlobal g)
one_global g = one_like (λ w s. global_parts s) (unjoined (SpellsGlobal g) (λ w v s t. part.global s t)) (one_joined (one_global_type g.ty) (one_constant g.init))

one_export_desc : (d : ExportDesc) → OneWord (SpellsExportDesc d)
one_export_desc d = one_like (λ w s. export_parts s) (after_byte (SpellsExportDesc d) (export_made d)) (one_joined (one_byte (kind_of d)) (number (number_of d)))

pub one_export : (e : Export) → OneWord (SpellsExport e)
one_export e = one_like (λ w s. whole_export_parts s) (unjoined (SpellsExport e) (λ w v s t. export s t)) (one_joined (one_shortest_name e.name) (one_export_desc e.desc))

-- bodies
one_group : (g : Group) → OneWord (SpellsGroup g)
one_group g = one_like (λ w s. group_parts s) (unjoined (SpellsGroup g) (λ w v s t. group s t)) (one_joined (number g.count) (one_val_type g.ty))

one_func : (c : Code) → OneWord (SpellsFunc c)
one_func c = one_like (λ w s. func_parts s) (unjoined (SpellsFunc c) (λ w v s t. func s t)) (one_joined (one_vec one_group c.locals) (one_expr c.body))

code_sized : {c : Code} {w : List ℕ} → SpellsCode c w → Sized (SpellsFunc c) w
code_sized (code {size} {w} n s) = record { size = size; contents = w; number = n; holds = s; parts = refl }

pub one_code : (c : Code) → OneWord (SpellsCode c)
one_code c = one_like (λ w s. code_sized s) (λ w z. subst (SpellsCode c) (sym z.parts) (code z.number z.holds)) (one_sized (one_func c))

-- segments
one_place : (named : Bool) (n : ℕ) (offset : Expr) → OneWord (IsPlace named n offset)
one_place true n offset = one_joined (number n) (one_constant offset)
one_place false n offset = one_constant offset

one_elem_mode : (named : Bool) (mode : ElemMode) → OneWord (IsElemMode named mode)
one_elem_mode named (element.Active table offset) = one_place named table offset
one_elem_mode named element.Passive = one_is [] (λ w p. p)
one_elem_mode named element.Declarative = one_is [] (λ w p. p)

one_items : (named : Bool) (items : ElemItems) → OneWord (IsItems named items)
one_items true (Funcs ns) = one_joined (one_byte 0x00) (one_vec number ns)
one_items false (Funcs ns) = one_vec number ns
one_items true (Exprs t es) = one_joined (one_ref_type t) (one_vec one_constant es)
one_items false (Exprs t es) = one_vec one_constant es

-- The mode and the items are written as the flags say that are the least, or the table is named and needn't be.
data Written (flags : ℕ) (named : Bool) (mode : ElemMode) (items : ElemItems) (v u : List ℕ) : Type 0 where
  so : flags ≡ elem_flags named mode items → IsElemMode named mode v → IsItems named items u → Written flags named mode items v u
  longer : (x y : List ℕ) → IsElemMode named mode x → IsItems named items y → length x < length v → length y ≤ length u → Written flags named mode items v u

mode_low : {flags low : ℕ} {mode : ElemMode} {items : ElemItems} {v u : List ℕ} → SpellsElemMode low mode v → SpellsElemItems flags items u → low ≡ flags % 4 → (named : Bool)
    → named ≡ names_table mode items → Written flags named mode items v u
mode_low (part.first_table s) (part.functions r) e true n = absurd cc
mode_low (part.first_table s) (part.functions r) e false n = so refl s r
mode_low (part.first_table s) (part.kind_and_functions h k r) e named n = absurd (omega arith)
mode_low (part.first_table s) (part.expressions r) e true n = absurd cc
mode_low (part.first_table s) (part.expressions r) e false n = so refl s r
mode_low (part.first_table s) (part.type_and_expressions h k q r) e named n = absurd (omega arith)
mode_low part.passive (part.functions r) e named n = absurd (omega arith)
mode_low part.passive (part.kind_and_functions h k r) e true n = so (omega arith) refl (behind _ _ r)
mode_low part.passive (part.kind_and_functions h k r) e false n = absurd cc
mode_low part.passive (part.expressions r) e named n = absurd (omega arith)
mode_low part.passive (part.type_and_expressions h k q r) e true n = so (omega arith) refl (joined _ _ q r)
mode_low part.passive (part.type_and_expressions h k q r) e false n = absurd cc
mode_low (part.named_table s t) (part.functions r) e named n = absurd (omega arith)
mode_low (part.named_table s t) (part.kind_and_functions h k r) e true n = so (omega arith) (joined _ _ s t) (behind _ _ r)
mode_low (part.named_table {w} {v} s t) (part.kind_and_functions {w = u} h k r) e false n =
    let some : 0 < length w = unsigned_some s in
    longer v u t r (omega (arith, length-append w v)) (omega arith)
mode_low (part.named_table s t) (part.expressions r) e named n = absurd (omega arith)
mode_low (part.named_table s t) (part.type_and_expressions h k q r) e true n = so (omega arith) (joined _ _ s t) (joined _ _ q r)
mode_low (part.named_table {w} {v} s t) (part.type_and_expressions {w = x} {v = u} h k q r) e false n =
    let some : 0 < length w = unsigned_some s in
    longer v u t r (omega (arith, length-append w v)) (omega (arith, length-append x u))
mode_low part.declarative (part.functions r) e named n = absurd (omega arith)
mode_low part.declarative (part.kind_and_functions h k r) e true n = so (omega arith) refl (behind _ _ r)
mode_low part.declarative (part.kind_and_functions h k r) e false n = absurd cc
mode_low part.declarative (part.expressions r) e named n = absurd (omega arith)
mode_low part.declarative (part.type_and_expressions h k q r) e true n = so (omega arith) refl (joined _ _ q r)
mode_low part.declarative (part.type_and_expressions h k q r) e false n = absurd cc

elem_parts : (s : Elem) (named : Bool) → named ≡ names_table s.mode s.items → {w : List ℕ} → SpellsElem s w → ElemWord named s.mode s.items w ⊎ ((u : List ℕ) × ElemWord named s.mode s.items u × (length u < length w))
elem_parts s named is (part.segment {flags} {w} {v} {u} f m i) = by (mode_low m i refl named is)
  where
    by : Written flags named s.mode s.items v u → ElemWord named s.mode s.items (w ++ (v ++ u)) ⊎ ((x : List ℕ) × ElemWord named s.mode s.items x × (length x < length (w ++ (v ++ u))))
    by (so e p q) = inl (joined w (v ++ u) (subst (λ n. SpellsUnsigned 32 n w) e f) (joined v u p q))
    by (longer x y p q less le) =
        let small = flags_least (elem_flags named s.mode s.items) (few_flags named s.mode s.items) f in
        inr (small.0 ++ (x ++ y), joined small.0 (x ++ y) small.1 (joined x y p q), omega (arith, small.2, length-append small.0 (x ++ y), length-append x y, length-append w (v ++ u), length-append v u))

pub one_elem : (s : Elem) → OneWord (SpellsElem s)
one_elem s =
    let named = names_table s.mode s.items in
    one_split (λ w p. elem_parts s named refl p) (elem_made s named refl) (one_joined (number (elem_flags named s.mode s.items)) (one_joined (one_elem_mode named s.mode) (one_items named s.items)))

one_data_mode : (named : Bool) (mode : DataMode) → OneWord (IsDataMode named mode)
one_data_mode named (data_mode.Active memory offset) = one_place named memory offset
one_data_mode named data_mode.Passive = one_is [] (λ w p. p)

-- the same of a data segment's mode
data WrittenData (flags : ℕ) (named : Bool) (mode : DataMode) (v : List ℕ) : Type 0 where
  so_data : flags ≡ data_flags named mode → IsDataMode named mode v → WrittenData flags named mode v
  longer_data : (x : List ℕ) → IsDataMode named mode x → length x < length v → WrittenData flags named mode v

data_low : {flags : ℕ} {mode : DataMode} {v : List ℕ} → SpellsDataMode flags mode v → (named : Bool) → named ≡ names_memory mode → WrittenData flags named mode v
data_low (part.first_memory s) true n = absurd cc
data_low (part.first_memory s) false n = so_data refl s
data_low part.passive true n = absurd cc
data_low part.passive false n = so_data refl refl
data_low (part.named_memory s t) true n = so_data refl (joined _ _ s t)
data_low (part.named_memory {w} {v} s t) false n = let some : 0 < length w = unsigned_some s in longer_data v t (omega (arith, length-append w v))

one_of_bytes : (b : ℕ) → OneWord (SpellsByte b)
one_of_bytes b = one_is (b ∷ []) (λ w s. byte_is s)

data_parts : (s : Data) (named : Bool) → named ≡ names_memory s.mode → {w : List ℕ} → SpellsData s w → DataWord named s w ⊎ ((u : List ℕ) × DataWord named s u × (length u < length w))
data_parts s named is (part.segment {flags} {w} {v} {u} f m b) = by (data_low m named is)
  where
    by : WrittenData flags named s.mode v → DataWord named s (w ++ (v ++ u)) ⊎ ((x : List ℕ) × DataWord named s x × (length x < length (w ++ (v ++ u))))
    by (so_data e p) = inl (joined w (v ++ u) (subst (λ n. SpellsUnsigned 32 n w) e f) (joined v u p b))
    by (longer_data x p less) =
        let small = flags_least (data_flags named s.mode) (few_data_flags named s.mode) f in
        inr (small.0 ++ (x ++ u), joined small.0 (x ++ u) small.1 (joined x u p b), omega (arith, small.2, length-append small.0 (x ++ u), length-append x u, length-append w (v ++ u), length-append v u))

pub one_data : (s : Data) → OneWord (SpellsData s)
one_data s =
    let named = names_memory s.mode in
    one_split (λ w p. data_parts s named refl p) (data_made s named refl) (one_joined (number (data_flags named s.mode)) (one_joined (one_data_mode named s.mode) (one_vec one_of_bytes s.bytes)))
