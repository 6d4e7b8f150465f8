-- What the writers of segments write.
use Rattle.std.proofs.Common.{◌≡◌, ◌≢◌, ℕ, ◌+◌, ◌%◌, ◌<◌, Bool, true, false, List, [], ◌∷◌, ◌++◌, length, length-append, eqb-true, refl, sym, ap, ◌∙◌, subst, arith, ◌⊎◌, inl, inr}
use Rattle.std.specs.Prelude.{nat_eq, not, ◌&&◌}
use Rattle.wasm_form.specs.declared.types.ValType.{ValType}
use Rattle.wasm_form.specs.declared.types.ValType.TheVariants.{I32, I64, F32, F64, FuncRef, ExternRef}
use Rattle.wasm_form.specs.declared.instr.Expr.{Expr}
use Rattle.wasm_form.specs.declared.module.ElemMode.{ElemMode}
use Rattle.wasm_form.specs.declared.module.ElemMode.TheVariants as element
use Rattle.wasm_form.specs.declared.module.ElemItems.{ElemItems}
use Rattle.wasm_form.specs.declared.module.ElemItems.TheVariants.{Funcs, Exprs}
use Rattle.wasm_form.specs.declared.module.Elem.{Elem}
use Rattle.wasm_form.specs.declared.module.DataMode.{DataMode}
use Rattle.wasm_form.specs.declared.module.DataMode.TheVariants as data_mode
use Rattle.wasm_form.specs.declared.module.Data.{Data}
use Rattle.spec_reading.specs.spec_binary.Number.{SpellsUnsigned, last, IsShortest, Appends}
use Rattle.spec_reading.specs.spec_binary.Sequence.{SpellsVec}
use Rattle.spec_reading.proofs.of_spec_binary.UnsignedSpelling.{unsigned_some}
use Rattle.spec_reading.specs.spec_binary.Parts as part
use Rattle.spec_reading.specs.spec_binary.Parts.{SpellsByte, SpellsConstant, SpellsElemMode, SpellsElemItems, SpellsElem, SpellsDataMode, SpellsData}
use Rattle.spec_reading.specs.spec_binary.Joined.{Joined}
use Rattle.wasm_encode.specs.Segments.{IsPlace, is_func_ref, plain_items, names_table, mode_flags, elem_flags, IsElemMode, IsItems, names_memory, data_flags, IsDataMode}
use Rattle.spec_reading.proofs.of_spec_binary.Joined.{joined, behind, unjoined, AtMost, itself, appends_joined, appends_like, appends_nothing}

-- flags below 128 take one byte
pub flags_least : {n : ℕ} {w : List ℕ} (flags : ℕ) → flags < 128 → SpellsUnsigned 32 n w → AtMost (SpellsUnsigned 32 flags) w
flags_least {w} flags h s = let some : 0 < length w = unsigned_some s in (flags ∷ [], last h (omega arith), omega arith)

joined_least : {P Q : List ℕ → Type 0} (w v : List ℕ) → AtMost P w → AtMost Q v → AtMost (Joined P Q) (w ++ v)
joined_least w v p q = (p.0 ++ q.0, joined _ _ p.1 q.1, omega (arith, p.2, q.2, length-append p.0 q.0, length-append w v))

longer_least : {P : List ℕ → Type 0} (w v : List ℕ) → P v → AtMost P (w ++ v)
longer_least w v p = (v, p, omega (arith, length-append w v))

func_ref : (t : ValType) → is_func_ref t ≡ true → t ≡ FuncRef
func_ref FuncRef e = refl
func_ref I32 e = absurd cc
func_ref I64 e = absurd cc
func_ref F32 e = absurd cc
func_ref F64 e = absurd cc
func_ref ExternRef e = absurd cc

-- both are so where it isn't so that not both are
both : (a b : Bool) → false ≡ not (a && b) → (a ≡ true) × (b ≡ true)
both true true e = (refl, refl)
both true false e = absurd cc
both false b e = absurd cc

and_true : (a : Bool) → a ≡ (a && true)
and_true true = refl
and_true false = refl

-- the modes and items that are written are spelled with these flags
mode_spelled : (named : Bool) (mode : ElemMode) (items : ElemItems) {v : List ℕ} → named ≡ names_table mode items → IsElemMode named mode v → SpellsElemMode (elem_flags named mode items % 4) mode v
mode_spelled true (element.Active table offset) (Funcs ns) {v} e p = unjoined (SpellsElemMode 2 (element.Active table offset)) (λ w u s t. part.named_table s t) v p
mode_spelled true (element.Active table offset) (Exprs t es) {v} e p = unjoined (SpellsElemMode 2 (element.Active table offset)) (λ w u s t. part.named_table s t) v p
mode_spelled false (element.Active table offset) (Funcs ns) {v} e p =
    let first = eqb-true table 0 (both (nat_eq table 0) true e).0 in
    subst (λ n. SpellsElemMode 0 (element.Active n offset) v) (sym first) (part.first_table p)
mode_spelled false (element.Active table offset) (Exprs t es) {v} e p =
    let first = eqb-true table 0 (both (nat_eq table 0) (is_func_ref t) e).0 in
    subst (λ n. SpellsElemMode 0 (element.Active n offset) v) (sym first) (part.first_table p)
mode_spelled named element.Passive (Funcs ns) e p = subst (SpellsElemMode 1 element.Passive) (sym p) part.passive
mode_spelled named element.Passive (Exprs t es) e p = subst (SpellsElemMode 1 element.Passive) (sym p) part.passive
mode_spelled named element.Declarative (Funcs ns) e p = subst (SpellsElemMode 3 element.Declarative) (sym p) part.declarative
mode_spelled named element.Declarative (Exprs t es) e p = subst (SpellsElemMode 3 element.Declarative) (sym p) part.declarative

named_flags : (mode : ElemMode) → (0 < mode_flags true mode) × (mode_flags true mode < 4)
named_flags (element.Active table offset) = (omega arith, omega arith)
named_flags element.Passive = (omega arith, omega arith)
named_flags element.Declarative = (omega arith, omega arith)

-- what isn't named is of table 0, with plain items
unnamed : (mode : ElemMode) (items : ElemItems) → false ≡ names_table mode items → (mode_flags false mode ≡ 0) × (plain_items items ≡ true)
unnamed (element.Active table offset) items e = (refl, (both (nat_eq table 0) (plain_items items) e).1)
unnamed element.Passive items e = absurd cc
unnamed element.Declarative items e = absurd cc

items_spelled : (named : Bool) (mode : ElemMode) (items : ElemItems) {u : List ℕ} → named ≡ names_table mode items → IsItems named items u → SpellsElemItems (elem_flags named mode items) items u
items_spelled true mode (Funcs ns) {u} e p =
    let small = named_flags mode in
    unjoined (SpellsElemItems (mode_flags true mode) (Funcs ns)) (λ w v b s. subst (λ x. SpellsElemItems (mode_flags true mode) (Funcs ns) (x ++ v)) (sym b) (part.kind_and_functions small.0 small.1 s)) u p
items_spelled true mode (Exprs t es) {u} e p =
    let small = named_flags mode in
    unjoined (SpellsElemItems (mode_flags true mode + 4) (Exprs t es)) (λ w v s r. part.type_and_expressions (omega (arith, small.0)) (omega (arith, small.1)) s r) u p
items_spelled false mode (Funcs ns) {u} e p = subst (λ f. SpellsElemItems f (Funcs ns) u) (sym (unnamed mode (Funcs ns) e).0) (part.functions p)
items_spelled false mode (Exprs t es) {u} e p =
    let plain = unnamed mode (Exprs t es) e in
    let four : mode_flags false mode + 4 ≡ 4 = omega (arith, plain.0) in
    subst (λ f. SpellsElemItems f (Exprs t es) u) (sym four) (subst (λ ty. SpellsElemItems 4 (Exprs ty es) u) (sym (func_ref t plain.1)) (part.expressions p))

-- where the table and the items' kind or type have to be named, they are
has_to_name : {flags low : ℕ} {mode : ElemMode} {items : ElemItems} {v u : List ℕ} → SpellsElemMode low mode v → SpellsElemItems flags items u → low ≡ flags % 4 → names_table mode items ≡ true → low ≢ 0
has_to_name (part.first_table s) (part.functions r) e n z = absurd cc
has_to_name (part.first_table s) (part.kind_and_functions h k r) e n z = absurd (omega arith)
has_to_name (part.first_table s) (part.expressions r) e n z = absurd cc
has_to_name (part.first_table s) (part.type_and_expressions h k q r) e n z = absurd (omega arith)
has_to_name part.passive r e n z = absurd (omega arith)
has_to_name (part.named_table s t) r e n z = absurd (omega arith)
has_to_name part.declarative r e n z = absurd (omega arith)

mode_least : (named : Bool) {low : ℕ} {mode : ElemMode} {v : List ℕ} → (named ≡ true → low ≢ 0) → SpellsElemMode low mode v → AtMost (IsElemMode named mode) v
mode_least true h (part.first_table s) = absurd (h refl refl)
mode_least false h (part.first_table s) = itself _ s
mode_least true h (part.named_table s t) = itself _ (joined _ _ s t)
mode_least false h (part.named_table {w} {v} s t) = longer_least w v t
mode_least named h part.passive = itself _ refl
mode_least named h part.declarative = itself _ refl

items_least : (named : Bool) {flags : ℕ} {items : ElemItems} {u : List ℕ} → (named ≡ true → flags % 4 ≢ 0) → SpellsElemItems flags items u → AtMost (IsItems named items) u
items_least true h (part.functions s) = absurd (h refl refl)
items_least false h (part.functions s) = itself _ s
items_least true h (part.kind_and_functions k l s) = itself _ (behind _ _ s)
items_least false h (part.kind_and_functions {w} k l s) = longer_least (0x00 ∷ []) w s
items_least true h (part.expressions s) = absurd (h refl refl)
items_least false h (part.expressions s) = itself _ s
items_least true h (part.type_and_expressions k l s t) = itself _ (joined _ _ s t)
items_least false h (part.type_and_expressions {w} {v} k l s t) = longer_least w v t

pub few_flags : (named : Bool) (mode : ElemMode) (items : ElemItems) → elem_flags named mode items < 128
few_flags true (element.Active table offset) (Funcs ns) = omega arith
few_flags false (element.Active table offset) (Funcs ns) = omega arith
few_flags true (element.Active table offset) (Exprs t es) = omega arith
few_flags false (element.Active table offset) (Exprs t es) = omega arith
few_flags named element.Passive (Funcs ns) = omega arith
few_flags named element.Passive (Exprs t es) = omega arith
few_flags named element.Declarative (Funcs ns) = omega arith
few_flags named element.Declarative (Exprs t es) = omega arith

-- element segments
abbrev pub ElemWord : Bool → ElemMode → ElemItems → List ℕ → Type 0
ElemWord named mode items = Joined (SpellsUnsigned 32 (elem_flags named mode items)) (Joined (IsElemMode named mode) (IsItems named items))

pub elem_made : (s : Elem) (named : Bool) → named ≡ names_table s.mode s.items → (u : List ℕ) → ElemWord named s.mode s.items u → SpellsElem s u
elem_made s named is =
    unjoined (SpellsElem s) (λ w x f. unjoined (λ y. SpellsElem s (w ++ y)) (λ v y m i. part.segment f (mode_spelled named s.mode s.items is m) (items_spelled named s.mode s.items is i)) x)

elem_least : {s : Elem} {other : List ℕ} (named : Bool) → named ≡ names_table s.mode s.items → SpellsElem s other → AtMost (ElemWord named s.mode s.items) other
elem_least named is (part.segment {s} {flags} {w} {v} {u} f m i) =
    let has : named ≡ true → flags % 4 ≢ 0 = λ e. has_to_name m i refl (sym is ∙ e) in
    joined_least w (v ++ u) (flags_least (elem_flags named s.mode s.items) (few_flags named s.mode s.items) f) (joined_least v u (mode_least named has m) (items_least named has i))

pub elem_written : (s : Elem) (named : Bool) (old first second new : List ℕ) → named ≡ names_table s.mode s.items → Appends (IsShortest (SpellsUnsigned 32 (elem_flags named s.mode s.items))) old first
    → Appends (IsShortest (IsElemMode named s.mode)) first second → Appends (IsShortest (IsItems named s.items)) second new → Appends (IsShortest (SpellsElem s)) old new
elem_written s named old first second new is a b c =
    appends_like old new (elem_made s named is) (λ other e. elem_least named is e) (appends_joined old first new a (appends_joined first second new b c))

-- data segments
data_mode_spelled : (named : Bool) (mode : DataMode) {v : List ℕ} → named ≡ names_memory mode → IsDataMode named mode v → SpellsDataMode (data_flags named mode) mode v
data_mode_spelled true (data_mode.Active memory offset) {v} e p = unjoined (SpellsDataMode 2 (data_mode.Active memory offset)) (λ w u s t. part.named_memory s t) v p
data_mode_spelled false (data_mode.Active memory offset) {v} e p =
    let first = eqb-true memory 0 (both (nat_eq memory 0) true (e ∙ ap not (and_true (nat_eq memory 0)))).0 in
    subst (λ n. SpellsDataMode 0 (data_mode.Active n offset) v) (sym first) (part.first_memory p)
data_mode_spelled named data_mode.Passive e p = subst (SpellsDataMode 1 data_mode.Passive) (sym p) part.passive

data_mode_least : (named : Bool) {flags : ℕ} {mode : DataMode} {v : List ℕ} → named ≡ names_memory mode → SpellsDataMode flags mode v → AtMost (IsDataMode named mode) v
data_mode_least true e (part.first_memory s) = absurd cc
data_mode_least false e (part.first_memory s) = itself _ s
data_mode_least true e (part.named_memory s t) = itself _ (joined _ _ s t)
data_mode_least false e (part.named_memory {w} {v} s t) = longer_least w v t
data_mode_least named e part.passive = itself _ refl

pub few_data_flags : (named : Bool) (mode : DataMode) → data_flags named mode < 128
few_data_flags true (data_mode.Active memory offset) = omega arith
few_data_flags false (data_mode.Active memory offset) = omega arith
few_data_flags named data_mode.Passive = omega arith

abbrev pub DataWord : Bool → Data → List ℕ → Type 0
DataWord named s = Joined (SpellsUnsigned 32 (data_flags named s.mode)) (Joined (IsDataMode named s.mode) (SpellsVec SpellsByte s.bytes))

pub data_made : (s : Data) (named : Bool) → named ≡ names_memory s.mode → (u : List ℕ) → DataWord named s u → SpellsData s u
data_made s named is = unjoined (SpellsData s) (λ w x f. unjoined (λ y. SpellsData s (w ++ y)) (λ v y m b. part.segment f (data_mode_spelled named s.mode is m) b) x)

data_least : {s : Data} {other : List ℕ} (named : Bool) → named ≡ names_memory s.mode → SpellsData s other → AtMost (DataWord named s) other
data_least named is (part.segment {s} {w} {v} {u} f m b) =
    joined_least w (v ++ u) (flags_least (data_flags named s.mode) (few_data_flags named s.mode) f) (joined_least v u (data_mode_least named is m) (itself u b))

pub data_written : (s : Data) (named : Bool) (old first second new : List ℕ) → named ≡ names_memory s.mode → Appends (IsShortest (SpellsUnsigned 32 (data_flags named s.mode))) old first
    → Appends (IsShortest (IsDataMode named s.mode)) first second → Appends (IsShortest (SpellsVec SpellsByte s.bytes)) second new → Appends (IsShortest (SpellsData s)) old new
data_written s named old first second new is a b c =
    appends_like old new (data_made s named is) (λ other e. data_least named is e) (appends_joined old first new a (appends_joined first second new b c))

-- what a writer adds for a mode
nothing_added : {P : List ℕ → Type 0} (old : List ℕ) → ((w : List ℕ) → w ≡ [] → P w) → ((w : List ℕ) → P w → w ≡ []) → Appends (IsShortest P) old old
nothing_added old make least = appends_nothing old (record { spelled = make [] refl; least = λ other p. omega arith })

module _ (named : Bool) (old new : List ℕ) where
  pub place_written : (n : ℕ) (offset : Expr) (middle : List ℕ) → named ≡ true → Appends (IsShortest (SpellsUnsigned 32 n)) old middle → Appends (IsShortest (SpellsConstant offset)) middle new
      → Appends (IsShortest (IsPlace named n offset)) old new
  place_written n offset middle e a b = subst (λ t. Appends (IsShortest (IsPlace t n offset)) old new) (sym e) (appends_joined old middle new a b)

  pub offset_written : (n : ℕ) (offset : Expr) → named ≡ false → Appends (IsShortest (SpellsConstant offset)) old new → Appends (IsShortest (IsPlace named n offset)) old new
  offset_written n offset e a = subst (λ t. Appends (IsShortest (IsPlace t n offset)) old new) (sym e) a

  module _ (mode : ElemMode) where
    pub active_written : (table : ℕ) (offset : Expr) → mode ≡ element.Active table offset → Appends (IsShortest (IsPlace named table offset)) old new → Appends (IsShortest (IsElemMode named mode)) old new
    active_written table offset is p = subst (λ m. Appends (IsShortest (IsElemMode named m)) old new) (sym is) p

  module _ (mode : DataMode) where
    pub active_data_written : (memory : ℕ) (offset : Expr) → mode ≡ data_mode.Active memory offset → Appends (IsShortest (IsPlace named memory offset)) old new → Appends (IsShortest (IsDataMode named mode)) old new
    active_data_written memory offset is p = subst (λ m. Appends (IsShortest (IsDataMode named m)) old new) (sym is) p

pub no_elem_mode : (named : Bool) (mode : ElemMode) (old : List ℕ) → (mode ≡ element.Passive) ⊎ (mode ≡ element.Declarative) → Appends (IsShortest (IsElemMode named mode)) old old
no_elem_mode named mode old (inl is) = subst (λ m. Appends (IsShortest (IsElemMode named m)) old old) (sym is) (nothing_added {P = IsElemMode named element.Passive} old (λ w e. e) (λ w e. e))
no_elem_mode named mode old (inr is) = subst (λ m. Appends (IsShortest (IsElemMode named m)) old old) (sym is) (nothing_added {P = IsElemMode named element.Declarative} old (λ w e. e) (λ w e. e))

pub no_data_mode : (named : Bool) (mode : DataMode) (old : List ℕ) → mode ≡ data_mode.Passive → Appends (IsShortest (IsDataMode named mode)) old old
no_data_mode named mode old is = subst (λ m. Appends (IsShortest (IsDataMode named m)) old old) (sym is) (nothing_added {P = IsDataMode named data_mode.Passive} old (λ w e. e) (λ w e. e))
