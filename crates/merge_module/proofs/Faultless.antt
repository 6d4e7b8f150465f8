-- A module has no fault where each of its parts is supported and fits, and each body has a height.
use Rattle.std.proofs.Common.{◌≡◌, ℕ, suc, ◌+◌, Bool, true, false, List, [], ◌∷◌, ◌++◌, length, map, nat_le, slice_get, Some, None, refl, subst, arith}
use Rattle.std.specs.Prelude.{take}
use Rattle.std.specs.List.{All, list_all}
use Rattle.std.proofs.lemmas.Bool.{and_parts, and_from}
use Rattle.std.proofs.lemmas.List.{length-append}
use Rattle.std.proofs.lemmas.List.Elements.{All-nil, All-cons, All-head, All-tail, All-append}
use Rattle.spec_reading.specs.wasm_form.declared.types.TableType.{TableType}
use Rattle.spec_reading.specs.wasm_form.declared.module.Import.{Import}
use Rattle.spec_reading.specs.wasm_form.declared.module.GlobalDef.{GlobalDef}
use Rattle.spec_reading.specs.wasm_form.declared.module.Elem.{Elem}
use Rattle.spec_reading.specs.wasm_form.declared.module.Code.{Code}
use Rattle.spec_reading.specs.wasm_form.declared.module.Module.{Module}
use Rattle.spec_reading.specs.spec_binary.IndexSpaces.{memory_space}
use Rattle.spec_loading.specs.spec_validation.declared.fault.Place.TheVariants as place
use Rattle.spec_loading.specs.spec_validation.declared.fault.CheckFault.{CheckFault}
use Rattle.spec_loading.specs.spec_validation.declared.fault.CheckFault.TheVariants.{UnsupportedType}
use Rattle.spec_loading.specs.spec_validation.Faults.{Finding, ◌or_else◌, first_in, unless, is_supported, type_supported, desc_supported, import_supported, function_supported, table_supported, global_supported, item_type, elem_supported, body_supported, is_type, import_fits, table_bounded, memory_bounded, global_fits, names_distinct, export_fits, start_fits, elem_fits, data_fits, body_typed, support_fault, module_fault, fault}
use Rattle.spec_loading.specs.spec_linking.Sets.{Member}
use Rattle.spec_loading.specs.Members.{from_members}

-- ---- findings

pub neither : (a b : Finding) → a or_else b ≡ None → (a ≡ None) × (b ≡ None)
neither None b e = (refl, e)
neither (Some x) b e = absurd cc

pub both_none : (a b : Finding) → a ≡ None → b ≡ None → a or_else b ≡ None
both_none a b p q = rw p q

pub holds_so : (b : Bool) (f : CheckFault) → unless b f ≡ None → b ≡ true
holds_so true f e = refl
holds_so false f e = absurd cc

pub so_none : (b : Bool) (f : CheckFault) → b ≡ true → unless b f ≡ None
so_none b f e = rw e refl

pub each_of : {A : Type 0} (find : ℕ → A → Finding) (P : A → Type 0) → ((k : ℕ) (x : A) → find k x ≡ None → P x) → (k : ℕ) (xs : List A)
    → first_in find k xs ≡ None → All P xs
each_of find P so k [] e = All-nil P
each_of find P so k (x ∷ xs) e =
    let parts = neither (find k x) (first_in find (k + 1) xs) e in
    All-cons P x xs (so k x parts.0) (each_of find P so (k + 1) xs parts.1)

pub none_in : {A : Type 0} (find : ℕ → A → Finding) (P : A → Type 0) → ((k : ℕ) (x : A) → P x → find k x ≡ None) → (k : ℕ) (xs : List A) → All P xs
    → first_in find k xs ≡ None
none_in find P so k [] all = refl
none_in find P so k (x ∷ xs) all =
    both_none (find k x) (first_in find (k + 1) xs) (so k x (All-head P x xs all)) (none_in find P so (k + 1) xs (All-tail P x xs all))

pub none_append : {A : Type 0} (find : ℕ → A → Finding) (k : ℕ) (xs ys : List A) → first_in find k xs ≡ None → first_in find (k + length xs) ys ≡ None
    → first_in find k (xs ++ ys) ≡ None
none_append find k [] ys a b = (let place : k + 0 ≡ k = omega arith in subst (λ i. first_in find i ys ≡ None) place b)
none_append find k (x ∷ xs) ys a b =
    let parts = neither (find k x) (first_in find (k + 1) xs) a in
    let place : k + suc (length xs) ≡ k + 1 + length xs = omega arith in
    both_none (find k x) (first_in find (k + 1) (xs ++ ys)) parts.0 (none_append find (k + 1) xs ys parts.1 (subst (λ i. first_in find i ys ≡ None) place b))

-- by the places of the elements
pub none_by : {A : Type 0} (find : ℕ → A → Finding) (k : ℕ) (xs : List A) → ((i : ℕ) (x : A) → slice_get xs i ≡ Some x → find (k + i) x ≡ None)
    → first_in find k xs ≡ None
none_by find k [] each = refl
none_by find k (x ∷ xs) each =
    let place : k + 0 ≡ k = omega arith in
    both_none (find k x) (first_in find (k + 1) xs) (subst (λ j. find j x ≡ None) place (each 0 x refl))
    (none_by find (k + 1) xs (λ i y at. (let later : k + suc i ≡ k + 1 + i = omega arith in subst (λ j. find j y ≡ None) later (each (suc i) y at))))

-- by the members that have them, and their places there
pub members_none : {A : Type 0} (find : ℕ → A → Finding) (of : ℕ → Module → List A) (k : ℕ) (xs : List Member) (start : ℕ)
    → ((j : ℕ) (y : Member) (i : ℕ) (x : A) → slice_get xs j ≡ Some y → slice_get (of (k + j) y.wasm) i ≡ Some x → find (start + (length (from_members of k (take j xs)) + i)) x ≡ None)
    → first_in find start (from_members of k xs) ≡ None
members_none find of k [] start each = refl
members_none find of k (y ∷ ys) start each =
    none_append find start (of k y.wasm) (from_members of (k + 1) ys)
    (none_by find start (of k y.wasm) (λ i x at. (
    let here : slice_get (of (k + 0) y.wasm) i ≡ Some x = (let place : k + 0 ≡ k = omega arith in rw place at) in
    let place : start + (0 + i) ≡ start + i = omega arith in
    subst (λ n. find n x ≡ None) place (each 0 y i x refl here))))
    (members_none find of (k + 1) ys (start + length (of k y.wasm)) (λ j z i x at there. (
    let later : slice_get (of (k + suc j) z.wasm) i ≡ Some x = (let place : k + suc j ≡ k + 1 + j = omega arith in rw place there) in
    let many = length-append (of k y.wasm) (from_members of (k + 1) (take j ys)) in
    let place : start + (length (of k y.wasm ++ from_members of (k + 1) (take j ys)) + i) ≡ start + length (of k y.wasm) + (length (from_members of (k + 1) (take j ys)) + i) = omega arith in
    subst (λ n. find n x ≡ None) place (each (suc j) z i x at later))))

-- one of each member
pub singles_none : {A : Type 0} (find : ℕ → A → Finding) (of : ℕ → Module → A) (k : ℕ) (xs : List Member) (start : ℕ)
    → ((j : ℕ) (y : Member) → slice_get xs j ≡ Some y → find (start + j) (of (k + j) y.wasm) ≡ None)
    → first_in find start (from_members (λ m wasm. of m wasm ∷ []) k xs) ≡ None
singles_none find of k [] start each = refl
singles_none find of k (y ∷ ys) start each =
    let here : find start (of k y.wasm) ≡ None =
    (let place : start + 0 ≡ start = omega arith in let same : k + 0 ≡ k = omega arith in subst (λ m. find start (of m y.wasm) ≡ None) same (subst (λ n. find n (of (k + 0) y.wasm) ≡ None) place (each 0 y refl))) in
    both_none (find start (of k y.wasm)) (first_in find (start + 1) (from_members (λ m wasm. of m wasm ∷ []) (k + 1) ys)) here
    (singles_none find of (k + 1) ys (start + 1) (λ j z at. (
    let place : start + suc j ≡ start + 1 + j = omega arith in
    let same : k + suc j ≡ k + 1 + j = omega arith in
    subst (λ m. find (start + 1 + j) (of m z.wasm) ≡ None) same (subst (λ n. find n (of (k + suc j) z.wasm) ≡ None) place (each (suc j) z at)))))

-- ---- tests of all

pub all_pass : {A : Type 0} (test : A → Bool) (xs : List A) → list_all test xs ≡ true → All (λ x. test x ≡ true) xs
all_pass test [] e = All-nil (λ x. test x ≡ true)
all_pass test (x ∷ xs) e = let parts = and_parts (test x) (list_all test xs) e in All-cons (λ y. test y ≡ true) x xs parts.0 (all_pass test xs parts.1)

pub pass_all : {A : Type 0} (test : A → Bool) (P : A → Type 0) → ((x : A) → P x → test x ≡ true) → (xs : List A) → All P xs → list_all test xs ≡ true
pass_all test P so [] all = refl
pass_all test P so (x ∷ xs) all = and_from (test x) (list_all test xs) (so x (All-head P x xs all)) (pass_all test P so xs (All-tail P x xs all))

pub all_both : {A : Type 0} (P Q : A → Type 0) (xs : List A) → All P xs → All Q xs → All (λ x. P x × Q x) xs
all_both P Q [] p q = All-nil (λ x. P x × Q x)
all_both P Q (x ∷ xs) p q =
    All-cons (λ x. P x × Q x) x xs (All-head P x xs p, All-head Q x xs q) (all_both P Q xs (All-tail P x xs p) (All-tail Q x xs q))

pub all_mapped : {A B : Type 0} (P : A → Type 0) (Q : B → Type 0) (f : A → B) → ((x : A) → P x → Q (f x)) → (xs : List A) → All P xs → All Q (map f xs)
all_mapped P Q f so [] all = All-nil Q
all_mapped P Q f so (x ∷ xs) all = All-cons Q (f x) (map f xs) (so x (All-head P x xs all)) (all_mapped P Q f so xs (All-tail P x xs all))

-- of each member
pub all_of : {A : Type 0} (P : A → Type 0) (of : ℕ → Module → List A) (k : ℕ) (xs : List Member) → ((j : ℕ) (y : Member) → slice_get xs j ≡ Some y → All P (of (k + j) y.wasm))
    → All P (from_members of k xs)
all_of P of k [] each = All-nil P
all_of P of k (y ∷ ys) each =
    let place : k + 0 ≡ k = omega arith in
    All-append P (of k y.wasm) (from_members of (k + 1) ys) (subst (λ m. All P (of m y.wasm)) place (each 0 y refl))
    (all_of P of (k + 1) ys (λ j z at. (let later : k + suc j ≡ k + 1 + j = omega arith in subst (λ m. All P (of m z.wasm)) later (each (suc j) z at))))

-- ---- the parts

module _ (wasm : Module) where
  abbrev pub ImportFits : Import → Type 0
  ImportFits i = (desc_supported wasm i.desc ≡ true) × (import_fits wasm i ≡ true)

  abbrev pub TypeFits : ℕ → Type 0
  TypeFits t = (type_supported wasm t ≡ true) × (is_type wasm t ≡ true)

  abbrev pub GlobalFits : GlobalDef → Type 0
  GlobalFits g = (is_supported g.ty.value ≡ true) × (global_fits wasm g ≡ true)

  abbrev pub ElemFits : Elem → Type 0
  ElemFits s = (is_supported (item_type s.items) ≡ true) × (elem_fits wasm s ≡ true)

  abbrev pub SupportedBody : Code → Type 0
  SupportedBody c = (k : ℕ) → body_supported wasm k c ≡ None

abbrev pub TableFits : TableType → Type 0
TableFits ty = (is_supported ty.elem ≡ true) × (table_bounded ty ≡ true)

pub record Fits (wasm : Module) : Type 0 where
  pub imports : All (ImportFits wasm) wasm.imports
  pub funcs : All (TypeFits wasm) wasm.funcs
  pub tables : All TableFits wasm.tables
  pub one_memory : nat_le (length (memory_space wasm)) 1 ≡ true
  pub memories : list_all memory_bounded wasm.memories ≡ true
  pub globals : All (GlobalFits wasm) wasm.globals
  pub names : names_distinct wasm.exports ≡ true
  pub exports : list_all (export_fits wasm) wasm.exports ≡ true
  pub start : start_fits wasm wasm.start ≡ true
  pub elems : All (ElemFits wasm) wasm.elems
  pub datas : list_all (data_fits wasm) wasm.datas ≡ true
  pub supported : All (SupportedBody wasm) wasm.codes
  pub typed : first_in (body_typed wasm) 0 wasm.codes ≡ None

pub fits_valid : (wasm : Module) → Fits wasm → fault wasm ≡ None
fits_valid wasm fits = both_none (support_fault wasm) (module_fault wasm or_else first_in (body_typed wasm) 0 wasm.codes) support (both_none (module_fault wasm) (first_in (body_typed wasm) 0 wasm.codes) parts fits.typed)
  where
    support : support_fault wasm ≡ None
    support =
        let imports = none_in (import_supported wasm) (ImportFits wasm) (λ k i h. so_none (desc_supported wasm i.desc) (UnsupportedType (place.Import k)) h.0) 0 wasm.imports fits.imports in
        let funcs = none_in (function_supported wasm) (TypeFits wasm) (λ k t h. so_none (type_supported wasm t) (UnsupportedType (place.Function k)) h.0) 0 wasm.funcs fits.funcs in
        let tables = none_in table_supported TableFits (λ k ty h. so_none (is_supported ty.elem) (UnsupportedType (place.Table k)) h.0) 0 wasm.tables fits.tables in
        let globals = none_in global_supported (GlobalFits wasm) (λ k g h. so_none (is_supported g.ty.value) (UnsupportedType (place.Global k)) h.0) 0 wasm.globals fits.globals in
        let elems = none_in elem_supported (ElemFits wasm) (λ k s h. so_none (is_supported (item_type s.items)) (UnsupportedType (place.Element k)) h.0) 0 wasm.elems fits.elems in
        let bodies = none_in (body_supported wasm) (SupportedBody wasm) (λ k c h. h k) 0 wasm.codes fits.supported in
        rw (imports, funcs, tables, globals, elems, bodies) refl

    parts : module_fault wasm ≡ None
    parts =
        let imports = pass_all (import_fits wasm) (ImportFits wasm) (λ i h. h.1) wasm.imports fits.imports in
        let funcs = pass_all (is_type wasm) (TypeFits wasm) (λ t h. h.1) wasm.funcs fits.funcs in
        let tables = pass_all table_bounded TableFits (λ ty h. h.1) wasm.tables fits.tables in
        let globals = pass_all (global_fits wasm) (GlobalFits wasm) (λ g h. h.1) wasm.globals fits.globals in
        let elems = pass_all (elem_fits wasm) (ElemFits wasm) (λ s h. h.1) wasm.elems fits.elems in
        rw (imports, funcs, tables, fits.one_memory, fits.memories, globals, fits.names, fits.exports, fits.start, elems, fits.datas) refl

-- ---- what is supported in a valid module

pub record IsSupported (wasm : Module) : Type 0 where
  pub imports : All (λ (i : Import). desc_supported wasm i.desc ≡ true) wasm.imports
  pub funcs : All (λ t. type_supported wasm t ≡ true) wasm.funcs
  pub tables : All (λ (ty : TableType). is_supported ty.elem ≡ true) wasm.tables
  pub globals : All (λ (g : GlobalDef). is_supported g.ty.value ≡ true) wasm.globals
  pub elems : All (λ (s : Elem). is_supported (item_type s.items) ≡ true) wasm.elems
  pub codes : All (λ c. (k : ℕ) × (body_supported wasm k c ≡ None)) wasm.codes

pub valid_supported : (wasm : Module) → fault wasm ≡ None → IsSupported wasm
valid_supported wasm none =
    let whole = neither (support_fault wasm) (module_fault wasm or_else first_in (body_typed wasm) 0 wasm.codes) none in
    let one = neither (first_in (import_supported wasm) 0 wasm.imports) _ whole.0 in
    let two = neither (first_in (function_supported wasm) 0 wasm.funcs) _ one.1 in
    let three = neither (first_in table_supported 0 wasm.tables) _ two.1 in
    let four = neither (first_in global_supported 0 wasm.globals) _ three.1 in
    let five = neither (first_in elem_supported 0 wasm.elems) _ four.1 in
    record {
      imports = each_of (import_supported wasm) (λ (i : Import). desc_supported wasm i.desc ≡ true) (λ k i. holds_so (desc_supported wasm i.desc) (UnsupportedType (place.Import k))) 0 wasm.imports one.0;
      funcs = each_of (function_supported wasm) (λ t. type_supported wasm t ≡ true) (λ k t. holds_so (type_supported wasm t) (UnsupportedType (place.Function k))) 0 wasm.funcs two.0;
      tables = each_of table_supported (λ (ty : TableType). is_supported ty.elem ≡ true) (λ k ty. holds_so (is_supported ty.elem) (UnsupportedType (place.Table k))) 0 wasm.tables three.0;
      globals = each_of global_supported (λ (g : GlobalDef). is_supported g.ty.value ≡ true) (λ k g. holds_so (is_supported g.ty.value) (UnsupportedType (place.Global k))) 0 wasm.globals four.0;
      elems = each_of elem_supported (λ (s : Elem). is_supported (item_type s.items) ≡ true) (λ k s. holds_so (is_supported (item_type s.items)) (UnsupportedType (place.Element k))) 0 wasm.elems five.0;
      codes = each_of (body_supported wasm) (λ c. (k : ℕ) × (body_supported wasm k c ≡ None)) (λ k c e. (k, e)) 0 wasm.codes five.1;
    }
