-- A module has no fault where each of its parts is supported and fits, and each body has a height.
use Rattle.std.proofs.Common.{◌≡◌, ℕ, ◌+◌, Bool, true, false, List, [], ◌∷◌, length, nat_le, Some, None, refl}
use Rattle.std.specs.List.{All, list_all}
use Rattle.std.proofs.lemmas.Bool.{and_parts, and_from}
use Rattle.std.proofs.lemmas.List.Elements.{All-nil, All-cons, All-head, All-tail}
use Rattle.spec_loading.specs.wasm_form.declared.types.TableType.{TableType}
use Rattle.spec_loading.specs.wasm_form.declared.module.Import.{Import}
use Rattle.spec_loading.specs.wasm_form.declared.module.GlobalDef.{GlobalDef}
use Rattle.spec_loading.specs.wasm_form.declared.module.Elem.{Elem}
use Rattle.spec_loading.specs.wasm_form.declared.module.Module.{Module}
use Rattle.spec_loading.specs.spec_binary.IndexSpaces.{memory_space}
use Rattle.spec_loading.specs.spec_validation.declared.fault.Place.TheVariants as place
use Rattle.spec_loading.specs.spec_validation.declared.fault.CheckFault.{CheckFault}
use Rattle.spec_loading.specs.spec_validation.declared.fault.CheckFault.TheVariants.{UnsupportedType}
use Rattle.spec_loading.specs.spec_validation.Faults.{Finding, ◌or_else◌, first_in, unless, is_supported, type_supported, desc_supported, import_supported, function_supported, table_supported, global_supported, item_type, elem_supported, body_supported, is_type, import_fits, table_bounded, memory_bounded, global_fits, names_distinct, export_fits, start_fits, elem_fits, data_fits, body_typed, support_fault, module_fault, fault}

-- ---- findings

pub neither : (a b : Finding) → a or_else b ≡ None → (a ≡ None) × (b ≡ None)
neither None b e = (refl, e)
neither (Some x) b e = absurd cc

pub both_none : (a b : Finding) → a ≡ None → b ≡ None → a or_else b ≡ None
both_none a b p q = rw p q

pub holds_so : (b : Bool) (f : CheckFault) → unless b f ≡ None → b ≡ true
holds_so true f e = refl
holds_so false f e = absurd cc

pub so_none : (b : Bool) (f : CheckFault) → b ≡ true → unless b f ≡ None
so_none b f e = rw e refl

pub each_of : {A : Type 0} (find : ℕ → A → Finding) (P : A → Type 0) → ((k : ℕ) (x : A) → find k x ≡ None → P x) → (k : ℕ) (xs : List A)
    → first_in find k xs ≡ None → All P xs
each_of find P so k [] e = All-nil P
each_of find P so k (x ∷ xs) e =
    let parts = neither (find k x) (first_in find (k + 1) xs) e in
    All-cons P x xs (so k x parts.0) (each_of find P so (k + 1) xs parts.1)

pub none_in : {A : Type 0} (find : ℕ → A → Finding) (P : A → Type 0) → ((k : ℕ) (x : A) → P x → find k x ≡ None) → (k : ℕ) (xs : List A) → All P xs
    → first_in find k xs ≡ None
none_in find P so k [] all = refl
none_in find P so k (x ∷ xs) all =
    both_none (find k x) (first_in find (k + 1) xs) (so k x (All-head P x xs all)) (none_in find P so (k + 1) xs (All-tail P x xs all))

-- ---- tests of all

pub all_pass : {A : Type 0} (test : A → Bool) (xs : List A) → list_all test xs ≡ true → All (λ x. test x ≡ true) xs
all_pass test [] e = All-nil (λ x. test x ≡ true)
all_pass test (x ∷ xs) e = let parts = and_parts (test x) (list_all test xs) e in All-cons (λ y. test y ≡ true) x xs parts.0 (all_pass test xs parts.1)

pub pass_all : {A : Type 0} (test : A → Bool) (P : A → Type 0) → ((x : A) → P x → test x ≡ true) → (xs : List A) → All P xs → list_all test xs ≡ true
pass_all test P so [] all = refl
pass_all test P so (x ∷ xs) all = and_from (test x) (list_all test xs) (so x (All-head P x xs all)) (pass_all test P so xs (All-tail P x xs all))

pub all_both : {A : Type 0} (P Q : A → Type 0) (xs : List A) → All P xs → All Q xs → All (λ x. P x × Q x) xs
all_both P Q [] p q = All-nil (λ x. P x × Q x)
all_both P Q (x ∷ xs) p q =
    All-cons (λ x. P x × Q x) x xs (All-head P x xs p, All-head Q x xs q) (all_both P Q xs (All-tail P x xs p) (All-tail Q x xs q))

pub all_so : {A : Type 0} (P Q : A → Type 0) → ((x : A) → P x → Q x) → (xs : List A) → All P xs → All Q xs
all_so P Q so [] all = All-nil Q
all_so P Q so (x ∷ xs) all = All-cons Q x xs (so x (All-head P x xs all)) (all_so P Q so xs (All-tail P x xs all))

-- ---- the parts

module _ (wasm : Module) where
  abbrev pub ImportFits : Import → Type 0
  ImportFits i = (desc_supported wasm i.desc ≡ true) × (import_fits wasm i ≡ true)

  abbrev pub TypeFits : ℕ → Type 0
  TypeFits t = (type_supported wasm t ≡ true) × (is_type wasm t ≡ true)

  abbrev pub GlobalFits : GlobalDef → Type 0
  GlobalFits g = (is_supported g.ty.value ≡ true) × (global_fits wasm g ≡ true)

  abbrev pub ElemFits : Elem → Type 0
  ElemFits s = (is_supported (item_type s.items) ≡ true) × (elem_fits wasm s ≡ true)

abbrev pub TableFits : TableType → Type 0
TableFits ty = (is_supported ty.elem ≡ true) × (table_bounded ty ≡ true)

pub record Fits (wasm : Module) : Type 0 where
  pub imports : All (ImportFits wasm) wasm.imports
  pub funcs : All (TypeFits wasm) wasm.funcs
  pub tables : All TableFits wasm.tables
  pub one_memory : nat_le (length (memory_space wasm)) 1 ≡ true
  pub memories : list_all memory_bounded wasm.memories ≡ true
  pub globals : All (GlobalFits wasm) wasm.globals
  pub names : names_distinct wasm.exports ≡ true
  pub exports : list_all (export_fits wasm) wasm.exports ≡ true
  pub start : start_fits wasm wasm.start ≡ true
  pub elems : All (ElemFits wasm) wasm.elems
  pub datas : list_all (data_fits wasm) wasm.datas ≡ true
  pub supported : first_in (body_supported wasm) 0 wasm.codes ≡ None
  pub typed : first_in (body_typed wasm) 0 wasm.codes ≡ None

pub fits_valid : (wasm : Module) → Fits wasm → fault wasm ≡ None
fits_valid wasm fits = both_none (support_fault wasm) (module_fault wasm or_else first_in (body_typed wasm) 0 wasm.codes) support (both_none (module_fault wasm) (first_in (body_typed wasm) 0 wasm.codes) parts fits.typed)
  where
    support : support_fault wasm ≡ None
    support =
        let imports = none_in (import_supported wasm) (ImportFits wasm) (λ k i h. so_none (desc_supported wasm i.desc) (UnsupportedType (place.Import k)) h.0) 0 wasm.imports fits.imports in
        let funcs = none_in (function_supported wasm) (TypeFits wasm) (λ k t h. so_none (type_supported wasm t) (UnsupportedType (place.Function k)) h.0) 0 wasm.funcs fits.funcs in
        let tables = none_in table_supported TableFits (λ k ty h. so_none (is_supported ty.elem) (UnsupportedType (place.Table k)) h.0) 0 wasm.tables fits.tables in
        let globals = none_in global_supported (GlobalFits wasm) (λ k g h. so_none (is_supported g.ty.value) (UnsupportedType (place.Global k)) h.0) 0 wasm.globals fits.globals in
        let elems = none_in elem_supported (ElemFits wasm) (λ k s h. so_none (is_supported (item_type s.items)) (UnsupportedType (place.Element k)) h.0) 0 wasm.elems fits.elems in
        let bodies = fits.supported in
        rw (imports, funcs, tables, globals, elems, bodies) refl

    parts : module_fault wasm ≡ None
    parts =
        let imports = pass_all (import_fits wasm) (ImportFits wasm) (λ i h. h.1) wasm.imports fits.imports in
        let funcs = pass_all (is_type wasm) (TypeFits wasm) (λ t h. h.1) wasm.funcs fits.funcs in
        let tables = pass_all table_bounded TableFits (λ ty h. h.1) wasm.tables fits.tables in
        let globals = pass_all (global_fits wasm) (GlobalFits wasm) (λ g h. h.1) wasm.globals fits.globals in
        let elems = pass_all (elem_fits wasm) (ElemFits wasm) (λ s h. h.1) wasm.elems fits.elems in
        rw (imports, funcs, tables, fits.one_memory, fits.memories, globals, fits.names, fits.exports, fits.start, elems, fits.datas) refl
