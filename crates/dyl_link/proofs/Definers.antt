-- Names that are defined twice, by the definitions of names.
use Rattle.std.proofs.Common.{◌≡◌, ℕ, zero, suc, ◌+◌, ◌<◌, ◌≤◌, Bool, true, false, not, ◌&&◌, ◌||◌, cond, List, [], ◌∷◌, ◌++◌, length, take, Option, Some, None, is_some, slice_get, bytes_eq, refl, ap, ap₂, sym, ◌∙◌, arith}
use Rattle.std.specs.List.{range_with_len}
use Rattle.std.proofs.lemmas.Slice.Eq.{bytes_eq-Decides}
use Rattle.std.proofs.lemmas.List.{length-take-le}
use Rattle.wasm_form.specs.declared.module.Export.{Export}
use Rattle.wasm_form.specs.declared.module.ExportDesc.{ExportDesc}
use Rattle.wasm_form.specs.declared.module.Module.{Module}
use Rattle.spec_loading.specs.spec_binary.Options.{◌>>=◌}
use Rattle.spec_loading.specs.spec_binary.Exports.{exported_as}
use Rattle.spec_loading.proofs.of_spec_binary.Lists.{holds_at}
use Rattle.spec_loading.specs.spec_validation.Faults.{names_distinct, contains_name}
use Rattle.spec_loading.proofs.of_spec_validation.Parts.{parts_fit}
use Rattle.spec_loading.specs.spec_linking.Sets.{Member, ClosedSet}
use Rattle.spec_loading.specs.spec_linking.Gathering.{IsSet, IsMember}
use Rattle.spec_loading.specs.spec_linking.Definitions.{Symbol, FunctionSymbol, DataSymbol, Undefined, reserved_names, is_one_of, desc_symbol, export_symbol, symbol_of, defined_by, or_defined, searched}
use Rattle.spec_loading.specs.spec_linking.Links.{Finding, ◌or_else◌, first_fault, definer, duplicate_as, duplicate_of}
use Rattle.dyl_link.specs.Duplicates.{member_in, where_defined, duplicate_by}

-- ---- the names that a module exports are distinct

split_and : (a b : Bool) → (not a && b) ≡ true → (a ≡ false) × (b ≡ true)
split_and true b h = absurd cc
split_and false b h = (refl, h)

same_bytes : (a : List ℕ) → bytes_eq a a ≡ true
same_bytes a = (bytes_eq-Decides a a).1 refl

is_contained : (es : List Export) (k : ℕ) (e : Export) → slice_get es k ≡ Some e → contains_name e.name es ≡ true
is_contained [] k e at = absurd cc
is_contained (x ∷ es) zero e at = let same : x ≡ e = cc in ap (λ b. b || contains_name e.name es) (ap (λ y. bytes_eq e.name y.name) same ∙ same_bytes e.name)
is_contained (x ∷ es) (suc k) e at = by (bytes_eq e.name x.name) (is_contained es k e at)
  where
    by : (b : Bool) → contains_name e.name es ≡ true → (b || contains_name e.name es) ≡ true
    by true rest = refl
    by false rest = rest

exported_once : (es : List Export) (k : ℕ) (e : Export) → names_distinct es ≡ true → slice_get es k ≡ Some e → exported_as e.name es ≡ Some e.desc
exported_once [] k e once at = absurd cc
exported_once (x ∷ es) zero e once at =
    let same : x ≡ e = cc in
    ap (λ b. cond b (Some x.desc) (exported_as e.name es)) (ap (λ y. bytes_eq e.name y.name) same ∙ same_bytes e.name) ∙ ap (λ y. Some y.desc) same
exported_once (x ∷ es) (suc k) e once at =
    let h = split_and (contains_name x.name es) (names_distinct es) once in
    by (bytes_eq e.name x.name) refl h.0 (exported_once es k e h.1 at)
  where
    by : (b : Bool) → bytes_eq e.name x.name ≡ b → contains_name x.name es ≡ false → exported_as e.name es ≡ Some e.desc → cond b (Some x.desc) (exported_as e.name es) ≡ Some e.desc
    by true same none rest =
        let name : e.name ≡ x.name = (bytes_eq-Decides e.name x.name).0 same in
        let there : contains_name x.name es ≡ true = ap (λ n. contains_name n es) (sym name) ∙ is_contained es k e at in
        absurd cc
    by false same none rest = rest

-- what an export defines its name as is what the module defines it as
symbol_here : (m : Module) (k : ℕ) (e : Export) → names_distinct m.exports ≡ true → slice_get m.exports k ≡ Some e → symbol_of m e.name ≡ export_symbol m e
symbol_here m k e once at = ap (λ (o : Option ExportDesc). cond (is_one_of e.name reserved_names) None (o >>= desc_symbol m)) (exported_once m.exports k e once at)

-- ---- the first of some members that defines a name

first_defined : (S : ClosedSet) (name : List ℕ) (k : ℕ) (xs : List Member) → ((j : ℕ) → j < length xs → slice_get S.members (k + j) ≡ slice_get xs j)
    → member_in (searched S (range_with_len k (length xs)) name) ≡ definer k xs name
first_defined S name k [] here = refl
first_defined S name k (x ∷ xs) here =
    let at : slice_get S.members k ≡ Some x = ap (slice_get S.members) (place k) ∙ here 0 (omega arith) in
    ap (λ (o : Option Member). member_in (or_defined (defined_by k (o >>= λ y. symbol_of y.wasm name)) (searched S (range_with_len (k + 1) (length xs)) name))) at
    ∙ by (symbol_of x.wasm name) (first_defined S name (k + 1) xs (λ j less. ap (slice_get S.members) (next k j) ∙ here (suc j) (omega arith)))
  where
    place : (k : ℕ) → k ≡ k + 0
    place k = omega arith

    next : (k j : ℕ) → (k + 1) + j ≡ k + suc j
    next k j = omega arith

    by : (s : Option Symbol) → member_in (searched S (range_with_len (k + 1) (length xs)) name) ≡ definer (k + 1) xs name
        → member_in (or_defined (defined_by k s) (searched S (range_with_len (k + 1) (length xs)) name)) ≡ cond (is_some s) (Some k) (definer (k + 1) xs name)
    by None rest = rest
    by (Some (FunctionSymbol f)) rest = refl
    by (Some (DataSymbol p)) rest = refl

taken_at : {A : Type 0} (xs : List A) (n j : ℕ) → j < length (take n xs) → slice_get xs (0 + j) ≡ slice_get (take n xs) j
taken_at [] zero j less = absurd (omega arith)
taken_at [] (suc n) j less = absurd (omega arith)
taken_at (x ∷ xs) zero j less = absurd (omega arith)
taken_at (x ∷ xs) (suc n) zero less = refl
taken_at (x ∷ xs) (suc n) (suc j) less = let here : 0 + suc j ≡ suc (0 + j) = omega arith in ap (slice_get (x ∷ xs)) here ∙ taken_at xs n j (omega arith)

earlier_exact : (S : ClosedSet) (m : ℕ) (name : List ℕ) → m ≤ length S.members → member_in (searched S (range_with_len 0 m) name) ≡ definer 0 (take m S.members) name
earlier_exact S m name less =
    let count : m ≡ length (take m S.members) = sym (length-take-le m S.members less) in
    ap (λ n. member_in (searched S (range_with_len 0 n) name)) count ∙ first_defined S name 0 (take m S.members) (taken_at S.members m)

-- ---- together

own_member : (m : ℕ) (s : Option Symbol) → member_in (or_defined (defined_by m s) Undefined) ≡ (s >>= λ x. Some m)
own_member m None = refl
own_member m (Some (FunctionSymbol f)) = refl
own_member m (Some (DataSymbol p)) = refl

record IsExport (S : ClosedSet) (m : ℕ) (member : Member) (e : Export) : Type 0 where
  here : slice_get S.members m ≡ Some member
  less : m ≤ length S.members
  once : names_distinct member.wasm.exports ≡ true
  place : ℕ
  at : slice_get member.wasm.exports place ≡ Some e

duplicate_exact : (S : ClosedSet) (m : ℕ) (member : Member) (e : Export) → IsExport S m member e → duplicate_by S (range_with_len 0 m) m e ≡ duplicate_of (take m S.members) m member.wasm e
duplicate_exact S m member e x =
    let own : member_in (searched S (m ∷ []) e.name) ≡ (export_symbol member.wasm e >>= λ s. Some m) =
    ap (λ (o : Option Member). member_in (or_defined (defined_by m (o >>= λ y. symbol_of y.wasm e.name)) Undefined)) x.here
    ∙ own_member m (symbol_of member.wasm e.name) ∙ ap (λ (s : Option Symbol). s >>= λ t. Some m) (symbol_here member.wasm x.place e x.once x.at) in
    ap₂ (where_defined m e.name) own (earlier_exact S m e.name x.less) ∙ by (export_symbol member.wasm e)
  where
    by : (s : Option Symbol) → where_defined m e.name (s >>= λ t. Some m) (definer 0 (take m S.members) e.name) ≡ duplicate_as (take m S.members) m e.name s
    by None = refl
    by (Some s) = refl

-- the first one of some exports
same_first : {A : Type 0} (f g : A → Finding) (xs : List A) → ((k : ℕ) (x : A) → slice_get xs k ≡ Some x → f x ≡ g x) → first_fault f xs ≡ first_fault g xs
same_first f g [] same = refl
same_first f g (x ∷ xs) same = ap₂ (λ a b. a or_else b) (same 0 x refl) (same_first f g xs (λ k y at. same (suc k) y at))

pub duplicates_exact : (S : ClosedSet) (m : ℕ) (member : Member) → IsSet S → slice_get S.members m ≡ Some member → m ≤ length S.members
    → first_fault (duplicate_by S (range_with_len 0 m) m) member.wasm.exports ≡ first_fault (duplicate_of (take m S.members) m member.wasm) member.wasm.exports
duplicates_exact S m member set here less =
    let valid : IsMember member = holds_at IsMember S.members m member set.members here in
    let once = (parts_fit member.wasm valid.read.valid).names in
    same_first (duplicate_by S (range_with_len 0 m) m) (duplicate_of (take m S.members) m member.wasm) member.wasm.exports
    (λ k e at. duplicate_exact S m member e (record { here = here; less = less; once = once; place = k; at = at }))

-- ---- the numbers of the earlier members

range_last : (a n : ℕ) → range_with_len a (suc n) ≡ range_with_len a n ++ (a + n) ∷ []
range_last a zero = let here : a ≡ a + 0 = omega arith in ap (λ k. k ∷ []) here
range_last a (suc n) = let here : (a + 1) + n ≡ a + suc n = omega arith in ap (λ r. a ∷ r) (range_last (a + 1) n ∙ ap (λ k. range_with_len (a + 1) n ++ k ∷ []) here)

pub range_more : (m : ℕ) → range_with_len 0 (m + 1) ≡ range_with_len 0 m ++ m ∷ []
range_more m =
    let next : m + 1 ≡ suc m = omega arith in
    let here : 0 + m ≡ m = omega arith in
    ap (range_with_len 0) next ∙ range_last 0 m ∙ ap (λ k. range_with_len 0 m ++ k ∷ []) here
