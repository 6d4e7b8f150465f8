-- Bodies one after the other, by their numbers and those of their members.
use Rattle.std.proofs.Common.{◌≡◌, ◌<◌, ℕ, zero, suc, ◌+◌, List, [], ◌∷◌, ◌++◌, length, map, drop, get_or, slice_get, if◌then◌else◌, is_some, IsTrue, Option, Some, option_map, refl, sym, ap, ◌∙◌, arith, append_assoc}
use Rattle.wasm_form.specs.declared.module.Code.{Code}
use Rattle.wasm_form.specs.declared.module.Module.{Module}
use Rattle.spec_reading.specs.spec_binary.Options.{◌>>=◌}
use Rattle.spec_loading.specs.spec_linking.Sets.{Member}
use Rattle.spec_loading.specs.spec_linking.LinkedSets.{LinkedSet, function_ref}
use Rattle.spec_loading.specs.Members.{from_members}
use Rattle.merge_index.specs.Numbering.{is_stub}
use Rattle.dyl_addresses.proofs.Linked.{at_index}
use Rattle.merge_module.specs.MergedModule.{trap_code}
use Rattle.merge_whole.specs.Built.{stubs_at, HasBodies}

pub inside : {A : Type 0} (xs : List A) (b : ℕ) → b < length xs → (y : A) × (slice_get xs b ≡ Some y)
inside [] b lt = absurd (omega arith)
inside (x ∷ xs) zero lt = (x, refl)
inside (x ∷ xs) (suc b) lt = inside xs b (omega arith)

pub drop_next : {A : Type 0} (xs : List A) (b : ℕ) (y : A) → slice_get xs b ≡ Some y → drop b xs ≡ y ∷ drop (b + 1) xs
drop_next [] b y e = absurd cc
drop_next (x ∷ xs) zero y e = (let same : x ≡ y = cc in ap (λ z. z ∷ xs) same)
drop_next (x ∷ xs) (suc b) y e = (let next : suc b + 1 ≡ suc (b + 1) = omega arith in rw next (drop_next xs b y e))

some_same : {A : Type 0} (x y : A) → Some x ≡ Some y → x ≡ y
some_same x y e = cc

pub is_there : (codes : List Code) (b : ℕ) (o : Option Code) → o ≡ slice_get codes b → b < length codes → IsTrue (is_some o)
is_there codes b o same lt = (let found = inside codes b lt in rw (same ∙ found.1) refl)

-- what is made of an item comes before what is made of those behind it
pub mapped_next : {X Y : Type 0} (f : X → Y) (xs : List X) (i : ℕ) (x : X) → i < length xs → x ≡ get_or xs i x → (to more all : List Y)
    → more ≡ to ++ f x ∷ [] → to ++ map f (drop i xs) ≡ all → more ++ map f (drop (i + 1) xs) ≡ all
mapped_next f xs i x lt item to more all put before =
    let rest = map f (drop (i + 1) xs) in
    ap (λ l. l ++ rest) put
    ∙ append_assoc to (f x ∷ []) rest
    ∙ ap (λ l. to ++ map f l) (sym (drop_next xs i x (at_index xs i x lt item)))
    ∙ before

pub body_next : (R : Code → Code) (codes : List Code) (b : ℕ) → b < length codes → (o : Option Code) → o ≡ slice_get codes b
    → (code : Code) → Some code ≡ option_map R o → (before now all : List Code) → before ++ map R (drop b codes) ≡ all
    → now ≡ before ++ code ∷ [] → now ++ map R (drop (b + 1) codes) ≡ all
body_next R codes b lt o same code is before now all held added =
    let found = inside codes b lt in
    let one : code ≡ R found.0 = some_same code (R found.0) (is ∙ ap (option_map R) (same ∙ found.1)) in
    let rest = map R (drop (b + 1) codes) in
    ap (λ l. l ++ rest) added
    ∙ append_assoc before (code ∷ []) rest
    ∙ ap (λ c. before ++ c ∷ rest) one
    ∙ ap (λ l. before ++ map R l) (sym (drop_next codes b found.0 found.1))
    ∙ held

pub trap_next : (L : LinkedSet) (m f next i : ℕ) (ts : List ℕ) → i < length ts → next ≡ f + 1 → (before now all : List Code)
    → before ++ stubs_at L m (λ t. trap_code) f (drop i ts) ≡ all → now ≡ before ++ (if is_stub (function_ref L m f) then trap_code ∷ [] else [])
    → now ++ stubs_at L m (λ t. trap_code) next (drop (i + 1) ts) ≡ all
trap_next L m f next i ts lt is before now all held added =
    let found = inside ts i lt in
    let part : List Code = if is_stub (function_ref L m f) then trap_code ∷ [] else [] in
    let rest = stubs_at L m (λ t. trap_code) (f + 1) (drop (i + 1) ts) in
    ap (λ n. now ++ stubs_at L m (λ t. trap_code) n (drop (i + 1) ts)) is
    ∙ ap (λ l. l ++ rest) added
    ∙ append_assoc before part rest
    ∙ ap (λ l. before ++ stubs_at L m (λ t. trap_code) f l) (sym (drop_next ts i found.0 found.1))
    ∙ held

pub member_next : {X : Type 0} (of : ℕ → Module → List X) (xs : List Member) (m : ℕ) (x : Member) → slice_get xs m ≡ Some x
    → (before now all part : List X) → before ++ from_members of m (drop m xs) ≡ all → part ≡ of m x.wasm → now ≡ before ++ part
    → now ++ from_members of (m + 1) (drop (m + 1) xs) ≡ all
member_next of xs m x here before now all part held is added =
    let rest = from_members of (m + 1) (drop (m + 1) xs) in
    ap (λ l. l ++ rest) added
    ∙ append_assoc before part rest
    ∙ ap (λ p. before ++ (p ++ rest)) is
    ∙ ap (λ l. before ++ from_members of m l) (sym (drop_next xs m x here))
    ∙ held

pub has_bodies : (L : LinkedSet) (m : ℕ) (x : Member) (codes : List Code) → slice_get L.set.members m ≡ Some x → codes ≡ x.wasm.codes
    → HasBodies L m codes
has_bodies L m x codes here same = λ b.
    ap (λ (o : Option Member). (o >>= λ y. Some y.wasm) >>= λ wasm. slice_get wasm.codes b) here
    ∙ ap (λ l. slice_get l b) (sym same)
