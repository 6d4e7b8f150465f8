-- Functions and bodies of the merged module, as they are put together, are those of the set.
use Rattle.std.proofs.Common.{◌≡◌, ℕ, zero, suc, ◌+◌, ◌*◌, Bool, true, false, cond, if◌then◌else◌, List, [], ◌∷◌, ◌++◌, length, map, replicate, slice_get, unwrap_or, Option, Some, None, refl, sym, ap, ap₂, subst, ◌∙◌, arith, append_assoc, append-nil}
use Rattle.std.specs.List.{filter, range_with_len}
use Rattle.std.proofs.lemmas.List.{map-append}
use Rattle.wasm_form.specs.declared.module.Code.{Code}
use Rattle.wasm_form.specs.declared.module.Module.{Module}
use Rattle.spec_reading.specs.spec_binary.IndexSpaces.{function_space}
use Rattle.spec_loading.specs.spec_linking.Sets.{Member}
use Rattle.spec_loading.specs.spec_linking.LinkedSets.{LinkedSet, function_ref}
use Rattle.spec_loading.specs.Members.{from_members, uses_loader}
use Rattle.merge_match.specs.Renumbering.{Numbers}
use Rattle.merge_start.specs.Words.{Starts, entry_code}
use Rattle.merge_start.specs.Listed.{phase_parts, open_parts}
use Rattle.wasm_form.specs.declared.module.Part.{Part}
use Rattle.merge_dl.specs.Words.{length_body}
use Rattle.merge_dl.specs.Listed.{AreDlNumbers, find_parts, call_parts}
use Rattle.merge_dl.specs.declared.numbers.DlNumbers.{DlNumbers}
use Rattle.merge_index.specs.Numbering.{is_stub}
use Rattle.merge_module.specs.MergedModule.{with_loader, nullary_number, stub_types, loader_funcs, generated_types, merged_funcs, trap_code, plain_code, stub_codes, phase_codes, finders_of, open_codes, find_codes, call_codes, loader_codes, merged_codes}
use Rattle.merge_whole.specs.Built.{funcs_of, stubs_at, imported_types, stub_types_of, four_of, one_of, funcs_for_loader, generated_funcs_in, funcs_in, bodies_of, traps_of, code_of, generated_codes}
use Rattle.merge_whole.specs.Given.{HasLoader}

-- ---- lists

from_same : {X : Type 0} (of other : ℕ → Module → List X) → ((m : ℕ) (wasm : Module) → of m wasm ≡ other m wasm)
    → (m : ℕ) (xs : List Member) → from_members of m xs ≡ from_members other m xs
from_same of other same m [] = refl
from_same of other same m (x ∷ xs) = ap₂ (λ a b. a ++ b) (same m x.wasm) (from_same of other same (m + 1) xs)

four_are : (t m : ℕ) (xs : List Member) → from_members (four_of t) m xs ≡ replicate (4 * length xs) t
four_are t m [] = refl
four_are t m (x ∷ xs) =
    let e : 4 * length (x ∷ xs) ≡ suc (suc (suc (suc (4 * length xs)))) = omega arith in
    rw e (ap (λ l. t ∷ t ∷ t ∷ t ∷ l) (four_are t (m + 1) xs))

ones_are : (t m : ℕ) (xs : List Member) → from_members (one_of t) m xs ≡ replicate (length xs) t
ones_are t m [] = refl
ones_are t m (x ∷ xs) = ap (λ l. t ∷ l) (ones_are t (m + 1) xs)

-- the functions of the loader are put one after the other
pub funcs_put : (t : ℕ) (ms : List Member) (handle unary binary search : ℕ) → handle ≡ t + 1 → unary ≡ t + 2 → binary ≡ t + 3 → search ≡ t + 4
    → (to one two three all : List ℕ) → one ≡ to ++ from_members (one_of handle) 0 ms → two ≡ one ++ unary ∷ []
    → three ≡ two ++ from_members (one_of search) 0 ms → all ≡ three ++ (binary ∷ binary ∷ unary ∷ handle ∷ []) → all ≡ to ++ funcs_for_loader t ms
funcs_put t ms handle unary binary search h u b s to one two three all p q r e =
    let opens = from_members (one_of handle) 0 ms in
    let finds = from_members (one_of search) 0 ms in
    let calls = binary ∷ binary ∷ unary ∷ handle ∷ [] in
    let shape : ℕ → ℕ → ℕ → ℕ → List ℕ = λ x y z v. from_members (one_of x) 0 ms ++ y ∷ (from_members (one_of v) 0 ms ++ z ∷ z ∷ y ∷ x ∷ []) in
    e
    ∙ ap (λ l. l ++ calls) (r ∙ ap (λ l. l ++ finds) (q ∙ ap (λ l. l ++ unary ∷ []) p))
    ∙ append_assoc ((to ++ opens) ++ unary ∷ []) finds calls
    ∙ append_assoc (to ++ opens) (unary ∷ []) (finds ++ calls)
    ∙ append_assoc to opens (unary ∷ (finds ++ calls))
    ∙ ap₂ (λ x y. to ++ shape x y binary search) h u
    ∙ ap₂ (λ z v. to ++ shape (t + 1) (t + 2) z v) b s

in_front : (xs ys : List ℕ) (i t : ℕ) → slice_get xs i ≡ Some t → slice_get (xs ++ ys) i ≡ Some t
in_front [] ys i t e = absurd cc
in_front (x ∷ xs) ys zero t e = e
in_front (x ∷ xs) ys (suc i) t e = in_front xs ys i t e

stub_next : {X : Type 0} (g : ℕ → X) (x : X) (f : ℕ) (rest : List ℕ) (more : List X) (b : Bool) → g f ≡ x → more ≡ map g rest
    → (if b then x ∷ [] else []) ++ more ≡ map g (cond b (f ∷ rest) rest)
stub_next g x f rest more true here later = ap₂ (λ y l. y ∷ l) (sym here) later
stub_next g x f rest more false here later = later

codes_are : (parts : ℕ → Module → List Part) (codes : ℕ → Module → List Code) → ((m : ℕ) (wasm : Module) → map code_of (parts m wasm) ≡ codes m wasm)
    → (m : ℕ) (ms : List Member) → map code_of (from_members parts m ms) ≡ from_members codes m ms
codes_are parts codes same m [] = refl
codes_are parts codes same m (y ∷ ms) =
    map-append code_of (parts m y.wasm) (from_members parts (m + 1) ms)
    ∙ ap₂ (λ a b. a ++ b) (same m y.wasm) (codes_are parts codes same (m + 1) ms)

phases_are : (L : LinkedSet) (n : Numbers) (x : Starts)
    → map code_of (from_members (phase_parts L n x) 0 L.set.members) ≡ from_members (phase_codes L n x) 0 L.set.members
phases_are L n x = codes_are (phase_parts L n x) (phase_codes L n x) (λ m wasm. refl) 0 L.set.members

opens_are : (L : LinkedSet) (n : Numbers) (x : Starts) → map code_of (from_members (open_parts L n x) 0 L.set.members) ≡ open_codes L n x
opens_are L n x = codes_are (open_parts L n x) _ (λ m wasm. refl) 0 L.set.members

finds_are : (L : LinkedSet) → map code_of (from_members (find_parts L) 0 L.set.members) ≡ find_codes L
finds_are L = codes_are (find_parts L) _ (λ m wasm. refl) 0 L.set.members

-- bodies of the functions of the loader are put one after the other
pub loader_put : (L : LinkedSet) (n : Numbers) (x : Starts) (opens finds calls : List Part) (long : Code)
    → opens ≡ from_members (open_parts L n x) 0 L.set.members → long ≡ length_body → finds ≡ from_members (find_parts L) 0 L.set.members
    → calls ≡ call_parts L x (finders_of L x) → (old one two three all : List Code)
    → one ≡ old ++ map code_of opens → two ≡ one ++ long ∷ [] → three ≡ two ++ map code_of finds → all ≡ three ++ map code_of calls
    → all ≡ old ++ loader_codes L n x
loader_put L n x opens finds calls long o l f k old one two three all a b c d =
    let opening = open_codes L n x in
    let finding = find_codes L in
    let calling = call_codes L x in
    let first : one ≡ old ++ opening = a ∙ ap (λ c. old ++ c) (ap (map code_of) o ∙ opens_are L n x) in
    let second : two ≡ (old ++ opening) ++ length_body ∷ [] = b ∙ ap₂ (λ u v. u ++ v ∷ []) first l in
    let third : three ≡ ((old ++ opening) ++ length_body ∷ []) ++ finding = c ∙ ap₂ (λ u v. u ++ v) second (ap (map code_of) f ∙ finds_are L) in
    d
    ∙ ap₂ (λ u v. u ++ v) third (ap (map code_of) k)
    ∙ append_assoc ((old ++ opening) ++ length_body ∷ []) finding calling
    ∙ append_assoc (old ++ opening) (length_body ∷ []) (finding ++ calling)
    ∙ append_assoc old opening (length_body ∷ (finding ++ calling))

-- they are put where the set uses the loader, and there alone
pub unused_put : (L : LinkedSet) (n : Numbers) (x : Starts) (loader : Option DlNumbers) → loader ≡ None → HasLoader L x loader → (to : List Code)
    → to ≡ to ++ with_loader L (loader_codes L n x)
unused_put L n x loader is has to =
    let unused : uses_loader L ≡ false = subst (HasLoader L x) is has in
    sym (ap (λ b. to ++ (if b then loader_codes L n x else [])) unused ∙ append-nil to)

pub used_put : (L : LinkedSet) (n : Numbers) (x : Starts) (loader : Option DlNumbers) (d : DlNumbers) → loader ≡ Some d → HasLoader L x loader
    → (to all : List Code) → (AreDlNumbers L d x (finders_of L x) → all ≡ to ++ loader_codes L n x)
    → all ≡ to ++ with_loader L (loader_codes L n x)
used_put L n x loader d is has to all put =
    let used = subst (HasLoader L x) is has in
    put used.1 ∙ sym (ap (λ b. to ++ (if b then loader_codes L n x else [])) used.0)

-- and those of all that is generated
pub generated_put : (L : LinkedSet) (n : Numbers) (x : Starts) (phases : List Part) (entry : Code)
    → phases ≡ from_members (phase_parts L n x) 0 L.set.members → entry ≡ plain_code (entry_code L n x) → (old one two all : List Code)
    → one ≡ old ++ map code_of phases → two ≡ one ++ with_loader L (loader_codes L n x) → all ≡ two ++ entry ∷ []
    → all ≡ old ++ generated_codes L n x
generated_put L n x phases entry p e old one two all a b c =
    let phasing = from_members (phase_codes L n x) 0 L.set.members in
    let loading = with_loader L (loader_codes L n x) in
    let first : one ≡ old ++ phasing = a ∙ ap (λ l. old ++ l) (ap (map code_of) p ∙ phases_are L n x) in
    c
    ∙ ap₂ (λ u v. u ++ v ∷ []) (b ∙ ap (λ l. l ++ loading) first) e
    ∙ append_assoc (old ++ phasing) loading (plain_code (entry_code L n x) ∷ [])
    ∙ append_assoc old phasing (loading ++ plain_code (entry_code L n x) ∷ [])

-- ---- a set

module _ (L : LinkedSet) where
  -- ---- stubs

  stubs_are : {X : Type 0} (m : ℕ) (of g : ℕ → X) (f : ℕ) (ts : List ℕ) → ((i t : ℕ) → slice_get ts i ≡ Some t → g (f + i) ≡ of t)
      → stubs_at L m of f ts ≡ map g (filter (λ j. is_stub (function_ref L m j)) (range_with_len f (length ts)))
  stubs_are m of g f [] reads = refl
  stubs_are m of g f (t ∷ ts) reads =
      let same : f ≡ f + 0 = omega arith in
      let rest = filter (λ j. is_stub (function_ref L m j)) (range_with_len (f + 1) (length ts)) in
      let later = stubs_are m of g (f + 1) ts (λ i u e. let s : f + 1 + i ≡ f + suc i = omega arith in ap g s ∙ reads (suc i) u e) in
      stub_next g (of t) f rest (stubs_at L m of (f + 1) ts) (is_stub (function_ref L m f)) (ap g same ∙ reads 0 t refl) later

  stub_types_are : (n : Numbers) (m : ℕ) (wasm : Module) → stub_types_of L n m wasm ≡ stub_types L n m wasm
  stub_types_are n m wasm =
      stubs_are m (n.ty m) (λ f. n.ty m (unwrap_or (slice_get (function_space wasm) f) 0)) 0 (imported_types wasm)
      (λ i t e.
      let s : 0 + i ≡ i = omega arith in
      ap (λ j. n.ty m (unwrap_or (slice_get (function_space wasm) j) 0)) s
      ∙ ap (λ o. n.ty m (unwrap_or o 0)) (in_front (imported_types wasm) wasm.funcs i t e))

  traps_are : (m : ℕ) (wasm : Module) → traps_of L m wasm ≡ stub_codes L m wasm
  traps_are m wasm = stubs_are m (λ t. trap_code) (λ f. trap_code) 0 (imported_types wasm) (λ i t e. refl)

  -- those of the functions of the loader
  abbrev with_types : ℕ → List ℕ → List ℕ → List ℕ
  with_types t opens finds = opens ++ (t + 2) ∷ (finds ++ (t + 3) ∷ (t + 3) ∷ (t + 2) ∷ (t + 1) ∷ [])

  loader_funcs_are : funcs_for_loader (nullary_number L) L.set.members ≡ loader_funcs L
  loader_funcs_are =
      let t = nullary_number L in
      ap₂ (with_types t) (ones_are (t + 1) 0 L.set.members) (ones_are (t + 4) 0 L.set.members)

  generated_funcs_are : generated_funcs_in L ≡ generated_types L
  generated_funcs_are =
      let t = nullary_number L in
      ap₂ (λ (a b : List ℕ). a ++ (b ++ t ∷ [])) (four_are t 0 L.set.members) (ap (with_loader L) loader_funcs_are)

  pub funcs_are : (n : Numbers) → funcs_in L n ≡ merged_funcs L n
  funcs_are n =
      ap₂ (λ a b. from_members (funcs_of n) 0 L.set.members ++ (a ++ b))
      (from_same (stub_types_of L n) (stub_types L n) (stub_types_are n) 0 L.set.members) generated_funcs_are

  -- all bodies, those that are generated last
  pub all_codes : (n : Numbers) (x : Starts) (own all : List Code)
      → own ≡ from_members (bodies_of n) 0 L.set.members ++ from_members (traps_of L) 0 L.set.members → all ≡ own ++ generated_codes L n x
      → all ≡ merged_codes L n x
  all_codes n x own all p q =
      let a = from_members (bodies_of n) 0 L.set.members in
      let b = from_members (stub_codes L) 0 L.set.members in
      q
      ∙ ap (λ l. l ++ generated_codes L n x) (p ∙ ap (λ l. a ++ l) (from_same (traps_of L) (stub_codes L) traps_are 0 L.set.members))
      ∙ append_assoc a b (generated_codes L n x)
