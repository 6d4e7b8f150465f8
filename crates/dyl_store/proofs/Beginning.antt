-- What the members begin with, one after the other.
use Rattle.std.proofs.Common.{◌≡◌, ℕ, zero, suc, ◌+◌, ◌<◌, List, [], ◌∷◌, ◌++◌, length, map, take, Option, Some, refl, ap, ap₂, sym, ◌∙◌, arith, append_assoc, append-nil, zero-add, length-append}
use Rattle.std.specs.Prelude.{slice_get, OnOk, Result, Ok, Err, unwrap_or}
use Rattle.std.proofs.Math.Path.{fun_ext}
use Rattle.std.proofs.Math.Seq.{take-length}
use Rattle.std.proofs.lemmas.List.{length-map}
use Rattle.wasm_form.specs.declared.module.Elem.{Elem}
use Rattle.wasm_form.specs.declared.module.GlobalDef.{GlobalDef}
use Rattle.wasm_form.specs.declared.module.Module.{Module}
use Rattle.wasm_form.specs.declared.runtime.Ref.{Ref}
use Rattle.wasm_form.specs.declared.runtime.Value.{Value}
use Rattle.wasm_form.specs.declared.runtime.Value.TheVariants.{Num}
use Rattle.spec_loading.specs.spec_binary.Options.{◌>>=◌}
use Rattle.spec_loading.proofs.of_spec_binary.Lists.{got}
use Rattle.spec_loading.specs.spec_runtime.Constants.{constant_of, constant_entries}
use Rattle.spec_loading.specs.spec_execution.Segments.{opened_items}
use Rattle.spec_loading.specs.spec_execution.Values.{zero_of}
use Rattle.spec_loading.specs.spec_linking.Sets.{Member}
use Rattle.spec_loading.specs.spec_linking.LinkedSets.{LinkedSet, wasm_of, function_ref}
use Rattle.spec_loading.specs.spec_linking.Slots.{memory_base, table_base, member_items, cells_of, cell_value}
use Rattle.spec_loading.specs.Addresses.{sum_before, globals_size}
use Rattle.spec_loading.specs.Members.{from_members, opened_global, opened_globals}
use Rattle.dyl_addresses.specs.Bases.{AreBases}
use Rattle.dyl_addresses.proofs.Linked.{one_module}
use Rattle.dyl_store.specs.declared.constants.Names.{Names}
use Rattle.dyl_store.specs.Opening.{elem_with, global_with, elems_of, of_members, Begins, AreGlobals, Adds, base_globals, cell_globals, own_globals, IsAtCells}

-- ---- member by member

module _ {X : Type 0} (of : ℕ → Module → List X) where
  members_more : (n : ℕ) (xs : List Member) (m : ℕ) (x : Member) → slice_get xs m ≡ Some x
      → from_members of n (take (m + 1) xs) ≡ from_members of n (take m xs) ++ of (n + m) x.wasm
  members_more n [] m x e = absurd cc
  members_more n (y ∷ ys) zero x e =
      let same : y ≡ x = cc in
      let place : n ≡ n + 0 = omega arith in
      append-nil (of n y.wasm) ∙ ap₂ (λ (j : ℕ) (z : Member). of j z.wasm) place same
  members_more n (y ∷ ys) (suc m) x e =
      let next : suc m + 1 ≡ suc (m + 1) = omega arith in
      let place : n + 1 + m ≡ n + suc m = omega arith in
      ap (λ (j : ℕ). from_members of n (take j (y ∷ ys))) next
      ∙ ap (λ (l : List X). of n y.wasm ++ l) (members_more (n + 1) ys m x e ∙ ap (λ (j : ℕ). from_members of (n + 1) (take m ys) ++ of j x.wasm) place)
      ∙ sym (append_assoc (of n y.wasm) (from_members of (n + 1) (take m ys)) (of (n + suc m) x.wasm))

  members_length : (size : Module → ℕ) → ((m : ℕ) (wasm : Module) → length (of m wasm) ≡ size wasm)
      → (n : ℕ) (xs : List Member) (m : ℕ) → m < length xs → length (from_members of n (take m xs)) ≡ sum_before size xs m
  members_length size fits n [] m lt = absurd (omega arith)
  members_length size fits n (x ∷ xs) zero lt = refl
  members_length size fits n (x ∷ xs) (suc m) lt =
      let here = fits n x.wasm in
      let later = members_length size fits (n + 1) xs m (omega arith) in
      let both = length-append (of n x.wasm) (from_members of (n + 1) (take m xs)) in
      omega arith

module _ {X : Type 0} (first : LinkedSet → List X) (of : LinkedSet → ℕ → Module → List X) (L : LinkedSet) where
  -- a member comes after those before it
  pub begins_more : (m : ℕ) (old new : List X) → m < length L.set.members → Begins first of L m old → Adds of L m old new → Begins first of L (m + 1) new
  begins_more m old new lt before added =
      let there = got L.set.members m lt in
      let x = there.0 in
      let here : wasm_of L m ≡ Some x.wasm = ap (λ (o : Option Member). o >>= λ y. Some y.wasm) there.1 in
      let more : of_members (of L) L (m + 1) ≡ of_members (of L) L m ++ of L m x.wasm =
      members_more (of L) 0 L.set.members m x there.1 ∙ ap (λ (j : ℕ). of_members (of L) L m ++ of L j x.wasm) (zero-add m) in
      added x.wasm here
      ∙ ap (λ (l : List X). l ++ of L m x.wasm) before
      ∙ append_assoc (first L) (of_members (of L) L m) (of L m x.wasm)
      ∙ ap (λ (l : List X). first L ++ l) (sym more)

  pub begins_all : (m : ℕ) (xs : List X) → m ≡ length L.set.members → Begins first of L m xs → xs ≡ first L ++ from_members (of L) 0 L.set.members
  begins_all m xs all is =
      is
      ∙ ap (λ (n : ℕ). first L ++ from_members (of L) 0 (take n L.set.members)) all
      ∙ ap (λ (ms : List Member). first L ++ from_members (of L) 0 ms) (take-length L.set.members)

-- ---- what one member has

module _ (L : LinkedSet) (m : ℕ) (wasm : Module) (here : wasm_of L m ≡ Some wasm) where
  the_wasm : (w : Module) → wasm_of L m ≡ Some w → wasm ≡ w
  the_wasm w is = one_module wasm w (sym here ∙ is)

  -- the same whatever the set is
  pub adds_part : {A X : Type 0} (f : A → X) (part : Module → List A) (own : List A) (old new : List X) → own ≡ part wasm → new ≡ old ++ map f own → Adds (λ L i w. map f (part w)) L m old new
  adds_part {A = A} f part own old new same told = λ w is. told ∙ ap (λ (l : List A). old ++ map f l) (same ∙ ap part (the_wasm w is))

  -- what its numbers name
  module _ (names : Names) (functions : (f : ℕ) → slice_get names.functions.now f ≡ function_ref L m f) (bases : AreBases L m names.bases.now) where
    elem_is : elem_with names ≡ opened_items (member_items L m)
    elem_is = ap₂ (λ (F : ℕ → Option Ref) (G : ℕ → Option Value). opened_items (constant_entries F G)) (fun_ext (λ f. functions f)) (fun_ext (λ g. bases g))

    global_is : global_with names ≡ opened_global L m
    global_is =
        let by : (ℕ → Option Ref) → (ℕ → Option Value) → GlobalDef → Value = λ F G g. unwrap_or (constant_of F G g.init) (zero_of g.ty.value) in
        ap₂ by (fun_ext (λ f. functions f)) (fun_ext (λ g. bases g))

    pub adds_elems : (own : List Elem) (old new : List (List (Option Ref))) → own ≡ wasm.elems → new ≡ old ++ map (elem_with names) own → Adds elems_of L m old new
    adds_elems own old new same told = λ w is.
        told ∙ ap₂ (λ (f : Elem → List (Option Ref)) (es : List Elem). old ++ map f es) elem_is (same ∙ ap (λ (y : Module). y.elems) (the_wasm w is))

    pub adds_globals : (own : List GlobalDef) (old new : List Value) → own ≡ wasm.globals → new ≡ old ++ map (global_with names) own → Adds own_globals L m old new
    adds_globals own old new same told = λ w is.
        told ∙ ap₂ (λ (f : GlobalDef → Value) (gs : List GlobalDef). old ++ map f gs) global_is (same ∙ ap (λ (y : Module). y.globals) (the_wasm w is))

-- what a call ensures where it succeeds
pub on_ok : {E : Type 0} {P Q : Type 0} (r : Result (Unit {0}) E) → (P → Q) → OnOk r P → OnOk r Q
on_ok (Ok u) go h = go h
on_ok (Err e) go h = tt

-- ---- globals

pub adds_bases : (L : LinkedSet) (m memory table : ℕ) (old new : List Value) → memory_base L m ≡ Some memory → table_base L m ≡ Some table
    → new ≡ (old ++ Num memory ∷ []) ++ Num table ∷ [] → Adds base_globals L m old new
adds_bases L m memory table old new p q told = λ wasm is.
    told
    ∙ append_assoc old (Num memory ∷ []) (Num table ∷ [])
    ∙ ap₂ (λ (a b : Option ℕ). old ++ Num (unwrap_or a 0) ∷ Num (unwrap_or b 0) ∷ []) (sym p) (sym q)

module _ (L : LinkedSet) (m : ℕ) (old with_bases : List Value) where
  pub adds_all : (with_cells new : List Value) → Adds base_globals L m old with_bases → Adds cell_globals L m with_bases with_cells → Adds own_globals L m with_cells new → Adds opened_globals L m old new
  adds_all with_cells new bases cells own = λ wasm is.
      own wasm is
      ∙ ap (λ (l : List Value). l ++ own_globals L m wasm) (cells wasm is ∙ ap (λ (l : List Value). l ++ cell_globals L m wasm) (bases wasm is))
      ∙ append_assoc (old ++ base_globals L m wasm) (cell_globals L m wasm) (own_globals L m wasm)
      ∙ append_assoc old (base_globals L m wasm) (cell_globals L m wasm ++ own_globals L m wasm)

  globals_fit : (i : ℕ) (wasm : Module) → length (opened_globals L i wasm) ≡ globals_size wasm
  globals_fit i wasm =
      let cells = length-map (cells_of wasm) (λ c. Num (cell_value L i c)) in
      let own = length-map wasm.globals (opened_global L i) in
      let both = length-append (cell_globals L i wasm) (own_globals L i wasm) in
      omega arith

  pub at_cells : m < length L.set.members → AreGlobals L m old → Adds base_globals L m old with_bases → IsAtCells L m with_bases
  at_cells lt before bases =
      let there = got L.set.members m lt in
      let here : wasm_of L m ≡ Some there.0.wasm = ap (λ (o : Option Member). o >>= λ y. Some y.wasm) there.1 in
      let first = ap length before in
      let sum = members_length (opened_globals L) globals_size globals_fit 0 L.set.members m lt in
      let all = ap length (bases there.0.wasm here) in
      let two = length-append old (base_globals L m there.0.wasm) in
      omega arith
