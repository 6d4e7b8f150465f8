-- The lists of numbers that are made for generated code are those of a linked set.
use Rattle.std.proofs.Common.{◌≡◌, ◌<◌, ◌≤◌, ℕ, zero, suc, ◌+◌, ◌-◌, ◌*◌, Bool, true, false, List, [], ◌∷◌, ◌++◌, length, map, nat_lt, slice_get, Option, Some, None, option_map, unwrap_or, if◌then◌else◌, refl, sym, ap, ap₂, ◌∙◌, arith, length-append}
use Rattle.std.specs.List.{range_with_len, All}
use Rattle.std.proofs.lemmas.Bool.Decides.{nat_tests}
use Rattle.std.proofs.lemmas.List.{length-map}
use Rattle.std.proofs.lemmas.List.FromFn.{length-range_with_len}
use Rattle.std.proofs.lemmas.List.Elements.{All-head, All-tail}
use Rattle.std.proofs.lemmas.Option.{slice_get-map, slice_get_within, slice_get_past}
use Rattle.wasm_form.specs.declared.module.Module.{Module}
use Rattle.wasm_form.specs.declared.runtime.Ref.{Ref}
use Rattle.wasm_form.specs.declared.runtime.Ref.TheVariants.{Own}
use Rattle.spec_reading.specs.spec_binary.Options.{◌>>=◌}
use Rattle.spec_reading.specs.spec_binary.Indices.{function_type}
use Rattle.spec_reading.specs.spec_binary.IndexSpaces.{imports_of, functions_in, function_space, tables_in, table_space}
use Rattle.spec_reading.proofs.of_spec_binary.Lists.{slice_get-append-left, slice_get-append-right}
use Rattle.spec_loading.specs.spec_linking.Sets.{Member}
use Rattle.spec_loading.specs.spec_linking.Gathering.{IsSet}
use Rattle.spec_loading.specs.spec_linking.Imports.{importing}
use Rattle.spec_loading.specs.spec_linking.LinkedSets.{LinkedSet, wasm_of, ref_with}
use Rattle.spec_loading.specs.spec_linking.Slots.{fresh_of}
use Rattle.spec_loading.proofs.of_spec_safety.Lookups.{got}
use Rattle.spec_loading.specs.spec_linking.Links.{set_entry}
use Rattle.spec_loading.specs.declared.task.Phase.{Phase}
use Rattle.spec_loading.specs.declared.task.Phase.TheVariants.{Place, Start, Relocate, Construct}
use Rattle.spec_loading.specs.Phases.{stage_of, phase_function}
use Rattle.spec_loading.specs.Addresses.{sum_before, item_address}
use Rattle.spec_loading.specs.Members.{from_members}
use Rattle.merge_match.specs.Renumbering.{Numbers}
use Rattle.merge_match.specs.Parts.{nowhere, number_of}
use Rattle.merge_start.specs.declared.numbers.StartNumbers.{StartNumbers}
use Rattle.merge_start.specs.Listed.{AreListed, in_part}
use Rattle.merge_start.specs.Passive.{AreNamed}
use Rattle.merge_index.specs.Numbering.{sum_of, first_phase, function_number, numbers_of, starts_of}
use Rattle.dyl_addresses.proofs.Items.{range_item}
use Rattle.merge_index.proofs.FunctionNumbers.{sum_within}
use Rattle.merge_module.proofs.SetMembers.{IsSound, is_sound}
use Rattle.merge_module.proofs.SlotFunctions.{IsOwnIn, fresh_own, own_is_defined, own_named}
use Rattle.merge_whole.specs.declared.built.counts.Space.TheVariants.{Elems}
use Rattle.merge_whole.specs.Counts.{size_in, total, functions_by, calls_by, starts_by}

-- ---- sums

total_is : (size : Module → ℕ) (start : ℕ) (xs : List Member) → total size start xs ≡ start + sum_before size xs (length xs)
total_is size start [] = omega arith
total_is size start (x ∷ xs) = total_is size (start + size x.wasm) xs ∙ omega arith

fours : (xs : List Member) (m : ℕ) → m ≤ length xs → sum_before (λ w. 4) xs m ≡ 4 * m
fours xs zero le = refl
fours [] (suc m) le = absurd (omega arith)
fours (x ∷ xs) (suc m) le = (let later = fours xs m (omega arith) in omega arith)

-- ---- items of a list that is made member by member

module _ {X : Type 0} (of : ℕ → Module → List X) (size : Module → ℕ) (many : (m : ℕ) (wasm : Module) → length (of m wasm) ≡ size wasm) where
  item_from : (k : ℕ) (xs : List Member) (m i : ℕ) (x : Member) → slice_get xs m ≡ Some x → i < size x.wasm
      → slice_get (from_members of k xs) (sum_before size xs m + i) ≡ slice_get (of (k + m) x.wasm) i
  item_from k [] m i x e lt = absurd cc
  item_from k (y ∷ xs) zero i x e lt =
      let same : y ≡ x = cc in
      let here : i < length (of k y.wasm) = (let n = many k y.wasm in let s = ap (λ (z : Member). size z.wasm) same in omega arith) in
      let none : 0 + i ≡ i = omega arith in
      let first : k + 0 ≡ k = omega arith in
      ap (slice_get (of k y.wasm ++ from_members of (k + 1) xs)) none
      ∙ slice_get-append-left (of k y.wasm) (from_members of (k + 1) xs) i here
      ∙ ap (λ (z : Member). slice_get (of k z.wasm) i) same
      ∙ ap (λ n. slice_get (of n x.wasm) i) (sym first)
  item_from k (y ∷ xs) (suc m) i x e lt =
      let n = many k y.wasm in
      let place = size y.wasm + sum_before size xs m + i in
      let back : place - length (of k y.wasm) ≡ sum_before size xs m + i = omega arith in
      let on : k + 1 + m ≡ k + suc m = omega arith in
      slice_get-append-right (of k y.wasm) (from_members of (k + 1) xs) place (omega arith)
      ∙ ap (slice_get (from_members of (k + 1) xs)) back
      ∙ item_from (k + 1) xs m i x e lt
      ∙ ap (λ q. slice_get (of q x.wasm) i) on

  pub item_of : (xs : List Member) (m i : ℕ) (x : Member) → slice_get xs m ≡ Some x → i < size x.wasm
      → slice_get (from_members of 0 xs) (sum_before size xs m + i) ≡ slice_get (of m x.wasm) i
  item_of xs m i x e lt = item_from 0 xs m i x e lt ∙ ap (λ q. slice_get (of q x.wasm) i) (omega arith)

-- ---- numbers that come one after the other

range_at : (n i : ℕ) → i < n → slice_get (range_with_len 0 n) i ≡ Some i
range_at n i lt = range_item 0 n i ∙ go (nat_lt i n) refl
  where
    go : (b : Bool) → nat_lt i n ≡ b → (if b then Some (0 + i) else None) ≡ Some i
    go true q = ap Some (omega arith)
    go false q = absurd (grind (arith, nat_tests))

part_is : (n first count i : ℕ) → first + count ≤ n → number_of (item_address first count i) ≡ in_part (range_with_len 0 n) first count i
part_is n first count i fits = go (nat_lt i count) refl
  where
    go : (b : Bool) → nat_lt i count ≡ b
        → number_of (if b then Some (first + i) else None) ≡ (if b then number_of (slice_get (range_with_len 0 n) (first + i)) else nowhere)
    go true q =
        let lt : i < count = grind (arith, nat_tests) in
        sym (ap number_of (range_at n (first + i) (omega arith)))
    go false q = refl

-- ---- a set

member_at : (L : LinkedSet) (m : ℕ) (wasm : Module) → wasm_of L m ≡ Some wasm
    → (x : Member) × (slice_get L.set.members m ≡ Some x) × (x.wasm ≡ wasm)
member_at L m wasm e = go (slice_get L.set.members m) refl e
  where
    go : (o : Option Member) → slice_get L.set.members m ≡ o → (o >>= λ x. Some x.wasm) ≡ Some wasm
        → (x : Member) × (slice_get L.set.members m ≡ Some x) × (x.wasm ≡ wasm)
    go None q e = absurd cc
    go (Some x) q e = (x, q, (let same : x.wasm ≡ wasm = cc in same))

module _ (L : LinkedSet) where
  abbrev members : List Member
  members = L.set.members

  abbrev n : Numbers
  n = numbers_of L

  -- ---- segments

  segment_is : (size : Module → ℕ) (more m i : ℕ) (wasm : Module) → wasm_of L m ≡ Some wasm
      → number_of (wasm_of L m >>= λ w. item_address (sum_before size members m) (size w) i)
      ≡ in_part (range_with_len 0 (total size more members)) (sum_before size members m) (size wasm) i
  segment_is size more m i wasm e =
      let found = member_at L m wasm e in
      let within = sum_within size members m found.0 found.1 in
      let same = ap size found.2 in
      let all : total size more members ≡ more + sum_before size members (length members) = total_is size more members in
      ap (λ (o : Option Module). number_of (o >>= λ w. item_address (sum_before size members m) (size w) i)) e
      ∙ part_is (total size more members) (sum_before size members m) (size wasm) i (omega arith)

  slot_is : (m : ℕ) → m < length members
      → sum_of (λ w. length w.elems) L + m
      ≡ number_of (slice_get (range_with_len 0 (total (size_in Elems) (length members) members))
      (sum_before (λ w. length w.elems) members (length members) + m))
  slot_is m lt =
      let all : total (size_in Elems) (length members) members ≡ length members + sum_before (size_in Elems) members (length members) =
      total_is (size_in Elems) (length members) members in
      sym (ap number_of (range_at (total (size_in Elems) (length members) members)
      (sum_before (λ w. length w.elems) members (length members) + m) (omega arith)))

  -- ---- tables

  table_past : (m t : ℕ) (wasm : Module) → wasm_of L m ≡ Some wasm → length (table_space wasm) ≤ t → n.table m t ≡ nowhere
  table_past m t wasm e le =
      ap (λ (o : Option Module). number_of (o >>= λ w.
      if nat_lt t (length (imports_of tables_in w.imports)) then Some 0
      else item_address (1 + sum_before (λ x. length x.tables) members m) (length w.tables) (t - length (imports_of tables_in w.imports)))) (ap (λ o. o) e)
      ∙ go (nat_lt t (length (imports_of tables_in wasm.imports))) refl (nat_lt (t - length (imports_of tables_in wasm.imports)) (length wasm.tables)) refl
    where
      go : (b : Bool) → nat_lt t (length (imports_of tables_in wasm.imports)) ≡ b
          → (c : Bool) → nat_lt (t - length (imports_of tables_in wasm.imports)) (length wasm.tables) ≡ c
          → number_of (if b then Some 0 else (if c then Some (1 + sum_before (λ x. length x.tables) L.set.members m + (t - length (imports_of tables_in wasm.imports))) else None)) ≡ nowhere
      go false q false r = refl
      go true q c r =
          let many = length-append (imports_of tables_in wasm.imports) wasm.tables in
          absurd (grind (arith, nat_tests))
      go false q true r =
          let many = length-append (imports_of tables_in wasm.imports) wasm.tables in
          absurd (grind (arith, nat_tests))

  -- ---- numbers of what members have, listed member by member

  module _ (g : ℕ → ℕ → ℕ) (size : Module → ℕ) (past : (m i : ℕ) (wasm : Module) → wasm_of L m ≡ Some wasm → size wasm ≤ i → g m i ≡ nowhere) where
    abbrev listed : ℕ → Module → List ℕ
    listed m wasm = map (g m) (range_with_len 0 (size wasm))

    listed_many : (m : ℕ) (wasm : Module) → length (listed m wasm) ≡ size wasm
    listed_many m wasm = length-map (range_with_len 0 (size wasm)) (g m) ∙ length-range_with_len 0 (size wasm)

    pub listed_is : (m i : ℕ) (wasm : Module) → wasm_of L m ≡ Some wasm
        → g m i ≡ in_part (from_members (λ k w. map (g k) (range_with_len 0 (size w))) 0 L.set.members) (sum_before size L.set.members m) (size wasm) i
    listed_is m i wasm e = go (nat_lt i (size wasm)) refl
      where
        go : (b : Bool) → nat_lt i (size wasm) ≡ b
            → g m i ≡ (if b then number_of (slice_get (from_members listed 0 L.set.members) (sum_before size L.set.members m + i)) else nowhere)
        go false q = past m i wasm e (grind (arith, nat_tests))
        go true q =
            let found = member_at L m wasm e in
            let lt : i < size wasm = grind (arith, nat_tests) in
            let same = ap size found.2 in
            let there : slice_get (from_members listed 0 L.set.members) (sum_before size L.set.members m + i) ≡ Some (g m i) =
            item_of listed size listed_many L.set.members m i found.0 found.1 (omega arith)
            ∙ slice_get-map (g m) (range_with_len 0 (size found.0.wasm)) i
            ∙ ap (option_map (g m)) (range_at (size found.0.wasm) i (omega arith)) in
            sym (ap number_of there)

  -- ---- functions

  named_past : (m f : ℕ) (wasm : Module) → wasm_of L m ≡ Some wasm → length (function_space wasm) ≤ f → n.named m f ≡ nowhere
  named_past m f wasm e le =
      ap (λ (o : Option Module). number_of (option_map (function_number L) (o >>= λ w.
      function_type w f >>= λ ty. ref_with L m f (slice_get (importing functions_in w.imports) f) (Own m f)))) e
      ∙ ap (λ (o : Option ℕ). number_of (option_map (function_number L) ((o >>= λ t. slice_get wasm.types t)
      >>= λ ty. ref_with L m f (slice_get (importing functions_in wasm.imports) f) (Own m f)))) (slice_get_past (function_space wasm) f le)

  fresh_named : (m : ℕ) (wasm : Module) → wasm_of L m ≡ Some wasm → IsSound wasm → (fs : List ℕ) → All (IsOwnIn wasm) fs
      → map (n.named m) fs ≡ map n.function (map (Own m) fs)
  fresh_named m wasm here sound [] all = refl
  fresh_named m wasm here sound (f ∷ fs) all =
      let defined = own_is_defined wasm sound f (All-head (IsOwnIn wasm) f fs all) in
      ap₂ (λ (x : ℕ) (xs : List ℕ). x ∷ xs) (ap (λ (o : Option Ref). number_of (option_map (function_number L) o)) (own_named L m f wasm here defined))
      (fresh_named m wasm here sound fs (All-tail (IsOwnIn wasm) f fs all))

  pub are_named : IsSet L.set → (s : StartNumbers) → s.functions ≡ from_members (functions_by n) 0 L.set.members → AreNamed L s n
  are_named set s functions = record {
    named = λ m f wasm here.
        listed_is n.named (λ w. length (function_space w)) named_past m f wasm here
        ∙ ap (λ list. in_part list (sum_before (λ w. length (function_space w)) L.set.members m) (length (function_space wasm)) f) (sym functions);
    fresh = λ m lt.
        let found = got L.set.members m lt in
        let here : wasm_of L m ≡ Some found.0.wasm = ap (λ (o : Option Member). o >>= λ y. Some y.wasm) found.1 in
        fresh_named m found.0.wasm here (is_sound L m found.0.wasm set here) (fresh_of L m) (fresh_own L m found.0.wasm here);
  }

  -- ---- calls

  stage : Phase → ℕ
  stage p = stage_of p - 1

  stage_low : (p : Phase) → stage_of p - 1 < 4
  stage_low Place = omega arith
  stage_low Start = omega arith
  stage_low Relocate = omega arith
  stage_low Construct = omega arith

  call_at : (p : Phase) (m : ℕ) (wasm : Module) → slice_get (calls_by n m wasm) (stage_of p - 1) ≡ Some (option_map (n.named m) (phase_function p m wasm))
  call_at Place m wasm = refl
  call_at Start m wasm = refl
  call_at Relocate m wasm = refl
  call_at Construct m wasm = refl

  call_is : (m : ℕ) (p : Phase) (wasm : Module) → wasm_of L m ≡ Some wasm
      → slice_get (from_members (calls_by n) 0 members) (4 * m + (stage_of p - 1)) ≡ Some (option_map (n.named m) (phase_function p m wasm))
  call_is m p wasm e =
      let found = member_at L m wasm e in
      let within = slice_get_within members m found.0 found.1 in
      let place = fours members m (omega arith) in
      ap (λ i. slice_get (from_members (calls_by n) 0 members) (i + (stage_of p - 1))) (sym place)
      ∙ item_of (calls_by n) (λ w. 4) (λ q w. refl) members m (stage_of p - 1) found.0 found.1 (stage_low p)
      ∙ ap (λ (w : Module). slice_get (calls_by n m w) (stage_of p - 1)) found.2
      ∙ call_at p m wasm

  entry_is : (f : ℕ) → set_entry L.set.members ≡ Some f → n.named 0 f ≡ n.named 0 (unwrap_or (set_entry L.set.members) 0)
  entry_is f e = sym (ap (λ (o : Option ℕ). n.named 0 (unwrap_or o 0)) e)

  pub are_listed : (guard first : ℕ) → guard ≡ (starts_of L).guards → first ≡ first_phase L
      → AreListed L (starts_by L n guard first) n (starts_of L)
  are_listed guard first is begins = record {
    guards = sym is;
    phases = λ m p. ap (λ f. f + 4 * m + (stage_of p - 1)) (sym begins);
    calls = call_is;
    entry = entry_is;
    elems = λ m e wasm q. segment_is (λ w. length w.elems) (length members) m e wasm q;
    slots = slot_is;
    datas = λ m d wasm q. segment_is (λ w. length w.datas) 0 m d wasm q;
    tables = listed_is n.table (λ w. length (table_space w)) table_past;
  }
