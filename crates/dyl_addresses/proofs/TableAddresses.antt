-- The addresses of tables are those of the set.
use Rattle.std.proofs.Common.{◌≡◌, ◌<◌, ◌≤◌, ℕ, zero, suc, ◌+◌, ◌-◌, Bool, true, false, List, [], ◌∷◌, ◌++◌, length, map, nat_lt, slice_get, Option, Some, if◌then◌else◌, refl, sym, ap, ◌∙◌, arith}
use Rattle.std.specs.List.{range_with_len}
use Rattle.std.proofs.lemmas.Bool.Decides.{nat_tests}
use Rattle.std.proofs.lemmas.List.{length-map}
use Rattle.wasm_form.specs.declared.types.TableType.{TableType}
use Rattle.wasm_form.specs.declared.module.Module.{Module}
use Rattle.spec_loading.specs.spec_binary.Options.{◌>>=◌}
use Rattle.spec_loading.specs.spec_binary.IndexSpaces.{imports_of, tables_in}
use Rattle.spec_loading.proofs.of_spec_binary.Lists.{slice_get-append-left, slice_get-append-right}
use Rattle.spec_loading.specs.spec_linking.Sets.{Member}
use Rattle.spec_loading.specs.spec_linking.LinkedSets.{LinkedSet}
use Rattle.spec_loading.specs.Addresses.{sum_before, item_address, shared_table_address, table_address}
use Rattle.dyl_addresses.specs.Lists.{listed_item, shared_tables, table_lists}
use Rattle.dyl_addresses.specs.Sets.{wasms}
use Rattle.dyl_addresses.proofs.Items.{range_item, with_wasm}

zeros : (ts : List TableType) (t : ℕ) → t < length ts → slice_get {X = ℕ} (map (λ x. 0) ts) t ≡ Some 0
zeros [] t lt = absurd (omega arith)
zeros (x ∷ ts) zero lt = refl
zeros (x ∷ ts) (suc t) lt = zeros ts t (omega arith)

-- a table of a module whose own ones have their addresses from `start` on
abbrev place : ℕ → Module → ℕ → Option ℕ
place start wasm t =
    if nat_lt t (length (imports_of tables_in wasm.imports)) then Some shared_table_address
    else item_address start (length wasm.tables) (t - length (imports_of tables_in wasm.imports))

table_item : (start : ℕ) (wasm : Module) (t : ℕ)
    → slice_get (shared_tables wasm ++ range_with_len start (length wasm.tables)) t ≡ place start wasm t
table_item start wasm t = go (nat_lt t (length (imports_of tables_in wasm.imports))) refl
  where
    go : (b : Bool) → nat_lt t (length (imports_of tables_in wasm.imports)) ≡ b
        → slice_get (shared_tables wasm ++ range_with_len start (length wasm.tables)) t
        ≡ (if b then Some shared_table_address else item_address start (length wasm.tables) (t - length (imports_of tables_in wasm.imports)))
    go true q =
        let ts = imports_of tables_in wasm.imports in
        let lt : t < length ts = grind (arith, nat_tests) in
        let many : length (shared_tables wasm) ≡ length ts = length-map ts (λ (x : TableType). 0) in
        slice_get-append-left (shared_tables wasm) (range_with_len start (length wasm.tables)) t (omega arith) ∙ zeros ts t lt
    go false q =
        let ts = imports_of tables_in wasm.imports in
        let le : length ts ≤ t = grind (arith, nat_tests) in
        let many : length (shared_tables wasm) ≡ length ts = length-map ts (λ (x : TableType). 0) in
        let back = range_with_len start (length wasm.tables) in
        slice_get-append-right (shared_tables wasm) back t (omega arith)
        ∙ ap (λ n. slice_get back (t - n)) many
        ∙ range_item start (length wasm.tables) (t - length ts)

table_from : (start : ℕ) (xs : List Member) (m t : ℕ)
    → listed_item (table_lists start (wasms xs)) m t
    ≡ (slice_get xs m >>= λ x. place (start + sum_before (λ w. length w.tables) xs m) x.wasm t)
table_from start [] m t = refl
table_from start (x ∷ xs) zero t = let e : start + 0 ≡ start = omega arith in rw e (table_item start x.wasm t)
table_from start (x ∷ xs) (suc m) t =
    let e : start + (length x.wasm.tables + sum_before (λ w. length w.tables) xs m)
    ≡ start + length x.wasm.tables + sum_before (λ w. length w.tables) xs m = omega arith in
    rw e (table_from (start + length x.wasm.tables) xs m t)

pub table_is : (L : LinkedSet) (m t : ℕ) → listed_item (table_lists 1 (wasms L.set.members)) m t ≡ table_address L m t
table_is L m t =
    table_from 1 L.set.members m t
    ∙ sym (with_wasm (slice_get L.set.members m) (λ wasm. place (1 + sum_before (λ w. length w.tables) L.set.members m) wasm t))
