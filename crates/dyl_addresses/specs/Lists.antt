-- How lists of addresses are made, member by member.
-- Serves the contracts of this crate, which follow Addresses of `spec_loading`.
use Rattle.std.specs.Prelude.{ℕ, ◌+◌, List, [], ◌∷◌, ◌++◌, length, map, slice_get, Option}
use Rattle.std.specs.List.{range_with_len}
use Rattle.wasm_form.specs.declared.module.Module.{Module}
use Rattle.spec_loading.specs.spec_binary.Options.{◌>>=◌}
use Rattle.spec_loading.specs.spec_binary.IndexSpaces.{imports_of, tables_in}
use Rattle.dyl_addresses.specs.declared.lists.Space.{Space}
use Rattle.dyl_addresses.specs.declared.lists.Space.TheVariants.{Types, Codes, Tables, Elems, Datas}

-- item i of the list of member m
abbrev pub listed_item : {X : Type 0} → List (List X) → ℕ → ℕ → Option X
listed_item lists m i = slice_get lists m >>= λ list. slice_get list i

abbrev pub size_in : Space → Module → ℕ
size_in Types wasm = length wasm.types
size_in Codes wasm = length wasm.codes
size_in Tables wasm = length wasm.tables
size_in Elems wasm = length wasm.elems
size_in Datas wasm = length wasm.datas

-- the number after so many for each module, from a number on
abbrev pub numbers_end : (Module → ℕ) → ℕ → List Module → ℕ
numbers_end size start [] = start
numbers_end size start (x ∷ xs) = numbers_end size (start + size x) xs

-- so many numbers for each module, from a number on
abbrev pub numbered : (Module → ℕ) → ℕ → List Module → List (List ℕ)
numbered size start [] = []
numbered size start (x ∷ xs) = range_with_len start (size x) ∷ numbered size (start + size x) xs

-- imported tables are the shared one, which has address 0
abbrev pub shared_tables : Module → List ℕ
shared_tables wasm = map (λ t. 0) (imports_of tables_in wasm.imports)

abbrev pub table_lists : ℕ → List Module → List (List ℕ)
table_lists start [] = []
table_lists start (x ∷ xs) = (shared_tables x ++ range_with_len start (length x.tables)) ∷ table_lists (start + length x.tables) xs
