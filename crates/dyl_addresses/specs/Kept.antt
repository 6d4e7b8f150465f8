-- The addresses that are kept of a linked set, and when they are those of the set (WebAssembly Core 2.0, section 4.2.5).
use Rattle.std.specs.Prelude.{◌≡◌, ℕ, List, Option}
use Rattle.wasm_form.specs.declared.module.Module.{Module}
use Rattle.spec_loading.specs.spec_linking.LinkedSets.{LinkedSet}
use Rattle.spec_loading.specs.Addresses.{global_address, table_address, elem_address, data_address}
use Rattle.dyl_addresses.specs.Sets.{wasms}
use Rattle.dyl_addresses.specs.declared.lists.Space.TheVariants.{Elems, Datas}
use Rattle.dyl_addresses.specs.Lists.{listed_item, size_in, numbered, table_lists}
use Rattle.dyl_addresses.specs.Globals.{global_lists, global_item}

-- Of each member, by its own numbers, the addresses of its globals, tables and segments. An imported global has none where its import
-- stands for nothing that is in the store.
pub record KeptAddresses : Type 0 where
  pub globals : List (List (Option ℕ))
  pub tables : List (List ℕ)
  pub elems : List (List ℕ)
  pub datas : List (List ℕ)

abbrev pub kept_global : KeptAddresses → ℕ → ℕ → Option ℕ
kept_global a m g = global_item a.globals m g

abbrev pub kept_table : KeptAddresses → ℕ → ℕ → Option ℕ
kept_table a m t = listed_item a.tables m t

abbrev pub kept_elem : KeptAddresses → ℕ → ℕ → Option ℕ
kept_elem a m e = listed_item a.elems m e

abbrev pub kept_data : KeptAddresses → ℕ → ℕ → Option ℕ
kept_data a m d = listed_item a.datas m d

-- they are the addresses of what the members of a set have
pub record AreAddressesOf (L : LinkedSet) (a : KeptAddresses) : Type 0 where
  pub globals : (m g : ℕ) → kept_global a m g ≡ global_address L m g
  pub tables : (m t : ℕ) → kept_table a m t ≡ table_address L m t
  pub elems : (m e : ℕ) → kept_elem a m e ≡ elem_address L m e
  pub datas : (m d : ℕ) → kept_data a m d ≡ data_address L m d

-- ---- how they are made

-- by the modules of the members; the stack pointer and the shared table come first
abbrev pub addresses_with : List Module → KeptAddresses
addresses_with wasms = record {
  globals = global_lists 1 wasms;
  tables = table_lists 1 wasms;
  elems = numbered (size_in Elems) 0 wasms;
  datas = numbered (size_in Datas) 0 wasms;
}

abbrev pub addresses_of : LinkedSet → KeptAddresses
addresses_of L = addresses_with (wasms L.set.members)
