-- Each number of a member has an address, at which something is.
use Rattle.std.proofs.Common.{◌≡◌, ℕ, ◌<◌, List, length, Option, Some, None, refl, sym, subst}
use Rattle.std.specs.Prelude.{slice_get, is_some, IsTrue}
use Rattle.std.proofs.lemmas.Option.{slice_get_within}
use Rattle.spec_loading.specs.spec_binary.Options.{◌>>=◌}
use Rattle.spec_loading.proofs.of_spec_binary.Options.{went_on}
use Rattle.spec_loading.specs.spec_execution.Ranges.{HoldsAll}
use Rattle.spec_loading.specs.spec_linking.LinkedSets.{LinkedSet}
use Rattle.spec_loading.specs.Members.{set_instances, set_view, opening_store}
use Rattle.dyl_store.specs.Worlds.{Fits}

address_found : {X : Type 0} (o : Option ℕ) (xs : List X) (n : ℕ) (v : X) → (o >>= slice_get xs) ≡ Some v → length xs ≡ n → (a : ℕ) × (o ≡ Some a) × (a < n)
address_found o xs n v e size =
    let found = went_on o (slice_get xs) v e in
    (found.0, found.1, subst (λ (k : ℕ). found.0 < k) size (slice_get_within xs found.0 v found.2))

bytes_found : (o : Option (List ℕ)) → IsTrue (is_some o) → (bytes : List ℕ) × (o ≡ Some bytes)
bytes_found None e = absurd cc
bytes_found (Some bytes) e = (bytes, refl)

pub all_fit : (L : LinkedSet) → HoldsAll (set_view L) (opening_store L) → Fits L
all_fit L all us sizes = record {
  globals = λ m g lt. let v = all.globals m g lt in address_found ((set_instances L).global_at m g) (opening_store L).globals (length us.globals) v.0 v.1 (sym sizes.globals);
  tables = λ m t lt. let x = all.tables m t lt in address_found ((set_instances L).table_at m t) (opening_store L).tables (length us.tables) x.0 x.1 (sym sizes.tables);
  elems = λ m e lt. let x = all.elems m e lt in address_found ((set_instances L).elem_at m e) (opening_store L).elems (length us.elems) x.0 x.1 (sym sizes.elems);
  datas = λ m d lt. let x = bytes_found ((set_view L).bytes (opening_store L) m d) (all.datas m d lt) in address_found ((set_instances L).data_at m d) (opening_store L).datas (length us.datas) x.0 x.1 (sym sizes.datas);
}
