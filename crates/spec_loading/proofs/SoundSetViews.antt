-- The view of the members of a linked set is sound: it is typed under its names, of which each member has as many as it counts.
use Rattle.std.proofs.Common.{◌≡◌, ℕ, false, Option, Some, None, refl, sym, arith}
use Rattle.std.specs.Prelude.{nat_lt}
use Rattle.std.proofs.lemmas.Bool.{le-ltb}
use Rattle.spec_linking.specs.wasm_form.declared.module.Module.{Module}
use Rattle.spec_linking.specs.Gathering.{IsSet}
use Rattle.spec_linking.specs.LinkedSets.{LinkedSet, wasm_of}
use Rattle.spec_linking.specs.Links.{Links}
use Rattle.spec_safety.specs.TypedViews.{AreCounted, IsSoundView}
use Rattle.spec_safety.proofs.CountedNames.{names_counted}
use Rattle.spec_safety.proofs.SoundViews.{store_sound}
use Rattle.spec_loading.specs.Members.{counts_of, set_instances, set_view}
use Rattle.spec_loading.specs.SetNames.{names_of, set_names}
use Rattle.spec_loading.proofs.LinkedMembers.{is_sound}
use Rattle.spec_loading.proofs.SetViews.{globals_alike, set_view_typed}

none_below : (k : ℕ) → false ≡ nat_lt k 0
none_below k = sym (le-ltb k 0 (omega arith))

set_counted : (L : LinkedSet) → IsSet L.set → (m : ℕ) → AreCounted (set_names L m) (counts_of (wasm_of L m))
set_counted L set m = go (wasm_of L m) refl
  where
    go : (o : Option Module) → wasm_of L m ≡ o → AreCounted (names_of o) (counts_of o)
    go None e = record { types = none_below; functions = none_below; globals = none_below; tables = none_below; elems = none_below; datas = refl }
    go (Some wasm) e = names_counted wasm (is_sound L m wasm set e).valid

pub set_view_sound : (L : LinkedSet) → IsSet L.set → Links L → IsSoundView (set_view L)
set_view_sound L set links =
    let view = set_view_typed L set links in
    store_sound (set_instances L)
    (record {
      types = view.types;
      functions = view.functions;
      refers = view.refers;
      globals = globals_alike L links;
      tables = view.tables;
      code = view.code;
    })
    (set_counted L set)
