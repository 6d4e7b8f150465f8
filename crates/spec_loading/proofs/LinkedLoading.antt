-- What the loader does with a linked set keeps all sound.
use Rattle.std.proofs.Common.{◌≡◌, ℕ, ◌<◌, ◌-◌, ◌^◌, length, Option, Some, ap, arith}
use Rattle.spec_linking.specs.wasm_form.declared.types.FuncType.{FuncType}
use Rattle.spec_linking.specs.wasm_form.declared.runtime.Ref.{Ref}
use Rattle.spec_linking.specs.wasm_form.declared.runtime.Ref.TheVariants.{Own}
use Rattle.spec_linking.specs.spec_binary.Options.{◌>>=◌}
use Rattle.spec_linking.specs.spec_runtime.Names.{HostName}
use Rattle.spec_linking.specs.Gathering.{IsSet}
use Rattle.spec_linking.specs.LinkedSets.{LinkedSet, set_hosts}
use Rattle.spec_linking.specs.Links.{Links}
use Rattle.spec_safety.specs.TypedViews.{IsTypedView}
use Rattle.spec_safety.proofs.KnownStacks.{some_same}
use Rattle.spec_safety.proofs.Lookups.{went_on}
use Rattle.spec_loading.specs.Members.{set_view}
use Rattle.spec_loading.specs.LoadedSet.{set_loading}
use Rattle.spec_loading.specs.SetNames.{set_names}
use Rattle.spec_loading.specs.SoundLoading.{IsNullary, IsSoundLoading}
use Rattle.spec_loading.specs.SoundSets.{IsSoundStore, HasFewPages}
use Rattle.spec_loading.proofs.SetViews.{set_view_typed}
use Rattle.spec_loading.proofs.LinkedCallees.{callee_there, entry_there}
use Rattle.spec_loading.proofs.SoundAnswers.{promoting_sound, answers_sound}
use Rattle.spec_loading.proofs.SoundPlacing.{placed_sound}

module _ (L : LinkedSet) (set : IsSet L.set) (links : Links L) where
  host_named : (entry : ℕ) (ty : FuncType) → (set_view L).host entry ≡ Some ty → (h : HostName) × (set_hosts L entry ≡ Some h) × (h.ty ≡ ty)
  host_named entry ty e = let h = went_on (set_hosts L entry) (λ (x : HostName). Some x.ty) ty e in (h.0, h.1, some_same h.2)

  entry_named : (r : Ref) × ((set_loading L).entry ≡ Some r) × IsNullary (set_view L) r
  entry_named = let f = entry_there L set links in (Own 0 f.0, ap (λ (o : Option ℕ). o >>= λ g. Some (Own 0 g)) f.1, f.2)

  few_members : length L.set.members < 2 ^ 32 - 1
  few_members = let few = set.few in omega arith

  typed : IsTypedView (set_view L) (set_names L) (IsSoundStore L)
  typed = set_view_typed L set links

  pub loading_sound : HasFewPages L → IsSoundLoading (set_loading L) (set_names L) (IsSoundStore L) (length L.set.members)
  loading_sound few = record {
    view = typed;
    hosts = host_named;
    placed = placed_sound L set typed;
    callee = callee_there L set links;
    entry = entry_named;
    few = few_members;
    promoting = promoting_sound L set links few;
    answer = λ which args memory loader given is. answers_sound L set links few loader is which args memory given;
  }
