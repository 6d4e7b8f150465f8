-- Placing a member of a linked set keeps a sound store sound, and a memory one.
use Rattle.std.proofs.Common.{◌≡◌, ℕ, ◌<◌, [], length, map, Option, Some, None, refl, sym, ap, ◌∙◌, subst}
use Rattle.std.specs.Prelude.{IfSome}
use Rattle.std.specs.List.{All}
use Rattle.spec_linking.specs.wasm_form.declared.module.Module.{Module}
use Rattle.spec_linking.specs.wasm_form.declared.runtime.Trap.{Trap}
use Rattle.spec_linking.specs.spec_binary.Options.{◌>>=◌}
use Rattle.spec_linking.proofs.of_spec_binary.Lists.{got}
use Rattle.spec_linking.specs.spec_runtime.Memories.{MemoryInstance}
use Rattle.spec_linking.specs.spec_runtime.Tables.{TableInstance, entries_written}
use Rattle.spec_linking.specs.spec_execution.Views.{View}
use Rattle.spec_linking.specs.spec_execution.Segments.{Performed, segment_effects, all_performed}
use Rattle.spec_linking.specs.Sets.{Member}
use Rattle.spec_linking.specs.Gathering.{IsSet}
use Rattle.spec_linking.specs.LinkedSets.{LinkedSet, wasm_of}
use Rattle.spec_linking.specs.Slots.{member_number}
use Rattle.spec_safety.specs.ValueTypes.{IsMemory, IsTable}
use Rattle.spec_safety.specs.TypedViews.{IsTypedView}
use Rattle.spec_safety.specs.TypedMoves.{IsTypedEffect}
use Rattle.spec_safety.proofs.KnownStacks.{then_is}
use Rattle.spec_safety.proofs.SoundEffects.{entries_kept}
use Rattle.spec_safety.proofs.TypedSegments.{all_performed_ok, segments_fine}
use Rattle.spec_loading.specs.Addresses.{shared_table_address}
use Rattle.spec_loading.specs.Members.{Store, set_view, shared_table}
use Rattle.spec_loading.specs.RunItems.{SharedFunctionTable}
use Rattle.spec_loading.specs.LoadedSet.{own_functions, first_slot, with_slots, slots_written, slots_after, member_placed}
use Rattle.spec_loading.specs.SetNames.{names_of, set_names}
use Rattle.spec_loading.specs.SoundSets.{IsSoundStore}
use Rattle.spec_loading.proofs.SetViews.{keeps_tables}
use Rattle.spec_loading.proofs.LinkedMembers.{is_sound}
use Rattle.spec_loading.proofs.LinkedSlots.{own_entries}

module _ (L : LinkedSet) (set : IsSet L.set) (typed : IsTypedView (set_view L) (set_names L) (IsSoundStore L)) where
  abbrev V : View Store
  V = set_view L

  -- it leads somewhere, where the store is sound
  abbrev IsFine : Option (Performed Store) → Type 0
  IsFine o = (p : Performed Store) × (o ≡ Some p) × IsSoundStore L p.units × IsMemory p.memory

  -- ---- the fresh slots

  slots_sound : (m : ℕ) (us : Store) (memory : MemoryInstance) → IsSoundStore L us → IsMemory memory → IsFine (slots_written L m us memory)
  slots_sound m us memory sound is =
      let table = sound.tables SharedFunctionTable shared_table_address refl in
      let wrote = entries_kept V table.0 (first_slot L m) (map Some (own_functions L m)) table.2 (own_entries L set m) in
      subst IsFine (sym (then_is (shared_table us) (λ x. Some (with_slots us memory (entries_written x (first_slot L m) (map Some (own_functions L m))))) table.0 table.1))
      (go (entries_written table.0 (first_slot L m) (map Some (own_functions L m))) wrote)
    where
      go : (o : Option TableInstance) → IfSome o (IsTable V) → IsFine (Some (with_slots us memory o))
      go None wrote = (_, refl, sound, is)
      go (Some new) wrote = (_, refl, keeps_tables L us sound (Some shared_table_address) new wrote, is)

  after_sound : (m : ℕ) (p : Performed Store) (o : Option Trap) → IsSoundStore L p.units → IsMemory p.memory → IsFine (slots_after L m p o)
  after_sound m p None sound is = slots_sound m p.units p.memory sound is
  after_sound m p (Some why) sound is = (p, refl, sound, is)

  -- ---- all of it

  effects_fine : (m : ℕ) (wasm : Module) → wasm_of L m ≡ Some wasm → All (λ x. IsTypedEffect V (set_names L m) x []) (segment_effects (member_number L m) wasm)
  effects_fine m wasm at =
      subst (λ c. All (λ x. IsTypedEffect V c x []) (segment_effects (member_number L m) wasm)) (sym (ap names_of at))
      (segments_fine V wasm (member_number L m) (is_sound L m wasm set at).valid)

  pub placed_sound : (m : ℕ) (us : Store) (memory : MemoryInstance) → m < length L.set.members → IsSoundStore L us → IsMemory memory → IsFine (member_placed L m us memory)
  placed_sound m us memory lt sound is =
      let member = got L.set.members m lt in
      let at : wasm_of L m ≡ Some member.0.wasm = ap (λ (o : Option Member). o >>= λ x. Some x.wasm) member.1 in
      let effects = segment_effects (member_number L m) member.0.wasm in
      let p = all_performed_ok V (set_names L) (IsSoundStore L) typed m effects us memory sound is (effects_fine m member.0.wasm at) in
      subst IsFine (sym (
      then_is (wasm_of L m) (λ wasm. all_performed V m (segment_effects (member_number L m) wasm) us memory >>= λ q. slots_after L m q q.trap) member.0.wasm at
      ∙ then_is (all_performed V m effects us memory) (λ q. slots_after L m q q.trap) p.0 p.1))
      (after_sound m p.0 p.0.trap p.2 p.3)
