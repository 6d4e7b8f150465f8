-- The tables of a linked set.
use Rattle.std.proofs.Common.{◌≡◌, ℕ, zero, suc, ◌+◌, ◌<◌, ◌≤◌, max, Bool, true, false, List, [], ◌∷◌, ◌++◌, length, map, get_or, Option, Some, None, refl, sym, ap, ap₂, ◌∙◌, arith, slice_get, nat_lt, nat_eq, ltb-true, ltb-false, length-append, cond}
use Rattle.std.specs.List.{All, position_from}
use Rattle.std.specs.Option.{option_map}
use Rattle.std.proofs.lemmas.Bool.Decides.{nat_tests}
use Rattle.std.proofs.lemmas.List.{map-append, length-map}
use Rattle.std.proofs.lemmas.Simd.{map-map}
use Rattle.std.proofs.lemmas.Option.{slice_get-map}
use Rattle.wasm_form.specs.declared.module.Import.{Import}
use Rattle.wasm_form.specs.declared.module.Module.{Module}
use Rattle.wasm_form.specs.declared.runtime.LoaderCall.{LoaderCall}
use Rattle.wasm_form.specs.declared.runtime.Ref.{Ref}
use Rattle.wasm_form.specs.declared.runtime.Ref.TheVariants.{Own, Loader, Host, Stub}
use Rattle.spec_loading.specs.spec_binary.Options.{◌>>=◌}
use Rattle.spec_loading.specs.spec_binary.IndexSpaces.{globals_in}
use Rattle.spec_loading.specs.spec_linking.Sets.{Member}
use Rattle.spec_loading.specs.spec_linking.Plans.{sizes_of}
use Rattle.spec_loading.specs.spec_linking.Imports.{importing}
use Rattle.spec_loading.specs.spec_linking.LinkedSets.{LinkedSet}
use Rattle.spec_loading.specs.spec_linking.Slots.{linked_plan, same_call, slot_of, fresh_functions, outside_slots, outside_refs, table_entries, initial_number, imported_number}
use Rattle.spec_loading.specs.LoadedSet.{slots_before, first_slot}
use Rattle.dyl_slots.specs.declared.wanted.Wanted.{Wanted}
use Rattle.dyl_slots.specs.declared.tables.LoaderSlots.{LoaderSlots}
use Rattle.dyl_slots.specs.declared.tables.MemberSlots.{MemberSlots}
use Rattle.dyl_slots.specs.Fresh.{slot_at}
use Rattle.dyl_slots.specs.Given.{IsSlotsOf, AllAt, fresh_sum}
use Rattle.dyl_slots.specs.Found.{loader_slot_in, slot_in, initial_in, initial_values, IsCellsOf}
use Rattle.dyl_slots.specs.Outside.{calls_in, hosts_in, outside_in}
use Rattle.dyl_slots.specs.Wanted.{IsWanted, wanted_end, cell_at}
use Rattle.dyl_slots.proofs.AllMembers.{past_end, fresh_sum_is}
use Rattle.dyl_slots.proofs.OutsidePlaces.{outside_same}
use Rattle.dyl_slots.proofs.OwnSlots.{fresh_count, loader_fresh, host_fresh}
use Rattle.dyl_slots.proofs.Segments.{slot_read}

-- ---- host functions

absent : (n count : ℕ) → count ≤ n → (i : ℕ) (ns : List ℕ) → All (λ k. k < count) ns → position_from (nat_eq n) i ns ≡ None
absent n count le i [] all = refl
absent n count le i (k ∷ ns) all =
    let small : k < count = all 0 0 (omega arith) in
    let other : nat_eq n k ≡ false = grind (arith, nat_tests) in
    ap (λ b. cond b (Some i) (position_from (nat_eq n) (i + 1) ns)) other ∙ absent n count le (i + 1) ns (λ j d lt. all (suc j) d (omega arith))

pub host_slots_exact : (slots : List (Option ℕ)) (count first : ℕ) (hosts : List ℕ) → All (λ k. k < count) hosts → length slots ≡ count → ((f : ℕ) → f < count → get_or slots f None ≡ position_from (nat_eq f) first hosts)
    → (n : ℕ) → slot_at slots n ≡ position_from (nat_eq n) first hosts
host_slots_exact slots count first hosts small many places n = slot_read slots n ∙ by (nat_lt n count) refl
  where
    by : (b : Bool) → nat_lt n count ≡ b → get_or slots n None ≡ position_from (nat_eq n) first hosts
    by true p = places n (ltb-true n count p)
    by false p = let le = ltb-false n count p in past_end slots n (omega arith) ∙ sym (absent n count (omega arith) first hosts small)

-- ---- slots

no_member : (m f : ℕ) (L : LinkedSet) → slice_get L.set.members m ≡ None → slot_of L (Own m f) ≡ None
no_member m f L e = rw e refl

beyond : {A B : Type 0} (xs : List A) (ys : List B) (m : ℕ) → length xs ≡ length ys → slice_get xs m ≡ None → slice_get ys m ≡ None
beyond xs [] m e h = refl
beyond [] (y ∷ ys) m e h = absurd (omega arith)
beyond (x ∷ xs) (y ∷ ys) zero e h = absurd cc
beyond (x ∷ xs) (y ∷ ys) (suc m) e h = beyond xs ys m (omega arith) h

module _ (L : LinkedSet) where
  pub slots_are : (w : Wanted) (members : List MemberSlots) (hosts : List (Option ℕ)) (loader : LoaderSlots) (end : ℕ) → IsWanted L w → end ≡ (linked_plan L).table_end → length members ≡ length w.members.items → AllAt (IsSlotsOf L) members
      → ((call : LoaderCall) → loader_slot_in loader call ≡ position_from (same_call call) (end + fresh_sum w.members.items) w.outside.calls.items)
      → ((n : ℕ) → slot_at hosts n ≡ position_from (nat_eq n) ((end + fresh_sum w.members.items) + length w.outside.calls.items) w.outside.hosts)
      → (r : Ref) → slot_in members hosts loader r ≡ slot_of L r
  slots_are w members hosts loader end is same count all calls numbers = by
    where
      first : end + fresh_sum w.members.items ≡ first_slot L (length L.set.members)
      first = ap₂ (λ a b. a + b) same (fresh_sum_is L w.members.items is.members ∙ ap (slots_before L) is.count)

      own : (m f : ℕ) (o : Option MemberSlots) → slice_get members m ≡ o → slot_in members hosts loader (Own m f) ≡ slot_of L (Own m f)
      own m f (Some x) e = ap (λ (o : Option MemberSlots). o >>= λ x. slot_at x.slots f) e ∙ (all m x e).slots f
      own m f None e = ap (λ (o : Option MemberSlots). o >>= λ x. slot_at x.slots f) e ∙ sym (no_member m f L (beyond members L.set.members m (count ∙ is.count) e))

      by : (r : Ref) → slot_in members hosts loader r ≡ slot_of L r
      by (Own m f) = own m f (slice_get members m) refl
      by (Loader call) = calls call ∙ ap₂ (position_from (same_call call)) first is.calls ∙ sym (loader_fresh L call)
      by (Host n) = numbers n ∙ ap₂ (position_from (nat_eq n)) (ap₂ (λ a b. a + b) first (ap length is.calls)) is.hosts ∙ sym (host_fresh L n)
      by (Stub m f) = refl

  -- ---- entries

  pub entries_are : (w : Wanted) (end least : ℕ) → IsWanted L w → end ≡ (linked_plan L).table_end → least ≡ (sizes_of L.set L.options).table_min → max (wanted_end w end) least ≡ table_entries L
  entries_are w end least is same minimum = ap₂ max reached minimum
    where
      reached : wanted_end w end ≡ (linked_plan L).table_end + length (fresh_functions L ++ outside_slots L)
      reached =
          let own : fresh_sum w.members.items ≡ length (fresh_functions L) = fresh_sum_is L w.members.items is.members ∙ ap (slots_before L) is.count ∙ sym (fresh_count L) in
          let both = length-append (fresh_functions L) (outside_slots L) in
          let outside : length (outside_slots L) ≡ length (outside_in (outside_refs L)) = ap length (outside_same (outside_refs L)) in
          let parts = length-append (map Loader (calls_in (outside_refs L))) (map Host (hosts_in (outside_refs L))) in
          let loaders : length (map Loader (calls_in (outside_refs L))) ≡ length w.outside.calls.items = length-map (calls_in (outside_refs L)) Loader ∙ sym (ap length is.calls) in
          let hosts : length (map Host (hosts_in (outside_refs L))) ≡ length w.outside.hosts = length-map (hosts_in (outside_refs L)) Host ∙ sym (ap length is.hosts) in
          omega arith

  -- ---- cells

  initials_are : (m : ℕ) (is : List Import) → initial_values L m is ≡ map (initial_number L m) (importing globals_in is)
  initials_are m [] = refl
  initials_are m (i ∷ is) =
      ap (λ ns. initial_in L m i i.desc ++ ns) (initials_are m is)
      ∙ ap (λ ns. ns ++ map (initial_number L m) (importing globals_in is)) (sym (map-map (initial_number L m) (λ x. i) (globals_in i.desc)))
      ∙ sym (map-append (initial_number L m) (map (λ x. i) (globals_in i.desc)) (importing globals_in is))

  either_way : (m : ℕ) (o : Option Import) → (option_map (initial_number L m) o >>= λ value. value) ≡ (o >>= initial_number L m)
  either_way m None = refl
  either_way m (Some i) = refl

  initial_at : (m g : ℕ) (is : List Import) → slot_at (initial_values L m is) g ≡ (slice_get (importing globals_in is) g >>= initial_number L m)
  initial_at m g is =
      ap (λ vs. slot_at vs g) (initials_are m is)
      ∙ ap (λ (o : Option (Option ℕ)). o >>= λ value. value) (slice_get-map (initial_number L m) (importing globals_in is) g)
      ∙ either_way m (slice_get (importing globals_in is) g)

  pub cells_are : (cells : List (List (Option ℕ))) → AllAt (IsCellsOf L) cells → length cells ≡ length L.set.members → (m g : ℕ) → cell_at cells m g ≡ imported_number L m g
  cells_are cells all count m g = by (slice_get cells m) (slice_get L.set.members m) refl refl
    where
      at : Option (List (Option ℕ)) → Option ℕ
      at o = o >>= λ values. slot_at values g

      wanted : Option Member → Option ℕ
      wanted o = (o >>= λ x. Some x.wasm) >>= λ (w : Module). slice_get (importing globals_in w.imports) g >>= initial_number L m

      by : (o : Option (List (Option ℕ))) (p : Option Member) → slice_get cells m ≡ o → slice_get L.set.members m ≡ p → at (slice_get cells m) ≡ wanted (slice_get L.set.members m)
      by None p e q = ap at e ∙ sym (ap wanted (beyond cells L.set.members m count e))
      by (Some values) None e q = absurd (let none = beyond L.set.members cells m (sym count) q in cc)
      by (Some values) (Some x) e q =
          ap at e
          ∙ ap (λ vs. slot_at vs g) (all m values e x.wasm (ap (λ (o : Option Member). o >>= λ y. Some y.wasm) q))
          ∙ initial_at m g x.wasm.imports
          ∙ sym (ap wanted q)
