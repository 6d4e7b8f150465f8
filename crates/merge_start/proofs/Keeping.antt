-- What is the same is kept: by the members' code, by a stage that is raised with its guard, by the globals behind the guards, of which the
-- number of the error is one, and by the shared table that is written.
use Rattle.std.proofs.Common.{◌≡◌, ℕ, zero, suc, ◌+◌, ◌<◌, ◌≤◌, List, [], ◌∷◌, ◌++◌, length, map, nat_eq, slice_get, slice_set, Some, true, option_map, refl, sym, ap, ◌∙◌, subst, arith, append_assoc, length-append}
use Rattle.std.specs.List.{IsDistinct}
use Rattle.std.proofs.lemmas.List.{length-map}
use Rattle.std.proofs.lemmas.Option.{slice_get-map, slice_get_within}
use Rattle.wasm_form.specs.declared.module.Module.{Module}
use Rattle.wasm_form.specs.declared.runtime.Value.{Value}
use Rattle.wasm_form.specs.declared.runtime.Value.TheVariants.{Num}
use Rattle.spec_loading.proofs.of_spec_binary.Lists.{slice_get-append-left}
use Rattle.spec_loading.specs.spec_runtime.Tables.{TableInstance}
use Rattle.spec_loading.specs.spec_execution.Instances.{ModuleParts, Instances, module_hosts, module_view}
use Rattle.spec_loading.specs.spec_linking.LinkedSets.{LinkedSet, set_hosts}
use Rattle.spec_loading.specs.Loading.{LoaderState, stage_in}
use Rattle.spec_loading.specs.LoaderAnswers.{with_error}
use Rattle.spec_loading.specs.Members.{set_instances, set_view, uses_loader, shared_table}
use Rattle.spec_loading.specs.LoadedSet.{with_shared_table}
use Rattle.merge_match.specs.Renumbering.{Numbers, entry, value, table_instance}
use Rattle.merge_match.specs.Following.{FollowsState, Follows}
use Rattle.merge_match.specs.Laws.{HasParts}
use Rattle.merge_match.specs.Parts.{extended}
use Rattle.merge_match.proofs.Lists.{slice_set-map, length-slice_set, slice_set-append}
use Rattle.merge_match.proofs.Addresses.{length-set_at, read, written}
use Rattle.merge_match.proofs.Merged.{follows_code, follows}
use Rattle.merge_start.specs.Words.{Starts}
use Rattle.merge_start.specs.Started.{AreLater, place_of, Started, Same, HoldsSlots}

-- ---- lists

module _ {A : Type 0} where
  pub set_behind : (xs ys : List A) (i k : ℕ) (y : A) → k ≡ length xs + i → slice_set (xs ++ ys) k y ≡ xs ++ slice_set ys i y
  set_behind [] ys i k y e = (let same : k ≡ i = omega (arith, e) in rw same refl)
  set_behind (x ∷ xs) ys i zero y e = absurd (omega (arith, e))
  set_behind (x ∷ xs) ys i (suc k) y e = ap (λ l. x ∷ l) (set_behind xs ys i k y (omega (arith, e)))

  pub get_behind : (xs ys : List A) (i k : ℕ) → k ≡ length xs + i → slice_get (xs ++ ys) k ≡ slice_get ys i
  get_behind [] ys i k e = (let same : k ≡ i = omega (arith, e) in rw same refl)
  get_behind (x ∷ xs) ys i zero e = absurd (omega (arith, e))
  get_behind (x ∷ xs) ys i (suc k) e = get_behind xs ys i k (omega (arith, e))

  -- what is so of all items and of a new one is so where it is set
  all_set : (P : A → Type 0) (xs : List A) (i : ℕ) (new : A) → P new → ((k : ℕ) (y : A) → slice_get xs k ≡ Some y → P y)
      → (k : ℕ) (y : A) → slice_get (slice_set xs i new) k ≡ Some y → P y
  all_set P [] i new is all k y e = absurd cc
  all_set P (x ∷ xs) zero new is all zero y e = (let same : new ≡ y = cc in subst P same is)
  all_set P (x ∷ xs) zero new is all (suc k) y e = all (suc k) y e
  all_set P (x ∷ xs) (suc i) new is all zero y e = all zero y e
  all_set P (x ∷ xs) (suc i) new is all (suc k) y e = all_set P xs i new is (λ j z h. all (suc j) z h) k y e

  -- an item that is set is there, and the others are as before
  pub get_same : (xs : List A) (i : ℕ) (old new : A) → slice_get xs i ≡ Some old → slice_get (slice_set xs i new) i ≡ Some new
  get_same [] i old new e = absurd cc
  get_same (x ∷ xs) zero old new e = refl
  get_same (x ∷ xs) (suc i) old new e = get_same xs i old new e

  pub get_other : (xs : List A) (i j : ℕ) (new : A) → (i ≡ j → ⊥) → slice_get (slice_set xs j new) i ≡ slice_get xs i
  get_other [] i j new apart = refl
  get_other (x ∷ xs) zero zero new apart = absurd (apart refl)
  get_other (x ∷ xs) zero (suc j) new apart = refl
  get_other (x ∷ xs) (suc i) zero new apart = refl
  get_other (x ∷ xs) (suc i) (suc j) new apart = get_other xs i j new (λ e. apart (ap suc e))

-- what is 0 was so before another number was set
zero_before : (xs : List ℕ) (i k new : ℕ) → 0 < new → slice_get (slice_set xs i new) k ≡ Some 0 → slice_get xs k ≡ Some 0
zero_before [] i k new up e = e
zero_before (x ∷ xs) zero zero new up e = (let none : new ≡ 0 = cc in absurd (omega (arith, none)))
zero_before (x ∷ xs) zero (suc k) new up e = e
zero_before (x ∷ xs) (suc i) zero new up e = e
zero_before (x ∷ xs) (suc i) (suc k) new up e = zero_before xs i k new up e

-- what the globals behind the guards hold (`Started`)
pub record AreBehind (L : LinkedSet) (loader : LoaderState) (others : List Value) : Type 0 where
  pub error : uses_loader L ≡ true → slice_get others 0 ≡ Some (Num loader.error)
  pub few : loader.error ≤ 5
  pub count : uses_loader L ≡ true → slice_get others 1 ≡ Some (Num (length loader.promoted))
  pub places : uses_loader L ≡ true → (m : ℕ) → m < length L.set.members → slice_get others (2 + m) ≡ Some (Num (place_of loader.promoted m))
  pub later : AreLater L loader.promoted
  pub apart : IsDistinct nat_eq loader.promoted

module _ (L : LinkedSet) (n : Numbers) (x : Starts) where
  abbrev I : Instances
  I = set_instances L

  -- ---- the members' code

  module _ (merged : Module) (is : HasParts L n merged) (loader : LoaderState) where
    follows_state : (us parts : ModuleParts) → Same L n x loader us parts
        → FollowsState n (set_view L) (module_view merged) (Same L n x loader) us parts
    follows_state us parts same =
        let by = (follows n I (set_hosts L) merged is (Started L n) loader).state us parts same.store in
        record {
          global = by.global;
          set_global = λ m g v old e. record {
            store = by.set_global m g v old e;
            sized = record {
              globals = length-set_at us.globals (I.global_at m g) v ∙ same.sized.globals;
              elems = same.sized.elems;
              tables = same.sized.tables;
            };
          };
          table = by.table;
          set_table = λ m t y old e. record {
            store = by.set_table m t y old e;
            sized = record {
              globals = same.sized.globals;
              elems = same.sized.elems;
              tables = subst (λ k. 0 < k) (sym (length-set_at us.tables (I.table_at m t) y)) same.sized.tables;
            };
          };
          elem = by.elem;
          drop_elem = λ m d old e. record {
            store = by.drop_elem m d old e;
            sized = record {
              globals = same.sized.globals;
              elems = λ k lt. same.sized.elems k lt ∙ ap (λ c. c + k) (sym (length-set_at us.elems (I.elem_at m d) []));
              tables = same.sized.tables;
            };
          };
          bytes = by.bytes;
          drop_data = λ m d old e. record {
            store = by.drop_data m d old e;
            sized = record { globals = same.sized.globals; elems = same.sized.elems; tables = same.sized.tables };
          };
        }

    pub follows_started : Follows n (set_view L) (module_view merged) (set_hosts L) (module_hosts merged) (Same L n x loader)
    follows_started = record { code = follows_code n I (set_hosts L) merged is; state = follows_state }

  -- ---- what the merger adds is there

  module _ (loader : LoaderState) (us parts : ModuleParts) (same : Same L n x loader us parts) where
    abbrev more : ModuleParts
    more = same.store.more

    pub guard_there : (m stage : ℕ) → stage_in loader m ≡ Some stage → slice_get parts.globals (x.guards + m) ≡ Some (Num stage)
    guard_there m stage held =
        let whole : parts.globals ≡ map (value n) us.globals ++ more.globals = ap (λ (p : ModuleParts). p.globals) same.store.whole in
        let number : length (map (value n) us.globals) ≡ x.guards = length-map us.globals (value n) ∙ same.sized.globals in
        let inside : m < length (map Num loader.stages) =
        subst (λ k. m < k) (sym (length-map loader.stages Num)) (slice_get_within loader.stages m stage held) in
        ap (λ l. slice_get l (x.guards + m)) whole
        ∙ get_behind (map (value n) us.globals) more.globals m (x.guards + m) (ap (λ k. k + m) (sym number))
        ∙ ap (λ l. slice_get l m) same.store.kept.guards
        ∙ slice_get-append-left (map Num loader.stages) same.store.kept.others m inside
        ∙ slice_get-map Num loader.stages m
        ∙ ap (option_map Num) held

    pub slots_there : (m : ℕ) → stage_in loader m ≡ Some 0 → HoldsSlots L n x parts m
    slots_there m held =
        let whole : parts.elems ≡ map (map (entry n)) us.elems ++ more.elems = ap (λ (p : ModuleParts). p.elems) same.store.whole in
        let lt : m < length L.set.members = subst (λ k. m < k) same.store.kept.sized (slice_get_within loader.stages m 0 held) in
        let number : x.slots m ≡ length (map (map (entry n)) us.elems) + m =
        same.sized.elems m lt ∙ ap (λ k. k + m) (sym (length-map us.elems (map (entry n)))) in
        ap (λ l. slice_get l (x.slots m)) whole
        ∙ get_behind (map (map (entry n)) us.elems) more.elems m (x.slots m) number
        ∙ same.store.kept.slots m held

    only_first : (a : ℕ) → Some 0 ≡ Some a → a < length us.tables
    only_first a e = (let first : a ≡ 0 = cc in subst (λ k. k < length us.tables) (sym first) same.sized.tables)

    pub table_there : (table : TableInstance) → shared_table us ≡ Some table → slice_get parts.tables 0 ≡ Some (table_instance n table)
    table_there table held =
        let whole : parts.tables ≡ map (table_instance n) us.tables ++ more.tables = ap (λ (p : ModuleParts). p.tables) same.store.whole in
        ap (λ l. slice_get l 0) whole
        ∙ read (table_instance n) us.tables more.tables (Some 0) only_first (subst (λ l. length l ≤ 4294967295) whole same.store.few.tables)
        ∙ ap (option_map (table_instance n)) held

    -- ---- the shared table is written

    pub table_same : (old table : TableInstance) → shared_table us ≡ Some old
        → Same L n x loader (with_shared_table us table) (record parts { tables = slice_set parts.tables 0 (table_instance n table) })
    table_same old table held =
        let whole : parts.tables ≡ map (table_instance n) us.tables ++ more.tables = ap (λ (p : ModuleParts). p.tables) same.store.whole in
        let tables : slice_set parts.tables 0 (table_instance n table) ≡ map (table_instance n) (slice_set us.tables 0 table) ++ more.tables =
        ap (λ l. slice_set l 0 (table_instance n table)) whole
        ∙ written (table_instance n) us.tables more.tables (Some 0) only_first table old held in
        let few = same.store.few in
        let inside = same.store.inside in
        record {
          store = record {
            more = more;
            whole = ap (λ (p : ModuleParts). record p { tables = slice_set parts.tables 0 (table_instance n table) }) same.store.whole
                ∙ ap (λ l. record (extended n us more) { tables = l }) tables;
            kept = same.store.kept;
            inside = record {
              globals = inside.globals;
              tables = λ m k a e. rw (length-slice_set us.tables 0 table) (inside.tables m k a e);
              elems = inside.elems;
              datas = inside.datas;
            };
            few = record {
              globals = few.globals;
              tables = rw (length-slice_set parts.tables 0 (table_instance n table)) few.tables;
              elems = few.elems;
              datas = few.datas;
            };
          };
          sized = record {
            globals = same.sized.globals;
            elems = same.sized.elems;
            tables = subst (λ k. 0 < k) (sym (length-slice_set us.tables 0 table)) same.sized.tables;
          };
        }

    -- ---- a stage is raised, with its guard

    pub stage_same : (m stage new : ℕ) → stage_in loader m ≡ Some stage → new ≤ 4 → 0 < new
        → Same L n x (record loader { stages = slice_set loader.stages m new }) us
        (record parts { globals = slice_set parts.globals (x.guards + m) (Num new) })
    stage_same m stage new held small up =
        let whole : parts.globals ≡ map (value n) us.globals ++ more.globals = ap (λ (p : ModuleParts). p.globals) same.store.whole in
        let number : length (map (value n) us.globals) ≡ x.guards = length-map us.globals (value n) ∙ same.sized.globals in
        let globals : slice_set parts.globals (x.guards + m) (Num new) ≡ map (value n) us.globals ++ slice_set more.globals m (Num new) =
        ap (λ l. slice_set l (x.guards + m) (Num new)) whole
        ∙ set_behind (map (value n) us.globals) more.globals m (x.guards + m) (Num new) (ap (λ k. k + m) (sym number)) in
        let inside : m < length (map Num loader.stages) =
        subst (λ k. m < k) (sym (length-map loader.stages Num)) (slice_get_within loader.stages m stage held) in
        let kept = same.store.kept in
        let few = same.store.few in
        record {
          store = record {
            more = record more { globals = slice_set more.globals m (Num new) };
            whole = ap (λ (p : ModuleParts). record p { globals = slice_set parts.globals (x.guards + m) (Num new) }) same.store.whole
                ∙ ap (λ l. record (extended n us more) { globals = l }) globals;
            kept = record {
              sized = length-slice_set loader.stages m new ∙ kept.sized;
              low = all_set (λ k. k ≤ 4) loader.stages m new small kept.low;
              others = kept.others;
              guards = ap (λ l. slice_set l m (Num new)) kept.guards
                  ∙ slice_set-append (map Num loader.stages) kept.others m (Num new) inside
                  ∙ ap (λ l. l ++ kept.others) (slice_set-map Num loader.stages m new);
              error = kept.error;
              few = kept.few;
              count = kept.count;
              places = kept.places;
              later = kept.later;
              apart = kept.apart;
              slots = λ k here. kept.slots k (zero_before loader.stages m k new up here);
            };
            inside = same.store.inside;
            few = record {
              globals = rw (length-slice_set parts.globals (x.guards + m) (Num new)) few.globals;
              tables = few.tables;
              elems = few.elems;
              datas = few.datas;
            };
          };
          sized = same.sized;
        }

    -- ---- the globals behind the guards

    abbrev pub others : List Value
    others = same.store.kept.others

    -- those of the store, and the guards
    abbrev pub first_globals : List Value
    first_globals = map (value n) us.globals ++ map Num loader.stages

    first_then : (ys : List Value) → map (value n) us.globals ++ (map Num loader.stages ++ ys) ≡ first_globals ++ ys
    first_then ys = sym (append_assoc (map (value n) us.globals) (map Num loader.stages) ys)

    pub whole_globals : parts.globals ≡ first_globals ++ others
    whole_globals =
        ap (λ (p : ModuleParts). p.globals) same.store.whole ∙ ap (λ l. map (value n) us.globals ++ l) same.store.kept.guards ∙ first_then others

    first_end : (j : ℕ) → x.guards + length L.set.members + j ≡ length first_globals + j
    first_end j =
        let both = length-append (map (value n) us.globals) (map Num loader.stages) in
        let store = length-map us.globals (value n) in
        let guards = length-map loader.stages Num in
        let sized = same.sized.globals in
        let held = same.store.kept.sized in
        omega (arith, both, store, guards, sized, held)

    pub other_there : (j g : ℕ) → g ≡ x.guards + length L.set.members + j → slice_get parts.globals g ≡ slice_get others j
    other_there j g e = ap (λ l. slice_get l g) whole_globals ∙ get_behind first_globals others j g (e ∙ first_end j)

    pub other_set : (ys : List Value) (j g : ℕ) (v : Value) → g ≡ x.guards + length L.set.members + j
        → slice_set (first_globals ++ ys) g v ≡ first_globals ++ slice_set ys j v
    other_set ys j g v e = set_behind first_globals ys j g v (e ∙ first_end j)

    -- they change with what the loader keeps beside the stages
    pub behind_same : (error : ℕ) (promoted : List ℕ) (ys gs : List Value)
        → AreBehind L (record loader { error = error; promoted = promoted }) ys → gs ≡ first_globals ++ ys → length gs ≡ length parts.globals
        → Same L n x (record loader { error = error; promoted = promoted }) us (record parts { globals = gs })
    behind_same error promoted ys gs behind is long =
        let kept = same.store.kept in
        let few = same.store.few in
        record {
          store = record {
            more = record more { globals = map Num loader.stages ++ ys };
            whole = ap (λ (p : ModuleParts). record p { globals = gs }) same.store.whole
                ∙ ap (λ l. record (extended n us more) { globals = l }) (is ∙ sym (first_then ys));
            kept = record {
              sized = kept.sized;
              low = kept.low;
              others = ys;
              guards = refl;
              error = behind.error;
              few = behind.few;
              count = behind.count;
              places = behind.places;
              later = behind.later;
              apart = behind.apart;
              slots = kept.slots;
            };
            inside = same.store.inside;
            few = record {
              globals = rw long few.globals;
              tables = few.tables;
              elems = few.elems;
              datas = few.datas;
            };
          };
          sized = same.sized;
        }

    -- ---- the number of the error, which comes first of them

    module _ (used : uses_loader L ≡ true) where
      abbrev error_number : ℕ
      error_number = x.guards + length L.set.members

      error_place : error_number ≡ x.guards + length L.set.members + 0
      error_place = omega arith

      pub error_there : slice_get parts.globals error_number ≡ Some (Num loader.error)
      error_there = other_there 0 error_number error_place ∙ same.store.kept.error used

      pub error_same : (e : ℕ) → e ≤ 5
          → Same L n x (with_error loader e) us (record parts { globals = slice_set parts.globals error_number (Num e) })
      error_same e small =
          let kept = same.store.kept in
          behind_same e loader.promoted (slice_set others 0 (Num e)) (slice_set parts.globals error_number (Num e))
          (record {
            error = λ is. get_same others 0 (Num loader.error) (Num e) (kept.error is);
            few = small;
            count = λ is. get_other others 1 0 (Num e) (λ h. omega (arith, h)) ∙ kept.count is;
            places = λ is m lt. get_other others (2 + m) 0 (Num e) (λ h. omega (arith, h)) ∙ kept.places is m lt;
            later = kept.later;
            apart = kept.apart;
          })
          (ap (λ l. slice_set l error_number (Num e)) whole_globals ∙ other_set others 0 error_number (Num e) error_place)
          (length-slice_set parts.globals error_number (Num e))
