-- What is kept of what the loader keeps is that of the merged module.
use Rattle.std.proofs.Common.{◌≡◌, ℕ, zero, suc, ◌+◌, ◌<◌, ◌≤◌, List, [], ◌∷◌, ◌++◌, length, map, take, drop, slice_get, nat_eq, ◌&&◌, Option, Some, None, Bool, true, false, if◌then◌else◌, refl, sym, ap, ap₂, ◌∙◌, arith, append_assoc}
use Rattle.std.proofs.lemmas.List.{map-append, append-nil, take_all, drop_all}
use Rattle.std.proofs.lemmas.Map.Steps.{length-le_from_distinct_below}
use Rattle.spec_loading.specs.wasm_form.declared.runtime.Value.{Value}
use Rattle.spec_loading.specs.wasm_form.declared.runtime.Value.TheVariants.{Num}
use Rattle.spec_loading.specs.spec_linking.Sets.{Member}
use Rattle.spec_loading.specs.spec_linking.LinkedSets.{LinkedSet}
use Rattle.spec_loading.specs.spec_linking.Slots.{fresh_of}
use Rattle.spec_loading.specs.Loading.{LoaderState, stage_in}
use Rattle.spec_loading.specs.Members.{from_members, uses_loader}
use Rattle.spec_loading.specs.LoadedSet.{own_functions}
use Rattle.spec_loading.specs.SoundLoading.{IsSoundLoader}
use Rattle.merge_start.specs.Started.{place_of, slot_items}
use Rattle.spec_loading.proofs.InsideSets.{among_turned}
use Rattle.merge_start.proofs.Promoted.{found_among}
use Rattle.merge_index.specs.Numbering.{numbers_of}
use Rattle.merge_whole.proofs.ElementLists.{from_same}
use Rattle.snap_parts.specs.Built.{is_left}
use Rattle.snap_set.specs.Parts.{slots_at, slots_left, loader_values, more_of}
use Rattle.snap_merge.specs.declared.added.Behind.{Behind}
use Rattle.snap_merge.specs.Added.{one_place, left_at, one_left}

pub take_next : {A : Type 0} (xs : List A) (i : ℕ) (x : A) → slice_get xs i ≡ Some x → take (i + 1) xs ≡ take i xs ++ x ∷ []
take_next [] i x e = absurd cc
take_next (y ∷ ys) zero x e = (let same : y ≡ x = cc in ap (λ z. z ∷ []) same)
take_next (y ∷ ys) (suc i) x e = (let next : suc i + 1 ≡ suc (i + 1) = omega arith in rw next (ap (λ l. y ∷ l) (take_next ys i x e)))

-- ---- what the members have, by their numbers

left_step : {X : Type 0} (of : ℕ → List X) (ms : List Member) (k m : ℕ) → m < length ms
    → from_members (λ j wasm. of j) k (drop m ms) ≡ of k ++ from_members (λ j wasm. of j) (k + 1) (drop (m + 1) ms)
left_step of [] k m lt = absurd (omega arith)
left_step of (x ∷ xs) k zero lt = refl
left_step of (x ∷ xs) k (suc m) lt = (let next : suc m + 1 ≡ suc (m + 1) = omega arith in rw next (left_step of xs k m (omega arith)))

pub left_next : {X : Type 0} (of : ℕ → List X) (ms : List Member) (m : ℕ) → m < length ms → (to more all : List X) → more ≡ to ++ of m
    → to ++ from_members (λ j wasm. of j) m (drop m ms) ≡ all → more ++ from_members (λ j wasm. of j) (m + 1) (drop (m + 1) ms) ≡ all
left_next {X} of ms m lt to more all put before =
    let rest = from_members (λ j wasm. of j) (m + 1) (drop (m + 1) ms) in
    ap (λ (l : List X). l ++ rest) put ∙ append_assoc to (of m) rest ∙ ap (λ (l : List X). to ++ l) (sym (left_step of ms m m lt)) ∙ before

pub left_last : {X : Type 0} (of : ℕ → List X) (m : ℕ) (ms : List Member) → length ms ≤ m → (to all : List X) → to ++ from_members (λ j wasm. of j) m (drop m ms) ≡ all → to ≡ all
left_last {X} of m ms le to all before = sym (append-nil to) ∙ ap (λ (l : List Member). to ++ from_members (λ j wasm. of j) m l) (sym (drop_all m ms le)) ∙ before

-- ---- places

places_are : (promoted : List ℕ) (k : ℕ) (ms : List Member) → map Num (from_members (one_place promoted) k ms) ≡ from_members (λ m wasm. Num (place_of promoted m) ∷ []) k ms
places_are promoted k [] = refl
places_are promoted k (x ∷ xs) = ap (λ l. Num (place_of promoted k) ∷ l) (places_are promoted (k + 1) xs)

-- ---- segments

left_mapped : {A B : Type 0} (f : A → B) (xs : List A) → is_left (map f xs) ≡ is_left xs
left_mapped f [] = refl
left_mapped f (x ∷ xs) = refl

left_each : {A : Type 0} (of : ℕ → List A) (k : ℕ) (ms : List Member) → map is_left (from_members (λ m wasm. of m ∷ []) k ms) ≡ from_members (λ m wasm. is_left (of m) ∷ []) k ms
left_each of k [] = refl
left_each of k (x ∷ xs) = ap (λ l. is_left (of k) ∷ l) (left_each of (k + 1) xs)

module _ (L : LinkedSet) where
  slots_some : (m : ℕ) → is_left (slot_items L (numbers_of L) m) ≡ is_left (fresh_of L m)
  slots_some m =
      left_mapped _ (map Some (own_functions L m)) ∙ left_mapped Some (own_functions L m) ∙ left_mapped _ (fresh_of L m)

  left_here : (m : ℕ) (o : Option ℕ) → is_left (slots_at L m o) ≡ left_at o (is_left (fresh_of L m))
  left_here m None = refl
  left_here m (Some stage) = go (nat_eq stage 0)
    where
      go : (b : Bool) → is_left (if b then slot_items L (numbers_of L) m else []) ≡ (b && is_left (fresh_of L m))
      go true = slots_some m
      go false = refl

  module _ (loader : LoaderState) (sound : IsSoundLoader (length L.set.members) loader) (b : Behind) (stages : List ℕ) (is : stages ≡ take (length L.set.members) loader.stages) where
    stages_are : stages ≡ loader.stages
    stages_are =
        let count = sound.count in
        is ∙ take_all (length L.set.members) loader.stages (omega arith)

    pub left_is : b.left.items ≡ from_members (one_left stages L) 0 L.set.members ++ false ∷ false ∷ [] → map is_left (more_of L loader).elems ≡ b.left.items
    left_is told =
        map-append is_left (from_members (λ m wasm. slots_left L loader m ∷ []) 0 L.set.members) ([] ∷ [] ∷ [])
        ∙ ap (λ l. l ++ false ∷ false ∷ []) (left_each (slots_left L loader) 0 L.set.members
        ∙ from_same (λ m wasm. is_left (slots_left L loader m) ∷ []) (one_left loader.stages L) 0 L.set.members
        (λ j y at. ap (λ x. x ∷ []) (left_here (0 + j) (stage_in loader (0 + j)))))
        ∙ ap (λ (ss : List ℕ). from_members (one_left ss L) 0 L.set.members ++ false ∷ false ∷ []) (sym stages_are)
        ∙ sym told

    -- where the set doesn't use the loader
    pub globals_bare : uses_loader L ≡ false → b.globals.items ≡ stages → (more_of L loader).globals ≡ map Num b.globals.items
    globals_bare none told =
        ap (λ (u : Bool). map Num loader.stages ++ (if u then loader_values L loader else [])) none
        ∙ append-nil (map Num loader.stages)
        ∙ ap (λ (ns : List ℕ). map Num ns) (sym stages_are ∙ sym told)

    -- and where it does
    pub globals_whole : uses_loader L ≡ true → (error : ℕ) (promoted : List ℕ) → error ≡ loader.error → promoted ≡ loader.promoted
        → b.globals.items ≡ stages ++ error ∷ length promoted ∷ from_members (one_place promoted) 0 L.set.members → (more_of L loader).globals ≡ map Num b.globals.items
    globals_whole uses error promoted same list told =
        ap (λ (u : Bool). map Num loader.stages ++ (if u then loader_values L loader else [])) uses
        ∙ ap (λ (l : List Value). map Num loader.stages ++ Num loader.error ∷ Num (length loader.promoted) ∷ l) (sym (places_are loader.promoted 0 L.set.members))
        ∙ sym (map-append Num loader.stages (loader.error ∷ length loader.promoted ∷ from_members (one_place loader.promoted) 0 L.set.members))
        ∙ ap (λ (ss : List ℕ). map Num (ss ++ loader.error ∷ length loader.promoted ∷ from_members (one_place loader.promoted) 0 L.set.members)) (sym stages_are)
        ∙ ap₂ (λ (e : ℕ) (ps : List ℕ). map Num (stages ++ e ∷ length ps ∷ from_members (one_place ps) 0 L.set.members)) (sym same) (sym list)
        ∙ ap (λ (ns : List ℕ). map Num ns) (sym told)

  -- there are no more promoted members than there are members
  pub promoted_few : length L.set.members ≤ 256 → (loader : LoaderState) → IsSoundLoader (length L.set.members) loader → length loader.promoted ≤ 256
  promoted_few few loader sound =
      let within = length-le_from_distinct_below loader.promoted (length L.set.members) sound.apart
      (λ q e. found_among (λ j. j < length L.set.members) loader.promoted q sound.promoted (sym (among_turned q loader.promoted) ∙ e)) in
      omega arith
