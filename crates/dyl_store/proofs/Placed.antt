-- Segments of a member are applied.
use Rattle.std.proofs.Common.{◌≡◌, ℕ, zero, suc, ◌+◌, ◌<◌, ◌≤◌, List, [], ◌∷◌, ◌++◌, length, get_or, map, drop, refl, sym, ap, ◌∙◌, subst, arith}
use Rattle.std.specs.Prelude.{None, Some, Option, MatchOption, slice_get, slice_set, Result, Ok, Err, IsErrAnd}
use Rattle.std.proofs.Math.ListN.{drop_of_length-le}
use Rattle.std.specs.Option.{option_map}
use Rattle.std.proofs.lemmas.List.{map-set, length-map}
use Rattle.std.proofs.lemmas.Option.{slice_get-get_or, slice_get-map, same_Some}
use Rattle.wasm_form.specs.declared.runtime.Ref.{Ref}
use Rattle.wasm_form.specs.declared.runtime.Trap.{Trap}
use Rattle.wasm_form.specs.declared.runtime.Trap.TheVariants as trap
use Rattle.spec_loading.specs.spec_runtime.Memories.{MemoryInstance, initialized}
use Rattle.spec_loading.specs.spec_runtime.Tables.{TableInstance, entries_initialized}
use Rattle.spec_loading.specs.spec_execution.Instances.{ModuleParts, Instances, set_at, store_view}
use Rattle.spec_loading.specs.spec_execution.Activations.{Effect}
use Rattle.spec_loading.specs.spec_execution.Views.{View}
use Rattle.spec_loading.specs.spec_execution.Segments.{all_performed, elem_applied, data_applied, all_effects}
use Rattle.spec_loading.proofs.of_spec_execution.Segments.{performed_rest, performed_trapped}
use Rattle.dyl_frames.specs.Cores.{Places}
use Rattle.dyl_store.specs.Placements.{Moves}

set_same : {A : Type 0} (xs : List A) (i : ℕ) (x : A) → slice_get xs i ≡ Some x → slice_set xs i x ≡ xs
set_same [] i x e = absurd cc
set_same (y ∷ ys) zero x e = let same : y ≡ x = cc in ap (λ z. z ∷ ys) (sym same)
set_same (y ∷ ys) (suc i) x e = ap (λ l. y ∷ l) (set_same ys i x e)

pub within_mapped : {A B : Type 0} (f : A → B) (xs : List A) (i : ℕ) → i < length (map f xs) → i < length xs
within_mapped f xs i lt = subst (λ (n : ℕ). i < n) (length-map xs f) lt

module _ (I : Instances) (m : ℕ) (us : ModuleParts) (memory : MemoryInstance) (r : Result (Unit {0}) Trap) where
  pub elements_moved : (e t n at a b : ℕ) (x new : TableInstance) (items left : List (Option Ref)) → I.table_at m t ≡ Some a → I.elem_at m e ≡ Some b → slice_get us.tables a ≡ Some x → slice_get us.elems b ≡ Some items
      → Moves trap.TableBounds (entries_initialized x at items 0 n) (x, items) r (new, left)
      → Places (all_performed (store_view I) m (elem_applied e t n at) us memory) r (record us { tables = slice_set us.tables a new; elems = slice_set us.elems b left }) memory
  elements_moved e t n at a b x new items left table elem found held moved = go (entries_initialized x at items 0 n) refl moved
    where
      go : (o : Option TableInstance) → entries_initialized x at items 0 n ≡ o → MatchOption o ((r ≡ Err trap.TableBounds) × (new ≡ x) × (left ≡ items)) (λ y. (r ≡ Ok tt) × (new ≡ y) × (left ≡ []))
          → Places (all_performed (store_view I) m (elem_applied e t n at) us memory) r (record us { tables = slice_set us.tables a new; elems = slice_set us.elems b left }) memory
      go None q h = rw (h.0, h.1, h.2, set_same us.tables a x found, set_same us.elems b items held, table, found, elem, held, q) refl
      go (Some y) q h = rw (h.0, h.1, h.2, table, found, elem, held, q, table, held) refl

  pub bytes_moved : (d n at b : ℕ) (new : MemoryInstance) (bytes left : List ℕ) → I.data_at m d ≡ Some b → slice_get us.datas b ≡ Some bytes
      → Moves trap.MemoryBounds (initialized memory at bytes 0 n) (memory, bytes) r (new, left)
      → Places (all_performed (store_view I) m (data_applied d n at) us memory) r (record us { datas = slice_set us.datas b left }) new
  bytes_moved d n at b new bytes left place held moved = go (initialized memory at bytes 0 n) refl moved
    where
      go : (o : Option MemoryInstance) → initialized memory at bytes 0 n ≡ o → MatchOption o ((r ≡ Err trap.MemoryBounds) × (new ≡ memory) × (left ≡ bytes)) (λ y. (r ≡ Ok tt) × (new ≡ y) × (left ≡ []))
          → Places (all_performed (store_view I) m (data_applied d n at) us memory) r (record us { datas = slice_set us.datas b left }) new
      go None q h = rw (h.0, h.1, h.2, set_same us.datas b bytes held, place, held, q) refl
      go (Some y) q h = rw (h.0, h.1, h.2, place, held, q, held) refl

  -- the same by lists that are seen as items
  pub elem_done : {A : Type 0} (seen : A → List (Option Ref)) (lists : List A) (e t n at a b : ℕ) (x new : TableInstance) (v w : A) → us.elems ≡ map seen lists
      → I.table_at m t ≡ Some a → I.elem_at m e ≡ Some b → a < length us.tables → b < length lists → x ≡ get_or us.tables a x → v ≡ get_or lists b v
      → Moves trap.TableBounds (entries_initialized x at (seen v) 0 n) (x, seen v) r (new, seen w)
      → Places (all_performed (store_view I) m (elem_applied e t n at) us memory) r (record us { tables = slice_set us.tables a new; elems = map seen (slice_set lists b w) }) memory
  elem_done seen lists e t n at a b x new v w same table elem in_tables in_lists read got moved =
      let one : slice_get us.tables a ≡ Some x = slice_get-get_or us.tables a x in_tables ∙ ap (λ (y : TableInstance). Some y) (sym read) in
      let two : slice_get us.elems b ≡ Some (seen v) =
      ap (λ (l : List (List (Option Ref))). slice_get l b) same ∙ slice_get-map seen lists b ∙ ap (option_map seen) (slice_get-get_or lists b v in_lists ∙ ap (λ y. Some y) (sym got)) in
      subst (λ (l : List (List (Option Ref))). Places (all_performed (store_view I) m (elem_applied e t n at) us memory) r (record us { tables = slice_set us.tables a new; elems = l }) memory)
      (ap (λ (l : List (List (Option Ref))). slice_set l b (seen w)) same ∙ sym (map-set seen lists b w))
      (elements_moved e t n at a b x new (seen v) (seen w) table elem one two moved)

  -- the same of bytes
  pub data_done : {A : Type 0} (seen : A → List ℕ) (lists : List A) (d n at b : ℕ) (new : MemoryInstance) (v w : A) → us.datas ≡ map seen lists → I.data_at m d ≡ Some b → b < length lists → v ≡ get_or lists b v
      → Moves trap.MemoryBounds (initialized memory at (seen v) 0 n) (memory, seen v) r (new, seen w)
      → Places (all_performed (store_view I) m (data_applied d n at) us memory) r (record us { datas = map seen (slice_set lists b w) }) new
  data_done seen lists d n at b new v w same place in_lists got moved =
      let two : slice_get us.datas b ≡ Some (seen v) =
      ap (λ (l : List (List ℕ)). slice_get l b) same ∙ slice_get-map seen lists b ∙ ap (option_map seen) (slice_get-get_or lists b v in_lists ∙ ap (λ y. Some y) (sym got)) in
      subst (λ (l : List (List ℕ)). Places (all_performed (store_view I) m (data_applied d n at) us memory) r (record us { datas = l }) new)
      (ap (λ (l : List (List ℕ)). slice_set l b (seen w)) same ∙ sym (map-set seen lists b w))
      (bytes_moved d n at b new (seen v) (seen w) place two moved)

-- segments that are dropped
pub elem_dropped : {A : Type 0} (I : Instances) (m e a : ℕ) (us : ModuleParts) (seen : A → List (Option Ref)) (lists : List A) (v : A) → I.elem_at m e ≡ Some a → us.elems ≡ map seen lists → seen v ≡ []
    → record us { elems = map seen (slice_set lists a v) } ≡ (store_view I).drop_elem us m e
elem_dropped I m e a us seen lists v at same none =
    let all : map seen (slice_set lists a v) ≡ slice_set us.elems a [] = map-set seen lists a v ∙ ap (λ (l : List (List (Option Ref))). slice_set l a (seen v)) (sym same) ∙ ap (λ (l : List (Option Ref)). slice_set us.elems a l) none in
    ap (λ (l : List (List (Option Ref))). record us { elems = l }) all ∙ ap (λ (o : Option ℕ). record us { elems = set_at us.elems o [] }) (sym at)

pub data_dropped : {A : Type 0} (I : Instances) (m d a : ℕ) (us : ModuleParts) (seen : A → List ℕ) (lists : List A) (v : A) → I.data_at m d ≡ Some a → us.datas ≡ map seen lists → seen v ≡ []
    → record us { datas = map seen (slice_set lists a v) } ≡ (store_view I).drop_data us m d
data_dropped I m d a us seen lists v at same none =
    let all : map seen (slice_set lists a v) ≡ slice_set us.datas a [] = map-set seen lists a v ∙ ap (λ (l : List (List ℕ)). slice_set l a (seen v)) (sym same) ∙ ap (λ (l : List ℕ). slice_set us.datas a l) none in
    ap (λ (l : List (List ℕ)). record us { datas = l }) all ∙ ap (λ (o : Option ℕ). record us { datas = set_at us.datas o [] }) (sym at)

-- what is at a place of a list that was made of another
pub mapped_at : {A B : Type 0} (f : A → B) (xs : List A) (ys : List B) (i : ℕ) (x : A) (y : B) → ys ≡ map f xs → slice_get xs i ≡ Some x → slice_get ys i ≡ Some y → y ≡ f x
mapped_at f xs ys i x y same found read =
    same_Some y (f x) (sym read ∙ ap (λ l. slice_get l i) same ∙ slice_get-map f xs i ∙ ap (option_map f) found)

-- ---- one segment after the other

drop_at : {A : Type 0} (xs : List A) (i : ℕ) (x : A) → slice_get xs i ≡ Some x → drop i xs ≡ x ∷ drop (i + 1) xs
drop_at [] i x e = absurd cc
drop_at (y ∷ ys) zero x e = let same : y ≡ x = cc in ap (λ z. z ∷ ys) same
drop_at (y ∷ ys) (suc i) x e = let next : suc i + 1 ≡ suc (i + 1) = omega arith in drop_at ys i x e ∙ rw next refl

effects_next : {A : Type 0} (of_segment : ℕ → A → List Effect) (xs : List A) (i : ℕ) (x : A) → slice_get xs i ≡ Some x
    → all_effects of_segment i (drop i xs) ≡ of_segment i x ++ all_effects of_segment (i + 1) (drop (i + 1) xs)
effects_next of_segment xs i x e = rw (drop_at xs i x e) refl

module _ {A : Type 0} (V : View ModuleParts) (m : ℕ) (of_segment : ℕ → A → List Effect) (xs : List A) (us : ModuleParts) (memory : MemoryInstance) where
  -- the effects of all segments come to what those of the last ones come to, from the store and the memory that were reached
  abbrev pub AreLeft : ℕ → ModuleParts → MemoryInstance → Type 0
  AreLeft i us' memory' = all_performed V m (all_effects of_segment 0 xs) us memory ≡ all_performed V m (all_effects of_segment i (drop i xs)) us' memory'

  module _ (i : ℕ) (x : A) (us' us'' : ModuleParts) (memory' memory'' : MemoryInstance) (left : AreLeft i us' memory') (here : slice_get xs i ≡ Some x) where
    -- the effects of one more went on
    pub left_next : Places (all_performed V m (of_segment i x) us' memory') (Ok tt) us'' memory'' → AreLeft (i + 1) us'' memory''
    left_next done =
        left ∙ ap (λ l. all_performed V m l us' memory') (effects_next of_segment xs i x here)
        ∙ performed_rest V m (of_segment i x) (all_effects of_segment (i + 1) (drop (i + 1) xs)) us' us'' memory' memory'' done

    -- or a trap ended them
    pub left_failed : (r : Result (Unit {0}) Trap) (why : Trap) → IsErrAnd r (λ e. e ≡ why) → Places (all_performed V m (of_segment i x) us' memory') (Err why) us'' memory''
        → Places (all_performed V m (all_effects of_segment 0 xs) us memory) r us'' memory''
    left_failed (Ok u) why told done = absurd told
    left_failed (Err e) why told done =
        subst (λ (y : Trap). Places (all_performed V m (all_effects of_segment 0 xs) us memory) (Err y) us'' memory'') (sym told)
        (left ∙ ap (λ l. all_performed V m l us' memory') (effects_next of_segment xs i x here)
        ∙ performed_trapped V m (of_segment i x) (all_effects of_segment (i + 1) (drop (i + 1) xs)) us' us'' memory' memory'' why done)

  -- nothing is left
  pub none_left : (i : ℕ) (us' : ModuleParts) (memory' : MemoryInstance) → length xs ≤ i → AreLeft i us' memory' → Places (all_performed V m (all_effects of_segment 0 xs) us memory) (Ok tt) us' memory'
  none_left i us' memory' past left = left ∙ ap (λ l. all_performed V m (all_effects of_segment i l) us' memory') (drop_of_length-le xs past)
