-- The code of a search is well typed.
use Rattle.std.proofs.Common.{◌≡◌, ℕ, zero, suc, ◌+◌, ◌^◌, List, [], ◌∷◌, ◌++◌, length, nat_le, slice_get, Some, Bool, true, false, if◌then◌else◌, refl, ap, ◌∙◌}
use Rattle.std.specs.List.{AllByRecursion as Each}
use Rattle.wasm_form.specs.declared.types.ValType.TheVariants.{I32, I64}
use Rattle.wasm_form.specs.declared.instr.Instr.{Instr, Plain, Index}
use Rattle.spec_execution.specs.spec_validation.Stacks.{unreachable, ends_with}
use Rattle.spec_execution.specs.spec_validation.Context.{Context, Labels}
use Rattle.wasm_typing.proofs.Laws.{after-Plain, after-Index}
use Rattle.merge_pieces.specs.Opcodes as op
use Rattle.merge_find.specs.declared.key.Key.{Key}
use Rattle.merge_find.specs.declared.key.Key.TheVariants.{Size, Byte}
use Rattle.merge_find.specs.Decisions.{Goal, Named, Nested, wide, return_code, is_below, lower, upper, key_code, asked, exact_code, either, sides, halved, found_code, by_bytes, search_code, may_be_string, strings}
use Rattle.merge_find.specs.Finding.{number_goal, number_code, numbered}
use Rattle.merge_find.specs.Typed.{Ends, SearchIsTyped, BodyIsTyped}
use Rattle.merge_find.proofs.Types.{none, on_top, Types, done, step, types_then, meaning, types_of, body_typed, when_typed, block_typed, local_typed, load_typed, number_typed, wide_typed, differ_typed, less_typed, least_typed}
use Rattle.merge_find.proofs.Names.{each_map, each_lower, each_upper}

module _ {c : Context} {labels : Labels} where
  leaves_typed : (deep : ℕ) → slice_get labels deep ≡ Some [] → Types c labels (Index op.br_if deep ∷ []) (on_top (I32 ∷ []) none) none
  leaves_typed deep e = step 0 (after-Index c op.br_if deep labels (on_top (I32 ∷ []) none) ∙ rw e refl) done

  returns_typed : c.results ≡ I64 ∷ [] → Types c labels return_code (on_top (I64 ∷ []) none) unreachable
  returns_typed e = step 0 (after-Plain c op.return_ labels (on_top (I64 ∷ []) none) ∙ rw e refl) done

-- code that returns
returning : {c : Context} (code : List Instr) → Ends c code → (labels : Labels) → Types c labels code none unreachable
returning code ends labels = (let e = ends labels in types_of code none unreachable e.0 e.1)

-- ---- the search

module _ (c : Context) (g : Goal) (memory : c.memory ≡ true) (start : slice_get c.locals 0 ≡ Some I32) (long : slice_get c.locals g.len ≡ Some I32)
    (misses : Ends c g.missed) where
  -- in whatever blocks, where the one that is so many further out takes no values
  abbrev Returns : Nested → Type 0
  Returns code = (deep : ℕ) (labels : Labels) → slice_get labels deep ≡ Some [] → Types c labels (code deep) none unreachable

  abbrev AllEnd : List Named → Type 0
  AllEnd xs = Each (λ x. Ends c x.1) xs

  key_typed : (labels : Labels) (key : Key) → Types c labels (key_code g.len key) none (on_top (I32 ∷ []) none)
  key_typed labels Size = local_typed g.len I32 none long
  key_typed labels (Byte i) = types_then (local_typed 0 I32 none start) (load_typed i none memory)

  asked_typed : (key : Key) (operator b : ℕ) (code rest : Nested)
      → ((labels : Labels) → Types c labels (Plain operator ∷ []) (on_top (I32 ∷ I32 ∷ []) none) (on_top (I32 ∷ []) none))
      → Returns code → Returns rest → Returns (λ deep. asked g.len key operator b (code (suc deep)) ++ rest deep)
  unfolding asked
  asked_typed key operator b code rest tests inner behind deep labels e =
      types_then
      (types_then (key_typed labels key) (types_then (number_typed b (on_top (I32 ∷ []) none)) (types_then (tests labels) (when_typed unreachable refl (inner (suc deep) ([] ∷ labels) e)))))
      (behind deep labels e)

  exact_typed : (key : Key) (b deep : ℕ) (labels : Labels) → slice_get labels deep ≡ Some [] → Types c labels (exact_code g.len key b deep) none none
  unfolding exact_code
  exact_typed key b deep labels e =
      types_then (key_typed labels key) (types_then (number_typed b (on_top (I32 ∷ []) none)) (types_then (differ_typed none) (leaves_typed deep e)))

  either_typed : (key : Key) (b : ℕ) (first : Bool) (low high : Nested) → Returns low → Returns high → Returns (either g.len key b first low high)
  either_typed key b true low high x y = asked_typed key op.i32_lt_u b low high (λ labels. less_typed none) x y
  either_typed key b false low high x y = asked_typed key op.i32_ge_u b high low (λ labels. least_typed none) y x

  sides_typed : (key : Key) (b : ℕ) (low high : List Named → Nested) (us vs : List Named) → AllEnd us → AllEnd vs → ((ys : List Named) → AllEnd ys → Returns (low ys))
      → ((ys : List Named) → AllEnd ys → Returns (high ys)) → Returns (sides g.len key b low high us vs)
  sides_typed key b low high [] vs p q x y = y vs q
  sides_typed key b low high (i ∷ us) [] p q x y = x (i ∷ us) p
  sides_typed key b low high (i ∷ us) (k ∷ vs) p q x y =
      either_typed key b (nat_le (length (i ∷ us)) (length (k ∷ vs))) (low (i ∷ us)) (high (k ∷ vs)) (x (i ∷ us) p) (y (k ∷ vs) q)

  halved_typed : (key : Key) (next : ℕ → List Named → Nested) → ((b : ℕ) (ys : List Named) → AllEnd ys → Returns (next b ys)) → (w least : ℕ) (xs : List Named) → AllEnd xs
      → Returns (halved g.len key next w least xs)
  halved_typed key next at_next zero least xs all deep labels e = types_then (exact_typed key least deep labels e) (at_next least xs all deep labels e)
  halved_typed key next at_next (suc w) least xs all deep labels e =
      let b = least + 2 ^ w in
      sides_typed key b (halved g.len key next w least) (halved g.len key next w b) (lower key b xs) (upper key b xs)
      (each_map (λ x. Ends c x.1 × (is_below key b x ≡ true)) (λ x. Ends c x.1) (λ x h. h.0) (lower key b xs) (each_lower (λ x. Ends c x.1) key b xs all))
      (each_map (λ x. Ends c x.1 × (is_below key b x ≡ false)) (λ x. Ends c x.1) (λ x h. h.0) (upper key b xs) (each_upper (λ x. Ends c x.1) key b xs all))
      (halved_typed key next at_next w least) (halved_typed key next at_next w b) deep labels e

  found_typed : (xs : List Named) → AllEnd xs → Returns (λ deep. found_code g xs)
  found_typed [] all deep labels e = returning g.missed misses labels
  found_typed (x ∷ xs) all deep labels e = returning x.1 all.0 labels

  by_bytes_typed : (k i : ℕ) (xs : List Named) → AllEnd xs → Returns (by_bytes g k i xs)
  by_bytes_typed zero i xs all = found_typed xs all
  by_bytes_typed (suc k) i xs all = halved_typed (Byte i) (λ b. by_bytes g k (i + 1)) (λ b. by_bytes_typed k (i + 1)) 32 0 xs all

  search_typed : (xs : List Named) → AllEnd xs → (labels : Labels) → Types c labels (search_code g xs) none unreachable
  unfolding search_code
  search_typed [] all labels = returning g.missed misses labels
  search_typed (x ∷ xs) all labels =
      types_then
      (block_typed unreachable refl (halved_typed Size (λ k. by_bytes g k 0) (λ k. by_bytes_typed k 0) 32 0 (x ∷ xs) all 0 ([] ∷ labels) refl))
      (returning g.missed misses labels)

pub searches_typed : SearchIsTyped
searches_typed c g memory start long misses xs all labels = meaning (search_typed c g memory start long misses xs all labels)

-- ---- the function that searches for numbers

numbers_end : (c : Context) → c.results ≡ I64 ∷ [] → (k : ℕ) → Ends c (wide k ∷ return_code)
numbers_end c results k labels = meaning (types_then (wide_typed k none) (returns_typed results))

all_end : (c : Context) → c.results ≡ I64 ∷ [] → (xs : List (List ℕ × ℕ)) → Each (λ x. Ends c x.1) (strings (numbered xs))
all_end c results [] = tt
all_end c results (x ∷ xs) = go (may_be_string x.0) (all_end c results xs)
  where
    go : (z : Bool) → Each (λ y. Ends c y.1) (strings (numbered xs))
        → Each (λ y. Ends c y.1) (if z then (x.0, number_code x.1) ∷ strings (numbered xs) else strings (numbered xs))
    go true later = (numbers_end c results (2 ^ 32 + x.1), later)
    go false later = later

pub search_body_typed : BodyIsTyped
search_body_typed c xs memory locals results =
    let start : slice_get c.locals 0 ≡ Some I32 = ap (λ l. slice_get l 0) locals in
    let long : slice_get c.locals 1 ≡ Some I32 = ap (λ l. slice_get l 1) locals in
    let ends : ends_with c.results unreachable ≡ true = ap (λ l. ends_with l unreachable) results in
    body_typed unreachable ends (search_typed c number_goal memory start long (numbers_end c results 0) (strings (numbered xs)) (all_end c results xs) (c.results ∷ []))
