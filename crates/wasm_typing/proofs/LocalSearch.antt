-- Locals by the group that they stand in.
use Rattle.std.proofs.Common.{arith, ◌≡◌, ℕ, zero, suc, ◌+◌, ◌-◌, ◌^◌, ◌≤◌, ◌<◌, List, [], ◌∷◌, ◌++◌, length, take, replicate, get_or, slice_get, refl, Some, None, length-append, add-one, inl, inr}
use Rattle.std.specs.Prelude.{min}
use Rattle.std.proofs.lemmas.Bool.{cases_lt}
use Rattle.std.proofs.lemmas.List.{length-replicate, get_or-replicate, take_all}
use Rattle.std.proofs.lemmas.Option.{slice_get-get_or, slice_get_past}
use Rattle.wasm_form.specs.declared.module.Group.{Group}
use Rattle.spec_validation.specs.spec_binary.Indices.{declared_locals}
use Rattle.spec_validation.proofs.of_spec_binary.Lists.{slice_get-append-left, slice_get-append-right, slice_get-append-last}
use Rattle.wasm_typing.specs.GroupEnds.{locals_before, end_of}

slice_get-replicate : {A : Type 0} (n k : ℕ) (x : A) → k < n → slice_get (replicate n x) k ≡ Some x
slice_get-replicate n k x h =
    let l : k < length (replicate n x) = rw (length-replicate n x) h in
    rw (slice_get-get_or (replicate n x) k x l, get_or-replicate n k x x h) refl

-- ---- the locals of groups

-- the first group alone, and the others
pub locals_before-suc : (g : Group) (gs : List Group) (k : ℕ) → locals_before (g ∷ gs) (suc k) ≡ g.count + locals_before gs k
locals_before-suc g gs k = rw (length-append (replicate g.count g.ty) (declared_locals (take k gs)), length-replicate g.count g.ty) refl

-- one more group
pub locals_before-next : (gs : List Group) (k : ℕ) (d : Group) → k < length gs
    → locals_before gs (k + 1) ≡ locals_before gs k + (get_or gs k d).count
locals_before-next [] k d h = absurd (omega arith)
locals_before-next (g ∷ gs) zero d h = omega (arith, locals_before-suc g gs 0)
locals_before-next (g ∷ gs) (suc k) d h =
    let ih : locals_before gs (k + 1) ≡ locals_before gs k + (get_or gs k d).count = locals_before-next gs k d (omega arith) in
    let e : locals_before gs (suc k) ≡ locals_before gs k + (get_or gs k d).count = rw (← add-one k) ih in
    rw (add-one, locals_before-suc g gs (suc k), locals_before-suc g gs k) (omega (arith, e))

pub locals_before-all : (gs : List Group) → locals_before gs (length gs) ≡ length (declared_locals gs)
locals_before-all gs = let h : length gs ≤ length gs = omega arith in rw (take_all (length gs) gs h) refl

-- the local stands in the group that begins before it and ends behind it
pub local_in : (gs : List Group) (k n : ℕ) (d : Group) → k < length gs → locals_before gs k ≤ n → n < locals_before gs (k + 1)
    → slice_get (declared_locals gs) n ≡ Some (get_or gs k d).ty
local_in [] k n d h b e = absurd (omega arith)
local_in (g ∷ gs) zero n d h b e =
    let l : n < g.count = omega (arith, locals_before-suc g gs 0) in
    let r : n < length (replicate g.count g.ty) = rw (length-replicate g.count g.ty) l in
    rw (slice_get-append-left (replicate g.count g.ty) (declared_locals gs) n r, slice_get-replicate g.count n g.ty l) refl
local_in (g ∷ gs) (suc k) n d h b e =
    let c : locals_before (g ∷ gs) (suc k) ≡ g.count + locals_before gs k = locals_before-suc g gs k in
    let e' : locals_before (g ∷ gs) (suc k + 1) ≡ g.count + locals_before gs (k + 1) = rw (add-one, add-one)
    (locals_before-suc g gs (suc k)) in
    let l : g.count ≤ n = omega arith in
    let r : length (replicate g.count g.ty) ≤ n = rw (length-replicate g.count g.ty) l in
    rw (slice_get-append-right (replicate g.count g.ty) (declared_locals gs) n r, length-replicate g.count g.ty)
    (local_in gs k (n - g.count) d (omega arith) (omega arith) (omega arith))

-- a number that no group reaches
pub local_past : (gs : List Group) (n : ℕ) → locals_before gs (length gs) ≤ n → slice_get (declared_locals gs) n ≡ None
local_past gs n h = slice_get_past (declared_locals gs) n (rw (← locals_before-all gs) h)

-- ---- the ends of groups

-- one more end
pub ends_more : (groups : List Group) (ends : List ℕ) (i end : ℕ) → length ends ≡ i
    → ((k : ℕ) → k < i → slice_get ends k ≡ Some (end_of groups k)) → end ≡ end_of groups i
    → (k : ℕ) → k < i + 1 → slice_get (ends ++ end ∷ []) k ≡ Some (end_of groups k)
ends_more groups ends i end count each is k h = elim (cases_lt k i) [
  | inl p ↦
      (let l : k < length ends = omega arith in rw (slice_get-append-left ends (end ∷ []) k l) (each k p))
  | inr p ↦ (let same : i ≡ k = omega arith in rw (slice_get-append-last ends end k (omega arith), is, same) refl)
]

-- a group's end is the end before it and what the group declares, in 64 bits
pub end_next : (groups : List Group) (i : ℕ) (d : Group) (end count new : ℕ) → i < length groups
    → end ≡ min (locals_before groups i) (2 ^ 64 - 1) → count ≡ (get_or groups i d).count
    → new ≡ min (end + count) (2 ^ 64 - 1) → new ≡ end_of groups i
end_next groups i d end count new h e c n =
    let next : locals_before groups (i + 1) ≡ locals_before groups i + (get_or groups i d).count = locals_before-next groups i d h in
    omega arith
