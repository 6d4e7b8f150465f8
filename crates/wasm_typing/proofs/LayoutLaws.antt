-- A state that is laid out flat, after entries are put on, taken off or counted.
use Rattle.std.proofs.Common.{arith, ◌≡◌, ℕ, ◌+◌, ◌≤◌, ◌<◌, List, [], ◌∷◌, ◌++◌, length, take, drop, map, refl, ap, sym, length-drop, Option, Some, None, ◌∙◌, Bool, true, false, get_or, inl, inr}
use Rattle.std.specs.Prelude.{reverse, slice_get, ◌-◌, min, max}
use Rattle.std.proofs.lemmas.Bool.{cases_lt}
use Rattle.std.proofs.lemmas.Option.{slice_get-get_or, slice_get_past, slice_get-map}
use Rattle.std.proofs.lemmas.List.{take-append-le, take-append-drop, length-take, reverse-append, length-reverse, take-take, drop_at, drop_all, drop-take, get_or-reverse}
use Rattle.wasm_form.specs.declared.types.ValType.{ValType}
use Rattle.spec_validation.specs.Stacks.{unreachable}
use Rattle.wasm_typing.specs.States.{TypingState, with_stack, without, noted, labels_of, entries_below}
use Rattle.wasm_typing.specs.Layout.{levels_at, Rises, state_at, LiesFlat}
use Rattle.wasm_typing.specs.declared.stacks.Label.{Label}

-- ---- what lies under the innermost block stays

pub levels_at-append : (start : ℕ) (ls : List Label) (vs ws : List (Option ValType)) → start ≤ length vs
    → levels_at start ls (vs ++ ws) ≡ levels_at start ls vs
levels_at-append start [] vs ws h = refl
levels_at-append start (l ∷ ls) vs ws h = rw (take-append-le start vs ws h) refl

pub levels_at-take : (start n : ℕ) (ls : List Label) (vs : List (Option ValType)) → start ≤ n
    → levels_at start ls (take n vs) ≡ levels_at start ls vs
levels_at-take start n [] vs h = refl
levels_at-take start n (l ∷ ls) vs h = rw (take-take start n vs h) refl

-- ---- entries taken off

reverse_drop : (n : ℕ) (xs : List (Option ValType)) → n ≤ length xs → drop n (reverse xs) ≡ reverse (take (length xs - n) xs)
reverse_drop n xs h =
    let l : length (reverse (drop (length xs - n) xs)) ≡ n = simp (length-reverse, length-drop) (omega arith) in
    ap (λ z. drop n (reverse z)) (sym (take-append-drop (length xs - n) xs)) ∙ rw reverse-append (drop_at _ _ n l)

fewer : (n start : ℕ) (vs : List (Option ValType)) → start ≤ length vs → n ≤ length vs - start
    → drop n (reverse (drop start vs)) ≡ reverse (drop start (take (length vs - n) vs))
fewer n start vs h k =
    let l : n ≤ length (drop start vs) = omega (arith, length-drop start vs) in
    let e : length vs - n ≡ start + (length (drop start vs) - n) = omega (arith, length-drop start vs) in
    rw (reverse_drop n (drop start vs) l, e, drop-take) refl

all : (n start : ℕ) (vs : List (Option ValType)) → start ≤ length vs → length vs - start ≤ n
    → drop n (reverse (drop start vs)) ≡ reverse (drop start (take start vs))
all n start vs h k =
    let l : length (reverse (drop start vs)) ≤ n = simp (length-reverse, length-drop) k in
    let e : length (take start vs) ≤ start = omega (arith, length-take start vs) in
    rw (drop_all n (reverse (drop start vs)) l, drop_all start (take start vs) e) refl

taken_off : (n start : ℕ) (vs : List (Option ValType)) → start ≤ length vs
    → drop n (reverse (drop start vs)) ≡ reverse (drop start (take (length vs - min n (length vs - start)) vs))
taken_off n start vs h = elim (cases_lt n (length vs - start)) [
  | inl p ↦
      (let e : length vs - min n (length vs - start) ≡ length vs - n = omega arith in rw e (fewer n start vs h (omega arith)))
  | inr p ↦ (let e : length vs - min n (length vs - start) ≡ start = omega arith in rw e (all n start vs h p))
]

shortened : (start : ℕ) (b : Bool) (vs : List (Option ValType)) (ls : List Label) (m n : ℕ) → LiesFlat start vs ls
    → state_at start b (take (length vs - min n (length vs - start)) vs) ls m ≡ with_stack (state_at start b vs ls m)
    (without n (state_at start b vs ls m).stack)
shortened start b vs ls m n h =
    let st : start ≤ length vs = h.within in
    let p : start ≤ length vs - min n (length vs - start) = omega arith in
    rw (levels_at-take start (length vs - min n (length vs - start)) (reverse ls) vs p, taken_off n start vs st) refl

emptied : (start : ℕ) (b : Bool) (vs : List (Option ValType)) (ls : List Label) (m : ℕ) → LiesFlat start vs ls
    → state_at start true (take start vs) ls m ≡ with_stack (state_at start b vs ls m) unreachable
emptied start b vs ls m h =
    let e : length (take start vs) ≤ start = omega (arith, length-take start vs) in
    let z : start ≤ start = omega arith in
    rw (levels_at-take start start (reverse ls) vs z, drop_all start (take start vs) e) refl

-- ---- how many entries there are

below_at : (start : ℕ) (ls : List Label) (vs : List (Option ValType)) → Rises start ls → start ≤ length vs
    → entries_below (levels_at start ls vs) ≡ start
below_at start [] vs r h = sym r
below_at start (l ∷ ls) vs r h =
    let p : l.start ≤ start = r.0 in
    let t : length (take start vs) ≡ start = omega (arith, length-take start vs) in
    let ih : entries_below (levels_at l.start ls (take start vs)) ≡ l.start = below_at l.start ls (take start vs) r.1 (omega arith) in
    let d : length (reverse (drop l.start (take start vs))) ≡ start - l.start = simp (length-reverse, length-drop) (omega arith) in
    omega (arith, ih, d)

entries_at : (start : ℕ) (vs : List (Option ValType)) (ls : List Label) → LiesFlat start vs ls
    → entries_below (levels_at start (reverse ls) vs) + length (reverse (drop start vs)) ≡ length vs
entries_at start vs ls h =
    let st : start ≤ length vs = h.within in
    let b : entries_below (levels_at start (reverse ls) vs) ≡ start = below_at start (reverse ls) vs h.rises st in
    let d : length (reverse (drop start vs)) ≡ length vs - start = simp (length-reverse, length-drop) refl in
    omega (arith, b, d)

labels_at : (start : ℕ) (ls : List Label) (vs : List (Option ValType)) → labels_of (levels_at start ls vs) ≡ map (λ l. l.types.now) ls
labels_at start [] vs = refl
labels_at start (l ∷ ls) vs = ap (λ z. l.types.now ∷ z) (labels_at l.start ls (take start vs))

-- ---- the same of a state p

pub state-known : (p : TypingState) (start : ℕ) (b : Bool) (vs : List (Option ValType)) (ls : List Label) (m : ℕ)
    → state_at start b vs ls m ≡ p → length vs - start ≡ length p.stack.entries
state-known p start b vs ls m e = rw (← e) (simp (length-reverse, length-drop) refl)

pub state-put : (p : TypingState) (start : ℕ) (b : Bool) (vs vs' ws : List (Option ValType)) (ls : List Label) (m : ℕ)
    → LiesFlat start vs ls → state_at start b vs ls m ≡ p → vs' ≡ vs ++ ws
    → state_at start b vs' ls m ≡ with_stack p (record { entries = reverse (drop start vs'); loose = b })
state-put p start b vs vs' ws ls m h e v = rw (v, ← e, levels_at-append start (reverse ls) vs ws h.within) refl

pub state-shortened : (p : TypingState) (start : ℕ) (b : Bool) (vs vs' : List (Option ValType)) (ls : List Label) (m n k : ℕ)
    → LiesFlat start vs ls → state_at start b vs ls m ≡ p
    → k ≡ length vs - min n (length vs - start) → vs' ≡ take k vs → state_at start b vs' ls m ≡ with_stack p (without n p.stack)
state-shortened p start b vs vs' ls m n k h e d v = rw (v, d, ← e) (shortened start b vs ls m n h)

pub state-emptied : (p : TypingState) (start : ℕ) (b : Bool) (vs vs' : List (Option ValType)) (ls : List Label) (m : ℕ)
    → LiesFlat start vs ls → state_at start b vs ls m ≡ p
    → vs' ≡ take start vs → state_at start true vs' ls m ≡ with_stack p unreachable
state-emptied p start b vs vs' ls m h e v = rw (v, ← e) (emptied start b vs ls m h)

-- the innermost block begins anew
pub state-restarted : (p q : TypingState) (start : ℕ) (b : Bool) (vs vs' : List (Option ValType)) (ls : List Label) (m : ℕ)
    → LiesFlat start vs ls → state_at start b vs ls m ≡ p
    → vs' ≡ take start vs → q ≡ with_stack (state_at start false vs' ls m) q.stack → q ≡ with_stack p q.stack
state-restarted p q start b vs vs' ls m h e v r =
    let z : start ≤ start = omega arith in
    let w : with_stack (state_at start false vs' ls m) q.stack ≡ with_stack p q.stack
    = rw (v, ← e, levels_at-take start start (reverse ls) vs z) refl in
    r ∙ w

pub state-noted : (p : TypingState) (start : ℕ) (b : Bool) (vs : List (Option ValType)) (ls : List Label) (m k : ℕ) → LiesFlat start vs ls
    → state_at start b vs ls m ≡ p
    → k ≡ max m (length vs) → state_at start b vs ls k ≡ noted p
state-noted p start b vs ls m k h e d = rw (d, ← e, entries_at start vs ls h) refl

pub state-label : (p : TypingState) (start : ℕ) (b : Bool) (vs : List (Option ValType)) (ls : List Label) (m k i : ℕ) (x : Label)
    → state_at start b vs ls m ≡ p
    → k < length ls → i ≡ length ls - 1 - k → x ≡ get_or ls i x → Some x.types.now ≡ slice_get (labels_of p.levels) k
state-label p start b vs ls m k i x e h d g =
    let n : k < length (reverse ls) = omega (arith, length-reverse ls) in
    rw (
      ← e,
      labels_at start (reverse ls) vs,
      slice_get-map (λ (l : Label). l.types.now) (reverse ls) k,
      slice_get-get_or (reverse ls) k x
          n,
      get_or-reverse ls k x h,
      ← d,
      ← g,
    ) refl

pub state-no_label : (p : TypingState) (start : ℕ) (b : Bool) (vs : List (Option ValType)) (ls : List Label) (m k : ℕ)
    → state_at start b vs ls m ≡ p
    → length ls ≤ k → None ≡ slice_get (labels_of p.levels) k
state-no_label p start b vs ls m k e h =
    let n : length (reverse ls) ≤ k = omega (arith, length-reverse ls) in
    rw (← e, labels_at start (reverse ls) vs, slice_get-map (λ (l : Label). l.types.now) (reverse ls) k, slice_get_past (reverse ls) k n)
    refl
