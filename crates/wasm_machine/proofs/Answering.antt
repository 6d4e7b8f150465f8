-- What an answer puts on top, and what it writes.
use Rattle.std.proofs.Common.{arith, ◌≡◌, ℕ, ◌+◌, ◌≤◌, ◌<◌, List, [], ◌∷◌, ◌++◌, length, take, drop, map, get_or, refl, ap, sym, ◌∙◌, length-append, Some, Result, Ok, true}
use Rattle.std.specs.Prelude.{IsTrue, is_err, reverse, nat_le}
use Rattle.std.proofs.lemmas.Bool.{false≢true, and_parts, leb-true}
use Rattle.std.proofs.lemmas.List.{take_all, drop_more, map_more, length-map, length-take, length-reverse, reverse-append}
use Rattle.wasm_form.specs.declared.runtime.Value.TheVariants.{Num}
use Rattle.wasm_form.specs.declared.runtime.Write.{Write}
use Rattle.wasm_form.specs.declared.runtime.Trap.{Trap}
use Rattle.wasm_form.specs.declared.runtime.Trap.TheVariants.{MemoryBounds}
use Rattle.wasm_space.specs.Access.{ChangesOrTraps}
use Rattle.spec_safety.specs.spec_runtime.Memories.{MemoryInstance, overwritten, written}
use Rattle.spec_safety.specs.spec_runtime.Hosts.{writes_fit, all_written}
use Rattle.spec_safety.specs.spec_execution.Activations.{with_values, pushed}
use Rattle.spec_safety.proofs.KeptMemories.{overwritten_length}
use Rattle.wasm_step.specs.Tops.{Top, with_act}
use Rattle.wasm_step.specs.Primitives.{HasSpare}

-- ---- numbers on top

abbrev pub with_numbers : Top → List ℕ → Top
with_numbers t ns = with_act t (with_values t.act (reverse (map Num ns) ++ t.act.values))

module _ (t top : Top) (ns : List ℕ) (i : ℕ) (h : top ≡ with_numbers t (take i ns)) (l : i < length ns) where
  pub numbers_more : (d : ℕ) → with_act top (pushed top.act (Num (get_or ns i d))) ≡ with_numbers t (take (i + 1) ns)
  numbers_more d = rw (h, map_more Num ns i d l, reverse-append (map Num (take i ns)) (Num (get_or ns i d) ∷ [])) refl

  pub numbers_spare : HasSpare t (length ns) → HasSpare top 1
  numbers_spare s =
      let n : length (reverse (map Num (take i ns)) ++ t.act.values) ≡ i + length t.act.values = simp (length-append, length-reverse, length-map, length-take) (omega arith) in
      rw h (omega (arith, n))

pub numbers_all : (t : Top) (ns : List ℕ) (i : ℕ) → length ns ≤ i → with_numbers t (take i ns) ≡ with_numbers t ns
numbers_all t ns i h = rw (take_all i ns h) refl

-- ---- writes

pub not_err : {X Y : Type 0} (answer : Result X Y) (x : X) → answer ≡ Ok x → is_err answer ≡ true → ⊥
not_err answer x e f = false≢true (sym (ap is_err e) ∙ f)

fit_same : (ws : List Write) (m n : MemoryInstance) → length m.bytes ≡ length n.bytes → writes_fit ws m ≡ writes_fit ws n
fit_same [] m n e = refl
fit_same (w ∷ ws) m n e = rw (fit_same ws m n e, e) refl

-- the memory after one write
abbrev pub one_written : Write → MemoryInstance → MemoryInstance
one_written w m = record m { bytes = overwritten m.bytes w.at w.bytes }

module _ (ws : List Write) (i : ℕ) (w : Write) (m : MemoryInstance) (l : i < length ws) (e : w ≡ get_or ws i w) (f : IsTrue (writes_fit (drop i ws) m)) where
  next : drop i ws ≡ w ∷ drop (i + 1) ws
  next = rw (drop_more ws i w l, ← e) refl

  inside : (nat_le (w.at + length w.bytes) (length m.bytes) ≡ true) × (writes_fit (drop (i + 1) ws) m ≡ true)
  inside = and_parts (nat_le (w.at + length w.bytes) (length m.bytes)) (writes_fit (drop (i + 1) ws) m) (rw next at f)

  pub write_inside : written m w.at w.bytes ≡ Some (one_written w m)
  write_inside = rw inside.0 refl

  pub put_inside : (bytes : List ℕ) (answer : Result (Unit {0}) Trap) (n : MemoryInstance) → bytes ≡ w.bytes → ChangesOrTraps MemoryBounds m (written m w.at bytes) answer n → (answer ≡ Ok tt) × (n ≡ one_written w m)
  put_inside bytes answer n eb c = rw (eb, write_inside) at c

  pub writes_left : IsTrue (writes_fit (drop (i + 1) ws) (one_written w m))
  writes_left =
      let n : length (overwritten m.bytes w.at w.bytes) ≡ length m.bytes = overwritten_length m.bytes w.at w.bytes (leb-true (w.at + length w.bytes) (length m.bytes) inside.0) in
      fit_same (drop (i + 1) ws) (one_written w m) m n ∙ inside.1

  pub writes_lead : all_written (drop (i + 1) ws) (one_written w m) ≡ all_written (drop i ws) m
  writes_lead = rw next refl
