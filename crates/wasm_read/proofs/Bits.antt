-- The bits of a number in four or eight bytes, the lowest first.
use Rattle.std.proofs.Common.{◌≡◌, ℕ, zero, suc, ◌+◌, ◌*◌, ◌-◌, ◌<◌, ◌≤◌, List, [], ◌∷◌, length, get_or, take, drop, Ok, Err, refl, sym, ap, ◌∙◌, arith}
use Rattle.std.proofs.lemmas.Bool.{lt-ltb}
use Rattle.spec_reading.specs.Steps.{Broken}
use Rattle.spec_reading.specs.Values.{bits_at}
use Rattle.wasm_read.proofs.Fronts.{slice_end}

abbrev AreBytes : List ℕ → Type 0
AreBytes text = (i : ℕ) → get_or text i 0 < 256

pub bits_short : (n : ℕ) (text : List ℕ) → length text < n → AreBytes text → bits_at n text ≡ Err Broken
unfolding bits_at
bits_short zero text h f = absurd (omega arith)
bits_short (suc n) [] h f = refl
bits_short (suc n) (b ∷ bs) h f = rw (lt-ltb b 256 (f 0), bits_short n bs (omega arith) (λ i. f (suc i))) refl

none : (rest : List ℕ) → bits_at 0 rest ≡ Ok (0, rest)
unfolding bits_at
none rest = refl

next : (n b high : ℕ) (bs rest : List ℕ) → b < 256 → bits_at n bs ≡ Ok (high, rest) → bits_at (suc n) (b ∷ bs) ≡ Ok (b + 256 * high, rest)
unfolding bits_at
next n b high bs rest h e = rw (lt-ltb b 256 h, e) refl

-- what was read, with its value and its rest written otherwise
moved : (n v w : ℕ) (text rest : List ℕ) → w ≡ v → drop n text ≡ rest → bits_at n text ≡ Ok (v, rest) → bits_at n text ≡ Ok (w, take (length text - n) (drop n text))
moved n v w text rest e f h = h ∙ ap (λ v. Ok (v, rest)) (sym e) ∙ ap (λ rest. Ok (w, rest)) (sym (slice_end text n ∙ f))

pub four_read : (text : List ℕ) (v : ℕ) → 4 ≤ length text → AreBytes text → v ≡ get_or text 0 0 + get_or text 1 0 * 256 + get_or text 2 0 * 65536 + get_or text 3 0 * 16777216
    → bits_at 4 text ≡ Ok (v, take (length text - 4) (drop 4 text))
four_read (a ∷ b ∷ c ∷ d ∷ rest) v h f e =
    moved 4 _ v (a ∷ b ∷ c ∷ d ∷ rest) rest (omega arith) refl (next 3 a _ _ rest (f 0) (next 2 b _ _ rest (f 1) (next 1 c _ _ rest (f 2) (next 0 d _ _ rest (f 3) (none rest)))))
four_read _ v h f e = absurd (omega arith)

pub eight_read : (text : List ℕ) (v : ℕ) → 8 ≤ length text → AreBytes text
    → v ≡ get_or text 0 0 + get_or text 1 0 * 256 + get_or text 2 0 * 65536 + get_or text 3 0 * 16777216 + get_or text 4 0 * 4294967296 + get_or text 5 0 * 1099511627776 + get_or text 6 0 * 281474976710656 + get_or text 7 0 * 72057594037927936
    → bits_at 8 text ≡ Ok (v, take (length text - 8) (drop 8 text))
eight_read (a ∷ b ∷ c ∷ d ∷ p ∷ q ∷ r ∷ s ∷ rest) v h f e =
    moved 8 _ v (a ∷ b ∷ c ∷ d ∷ p ∷ q ∷ r ∷ s ∷ rest) rest (omega arith) refl
    (next 7 a _ _ rest (f 0) (next 6 b _ _ rest (f 1) (next 5 c _ _ rest (f 2) (next 4 d _ _ rest (f 3)
    (next 3 p _ _ rest (f 4) (next 2 q _ _ rest (f 5) (next 1 r _ _ rest (f 6) (next 0 s _ _ rest (f 7) (none rest)))))))))
eight_read _ v h f e = absurd (omega arith)
