-- The first bytes of joined buffers.
use Rattle.std.proofs.Common.{arith, ◌≡◌, ℕ, zero, suc, ◌+◌, ◌-◌, ◌≤◌, ◌<◌, min, List, [], ◌∷◌, ◌++◌, length, get_or, take, drop, refl, ap, ◌∙◌}
use Rattle.std.proofs.lemmas.List.{append-nil, length-take, map_more}
use Rattle.std.proofs.lemmas.List.Concat.{flat_map-append}
use Rattle.std.proofs.Math.Seq.{take-append-add}
use Rattle.spec_hosts.specs.spec_runtime.Memories.{MemoryInstance}
use Rattle.spec_hosts.specs.Calls.{most_bytes, joined}
use Rattle.host_wasi.specs.Wants.{pairs}
use Rattle.host_wasi.specs.Buffers.{bytes_of}
use Rattle.host_wasi.specs.declared.want.Buffer.{Buffer}
use Rattle.host_wasi.proofs.Vectors.{pair}

-- the front of a front is the shorter one
take-take_min : {X : Type 0} (m n : ℕ) (xs : List X) → take m (take n xs) ≡ take (min n m) xs
take-take_min zero n xs = let e : min n 0 ≡ 0 = omega arith in rw e refl
take-take_min (suc m) zero xs = let e : min 0 (suc m) ≡ 0 = omega arith in rw e refl
take-take_min (suc m) (suc n) [] = let e : min (suc n) (suc m) ≡ suc (min n m) = omega arith in rw e refl
take-take_min (suc m) (suc n) (x ∷ xs) = let e : min (suc n) (suc m) ≡ suc (min n m) = omega arith in rw e (ap (λ ys. x ∷ ys) (take-take_min m n xs))

-- what comes after a front, as far as there is room
pub take_after : (m n k : ℕ) (xs ys : List ℕ) → length xs ≤ m → k ≡ min n (m - length xs) → xs ++ take k ys ≡ take m (xs ++ take n ys)
take_after m n k xs ys h e =
    let room : m ≡ length xs + (m - length xs) = omega arith in
    rw (e, ← (take-take_min (m - length xs) n ys), ← (take-append-add xs (take n ys) (m - length xs)), ← room) refl

pub take_again : (n : ℕ) (xs ys : List ℕ) → take n (take n xs ++ ys) ≡ take n (xs ++ ys)
take_again zero xs ys = refl
take_again (suc n) [] ys = refl
take_again (suc n) (x ∷ xs) ys = ap (λ zs. x ∷ zs) (take_again n xs ys)

pub front_length : (n : ℕ) (xs bytes : List ℕ) → bytes ≡ take n xs → length bytes ≤ n
front_length n xs bytes e = omega (arith, ap length e, length-take n xs)

-- the front of one more buffer
pub joined_more : (memory : MemoryInstance) (bs : List Buffer) (i : ℕ) (d : Buffer) (bytes : List ℕ) → i < length bs → bytes ≡ take most_bytes (joined memory (pairs (take i bs)))
    → take most_bytes (bytes ++ bytes_of memory (get_or bs i d)) ≡ take most_bytes (joined memory (pairs (take (i + 1) bs)))
joined_more memory bs i d bytes h e =
    let piece = λ (p : ℕ × ℕ). take p.1 (drop p.0 memory.bytes) in
    let b : Buffer = get_or bs i d in
    let whole : joined memory (pairs (take (i + 1) bs)) ≡ joined memory (pairs (take i bs)) ++ bytes_of memory b =
    ap (joined memory) (map_more pair bs i d h) ∙ flat_map-append piece (pairs (take i bs)) (pair b ∷ []) ∙ ap (λ ys. joined memory (pairs (take i bs)) ++ ys) (append-nil (bytes_of memory b)) in
    rw (e, take_again most_bytes (joined memory (pairs (take i bs))) (bytes_of memory b), whole) refl
