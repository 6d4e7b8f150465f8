-- Reading numbers, names and vectors (WebAssembly Core 2.0, sections 5.1 and 5.2).
use Rattle.std.specs.Prelude.{ℕ, ℤ, pos, zero, suc, ◌+◌, ◌-◌, ◌*◌, ◌^◌, ◌+ℤ◌, ◌-ℤ◌, ◌*ℤ◌, List, [], ◌∷◌, length, take, drop, Ok, Err, nat_lt, nat_eq, if◌then◌else◌}
use Rattle.std.specs.Str.{is_utf8}
use Rattle.spec_reading.specs.Steps.{Broken, ◌>>=◌, Read}

-- an unsigned number of n bits
unfoldable pub number_at : ℕ → List ℕ → Read ℕ
number_at n [] = Err Broken
number_at n (b ∷ bs) =
    if nat_lt b 128
    then (if nat_lt b (2 ^ n) then Ok (b, bs) else Err Broken)
    else if nat_lt b 256 then (if nat_lt 7 n then (number_at (n - 7) bs >>= λ high. Ok (128 * high.0 + (b - 128), high.1)) else Err Broken) else Err Broken

-- a signed number of n bits
unfoldable pub signed_at : ℕ → List ℕ → Read ℤ
signed_at n [] = Err Broken
signed_at n (b ∷ bs) =
    if nat_lt b 64
    then (if nat_lt b (2 ^ (n - 1)) then Ok (pos b, bs) else Err Broken)
    else if nat_lt b 128
    then (if nat_lt (b + 2 ^ (n - 1)) 128 then Err Broken else Ok (pos b -ℤ pos 128, bs))
    else if nat_lt b 256 then (if nat_lt 7 n then (signed_at (n - 7) bs >>= λ high. Ok (pos 128 *ℤ high.0 +ℤ pos (b - 128), high.1)) else Err Broken) else Err Broken

-- the bits of a number in so many bytes, the lowest first
unfoldable pub bits_at : ℕ → List ℕ → Read ℕ
bits_at zero text = Ok (0, text)
bits_at (suc n) [] = Err Broken
bits_at (suc n) (b ∷ bs) = if nat_lt b 256 then (bits_at n bs >>= λ high. Ok (b + 256 * high.0, high.1)) else Err Broken

-- this byte
unfoldable pub byte_at : ℕ → List ℕ → Read (Unit {0})
byte_at wanted [] = Err Broken
byte_at wanted (b ∷ bs) = if nat_eq b wanted then Ok (tt, bs) else Err Broken

-- a number, and so many bytes
unfoldable pub cut_at : List ℕ → Read (List ℕ)
cut_at text = do
  n ← number_at 32 text
  if nat_lt (length n.1) n.0 then Err Broken else Ok (take n.0 n.1, drop n.0 n.1)

-- the number of the name's bytes, and the name
unfoldable pub name_at : List ℕ → Read (List ℕ)
name_at text = do
  name ← cut_at text
  if is_utf8 name.0 then Ok name else Err Broken

-- k things one after the other
unfoldable pub items_at : {A : Type 0} → (List ℕ → Read A) → ℕ → List ℕ → Read (List A)
items_at read zero text = Ok ([], text)
items_at read (suc k) text = do
  x ← read text
  xs ← items_at read k x.1
  Ok (x.0 ∷ xs.0, xs.1)

-- the number of things, and the things
unfoldable pub vec_at : {A : Type 0} → (List ℕ → Read A) → List ℕ → Read (List A)
vec_at read text = do
  n ← number_at 32 text
  items_at read n.0 n.1
