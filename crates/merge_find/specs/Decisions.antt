-- The search for a string among names by decisions: the length is asked first, and then one byte after the other. What names share is compared
-- once. Names stand in code alone.
-- This profile: docs/FORMATS.md, "What merge writes".
use Rattle.std.specs.Prelude.{ℕ, zero, suc, ◌+◌, ◌^◌, List, [], ◌∷◌, ◌++◌, length, get_or, nat_lt, nat_le, Bool, true, false, ◌&&◌, None, if◌then◌else◌}
use Rattle.std.specs.Int.{cast_signed, w64}
use Rattle.std.specs.List.{list_all}
use Rattle.wasm_form.specs.declared.instr.BlockType.TheVariants.{Empty}
use Rattle.wasm_form.specs.declared.instr.Instr.{Instr, Plain, Index, Block, If, Access, I64Const}
use Rattle.merge_pieces.specs.Opcodes as op
use Rattle.merge_pieces.specs.Code.{number}
use Rattle.merge_find.specs.declared.key.Key.{Key}
use Rattle.merge_find.specs.declared.key.Key.TheVariants.{Size, Byte}

-- a name, and the code that is done once the string is found to be this name
abbrev pub Named : Type 0
Named = List ℕ × List Instr

-- The address of the string is in local 0. Here are the local that holds its length, and the code that is done where no name is the string.
-- All of that code returns.
pub record Goal : Type 0 where
  pub len : ℕ
  pub missed : List Instr

-- ---- pieces

abbrev pub wide : ℕ → Instr
wide k = I64Const (cast_signed w64 k)

abbrev pub return_code : List Instr
return_code = Plain op.return_ ∷ []

-- code that is done once, where a condition holds
abbrev pub when : List Instr → Instr
when code = If Empty (record { list = code }) None

-- ---- what is asked of a string

-- its length, or the byte at a place; past the end stands a zero
abbrev pub value : Key → List ℕ → ℕ
value Size s = length s
value (Byte i) s = get_or s i 0

abbrev pub is_below : Key → ℕ → Named → Bool
is_below key b x = nat_lt (value key x.0) b

-- the names for which it is below a number, and the others
abbrev pub lower : Key → ℕ → List Named → List Named
lower key b [] = []
lower key b (x ∷ xs) = if is_below key b x then x ∷ lower key b xs else lower key b xs

abbrev pub upper : Key → ℕ → List Named → List Named
upper key b [] = []
upper key b (x ∷ xs) = if is_below key b x then upper key b xs else x ∷ upper key b xs

-- ---- questions

abbrev pub key_code : ℕ → Key → List Instr
key_code len Size = Index op.local_get len ∷ []
key_code len (Byte i) = Index op.local_get 0 ∷ Access op.i32_load8_u 0 i ∷ []

-- code that is done where an operator says so of what is asked and a number
unfoldable pub asked : ℕ → Key → ℕ → ℕ → List Instr → List Instr
asked len key operator b code = key_code len key ++ number b ∷ Plain operator ∷ when code ∷ []

-- Where what is asked is another number, the block of the search is left, out of so many blocks inside it.
unfoldable pub exact_code : ℕ → Key → ℕ → ℕ → List Instr
exact_code len key b deep = key_code len key ++ number b ∷ Plain op.i32_ne ∷ Index op.br_if deep ∷ []

-- code, by the number of blocks in which it stands inside the block of the search
abbrev pub Nested : Type 0
Nested = ℕ → List Instr

-- The code for either side of a question. The side with fewer names stands in the block, and the other one behind it: so blocks are nested
-- no deeper than names can be halved.
abbrev pub either : ℕ → Key → ℕ → Bool → Nested → Nested → Nested
either len key b true low high = λ deep. asked len key op.i32_lt_u b (low (suc deep)) ++ high deep
either len key b false low high = λ deep. asked len key op.i32_ge_u b (high (suc deep)) ++ low deep

-- a question with names on one side alone is left out
abbrev pub sides : ℕ → Key → ℕ → (List Named → Nested) → (List Named → Nested) → List Named → List Named → Nested
sides len key b low high [] ys = high ys
sides len key b low high (x ∷ xs) [] = low (x ∷ xs)
sides len key b low high (x ∷ xs) (y ∷ ys) =
    either len key b (nat_le (length (x ∷ xs)) (length (y ∷ ys))) (low (x ∷ xs)) (high (y ∷ ys))

-- The values that are possible, 2^w from the least on, are halved at each question. Where one is left, it is compared, once for all these names,
-- and other code follows.
abbrev pub halved : ℕ → Key → (ℕ → List Named → Nested) → ℕ → ℕ → List Named → Nested
halved len key next zero least xs = λ deep. exact_code len key least deep ++ next least xs deep
halved len key next (suc w) least xs =
    sides len key (least + 2 ^ w) (halved len key next w least) (halved len key next w (least + 2 ^ w))
    (lower key (least + 2 ^ w) xs) (upper key (least + 2 ^ w) xs)

-- ---- the search

-- the string is the first of these names, if there is one
abbrev pub found_code : Goal → List Named → List Instr
found_code g [] = g.missed
found_code g (x ∷ xs) = x.1

-- So many bytes are asked, from place i on, as words. Among names of bytes all questions but eight are left out.
abbrev pub by_bytes : Goal → ℕ → ℕ → List Named → Nested
by_bytes g zero i xs = λ deep. found_code g xs
by_bytes g (suc k) i xs = halved g.len (Byte i) (λ b. by_bytes g k (i + 1)) 32 0 xs

-- among names of fewer than 2^32 bytes
unfoldable pub search_code : Goal → List Named → List Instr
search_code g [] = g.missed
search_code g (x ∷ xs) = Block Empty (record { list = halved g.len Size (λ k. by_bytes g k 0) 32 0 (x ∷ xs) 0 }) ∷ g.missed

-- ---- names that may be a string

-- A string in a memory has fewer bytes than there are addresses, each of which is a word.
abbrev pub may_be_string : List ℕ → Bool
may_be_string name = nat_lt (length name) (2 ^ 32) && list_all (λ b. nat_lt b (2 ^ 32)) name

-- a name that no string is needs no code
abbrev pub strings : {A : Type 0} → List (List ℕ × A) → List (List ℕ × A)
strings [] = []
strings (x ∷ xs) = if may_be_string x.0 then x ∷ strings xs else strings xs
