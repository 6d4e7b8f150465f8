-- Files of members have short names, which are ASCII and differ.
use Rattle.std.proofs.Common.{rules, ◌≡◌, ℕ, ◌<◌, ◌≤◌, List, [], ◌∷◌, ◌++◌, Bool, true, false, cond, get_or, length, length-append, refl, sym, ap, ◌∙◌, arith, eqb-true}
use Rattle.std.specs.Prelude.{codes, decimal}
use Rattle.std.specs.Str.{IsAscii}
use Rattle.std.proofs.lemmas.Bool.{eqb-false}
use Rattle.std.proofs.lemmas.Str.{IsAscii-append}
use Rattle.std.proofs.lemmas.List.{append_cancel_left, append_cancel_right}
use Rattle.std.proofs.lemmas.Fmt.{IsAscii-decimal, length-decimal-le, decimal_injective, decimal_nonempty, first_decimal}
use Rattle.dyl_gen.specs.Generated.{is_main, file_name, further_name, function_name, value_name}

abbrev main_name : List ℕ
main_name = codes "m0.wasm"

abbrev library_name : ℕ → List ℕ
library_name k = codes "m" ++ decimal k ++ codes ".so"

-- the file is that of the main module, or of another one
by_member : (P : List ℕ → Type 0) (k : ℕ) → (k ≡ 0 → P main_name) → (0 < k → P (library_name k)) → P (file_name k)
by_member P k main other = by (is_main k) refl
  where
    by : (b : Bool) → is_main k ≡ b → P (cond b main_name (library_name k))
    by true e = main (eqb-true k 0 e)
    by false e = (let differs = eqb-false k 0 e in other (omega arith))

-- ---- lengths

decimal_short : (k : ℕ) → k < 256 → length (decimal k) ≤ 3
decimal_short k lt = length-decimal-le 3 k (omega arith) (omega arith) (omega arith)

library_short : (k : ℕ) → k < 256 → length (library_name k) ≤ 7
library_short k lt =
    let short = decimal_short k lt in
    let front = length-append (codes "m") (decimal k) in
    let all = length-append (codes "m" ++ decimal k) (codes ".so") in
    omega arith

pub file_short : (k : ℕ) → k < 256 → length (file_name k) ≤ 7
file_short k lt = by_member (λ a. length a ≤ 7) k (λ e. omega arith) (λ some. library_short k lt)

pub function_short : (k : ℕ) → k < 256 → length (function_name k) ≤ 4
function_short k lt = (let short = decimal_short k lt in let all = length-append (codes "f") (decimal k) in omega arith)

pub value_short : (k : ℕ) → k < 256 → length (value_name k) ≤ 4
value_short k lt = (let short = decimal_short k lt in let all = length-append (codes "v") (decimal k) in omega arith)

-- ---- characters

main_ascii : IsAscii main_name
main_ascii = search rules

library_ascii : (k : ℕ) → k < 256 → IsAscii (library_name k)
library_ascii k lt =
    IsAscii-append (codes "m" ++ decimal k) (codes ".so")
    (IsAscii-append (codes "m") (decimal k) (search rules) (IsAscii-decimal k (omega arith))) (search rules)

pub file_ascii : (k : ℕ) → k < 256 → IsAscii (file_name k)
file_ascii k lt = by_member IsAscii k (λ e. main_ascii) (λ some. library_ascii k lt)

-- ---- they differ

-- the number of a member that isn't the main module doesn't begin with 0
first_digit : (k : ℕ) (rest : List ℕ) → 0 < k → k < 256 → 48 < get_or (decimal k ++ rest) 0 0
first_digit k rest some lt = by (decimal k) (first_decimal k some (omega arith)) (decimal_nonempty k (omega arith))
  where
    by : (ds : List ℕ) → 48 < get_or ds 0 0 → 0 < length ds → 48 < get_or (ds ++ rest) 0 0
    by [] first long = absurd (omega arith)
    by (d ∷ ds) first long = first

main_differs : (k : ℕ) → 0 < k → k < 256 → main_name ≡ library_name k → ⊥
main_differs k some lt e =
    let rest : codes "0.wasm" ≡ decimal k ++ codes ".so" = append_cancel_left (codes "m") (codes "0.wasm") (decimal k ++ codes ".so") e in
    let first = first_digit k (codes ".so") some lt in
    let same = ap (λ l. get_or l 0 0) rest in
    omega arith

libraries_differ : (j k : ℕ) → j < 256 → k < 256 → library_name j ≡ library_name k → j ≡ k
libraries_differ j k lj lk e =
    let same : decimal j ++ codes ".so" ≡ decimal k ++ codes ".so" = append_cancel_left (codes "m") (decimal j ++ codes ".so") (decimal k ++ codes ".so") e in
    decimal_injective j k (omega arith) (omega arith) (append_cancel_right (decimal j) (decimal k) (codes ".so") same)

pub files_differ : (j k : ℕ) → j < 256 → k < 256 → file_name j ≡ file_name k → j ≡ k
files_differ j k lj lk = by_member (λ a. a ≡ file_name k → j ≡ k) j
    (λ first. by_member (λ b. main_name ≡ b → j ≡ k) k (λ second e. first ∙ sym second) (λ some e. absurd (main_differs k some lk e)))
    (λ here. by_member (λ b. library_name j ≡ b → j ≡ k) k (λ second e. absurd (main_differs j here lj (sym e))) (λ some e. libraries_differ j k lj lk e))

pub further_differs : (k : ℕ) → further_name ≡ file_name k → ⊥
further_differs k = by_member (λ a. further_name ≡ a → ⊥) k (λ zero_is e. (let first = ap (λ l. get_or l 0 0) e in omega arith)) (λ some e. (let first = ap (λ l. get_or l 0 0) e in omega arith))
