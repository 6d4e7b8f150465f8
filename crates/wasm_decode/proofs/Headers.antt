-- The header, as a prefix and as the first eight bytes.
use Rattle.std.proofs.Common.{◌≡◌, ℕ, true, false, List, ◌++◌, take, drop, refl, sym, ap, ◌∙◌, arith, length, length-append, ◌≤◌, Err}
use Rattle.std.specs.Str.{bytes_eq}
use Rattle.std.proofs.lemmas.List.{take-append-drop}
use Rattle.std.proofs.lemmas.Slice.Eq.{bytes_eq-Decides}
use Rattle.spec_reading.specs.spec_binary.Sections.{at_start}
use Rattle.spec_reading.specs.spec_binary.Modules.{header}
use Rattle.spec_reading.specs.spec_binary.declared.fault.DecodeFault.TheVariants.{Malformed}
use Rattle.spec_reading.specs.Bodies.{usual_room}
use Rattle.spec_reading.specs.Sections.{chain_at, sections_at}

pub header_found : (bytes rest : List ℕ) → bytes ≡ header ++ rest → sections_at usual_room bytes ≡ chain_at usual_room (length bytes) 0 at_start rest
unfolding sections_at
header_found bytes rest e = rw e refl

pub no_header : (bytes : List ℕ) → ((rest : List ℕ) → bytes ≡ header ++ rest → ⊥) → sections_at usual_room bytes ≡ Err (Malformed 0)
unfolding sections_at
no_header bytes h =
    let other : bytes_eq (take 8 bytes) header ≡ false = elim (bytes_eq (take 8 bytes) header) as (λ t. bytes_eq (take 8 bytes) header ≡ t → t ≡ false) [
      | true ↦ λ same. absurd (h (drop 8 bytes) (sym (take-append-drop 8 bytes) ∙ ap (λ l. l ++ drop 8 bytes) ((bytes_eq-Decides (take 8 bytes) header).0 same)))
      | false ↦ λ _. refl
    ] refl in
    rw other refl

pub rest_shorter : (bytes rest : List ℕ) → bytes ≡ header ++ rest → length rest ≤ length bytes
rest_shorter bytes rest e = let l = ap length e in omega (arith, length-append header rest)
