-- What reads and writes do to known bytes.
use Rattle.std.proofs.Common.{◌≡◌, ℕ, ◌+◌, ◌-◌, List, [], ◌++◌, length, take, drop, Option, None, Some, ◌≤◌, ap, sym, subst, ◌∙◌, append_assoc, append-nil, length-append, length-drop, arith}
use Rattle.std.proofs.lemmas.List.{take_rest, take-append-le}
use Rattle.std.proofs.Math.ListN.{drop_of_length-le}
use Rattle.std.proofs.Math.Seq.{take-add, take-length}
use Rattle.std.specs.Int.{w64, from_le_bytes}
use Rattle.std.specs.Io.KnownBytes.{Appends, Consumes}
use Rattle.dyl_outside.specs.Adapters.{IsWord}

appends_twice : (a b c : Option (List ℕ)) (bs cs : List ℕ) → Appends a b bs → Appends b c cs → Appends a c (bs ++ cs)
appends_twice None b c bs cs p q = tt
appends_twice (Some x) None c bs cs p q = absurd p
appends_twice (Some x) (Some y) None bs cs p q = absurd q
appends_twice (Some x) (Some y) (Some z) bs cs p q = q ∙ ap (λ l. l ++ cs) p ∙ append_assoc x bs cs

-- the front of some bytes was appended, and then so many of the rest
pub appends_more : (a b c : Option (List ℕ)) (bytes : List ℕ) (done count : ℕ) → Appends a b (take done bytes)
    → Appends b c (take count (take (length bytes - done) (drop done bytes))) → Appends a c (take (done + count) bytes)
appends_more a b c bytes done count p q =
    let rest = subst (λ l. Appends b c (take count l)) (take_rest bytes done) q in
    subst (Appends a c) (sym (take-add done count bytes)) (appends_twice a b c _ _ p rest)

-- ---- words of a block

-- the word at a place of a block, whatever comes after the block
pub word_here : (block left : List ℕ) (at word : ℕ) → at + 8 ≤ length block → word ≡ from_le_bytes w64 (take 8 (drop at block)) → IsWord (drop at block ++ left) word
word_here block left at word fits is =
    let front : 8 ≤ length (drop at block) = omega (arith, length-drop at block) in
    record {
      enough = omega (arith, front, length-append (drop at block) left);
      value = is ∙ ap (from_le_bytes w64) (sym (take-append-le 8 (drop at block) left front));
    }

-- a block that was written over as a whole
pub written_over : (old new : List ℕ) (len : ℕ) → length old ≡ len → length new ≡ len → take len (new ++ drop (length new) old) ≡ new
written_over old new len whole same =
    let none : drop (length new) old ≡ [] = drop_of_length-le old (omega (arith, whole, same)) in
    ap (λ rest. take len (new ++ rest)) none ∙ ap (take len) (append-nil new) ∙ ap (λ n. take n new) (sym same) ∙ take-length new

-- the first word of a block that was read after one that was given
pub word_next : (given block : List ℕ) (at : ℕ) (a b : Option (List ℕ)) (left : List ℕ) (word : ℕ) → length given ≤ at → 8 ≤ length block → word ≡ from_le_bytes w64 (take 8 (drop 0 block))
    → Consumes a b block → a ≡ Some left → IsWord (drop at given ++ left) word
word_next given block at None b left word none long is p told = absurd (grind (arith, told))
word_next given block at (Some x) None left word none long is p told = absurd p
word_next given block at (Some x) (Some y) left word none long is p told =
    let front : left ≡ block ++ y = grind (arith, told, p) in
    rw (drop_of_length-le, front) (word_here block y 0 word long is)
