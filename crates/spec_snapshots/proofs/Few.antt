-- There are few stretches of a memory.
use Rattle.std.proofs.Common.{◌≡◌, ◌⊎◌, inl, inr, ℕ, ◌+◌, ◌*◌, ◌<◌, ◌≤◌, List, [], ◌∷◌, length, arith}
use Rattle.std.specs.List.{All}
use Rattle.std.proofs.lemmas.Bool.{cases_lt}
use Rattle.std.proofs.Math.Nat.{mul-le-mul_left}
use Rattle.std.proofs.lemmas.List.Elements.{All-head, All-tail}
use Rattle.spec_snapshots.specs.Stretches.{Stretch, IsWithin, AreApart, memory_gap}
use Rattle.spec_snapshots.specs.Laws.{MemoryIsFew}

module _ {A : Type 0} (gap len : ℕ) where
  few_from : (from : ℕ) (s : Stretch A) (ss : List (Stretch A)) → AreApart gap from (s ∷ ss) → All (IsWithin len) (s ∷ ss)
      → from + (gap + 2) * length (s ∷ ss) ≤ len + gap + 1
  few_from from s [] apart all =
      let within = All-head (IsWithin len) s [] all in
      let some = within.some in
      let ends = within.ends in
      let first = apart.0 in
      omega arith
  few_from from s (t ∷ ss) apart all =
      let within = All-head (IsWithin len) s (t ∷ ss) all in
      let some = within.some in
      let first = apart.0 in
      let later = few_from (s.at + length s.items + gap + 1) t ss apart.1 (All-tail (IsWithin len) s (t ∷ ss) all) in
      let sum : (gap + 2) * length (s ∷ t ∷ ss) ≡ (gap + 2) + (gap + 2) * length (t ∷ ss) = omega arith in
      omega arith

  few_all : (ss : List (Stretch A)) → AreApart gap 0 ss → All (IsWithin len) ss → (gap + 2) * length ss ≤ len + gap + 1
  few_all [] apart all = omega arith
  few_all (s ∷ ss) apart all = (let most = few_from 0 s ss apart all in omega arith)

pub memory_is_few : MemoryIsFew
memory_is_few memory ss is = go (cases_lt 65536 (length ss))
  where
    go : (65536 < length ss) ⊎ (length ss ≤ 65536) → length ss ≤ 65536
    go (inr le) = le
    go (inl lt) =
        let more : 65537 ≤ length ss = omega arith in
        let all = few_all (memory_gap memory) (length memory.bytes) ss is.apart is.made.within in
        let least = mul-le-mul_left (memory_gap memory + 2) more in
        absurd (omega arith)
