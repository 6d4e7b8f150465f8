-- How much stretches take that stand apart, each so much and so much for each item.
use Rattle.std.proofs.Common.{◌≡◌, ℕ, ◌+◌, ◌*◌, ◌≤◌, List, [], ◌∷◌, length, arith}
use Rattle.std.specs.List.{All}
use Rattle.std.proofs.Math.Nat.{mul-le-mul_left}
use Rattle.std.proofs.lemmas.List.Elements.{All-head, All-tail}
use Rattle.wasm_encode.specs.Weight.{sum_of}
use Rattle.snap_module.specs.Held.{Stretch, IsWithin}
use Rattle.spec_snapshots.specs.Stretches.{AreApart}

abbrev pub cost : {A : Type 0} → ℕ → ℕ → Stretch A → ℕ
cost each per s = each + per * length s.items

module _ {A : Type 0} (gap each per len : ℕ) (room : each ≤ per * gap + per) where
  apart_from : (from : ℕ) (s : Stretch A) (ss : List (Stretch A)) → AreApart gap from (s ∷ ss) → All (IsWithin len) (s ∷ ss)
      → per * from + sum_of (cost each per) (s ∷ ss) ≤ per * len + each
  apart_from from s [] apart all =
      let within = All-head (IsWithin len) s [] all in
      let ends = within.ends in
      let first = apart.0 in
      let le : from + length s.items ≤ len = omega arith in
      let most = mul-le-mul_left per le in
      let sum : per * (from + length s.items) ≡ per * from + per * length s.items = omega arith in
      omega arith
  apart_from from s (t ∷ ss) apart all =
      let later = apart_from (s.at + length s.items + gap + 1) t ss apart.1 (All-tail (IsWithin len) s (t ∷ ss) all) in
      let first = apart.0 in
      let most = mul-le-mul_left per first in
      let sum : per * (s.at + length s.items + gap + 1) ≡ per * s.at + per * length s.items + per * gap + per = omega arith in
      omega arith

  pub apart_most : (ss : List (Stretch A)) → AreApart gap 0 ss → All (IsWithin len) ss → sum_of (cost each per) ss ≤ per * len + each
  apart_most [] apart all = omega arith
  apart_most (s ∷ ss) apart all = (let most = apart_from 0 s ss apart all in omega arith)
