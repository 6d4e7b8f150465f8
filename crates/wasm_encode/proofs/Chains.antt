-- Chains of sections.
use Rattle.std.proofs.Common.{◌≡◌, ℕ, suc, List, [], ◌++◌, sym, subst, append_assoc, append-nil}
use Rattle.spec_reading.specs.spec_binary.Sections.{Progress, Contents, IsSection, Chain, done, next}

pub chain_along : {s t : Progress} {k : ℕ} (w v : List ℕ) → w ≡ v → Chain s k w t → Chain s k v t
chain_along {s} {t} {k} w v e = subst (λ x. Chain s k x t) e

-- one more section at the end of a chain
pub chain_next : {s t u : Progress} {k id : ℕ} {w text v : List ℕ} → Chain s k w t → IsSection id text v → Contents t id text u → Chain s (suc k) (w ++ v) u
chain_next {v} done is c = chain_along (v ++ []) v (append-nil v) (next is c done)
chain_next {v = last} (next {w} {v} here d rest) is c =
    chain_along (w ++ (v ++ last)) ((w ++ v) ++ last) (sym (append_assoc w v last)) (next here d (chain_next rest is c))
