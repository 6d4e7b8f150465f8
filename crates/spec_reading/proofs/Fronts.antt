-- Sections at the front of a text are the first of any sections there.
use Rattle.std.proofs.Common.{◌≡◌, ℕ, ◌+◌, ◌≤◌, List, ◌++◌, sym, ap, subst, ◌∙◌, append_assoc, arith}
use Rattle.spec_binary.specs.Sections.{Progress, Contents, IsSection, Chain, done, next}
use Rattle.spec_binary.specs.declared.fault.DecodeFault.{DecodeFault}
use Rattle.spec_reading.specs.Bodies.{Room}
use Rattle.spec_reading.specs.Sections.{section_at}
use Rattle.spec_reading.proofs.Steps.{ok_is}
use Rattle.spec_reading.proofs.Contents.{HasRoom}
use Rattle.spec_reading.proofs.FramedSections.{section_complete}
use Rattle.spec_reading.proofs.Chains.{had_room}

-- more sections, up to n of them in all
pub record GoesOn (t u : Progress) (k n : ℕ) (x y : List ℕ) : Type 0 where
  pub more : ℕ
  pub word : List ℕ
  pub chain : Chain t more word u
  pub sum : more + k ≡ n
  pub parts : x ≡ word ++ y

module _ (room : Room) where
  -- two sections at the front of a text are one
  one_section : (s t u : Progress) (i j : ℕ) (c d w v : List ℕ) → IsSection i c w → Contents s i c t → (11 ≤ t.last → HasRoom room t) → IsSection j d v → Contents s j d u
      → (11 ≤ u.last → HasRoom room u) → (x y : List ℕ) → w ++ x ≡ v ++ y → (t ≡ u) × (x ≡ y)
  one_section s t u i j c d w v f p h g q k x y e =
      let left = section_complete 0 room s i c w t f p h x in
      let right = section_complete 0 room s j d v u g q k y in
      let same = ok_is DecodeFault (t, x) (u, y) (sym left ∙ ap (section_at room 0 s) e ∙ right) in
      (ap (λ (p : Progress × List ℕ). p.0) same, ap (λ (p : Progress × List ℕ). p.1) same)

  pub goes_on : {s t u : Progress} {k n : ℕ} {w v : List ℕ} → Chain s k w t → HasRoom room t → Chain s n v u → HasRoom room u → k ≤ n → (x y : List ℕ) → w ++ x ≡ v ++ y
      → GoesOn t u k n x y
  goes_on {n} {v} done h q l le x y e = record { more = n; word = v; chain = q; sum = omega arith; parts = e }
  goes_on (next f c p) h done l le x y e = absurd (omega arith)
  goes_on {s} {t} {u} (next {t = t'} {k} {id = i} {contents = c'} {w} {v} f c p) h (next {t = u'} {k = n} {id = j} {contents = d'} {w = z} {v = r} g d q) l le x y e =
      let same = one_section s t' u' i j c' d' w z f c (had_room room t' k v t p h) g d (had_room room u' n r u q l) (v ++ x) (r ++ y) (sym (append_assoc w v x) ∙ e ∙ append_assoc z r y) in
      let on = goes_on p h (subst (λ s. Chain s n r u) (sym same.0) q) l (omega arith) x y same.1 in
      record { more = on.more; word = on.word; chain = on.chain; sum = let a = on.sum in omega arith; parts = on.parts }
