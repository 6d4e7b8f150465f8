-- The lines of slots, in parts.
use Rattle.std.proofs.Common.{◌≡◌, ℕ, zero, suc, ◌+◌, ◌<◌, ◌≤◌, List, [], ◌∷◌, ◌++◌, length, map, drop, Option, unwrap_or, refl, sym, ap, ◌∙◌, append_assoc, append-nil, arith}
use Rattle.std.proofs.lemmas.List.{drop_all}
use Rattle.spec_merging.specs.wasm_form.declared.runtime.Ref.{Ref}
use Rattle.spec_merging.specs.wasm_form.declared.runtime.Ref.TheVariants.{Own}
use Rattle.spec_traces.specs.spec_hosts.spec_runtime.Names.{HostName}
use Rattle.spec_linking.specs.Sets.{Member}
use Rattle.spec_linking.specs.LinkedSets.{LinkedSet, hosts_of}
use Rattle.spec_linking.specs.Slots.{slot_of, fresh_of, fresh_from}
use Rattle.dyl_front.specs.Listing.{slot_line, slot_lines}

module _ (members : List Member) (hosts : List HostName) (slot : Ref → Option ℕ) where
  pub lines_append : (xs ys : List Ref) → slot_lines members hosts slot (xs ++ ys) ≡ slot_lines members hosts slot xs ++ slot_lines members hosts slot ys
  lines_append [] ys = refl
  lines_append (x ∷ xs) ys = ap (λ l. slot_line members hosts x (unwrap_or (slot x) 0) ++ l) (lines_append xs ys)
      ∙ sym (append_assoc (slot_line members hosts x (unwrap_or (slot x) 0)) (slot_lines members hosts slot xs) (slot_lines members hosts slot ys))

-- the functions of one member, and of those after it
fresh_at : (L : LinkedSet) (ms : List Member) (j n : ℕ) → n < length ms → fresh_from L j (drop n ms) ≡ map (Own j) (fresh_of L j) ++ fresh_from L (j + 1) (drop (n + 1) ms)
fresh_at L [] j n lt = absurd (omega arith)
fresh_at L (x ∷ xs) j zero lt = refl
fresh_at L (x ∷ xs) j (suc n) lt = (let next : suc n + 1 ≡ suc (n + 1) = omega arith in rw next (fresh_at L xs j n (omega arith)))

module _ (L : LinkedSet) where
  abbrev lines : List Ref → List ℕ
  lines = slot_lines L.set.members (hosts_of L) (slot_of L)

  -- their lines
  pub one_more : (m : ℕ) → m < length L.set.members → (to more all : List ℕ) → more ≡ to ++ lines (map (Own m) (fresh_of L m))
      → to ++ lines (fresh_from L m (drop m L.set.members)) ≡ all → more ++ lines (fresh_from L (m + 1) (drop (m + 1) L.set.members)) ≡ all
  one_more m lt to more all put before =
      let this = map (Own m) (fresh_of L m) in
      let rest = fresh_from L (m + 1) (drop (m + 1) L.set.members) in
      ap (λ l. l ++ lines rest) put
      ∙ append_assoc to (lines this) (lines rest)
      ∙ ap (λ l. to ++ l) (sym (lines_append L.set.members (hosts_of L) (slot_of L) this rest))
      ∙ ap (λ (fs : List Ref). to ++ lines fs) (sym (fresh_at L L.set.members m m lt))
      ∙ before

  pub none_left : (m : ℕ) → length L.set.members ≤ m → (to all : List ℕ) → to ++ lines (fresh_from L m (drop m L.set.members)) ≡ all → to ≡ all
  none_left m le to all before = sym (append-nil to) ∙ ap (λ (ms : List Member). to ++ lines (fresh_from L m ms)) (sym (drop_all m L.set.members le)) ∙ before
