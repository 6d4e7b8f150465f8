-- The memory of the set: with a stack of 65,536 bytes it needs three pages.
use Rattle.std.proofs.Common.{◌≡◌, ◌≢◌, ◌⊎◌, ℕ, ◌+◌, ◌-◌, ◌*◌, ◌^◌, ◌<◌, ◌≤◌, max, Bool, true, false, cond, List, [], ◌∷◌, ◌++◌, length, None, refl, sym, ap, ◌∙◌, subst, arith, eqb-true, inl, inr}
use Rattle.std.specs.List.{All, flat_map}
use Rattle.std.proofs.lemmas.Bool.Decides.{nat_tests}
use Rattle.std.proofs.lemmas.List.Elements.{All-head, All-tail}
use Rattle.wasm_form.specs.declared.types.Limits.{Limits}
use Rattle.wasm_form.specs.declared.module.Module.{Module}
use Rattle.spec_reading.specs.spec_binary.Exports.{AllDistinct}
use Rattle.spec_linking.specs.Records.{DylinkRecord}
use Rattle.spec_linking.specs.Sets.{Member, ClosedSet}
use Rattle.spec_linking.specs.Gathering.{names_of}
use Rattle.spec_linking.specs.declared.fault.LinkFault.TheVariants.{MemoryLimit}
use Rattle.spec_linking.specs.spec_runtime.Names.{HostNames}
use Rattle.spec_linking.specs.Links.{link_fault}
use Rattle.spec_linking.specs.Plans.{Region, LinkOptions, regions_of, end_of, rounded_up, pages_for, greatest, least_of, memory_limits, limits_in, minima, maxima, sizes_of, plan_of, limit}
use Rattle.dyl_gen.specs.Generated.{file_name, is_main, is_last, next}
use Rattle.dyl_gen.proofs.MemberNames.{files_differ, further_differs}
use Rattle.dyl_gen.proofs.Valid.{member_by}
use Rattle.dyl_gen.proofs.Members.{IsContent, of_member, of_further, OfSet, IsOfSet}
use Rattle.dyl_gen.proofs.Paths.{Among, here, later, holds_among}
use Rattle.dyl_gen.proofs.Counts.{all_named}
use Rattle.dyl_gen.proofs.Linked.{links_by_pages}
use Rattle.dyl_gen.specs.Laws.{CanWrite}

-- ---- regions

-- where the region of a member with this record ends, behind what ends there; and those of members
abbrev ends : DylinkRecord → ℕ → ℕ
ends d end = rounded_up (2 ^ d.mem_align) end + d.mem_size

abbrev end_from : ℕ → List Member → ℕ
end_from end members = end_of (λ (r : Region). r.mem_size) (λ (r : Region). r.mem_align) end (regions_of members)

-- at most so many bytes behind some place
record IsBehind (most begin end : ℕ) : Type 0 where
  low : begin ≤ end
  high : end ≤ begin + most

small_by : (b : Bool) (end : ℕ) → b ≡ false → IsBehind 11 end (rounded_up (2 ^ cond b 16 2) end + 8)
small_by true end e = absurd cc
small_by false end e = record { low = omega arith; high = omega arith }

among_first : {name x : List ℕ} {names : List (List ℕ)} → Among name (x ∷ names) → (x ≡ name) ⊎ Among name names
among_first here = inl refl
among_first (later a) = inr a

among_none : {name : List ℕ} → Among name [] → ⊥
among_none a = elim a [ ]

module _ (n : ℕ) (some : 0 < n) (range : n ≤ 255) where
  abbrev last : List ℕ
  last = file_name (n - 1)

  not_last : (k : ℕ) (path : List ℕ) → k < n → path ≡ file_name k → path ≢ last → (b : Bool) → is_last n k ≡ b → b ≡ false
  not_last k path lt at other true e =
      let same = eqb-true (k + 1) n e in
      let is : k ≡ n - 1 = omega arith in
      absurd (other (at ∙ ap file_name is))
  not_last k path lt at other false e = refl

  -- that of a member which isn't the last one
  small : {path : List ℕ} {wasm : Module} {d : DylinkRecord} (end : ℕ) → path ≢ last → IsContent n path wasm d → IsBehind 11 end (ends d end)
  small {path} end other (of_member k lt at note is e) =
      subst (λ (x : DylinkRecord). IsBehind 11 end (ends x end)) (sym e) (small_by (is_last n k) end (not_last k path lt at other (is_last n k) refl))
  small end other (of_further at note is e) = subst (λ (x : DylinkRecord). IsBehind 11 end (ends x end)) (sym e) (record { low = omega arith; high = omega arith })

  aligned_by : (b : Bool) (end : ℕ) → b ≡ true → 65536 < end → end ≤ 131072 → rounded_up (2 ^ cond b 16 2) end + 8 ≡ 131080
  aligned_by true end e low high = omega arith
  aligned_by false end e low high = absurd cc

  -- that of the last one
  aligned : {path : List ℕ} {wasm : Module} {d : DylinkRecord} (end : ℕ) → path ≡ last → 65536 < end → end ≤ 131072 → IsContent n path wasm d → ends d end ≡ 131080
  aligned end same low high (of_member k lt at note is e) =
      let k_is : k ≡ n - 1 = files_differ k (n - 1) (omega arith) (omega arith) (sym at ∙ same) in
      let whole : k + 1 ≡ n = omega arith in
      let test : is_last n k ≡ true = grind (arith, nat_tests, whole) in
      ap (λ (x : DylinkRecord). ends x end) e ∙ aligned_by (is_last n k) end test low high
  aligned end same low high (of_further at note is e) = absurd (further_differs (n - 1) (sym at ∙ same))

  -- members among which the last one isn't
  after : (ms : List Member) → All (OfSet n) ms → All (λ name. last ≢ name) (names_of ms) → (end : ℕ) → IsBehind (11 * length ms) end (end_from end ms)
  after [] all none end = record { low = omega arith; high = omega arith }
  after (m ∷ ms) all none end =
      let one = small end (λ e. All-head (λ name. last ≢ name) m.name (names_of ms) none (sym e)) (All-head (OfSet n) m ms all).content in
      let more = after ms (All-tail (OfSet n) m ms all) (All-tail (λ name. last ≢ name) m.name (names_of ms) none) (ends m.dylink end) in
      let low = one.low in
      let high = one.high in
      let least = more.low in
      let most = more.high in
      record { low = omega arith; high = omega arith }

  -- members among which it is
  around : (ms : List Member) → All (OfSet n) ms → AllDistinct (names_of ms) → Among last (names_of ms) → (end : ℕ) → 65536 < end → end + 11 * length ms ≤ 131072
      → IsBehind (11 * length ms) 131080 (end_from end ms)
  around [] all d among end low high = absurd (among_none among)
  around (m ∷ ms) all d among end low high = by (among_first among) (λ rest next low high. around ms (All-tail (OfSet n) m ms all) d.1 rest next low high)
    where
      by : (m.name ≡ last) ⊎ Among last (names_of ms)
          → (Among last (names_of ms) → (next : ℕ) → 65536 < next → next + 11 * length ms ≤ 131072 → IsBehind (11 * length ms) 131080 (end_from next ms))
          → IsBehind (11 * length (m ∷ ms)) 131080 (end_from end (m ∷ ms))
      by (inl is) others =
          let one = aligned end is low (omega arith) (All-head (OfSet n) m ms all).content in
          let more = after ms (All-tail (OfSet n) m ms all) (subst (λ x. All (λ name. x ≢ name) (names_of ms)) is d.0) (ends m.dylink end) in
          let least = more.low in
          let most = more.high in
          record { low = omega arith; high = omega arith }
      by (inr rest) others =
          let other : m.name ≢ last = holds_among (λ name. m.name ≢ name) d.0 rest in
          let one = small end other (All-head (OfSet n) m ms all).content in
          let one_low = one.low in
          let one_high = one.high in
          let more = others rest (ends m.dylink end) (omega arith) (omega arith) in
          let least = more.low in
          let most = more.high in
          record { low = omega arith; high = omega arith }

-- ---- what is asked for

abbrev from_one : Limits
from_one = record { min = 1; max = None }

-- some lists of limits ask for one page at most
record AskOnePage (ls : List Limits) : Type 0 where
  least : greatest (minima ls) ≤ 1
  most : maxima ls ≡ []

one_page : (ls : List Limits) → AskOnePage ls → AskOnePage (from_one ∷ ls)
one_page ls ask = (let few = ask.least in record { least = omega arith; most = ask.most })

asks_by : (n k x : ℕ) (note : List ℕ) (ls : List Limits) → AskOnePage ls → (b : Bool) → AskOnePage (flat_map memory_limits (member_by b n k x note).imports ++ ls)
asks_by n k x note ls ask true = one_page ls ask
asks_by n k x note ls ask false = one_page ls ask

asks : {n : ℕ} {path : List ℕ} {wasm : Module} {d : DylinkRecord} (ls : List Limits) → AskOnePage ls → IsContent n path wasm d → AskOnePage (flat_map memory_limits wasm.imports ++ ls)
asks {n} ls ask (of_member k lt at note is e) =
    subst (λ (x : Module). AskOnePage (flat_map memory_limits x.imports ++ ls)) (sym is) (asks_by n k (next n k) note ls ask (is_main k))
asks ls ask (of_further at note is e) = subst (λ (x : Module). AskOnePage (flat_map memory_limits x.imports ++ ls)) (sym is) ask

all_ask : (n : ℕ) (members : List Member) → All (OfSet n) members → AskOnePage (limits_in memory_limits members)
all_ask n [] all = record { least = omega arith; most = refl }
all_ask n (m ∷ ms) all = asks (limits_in memory_limits ms) (all_ask n ms (All-tail (OfSet n) m ms all)) (All-head (OfSet n) m ms all).content

-- ---- the plan

three : (heap asked : ℕ) → 131072 < heap → heap ≤ 196608 → asked ≤ 1 → max (pages_for heap) asked ≡ 3
three heap asked low high few = omega arith

module _ (n : ℕ) (some : 0 < n) (range : n ≤ 255) (S : ClosedSet) (is : IsOfSet n S) (link : LinkOptions) (names : HostNames) (can : CanWrite names) where
  top : link.stack ≡ 65536 → (sizes_of S link).stack ≡ 65536
  top stack = ap (rounded_up 16) stack

  end : IsBehind 2816 131080 (end_from 66661 S.members)
  end =
      let few = is.shape.few in
      let whole = around n some range S.members is.each is.shape.distinct (all_named n some range S is (n - 1) (omega arith)) 66661 (omega arith) (omega arith) in
      let least = whole.low in
      let most = whole.high in
      record { low = omega arith; high = omega arith }

  three_pages : link.stack ≡ 65536 → (plan_of S link).pages ≡ 3
  three_pages stack =
      let low = end.low in
      let high = end.high in
      let asked = (all_ask n S.members is.each).least in
      ap (λ s. max (pages_for (rounded_up 16 (end_from (1024 + s + 101) S.members))) (sizes_of S link).pages_min) (top stack)
      ∙ three (rounded_up 16 (end_from 66661 S.members)) (sizes_of S link).pages_min (omega arith) (omega arith) asked

  all_pages : (plan_of S link).pages_max ≡ link.pages
  all_pages = ap (least_of link.pages) (all_ask n S.members is.each).most

  pub needs_three : link.no_duplicates ≡ false → link.stack ≡ 65536 → link_fault (record { set = S; options = link; names = names }) ≡ limit MemoryLimit 3 link.pages
  needs_three may stack =
      links_by_pages n some range S is link names can may
      ∙ ap (λ p. limit MemoryLimit p (plan_of S link).pages_max) (three_pages stack) ∙ ap (limit MemoryLimit 3) all_pages
