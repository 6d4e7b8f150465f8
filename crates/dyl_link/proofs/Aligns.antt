-- The alignments of members' regions are powers of two below 2^32.
use Rattle.std.proofs.Common.{◌≡◌, ℕ, ◌≤◌, List, [], ◌∷◌, map, ap, arith, All, lit≤}
use Rattle.std.proofs.lemmas.List.Elements.{All-cons, All-head, All-tail, All-nil}
use Rattle.spec_loading.specs.spec_linking.Records.{DylinkRecord, Subsection, memory_information, needed, export_notes, import_notes, runtime_paths, other, Subsections, done, next}
use Rattle.spec_loading.specs.spec_linking.Sets.{Member}
use Rattle.spec_loading.specs.spec_linking.Gathering.{IsMember}
use Rattle.spec_loading.specs.spec_linking.Plans as plans
use Rattle.dyl_slots.specs.dyl_plan.declared.region.Region.{Region}
use Rattle.dyl_slots.specs.dyl_plan.Regions.{region_of, HasAligns}

abbrev AreSmall : DylinkRecord → Type 0
AreSmall d = (d.mem_align ≤ 31) × (d.table_align ≤ 31)

one : {d e : DylinkRecord} {code : ℕ} {w : List ℕ} → Subsection d code w e → AreSmall d → AreSmall e
one (memory_information a b s t u v) h = (a, b)
one (needed s) h = h
one (export_notes s) h = h
one (import_notes s) h = h
one (runtime_paths s) h = h
one (other w s) h = h

all : {d e : DylinkRecord} {count : ℕ} {w : List ℕ} → Subsections d count w e → AreSmall d → AreSmall e
all done h = h
all (next size this rest) h = all rest (one this h)

member_small : (m : Member) → IsMember m → AreSmall m.dylink
member_small m h = all h.read.dylink.said (lit≤ tt, lit≤ tt)

first_region : (r : Region) (rs : List Region) (m : Member) (ms : List Member) → map region_of (r ∷ rs) ≡ plans.regions_of (m ∷ ms) → region_of r ≡ plans.region_of m.dylink
first_region r rs m ms e = cc

later_regions : (r : Region) (rs : List Region) (m : Member) (ms : List Member) → map region_of (r ∷ rs) ≡ plans.regions_of (m ∷ ms) → map region_of rs ≡ plans.regions_of ms
later_regions r rs m ms e = cc

region_small : (r : Region) (m : Member) → region_of r ≡ plans.region_of m.dylink → AreSmall m.dylink → HasAligns r
region_small r m e h =
    let mem : r.mem_align ≡ m.dylink.mem_align = ap (λ x. x.mem_align) e in
    let table : r.table_align ≡ m.dylink.table_align = ap (λ x. x.table_align) e in
    (omega arith, omega arith)

pub aligned : (rs : List Region) (ms : List Member) → map region_of rs ≡ plans.regions_of ms → All IsMember ms → All HasAligns rs
aligned [] ms e h = All-nil HasAligns
aligned (r ∷ rs) [] e h = absurd cc
aligned (r ∷ rs) (m ∷ ms) e h =
    All-cons HasAligns r rs (region_small r m (first_region r rs m ms e) (member_small m (All-head IsMember m ms h))) (aligned rs ms (later_regions r rs m ms e) (All-tail IsMember m ms h))
