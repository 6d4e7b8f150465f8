-- How long the data segments of the module are spelled.
use Rattle.std.proofs.Common.{◌≡◌, ℕ, ◌+◌, ◌*◌, ◌≤◌, List, [], ◌∷◌, ◌++◌, length, map, refl, ap, arith, length-append, inl, inr}
use Rattle.std.specs.Prelude.{◌⊎◌}
use Rattle.std.specs.List.{All}
use Rattle.std.proofs.lemmas.List.Elements.{All-head, All-tail}
use Rattle.wasm_form.specs.declared.module.DataMode.TheVariants as data_mode
use Rattle.wasm_form.specs.declared.module.Data.{Data}
use Rattle.spec_reading.specs.spec_binary.Sequence.{SpellsEach, SpellsVec}
use Rattle.spec_reading.specs.spec_binary.Parts.{SpellsByte, SpellsDataMode, SpellsData}
use Rattle.spec_reading.specs.spec_binary.Parts as parts
use Rattle.spec_reading.proofs.of_spec_binary.UnsignedSpelling.{unsigned_few}
use Rattle.spec_loading.specs.spec_linking.Sets.{Member}
use Rattle.spec_loading.specs.spec_linking.Gathering.{total_size}
use Rattle.spec_loading.specs.Members.{from_members}
use Rattle.spec_keeping.specs.Keeping.{AreLeft}
use Rattle.wasm_encode.specs.Weight.{sum_of, data_weight}
use Rattle.wasm_encode.proofs.Units.{items_short}
use Rattle.snap_module.specs.Held.{Stretch, offset_expr, passive_data, memory_data, held_datas}
use Rattle.spec_snapshots.specs.Stretches.{IsSparse}
use Rattle.merge_index.proofs.FewItems.{total_cons}
use Rattle.merge_module.proofs.Weights.{sum_then}
use Rattle.merge_module.proofs.Bounds.{IsLight}
use Rattle.snap_sizes.proofs.Spelled.{offset_short, split, mapped_most, vec_most}
use Rattle.snap_sizes.proofs.Apart.{cost, apart_most}

byte_one : (b : ℕ) (w : List ℕ) → SpellsByte b w → length w ≤ 1
byte_one b _ parts.byte = omega arith

bytes_most : (bs : List ℕ) (w : List ℕ) → SpellsVec SpellsByte bs w → length w ≤ 5 + length bs
bytes_most bs w s = (let most = vec_most SpellsByte bs (1 * length bs) (λ v each. items_short SpellsByte 1 byte_one bs v each) w s in omega arith)

passive_none : {flags : ℕ} {w : List ℕ} → SpellsDataMode flags data_mode.Passive w → length w ≡ 0
passive_none parts.passive = refl

active_short : {flags d : ℕ} (k : ℕ) {w : List ℕ} → SpellsDataMode flags (data_mode.Active d (offset_expr k)) w → length w ≤ 12
active_short k (parts.first_memory {w = w} s) = (let few = offset_short k w s in omega arith)
active_short k (parts.named_memory {w = w} {v = v} number s) =
    (let few = offset_short k v s in let one = unsigned_few number in omega (arith, length-append w v))

-- ten bytes beside those of the segment
abbrev pub passive_cost : List ℕ → ℕ
passive_cost bs = 10 + length bs

passive_most : (bs : List ℕ) (w : List ℕ) → SpellsData (passive_data bs) w → length w ≤ passive_cost bs
passive_most bs _ (parts.segment {w = w} {v = v} {u = u} flags mode bytes) =
    let few = unsigned_few flags in
    let nothing = passive_none mode in
    let all = bytes_most bs u bytes in
    omega (arith, length-append w (v ++ u), length-append v u)

stretch_most : (s : Stretch ℕ) (w : List ℕ) → SpellsData (memory_data s) w → length w ≤ cost 22 2 s
stretch_most s _ (parts.segment {w = w} {v = v} {u = u} flags mode bytes) =
    let few = unsigned_few flags in
    let active = active_short s.at mode in
    let all = bytes_most s.items u bytes in
    omega (arith, length-append w (v ++ u), length-append v u)

pub datas_most : (gap : ℕ) → 16 ≤ gap → (bytes : List ℕ) (ss : List (Stretch ℕ)) → IsSparse 0 gap bytes ss → (ds : List (List ℕ)) (w : List ℕ)
    → SpellsVec SpellsData (held_datas ds ss) w → length w ≤ 27 + sum_of passive_cost ds + 2 * length bytes
datas_most gap wide bytes ss sparse ds w s =
    let most = vec_most SpellsData (held_datas ds ss) (22 + sum_of passive_cost ds + 2 * length bytes) each w s in omega arith
  where
    each : (v : List ℕ) → SpellsEach SpellsData (held_datas ds ss) v → length v ≤ 22 + sum_of passive_cost ds + 2 * length bytes
    each v t =
        let two = split SpellsData (map passive_data ds) (map memory_data ss) v t in
        let first = mapped_most SpellsData passive_data passive_cost passive_most ds two.first two.one in
        let second = mapped_most SpellsData memory_data (cost 22 2) stretch_most ss two.second two.other in
        let all = apart_most gap 22 2 (length bytes) (omega arith) ss sparse.apart sparse.made.within in
        let both = two.both in
        omega arith

-- segments that are left cost no more than before
pub left_cost : (xs ys : List (List ℕ)) → AreLeft xs ys → sum_of passive_cost ys ≤ sum_of passive_cost xs
left_cost [] [] are = omega arith
left_cost [] (y ∷ ys) are = absurd are
left_cost (x ∷ xs) [] are = absurd are
left_cost (x ∷ xs) (y ∷ ys) are = (let later = left_cost xs ys are.1 in let here = one are.0 in omega arith)
  where
    one : (y ≡ []) ⊎ (y ≡ x) → length y ≤ length x
    one (inl none) = (let few = ap length none in omega arith)
    one (inr same) = (let few = ap length same in omega arith)

-- those of members cost no more than five for each byte of the files
own_cost : (ds : List Data) → sum_of passive_cost (map (λ (d : Data). d.bytes) ds) ≤ 5 * sum_of data_weight ds
own_cost [] = omega arith
own_cost (d ∷ ds) = (let later = own_cost ds in omega arith)

pub members_cost : (k : ℕ) (xs : List Member) → All IsLight xs
    → sum_of passive_cost (from_members (λ m wasm. map (λ (d : Data). d.bytes) wasm.datas) k xs) ≤ 5 * total_size xs
members_cost k [] all = omega arith
members_cost k (x ∷ xs) all =
    let here = All-head IsLight x xs all in
    let own = own_cost x.wasm.datas in
    let later = members_cost (k + 1) xs (All-tail IsLight x xs all) in
    let sum = total_cons x xs in
    let both = sum_then passive_cost (map (λ (d : Data). d.bytes) x.wasm.datas) (from_members (λ m wasm. map (λ (d : Data). d.bytes) wasm.datas) (k + 1) xs) in
    omega arith
