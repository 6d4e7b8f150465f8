-- What is known of what is kept of a linked set.
use Rattle.std.proofs.Common.{◌≡◌, ℕ, zero, suc, ◌+◌, ◌-◌, ◌%◌, ◌^◌, ◌<◌, ◌≤◌, List, [], ◌∷◌, ◌++◌, length, map, Bool, true, false, Option, Some, None, nat_eq, refl, ap, ap₂, sym, ◌∙◌, subst, drop, bytes_eq, slice_get, arith}
use Rattle.std.specs.Prelude.{unwrap_or, not, All}
use Rattle.std.specs.List.{position_from, filter}
use Rattle.std.proofs.lemmas.Bool.Decides.{nat_tests}
use Rattle.std.proofs.lemmas.List.{drop_all}
use Rattle.std.proofs.lemmas.List.Elements.{All-map}
use Rattle.std.proofs.lemmas.Option.{slice_get_within, slice_get_past}
use Rattle.spec_loading.specs.spec_linking.Sets as sets
use Rattle.spec_loading.specs.spec_linking.Plans.{Plan, texts_size, regions_of, end_of}
use Rattle.spec_loading.specs.spec_linking.LinkedSets.{LinkedSet}
use Rattle.spec_loading.specs.spec_linking.Orders.{is_among, with_numbers, closure}
use Rattle.spec_loading.specs.spec_linking.Slots.{linked_plan, address_of}
use Rattle.spec_loading.specs.spec_linking.Definitions.{Undefined, searched}
use Rattle.spec_loading.proofs.of_spec_linking.Placing.{above, end_above}
use Rattle.spec_loading.specs.LoaderAnswers.{is_handle, handle_list, promoted_with, member_named, error_answer, error_offsets}
use Rattle.dyl_link.specs.dyl_search.declared.set.Member.{Member}
use Rattle.dyl_link.specs.dyl_search.Gathers.{member_of}
use Rattle.spec_loading.specs.spec_binary.Options.{◌>>=◌}
use Rattle.spec_loading.specs.spec_linking.Gathering.{IsSet}
use Rattle.dyl_link.proofs.Indices.{bases_long}
use Rattle.spec_loading.proofs.InsideSets.{closure_inside}
use Rattle.dyl_world.specs.Found.{is_named, AreWithout}
use Rattle.dyl_world.proofs.Texts.{ExportsNo, none_searched}

-- ---- the texts of the errors

offset_small : (i : ℕ) → unwrap_or (slice_get error_offsets i) 0 ≤ 81
offset_small zero = omega arith
offset_small (suc zero) = omega arith
offset_small (suc (suc zero)) = omega arith
offset_small (suc (suc (suc zero))) = omega arith
offset_small (suc (suc (suc (suc zero)))) = omega arith
offset_small (suc (suc (suc (suc (suc i))))) = omega arith

text_of : (L : LinkedSet) (e : ℕ) → 1 ≤ e → (linked_plan L).stack_top + unwrap_or (slice_get error_offsets (e - 1)) 0 ≡ error_answer L e
text_of L zero some = absurd (omega arith)
text_of L (suc e) some = (let same : suc e - 1 ≡ e = omega arith in rw same refl)

-- the texts of the errors end where the heap begins, or before
texts_before : (L : LinkedSet) → (linked_plan L).stack_top + texts_size ≤ (linked_plan L).heap_base
texts_before L =
    let end = end_of (λ r. r.mem_size) (λ r. r.mem_align) ((linked_plan L).stack_top + texts_size) (regions_of L.set.members) in
    let past = end_above (λ r. r.mem_size) (λ r. r.mem_align) ((linked_plan L).stack_top + texts_size) (regions_of L.set.members) in
    let rounded = above 16 end (omega arith) in
    omega arith

-- so the text of an error lies before the heap
pub text_fits : (L : LinkedSet) (plan : Plan) (i offset : ℕ) → plan ≡ linked_plan L → offset ≡ unwrap_or (slice_get error_offsets i) 0 → plan.stack_top + offset ≤ plan.heap_base
text_fits L plan i offset same is =
    let top = ap (λ (p : Plan). p.stack_top) same in
    let heap = ap (λ (p : Plan). p.heap_base) same in
    let small = offset_small i in
    let end = texts_before L in
    omega arith

pub text_there : (L : LinkedSet) (plan : Plan) (e offset : ℕ) → 1 ≤ e → plan ≡ linked_plan L → offset ≡ unwrap_or (slice_get error_offsets (e - 1)) 0 → plan.stack_top + offset ≡ error_answer L e
text_there L plan e offset some same is = (λ i. (same i).stack_top + is i) ∙ text_of L e some

-- ---- members

-- there is no address in a member that isn't there
pub no_address : (L : LinkedSet) (m offset : ℕ) → length L.set.members ≤ m → None ≡ address_of L m offset
no_address L m offset past =
    let long = bases_long L in
    ap (λ (o : Option ℕ). o >>= λ base. Some ((base + offset) % 2 ^ 32)) (sym (slice_get_past (linked_plan L).bases m (omega arith)))

pub closure_below : (L : LinkedSet) → IsSet L.set → (m : ℕ) → m < length L.set.members → (xs : List ℕ) → xs ≡ closure L.set m → All (λ n. n < length L.set.members) xs
closure_below L shape m lt xs is = subst (All (λ i. i < length L.set.members)) (sym is) (closure_inside L.set shape m lt)

-- ---- promoted members

abbrev pub later : List ℕ → List ℕ → List ℕ
later startup members = filter (λ k. not (is_among k startup)) members

pub all_promoted : (S : sets.ClosedSet) (m : ℕ) (startup members list old : List ℕ) (i : ℕ) → startup ≡ S.startup → members ≡ closure S m → length members ≤ i
    → with_numbers list (later startup (drop i members)) ≡ with_numbers old (later startup members) → list ≡ promoted_with S m old
all_promoted S m startup members list old i starts reached all is =
    ap (λ ms. with_numbers list (later startup ms)) (sym (drop_all i members all)) ∙ is ∙ ap₂ (λ ss ms. with_numbers old (later ss ms)) starts reached

-- ---- handles

pub handle_inside : (stages : List ℕ) (handle : ℕ) → 0 < length stages → is_handle stages handle ≡ true → handle ≤ length stages
handle_inside stages zero some known = omega arith
handle_inside stages (suc m) some known = by (nat_eq m 0) refl (slice_get stages m) refl
  where
    by : (b : Bool) → nat_eq m 0 ≡ b → (o : Option ℕ) → slice_get stages m ≡ o → suc m ≤ length stages
    by true p o q = (let first : m ≡ 0 = grind (arith, nat_tests) in omega arith)
    by false p None q = absurd (let h = rw (p, q) at known in cc)
    by false p (Some stage) q = (let inside = slice_get_within stages m stage q in omega arith)

pub handle_program : (S : sets.ClosedSet) (promoted : List ℕ) (handle : ℕ) → handle < 2 → S.startup ++ promoted ≡ handle_list S promoted handle
handle_program S promoted zero lt = refl
handle_program S promoted (suc zero) lt = refl
handle_program S promoted (suc (suc m)) lt = absurd (omega arith)

pub handle_closure : (S : sets.ClosedSet) (promoted : List ℕ) (handle : ℕ) → 2 ≤ handle → closure S (handle - 1) ≡ handle_list S promoted handle
handle_closure S promoted zero le = absurd (omega arith)
handle_closure S promoted (suc zero) le = absurd (omega arith)
handle_closure S promoted (suc (suc m)) le = ap (closure S) (omega arith)

-- ---- the first member that has a name

module _ (name : List ℕ) where
  abbrev HaveName : ℕ → List Member → Type 0
  HaveName i ms = position_from (λ (m : sets.Member). bytes_eq name m.name) i (map member_of ms) ≡ position_from (is_named name) i ms

  named_from : (i : ℕ) (ms : List Member) → HaveName i ms
  named_from i [] = refl
  named_from i (m ∷ ms) = by (bytes_eq name m.name) refl (named_from (i + 1) ms)
    where
      by : (b : Bool) → bytes_eq name m.name ≡ b → HaveName (i + 1) ms → HaveName i (m ∷ ms)
      by true p rest = rw p refl
      by false p rest = rw p rest

pub named_in_set : (S : sets.ClosedSet) (xs : List Member) → map member_of xs ≡ S.members → (name : List ℕ) → position_from (is_named name) 0 xs ≡ member_named S name
named_in_set S xs same name =
    sym (named_from name 0 xs) ∙ ap (λ (ms : List sets.Member). position_from (λ (m : sets.Member). bytes_eq name m.name) 0 ms) same

-- ---- a name that no member exports

pub none_defined : (S : sets.ClosedSet) (members : List Member) → map member_of members ≡ S.members → (name : List ℕ) → AreWithout name members → (ms : List ℕ) → Undefined ≡ searched S ms name
none_defined S members here name without ms =
    let none : All (ExportsNo name) S.members = subst (All (ExportsNo name)) here (All-map (ExportsNo name) member_of members without) in
    sym (none_searched name S none ms)
