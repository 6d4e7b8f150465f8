-- What is kept of a member is what it has.
use Rattle.std.proofs.Common.{◌≡◌, ℕ, zero, suc, ◌+◌, ◌<◌, List, [], ◌∷◌, ◌++◌, length, Option, Some, None, Bool, refl, ap, sym, ◌∙◌, subst, arith, inl, inr, length-append}
use Rattle.std.specs.Prelude.{slice_get, unwrap_or, if◌then◌else◌}
use Rattle.std.proofs.lemmas.Bool.{cases_lt, lt-ltb}
use Rattle.std.proofs.lemmas.List.FromFn.{length-map-range_with_len, get_or-map-range_with_len}
use Rattle.std.proofs.lemmas.Option.{slice_get-get_or, slice_get_within, same_Some}
use Rattle.spec_loading.proofs.of_spec_binary.Lists.{slice_get-append-left, slice_get-append-last}
use Rattle.wasm_form.specs.declared.module.Module.{Module}
use Rattle.spec_loading.specs.spec_binary.IndexSpaces.{imported_count, global_space, table_space}
use Rattle.spec_loading.specs.spec_binary.Options.{◌>>=◌}
use Rattle.wasm_instance.specs.Rooms.{HaveRooms}
use Rattle.spec_loading.specs.spec_linking.Sets as sets
use Rattle.spec_loading.specs.spec_linking.LinkedSets.{LinkedSet, wasm_of}
use Rattle.spec_loading.specs.Addresses.{sum_before, item_address}
use Rattle.dyl_link.specs.dyl_search.declared.set.Member.{Member}
use Rattle.dyl_link.specs.dyl_search.Gathers.{member_of}
use Rattle.dyl_store.specs.declared.run_member.Unit.{Unit}
use Rattle.dyl_addresses.specs.Kept.{KeptAddresses, AreAddressesOf}
use Rattle.dyl_store.specs.Units.{IsUnit}
use Rattle.dyl_store.specs.Opening.{global_place, table_place, elem_place, data_place, first_of}

-- one of the first addresses
pub first_at : (address : ℕ → ℕ) (count i : ℕ) → i < count → slice_get (first_of address count) i ≡ Some (address i)
first_at address count i lt =
    slice_get-get_or (first_of address count) i 0 (let many = length-map-range_with_len address 0 count in omega (arith, many)) ∙ ap Some (get_or-map-range_with_len address 0 count i i 0 lt (omega arith))

-- the module of a member
pub member_wasm : (L : LinkedSet) (m : ℕ) (x : Member) → slice_get L.set.members m ≡ Some (member_of x) → wasm_of L m ≡ Some x.checked
member_wasm L m x e = ap (λ (o : Option sets.Member). o >>= λ y. Some y.wasm) e

-- a member that has this module
pub one_of : (L : LinkedSet) (m : ℕ) (wasm : Module) → wasm_of L m ≡ Some wasm → (x : sets.Member) × (slice_get L.set.members m ≡ Some x) × (x.wasm ≡ wasm)
one_of L m wasm is = go (slice_get L.set.members m) refl is
  where
    go : (o : Option sets.Member) → slice_get L.set.members m ≡ o → (o >>= λ y. Some y.wasm) ≡ Some wasm → (x : sets.Member) × (slice_get L.set.members m ≡ Some x) × (x.wasm ≡ wasm)
    go None e q = absurd cc
    go (Some y) e q = (y, e, cc)

-- the addresses are those of the set
module _ (L : LinkedSet) (a : KeptAddresses) (are : AreAddressesOf L a) where
  first_item : (start count : ℕ) → 0 < count → unwrap_or (item_address start count 0) 0 ≡ start
  first_item start zero lt = absurd (omega arith)
  first_item start (suc n) lt =
      ap (λ (b : Bool). unwrap_or (if b then Some (start + 0) else None) 0) (lt-ltb 0 (suc n) lt) ∙ plain start
    where
      plain : (n : ℕ) → n + 0 ≡ n
      plain n = omega arith

  pub first_elem_is : (m : ℕ) (wasm : Module) → wasm_of L m ≡ Some wasm → 0 < length wasm.elems → elem_place a m 0 ≡ sum_before (λ x. length x.elems) L.set.members m
  first_elem_is m wasm is some =
      ap (λ (o : Option ℕ). unwrap_or o 0) (are.elems m 0)
      ∙ ap (λ (o : Option Module). unwrap_or (o >>= λ w. item_address (sum_before (λ x. length x.elems) L.set.members m) (length w.elems) 0) 0) is
      ∙ first_item (sum_before (λ x. length x.elems) L.set.members m) (length wasm.elems) some

  pub first_data_is : (m : ℕ) (wasm : Module) → wasm_of L m ≡ Some wasm → 0 < length wasm.datas → data_place a m 0 ≡ sum_before (λ x. length x.datas) L.set.members m
  first_data_is m wasm is some =
      ap (λ (o : Option ℕ). unwrap_or o 0) (are.datas m 0)
      ∙ ap (λ (o : Option Module). unwrap_or (o >>= λ w. item_address (sum_before (λ x. length x.datas) L.set.members m) (length w.datas) 0) 0) is
      ∙ first_item (sum_before (λ x. length x.datas) L.set.members m) (length wasm.datas) some

-- what is kept of a member
pub unit_is : (L : LinkedSet) (a : KeptAddresses) → AreAddressesOf L a → (m : ℕ) (wasm : Module) → wasm_of L m ≡ Some wasm → (u : Unit) → u.checked.now ≡ wasm
    → u.imported ≡ imported_count wasm → HaveRooms wasm (length wasm.codes) u.rooms.items
    → u.globals.items ≡ first_of (global_place a m) (length (global_space wasm)) → u.tables.items ≡ first_of (table_place a m) (length (table_space wasm))
    → u.first_elem ≡ elem_place a m 0 → u.first_data ≡ data_place a m 0 → IsUnit L m u
unit_is L a are m wasm here u same imported rooms globals tables first second =
    let its : wasm_of L m ≡ Some u.checked.now = here ∙ ap Some (sym same) in
    record {
      member = its;
      imported = imported ∙ ap imported_count (sym same);
      rooms = subst (λ (w : Module). HaveRooms w (length w.codes) u.rooms.items) (sym same) rooms;
      globals = λ g address lt found.
          ap (λ (l : List ℕ). slice_get l g) globals ∙ first_at (global_place a m) (length (global_space wasm)) g (subst (λ (w : Module). g < length (global_space w)) same lt)
          ∙ ap (λ (o : Option ℕ). Some (unwrap_or o 0)) (are.globals m g ∙ found);
      tables = λ t address lt found.
          ap (λ (l : List ℕ). slice_get l t) tables ∙ first_at (table_place a m) (length (table_space wasm)) t (subst (λ (w : Module). t < length (table_space w)) same lt)
          ∙ ap (λ (o : Option ℕ). Some (unwrap_or o 0)) (are.tables m t ∙ found);
      first_elem = λ some. first ∙ first_elem_is L a are m u.checked.now its some;
      first_data = λ some. second ∙ first_data_is L a are m u.checked.now its some;
    }

-- one member more
pub have_more : (L : LinkedSet) (units more : List Unit) (u : Unit) (m : ℕ) → length units ≡ m → ((i : ℕ) (x : Unit) → slice_get units i ≡ Some x → IsUnit L i x) → IsUnit L m u → more ≡ units ++ u ∷ []
    → (i : ℕ) (x : Unit) → slice_get more i ≡ Some x → IsUnit L i x
have_more L units more u m count each is e i x found =
    let at : slice_get (units ++ u ∷ []) i ≡ Some x = ap (λ (us : List Unit). slice_get us i) (sym e) ∙ found in
    let within = slice_get_within (units ++ u ∷ []) i x at in
    let many = length-append units (u ∷ []) in
    elim (cases_lt i (length units)) [
      | inl before ↦ each i x (sym (slice_get-append-left units (u ∷ []) i before) ∙ at)
      | inr past ↦ last at (omega (arith, within, many, past))
    ]
  where
    last : slice_get (units ++ u ∷ []) i ≡ Some x → i ≡ length units → IsUnit L i x
    last at here =
        let same : u ≡ x = same_Some u x (sym (slice_get-append-last units u i here) ∙ at) in
        subst (λ (y : Unit). IsUnit L i y) same (subst (λ (n : ℕ). IsUnit L n u) (sym (here ∙ count)) is)
