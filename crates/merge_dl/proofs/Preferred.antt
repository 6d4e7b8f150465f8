-- The promoted members are searched: what is given is the number of the first that defines the name.
use Rattle.std.proofs.Common.{◌≡◌, ℕ, zero, suc, ◌+◌, ◌*◌, ◌%◌, ◌^◌, ◌<◌, ◌≤◌, Bool, true, false, cond, List, [], ◌∷◌, ◌++◌, length, nat_lt, slice_get, Option, Some, None, refl, sym, ap, ◌∙◌, subst, arith, mod-eq_of_lt, ⊎_elim}
use Rattle.std.specs.Prelude.{not}
use Rattle.std.specs.List.{All}
use Rattle.std.proofs.lemmas.Bool.Decides.{nat_tests}
use Rattle.std.proofs.lemmas.List.Elements.{All-nil, All-cons, All-head, All-tail}
use Rattle.wasm_form.specs.declared.instr.Instr.{Instr, Plain, Index}
use Rattle.wasm_form.specs.declared.module.Module.{Module}
use Rattle.wasm_form.specs.declared.runtime.Value.{Value}
use Rattle.wasm_form.specs.declared.runtime.Value.TheVariants.{Num}
use Rattle.spec_loading.specs.spec_runtime.Numerics.{W32, W64, isub}
use Rattle.spec_loading.specs.spec_execution.Values.{low}
use Rattle.spec_loading.specs.spec_execution.Activations.{one_if}
use Rattle.spec_loading.specs.spec_linking.Orders.{is_among}
use Rattle.spec_loading.specs.spec_linking.LinkedSets.{LinkedSet}
use Rattle.spec_loading.specs.spec_linking.Slots.{cell_number}
use Rattle.spec_loading.specs.spec_linking.Links.{Links}
use Rattle.spec_loading.specs.declared.answers.Finding.TheVariants as finding
use Rattle.spec_loading.specs.LoaderAnswers.{no_symbol_error, found_number, string_at}
use Rattle.spec_loading.specs.SetCosts.{search_cost, exports_count, tries_cost}
use Rattle.merge_match.specs.Bounded.{IsBounded}
use Rattle.merge_start.specs.Words.{Starts, place_global}
use Rattle.merge_pieces.specs.Running.{there}
use Rattle.merge_start.specs.Running.{Changing}
use Rattle.merge_start.specs.Started.{AreLater, place_of}
use Rattle.merge_start.proofs.Reaching.{does_number, does_global, does_less}
use Rattle.merge_start.proofs.Promoted.{place_none, place_some, found_among}
use Rattle.merge_dl.specs.Words.{Finders, return_code, fault_code, found_value, before_code, keep_code, ask_code, prefer_code, prefers_code, preferred_code, candidates, last_place, promoted_code}
use Rattle.merge_dl.specs.Called.{defined_number, search_value, SearchesMember}
use Rattle.merge_dl.proofs.Operators.{does_sub, does_wrap}
use Rattle.merge_dl.proofs.Sites.{Passes, Gives, Runs, runs_then, runs_ends, runs_does, runs_get, runs_set, runs_when, runs_when_on, runs_over, runs_return, runs_more}
use Rattle.merge_dl.proofs.Defined.{definition_numbered}
use Rattle.merge_dl.proofs.Tries.{runs_fault, finding_outcome, search_locals, asked, sought, each_steps, each_total, found_wide, found_low, asks, tests}
use Rattle.merge_dl.proofs.Candidates.{candidates_inside, among, candidates_few, candidates_among}
use Rattle.merge_dl.proofs.Firsts.{IsLow, IsBest, nothing, best, none_found, best_is_first, kept_in_range}

-- the globals of the places hold those of these members
pub record PlacesHeld (L : LinkedSet) (x : Starts) (promoted : List ℕ) (c : Changing) : Type 0 where
  pub few : length promoted ≤ 256
  pub later : AreLater L promoted
  pub places : (k : ℕ) → k < length L.set.members → slice_get c.units.globals (place_global x k) ≡ Some (Num (place_of promoted k))

-- how many steps the search of the promoted members makes at most
abbrev pub promoted_steps : LinkedSet → List ℕ → List ℕ → ℕ
promoted_steps L promoted s = 12 + 7 * length L.set.members + tries_cost L (length s) promoted

-- a place counted from 0, and the last place of all for a member that has none
abbrev before : ℕ → ℕ
before zero = last_place
before (suc j) = j

less_one : (a : ℕ) → a ≤ 256 → isub 32 (low W32 a) (low W32 1) ≡ before a
less_one zero le = refl
less_one (suc j) le = (let whole : low W32 (suc j) ≡ suc j = mod-eq_of_lt (omega arith) in rw whole (omega arith))

module _ (merged : Module) (x : Starts) (c : Changing) (bounded : IsBounded c.memory) (h p : ℕ) (s : List ℕ)
    (known : string_at c.memory (low W32 p) ≡ Some s) (L : LinkedSet) (links : Links L) (d : Finders)
    (finds : (m : ℕ) → m < length L.set.members → SearchesMember 8 L m merged (d.find m)) (ps : List ℕ) (held : PlacesHeld L x ps c) where
  abbrev ls : ℕ → ℕ → ℕ → List Value
  ls v w b = search_locals h p s v w b

  abbrev IsInside : ℕ → Type 0
  IsInside k = k < length L.set.members

  abbrev number : ℕ → Option ℕ
  number k = defined_number L k s

  number_small : (k u : ℕ) → number k ≡ Some u → u < 2 ^ 32
  number_small k u some =
      ⊎_elim (λ none. absurd (let h = ap (cell_number L s) none in cc))
      (λ t. (let same : t.0 ≡ u = (let h = t.1 in cc) in subst (λ y. y < 2 ^ 32) same t.2)) (definition_numbered L links k s)

  -- ---- places

  place_few : (k : ℕ) → place_of ps k ≤ 256
  place_few k = go (is_among k ps) refl
    where
      few : length ps ≤ 256
      few = held.few

      go : (z : Bool) → is_among k ps ≡ z → place_of ps k ≤ 256
      go true q = (let some = place_some k ps q in let is = some.1 in let less = some.2 in omega (arith, is, less, few))
      go false q = (let is = place_none k ps q in omega (arith, is))

  -- the place of a member, counted from 0
  places : (k : ℕ) → IsInside k → (l vs : List Value) → Runs merged x 1 3 (before_code x k) c l vs (Passes c l (Num (before (place_of ps k)) ∷ vs))
  places k inside l vs =
      let a = place_of ps k in
      let o = Passes c l (Num (isub 32 (low W32 a) (low W32 1)) ∷ vs) in
      subst (λ i. Runs merged x 1 3 (before_code x k) c l vs (Passes c l (Num i ∷ vs))) (less_one a (place_few k))
      (runs_then o (runs_does l (does_global (place_global x k) (Num a) vs (held.places k inside)))
      (runs_then o (runs_does l (does_number 1 (Num a ∷ vs) (omega arith))) (runs_does l (does_sub a 1 vs))))

  before_word : (a : ℕ) → a ≤ 256 → before a < 2 ^ 32
  before_word zero le = omega arith
  before_word (suc j) le = omega arith

  -- whether it is before the place in local 5
  abbrev less_code : ℕ → List Instr
  less_code k = before_code x k ++ (Index 0x20 5 ∷ Plain 0x49 ∷ [])

  compares : (k v w b : ℕ) (z : Bool) → IsInside k → b < 2 ^ 32 → nat_lt (before (place_of ps k)) b ≡ z
      → Runs merged x 1 5 (less_code k) c (ls v w b) [] (Passes c (ls v w b) (Num (one_if z) ∷ []))
  compares k v w b z inside word q =
      let a = before (place_of ps k) in
      let small : low W32 a ≡ a = mod-eq_of_lt (before_word (place_of ps k) (place_few k)) in
      let whole : low W32 b ≡ b = mod-eq_of_lt word in
      let same : one_if (nat_lt (low W32 a) (low W32 b)) ≡ one_if z = rw (small, whole, q) refl in
      let o = Passes c (ls v w b) (Num (one_if (nat_lt (low W32 a) (low W32 b))) ∷ []) in
      subst (λ i. Runs merged x 1 5 (less_code k) c (ls v w b) [] (Passes c (ls v w b) (Num i ∷ []))) same
      (runs_then o (places k inside (ls v w b) []) (runs_then o (runs_get 5 (Num b) (Num a ∷ []) refl) (runs_does (ls v w b) (does_less a b []))))

  -- ---- one member

  abbrev value : ℕ → ℕ
  value k = search_value (number k)

  abbrev tests_code : ℕ → List Instr
  tests_code k = Index 0x20 1 ∷ Index 0x20 2 ∷ Index 0x10 (d.find k) ∷ Index 0x22 3 ∷ Plain 0x50 ∷ Plain 0x45 ∷ []

  -- it is asked, and gives this
  tested : (k v w b i : ℕ) → IsInside k → value k ≡ i → Runs merged x 1 (9 + search_cost 8 (exports_count L k) (length s)) (tests_code k) c (ls v w b) [] (Passes c (ls i w b) (Num (asked i) ∷ []))
  tested k v w b i inside is =
      let u = value k in
      subst (λ y. Runs merged x 1 (9 + search_cost 8 (exports_count L k) (length s)) (tests_code k) c (ls v w b) [] (Passes c (ls y w b) (Num (asked y) ∷ []))) is
      (runs_more (omega arith) (runs_then (Passes c (ls u w b) (Num (asked u) ∷ [])) (asks merged x c bounded h p s known L links d finds w b k v inside)
      (tests merged x c bounded h p s known L links d finds w b (ls u w b) u)))

  asks_none : (k v w b : ℕ) → IsInside k → number k ≡ None → Runs merged x 1 (each_steps L s k) (ask_code x d k) c (ls v w b) [] (Passes c (ls 0 w b) [])
  asks_none k v w b inside none =
      runs_more (omega arith) (runs_then (Passes c (ls 0 w b) []) (tested k v w b 0 inside (ap search_value none)) (runs_over (keep_code x k) (asked 0) refl))

  keeps : (k v w b : ℕ) → IsInside k → Runs merged x 1 6 (keep_code x k) c (ls v w b) [] (Passes c (ls v v (before (place_of ps k))) [])
  keeps k v w b inside =
      let a = before (place_of ps k) in
      let o = Passes c (ls v v a) [] in
      runs_then o (places k inside (ls v w b) []) (runs_then o (runs_set 5 (Num a) (Num b) [] refl)
      (runs_then o (runs_get 3 (Num v) [] refl) (runs_set 4 (Num v) (Num w) [] refl)))

  asks_some : (k v w b u : ℕ) → IsInside k → number k ≡ Some u
      → Runs merged x 1 (each_steps L s k) (ask_code x d k) c (ls v w b) [] (Passes c (ls (found_value u) (found_value u) (before (place_of ps k))) [])
  asks_some k v w b u inside some =
      let f = found_value u in
      let yes : low W32 (asked f) ≡ 1 = rw (found_wide u (number_small k u some)) refl in
      runs_more (omega arith) (runs_then (Passes c (ls f f (before (place_of ps k))) []) (tested k v w b f inside (ap search_value some))
      (runs_when_on (asked f) 0 yes (keeps k f w b inside)))

  -- it isn't before the best so far
  skips : (k v w b : ℕ) → IsInside k → b < 2 ^ 32 → nat_lt (before (place_of ps k)) b ≡ false
      → Runs merged x 1 7 (prefer_code x d k) c (ls v w b) [] (Passes c (ls v w b) [])
  skips k v w b inside word q = runs_then (Passes c (ls v w b) []) (compares k v w b false inside word q) (runs_over (ask_code x d k) 0 refl)

  prefers : (k v w b v' w' b' : ℕ) → IsInside k → b < 2 ^ 32 → nat_lt (before (place_of ps k)) b ≡ true
      → Runs merged x 1 (each_steps L s k) (ask_code x d k) c (ls v w b) [] (Passes c (ls v' w' b') [])
      → Runs merged x 1 (7 + each_steps L s k) (prefer_code x d k) c (ls v w b) [] (Passes c (ls v' w' b') [])
  prefers k v w b v' w' b' inside word q r =
      runs_more (omega arith) (runs_then (Passes c (ls v' w' b') []) (compares k v w b true inside word q) (runs_when_on 1 0 refl r))

  -- ---- what is known after it

  abbrev Low : ℕ → ℕ → Type 0
  Low b k = IsLow L links s ps b k

  abbrev Best : ℕ → ℕ → Type 0
  Best b w = IsBest L links s ps b w

  best_word : (b w : ℕ) → Best b w → b ≤ last_place
  best_word b w (nothing is none) = omega (arith, is)
  best_word b w (best k u at tells is) = (let few = place_few k in omega (arith, few, at))

  -- In at most so many steps some code leads on to the best of what it goes through, which is no worse than before.
  abbrev Preferred : ℕ → List Instr → ℕ → ℕ → ℕ → (ℕ → Type 0) → Type 0
  Preferred n code v w b After =
      (v' : ℕ) × (w' : ℕ) × (b' : ℕ) × Runs merged x 1 n code c (ls v w b) [] (Passes c (ls v' w' b') []) × Best b' w' × (b' ≤ b) × After b'

  -- a promoted member is searched, and no other
  abbrev prefer_steps : ℕ → ℕ
  prefer_steps k = 7 + cond (is_among k ps) (each_steps L s k) 0

  searched_steps : (k i : ℕ) → place_of ps k ≡ suc i → 7 + each_steps L s k ≤ prefer_steps k
  searched_steps k i at = go (is_among k ps) refl
    where
      go : (z : Bool) → is_among k ps ≡ z → 7 + each_steps L s k ≤ 7 + cond z (each_steps L s k) 0
      go true q = omega arith
      go false q = absurd (let none : zero ≡ suc i = sym (place_none k ps q) ∙ at in cc)

  one : (k : ℕ) → IsInside k → (v w b : ℕ) → Best b w → Preferred (prefer_steps k) (prefer_code x d k) v w b (λ b'. Low b' k)
  one k inside v w b is = go (place_of ps k) refl (nat_lt (before (place_of ps k)) b) refl
    where
      word : b < 2 ^ 32
      word = (let le = best_word b w is in omega (arith, le))

      low_now : (a : ℕ) → place_of ps k ≡ a → b ≤ before a → (j : ℕ) → place_of ps k ≡ suc j → b ≤ j
      low_now zero e le j at = absurd (let no : zero ≡ suc j = sym e ∙ at in cc)
      low_now (suc i) e le j at = (let same : suc i ≡ suc j = sym e ∙ at in omega (arith, le, same))

      go : (a : ℕ) → place_of ps k ≡ a → (z : Bool) → nat_lt (before (place_of ps k)) b ≡ z → Preferred (prefer_steps k) (prefer_code x d k) v w b (λ b'. Low b' k)
      go a e false q =
          let le : b ≤ before a = (let less : nat_lt (before a) b ≡ false = ap (λ i. nat_lt (before i) b) (sym e) ∙ q in grind (arith, nat_tests)) in
          (v, w, b, runs_more (omega arith) (skips k v w b inside word q), is, omega arith, λ j u at tells. low_now a e le j at)
      go zero e true q =
          let no : nat_lt last_place b ≡ true = ap (λ i. nat_lt (before i) b) (sym e) ∙ q in
          let le = best_word b w is in
          absurd (let less : last_place < b = grind (arith, nat_tests) in omega (arith, less, le))
      go (suc i) e true q = by (number k) refl
        where
          less : i < b
          less = (let h : nat_lt i b ≡ true = ap (λ y. nat_lt (before y) b) (sym e) ∙ q in grind (arith, nat_tests))

          by : (o : Option ℕ) → number k ≡ o → Preferred (prefer_steps k) (prefer_code x d k) v w b (λ b'. Low b' k)
          by None none = (
            0,
            w,
            b,
            runs_more (searched_steps k i e) (prefers k v w b 0 w b inside word q (asks_none k v w b inside none)),
            is,
            omega arith,
            λ j u at tells. absurd (let no : None ≡ Some u = sym none ∙ tells in cc),
          )
          by (Some u) some =
              let f = found_value u in
              let here : before (place_of ps k) ≡ i = ap before e in
              let asked_it = subst (λ y. Runs merged x 1 (each_steps L s k) (ask_code x d k) c (ls v w b) [] (Passes c (ls f f y) [])) here (asks_some k v w b u inside some) in (
                f,
                f,
                i,
                runs_more (searched_steps k i e) (prefers k v w b f f i inside word q asked_it),
                best k u e some refl,
                omega (arith, less),
                λ j y at tells. (let same : suc i ≡ suc j = sym e ∙ at in omega (arith, same)),
              )

  each : (ks : List ℕ) → All IsInside ks → (v w b : ℕ) → Best b w → Preferred (7 * length ks + among (each_steps L s) ps ks) (prefers_code x d ks) v w b (λ b'. All (Low b') ks)
  each [] all v w b is = (v, w, b, record { runs = λ y. there }, is, omega arith, All-nil (Low b))
  each (k ∷ ks) all v w b is =
      let first = one k (All-head IsInside k ks all) v w b is in
      let rest = each ks (All-tail IsInside k ks all) first.0 first.1 first.2 first.4 in
      let less = first.5 in
      let less_again = rest.5 in
      let low_before : Low rest.2 k = λ j u at tells. (let le = first.6 j u at tells in omega (arith, le, less_again)) in (
        rest.0,
        rest.1,
        rest.2,
        runs_more (omega arith) (runs_then (Passes c (ls rest.0 rest.1 rest.2) []) first.3 rest.3),
        rest.4,
        omega (arith, less, less_again),
        All-cons (Low rest.2) k ks low_before rest.6,
      )

  -- ---- the whole

  -- each promoted member is a candidate
  covers : (b : ℕ) → All (Low b) (candidates L.set) → (q : ℕ) → is_among q ps ≡ true → Low b q
  covers b lows q hit =
      let of = found_among (λ k. (k < length L.set.members) × (is_among k L.set.startup ≡ false)) ps q held.later hit in
      kept_in_range (Low b) (λ k. not (is_among k L.set.startup)) 0 (length L.set.members) lows q (omega arith) (omega (arith, of.0)) (rw of.1 refl)

  abbrev gets : List Instr
  gets = Index 0x20 4 ∷ Plain 0xA7 ∷ return_code

  module _ (old : Value) (error : slice_get c.units.globals d.error ≡ Some old) where
    reads : (v w b : ℕ) → Runs merged x 1 3 (Index 0x20 4 ∷ Plain 0x50 ∷ Plain 0x45 ∷ []) c (ls v w b) [] (Passes c (ls v w b) (Num (asked w) ∷ []))
    reads v w b =
        runs_then (Passes c (ls v w b) (Num (asked w) ∷ [])) (runs_get 4 (Num w) [] refl)
        (tests merged x c bounded h p s known L links d finds w b (ls v w b) w)

    wraps : (v w b u : ℕ) → w ≡ found_value u → u < 2 ^ 32 → Runs merged x 1 1 (Plain 0xA7 ∷ []) c (ls v w b) (Num w ∷ []) (Passes c (ls v w b) (Num u ∷ []))
    wraps v w b u is small =
        subst (λ j. Runs merged x 1 1 (Plain 0xA7 ∷ []) c (ls v w b) (Num w ∷ []) (Passes c (ls v w b) (Num j ∷ [])))
        (ap (λ i. low W64 i % 2 ^ 32) is ∙ found_low u small) (runs_does (ls v w b) (does_wrap w []))

    ends : (v w b : ℕ) → Best b w → ((q : ℕ) → is_among q ps ≡ true → Low b q)
        → Runs merged x 1 10 (preferred_code d) c (ls v w b) [] (finding_outcome c d (sought L s ps))
    ends v w b (nothing is none) lows =
        let no_number : (q : ℕ) → is_among q ps ≡ true → number q ≡ None = λ q hit. without q hit (number q) refl in
        let same : sought L s ps ≡ finding.Refused no_symbol_error = ap found_number (none_found L links s ps no_number) in
        let o = finding_outcome c d (finding.Refused no_symbol_error) in
        subst (λ f. Runs merged x 1 10 (preferred_code d) c (ls v w b) [] (finding_outcome c d f)) (sym same)
        (runs_then o (reads v w b) (runs_then o (runs_over gets (asked w) (rw none refl))
        (runs_fault (ls v w b) d no_symbol_error 0 old (omega arith) (omega arith) error)))
      where
        without : (q : ℕ) → is_among q ps ≡ true → (o : Option ℕ) → number q ≡ o → number q ≡ None
        without q hit None e = e
        without q hit (Some u) e =
            let place = place_some q ps hit in
            let le = lows q hit place.0 u place.1 e in
            let less = place.2 in
            let few = held.few in
            absurd (omega (arith, le, less, few, is))
    ends v w b (best k u at tells is) lows =
        let small = number_small k u tells in
        let same : sought L s ps ≡ finding.Address u = ap found_number (best_is_first L links s ps b k u at tells lows) in
        let o = Gives c (Num u) in
        let yes : low W32 (asked w) ≡ 1 = rw (is, found_wide u small) refl in
        let gets_it : Runs merged x 1 4 gets c (ls v w b) [] o =
        runs_then o (runs_get 4 (Num w) [] refl) (runs_then o (wraps v w b u is small) (runs_return (Num u))) in
        subst (λ y. Runs merged x 1 10 (preferred_code d) c (ls v w b) [] (finding_outcome c d y)) (sym same)
        (runs_more (omega arith) (runs_then o (reads v w b) (runs_ends (fault_code d no_symbol_error 0) o tt (runs_when (asked w) 0 o yes tt gets_it))))

    -- whatever local 5 was
    pub runs_promoted : (v b : ℕ) → Runs merged x 1 (promoted_steps L ps s) (promoted_code L x d) c (ls v 0 b) [] (finding_outcome c d (sought L s ps))
    runs_promoted v b =
        let o = finding_outcome c d (sought L s ps) in
        let all = each (candidates L.set) (candidates_inside L.set) v 0 last_place (nothing refl refl) in
        let few = candidates_few L.set in
        let searched_few = candidates_among L.set (each_steps L s) ps in
        let searched = each_total L s ps in
        runs_more (omega (arith, few, searched_few, searched)) (runs_then o (runs_does (ls v 0 b) (does_number last_place [] (omega arith))) (runs_then o (runs_set 5 (Num last_place) (Num b) [] refl)
        (runs_then o all.3 (ends all.0 all.1 all.2 all.4 (covers all.2 all.6)))))
