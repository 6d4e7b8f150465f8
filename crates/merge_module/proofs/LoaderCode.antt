-- The code of the functions of the loader, and of what they call, can be written, and is supported and short.
use Rattle.std.proofs.Common.{◌≤◌, ◌<◌, ℕ, suc, ◌+◌, ◌*◌, Bool, true, false, List, [], ◌∷◌, ◌++◌, length, Option, Some, None, refl, arith, if◌then◌else◌, slice_get, ◌≡◌, ◌^◌}
use Rattle.std.specs.List.{filter_map, cons_option, filter, range_with_len, All}
use Rattle.std.proofs.lemmas.List.{length-drop}
use Rattle.spec_reading.specs.wasm_form.declared.instr.Instr.{Instr}
use Rattle.spec_reading.specs.wasm_form.declared.module.Export.{Export}
use Rattle.spec_reading.specs.wasm_form.declared.module.Module.{Module}
use Rattle.spec_reading.specs.wasm_form.declared.runtime.LoaderCall.{LoaderCall}
use Rattle.spec_reading.specs.wasm_form.declared.runtime.LoaderCall.TheVariants.{Dlopen, Dlsym, Dlclose, Dlerror}
use Rattle.spec_reading.specs.spec_binary.Options.{◌>>=◌}
use Rattle.spec_loading.specs.spec_linking.Sets.{Member}
use Rattle.spec_loading.specs.spec_linking.Gathering.{IsSet, IsMember}
use Rattle.spec_loading.specs.spec_linking.Orders.{closure, is_among}
use Rattle.spec_loading.specs.spec_linking.Definitions.{member_definition}
use Rattle.spec_loading.specs.spec_linking.LinkedSets.{LinkedSet}
use Rattle.spec_loading.specs.spec_linking.Slots.{cell_number}
use Rattle.spec_loading.specs.LoaderAnswers.{bad_flags_error, no_module_error, bad_handle_error, no_symbol_error, bad_close_error, other_flags, not_closed, global_flag, later_members}
use Rattle.wasm_encode.specs.Weight.{sum_of, export_weight}
use Rattle.merge_start.specs.Words.{Starts, place_global, promote_each}
use Rattle.merge_dl.specs.Words.{Finders, is_local, give_code, fault_code, length_code, name_number, name_numbers, opens_code, members_code, open_call_code, handle_code, handles_code, libraries, symbol_call_code, closes_code, close_call_code, text_code, error_call_code, length_body, find_body, call_body, tries_then, before_code, prefers_code, candidates, last_place, preferred_code, promoted_code, named_members, open_goal}
use Rattle.merge_module.specs.Laws.{names_bulk}
use Rattle.merge_module.proofs.Orders.{closure_few, startup_few}
use Rattle.std.specs.Prelude.{not}
use Rattle.std.proofs.lemmas.List.Sums.{length-filter, count_by-le-length}
use Rattle.std.proofs.lemmas.List.FromFn.{length-range_with_len}
use Rattle.merge_find.specs.Decisions.{Named, Goal, search_code, may_be_string, strings}
use Rattle.merge_find.specs.Finding.{number_goal, number_code, numbered}
use Rattle.merge_find.specs.Shape.{IsAsking, IsMade, names_cost, SearchIsSmall}
use Rattle.merge_find.specs.Shape as made
use Rattle.std.proofs.lemmas.List.Elements.{All-nil, All-cons, All-head, All-tail}
use Rattle.spec_reading.proofs.of_spec_binary.Lists.{holds_at}
use Rattle.merge_index.proofs.FewItems.{member_few}
use Rattle.merge_index.proofs.Counted.{few_bytes}
use Rattle.dyl_addresses.proofs.Ends.{size_within}
use Rattle.merge_module.proofs.Pieces.{branch_step, branch_if_step, call_step, get_step, set_step, tee_step, get_global_step, set_global_step, load_byte_step, return_step, operator_step, number_step, wide_step, IsStep, IsPiece, nothing, within, step, then_piece, in_block, in_loop, in_if, IsBody, body_by, body_with}

-- ---- pieces

give_piece : (k : ℕ) → IsPiece 0 2 (give_code k)
give_piece k = step (number_step k) (step return_step (nothing 0))

fault_piece : (d : Finders) (e answer : ℕ) → IsPiece 0 4 (fault_code d e answer)
fault_piece d e answer = step (number_step e) (step (set_global_step d.error) (give_piece answer))

-- whether a local is a number, and what is done then
asked : {deep more : ℕ} {rest : List Instr} (x k : ℕ) → IsPiece deep more rest → IsPiece deep (suc (suc (suc more))) (is_local x k ++ rest)
asked x k p = step (get_step x) (step (number_step k) (step (operator_step 0x46 refl (λ wasm j. refl)) p))

length_piece : IsPiece 2 14 length_code
unfolding length_code
length_piece =
    let back = step (get_step 1) (step (number_step 1) (step (operator_step 0x6A refl (λ wasm k. refl)) (step (set_step 1) (step (branch_step 1) (nothing 0))))) in
    let turn = step (get_step 1) (step (load_byte_step 0) (in_if back (nothing 1))) in
    step (get_step 0) (step (set_step 1) (in_loop turn (step (get_step 1) (step (get_step 0) (step (operator_step 0x6B refl (λ wasm k. refl)) (nothing 2))))))

-- ---- the code of a search

-- no more pass a test than there are
filter_few : {X : Type 0} (p : X → Bool) (xs : List X) → length (filter p xs) ≤ length xs
filter_few p xs = (let few = count_by-le-length p xs in omega (arith, length-filter p xs))

asking_step : {i : Instr} → IsAsking i → IsStep i
asking_step (made.gets k) = get_step k
asking_step (made.loads i) = load_byte_step i
asking_step (made.numbers k) = number_step k
asking_step made.tests_below = operator_step 0x49 refl (λ wasm j. refl)
asking_step made.tests_least = operator_step 0x4F refl (λ wasm j. refl)
asking_step made.tests_other = operator_step 0x47 refl (λ wasm j. refl)
asking_step (made.leaves deep) = branch_if_step deep

module _ (g : Goal) (xs : List Named) (inside found missed : ℕ)
    (each : (k : ℕ) (x : Named) → slice_get xs k ≡ Some x → IsPiece inside found x.1) (none : IsPiece 0 missed g.missed) where
  made_piece : {deep size : ℕ} {is : List Instr} → IsMade g xs inside found missed deep size is → IsPiece deep size is
  made_piece (made.nothing {deep}) = nothing deep
  made_piece (made.asks {deep} i) = step (asking_step i) (nothing deep)
  made_piece (made.finds {x} k there) = each k x there
  made_piece made.misses = none
  made_piece (made.both p q) = then_piece (made_piece p) (made_piece q)
  made_piece (made.in_block {deep} {size} p) = within (suc deep) (suc size) (in_block (made_piece p) (nothing (suc deep))) (omega arith) (omega arith)
  made_piece (made.in_when {deep} {size} p) = within (suc deep) (suc size) (in_if (made_piece p) (nothing (suc deep))) (omega arith) (omega arith)
  made_piece (made.within {more_deep = more_deep} {more = more} low few p) = within more_deep more (made_piece p) low few

-- what is so of all names is so of those that may be a string
strings_all : (P : Named → Type 0) (xs : List Named) → All P xs → All P (strings xs)
strings_all P [] all = All-nil P
strings_all P (x ∷ xs) all = go (may_be_string x.0) (strings_all P xs (All-tail P x xs all))
  where
    go : (b : Bool) → All P (strings xs) → All P (if b then x ∷ strings xs else strings xs)
    go true later = All-cons P x (strings xs) (All-head P x xs all) later
    go false later = later

strings_cost : (each : ℕ) (xs : List Named) → names_cost each (strings xs) ≤ names_cost each xs
strings_cost each [] = omega arith
strings_cost each (x ∷ xs) = go (may_be_string x.0) (strings_cost each xs)
  where
    go : (b : Bool) → names_cost each (strings xs) ≤ names_cost each xs → names_cost each (if b then x ∷ strings xs else strings xs) ≤ names_cost each (x ∷ xs)
    go true later = omega arith
    go false later = omega arith

strings_few : (xs : List Named) → length (strings xs) ≤ length xs
strings_few [] = omega arith
strings_few (x ∷ xs) = go (may_be_string x.0) (strings_few xs)
  where
    go : (b : Bool) → length (strings xs) ≤ length xs → length (if b then x ∷ strings xs else strings xs) ≤ length (x ∷ xs)
    go true later = omega arith
    go false later = omega arith

-- among at most 2^n names, where each has such code
search_piece : SearchIsSmall → (g : Goal) (inside found missed n : ℕ) (xs : List Named) → length xs ≤ 2 ^ n → All (λ x. IsPiece inside found x.1) xs
    → IsPiece 0 missed g.missed → IsPiece (n + 1 + inside) (missed + names_cost (found + 2 * missed + 10) xs) (search_code g (strings xs))
search_piece small g inside found missed n xs few all none =
    let fewer = strings_few xs in
    let less = strings_cost (found + 2 * missed + 10) xs in
    let P : Named → Type 0 = λ x. IsPiece inside found x.1 in
    within (n + 1 + inside) (missed + names_cost (found + 2 * missed + 10) xs)
    (made_piece g (strings xs) inside found missed (λ k x there. holds_at P (strings xs) k x (strings_all P xs all) there) none
    (small g inside found missed n (strings xs) (omega arith)))
    (omega arith) (omega arith)

-- ---- the search of a member

numbers_all : (xs : List (List ℕ × ℕ)) → All (λ (x : Named). IsPiece 0 2 x.1) (numbered xs)
numbers_all [] = All-nil (λ (x : Named). IsPiece 0 2 x.1)
numbers_all (x ∷ xs) =
    All-cons (λ (y : Named). IsPiece 0 2 y.1) (x.0, number_code x.1) (numbered xs) (step (wide_step (2 ^ 32 + x.1)) (step return_step (nothing 0))) (numbers_all xs)

-- no more than for all exports
names_few : (L : LinkedSet) (m : ℕ) (es : List Export) → names_cost 16 (numbered (filter_map (name_number L m) es)) ≤ 7 * sum_of export_weight es
names_few L m [] = omega arith
names_few L m (e ∷ es) = go (cell_number L e.name (member_definition L.set m e.name)) (names_few L m es)
  where
    go : (o : Option ℕ) → names_cost 16 (numbered (filter_map (name_number L m) es)) ≤ 7 * sum_of export_weight es
        → names_cost 16 (numbered (cons_option (o >>= λ k. Some (e.name, k)) (filter_map (name_number L m) es))) ≤ 7 * sum_of export_weight (e ∷ es)
    go None later = omega arith
    go (Some k) later = omega arith

names_many : (L : LinkedSet) (m : ℕ) (es : List Export) → length (numbered (filter_map (name_number L m) es)) ≤ length es
names_many L m [] = omega arith
names_many L m (e ∷ es) = go (cell_number L e.name (member_definition L.set m e.name)) (names_many L m es)
  where
    go : (o : Option ℕ) → length (numbered (filter_map (name_number L m) es)) ≤ length es
        → length (numbered (cons_option (o >>= λ k. Some (e.name, k)) (filter_map (name_number L m) es))) ≤ length (e ∷ es)
    go None later = omega arith
    go (Some k) later = omega arith

-- a member has few exports, as its file has few bytes
pub exports_few : (L : LinkedSet) → IsSet L.set → (m : ℕ) (y : Member) → slice_get L.set.members m ≡ Some y → length y.wasm.exports ≤ 2 ^ 24
exports_few L set m y at =
    let is = member_few y (holds_at IsMember L.set.members m y set.members at) in
    let all = is.all in
    let within = size_within L.set.members m y at in
    let bytes = few_bytes L set in
    omega arith

pub find_written : SearchIsSmall → (L : LinkedSet) (m : ℕ) (wasm : Module) → length wasm.exports ≤ 2 ^ 24
    → IsBody (7 + 7 * sum_of export_weight wasm.exports) (find_body L m wasm)
find_written small L m wasm few =
    let names = name_numbers L m wasm in
    let many = names_many L m wasm.exports in
    let cost = names_few L m wasm.exports in
    let none = step (wide_step 0) (step return_step (nothing 0)) in
    let is = body_by 25 (2 + names_cost 16 (numbered names)) (find_body L m wasm) (search_piece small number_goal 0 2 2 24 (numbered names) (omega arith) (numbers_all names) none)
    (omega arith) (omega arith) (omega arith) refl in
    let light = is.light in
    record { formed = is.formed; supported = is.supported; light = omega arith }

pub length_written : IsBody 19 length_body
length_written = body_by 2 14 length_body length_piece (omega arith) (omega arith) (omega arith) refl

-- ---- promoted members

promotes_piece : (x : Starts) (ks : List ℕ) → IsPiece 1 (9 * length ks) (promote_each x ks)
promotes_piece x [] = nothing 1
promotes_piece x (k ∷ ks) =
    let place = step (get_global_step x.promoted) (step (set_global_step (place_global x k)) (nothing 0)) in
    let next = step (get_global_step x.promoted) (step (number_step 1) (step (operator_step 0x6A refl (λ wasm j. refl)) (step (set_global_step x.promoted) place))) in
    within 1 (9 * length (k ∷ ks)) (step (get_global_step (place_global x k)) (step (operator_step 0x45 refl (λ wasm j. refl)) (in_if next (promotes_piece x ks)))) (omega arith) (omega arith)

-- the place of a member, from 0
before_piece : {deep more : ℕ} {rest : List Instr} (x : Starts) (k : ℕ) → IsPiece deep more rest → IsPiece deep (suc (suc (suc more))) (before_code x k ++ rest)
before_piece x k p = step (get_global_step (place_global x k)) (step (number_step 1) (step (operator_step 0x6B refl (λ wasm j. refl)) p))

prefers_piece : (x : Starts) (d : Finders) (ks : List ℕ) → IsPiece 2 (19 * length ks) (prefers_code x d ks)
prefers_piece x d [] = nothing 2
prefers_piece x d (k ∷ ks) =
    let kept = before_piece x k (step (set_step 5) (step (get_step 3) (step (set_step 4) (nothing 0)))) in
    let found = step (operator_step 0x50 refl (λ wasm j. refl)) (step (operator_step 0x45 refl (λ wasm j. refl)) (in_if kept (nothing 1))) in
    let asked = step (get_step 1) (step (get_step 2) (step (call_step (d.find k)) (step (tee_step 3) found))) in
    let first = before_piece x k (step (get_step 5) (step (operator_step 0x49 refl (λ wasm j. refl)) (in_if asked (nothing 2)))) in
    within 2 (19 * length (k ∷ ks)) (then_piece first (prefers_piece x d ks)) (omega arith) (omega arith)

promoted_piece : (L : LinkedSet) (x : Starts) (d : Finders) → IsPiece 2 (19 * length L.set.members + 14) (promoted_code L x d)
promoted_piece L x d =
    let few = filter_few (λ k. not (is_among k L.set.startup)) (range_with_len 0 (length L.set.members)) in
    let all = length-range_with_len 0 (length L.set.members) in
    let given = step (get_step 4) (step (operator_step 0xA7 refl (λ wasm j. refl)) (step return_step (nothing 0))) in
    let last : IsPiece 2 11 (preferred_code d) =
    within 2 11 (step (get_step 4) (step (operator_step 0x50 refl (λ wasm j. refl)) (step (operator_step 0x45 refl (λ wasm j. refl)) (in_if given
    (within 1 4 (fault_piece d no_symbol_error 0) (omega arith) (omega arith)))))) (omega arith) (omega arith) in
    within 2 (19 * length L.set.members + 14) (step (number_step last_place) (step (set_step 5) (then_piece (prefers_piece x d (candidates L.set)) last))) (omega arith) (omega arith)

-- ---- the functions of the loader

-- the later members of the closure of each member are few
abbrev ClosuresAreFew : LinkedSet → ℕ → List Member → Type 0
ClosuresAreFew L m ms = (j : ℕ) → m ≤ j → j < m + length ms → length (later_members L.set j) ≤ 256

-- each member's name, and what opens it
members_all : (L : LinkedSet) (x : Starts) (m : ℕ) (ms : List Member) → ClosuresAreFew L m ms → All (λ (y : Named). IsPiece 2 2312 y.1) (named_members L x m ms)
members_all L x m [] few = All-nil (λ (y : Named). IsPiece 2 2312 y.1)
members_all L x m (y ∷ ys) few =
    let later = few m (omega arith) (omega arith) in
    let handed = step (call_step (x.opening m)) (step return_step (nothing 2)) in
    let promoted = within 1 (9 * 256 + 2) (step (call_step (x.opening m)) (then_piece (promotes_piece x (later_members L.set m)) (step return_step (nothing 1)))) (omega arith) (omega arith) in
    let opens = step (get_step 1) (step (number_step global_flag) (step (operator_step 0x71 refl (λ wasm k. refl)) (in_if promoted handed))) in
    All-cons (λ (z : Named). IsPiece 2 2312 z.1) (y.name, opens_code L x m) (named_members L x (m + 1) ys) opens
    (members_all L x (m + 1) ys (λ j le lt. few j (omega arith) (omega arith)))

members_cost : (L : LinkedSet) (x : Starts) (m : ℕ) (ms : List Member) → names_cost 2330 (named_members L x m ms) ≡ 2330 * length ms + 5 * names_bulk ms
members_cost L x m [] = refl
members_cost L x m (y ∷ ys) = (let later = members_cost L x (m + 1) ys in omega arith)

members_many : (L : LinkedSet) (x : Starts) (m : ℕ) (ms : List Member) → length (named_members L x m ms) ≡ length ms
members_many L x m [] = refl
members_many L x m (y ∷ ys) = (let later = members_many L x (m + 1) ys in omega arith)

members_piece : SearchIsSmall → (L : LinkedSet) (x : Starts) (d : Finders) → length L.set.members ≤ 256 → ClosuresAreFew L 0 L.set.members
    → IsPiece 11 (4 + (2330 * length L.set.members + 5 * names_bulk L.set.members)) (members_code L x d)
members_piece small L x d few closures =
    let members = L.set.members in
    let many = members_many L x 0 members in
    let cost = members_cost L x 0 members in
    within 11 (4 + (2330 * length members + 5 * names_bulk members))
    (search_piece small (open_goal d) 2 2312 4 8 (named_members L x 0 members) (omega arith) (members_all L x 0 members closures) (fault_piece d no_module_error 0))
    (omega arith) (omega arith)

open_call_piece : SearchIsSmall → (L : LinkedSet) (x : Starts) (d : Finders) → length L.set.members ≤ 256 → ClosuresAreFew L 0 L.set.members
    → IsPiece 11 (20 + (2330 * length L.set.members + 5 * names_bulk L.set.members)) (open_call_code L x d)
unfolding open_call_code
open_call_piece small L x d few closures =
    let bad = within 10 4 (fault_piece d bad_flags_error 0) (omega arith) (omega arith) in
    let flags = step (get_step 1) (step (number_step other_flags) (step (operator_step 0x71 refl (λ wasm k. refl)) (in_if bad (members_piece small L x d few closures)))) in
    let measured = step (get_step 0) (step (call_step d.length) (step (set_step 2) flags)) in
    let program = within 10 2 (give_piece 1) (omega arith) (omega arith) in
    within 11 (20 + (2330 * length L.set.members + 5 * names_bulk L.set.members))
    (step (get_step 0) (step (operator_step 0x45 refl (λ wasm k. refl)) (in_if program measured))) (omega arith) (omega arith)

tries_piece : {deep more : ℕ} {last : List Instr} (d : Finders) (ms : List ℕ) → IsPiece (suc deep) more last → IsPiece (suc deep) (10 * length ms + more) (tries_then d last ms)
tries_piece {deep} {more} d [] p = (let none : List ℕ = [] in within (suc deep) (10 * length none + more) p (omega arith) (omega arith))
tries_piece {deep} {more} d (m ∷ ms) p =
    let found = within deep 3 (step (get_step 3) (step (operator_step 0xA7 refl (λ wasm k. refl)) (step return_step (nothing 0)))) (omega arith) (omega arith) in
    let tested = step (operator_step 0x50 refl (λ wasm k. refl)) (step (operator_step 0x45 refl (λ wasm k. refl)) (in_if found (tries_piece d ms p))) in
    within (suc deep) (10 * length (m ∷ ms) + more) (step (get_step 1) (step (get_step 2) (step (call_step (d.find m)) (step (tee_step 3) tested)))) (omega arith) (omega arith)

-- how long the functions of the loader are
abbrev pub call_size : LinkedSet → LoaderCall → ℕ
call_size L Dlopen = 20 + (2330 * length L.set.members + 5 * names_bulk L.set.members) + 5
call_size L Dlsym = 25 + 2603 * length L.set.members + 7
call_size L Dlclose = 10 + 8 * length L.set.members + 5
call_size L Dlerror = 40

module _ (small : SearchIsSmall) (L : LinkedSet) (set : IsSet L.set) (x : Starts) (d : Finders) where
  abbrev count : ℕ
  count = length L.set.members

  few_members : count ≤ 256
  few_members = set.few

  closures_few : ClosuresAreFew L 0 L.set.members
  closures_few j le lt =
      let few = closure_few L.set set j (omega arith) in
      let later = filter_few (λ k. not (is_among k L.set.startup)) (closure L.set j) in
      let all = few_members in
      omega arith

  handle_piece : (m : ℕ) → m < count → IsPiece 3 2574 (handle_code L x d m)
  handle_piece m lt =
      let few = closure_few L.set set m lt in
      let all = few_members in
      let none = within 1 4 (fault_piece d no_symbol_error 0) (omega arith) (omega arith) in
      let tried = in_if (tries_piece d (closure L.set m) none) (within 2 4 (fault_piece d bad_handle_error 0) (omega arith) (omega arith)) in
      within 3 2574 (asked 0 (m + 1) (in_if (step (get_global_step (x.guards + m)) tried) (nothing 3))) (omega arith) (omega arith)

  handles_piece : (m : ℕ) (ms : List Member) → m + length ms ≤ count → IsPiece 3 (2574 * length ms) (handles_code L x d m ms)
  handles_piece m [] le = nothing 3
  handles_piece m (y ∷ ys) le =
      within 3 (2574 * length (y ∷ ys)) (then_piece (handle_piece m (omega arith)) (handles_piece (m + 1) ys (omega arith))) (omega arith) (omega arith)

  -- main is no library
  libraries_few : 1 + length (libraries L) ≤ count
  libraries_few = (let some = set.some in let rest = length-drop 1 L.set.members in omega arith)

  symbol_call_piece : IsPiece 3 (25 + 2603 * count) (symbol_call_code L x d)
  unfolding symbol_call_code
  symbol_call_piece =
      let libs = libraries_few in
      let startup = startup_few L.set set in
      let last = then_piece (handles_piece 1 (libraries L) libs) (within 3 4 (fault_piece d bad_handle_error 0) (omega arith) (omega arith)) in
      let global = step (get_step 0) (step (number_step 2) (step (operator_step 0x49 refl (λ wasm k. refl)) (in_if (tries_piece d L.set.startup (promoted_piece L x d)) last))) in
      within 3 (25 + 2603 * count) (step (get_step 1) (step (call_step d.length) (step (set_step 2) global))) (omega arith) (omega arith)

  closes_piece : (m : ℕ) (ms : List Member) → IsPiece 2 (8 * length ms) (closes_code x m ms)
  closes_piece m [] = nothing 2
  closes_piece m (y ∷ ys) =
      within 2 (8 * length (y ∷ ys)) (asked 0 (m + 1) (in_if (step (get_global_step (x.guards + m)) (in_if (give_piece 0) (nothing 1))) (closes_piece (m + 1) ys))) (omega arith) (omega arith)

  close_call_piece : IsPiece 2 (10 + 8 * count) (close_call_code L x d)
  unfolding close_call_code
  close_call_piece =
      let libs = libraries_few in
      let last = then_piece (closes_piece 1 (libraries L)) (within 2 4 (fault_piece d bad_close_error not_closed) (omega arith) (omega arith)) in
      within 2 (10 + 8 * count) (asked 0 1 (in_if (within 1 2 (give_piece 0) (omega arith) (omega arith)) last)) (omega arith) (omega arith)

  text_piece : (e : ℕ) → IsPiece 1 6 (text_code L e)
  text_piece e = asked 0 (e + 1) (in_if (give_piece _) (nothing 1))

  error_call_piece : IsPiece 1 35 (error_call_code L d)
  unfolding error_call_code
  error_call_piece =
      let texts = then_piece (text_piece 0) (then_piece (text_piece 1) (then_piece (text_piece 2) (then_piece (text_piece 3) (then_piece (text_piece 4) (step (number_step 0) (nothing 1)))))) in
      step (get_global_step d.error) (step (set_step 0) (step (number_step 0) (step (set_global_step d.error) texts)))

  pub call_written : (which : LoaderCall) → IsBody (call_size L which) (call_body L x d which)
  call_written Dlopen =
      body_by 11 (20 + (2330 * length L.set.members + 5 * names_bulk L.set.members)) (call_body L x d Dlopen) (open_call_piece small L x d few_members closures_few) (omega arith) (omega arith) (omega arith) refl
  call_written Dlsym =
      body_with 4 3 (25 + 2603 * count) (call_body L x d Dlsym) symbol_call_piece (omega arith) (omega arith) (omega arith) (omega arith) refl
  call_written Dlclose = body_by 2 (10 + 8 * count) (call_body L x d Dlclose) close_call_piece (omega arith) (omega arith) (omega arith) refl
  call_written Dlerror = body_by 1 35 (call_body L x d Dlerror) error_call_piece (omega arith) (omega arith) (omega arith) refl
