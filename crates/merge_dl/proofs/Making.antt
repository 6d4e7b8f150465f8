-- What is made of what is kept of a linked set is what the set has.
use Rattle.std.proofs.Common.{◌≡◌, ◌<◌, ◌≤◌, ℕ, zero, suc, ◌+◌, ◌-◌, List, [], ◌∷◌, ◌++◌, length, drop, get_or, slice_get, Some, Bool, true, false, refl, sym, ap, ap₂, ◌∙◌, arith, append_assoc, append-nil}
use Rattle.std.proofs.Math.Path.{fun_ext}
use Rattle.std.proofs.lemmas.List.{drop_all, at_drop_more}
use Rattle.std.specs.Prelude.{not}
use Rattle.std.specs.List.{filter, flat_map, range_with_len}
use Rattle.wasm_form.specs.declared.types.FuncType.{FuncType}
use Rattle.wasm_form.specs.declared.instr.Instr.{Instr, Plain, Index}
use Rattle.wasm_form.specs.declared.module.Group.{Group}
use Rattle.wasm_form.specs.declared.module.Module.{Module}
use Rattle.wasm_form.specs.declared.runtime.LoaderCall.TheVariants.{Dlopen, Dlsym, Dlclose, Dlerror}
use Rattle.spec_loading.specs.spec_linking.Sets.{Member}
use Rattle.spec_loading.specs.spec_linking.Plans.{texts_size, end_of, regions_of}
use Rattle.spec_loading.specs.spec_linking.Slots.{linked_plan}
use Rattle.spec_loading.proofs.of_spec_linking.Placing.{above, end_above}
use Rattle.spec_loading.specs.spec_linking.Definitions.{Definition, MemberFunction, MemberData, LoaderFunction, HeapBase, HeapEnd, HostFunction, WeakSymbol, Undefined, or_defined}
use Rattle.spec_loading.specs.spec_linking.Orders.{is_among, closure}
use Rattle.spec_loading.specs.spec_linking.LinkedSets.{LinkedSet}
use Rattle.spec_loading.specs.LoaderAnswers.{bad_handle_error, bad_close_error, not_closed, global_flag, later_members}
use Rattle.spec_loading.specs.Members.{from_members}
use Rattle.merge_match.specs.Parts.{number_of}
use Rattle.merge_start.specs.Words.{Starts, number, promote_one, promote_each}
use Rattle.wasm_form.specs.declared.module.Part.{Part}
use Rattle.merge_find.specs.Decisions.{Named, search_code, strings}
use Rattle.merge_dl.specs.Words.{Finders, return_code, opens_code, named_members, open_goal, members_code, open_call_code, tries_code, tries_then, prefer_code, prefers_code, preferred_code, promoted_code, candidates, last_place, handles_code, libraries, symbol_locals, symbol_call_code, closes_code, close_call_code, error_call_code, when, give_code, fault_code, is_local, code_with, handle_type, unary_type, binary_type, one_i32}
use Rattle.merge_dl.specs.Listed.{AreDlNumbers, starts_in, finders_in, open_begin, call_part}
use Rattle.merge_dl.proofs.Searches.{strings_then}
use Rattle.merge_dl.specs.declared.numbers.DlNumbers.{DlNumbers}

-- ---- the names of a member

pub or_nothing : (d : Definition) → or_defined d Undefined ≡ d
or_nothing (LoaderFunction call) = refl
or_nothing HeapBase = refl
or_nothing HeapEnd = refl
or_nothing (MemberFunction k g) = refl
or_nothing (MemberData k place) = refl
or_nothing HostFunction = refl
or_nothing WeakSymbol = refl
or_nothing Undefined = refl

-- ---- the texts of errors

-- they end before the heap
pub texts_within : (L : LinkedSet) → (linked_plan L).stack_top + texts_size ≤ (linked_plan L).heap_base
texts_within L =
    let regions = regions_of L.set.members in
    let start = (linked_plan L).stack_top + texts_size in
    let past = end_above (λ r. r.mem_size) (λ r. r.mem_align) start regions in
    let rounded = above 16 (end_of (λ r. r.mem_size) (λ r. r.mem_align) start regions) (omega arith) in
    omega arith

-- ---- lists from a place on

pub four_more : {A : Type 0} (xs : List A) (a b c d : A) → (((xs ++ a ∷ []) ++ b ∷ []) ++ c ∷ []) ++ d ∷ [] ≡ xs ++ a ∷ b ∷ c ∷ d ∷ []
four_more [] a b c d = refl
four_more (x ∷ xs) a b c d = ap (λ l. x ∷ l) (four_more xs a b c d)

member_at : (ms : List Member) (m : ℕ) (y : Member) → slice_get ms m ≡ Some y → drop m ms ≡ y ∷ drop (m + 1) ms
member_at [] m y e = absurd cc
member_at (x ∷ ms) zero y e = (let same : x ≡ y = cc in ap (λ z. z ∷ ms) same)
member_at (x ∷ ms) (suc m) y e = (let next : suc m + 1 ≡ suc (m + 1) = omega arith in rw next (member_at ms m y e))

-- what a member has comes before what those behind it have
pub member_next : {X : Type 0} (of : ℕ → Module → List X) (ms : List Member) (m : ℕ) (y : Member) → slice_get ms m ≡ Some y
    → (to more all : List X) (wasm : Module) → wasm ≡ y.wasm → more ≡ to ++ of m wasm → to ++ from_members of m (drop m ms) ≡ all
    → more ++ from_members of (m + 1) (drop (m + 1) ms) ≡ all
member_next {X} of ms m y there to more all wasm same put before =
    let rest = from_members of (m + 1) (drop (m + 1) ms) in
    ap (λ (l : List X). l ++ rest) (put ∙ ap (λ (w : Module). to ++ of m w) same)
    ∙ append_assoc to (of m y.wasm) rest
    ∙ ap (λ (l : List Member). to ++ from_members of m l) (sym (member_at ms m y there))
    ∙ before

-- the same of items of a list
pub flat_next : {X Y : Type 0} (of : X → List Y) (xs : List X) (j : ℕ) (x : X) → j < length xs → x ≡ get_or xs j x → (to more all : List Y)
    → more ≡ to ++ of x → to ++ flat_map of (drop j xs) ≡ all → more ++ flat_map of (drop (j + 1) xs) ≡ all
flat_next {X} {Y} of xs j x lt item to more all put before =
    let rest = drop (j + 1) xs in
    let from : List X → List Y = λ l. to ++ flat_map of l in
    ap (λ (l : List Y). l ++ flat_map of rest) put
    ∙ append_assoc to (of x) (flat_map of rest)
    ∙ ap (λ (y : X). from (y ∷ rest)) item
    ∙ sym (at_drop_more from xs j x lt)
    ∙ before

-- no member is left
pub member_last : {X : Type 0} (of : ℕ → Module → List X) (m : ℕ) (ms : List Member) → length ms ≤ m → (to all : List X)
    → to ++ from_members of m (drop m ms) ≡ all → to ≡ all
member_last {X} of m ms le to all before =
    sym (append-nil to) ∙ ap (λ (l : List Member). to ++ from_members of m l) (sym (drop_all m ms le)) ∙ before

drop_next : {A : Type 0} (i : ℕ) (xs : List A) → i < length xs → (y : A) × (drop i xs ≡ y ∷ drop (i + 1) xs)
drop_next i [] lt = absurd (omega arith)
drop_next zero (x ∷ xs) lt = (x, refl)
drop_next (suc i) (x ∷ xs) lt = (let next : suc i + 1 ≡ suc (i + 1) = omega arith in rw next (drop_next i xs (omega arith)))

-- what is put for a member comes before what is put for those behind it
pub put_next : {A : Type 0} (code : ℕ → List Instr) (all : ℕ → List A → List Instr)
    → ((m : ℕ) (x : A) (xs : List A) → all m (x ∷ xs) ≡ code m ++ all (m + 1) xs) → (m : ℕ) (xs : List A) → m < length xs
    → (to one more whole : List Instr) → one ≡ code m → more ≡ to ++ one → to ++ all m (drop m xs) ≡ whole → more ++ all (m + 1) (drop (m + 1) xs) ≡ whole
put_next code all step m xs lt to one more whole is put before =
    let next = drop_next m xs lt in
    let rest = all (m + 1) (drop (m + 1) xs) in
    ap (λ l. l ++ rest) (put ∙ ap (λ l. to ++ l) is)
    ∙ append_assoc to (code m) rest
    ∙ ap (λ l. to ++ l) (sym (ap (all m) next.1 ∙ step m next.0 (drop (m + 1) xs)))
    ∙ before

pub put_last : {A : Type 0} (all : ℕ → List A → List Instr) → ((m : ℕ) → all m [] ≡ []) → (m : ℕ) (xs : List A) → length xs ≤ m
    → (to whole : List Instr) → to ++ all m (drop m xs) ≡ whole → to ≡ whole
put_last all none m xs le to whole before = sym (append-nil to) ∙ ap (λ l. to ++ l) (sym (ap (all m) (drop_all m xs le) ∙ none m)) ∙ before

-- ---- the code of the functions of the loader

pub open_made : (L : LinkedSet) (x : Starts) (d : Finders) (begun search all : List Instr) → begun ≡ open_begin d → search ≡ members_code L x d → all ≡ begun ++ search
    → all ≡ open_call_code L x d
unfolding open_call_code
open_made L x d begun search all a b c = c ∙ ap₂ (λ u v. u ++ v) a b

-- the name of a member comes before the names of those behind it
pub named_next : (L : LinkedSet) (x : Starts) (ms : List Member) (m : ℕ) (y : Member) → slice_get ms m ≡ Some y
    → (to more whole : List Named) → more ≡ to ++ strings ((y.name, opens_code L x m) ∷ [])
    → to ++ strings (named_members L x m (drop m ms)) ≡ whole → more ++ strings (named_members L x (m + 1) (drop (m + 1) ms)) ≡ whole
named_next L x ms m y there to more whole put before =
    let later = named_members L x (m + 1) (drop (m + 1) ms) in
    let this : Named = (y.name, opens_code L x m) in
    ap (λ l. l ++ strings later) put
    ∙ append_assoc to (strings (this ∷ [])) (strings later)
    ∙ ap (λ l. to ++ l) (sym (strings_then this later))
    ∙ ap (λ (l : List Member). to ++ strings (named_members L x m l)) (sym (member_at ms m y there))
    ∙ before

-- ---- promoted members

module _ (L : LinkedSet) (x : Starts) (d : Finders) (put all : List Instr) where
  pub promoted_made : {one : Instr} {code preferred : List Instr} {startup : List ℕ} {count : ℕ} → startup ≡ L.set.startup → count ≡ length L.set.members
      → one ≡ number last_place → code ≡ one ∷ Index 0x21 5 ∷ [] → put ≡ code ++ prefers_code x d (filter (λ k. not (is_among k startup)) (range_with_len 0 count))
      → preferred ≡ preferred_code d → all ≡ put ++ preferred → all ≡ promoted_code L x d
  promoted_made {one} {code} {preferred} {startup} {count} a b first begins puts last whole =
      let searched : List ℕ → ℕ → List Instr = λ ms k. prefers_code x d (filter (λ i. not (is_among i ms)) (range_with_len 0 k)) in
      whole
      ∙ ap₂ (λ u v. u ++ v) (puts ∙ ap₂ (λ u v. u ++ v) (begins ∙ ap (λ i. i ∷ Index 0x21 5 ∷ []) first) (ap₂ searched a b)) last

prefers_joined : (x : Starts) (d : Finders) (ks js : List ℕ) → prefers_code x d (ks ++ js) ≡ prefers_code x d ks ++ prefers_code x d js
prefers_joined x d [] js = refl
prefers_joined x d (k ∷ ks) js =
    ap (λ l. prefer_code x d k ++ l) (prefers_joined x d ks js)
    ∙ sym (append_assoc (prefer_code x d k) (prefers_code x d ks) (prefers_code x d js))

kept_first : (test : ℕ → Bool) (k : ℕ) (ks : List ℕ) → filter test (k ∷ ks) ≡ filter test (k ∷ []) ++ filter test ks
kept_first test k ks = go (test k) refl
  where
    go : (z : Bool) → test k ≡ z → filter test (k ∷ ks) ≡ filter test (k ∷ []) ++ filter test ks
    go true e = rw e refl
    go false e = rw e refl

-- the first of some members, and then the others
pub prefers_next : (x : Starts) (d : Finders) (test : ℕ → Bool) (k count : ℕ) → k < count → (to more whole : List Instr)
    → more ≡ to ++ prefers_code x d (filter test (k ∷ [])) → to ++ prefers_code x d (filter test (range_with_len k (count - k))) ≡ whole
    → more ++ prefers_code x d (filter test (range_with_len (k + 1) (count - (k + 1)))) ≡ whole
prefers_next x d test k count lt to more whole put before =
    let rest = range_with_len (k + 1) (count - (k + 1)) in
    let many : count - k ≡ suc (count - (k + 1)) = omega (arith, lt) in
    let code = prefers_code x d in
    ap (λ l. l ++ code (filter test rest)) put
    ∙ append_assoc to (code (filter test (k ∷ []))) (code (filter test rest))
    ∙ ap (λ l. to ++ l) (sym (prefers_joined x d (filter test (k ∷ [])) (filter test rest)) ∙ ap code (sym (kept_first test k rest)))
    ∙ ap (λ i. to ++ code (filter test (range_with_len k i))) (sym many)
    ∙ before

-- ---- by the numbers of a set

module _ (x y : Starts) (promoted : x.promoted ≡ y.promoted) where
  promote_same : (ks : List ℕ) → promote_each x ks ≡ promote_each y ks
  promote_same [] = refl
  promote_same (k ∷ ks) = ap₂ (λ p l. promote_one (record x { promoted = p }) k ++ l) promoted (promote_same ks)

  prefers_same : (d : Finders) (ks : List ℕ) → prefers_code x d ks ≡ prefers_code y d ks
  prefers_same d [] = refl
  prefers_same d (k ∷ ks) = ap₂ (λ p l. prefer_code (record x { promoted = p }) d k ++ l) promoted (prefers_same d ks)

  promoted_same : (L : LinkedSet) (d : Finders) → promoted_code L x d ≡ promoted_code L y d
  promoted_same L d = ap (λ l. number last_place ∷ Index 0x21 5 ∷ (l ++ preferred_code d)) (prefers_same d (candidates L.set))

  opens_same : (L : LinkedSet) (m : ℕ) → x.opening m ≡ y.opening m → opens_code L x m ≡ opens_code L y m
  opens_same L m same =
      ap₂ (λ f l. Index 0x20 1 ∷ number global_flag ∷ Plain 0x71 ∷ when (Index 0x10 f ∷ (l ++ return_code)) ∷ Index 0x10 f ∷ return_code) same
      (promote_same (later_members L.set m))

  members_same : (L : LinkedSet) (m : ℕ) (ms : List Member) → ((j : ℕ) → j < length ms → x.opening (m + j) ≡ y.opening (m + j))
      → named_members L x m ms ≡ named_members L y m ms
  members_same L m [] same = refl
  members_same L m (a ∷ ms) same =
      let first : m ≡ m + 0 = omega arith in
      let here : x.opening m ≡ y.opening m = ap x.opening first ∙ same 0 (omega arith) ∙ ap y.opening (sym first) in
      ap₂ (λ c l. (a.name, c) ∷ l) (opens_same L m here)
      (members_same L (m + 1) ms (λ j lt. let on : m + 1 + j ≡ m + suc j = omega arith in ap x.opening on ∙ same (suc j) (omega arith) ∙ ap y.opening (sym on)))

handles_same : (L : LinkedSet) (x y : Starts) (d : Finders) → x.guards ≡ y.guards → (m : ℕ) (ms : List Member) → handles_code L x d m ms ≡ handles_code L y d m ms
handles_same L x y d same m [] = refl
handles_same L x y d same m (a ∷ ms) =
    let searched = when (tries_code d (closure L.set m)) in
    ap₂ (λ g l. (is_local 0 (m + 1) ++ when (Index 0x23 (g + m) ∷ searched ∷ fault_code d bad_handle_error 0) ∷ []) ++ l) same
    (handles_same L x y d same (m + 1) ms)

closes_same : (x y : Starts) → x.guards ≡ y.guards → (m : ℕ) (ms : List Member) → closes_code x m ms ≡ closes_code y m ms
closes_same x y same m [] = refl
closes_same x y same m (a ∷ ms) =
    ap₂ (λ g l. (is_local 0 (m + 1) ++ when (Index 0x23 (g + m) ∷ when (give_code 0) ∷ []) ∷ []) ++ l) same (closes_same x y same (m + 1) ms)

abbrev pub part_with : FuncType → List Group → List Instr → Part
part_with ty locals is = record { ty = ty; code = code_with locals is }

pub part_same : (ty other : FuncType) (ls gs : List Group) (is js : List Instr) → ty ≡ other → ls ≡ gs → is ≡ js
    → part_with ty ls is ≡ part_with other gs js
part_same ty other ls gs is js a b c = ap (λ t. part_with t ls is) a ∙ ap₂ (part_with other) b c

module _ (L : LinkedSet) (n : DlNumbers) (x : Starts) (d : Finders) (h : AreDlNumbers L n x d) where
  finders_same : finders_in n ≡ d
  finders_same =
      sym
      (ap (λ e. record { error = e; length = d.length; find = d.find }) h.error
      ∙ ap (λ f. record { error = n.error; length = f; find = d.find }) h.first
      ∙ ap (λ f. record { error = n.error; length = n.first_function; find = f }) (fun_ext h.find))

  guards_same : (starts_in n).guards ≡ x.guards
  guards_same = sym h.guards

  opening_same : (j : ℕ) → j < length L.set.members → (starts_in n).opening (0 + j) ≡ x.opening (0 + j)
  opening_same j lt = (let first : 0 + j ≡ j = omega arith in rw first (ap number_of (h.opens j lt)))

  open_same : open_call_code L (starts_in n) (finders_in n) ≡ open_call_code L x d
  unfolding open_call_code
  open_same =
      ap (λ f. open_call_code L (starts_in n) f) finders_same
      ∙ ap (λ l. open_begin d ++ search_code (open_goal d) (strings l)) (members_same (starts_in n) x (sym h.promoted) L 0 L.set.members opening_same)

  symbol_same : symbol_call_code L (starts_in n) (finders_in n) ≡ symbol_call_code L x d
  unfolding symbol_call_code
  symbol_same =
      ap (λ f. symbol_call_code L (starts_in n) f) finders_same
      ∙ ap₂ (λ p l.
      Index 0x20 1 ∷ Index 0x10 d.length ∷ Index 0x21 2 ∷ Index 0x20 0 ∷ number 2 ∷ Plain 0x49 ∷ when (tries_then d p L.set.startup)
      ∷ (l ++ fault_code d bad_handle_error 0))
      (promoted_same (starts_in n) x (sym h.promoted) L d) (handles_same L (starts_in n) x d guards_same 1 (libraries L))

  close_same : close_call_code L (starts_in n) (finders_in n) ≡ close_call_code L x d
  unfolding close_call_code
  close_same =
      ap (λ f. close_call_code L (starts_in n) f) finders_same
      ∙ ap (λ l. (is_local 0 1 ++ when (give_code 0) ∷ []) ++ (l ++ fault_code d bad_close_error not_closed)) (closes_same (starts_in n) x guards_same 1 (libraries L))

  module _ (ty : FuncType) (locals : List Group) (code : List Instr) where
    pub open_part : ty ≡ binary_type → locals ≡ one_i32 ∷ [] → code ≡ open_call_code L (starts_in n) (finders_in n)
        → record { ty = ty; code = code_with locals code } ≡ call_part L x d Dlopen
    open_part a b c = part_same ty binary_type locals (one_i32 ∷ []) code (open_call_code L x d) a b (c ∙ open_same)

    pub symbol_part : ty ≡ binary_type → locals ≡ symbol_locals → code ≡ symbol_call_code L (starts_in n) (finders_in n)
        → record { ty = ty; code = code_with locals code } ≡ call_part L x d Dlsym
    symbol_part a b c = part_same ty binary_type locals symbol_locals code (symbol_call_code L x d) a b (c ∙ symbol_same)

    pub close_part : ty ≡ unary_type → locals ≡ [] → code ≡ close_call_code L (starts_in n) (finders_in n)
        → record { ty = ty; code = code_with locals code } ≡ call_part L x d Dlclose
    close_part a b c = part_same ty unary_type locals [] code (close_call_code L x d) a b (c ∙ close_same)

    pub error_part : ty ≡ handle_type → locals ≡ one_i32 ∷ [] → code ≡ error_call_code L (finders_in n)
        → record { ty = ty; code = code_with locals code } ≡ call_part L x d Dlerror
    error_part a b c = part_same ty handle_type locals (one_i32 ∷ []) code (error_call_code L d) a b (c ∙ ap (error_call_code L) finders_same)
