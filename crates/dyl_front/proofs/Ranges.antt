-- Orders that are read from words are in range.
use Rattle.std.proofs.Common.{◌≡◌, ◌≤◌, ℕ, Bool, true, false, not, List, [], ◌∷◌, Option, Some, None, refl, sym, ap, ◌∙◌, ◌||◌, ◌&&◌, ◌==◌, cond, length, map, Result, Ok, Err, IfOk, subst, string_bytes, String, true≢false, nat_le, arith}
use Rattle.std.proofs.lemmas.Bool.{leb-true}
use Rattle.std.specs.declared.alloc.Global.{Global}
use Rattle.std.specs.List.{list_any, list_all, slice_split, onto_first}
use Rattle.std.specs.Str.Parse.{digits_value}
use Rattle.dyl_words.specs.Words.{Asked, asked, command_named, takes_plain, has_zero, some_has_zero, IsZeroFree}
use Rattle.dyl_words.specs.declared.names.CommandName.{CommandName}
use Rattle.dyl_words.specs.declared.names.CommandName.TheVariants as command
use Rattle.dyl_words.proofs.ZeroFree.{IsTaken, asked_taken}
use Rattle.dyl_link.specs.declared.options.LinkOptions.{LinkOptions}
use Rattle.dyl_link.specs.dyl_search.declared.set.SetOptions.{SetOptions}
use Rattle.dyl_front.specs.declared.outcome.Opt.{Opt}
use Rattle.dyl_front.specs.declared.outcome.Opt.TheVariants.{Dl, Path, Pages, Stack, Steps, Slice, Turns, N}
use Rattle.dyl_front.specs.declared.outcome.UsageKind.{UsageKind}
use Rattle.dyl_front.specs.declared.order.Order.{Order}
use Rattle.dyl_front.specs.declared.order.Order.TheVariants.{Merge, Run, Exec, Plan, Gen, Trace, Replay, Snap, Board}
use Rattle.dyl_front.specs.Orders.{Text, on_ok, is_number, is_between, number_of, number_in, is_empty, items_of, items_in, set_in, pages_in, link_in, steps_in, slice_in, turns_in, over_set, order_by, order_asked, order_for, order_of, has_no_zero, is_item, IsSetInRange, IsLinkInRange, AreMainsInRange, IsInRange}

parts_false : (a b : Bool) → (a || b) ≡ false → (a ≡ false) × (b ≡ false)
parts_false true b h = absurd (true≢false h)
parts_false false b h = (refl, h)

both_false : (a b : Bool) → a ≡ false → b ≡ false → (a || b) ≡ false
both_false a b e f = ap (λ x. x || b) e ∙ f

parts_true : (a b : Bool) → (a && b) ≡ true → (a ≡ true) × (b ≡ true)
parts_true true b h = (refl, h)
parts_true false b h = absurd (true≢false (sym h))

both_true : (a b : Bool) → a ≡ true → b ≡ true → (a && b) ≡ true
both_true a b e f = ap (λ x. x && b) e ∙ f

-- an answer leads to another one
ok_then : {A B : Type 0} (P : A → Type 0) (Q : B → Type 0) (r : Result A UsageKind) (next : A → Result B UsageKind) → IfOk r P → ((x : A) → P x → IfOk (next x) Q) → IfOk (on_ok r next) Q
ok_then P Q (Ok x) next h k = k x h
ok_then P Q (Err e) next h k = tt

-- ---- numbers

numbers : (of : Opt) (least most unless : ℕ) (value : Option Text) → least ≤ unless → unless ≤ most → IfOk (number_in of least most unless value) (λ n. (least ≤ n) × (n ≤ most))
numbers of least most unless None low high = (low, high)
numbers of least most unless (Some text) low high = by (is_number text && is_between least most (digits_value 10 text)) refl
  where
    by : (b : Bool) → (is_number text && is_between least most (digits_value 10 text)) ≡ b → IfOk (number_in of least most unless (Some text)) (λ n. (least ≤ n) × (n ≤ most))
    by true e = rw e (let both = parts_true (nat_le least (digits_value 10 text)) (nat_le (digits_value 10 text) most) ((parts_true (is_number text) (is_between least most (digits_value 10 text)) e).1) in (leb-true least (digits_value 10 text) both.0, leb-true (digits_value 10 text) most both.1))
    by false e = rw e tt

-- ---- lists

onto_free : (x : ℕ) (parts : List Text) → (x == 0) ≡ false → list_any has_zero parts ≡ false → list_any has_zero (onto_first x parts) ≡ false
onto_free x [] h k = both_false (has_zero (x ∷ [])) false (both_false (x == 0) false h refl) refl
onto_free x (p ∷ ps) h k = let both = parts_false (has_zero p) (list_any has_zero ps) k in both_false (has_zero (x ∷ p)) (list_any has_zero ps) (both_false (x == 0) (has_zero p) h both.0) both.1

parts_free : (test : ℕ → Bool) (text : Text) → has_zero text ≡ false → list_any has_zero (slice_split test text) ≡ false
parts_free test [] h = refl
parts_free test (x ∷ xs) h = by (test x) refl (parts_false (x == 0) (has_zero xs) h) (parts_free test xs (parts_false (x == 0) (has_zero xs) h).1)
  where
    by : (b : Bool) → test x ≡ b → ((x == 0) ≡ false) × (has_zero xs ≡ false) → list_any has_zero (slice_split test xs) ≡ false → list_any has_zero (slice_split test (x ∷ xs)) ≡ false
    by true e both rest = ap (λ c. list_any has_zero (cond c ([] ∷ slice_split test xs) (onto_first x (slice_split test xs)))) e ∙ rest
    by false e both rest = ap (λ c. list_any has_zero (cond c ([] ∷ slice_split test xs) (onto_first x (slice_split test xs)))) e ∙ onto_free x (slice_split test xs) both.0 rest

all_items : (parts : List Text) → list_any has_zero parts ≡ false → list_any is_empty parts ≡ false → list_all is_item parts ≡ true
all_items [] h k = refl
all_items (p ∷ ps) h k =
    let zero = parts_false (has_zero p) (list_any has_zero ps) h in
    let empty = parts_false (is_empty p) (list_any is_empty ps) k in
    both_true (is_item p) (list_all is_item ps) (both_true (not (length p == 0)) (has_no_zero p) (ap not empty.0) (ap not zero.0)) (all_items ps zero.1 empty.1)

items : (of : Opt) (separator : ℕ) (value : Option Text) → some_has_zero value ≡ false → IfOk (items_in of separator value) (λ xs. list_all is_item xs ≡ true)
items of separator None h = refl
items of separator (Some text) h = by (list_any is_empty (slice_split (λ b. b == separator) text)) refl
  where
    by : (b : Bool) → list_any is_empty (slice_split (λ b. b == separator) text) ≡ b → IfOk (items_of of (slice_split (λ b. b == separator) text)) (λ xs. list_all is_item xs ≡ true)
    by true e = rw e tt
    by false e = rw e (all_items (slice_split (λ b. b == separator) text) (parts_free (λ b. b == separator) text h) e)

-- ---- orders

module _ (a : Asked) (free : IsZeroFree a) where
  sets : (main : Text) → has_zero main ≡ false → IfOk (set_in main a) IsSetInRange
  sets main h = ok_then (λ xs. list_all is_item xs ≡ true) IsSetInRange (items_in Dl 0x2C a.dl) (λ dl. on_ok (items_in Path 0x3A a.path) (λ paths. Ok (record { main = main; dl = dl; paths = paths })))
      (items Dl 0x2C a.dl free.1)
      (λ dl d. ok_then (λ xs. list_all is_item xs ≡ true) IsSetInRange (items_in Path 0x3A a.path) (λ paths. Ok (record { main = main; dl = dl; paths = paths }))
      (items Path 0x3A a.path free.2) (λ paths p. (ap not h, d, p)))

  pages : IfOk (pages_in a) (λ n. (1 ≤ n) × (n ≤ 16384))
  pages = numbers Pages 1 16384 1024 a.pages (omega arith) (omega arith)

  links : IfOk (link_in a) IsLinkInRange
  links = ok_then (λ n. (1 ≤ n) × (n ≤ 16384)) IsLinkInRange (pages_in a)
      (λ pages. on_ok (number_in Stack 16 16777216 65536 a.stack) (λ stack. Ok (record { stack = stack; pages = pages; no_duplicates = a.no_duplicates })))
      pages
      (λ pages p. ok_then (λ n. (16 ≤ n) × (n ≤ 16777216)) IsLinkInRange (number_in Stack 16 16777216 65536 a.stack) (λ stack. Ok (record { stack = stack; pages = pages; no_duplicates = a.no_duplicates }))
      (numbers Stack 16 16777216 65536 a.stack (omega arith) (omega arith)) (λ stack s. (p.0, p.1, s.0, s.1)))

  steps : IfOk (steps_in a) (λ n. n ≤ 9223372036854775807)
  steps = by (steps_in a) (numbers Steps 0 9223372036854775807 1000000000 a.steps (omega arith) (omega arith))
    where
      by : (r : Result ℕ UsageKind) → IfOk r (λ n. (0 ≤ n) × (n ≤ 9223372036854775807)) → IfOk r (λ n. n ≤ 9223372036854775807)
      by (Ok n) h = h.1
      by (Err e) h = tt

  over : (main : Text) (next : SetOptions → LinkOptions → Result Order UsageKind) → has_zero main ≡ false
      → ((set : SetOptions) (link : LinkOptions) → IsSetInRange set → IsLinkInRange link → IfOk (next set link) IsInRange) → IfOk (over_set main a next) IsInRange
  over main next h k = ok_then IsSetInRange IsInRange (set_in main a) (λ set. on_ok (link_in a) (λ link. next set link)) (sets main h)
      (λ set s. ok_then IsLinkInRange IsInRange (link_in a) (λ link. next set link) links (λ link l. k set link s l))

  args_free : (args : List Text) → list_any has_zero args ≡ false → list_all has_no_zero args ≡ true
  args_free [] h = refl
  args_free (x ∷ xs) h = let both = parts_false (has_zero x) (list_any has_zero xs) h in both_true (has_no_zero x) (list_all has_no_zero xs) (ap not both.0) (args_free xs both.1)

  orders : (c : CommandName) (words : List Text) → list_any has_zero words ≡ false → takes_plain c (length words) ≡ true → IfOk (order_by c words a) IsInRange
  orders command.Merge [] h t = tt
  orders command.Merge (main ∷ []) h t = tt
  orders command.Merge (main ∷ out ∷ []) h t =
      let both = parts_false (has_zero main) (list_any has_zero (out ∷ [])) h in
      over main (λ set link. Ok (Merge set link out)) both.0 (λ set link s l. (s, l, ap not (parts_false (has_zero out) false both.1).0))
  orders command.Merge (main ∷ out ∷ word ∷ words) h t = tt
  orders command.Run [] h t = tt
  orders command.Run (main ∷ args) h t =
      let both = parts_false (has_zero main) (list_any has_zero args) h in
      over main (λ set link. on_ok (steps_in a) (λ n. Ok (Run set link n args))) both.0
      (λ set link s l. ok_then (λ n. n ≤ 9223372036854775807) IsInRange (steps_in a) (λ n. Ok (Run set link n args)) steps (λ n m. (s, l, (m, args_free args both.1))))
  orders command.Exec [] h t = tt
  orders command.Exec (file ∷ args) h t =
      let both = parts_false (has_zero file) (list_any has_zero args) h in
      ok_then (λ n. n ≤ 9223372036854775807) IsInRange (steps_in a) (λ n. Ok (Exec file n args)) steps (λ n m. (ap not both.0, (m, args_free args both.1)))
  orders command.Plan [] h t = tt
  orders command.Plan (main ∷ []) h t = over main (λ set link. Ok (Plan set link)) (parts_false (has_zero main) false h).0 (λ set link s l. (s, l))
  orders command.Plan (main ∷ word ∷ words) h t = tt
  orders command.Gen [] h t = tt
  orders command.Gen (number ∷ []) h t =
      let members = λ (pages steps : ℕ). on_ok (number_of N 0 4294967295 number) (λ n. Ok (Gen n pages steps)) in
      ok_then (λ n. (1 ≤ n) × (n ≤ 16384)) IsInRange (pages_in a) (λ most. on_ok (steps_in a) (λ n. members most n)) pages
      (λ most p. ok_then (λ n. n ≤ 9223372036854775807) IsInRange (steps_in a) (λ n. members most n) steps
      (λ n m. ok_then (λ k. (0 ≤ k) × (k ≤ 4294967295)) IsInRange (number_of N 0 4294967295 number) (λ k. Ok (Gen k most n))
      (numbers N 0 4294967295 0 (Some number) (omega arith) (omega arith)) (λ k q. (p.0, p.1, m))))
  orders command.Gen (number ∷ word ∷ words) h t = tt
  orders command.Trace [] h t = tt
  orders command.Trace (main ∷ []) h t = tt
  orders command.Trace (main ∷ out ∷ args) h t =
      let first = parts_false (has_zero main) (list_any has_zero (out ∷ args)) h in
      let second = parts_false (has_zero out) (list_any has_zero args) first.1 in
      over main (λ set link. on_ok (steps_in a) (λ n. Ok (Trace a.one set link n out args))) first.0
      (λ set link s l. ok_then (λ n. n ≤ 9223372036854775807) IsInRange (steps_in a) (λ n. Ok (Trace a.one set link n out args)) steps
      (λ n m. (s, l, ap not second.0, (m, args_free args second.1))))
  orders command.Replay [] h t = tt
  orders command.Replay (trace ∷ []) h t = tt
  orders command.Replay (trace ∷ main ∷ []) h t =
      let first = parts_false (has_zero trace) (list_any has_zero (main ∷ [])) h in
      over main (λ set link. on_ok (steps_in a) (λ n. Ok (Replay a.one trace set link n))) (parts_false (has_zero main) false first.1).0
      (λ set link s l. ok_then (λ n. n ≤ 9223372036854775807) IsInRange (steps_in a) (λ n. Ok (Replay a.one trace set link n)) steps
      (λ n m. (ap not first.0, s, l, m)))
  orders command.Replay (trace ∷ main ∷ word ∷ words) h t = tt
  orders command.Snap [] h t = tt
  orders command.Snap (main ∷ []) h t = tt
  orders command.Snap (main ∷ out ∷ []) h t =
      let both = parts_false (has_zero main) (list_any has_zero (out ∷ [])) h in
      over main (λ set link. on_ok (steps_in a) (λ n. Ok (Snap set link n out))) both.0
      (λ set link s l. ok_then (λ n. n ≤ 9223372036854775807) IsInRange (steps_in a) (λ n. Ok (Snap set link n out)) steps
      (λ n m. (s, l, ap not (parts_false (has_zero out) false both.1).0, m)))
  orders command.Snap (main ∷ out ∷ word ∷ words) h t = tt
  orders command.Board mains h t =
      let few = parts_true (nat_le 1 (length mains)) (nat_le (length mains) 64) t in
      let all : AreMainsInRange mains = (leb-true 1 (length mains) few.0, leb-true (length mains) 64 few.1, args_free mains h) in
      let last = λ (link : LinkOptions) (n k : ℕ). on_ok (turns_in a) (λ turns. Ok (Board mains link n k turns)) in
      let more = λ (link : LinkOptions) (n : ℕ). on_ok (slice_in a) (λ k. last link n k) in
      ok_then IsLinkInRange IsInRange (link_in a) (λ link. on_ok (steps_in a) (λ n. more link n)) links
      (λ link l. ok_then (λ n. n ≤ 9223372036854775807) IsInRange (steps_in a) (λ n. more link n) steps
      (λ n m. ok_then (λ k. (1 ≤ k) × (k ≤ 1000000)) IsInRange (slice_in a) (λ k. last link n k) (numbers Slice 1 1000000 1000 a.slice (omega arith) (omega arith))
      (λ k q. ok_then (λ j. (0 ≤ j) × (j ≤ 1048576)) IsInRange (turns_in a) (λ turns. Ok (Board mains link n k turns))
      (numbers Turns 0 1048576 1048576 a.turns (omega arith) (omega arith)) (λ j r. (all, l, m, (q.0, q.1, r.1))))))

asked_in_range : (c : CommandName) (r : Option Asked) → ((a : Asked) → r ≡ Some a → IsTaken c a) → IfOk (order_asked c r) IsInRange
asked_in_range c None h = tt
asked_in_range c (Some a) h = let taken = h a refl in orders a taken.0 c a.plain taken.0.0 taken.1

found_in_range : (c : Option CommandName) (words : List Text) → IfOk (order_for c words) IsInRange
found_in_range None words = tt
found_in_range (Some c) words = asked_in_range c (asked c words) (asked_taken c words)

-- words are orders in range
pub in_range : (words : List (String Global)) → IfOk (order_of words) IsInRange
in_range [] = tt
in_range (program ∷ []) = tt
in_range (program ∷ word ∷ words) = found_in_range (command_named (string_bytes word)) (map string_bytes words)

-- what is read of an answer that is in range is
pub read_in_range : {W : Type 0} (read : Result Order W) (order : Result Order UsageKind) → ((o : Order) → read ≡ Ok o → order ≡ Ok o) → IfOk order IsInRange → IfOk read IsInRange
read_in_range (Ok o) order h k = subst (λ r. IfOk r IsInRange) (h o refl) k
read_in_range (Err e) order h k = tt
