-- A well typed activation makes a well typed move.
use Rattle.std.proofs.Common.{◌≡◌, ℕ, zero, suc, ◌+◌, ◌<◌, ◌≤◌, ◌%◌, ◌^◌, max, List, [], ◌∷◌, ◌++◌, length, map, reverse, take, drop, Option, Some, None, refl, sym, ap, ◌∙◌, subst, slice_get, nat_le, nat_lt, nat_eq, Bool, true, false, ◌&&◌, arith, if◌then◌else◌}
use Rattle.std.specs.Prelude.{unwrap_or}
use Rattle.std.specs.Int.{cast_unsigned, w32, w64}
use Rattle.std.proofs.lemmas.Bool.Decides.{nat_tests}
use Rattle.std.proofs.lemmas.Bool.{and_parts, ltb-true}
use Rattle.std.proofs.lemmas.List.{length-reverse, length-map, reverse-append}
use Rattle.spec_execution.specs.wasm_form.declared.types.ValType.{ValType}
use Rattle.spec_execution.specs.wasm_form.declared.types.ValType.TheVariants.{I32, I64, FuncRef}
use Rattle.spec_execution.specs.wasm_form.declared.types.FuncType.{FuncType}
use Rattle.spec_execution.specs.wasm_form.declared.instr.BlockType.{BlockType}
use Rattle.spec_execution.specs.wasm_form.declared.instr.BlockType.TheVariants as block
use Rattle.spec_execution.specs.wasm_form.declared.instr.Instr.{Instr, out-Instr}
use Rattle.spec_execution.specs.wasm_form.declared.instr.Instr.TheOpen as Open
use Rattle.spec_execution.specs.wasm_form.declared.instr.Expr.{Expr}
use Rattle.spec_execution.specs.wasm_form.declared.runtime.Ref.{Ref}
use Rattle.spec_execution.proofs.of_wasm_form.Levels.{with_inside, inside_else}
use Rattle.spec_execution.specs.wasm_form.declared.plain.Operator.{Operator}
use Rattle.spec_execution.specs.wasm_form.declared.plain.Operator.TheVariants.{Test, Compare, Unary, Binary, Convert}
use Rattle.spec_execution.specs.wasm_form.declared.plain.PlainForm.{PlainForm}
use Rattle.spec_execution.specs.wasm_form.declared.plain.PlainForm.TheVariants as plain
use Rattle.spec_execution.specs.wasm_form.declared.index.IndexForm.{IndexForm}
use Rattle.spec_execution.specs.wasm_form.declared.index.IndexForm.TheVariants as index
use Rattle.spec_execution.specs.wasm_form.declared.access.MemoryAccess.{MemoryAccess}
use Rattle.spec_execution.specs.wasm_form.declared.second.SecondForm.{SecondForm}
use Rattle.spec_execution.specs.wasm_form.declared.second.SecondForm.TheVariants as second
use Rattle.spec_execution.specs.wasm_form.Plain.{operator, plain_form}
use Rattle.spec_execution.specs.wasm_form.Index.{index_form}
use Rattle.spec_execution.specs.wasm_form.Access.{memory_access}
use Rattle.spec_execution.specs.wasm_form.Second.{second_form}
use Rattle.spec_execution.specs.wasm_form.declared.runtime.Value.{Value}
use Rattle.spec_execution.specs.wasm_form.declared.runtime.Value.TheVariants.{Num, Func}
use Rattle.spec_execution.specs.spec_binary.Options.{◌>>=◌}
use Rattle.spec_execution.specs.spec_binary.Trees.{nesting_here, nesting_all, every_here}
use Rattle.spec_execution.specs.spec_binary.BodyLimits.{most_nested}
use Rattle.spec_execution.specs.spec_binary.Indices.{Function}
use Rattle.spec_execution.specs.spec_binary.SameTypes.{same_type}
use Rattle.spec_execution.specs.spec_runtime.Numerics.{W32, bits, Outcome, Whole, Traps, unary, binary, convert, converts_from, converts_to}
use Rattle.spec_execution.specs.spec_validation.Stacks.{Stack, take_off, choose_one, ends_with}
use Rattle.spec_execution.specs.spec_validation.Context.{Context, Labels, Gives, Jumps, Drops, Chooses, from_to, given, three_numbers, operator_type, plain_shape, index_shape, indirect_shape, select_shape, access_shape, second_shape, block_type}
use Rattle.spec_execution.specs.spec_validation.Typing.{Reach, shaped, plainly, nested, either_way, or_nothing, afters, typed_here}
use Rattle.spec_execution.specs.Values.{low, is_number}
use Rattle.spec_execution.specs.Activations.{Level, Activation, Effect, TableGet, TableSet, TableGrow, TableFill, TableCopy, TableInit, Load, Store, MemorySize, MemoryGrow, MemoryCopy, MemoryFill, MemoryInit, Move, On, CallsEntry, Does, with_values, pushed, with_top, with_number, with_i32, with_reference, on_some, one_if, outcome_move, operator_move, expanded, entered_block, block_move, loop_move, if_move, else_of, left_block, landed, to_end, branched, branch_move, branch_if_move, end_move, picked, select_move, is_null, plain_move, local_set, index_move, access_move, with_three, second_move, block_with, instr_move, code_move, move}
use Rattle.spec_execution.specs.Views.{View, type_bits}
use Rattle.spec_execution.specs.Ranges.{ReferenceExists}
use Rattle.spec_safety.specs.ValueTypes.{HasType, HaveTypes, constant_fits, constants_fit}
use Rattle.spec_safety.specs.TypedActivations.{known, count_below, Leads, GoesOnAt, IsOpen, AreOpen, within, IsOf, IsTyped}
use Rattle.spec_safety.specs.TypedMoves.{IsTypedEffect, IsTypedMove}
use Rattle.spec_safety.proofs.KnownStacks.{went_on, some_same, gives_known, jumps_known, taken_known, ends_known, ends_self, plainly_some, shape_is, flat_is, was_given, named, named_given, both_given, drops_known, chooses_known, land_known, tabled_known}
use Rattle.spec_safety.proofs.HeldValues.{have_append, have_length, split, have_at, have_set}
use Rattle.spec_safety.proofs.Widths.{unary_fits, binary_fits, convert_fits, low_fits, one_fits}
use Rattle.spec_safety.proofs.OpenBlocks.{opened, listed, nested_known, either_known, else_is}
use Rattle.spec_safety.proofs.OperatorTypes.{at_width, plain_operator, access_number, tests, compares, counts, computes, converts}

module _ {Units : Type 0} (V : View Units) (N : ℕ → Context) (function : Function)
    (tables : (unit t : ℕ) (ty : ValType) → (N unit).tables t ≡ Some ty → is_number ty ≡ false) where
  -- what the function returns, and what its locals hold
  abbrev own : List ValType
  own = function.ty.results

  abbrev held : List ValType
  held = function.ty.params ++ function.locals

  abbrev Ok : Move → Type 0
  Ok m = IsTypedMove V N function m

  -- ---- operands

  top_ok : (t : ValType) (kept : List ValType) (vs : List Value) (go : Value → List Value → Move) → HaveTypes V (t ∷ kept) vs
      → ((v : Value) (us : List Value) → HasType V t v → HaveTypes V kept us → Ok (go v us)) → Ok (with_top vs go)
  top_ok t kept [] go h f = absurd h
  top_ok t kept (v ∷ vs) go h f = f v vs h.0 h.1

  number_ok : (t : ValType) (kept : List ValType) (vs : List Value) (go : ℕ → List Value → Move) → is_number t ≡ true → HaveTypes V (t ∷ kept) vs
      → ((n : ℕ) (us : List Value) → HaveTypes V kept us → Ok (go n us)) → Ok (with_number vs go)
  number_ok t kept [] go e h f = absurd h
  number_ok t kept (Num n ∷ vs) go e h f = f n vs h.1
  number_ok t kept (Func r ∷ vs) go e h f = absurd (let o = h.0.0 in cc)

  i32_ok : (kept : List ValType) (vs : List Value) (go : ℕ → List Value → Move) → HaveTypes V (I32 ∷ kept) vs
      → ((n : ℕ) (us : List Value) → HaveTypes V kept us → Ok (go n us)) → Ok (with_i32 vs go)
  i32_ok kept vs go h f = number_ok I32 kept vs (λ n rest. go (low W32 n) rest) refl h (λ n us hs. f (low W32 n) us hs)

  reference_ok : (t : ValType) (kept : List ValType) (vs : List Value) (go : Option Ref → List Value → Move) → is_number t ≡ false
      → HaveTypes V (t ∷ kept) vs → ((r : Option Ref) (us : List Value) → ReferenceExists V r → HaveTypes V kept us → Ok (go r us))
      → Ok (with_reference vs go)
  reference_ok t kept [] go e h f = absurd h
  reference_ok t kept (Num n ∷ vs) go e h f = absurd (let o = h.0.0 in cc)
  reference_ok t kept (Func r ∷ vs) go e h f = f r vs h.0.1 h.1

  abbrev body : Activation → Context
  body a = within (N a.unit) held own

  abbrev room : Activation → ℕ
  room a = V.height a.unit a.func

  -- ---- branches

  module _ (a : Activation) (res : IsOf V function a) (locs : HaveTypes V held a.locals) where
    at_end : (t kept : List ValType) → t ≡ own → HaveTypes V (reverse t ++ kept) a.values → length a.values ≤ room a → Ok (on_some (to_end a))
    at_end t kept q h fits =
        let s = split V (reverse t) kept a.values h in
        let n = s.enough in
        let l = length-reverse t in
        let same_length : length t ≡ a.results = ap length q ∙ res.1 in
        let enough : nat_le a.results (length a.values) ≡ true = grind (arith, nat_tests) in
        let k = length-map (reverse own) (λ t. Some t) in
        let r = length-reverse own in
        let top : HaveTypes V (reverse t) (take a.results a.values) =
        subst (λ m. HaveTypes V (reverse t) (take m a.values)) (l ∙ same_length) s.top in
        let top_own : HaveTypes V (reverse own) (take a.results a.values) = subst (λ z. HaveTypes V (reverse z) (take a.results a.values)) q top in
        rw enough (record {
          labels = own ∷ [];
          ends = own;
          kept = reverse own;
          is_of = res;
          locals = locs;
          values = top_own;
          rest = record {
            reach = record { stack = known (reverse own); high = length (map Some (reverse own)) };
            typed = refl;
            ends = ends_self own;
            high = omega arith;
            constants = refl;
            nested = omega arith;
          };
          levels = (refl, refl);
        })

    left_ok : (l : Level) (ls : List Level) (t : List ValType) (labels : Labels) (ends outer : List ValType) (vs : List Value)
        → IsOpen V (body a) (room a) l ls t labels ends outer → AreOpen V (body a) (room a) ls labels outer → HaveTypes V (reverse ends) vs
        → IsTyped V N function [] [] (left_block a vs l ls)
    left_ok l ls t labels ends outer vs o levs h =
        record {
          labels = labels;
          ends = outer;
          kept = reverse ends ++ o.kept;
          is_of = res;
          locals = locs;
          values = have_append V (reverse ends) o.kept vs l.below h o.below;
          rest = o.after;
          levels = levs;
        }

    landed_ok : (l : Level) (ls : List Level) (t : List ValType) (labels : Labels) (ends outer : List ValType) (vs : List Value)
        (again : Option (List Instr)) → IsOpen V (body a) (room a) l ls t labels ends outer → AreOpen V (body a) (room a) ls labels outer
        → GoesOnAt (body a) (t ∷ labels) (count_below (l ∷ ls)) (room a) t ends again → HaveTypes V (reverse t) vs
        → IsTyped V N function [] [] (landed a vs l ls again)
    landed_ok l ls t labels ends outer vs None o levs g h = left_ok l ls t labels ends outer vs o levs (subst (λ z. HaveTypes V (reverse z) vs) g h)
    landed_ok l ls t labels ends outer vs (Some c) o levs g h =
        record {
          labels = t ∷ labels;
          ends = ends;
          kept = reverse t;
          is_of = res;
          locals = locs;
          values = h;
          rest = g;
          levels = (outer, o, levs);
        }

    branch_ok : (k : ℕ) (ls : List Level) (labels : Labels) (ends t kept : List ValType) → AreOpen V (body a) (room a) ls labels ends
        → slice_get labels k ≡ Some t → HaveTypes V (reverse t ++ kept) a.values → length a.values ≤ room a → Ok (on_some (branched a k ls))
    branch_ok zero [] labels ends t kept levs e h fits = at_end t kept (sym (some_same (rw levs.0 at e))) h fits
    branch_ok (suc k) [] labels ends t kept levs e h fits = absurd (let o = rw levs.0 at e in cc)
    branch_ok k (l ∷ ls) [] ends t kept levs e h fits = absurd levs
    branch_ok zero (l ∷ ls) (u ∷ labels) ends t kept levs e h fits =
        let h' : HaveTypes V (reverse u ++ kept) a.values = subst (λ z. HaveTypes V (reverse z ++ kept) a.values) (sym (some_same e)) h in
        let s = split V (reverse u) kept a.values h' in
        let n = s.enough in
        let q = length-reverse u ∙ levs.1.arity in
        let enough : nat_le l.arity (length a.values) ≡ true = grind (arith, nat_tests) in
        rw enough (landed_ok l ls u labels ends levs.0 (take l.arity a.values) l.again levs.1 levs.2 levs.1.again
        (subst (λ m. HaveTypes V (reverse u) (take m a.values)) q s.top))
    branch_ok (suc k) (l ∷ ls) (u ∷ labels) ends t kept levs e h fits = branch_ok k ls labels levs.0 t kept levs.2 e h fits

  -- ---- one instruction: the code after it leads on, over open blocks

  module _ (a : Activation) (labels : Labels) (ending : List ValType) (res : IsOf V function a)
      (locs : HaveTypes V held a.locals) (levs : AreOpen V (body a) (room a) a.levels labels ending) where
    abbrev Gone : Stack → Type 0
    Gone s = Leads (body a) labels (count_below a.levels) (room a) s ending a.rest

    abbrev GoesOn : List ValType → Type 0
    GoesOn ts = Gone (known ts)

    entered_ok : (f : FuncType) (kept t : List ValType) (again : Option (List Instr)) (is : List Instr) (arity : ℕ) (q : Reach)
        → HaveTypes V (reverse f.params ++ kept) a.values → GoesOn (reverse f.results ++ kept) → length t ≡ arity
        → afters (body a) is (t ∷ labels) (known (reverse f.params)) ≡ Some q → ends_with f.results q.stack ≡ true
        → count_below a.levels + (length kept + q.high) ≤ room a → constants_fit is ≡ true
        → suc (length labels) + nesting_all is ≤ suc most_nested → ((under : ℕ) → Leads (body a) (t ∷ labels) under (room a) (known (reverse f.params)) f.results is
        → GoesOnAt (body a) (t ∷ labels) under (room a) t f.results again) → Ok (on_some (entered_block a (length f.params) arity again is))
    entered_ok f kept t again is arity q h r ea inner ended fits constants deep again_ok =
        let s = split V (reverse f.params) kept a.values h in
        let m = s.enough in
        let l = length-reverse f.params in
        let enough : nat_le (length f.params) (length a.values) ≡ true = grind (arith, nat_tests) in
        let under : HaveTypes V kept (drop (length f.params) a.values) = subst (λ m. HaveTypes V kept (drop m a.values)) l s.under in
        let k = have_length V kept (drop (length f.params) a.values) under in
        let runs : Leads (body a) (t ∷ labels) (length (drop (length f.params) a.values) + count_below a.levels) (room a)
        (known (reverse f.params)) f.results is = record { reach = q; typed = inner; ends = ended; high = omega arith; constants = constants; nested = deep } in
        rw enough (record {
          labels = t ∷ labels;
          ends = f.results;
          kept = reverse f.params;
          is_of = res;
          locals = locs;
          values = subst (λ m. HaveTypes V (reverse f.params) (take m a.values)) l s.top;
          rest = runs;
          levels = (ending, record { arity = ea; again = again_ok _ runs; kept = kept; below = under; after = r }, levs);
        })

  module _ (a : Activation) (labels : Labels) (ending : List ValType) (res : IsOf V function a)
      (locs : HaveTypes V held a.locals) (levs : AreOpen V (body a) (room a) a.levels labels ending) where
    abbrev After : Stack → Type 0
    After s = Leads (body a) labels (count_below a.levels) (room a) s ending a.rest

    abbrev Goes : List ValType → Type 0
    Goes ts = After (known ts)

    goes : (ps rs kept : List ValType) (vs : List Value) → HaveTypes V (ps ++ kept) vs → Goes (rs ++ kept) → IsTyped V N function ps rs (with_values a vs)
    goes ps rs kept vs h r =
        record {
          labels = labels;
          ends = ending;
          kept = kept;
          is_of = res;
          locals = locs;
          values = h;
          rest = r;
          levels = levs;
        }

    on : (ts : List ValType) (vs : List Value) → HaveTypes V ts vs → Goes ts → IsTyped V N function [] [] (with_values a vs)
    on ts vs h r = goes [] [] ts vs h r

    -- what an instruction takes is on top, and what it gives is what the code after it begins with
    gave : (f : FuncType) (ts : List ValType) (s : Stack) → shaped (Gives f) (known ts) ≡ Some s → HaveTypes V ts a.values → After s
        → (kept : List ValType) × HaveTypes V (reverse f.params ++ kept) a.values × Goes (reverse f.results ++ kept)
    gave f ts s e h r =
        let q = gives_known f ts s e in
        (q.0, subst (λ z. HaveTypes V z a.values) q.1 h, subst After q.2 r)

    outcome_ok : (t : ValType) (kept : List ValType) (vs : List Value) (x : Outcome) → is_number t ≡ true
        → ((n : ℕ) → x ≡ Whole n → n < 2 ^ type_bits t) → HaveTypes V kept vs → Goes (t ∷ kept) → Ok (outcome_move (with_values a vs) x)
    outcome_ok t kept vs (Whole n) e fits h r = on (t ∷ kept) (Num n ∷ vs) ((e, fits n refl), h) r
    outcome_ok t kept vs (Traps why) e fits h r = tt

    -- what tells whether something is so
    told_ok : (b : Bool) (kept : List ValType) (vs : List Value) → HaveTypes V kept vs → Goes (I32 ∷ kept)
        → Ok (On (pushed (with_values a vs) (Num (one_if b))))
    told_ok b kept vs h r = on (I32 ∷ kept) (Num (one_if b) ∷ vs) ((refl, one_fits b), h) r

    operator_ok : (op : ℕ) (o : Operator) → operator op ≡ Some o → (kept : List ValType)
        → HaveTypes V (reverse (operator_type o).params ++ kept) a.values → Goes (reverse (operator_type o).results ++ kept)
        → Ok (operator_move op o a)
    operator_ok op (Test t) e kept h r =
        let o = tests op t e in
        number_ok t kept a.values _ o.2 h (λ n vs hs. rw o.1 (told_ok _ kept vs hs r))
    operator_ok op (Compare t) e kept h r =
        let o = compares op t e in
        number_ok t (t ∷ kept) a.values _ o.2 h (λ y vs hs. number_ok t kept vs _ o.2 hs (λ x ws hs'. rw o.1 (told_ok _ kept ws hs' r)))
    operator_ok op (Unary t) e kept h r =
        let o = counts op t e in
        number_ok t kept a.values _ o.2 h (λ n vs hs.
        let fits = unary_fits o.0.0 o.0.1 (low o.0.0 n) (low_fits o.0.0 n) in
        rw o.1 (on (t ∷ kept) _ ((o.2, at_width t (bits o.0.0) (unary o.0.0 o.0.1 (low o.0.0 n)) o.3 fits), hs) r))
    operator_ok op (Binary t) e kept h r =
        let o = computes op t e in
        number_ok t (t ∷ kept) a.values _ o.2 h (λ y vs hs. number_ok t kept vs _ o.2 hs (λ x ws hs'.
        let fits : (n : ℕ) → binary o.0.0 o.0.1 (low o.0.0 x) (low o.0.0 y) ≡ Whole n → n < 2 ^ type_bits t =
        λ n q. at_width t (bits o.0.0) n o.3 (binary_fits o.0.0 o.0.1 (low o.0.0 x) (low o.0.0 y) n (low_fits o.0.0 x) (low_fits o.0.0 y) q) in
        rw o.1 (outcome_ok t kept ws (binary o.0.0 o.0.1 (low o.0.0 x) (low o.0.0 y)) o.2 fits hs' r)))
    operator_ok op (Convert from to) e kept h r =
        let o = converts op from to e in
        number_ok from kept a.values _ o.2 h (λ n vs hs.
        let fits = convert_fits o.0 (low (converts_from o.0) n) (low_fits (converts_from o.0) n) in
        rw o.1 (on (to ∷ kept) _ ((o.3, at_width to (bits (converts_to o.0)) (convert o.0 (low (converts_from o.0) n)) o.4 fits), hs) r))

    select_ok : (t : ValType) (kept : List ValType) → HaveTypes V (I32 ∷ t ∷ t ∷ kept) a.values → Goes (t ∷ kept) → Ok (select_move a)
    select_ok t kept h r =
        i32_ok (t ∷ t ∷ kept) a.values (λ n vs. with_top vs (λ y ws. with_top ws (λ x us. On (pushed (with_values a us) (picked x y n))))) h
        (λ n vs hs. top_ok t (t ∷ kept) vs (λ y ws. with_top ws (λ x us. On (pushed (with_values a us) (picked x y n)))) hs
        (λ y ys k hs. top_ok t kept ys (λ x us. On (pushed (with_values a us) (picked x y n))) hs
        (λ x xs k' hs'. on (t ∷ kept) (picked x y n ∷ xs) (picked_has n x y k' k, hs') r)))
      where
        picked_has : (n : ℕ) (x y : Value) → HasType V t x → HasType V t y → HasType V t (picked x y n)
        picked_has zero x y k k' = k'
        picked_has (suc n) x y k k' = k

    plain_ok : (op : ℕ) (form : Option PlainForm) → plain_form op ≡ form → (ts : List ValType) (r : Reach) → HaveTypes V ts a.values
        → length a.values ≤ room a → plainly (form >>= λ f. Some (plain_shape (body a) f)) (known ts) ≡ Some r → After r.stack
        → Ok (plain_move op form a)
    plain_ok op None is ts r h fits e g = absurd cc
    plain_ok op (Some plain.Unreachable) is ts r h fits e g = tt
    plain_ok op (Some plain.Nop) is ts r h fits e g =
        let q = gave (from_to [] []) ts r.stack (shape_is (Gives (from_to [] [])) (known ts) r e) h g in
        on q.0 a.values q.1 q.2
    plain_ok op (Some plain.Return) is ts r h fits e g =
        let q = jumps_known own ts r.stack (shape_is (Jumps own) (known ts) r e) in
        at_end a res locs own q.0 refl (subst (λ z. HaveTypes V z a.values) q.1 h) fits
    plain_ok op (Some plain.Drop) is ts r h fits e g =
        let q = drops_known ts r.stack (shape_is Drops (known ts) r e) in
        top_ok q.0 q.1 a.values _ (subst (λ z. HaveTypes V z a.values) q.2 h) (λ v us k hs. on q.1 us hs (subst After q.3 g))
    plain_ok op (Some plain.Select) is ts r h fits e g =
        let b = went_on (take_off (I32 ∷ []) (known ts)) choose_one r.stack (shape_is Chooses (known ts) r e) in
        let t = taken_known (I32 ∷ []) ts b.0 b.1 in
        let q = chooses_known t.0 r.stack (subst (λ x. choose_one x ≡ Some r.stack) t.2 b.2) in
        select_ok q.0 q.1 (subst (λ z. HaveTypes V z a.values) (t.1 ∙ ap (λ z. I32 ∷ z) q.2) h) (subst After q.3 g)
    plain_ok op (Some plain.RefIsNull) is ts r h fits e g =
        let q = gave (from_to (FuncRef ∷ []) (I32 ∷ [])) ts r.stack (shape_is (Gives (from_to (FuncRef ∷ []) (I32 ∷ []))) (known ts) r e) h g in
        reference_ok FuncRef q.0 a.values _ refl q.1 (λ f us k hs. told_ok (is_null f) q.0 us hs q.2)
    plain_ok op (Some (plain.Operator o)) is ts r h fits e g =
        let q = gave (operator_type o) ts r.stack (shape_is (Gives (operator_type o)) (known ts) r e) h g in
        operator_ok op o (plain_operator op o is) q.0 q.1 q.2

    set_ok : (x : ℕ) (t : ValType) (v : Value) (kept : List ValType) (us : List Value) → slice_get held x ≡ Some t → HasType V t v → HaveTypes V kept us
        → Goes kept → Ok (local_set a x v us (slice_get a.locals x))
    set_ok x t v kept us e k h r =
        let old = have_at V held a.locals x t locs e in
        rw old.1 (record {
          labels = labels;
          ends = ending;
          kept = kept;
          is_of = res;
          locals = have_set V held a.locals x t v locs e k;
          values = h;
          rest = r;
          levels = levs;
        })

    branch_if_ok : (l : ℕ) (t kept : List ValType) (n : ℕ) (us : List Value) → slice_get labels l ≡ Some t → HaveTypes V (reverse t ++ kept) us
        → length us ≤ room a → Goes (reverse t ++ kept) → Ok (branch_if_move (with_values a us) l n)
    branch_if_ok l t kept zero us e h fits r = on (reverse t ++ kept) us h r
    branch_if_ok l t kept (suc n) us e h fits r = branch_ok (with_values a us) res locs l a.levels labels ending t kept levs e h fits

    -- an i32 above these types
    above : (ps kept : List ValType) → HaveTypes V (reverse (ps ++ I32 ∷ []) ++ kept) a.values → HaveTypes V (I32 ∷ (reverse ps ++ kept)) a.values
    above ps kept h = subst (λ z. HaveTypes V z a.values) (ap (λ z. z ++ kept) (reverse-append ps (I32 ∷ []))) h

    short : (t : ValType) (ks : List ValType) (us : List Value) → HaveTypes V ks us → HaveTypes V (t ∷ ks) a.values → length a.values ≤ room a
        → length us ≤ room a
    short t ks us h h' fits =
        let l = have_length V ks us h in
        let m = have_length V (t ∷ ks) a.values h' in
        omega arith

    index_ok : (n : ℕ) (form : Option IndexForm) (ts : List ValType) (r : Reach) → HaveTypes V ts a.values → length a.values ≤ room a
        → plainly (form >>= λ f. index_shape (body a) labels f n) (known ts) ≡ Some r → After r.stack → Ok (index_move n form a)
    index_ok n None ts r h fits e g = absurd cc
    index_ok n (Some index.Br) ts r h fits e g =
        let p = named (slice_get labels n) Jumps (known ts) r e in
        let q = jumps_known p.0 ts r.stack p.2 in
        branch_ok a res locs n a.levels labels ending p.0 q.0 levs p.1 (subst (λ z. HaveTypes V z a.values) q.1 h) fits
    index_ok n (Some index.BrIf) ts r h fits e g =
        let p = named (slice_get labels n) (λ t. Gives (from_to (t ++ I32 ∷ []) t)) (known ts) r e in
        let q = gave (from_to (p.0 ++ I32 ∷ []) p.0) ts r.stack p.2 h g in
        let h' = above p.0 q.0 q.1 in
        i32_ok (reverse p.0 ++ q.0) a.values (λ c vs. branch_if_move (with_values a vs) n c) h'
        (λ m us hs. branch_if_ok n p.0 q.0 m us p.1 hs (short I32 (reverse p.0 ++ q.0) us hs h' fits) q.2)
    index_ok n (Some index.Call) ts r h fits e g =
        let p = named ((N a.unit).functions n) Gives (known ts) r e in
        let q = gave p.0 ts r.stack p.2 h g in
        (p.0, p.1, goes (reverse p.0.params) (reverse p.0.results) q.0 a.values q.1 q.2)
    index_ok n (Some index.LocalGet) ts r h fits e g =
        let p = named (slice_get held n) (λ t. Gives (from_to [] (t ∷ []))) (known ts) r e in
        let q = gave (from_to [] (p.0 ∷ [])) ts r.stack p.2 h g in
        let v = have_at V held a.locals n p.0 locs p.1 in
        rw v.1 (on (p.0 ∷ q.0) (v.0 ∷ a.values) (v.2, q.1) q.2)
    index_ok n (Some index.LocalSet) ts r h fits e g =
        let p = named (slice_get held n) (λ t. Gives (from_to (t ∷ []) [])) (known ts) r e in
        let q = gave (from_to (p.0 ∷ []) []) ts r.stack p.2 h g in
        top_ok p.0 q.0 a.values _ q.1 (λ v us k hs. set_ok n p.0 v q.0 us p.1 k hs q.2)
    index_ok n (Some index.LocalTee) ts r h fits e g =
        let p = named (slice_get held n) (λ t. Gives (from_to (t ∷ []) (t ∷ []))) (known ts) r e in
        let q = gave (from_to (p.0 ∷ []) (p.0 ∷ [])) ts r.stack p.2 h g in
        top_ok p.0 q.0 a.values _ q.1 (λ v us k hs. set_ok n p.0 v (p.0 ∷ q.0) (v ∷ us) p.1 k (k, hs) q.2)
    index_ok n (Some index.GlobalGet) ts r h fits e g =
        let p = named ((N a.unit).globals n) (λ g. Gives (from_to [] (g.value ∷ []))) (known ts) r e in
        let q = gave (from_to [] (p.0.value ∷ [])) ts r.stack p.2 h g in
        (p.0.value ∷ [], (p.0, p.1, refl), goes [] (p.0.value ∷ []) q.0 a.values q.1 q.2)
    index_ok n (Some index.GlobalSet) ts r h fits e g =
        let p = named_given ((N a.unit).globals n) (λ g. g.mutable) (λ g. from_to (g.value ∷ []) []) (known ts) r e in
        let q = gave (from_to (p.0.value ∷ []) []) ts r.stack p.3 h g in
        top_ok p.0.value q.0 a.values _ q.1 (λ v us k hs. ([], (p.0, p.1, k, refl), on q.0 us hs q.2))
    index_ok n (Some index.TableGet) ts r h fits e g =
        let p = named ((N a.unit).tables n) (λ t. Gives (from_to (I32 ∷ []) (t ∷ []))) (known ts) r e in
        let q = gave (from_to (I32 ∷ []) (p.0 ∷ [])) ts r.stack p.2 h g in
        i32_ok q.0 a.values (λ i vs. Does (TableGet n i) (with_values a vs)) q.1
        (λ i us hs. (p.0 ∷ [], (p.0, p.1, refl), goes [] (p.0 ∷ []) q.0 us hs q.2))
    index_ok n (Some index.TableSet) ts r h fits e g =
        let p = named ((N a.unit).tables n) (λ t. Gives (from_to (I32 ∷ t ∷ []) [])) (known ts) r e in
        let q = gave (from_to (I32 ∷ p.0 ∷ []) []) ts r.stack p.2 h g in
        reference_ok p.0 (I32 ∷ q.0) a.values (λ r vs. with_i32 vs (λ i ws. Does (TableSet n i r) (with_values a ws))) (tables a.unit n p.0 p.1) q.1
        (λ f us k hs. i32_ok q.0 us (λ i ws. Does (TableSet n i f) (with_values a ws)) hs (λ i ws hs'. ([], (p.0, p.1, k, refl), on q.0 ws hs' q.2)))
    index_ok n (Some index.RefFunc) ts r h fits e g =
        let w = was_given ((N a.unit).refers n) (from_to [] (FuncRef ∷ [])) (known ts) r e in
        let q = gave (from_to [] (FuncRef ∷ [])) ts r.stack w.1 h g in
        (w.0, goes [] (FuncRef ∷ []) q.0 a.values q.1 q.2)

    -- ---- the memory, tables and segments

    access_ok : (op align offset : ℕ) (m : Option MemoryAccess) → memory_access op ≡ m → (ts : List ValType) (r : Reach)
        → ((x : MemoryAccess) → memory_access op ≡ Some x → is_number x.value ≡ true) → HaveTypes V ts a.values
        → plainly (m >>= access_shape (body a) align) (known ts) ≡ Some r → After r.stack → Ok (access_move op offset m a)
    access_ok op align offset None is ts r numbers h e g = absurd cc
    access_ok op align offset (Some m) is ts r numbers h e g = go m.writes refl
      where
        shape : Bool → FuncType
        shape b = if b then from_to (I32 ∷ m.value ∷ []) [] else from_to (I32 ∷ []) (m.value ∷ [])

        w : ((N a.unit).memory && nat_le align m.exponent ≡ true) × (shaped (Gives (shape m.writes)) (known ts) ≡ Some r.stack)
        w = was_given ((N a.unit).memory && nat_le align m.exponent) (shape m.writes) (known ts) r e

        go : (b : Bool) → m.writes ≡ b
            → Ok (if b then with_number a.values (λ v vs. with_i32 vs (λ at ws. Does (Store m offset at v) (with_values a ws))) else with_i32 a.values
            (λ at vs. Does (Load op m offset at) (with_values a vs)))
        go true b =
            let q = gave (shape true) ts r.stack (subst (λ z. shaped (Gives (shape z)) (known ts) ≡ Some r.stack) b w.1) h g in
            number_ok m.value (I32 ∷ q.0) a.values (λ v vs. with_i32 vs (λ at ws. Does (Store m offset at v) (with_values a ws))) (numbers m is) q.1
            (λ v vs hs. i32_ok q.0 vs (λ at ws. Does (Store m offset at v) (with_values a ws)) hs (λ at ws hs'. ([], refl, on q.0 ws hs' q.2)))
        go false b =
            let q = gave (shape false) ts r.stack (subst (λ z. shaped (Gives (shape z)) (known ts) ≡ Some r.stack) b w.1) h g in
            i32_ok q.0 a.values (λ at vs. Does (Load op m offset at) (with_values a vs)) q.1
            (λ at vs hs. (m.value ∷ [], (is, b, refl), goes [] (m.value ∷ []) q.0 vs hs q.2))

    three_ok : (effect : ℕ → ℕ → ℕ → Effect) (ts : List ValType) (s : Stack) → ((to from n : ℕ) → IsTypedEffect V (N a.unit) (effect to from n) [])
        → HaveTypes V ts a.values → shaped (Gives three_numbers) (known ts) ≡ Some s → After s → Ok (with_three a effect)
    three_ok effect ts s k h e g =
        let q = gave three_numbers ts s e h g in
        i32_ok (I32 ∷ I32 ∷ q.0) a.values (λ n vs. with_i32 vs (λ from ws. with_i32 ws (λ to us. Does (effect to from n) (with_values a us)))) q.1
        (λ n vs hs. i32_ok (I32 ∷ q.0) vs (λ from ws. with_i32 ws (λ to us. Does (effect to from n) (with_values a us))) hs
        (λ from ws hs'. i32_ok q.0 ws (λ to us. Does (effect to from n) (with_values a us)) hs'
        (λ to us hs''. ([], k to from n, on q.0 us hs'' q.2))))

    second_ok : (x y : ℕ) (form : Option SecondForm) (ts : List ValType) (r : Reach) → HaveTypes V ts a.values
        → plainly (form >>= λ f. second_shape (body a) f x y) (known ts) ≡ Some r → After r.stack → Ok (second_move form x y a)
    second_ok x y None ts r h e g = absurd cc
    second_ok x y (Some second.MemoryInit) ts r h e g =
        let w = was_given ((N a.unit).memory && nat_lt x (N a.unit).datas) three_numbers (known ts) r e in
        three_ok (MemoryInit x) ts r.stack (λ to from n. (ltb-true x (N a.unit).datas (and_parts _ _ w.0).1, refl)) h w.1 g
    second_ok x y (Some second.DataDrop) ts r h e g =
        let w = was_given (nat_lt x (N a.unit).datas) (from_to [] []) (known ts) r e in
        let q = gave (from_to [] []) ts r.stack w.1 h g in
        ([], (ltb-true x (N a.unit).datas w.0, refl), on q.0 a.values q.1 q.2)
    second_ok x y (Some second.MemoryCopy) ts r h e g =
        let w = was_given (N a.unit).memory three_numbers (known ts) r e in
        three_ok MemoryCopy ts r.stack (λ to from n. refl) h w.1 g
    second_ok x y (Some second.MemoryFill) ts r h e g =
        let w = was_given (N a.unit).memory three_numbers (known ts) r e in
        three_ok (λ to byte n. MemoryFill to (byte % 256) n) ts r.stack (λ to from n. (omega arith, refl)) h w.1 g
    second_ok x y (Some second.TableInit) ts r h e g =
        let p = both_given ((N a.unit).elems x) ((N a.unit).tables y) same_type three_numbers (known ts) r e in
        three_ok (TableInit x y) ts r.stack (λ to from n. (p.0, p.1, p.2, p.3, refl)) h p.4 g
    second_ok x y (Some second.ElemDrop) ts r h e g =
        let p = named ((N a.unit).elems x) (λ t. Gives (from_to [] [])) (known ts) r e in
        let q = gave (from_to [] []) ts r.stack p.2 h g in
        ([], (p.0, p.1, refl), on q.0 a.values q.1 q.2)
    second_ok x y (Some second.TableCopy) ts r h e g =
        let p = both_given ((N a.unit).tables x) ((N a.unit).tables y) same_type three_numbers (known ts) r e in
        three_ok (TableCopy x y) ts r.stack (λ to from n. (p.0, p.1, p.2, p.3, refl)) h p.4 g
    second_ok x y (Some second.TableGrow) ts r h e g =
        let p = named ((N a.unit).tables x) (λ t. Gives (from_to (t ∷ I32 ∷ []) (I32 ∷ []))) (known ts) r e in
        let q = gave (from_to (p.0 ∷ I32 ∷ []) (I32 ∷ [])) ts r.stack p.2 h g in
        i32_ok (p.0 ∷ q.0) a.values (λ n vs. with_reference vs (λ r ws. Does (TableGrow x r n) (with_values a ws))) q.1
        (λ n vs hs. reference_ok p.0 q.0 vs (λ r ws. Does (TableGrow x r n) (with_values a ws)) (tables a.unit x p.0 p.1) hs
        (λ f ws k hs'. (I32 ∷ [], (p.0, p.1, k, refl), goes [] (I32 ∷ []) q.0 ws hs' q.2)))
    second_ok x y (Some second.TableSize) ts r h e g =
        let p = named ((N a.unit).tables x) (λ t. Gives (from_to [] (I32 ∷ []))) (known ts) r e in
        let q = gave (from_to [] (I32 ∷ [])) ts r.stack p.2 h g in
        (I32 ∷ [], (p.0, p.1, refl), goes [] (I32 ∷ []) q.0 a.values q.1 q.2)
    second_ok x y (Some second.TableFill) ts r h e g =
        let p = named ((N a.unit).tables x) (λ t. Gives (from_to (I32 ∷ t ∷ I32 ∷ []) [])) (known ts) r e in
        let q = gave (from_to (I32 ∷ p.0 ∷ I32 ∷ []) []) ts r.stack p.2 h g in
        i32_ok (p.0 ∷ I32 ∷ q.0) a.values (λ n vs. with_reference vs (λ r ws. with_i32 ws (λ i us. Does (TableFill x i r n) (with_values a us)))) q.1
        (λ n vs hs. reference_ok p.0 (I32 ∷ q.0) vs (λ r ws. with_i32 ws (λ i us. Does (TableFill x i r n) (with_values a us)))
        (tables a.unit x p.0 p.1) hs
        (λ f ws k hs'. i32_ok q.0 ws (λ i us. Does (TableFill x i f n) (with_values a us)) hs'
        (λ i us hs''. ([], (p.0, p.1, k, refl), on q.0 us hs'' q.2))))

    -- ---- blocks, constants and choices

    either_ok : (f : FuncType) (kept : List ValType) (is js : List Instr) (q p : Reach) (n : ℕ) (us : List Value)
        → HaveTypes V (reverse f.params ++ kept) us → Goes (reverse f.results ++ kept)
        → afters (body a) is (f.results ∷ labels) (known (reverse f.params)) ≡ Some q → ends_with f.results q.stack ≡ true
        → afters (body a) js (f.results ∷ labels) (known (reverse f.params)) ≡ Some p → ends_with f.results p.stack ≡ true
        → count_below a.levels + (length kept + max q.high p.high) ≤ room a → constants_fit is ≡ true → constants_fit js ≡ true
        → suc (length labels) + nesting_all is ≤ suc most_nested → suc (length labels) + nesting_all js ≤ suc most_nested → Ok (if_move (with_values a us) is js f n)
    either_ok f kept is js q p zero us h r i ei j ej fits fi fj di dj =
        entered_ok (with_values a us) labels ending res locs levs f kept f.results None js (length f.results) p h r refl j ej (omega arith) fj dj
        (λ b x. refl)
    either_ok f kept is js q p (suc n) us h r i ei j ej fits fi fj di dj =
        entered_ok (with_values a us) labels ending res locs levs f kept f.results None is (length f.results) q h r refl i ei (omega arith) fi di
        (λ b x. refl)

    const_ok : (t : ValType) (v : Value) (ts : List ValType) (r : Reach) → HasType V t v → HaveTypes V ts a.values
        → shaped (Gives (from_to [] (t ∷ []))) (known ts) ≡ Some r.stack → After r.stack → Ok (On (pushed a v))
    const_ok t v ts r k h e g =
        let q = gave (from_to [] (t ∷ [])) ts r.stack e h g in
        on (t ∷ q.0) (v ∷ a.values) (k, q.1) q.2

    -- what is asked of the memory
    asks_ok : (effect : Effect) (t : ValType) (kept : List ValType) (vs : List Value) → IsTypedEffect V (N a.unit) effect (t ∷ [])
        → HaveTypes V kept vs → Goes (t ∷ kept) → Ok (Does effect (with_values a vs))
    asks_ok effect t kept vs k h g = (t ∷ [], k, goes [] (t ∷ []) kept vs h g)

    pub choice_ok : (us ts : List ValType) (r : Reach) → HaveTypes V ts a.values → plainly (select_shape us) (known ts) ≡ Some r → After r.stack
        → Ok (select_move a)
    choice_ok [] ts r h e g = absurd cc
    choice_ok (t ∷ []) ts r h e g =
        let q = gave (from_to (t ∷ t ∷ I32 ∷ []) (t ∷ [])) ts r.stack (shape_is (Gives (from_to (t ∷ t ∷ I32 ∷ []) (t ∷ []))) (known ts) r e) h g in
        select_ok t q.0 q.1 q.2
    choice_ok (t ∷ u ∷ us) ts r h e g = absurd cc

    block_is : (c : Context) (t : BlockType) → expanded c.types t ≡ block_type c t
    block_is c block.Empty = refl
    block_is c (block.Value t) = refl
    block_is c (block.Index n) = refl

    -- a block's type is found
    blocked : (t : BlockType) (f : FuncType) (go : FuncType → Move) → block_type (body a) t ≡ Some f → Ok (go f)
        → Ok (block_with (expanded (N a.unit).types t) go)
    blocked t f go e h = rw (block_is (body a) t, e) h

    if_fits : (t : BlockType) (x : Expr) (o : Option Expr) → every_here constant_fits (with_inside constants_fit (Open.If t x o)) ≡ true
        → (constants_fit x.list ≡ true) × (constants_fit (else_of o) ≡ true)
    if_fits t x None fit = (fit, refl)
    if_fits t x (Some y) fit = and_parts (constants_fit x.list) (constants_fit y.list) fit

    if_deep : (t : BlockType) (x : Expr) (o : Option Expr) (n : ℕ) → n + nesting_here (with_inside nesting_all (Open.If t x o)) ≤ suc most_nested
        → (suc n + nesting_all x.list ≤ suc most_nested) × (suc n + nesting_all (else_of o) ≤ suc most_nested)
    if_deep t x None n le = (omega arith, omega arith)
    if_deep t x (Some y) n le = (omega arith, omega arith)

    pub instr_ok : (x : Open.Instr-F Instr Expr) (ts : List ValType) (r : Reach) → HaveTypes V ts a.values → length a.values ≤ room a
        → typed_here (body a) (with_inside (afters (body a)) x) labels (known ts) ≡ Some r → count_below a.levels + r.high ≤ room a
        → every_here constant_fits (with_inside constants_fit x) ≡ true → length labels + nesting_here (with_inside nesting_all x) ≤ suc most_nested
        → After r.stack → Ok (instr_move (N a.unit).types x a)
    instr_ok (Open.Plain op) ts r h fits e high fit deep g = plain_ok op (plain_form op) refl ts r h fits e g
    instr_ok (Open.Index op n) ts r h fits e high fit deep g = index_ok n (index_form op) ts r h fits e g
    instr_ok (Open.Block t x) ts r h fits e high fit deep g =
        let b = went_on (block_type (body a) t) (λ f. nested (afters (body a) x.list) f.results f labels (known ts)) r e in
        let d = nested_known (afters (body a) x.list) b.0.results b.0 labels ts r b.2 in
        let eq = d.high in
        blocked t b.0 (block_move a x.list) b.1
        (entered_ok a labels ending res locs levs b.0 d.kept b.0.results None x.list (length b.0.results) d.q
        (subst (λ z. HaveTypes V z a.values) d.is_on h) (subst After d.leaves g) refl d.inner d.ended (omega arith) fit
        (omega arith) (λ b x. refl))
    instr_ok (Open.Loop t x) ts r h fits e high fit deep g =
        let b = went_on (block_type (body a) t) (λ f. nested (afters (body a) x.list) f.params f labels (known ts)) r e in
        let d = nested_known (afters (body a) x.list) b.0.params b.0 labels ts r b.2 in
        let eq = d.high in
        blocked t b.0 (loop_move a x.list) b.1
        (entered_ok a labels ending res locs levs b.0 d.kept b.0.params (Some x.list) x.list (length b.0.params) d.q
        (subst (λ z. HaveTypes V z a.values) d.is_on h) (subst After d.leaves g) refl d.inner d.ended (omega arith) fit
        (omega arith) (λ b x. x))
    instr_ok (Open.If t x o) ts r h fits e high fit deep g =
        let b = went_on (block_type (body a) t)
        (λ f. either_way (afters (body a) x.list) (or_nothing (inside_else (afters (body a)) o)) f labels (known ts)) r e in
        let d = either_known (afters (body a) x.list) (or_nothing (inside_else (afters (body a)) o)) b.0 labels ts r b.2 in
        let eq = d.high in
        let parts = if_fits t x o fit in
        let levels = if_deep t x o (length labels) deep in
        let other = subst (λ m. m (b.0.results ∷ labels) (known (reverse b.0.params)) ≡ Some d.p) (else_is (body a) o) d.inner_other in
        blocked t b.0 (λ f. with_i32 a.values (λ n vs. if_move (with_values a vs) x.list (else_of o) f n)) b.1
        (i32_ok (reverse b.0.params ++ d.kept) a.values (λ n vs. if_move (with_values a vs) x.list (else_of o) b.0 n)
        (subst (λ z. HaveTypes V z a.values) d.is_on h)
        (λ n us hs. either_ok b.0 d.kept x.list (else_of o) d.q d.p n us hs (subst After d.leaves g) d.inner d.ended other d.ended_other
        (omega arith) parts.0 parts.1 levels.0 levels.1))
    instr_ok (Open.BrTable ks k) ts r h fits e high fit deep g =
        let q = tabled_known labels ks k ts r.stack (flat_is _ r e) in
        let h' : HaveTypes V (I32 ∷ q.1) a.values = subst (λ z. HaveTypes V z a.values) q.2 h in
        i32_ok q.1 a.values (λ n vs. branch_move (with_values a vs) (unwrap_or (slice_get ks n) k)) h' (λ n us hs.
        let y = land_known ks q.0 k n labels q.1 q.3 in
        branch_ok (with_values a us) res locs (unwrap_or (slice_get ks n) k) a.levels labels ending y.0 y.1 levs y.2
        (subst (λ z. HaveTypes V z us) y.3 hs) (short I32 q.1 us hs h' fits))
    instr_ok (Open.CallIndirect ty table) ts r h fits e high fit deep g =
        let p = plainly_some (indirect_shape (body a) ty table) (known ts) r e in
        let t = went_on ((N a.unit).tables table) _ p.0 p.1 in
        let f = went_on ((N a.unit).types ty) _ p.0 t.2 in
        let shape : plainly (given (same_type t.0 FuncRef) (from_to (f.0.params ++ I32 ∷ []) f.0.results)) (known ts) ≡ Some r =
        subst (λ z. plainly z (known ts) ≡ Some r) (p.1 ∙ sym f.2) e in
        let w = was_given (same_type t.0 FuncRef) (from_to (f.0.params ++ I32 ∷ []) f.0.results) (known ts) r shape in
        let q = gave (from_to (f.0.params ++ I32 ∷ []) f.0.results) ts r.stack w.1 h g in
        i32_ok (reverse f.0.params ++ q.0) a.values (λ i vs. CallsEntry table ty i (with_values a vs)) (above f.0.params q.0 q.1)
        (λ n us hs. (f.0, t.0, t.1, f.1, goes (reverse f.0.params) (reverse f.0.results) q.0 us hs q.2))
    instr_ok (Open.Select us) ts r h fits e high fit deep g = choice_ok us ts r h e g
    instr_ok (Open.Access op align offset) ts r h fits e high fit deep g =
        access_ok op align offset (memory_access op) refl ts r (λ x found. access_number op x found) h e g
    instr_ok Open.MemorySize ts r h fits e high fit deep g =
        let w = was_given (N a.unit).memory (from_to [] (I32 ∷ [])) (known ts) r e in
        let q = gave (from_to [] (I32 ∷ [])) ts r.stack w.1 h g in
        asks_ok MemorySize I32 q.0 a.values refl q.1 q.2
    instr_ok Open.MemoryGrow ts r h fits e high fit deep g =
        let w = was_given (N a.unit).memory (from_to (I32 ∷ []) (I32 ∷ [])) (known ts) r e in
        let q = gave (from_to (I32 ∷ []) (I32 ∷ [])) ts r.stack w.1 h g in
        i32_ok q.0 a.values (λ n vs. Does (MemoryGrow n) (with_values a vs)) q.1 (λ n us hs. asks_ok (MemoryGrow n) I32 q.0 us refl hs q.2)
    instr_ok (Open.I32Const n) ts r h fits e high fit deep g =
        const_ok I32 (Num (cast_unsigned w32 n)) ts r (refl, ltb-true (cast_unsigned w32 n) (2 ^ 32) fit) h
        (shape_is (Gives (from_to [] (I32 ∷ []))) (known ts) r e) g
    instr_ok (Open.I64Const n) ts r h fits e high fit deep g =
        const_ok I64 (Num (cast_unsigned w64 n)) ts r (refl, ltb-true (cast_unsigned w64 n) (2 ^ 64) fit) h
        (shape_is (Gives (from_to [] (I64 ∷ []))) (known ts) r e) g
    instr_ok (Open.F32Const n) ts r h fits e high fit deep g = absurd cc
    instr_ok (Open.F64Const n) ts r h fits e high fit deep g = absurd cc
    instr_ok (Open.RefNull t) ts r h fits e high fit deep g =
        let w = was_given (same_type t FuncRef) (from_to [] (FuncRef ∷ [])) (known ts) r e in
        const_ok FuncRef (Func None) ts r (refl, tt) h w.1 g
    instr_ok (Open.Prefixed op x y) ts r h fits e high fit deep g = second_ok x y (second_form op) ts r h e g

  -- ---- the end of a block, and the whole step

  end_ok : (a : Activation) (labels : Labels) (ending : List ValType) (res : IsOf V function a)
      (locs : HaveTypes V held a.locals) (ls : List Level) → AreOpen V (body a) (room a) ls labels ending → HaveTypes V (reverse ending) a.values
      → Ok (end_move ls a)
  end_ok a labels ending res locs [] levs h =
      let h' : HaveTypes V (reverse own) a.values = subst (λ z. HaveTypes V (reverse z) a.values) levs.1 h in
      let n = have_length V (reverse own) a.values h' in
      let l = length-reverse own in
      let r = res.1 in
      let same_length : nat_eq (length a.values) a.results ≡ true = grind (arith, nat_tests) in
      rw same_length h'
  end_ok a [] ending res locs (l ∷ ls) levs h = absurd levs
  end_ok a (t ∷ labels) ending res locs (l ∷ ls) levs h = left_ok a res locs l ls t labels ending levs.0 a.values levs.1 levs.2 h

  code_ok : (is : List Instr) (a : Activation) (labels : Labels) (ending ts : List ValType) (res : IsOf V function a)
      (locs : HaveTypes V held a.locals) → AreOpen V (body a) (room a) a.levels labels ending → HaveTypes V ts a.values
      → Leads (body a) labels (count_below a.levels) (room a) (known ts) ending is → Ok (code_move (N a.unit).types is a)
  code_ok [] a labels ending ts res locs levs h r =
      let q : ends_with ending (known ts) ≡ true = subst (λ z. ends_with ending z.stack ≡ true) (sym (some_same r.typed)) r.ends in
      end_ok a labels ending res locs a.levels levs (subst (λ z. HaveTypes V z a.values) (ends_known ending ts q) h)
  code_ok (i ∷ is) a labels ending ts res locs levs h r =
      let e = opened (body a) labels (count_below a.levels) (room a) ts ending i is r in
      let n = listed (body a) labels (count_below a.levels) (room a) ts ending (i ∷ is) r in
      let l = have_length V ts a.values h in
      instr_ok (record a { rest = is }) labels ending res locs levs (out-Instr i) ts e.reach h (omega arith) e.typed e.high e.constants e.nested e.rest

  -- a typed activation has a move, and what it leads to is typed
  pub move_ok : (a : Activation) → IsTyped V N function [] [] a → Ok (move (N a.unit).types a)
  move_ok a x = code_ok a.rest a x.labels x.ends x.kept x.is_of x.locals x.levels x.values x.rest
