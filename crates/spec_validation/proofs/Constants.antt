-- Constant expressions of a type: every value on the stack is of the type, so that it is enough to count them.
use Rattle.std.proofs.Common.{◌≡◌, ℕ, suc, ◌+◌, ◌≤◌, Bool, true, false, ◌&&◌, ◌||◌, List, [], ◌∷◌, length, map, nat_eq, nat_le, Option, Some, None, if◌then◌else◌, refl, sym, ap, ◌∙◌, arith}
use Rattle.std.specs.Prelude.{is_some, slice_get, max}
use Rattle.std.specs.List.{list_all}
use Rattle.std.proofs.lemmas.Bool.{and_parts, and_from}
use Rattle.std.proofs.lemmas.Bool.Decides.{nat_tests}
use Rattle.std.proofs.lemmas.List.{length-map}
use Rattle.spec_binary.specs.wasm_form.declared.types.ValType.{ValType}
use Rattle.spec_binary.specs.wasm_form.declared.types.ValType.TheVariants.{I32, I64, FuncRef}
use Rattle.spec_binary.specs.wasm_form.declared.types.GlobalType.{GlobalType}
use Rattle.spec_binary.specs.wasm_form.declared.instr.Instr.{Instr, out-Instr}
use Rattle.spec_binary.specs.wasm_form.declared.instr.Instr.TheOpen as Open
use Rattle.spec_binary.specs.wasm_form.declared.instr.Expr.{Expr}
use Rattle.spec_binary.specs.wasm_form.declared.module.Module.{Module}
use Rattle.spec_binary.proofs.of_wasm_form.Levels.{with_inside}
use Rattle.spec_binary.specs.wasm_form.declared.plain.Operator.TheVariants.{Binary}
use Rattle.spec_binary.specs.wasm_form.declared.plain.PlainForm.TheVariants as plain
use Rattle.spec_binary.specs.wasm_form.declared.index.IndexForm.{IndexForm}
use Rattle.spec_binary.specs.wasm_form.declared.index.IndexForm.TheVariants.{RefFunc, GlobalGet}
use Rattle.spec_binary.specs.wasm_form.Index.{index_form}
use Rattle.spec_binary.specs.wasm_form.Plain.{plain_form}
use Rattle.spec_binary.specs.wasm_form.Ranges.{within}
use Rattle.spec_binary.specs.Options.{◌>>=◌}
use Rattle.spec_binary.specs.SameTypes.{same_type}
use Rattle.spec_binary.specs.IndexSpaces.{imports_of, globals_in}
use Rattle.spec_binary.proofs.OneType.{one_type, itself}
use Rattle.spec_binary.specs.Counted.{Step, Puts, Joins, Other, after_step, left, is_one}
use Rattle.spec_validation.specs.Counted.{arithmetic_type, Kind, JoinsTwo, PutsOne, kind_of, step_at, step_of}
use Rattle.spec_validation.specs.Stacks.{Stack, put_on, ends_with}
use Rattle.spec_validation.specs.Context.{Context, Labels, index_shape}
use Rattle.spec_validation.specs.Typing.{Reach, Meaning, typed_here, in_order, flat, plainly, after, afters, height}
use Rattle.spec_validation.specs.Faults.{is_function, immutable, constant_index, constant_step, may_be_constant, constant_context, is_constant}
use Rattle.spec_validation.proofs.Levels.{after_level}

-- ---- what an instruction of a constant expression does

some_operator : (a b : Bool) → is_some ((if a then Some I32 else if b then Some I64 else None) >>= λ u. Some (JoinsTwo u)) ≡ (a || b)
some_operator true b = refl
some_operator false true = refl
some_operator false false = refl

some_put : (o : Option ValType) → is_some (o >>= λ u. Some (PutsOne u)) ≡ is_some o
some_put None = refl
some_put (Some u) = refl

pub may_be_kind : (m : Module) (x : Open.Instr-F Instr Expr) → may_be_constant m x ≡ is_some (kind_of m x)
may_be_kind m (Open.Plain op) = sym (some_operator (within 0x6A 0x6C op) (within 0x7C 0x7E op))
may_be_kind m (Open.Index op n) = sym (some_put (constant_step m (Open.Index op n)))
may_be_kind m (Open.RefNull t) = sym (some_put (constant_step m (Open.RefNull t)))
may_be_kind m (Open.I32Const n) = refl
may_be_kind m (Open.I64Const n) = refl
may_be_kind m (Open.Block t e) = refl
may_be_kind m (Open.Loop t e) = refl
may_be_kind m (Open.If t e other) = refl
may_be_kind m (Open.BrTable ks last) = refl
may_be_kind m (Open.CallIndirect ty table) = refl
may_be_kind m (Open.Select ts) = refl
may_be_kind m (Open.Access op align offset) = refl
may_be_kind m Open.MemorySize = refl
may_be_kind m Open.MemoryGrow = refl
may_be_kind m (Open.F32Const bits) = refl
may_be_kind m (Open.F64Const bits) = refl
may_be_kind m (Open.Prefixed op a b) = refl

-- ---- counting

-- which instructions put a value of the type there, and which make one of two
pub put_type : (t : ValType) (o : Option ValType) → step_at t (o >>= λ u. Some (PutsOne u)) ≡ Puts → o ≡ Some t
put_type t None e = absurd cc
put_type t (Some u) e = go (same_type t u) refl e
  where
    go : (b : Bool) → same_type t u ≡ b → (if b then Puts else Other) ≡ Puts → Some u ≡ Some t
    go true q h = ap Some (sym (one_type t u q))
    go false q h = absurd cc

pub put_never_joins : (t : ValType) (o : Option ValType) → step_at t (o >>= λ u. Some (PutsOne u)) ≡ Joins → ⊥
put_never_joins t None e = cc
put_never_joins t (Some u) e = go (same_type t u) e
  where
    go : (b : Bool) → (if b then Puts else Other) ≡ Joins → ⊥
    go true h = cc
    go false h = cc

pub join_type : (t : ValType) (o : Option ValType) → step_at t (o >>= λ u. Some (JoinsTwo u)) ≡ Joins → o ≡ Some t
join_type t None e = absurd cc
join_type t (Some u) e = go (same_type t u) refl e
  where
    go : (b : Bool) → same_type t u ≡ b → (if b then Joins else Other) ≡ Joins → Some u ≡ Some t
    go true q h = ap Some (sym (one_type t u q))
    go false q h = absurd cc

pub join_never_puts : (t : ValType) (o : Option ValType) → step_at t (o >>= λ u. Some (JoinsTwo u)) ≡ Puts → ⊥
join_never_puts t None e = cc
join_never_puts t (Some u) e = go (same_type t u) e
  where
    go : (b : Bool) → (if b then Joins else Other) ≡ Puts → ⊥
    go true h = cc
    go false h = cc

-- ---- its type

-- these values, the first one topmost, over a known floor
abbrev known : List ValType → Stack
known us = record { entries = map Some us; loose = false }

abbrev reach : List ValType → Option Reach
reach us = Some (record { stack = known us; high = 0 })

abbrev joined : ValType → List ValType → Option Reach
joined u (a ∷ b ∷ us) = if same_type u a && same_type u b then reach (u ∷ us) else None
joined u _ = None

-- what it does to known values
abbrev done : Kind → List ValType → Option Reach
done (JoinsTwo u) us = joined u us
done (PutsOne u) us = reach (u ∷ us)

operator_form : (op : ℕ) (u : ValType) → arithmetic_type op ≡ Some u → plain_form op ≡ Some (plain.Operator (Binary u))
operator_form op u e = go (within 0x6A 0x6C op) refl (within 0x7C 0x7E op) refl e
  where
    form : (k : ℕ) → op ≡ k → (t : ValType) → t ≡ u → plain_form k ≡ Some (plain.Operator (Binary t)) → plain_form op ≡ Some (plain.Operator (Binary u))
    form k is t same known_form = rw (is, ← same) known_form

    go : (a : Bool) → within 0x6A 0x6C op ≡ a → (b : Bool) → within 0x7C 0x7E op ≡ b → (if a then Some I32 else if b then Some I64 else None) ≡ Some u
        → plain_form op ≡ Some (plain.Operator (Binary u))
    go true p b q h = by (nat_eq op 0x6A) refl (nat_eq op 0x6B) refl
      where
        same : I32 ≡ u
        same = cc

        by : (y : Bool) → nat_eq op 0x6A ≡ y → (z : Bool) → nat_eq op 0x6B ≡ z → plain_form op ≡ Some (plain.Operator (Binary u))
        by true r z s = form 0x6A (grind (arith, nat_tests)) I32 same refl
        by false r true s = form 0x6B (grind (arith, nat_tests)) I32 same refl
        by false r false s =
            let both = and_parts (nat_le 0x6A op) (nat_le op 0x6C) p in
            let least = both.0 in
            let most = both.1 in
            form 0x6C (grind (arith, nat_tests)) I32 same refl
    go false p true q h = by (nat_eq op 0x7C) refl (nat_eq op 0x7D) refl
      where
        same : I64 ≡ u
        same = cc

        by : (y : Bool) → nat_eq op 0x7C ≡ y → (z : Bool) → nat_eq op 0x7D ≡ z → plain_form op ≡ Some (plain.Operator (Binary u))
        by true r z s = form 0x7C (grind (arith, nat_tests)) I64 same refl
        by false r true s = form 0x7D (grind (arith, nat_tests)) I64 same refl
        by false r false s =
            let both = and_parts (nat_le 0x7C op) (nat_le op 0x7E) q in
            let least = both.0 in
            let most = both.1 in
            form 0x7E (grind (arith, nat_tests)) I64 same refl
    go false p false q h = absurd cc

module _ (m : Module) (t : ValType) (labels : Labels) where
  abbrev c : Context
  c = constant_context m t

  taken : (u : ValType) (under : Stack) (b : Bool) → flat ((if b then Some under else None) >>= λ s. Some (put_on (u ∷ []) s))
      ≡ (if b then Some (record { stack = put_on (u ∷ []) under; high = 0 }) else None)
  taken u under true = refl
  taken u under false = refl

  join_typed : (op : ℕ) (u : ValType) → arithmetic_type op ≡ Some u → (us : List ValType) → typed_here c (Open.Plain op) labels (known us) ≡ joined u us
  join_typed op u e [] = rw (operator_form op u e) refl
  join_typed op u e (a ∷ []) = rw (operator_form op u e) (taken u (known []) (same_type u a && false) ∙ none (same_type u a))
    where
      none : (b : Bool) → (if b && false then reach (u ∷ []) else None) ≡ None
      none true = refl
      none false = refl
  join_typed op u e (a ∷ b ∷ us) =
      rw (operator_form op u e) (taken u (known us) (same_type u a && (same_type u b && true)) ∙ some (same_type u a) (same_type u b))
    where
      some : (y z : Bool) → (if y && (z && true) then reach (u ∷ us) else None) ≡ (if y && z then reach (u ∷ us) else None)
      some true true = refl
      some true false = refl
      some false z = refl

  -- an instruction that puts a constant there
  fixed : (ty : GlobalType) (u : ValType) → immutable ty ≡ Some u → ty.value ≡ u
  fixed ty u e = go ty.mutable refl
    where
      go : (b : Bool) → ty.mutable ≡ b → ty.value ≡ u
      go true q = absurd (let none : immutable ty ≡ None = rw q refl in cc)
      go false q = (let some : immutable ty ≡ Some ty.value = rw q refl in cc)

  index_typed : (form : IndexForm) (k : ℕ) (u : ValType) → constant_index m form k ≡ Some u → (us : List ValType)
      → plainly (index_shape c labels form k) (known us) ≡ reach (u ∷ us)
  index_typed RefFunc k u e us = go (is_function m k) refl e
    where
      go : (b : Bool) → is_function m k ≡ b → (if b then Some FuncRef else None) ≡ Some u → plainly (index_shape c labels RefFunc k) (known us) ≡ reach (u ∷ us)
      go true q h = (let same : FuncRef ≡ u = cc in rw (q, ← same) refl)
      go false q h = absurd cc
  index_typed GlobalGet k u e us = go (slice_get (imports_of globals_in m.imports) k) refl e
    where
      go : (o : Option GlobalType) → slice_get (imports_of globals_in m.imports) k ≡ o → (o >>= immutable) ≡ Some u
          → plainly (index_shape c labels GlobalGet k) (known us) ≡ reach (u ∷ us)
      go None q h = absurd cc
      go (Some ty) q h = rw (q, ← fixed ty u h) refl
  index_typed _ k u e us = absurd cc

  put_typed : (x : Open.Instr-F Instr Expr) (u : ValType) → constant_step m x ≡ Some u → (us : List ValType)
      → typed_here c (with_inside (afters c) x) labels (known us) ≡ reach (u ∷ us)
  put_typed (Open.I32Const n) u e us = (let same : I32 ≡ u = cc in rw (← same) refl)
  put_typed (Open.I64Const n) u e us = (let same : I64 ≡ u = cc in rw (← same) refl)
  put_typed (Open.RefNull v) u e us = go (same_type v FuncRef) refl e
    where
      go : (b : Bool) → same_type v FuncRef ≡ b → (if b then Some FuncRef else None) ≡ Some u → typed_here c (Open.RefNull v) labels (known us) ≡ reach (u ∷ us)
      go true q h = (let same : FuncRef ≡ u = cc in rw (q, ← same) refl)
      go false q h = absurd cc
  put_typed (Open.Index op k) u e us = go (index_form op) refl e
    where
      go : (o : Option IndexForm) → index_form op ≡ o → (o >>= λ f. constant_index m f k) ≡ Some u → typed_here c (Open.Index op k) labels (known us) ≡ reach (u ∷ us)
      go None q h = absurd cc
      go (Some form) q h = rw q (index_typed form k u h us)
  put_typed _ u e us = absurd cc

  -- each instruction of a constant expression does what its kind does
  kind_typed : (i : Instr) (x : Open.Instr-F Instr Expr) → out-Instr i ≡ x → (k : Kind) → kind_of m x ≡ Some k → (us : List ValType)
      → after c i labels (known us) ≡ done k us
  kind_typed i (Open.Plain op) out k e us = ap (λ (f : Meaning). f labels (known us)) (after_level c i (Open.Plain op) out) ∙ go (arithmetic_type op) refl e
    where
      go : (o : Option ValType) → arithmetic_type op ≡ o → (o >>= λ u. Some (JoinsTwo u)) ≡ Some k → typed_here c (Open.Plain op) labels (known us) ≡ done k us
      go None q h = absurd cc
      go (Some u) q h = (let same : JoinsTwo u ≡ k = cc in rw (← same) (join_typed op u q us))
  kind_typed i x out k e us = ap (λ (f : Meaning). f labels (known us)) (after_level c i x out) ∙ go (constant_step m x) refl e
    where
      go : (o : Option ValType) → constant_step m x ≡ o → (o >>= λ u. Some (PutsOne u)) ≡ Some k → typed_here c (with_inside (afters c) x) labels (known us) ≡ done k us
      go None q h = absurd cc
      go (Some u) q h = (let same : PutsOne u ≡ k = cc in rw (← same) (put_typed x u q us))

-- ---- typing and counting

abbrev AreAll : ValType → List ValType → Type 0
AreAll t [] = Unit {0}
AreAll t (u ∷ us) = (t ≡ u) × AreAll t us

-- the stack holds a value of the type, and nothing else
abbrev ends : ValType → Option Reach → Bool
ends t None = false
ends t (Some r) = ends_with (t ∷ []) r.stack

module _ (m : Module) (t : ValType) where
  abbrev labels : Labels
  labels = (t ∷ []) ∷ []

  abbrev d : Context
  d = constant_context m t

  abbrev all_typed : List Instr → List ValType → Bool
  all_typed is us = ends t (afters d is labels (known us))

  goes_on : (f : Meaning) (fs : List Meaning) (s : Stack) (r : Reach) → f labels s ≡ Some r → ends t (in_order (f ∷ fs) labels s) ≡ ends t (in_order fs labels r.stack)
  goes_on f fs s r e = rw e (go (in_order fs labels r.stack))
    where
      go : (o : Option Reach) → ends t (o >>= λ q. Some (record { stack = q.stack; high = max (length s.entries) (max r.high q.high) })) ≡ ends t o
      go None = refl
      go (Some q) = refl

  stops : (f : Meaning) (fs : List Meaning) (s : Stack) → f labels s ≡ None → ends t (in_order (f ∷ fs) labels s) ≡ false
  stops f fs s e = rw e refl

  one_left : (us : List ValType) → ends_with (t ∷ []) (known us) ≡ true → AreAll t us × (Some (length us) ≡ Some 1)
  one_left [] e = absurd cc
  one_left (a ∷ []) e =
      let begins = (and_parts (same_type t a && true) _ e).0 in
      ((one_type t a (and_parts (same_type t a) true begins).0, tt), refl)
  one_left (a ∷ b ∷ us) e =
      let short = (and_parts (same_type t a && true) _ e).1 in
      let long = length-map us Some in
      absurd (let le : suc (suc (length (map Some us))) ≤ 1 = grind (arith, nat_tests) in omega (arith, le))

  some_kind : (o : Option Kind) → is_some o ≡ true → (k : Kind) × (o ≡ Some k)
  some_kind None e = absurd cc
  some_kind (Some k) e = (k, refl)

  typed_counts : (is : List Instr) (us : List ValType) → list_all (λ i. may_be_constant m (out-Instr i)) is ≡ true → all_typed is us ≡ true
      → AreAll t us × (left (step_of m t) is (length us) ≡ Some 1)
  typed_counts [] us may e = one_left us e
  typed_counts (i ∷ is) us may e =
      let both = and_parts (may_be_constant m (out-Instr i)) (list_all (λ j. may_be_constant m (out-Instr j)) is) may in
      let k = some_kind (kind_of m (out-Instr i)) (sym (may_be_kind m (out-Instr i)) ∙ both.0) in
      go k.0 k.1 us (kind_typed m t labels i (out-Instr i) refl k.0 k.1 us) e (λ vs h. typed_counts is vs both.1 h)
    where
      then_left : (k : Kind) → kind_of m (out-Instr i) ≡ Some k → (n r : ℕ) → after_step (step_at t (Some k)) n ≡ Some r → left (step_of m t) is r ≡ Some 1
          → left (step_of m t) (i ∷ is) n ≡ Some 1
      then_left k is_kind n r here later =
          ap (λ (o : Option Kind). after_step (step_at t o) n >>= left (step_of m t) is) is_kind ∙ ap (λ (o : Option ℕ). o >>= left (step_of m t) is) here ∙ later

      go : (k : Kind) → kind_of m (out-Instr i) ≡ Some k → (us : List ValType) → after d i labels (known us) ≡ done k us → all_typed (i ∷ is) us ≡ true
          → ((vs : List ValType) → all_typed is vs ≡ true → AreAll t vs × (left (step_of m t) is (length vs) ≡ Some 1))
          → AreAll t us × (left (step_of m t) (i ∷ is) (length us) ≡ Some 1)
      go (PutsOne u) is_kind us does typed later =
          let rest = later (u ∷ us) (sym (goes_on (after d i) (map (after d) is) (known us) (record { stack = known (u ∷ us); high = 0 }) does) ∙ typed) in
          let puts : step_at t (Some (PutsOne u)) ≡ Puts = ap (λ v. step_at t (Some (PutsOne v))) (sym rest.0.0) ∙ ap (λ b. if b then Puts else Other) (itself t) in
          (rest.0.1, then_left (PutsOne u) is_kind (length us) (suc (length us)) (ap (λ z. after_step z (length us)) puts) rest.1)
      go (JoinsTwo u) is_kind [] does typed later = absurd (let no = stops (after d i) (map (after d) is) (known []) does in cc)
      go (JoinsTwo u) is_kind (a ∷ []) does typed later = absurd (let no = stops (after d i) (map (after d) is) (known (a ∷ [])) does in cc)
      go (JoinsTwo u) is_kind (a ∷ b ∷ us) does typed later = by (same_type u a) refl (same_type u b) refl does
        where
          by : (y : Bool) → same_type u a ≡ y → (z : Bool) → same_type u b ≡ z → after d i labels (known (a ∷ b ∷ us)) ≡ (if y && z then reach (u ∷ us) else None)
              → AreAll t (a ∷ b ∷ us) × (left (step_of m t) (i ∷ is) (length (a ∷ b ∷ us)) ≡ Some 1)
          by true p true q h =
              let rest = later (u ∷ us) (sym (goes_on (after d i) (map (after d) is) (known (a ∷ b ∷ us)) (record { stack = known (u ∷ us); high = 0 }) h) ∙ typed) in
              let same = rest.0.0 in
              let joins : step_at t (Some (JoinsTwo u)) ≡ Joins = ap (λ v. step_at t (Some (JoinsTwo v))) (sym same) ∙ ap (λ w. if w then Joins else Other) (itself t) in (
                (same ∙ one_type u a p, (same ∙ one_type u b q, rest.0.1)),
                then_left (JoinsTwo u) is_kind (suc (suc (length us))) (suc (length us)) (ap (λ z. after_step z (suc (suc (length us)))) joins) rest.1,
              )
          by true p false q h = absurd (let no = stops (after d i) (map (after d) is) (known (a ∷ b ∷ us)) h in cc)
          by false p z q h = absurd (let no = stops (after d i) (map (after d) is) (known (a ∷ b ∷ us)) h in cc)

  -- ---- the other way

  ends_known : (us : List ValType) → AreAll t us → Some (length us) ≡ Some 1 → ends_with (t ∷ []) (known us) ≡ true
  ends_known [] all e = absurd cc
  ends_known (a ∷ []) all e = rw (← all.0, itself t) refl
  ends_known (a ∷ b ∷ us) all e = absurd (let n : suc (suc (length us)) ≡ 1 = cc in omega (arith, n))

  counts_typed : (is : List Instr) (us : List ValType) → AreAll t us → left (step_of m t) is (length us) ≡ Some 1
      → (list_all (λ i. may_be_constant m (out-Instr i)) is ≡ true) × (all_typed is us ≡ true)
  counts_typed [] us all e = (refl, ends_known us all e)
  counts_typed (i ∷ is) us all e = go (kind_of m (out-Instr i)) refl us all e (λ vs more h. counts_typed is vs more h)
    where
      go : (o : Option Kind) → kind_of m (out-Instr i) ≡ o → (us : List ValType) → AreAll t us → left (step_of m t) (i ∷ is) (length us) ≡ Some 1
          → ((vs : List ValType) → AreAll t vs → left (step_of m t) is (length vs) ≡ Some 1 → (list_all (λ j. may_be_constant m (out-Instr j)) is ≡ true) × (all_typed is vs ≡ true))
          → (list_all (λ j. may_be_constant m (out-Instr j)) (i ∷ is) ≡ true) × (all_typed (i ∷ is) us ≡ true)
      go None q us all h later = absurd (let no : left (step_of m t) (i ∷ is) (length us) ≡ None = ap (λ (o : Option Kind). after_step (step_at t o) (length us) >>= left (step_of m t) is) q in cc)
      go (Some k) q us all h later =
          by k q us all (sym (ap (λ (o : Option Kind). after_step (step_at t o) (length us) >>= left (step_of m t) is) q) ∙ h) (kind_typed m t labels i (out-Instr i) refl k q us)
        where
          may : may_be_constant m (out-Instr i) ≡ true
          may = may_be_kind m (out-Instr i) ∙ ap is_some q

          by : (k : Kind) → kind_of m (out-Instr i) ≡ Some k → (us : List ValType) → AreAll t us → (after_step (step_at t (Some k)) (length us) >>= left (step_of m t) is) ≡ Some 1
              → after d i labels (known us) ≡ done k us
              → (list_all (λ j. may_be_constant m (out-Instr j)) (i ∷ is) ≡ true) × (all_typed (i ∷ is) us ≡ true)
          by (PutsOne u) q us all h does = at_type (same_type t u) refl h
            where
              at_type : (b : Bool) → same_type t u ≡ b → (after_step (if b then Puts else Other) (length us) >>= left (step_of m t) is) ≡ Some 1
                  → (list_all (λ j. may_be_constant m (out-Instr j)) (i ∷ is) ≡ true) × (all_typed (i ∷ is) us ≡ true)
              at_type false p h = absurd cc
              at_type true p h =
                  let rest = later (u ∷ us) (one_type t u p, all) h in
                  (rw may rest.0, goes_on (after d i) (map (after d) is) (known us) (record { stack = known (u ∷ us); high = 0 }) does ∙ rest.1)
          by (JoinsTwo u) q us all h does = at_type (same_type t u) refl us all h does
            where
              at_type : (b : Bool) → same_type t u ≡ b → (us : List ValType) → AreAll t us → (after_step (if b then Joins else Other) (length us) >>= left (step_of m t) is) ≡ Some 1
                  → after d i labels (known us) ≡ joined u us
                  → (list_all (λ j. may_be_constant m (out-Instr j)) (i ∷ is) ≡ true) × (all_typed (i ∷ is) us ≡ true)
              at_type false p us all h does = absurd cc
              at_type true p [] all h does = absurd cc
              at_type true p (a ∷ []) all h does = absurd cc
              at_type true p (a ∷ b ∷ us) all h does =
                  let same = one_type t u p in
                  let rest = later (u ∷ us) (same, all.1.1) h in
                  let first : same_type u a ≡ true = ap (λ v. same_type v a) (sym same) ∙ ap (same_type t) (sym all.0) ∙ itself t in
                  let second : same_type u b ≡ true = ap (λ v. same_type v b) (sym same) ∙ ap (same_type t) (sym all.1.0) ∙ itself t in
                  let here : after d i labels (known (a ∷ b ∷ us)) ≡ reach (u ∷ us) = does ∙ ap (λ z. if z && same_type u b then reach (u ∷ us) else None) first ∙ ap (λ z. if z then reach (u ∷ us) else None) second in
                  (rw may rest.0, goes_on (after d i) (map (after d) is) (known (a ∷ b ∷ us)) (record { stack = known (u ∷ us); high = 0 }) here ∙ rest.1)

  -- ---- whole expressions

  high_there : (is : List Instr) → is_some (height d is) ≡ all_typed is []
  high_there is = go (afters d is labels (known []))
    where
      by : (b : Bool) (r : Reach) → is_some ((if b then Some r else None) >>= λ q. Some q.high) ≡ b
      by true r = refl
      by false r = refl

      go : (o : Option Reach) → is_some ((o >>= λ r. if ends_with (t ∷ []) r.stack then Some r else None) >>= λ r. Some r.high) ≡ ends t o
      go None = refl
      go (Some r) = by (ends_with (t ∷ []) r.stack) r

  pub constant_counts : (e : Expr) → is_constant m t e ≡ true → left (step_of m t) e.list 0 ≡ Some 1
  constant_counts e h =
      let both = and_parts (list_all (λ i. may_be_constant m (out-Instr i)) e.list) (is_some (height d e.list)) h in
      (typed_counts e.list [] both.0 (sym (high_there e.list) ∙ both.1)).1

  pub counts_constant : (e : Expr) → left (step_of m t) e.list 0 ≡ Some 1 → is_constant m t e ≡ true
  counts_constant e h =
      let both = counts_typed e.list [] tt h in
      and_from (list_all (λ i. may_be_constant m (out-Instr i)) e.list) (is_some (height d e.list)) both.0 (high_there e.list ∙ both.1)

  -- so a test that counts decides it
  pub constant_is_counted : (e : Expr) → is_constant m t e ≡ is_one (left (step_of m t) e.list 0)
  constant_is_counted e = by (is_constant m t e) refl (left (step_of m t) e.list 0) refl
    where
      by : (b : Bool) → is_constant m t e ≡ b → (o : Option ℕ) → left (step_of m t) e.list 0 ≡ o → b ≡ is_one o
      by true p o q = (let one : o ≡ Some 1 = sym q ∙ constant_counts e p in ap is_one (sym one))
      by false p None q = refl
      by false p (Some n) q = one_or_not (nat_eq n 1) refl
        where
          one_or_not : (z : Bool) → nat_eq n 1 ≡ z → false ≡ z
          one_or_not false h = refl
          one_or_not true h =
              let is : n ≡ 1 = grind (arith, nat_tests) in
              let typed = counts_constant e (q ∙ ap Some is) in
              absurd (let no : false ≡ true = sym p ∙ typed in cc)

-- ---- a constant reference is one instruction

module _ (m : Module) where
  never_joins : (x : Open.Instr-F Instr Expr) → step_at FuncRef (kind_of m x) ≡ Joins → ⊥
  never_joins (Open.Plain op) e = go (within 0x6A 0x6C op) (within 0x7C 0x7E op) (join_type FuncRef (arithmetic_type op) e)
    where
      go : (a b : Bool) → (if a then Some I32 else if b then Some I64 else None) ≡ Some FuncRef → ⊥
      go true b h = cc
      go false true h = cc
      go false false h = cc
  never_joins x e = put_never_joins FuncRef (constant_step m x) e

  grows : (is : List Instr) (n k : ℕ) → left (step_of m FuncRef) is n ≡ Some k → k ≡ n + length is
  grows [] n k e = (let same : n ≡ k = cc in omega (arith, same))
  grows (i ∷ is) n k e = go (step_of m FuncRef i) refl e (λ h. grows is (suc n) k h)
    where
      go : (z : Step) → step_of m FuncRef i ≡ z → (after_step z n >>= left (step_of m FuncRef) is) ≡ Some k → (left (step_of m FuncRef) is (suc n) ≡ Some k → k ≡ suc n + length is)
          → k ≡ n + length (i ∷ is)
      go Puts q h later = (let rest = later h in omega (arith, rest))
      go Joins q h later = absurd (never_joins (out-Instr i) q)
      go Other q h later = absurd cc

  -- it puts a reference there
  put_alone : (x : Open.Instr-F Instr Expr) → (after_step (step_at FuncRef (kind_of m x)) 0 >>= left (step_of m FuncRef) []) ≡ Some 1 → constant_step m x ≡ Some FuncRef
  put_alone x e = go (step_at FuncRef (kind_of m x)) refl e
    where
      puts : (y : Open.Instr-F Instr Expr) → step_at FuncRef (kind_of m y) ≡ Puts → constant_step m y ≡ Some FuncRef
      puts (Open.Plain op) q = absurd (join_never_puts FuncRef (arithmetic_type op) q)
      puts y q = put_type FuncRef (constant_step m y) q

      go : (z : Step) → step_at FuncRef (kind_of m x) ≡ z → (after_step z 0 >>= left (step_of m FuncRef) []) ≡ Some 1 → constant_step m x ≡ Some FuncRef
      go Puts q h = puts x q
      go Joins q h = absurd cc
      go Other q h = absurd cc

  pub reference_alone : (e : Expr) → is_constant m FuncRef e ≡ true → (i : Instr) × (e.list ≡ i ∷ []) × (constant_step m (out-Instr i) ≡ Some FuncRef)
  reference_alone e typed = go e.list refl (constant_counts m FuncRef e typed)
    where
      go : (is : List Instr) → e.list ≡ is → left (step_of m FuncRef) is 0 ≡ Some 1 → (i : Instr) × (e.list ≡ i ∷ []) × (constant_step m (out-Instr i) ≡ Some FuncRef)
      go [] q h = absurd cc
      go (i ∷ []) q h = (i, q, put_alone (out-Instr i) h)
      go (i ∷ j ∷ is) q h = absurd (let many = grows (i ∷ j ∷ is) 0 1 h in omega (arith, many))
