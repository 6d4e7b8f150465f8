-- What constant expressions come to, instruction by instruction.
use Rattle.std.proofs.Common.{◌≡◌, ℕ, ◌+◌, ◌-◌, ◌*◌, ◌%◌, ◌^◌, ◌<◌, Bool, true, false, List, [], ◌∷◌, nat_eq, nat_le, Option, Some, None, if◌then◌else◌, refl, ap, ◌∙◌, subst, arith}
use Rattle.std.specs.List.{All, list_all}
use Rattle.std.proofs.lemmas.Bool.{and_parts}
use Rattle.std.proofs.lemmas.Bool.Decides.{nat_tests}
use Rattle.std.proofs.lemmas.List.Elements.{All-nil, All-cons, All-head, All-tail}
use Rattle.spec_binary.specs.wasm_form.declared.instr.Instr.{Instr, out-Instr}
use Rattle.spec_binary.specs.wasm_form.declared.instr.Instr.TheOpen as Open
use Rattle.spec_binary.specs.wasm_form.declared.instr.Expr.{Expr}
use Rattle.spec_binary.specs.wasm_form.declared.runtime.Ref.{Ref}
use Rattle.spec_binary.specs.wasm_form.Ranges.{within}
use Rattle.spec_binary.specs.wasm_form.declared.runtime.Value.{Value}
use Rattle.spec_binary.specs.wasm_form.declared.runtime.Value.TheVariants.{Num, Func}
use Rattle.spec_binary.specs.Options.{◌>>=◌}
use Rattle.spec_binary.proofs.Counted.{all_after}
use Rattle.spec_runtime.specs.Numerics.{Width, W32, W64, bits}
use Rattle.spec_runtime.specs.Constants.{instruction_constant, joined, arithmetic, after_operator, after_constant, after_constants, only_value, constant_in}

-- ---- operators

-- the width of an operator of constant expressions
abbrev pub width_at : ℕ → Option Width
width_at op = if within 0x6A 0x6C op then Some W32 else if within 0x7C 0x7E op then Some W64 else None

-- what an operator gives of two numbers
pub operator_gives : (op : ℕ) (w : Width) → width_at op ≡ Some w → (a b : ℕ)
    → (n : ℕ) × ((vs : List Value) → after_operator op (Num b ∷ Num a ∷ vs) ≡ Some (Num n ∷ vs)) × (n < 2 ^ bits w)
operator_gives op w e a b = go (within 0x6A 0x6C op) refl (within 0x7C 0x7E op) refl e
  where
    abbreviated : (k : ℕ) → op ≡ k → (v : Width) → v ≡ w → (n : ℕ) → ((vs : List Value) → after_operator k (Num b ∷ Num a ∷ vs) ≡ Some (Num n ∷ vs)) → n < 2 ^ bits v
        → (n : ℕ) × ((vs : List Value) → after_operator op (Num b ∷ Num a ∷ vs) ≡ Some (Num n ∷ vs)) × (n < 2 ^ bits w)
    abbreviated k is v same n gives small = (n, (λ vs. rw is (gives vs)), subst (λ u. n < 2 ^ bits u) same small)

    go : (y : Bool) → within 0x6A 0x6C op ≡ y → (z : Bool) → within 0x7C 0x7E op ≡ z → (if y then Some W32 else if z then Some W64 else None) ≡ Some w
        → (n : ℕ) × ((vs : List Value) → after_operator op (Num b ∷ Num a ∷ vs) ≡ Some (Num n ∷ vs)) × (n < 2 ^ bits w)
    go true p z q h = by (nat_eq op 0x6A) refl (nat_eq op 0x6B) refl
      where
        same : W32 ≡ w
        same = cc

        by : (y : Bool) → nat_eq op 0x6A ≡ y → (z : Bool) → nat_eq op 0x6B ≡ z
            → (n : ℕ) × ((vs : List Value) → after_operator op (Num b ∷ Num a ∷ vs) ≡ Some (Num n ∷ vs)) × (n < 2 ^ bits w)
        by true r z s = abbreviated 0x6A (grind (arith, nat_tests)) W32 same ((a % 2 ^ 32 + b % 2 ^ 32) % 2 ^ 32) (λ vs. refl) (omega arith)
        by false r true s = abbreviated 0x6B (grind (arith, nat_tests)) W32 same ((a % 2 ^ 32 + (2 ^ 32 - b % 2 ^ 32)) % 2 ^ 32) (λ vs. refl) (omega arith)
        by false r false s =
            let both = and_parts (nat_le 0x6A op) (nat_le op 0x6C) p in
            let least = both.0 in
            let most = both.1 in
            abbreviated 0x6C (grind (arith, nat_tests)) W32 same (((a % 2 ^ 32) * (b % 2 ^ 32)) % 2 ^ 32) (λ vs. refl) (omega arith)
    go false p true q h = by (nat_eq op 0x7C) refl (nat_eq op 0x7D) refl
      where
        same : W64 ≡ w
        same = cc

        by : (y : Bool) → nat_eq op 0x7C ≡ y → (z : Bool) → nat_eq op 0x7D ≡ z
            → (n : ℕ) × ((vs : List Value) → after_operator op (Num b ∷ Num a ∷ vs) ≡ Some (Num n ∷ vs)) × (n < 2 ^ bits w)
        by true r z s = abbreviated 0x7C (grind (arith, nat_tests)) W64 same ((a % 2 ^ 64 + b % 2 ^ 64) % 2 ^ 64) (λ vs. refl) (omega arith)
        by false r true s = abbreviated 0x7D (grind (arith, nat_tests)) W64 same ((a % 2 ^ 64 + (2 ^ 64 - b % 2 ^ 64)) % 2 ^ 64) (λ vs. refl) (omega arith)
        by false r false s =
            let both = and_parts (nat_le 0x7C op) (nat_le op 0x7E) q in
            let least = both.0 in
            let most = both.1 in
            abbreviated 0x7E (grind (arith, nat_tests)) W64 same (((a % 2 ^ 64) * (b % 2 ^ 64)) % 2 ^ 64) (λ vs. refl) (omega arith)
    go false p false q h = absurd cc

-- ---- lists

module _ (functions : ℕ → Option Ref) (globals : ℕ → Option Value) where
  pub in_order : (is : List Instr) (vs : List Value) → after_constants functions globals is vs ≡ all_after (λ i. after_constant functions globals (out-Instr i)) is vs
  in_order [] vs = refl
  in_order (i ∷ is) vs = go (after_constant functions globals (out-Instr i) vs) (in_order is)
    where
      go : (o : Option (List Value)) → ((us : List Value) → after_constants functions globals is us ≡ all_after (λ j. after_constant functions globals (out-Instr j)) is us)
          → (o >>= after_constants functions globals is) ≡ (o >>= all_after (λ j. after_constant functions globals (out-Instr j)) is)
      go None rest = refl
      go (Some us) rest = rest us

  -- What is so of the values that are put there, and of all numbers, is so of what is left. A test may tell more of each instruction.
  module _ (test : Instr → Bool) (P : Value → Type 0) (numbers : (n : ℕ) → P (Num n))
      (puts : (i : Instr) (v : Value) → test i ≡ true → instruction_constant functions globals (out-Instr i) ≡ Some v → P v) where
    operator_kept : (op : ℕ) (vs us : List Value) → All P vs → after_operator op vs ≡ Some us → All P us
    operator_kept op [] us all e = absurd cc
    operator_kept op (Func r ∷ vs) us all e = absurd cc
    operator_kept op (Num b ∷ []) us all e = absurd cc
    operator_kept op (Num b ∷ Func r ∷ vs) us all e = absurd cc
    operator_kept op (Num b ∷ Num a ∷ vs) us all e =
        go (arithmetic op >>= joined a b) e (All-tail P (Num a) vs (All-tail P (Num b) (Num a ∷ vs) all))
      where
        go : (o : Option ℕ) → (o >>= λ n. Some (Num n ∷ vs)) ≡ Some us → All P vs → All P us
        go None h rest = absurd cc
        go (Some n) h rest = (let same : Num n ∷ vs ≡ us = cc in subst (All P) same (All-cons P (Num n) vs (numbers n) rest))

    put_kept : (i : Instr) (vs us : List Value) → test i ≡ true → All P vs → (instruction_constant functions globals (out-Instr i) >>= λ v. Some (v ∷ vs)) ≡ Some us → All P us
    put_kept i vs us tested all e = go (instruction_constant functions globals (out-Instr i)) refl e
      where
        go : (o : Option Value) → instruction_constant functions globals (out-Instr i) ≡ o → (o >>= λ v. Some (v ∷ vs)) ≡ Some us → All P us
        go None q h = absurd cc
        go (Some v) q h = (let same : v ∷ vs ≡ us = cc in subst (All P) same (All-cons P v vs (puts i v tested q) all))

    step_kept : (i : Instr) (x : Open.Instr-F Instr Expr) → out-Instr i ≡ x → (vs us : List Value) → test i ≡ true → All P vs → after_constant functions globals x vs ≡ Some us → All P us
    step_kept i (Open.Plain op) q vs us tested all e = operator_kept op vs us all e
    step_kept i x q vs us tested all e = put_kept i vs us tested all (ap (λ y. instruction_constant functions globals y >>= λ v. Some (v ∷ vs)) q ∙ e)

    values_kept : (is : List Instr) (vs ws : List Value) → list_all test is ≡ true → All P vs → after_constants functions globals is vs ≡ Some ws → All P ws
    values_kept [] vs ws tested all e = (let same : vs ≡ ws = cc in subst (All P) same all)
    values_kept (i ∷ is) vs ws tested all e =
        let both = and_parts (test i) (list_all test is) tested in
        go (after_constant functions globals (out-Instr i) vs) (λ us h. step_kept i (out-Instr i) refl vs us both.0 all h) e (λ us more h. values_kept is us ws both.1 more h)
      where
        go : (o : Option (List Value)) → ((us : List Value) → o ≡ Some us → All P us) → (o >>= after_constants functions globals is) ≡ Some ws
            → ((us : List Value) → All P us → after_constants functions globals is us ≡ Some ws → All P ws) → All P ws
        go None first h later = absurd cc
        go (Some us) first h later = later us (first us refl) h

    only_kept : (o : Option (List Value)) (v : Value) → ((ws : List Value) → o ≡ Some ws → All P ws) → (o >>= only_value) ≡ Some v → P v
    only_kept None v all e = absurd cc
    only_kept (Some []) v all e = absurd cc
    only_kept (Some (w ∷ [])) v all e = (let same : w ≡ v = cc in subst P same (All-head P w [] (all (w ∷ []) refl)))
    only_kept (Some (w ∷ u ∷ ws)) v all e = absurd cc

    pub value_kept : (is : List Instr) (v : Value) → list_all test is ≡ true → constant_in functions globals is ≡ Some v → P v
    value_kept is v tested e = only_kept (after_constants functions globals is []) v (λ ws h. values_kept is [] ws tested (All-nil P) h) e

-- ---- one instruction

pub put_alone : (functions : ℕ → Option Ref) (globals : ℕ → Option Value) (i : Instr) → ((op : ℕ) → out-Instr i ≡ Open.Plain op → ⊥)
    → constant_in functions globals (i ∷ []) ≡ instruction_constant functions globals (out-Instr i)
put_alone functions globals i puts = go (out-Instr i) refl
  where
    only : (o : Option Value) → (((o >>= λ v. Some (v ∷ [])) >>= λ vs. Some vs) >>= only_value) ≡ o
    only None = refl
    only (Some v) = refl

    go : (x : Open.Instr-F Instr Expr) → out-Instr i ≡ x → ((after_constant functions globals x [] >>= λ vs. Some vs) >>= only_value) ≡ instruction_constant functions globals x
    go (Open.Plain op) q = absurd (puts op q)
    go x q = only (instruction_constant functions globals x)

-- ---- what the numbers name

-- A list of instructions that come to the same by both comes to the same.
module _ (F E : ℕ → Option Ref) (G H : ℕ → Option Value) (test : Instr → Bool)
    (same : (i : Instr) → test i ≡ true → instruction_constant F G (out-Instr i) ≡ instruction_constant E H (out-Instr i)) where
  step_same : (i : Instr) (x : Open.Instr-F Instr Expr) → out-Instr i ≡ x → test i ≡ true → (vs : List Value) → after_constant F G x vs ≡ after_constant E H x vs
  step_same i (Open.Plain op) q tested vs = refl
  step_same i x q tested vs =
      let put : instruction_constant F G x ≡ instruction_constant E H x = subst (λ y. instruction_constant F G y ≡ instruction_constant E H y) q (same i tested) in
      ap (λ (o : Option Value). o >>= λ v. Some (v ∷ vs)) put

  all_same : (is : List Instr) → list_all test is ≡ true → (vs : List Value) → after_constants F G is vs ≡ after_constants E H is vs
  all_same [] tested vs = refl
  all_same (i ∷ is) tested vs =
      let both = and_parts (test i) (list_all test is) tested in
      ap (λ (o : Option (List Value)). o >>= after_constants F G is) (step_same i (out-Instr i) refl both.0 vs)
      ∙ go (after_constant E H (out-Instr i) vs) (all_same is both.1)
    where
      go : (o : Option (List Value)) → ((us : List Value) → after_constants F G is us ≡ after_constants E H is us) → (o >>= after_constants F G is) ≡ (o >>= after_constants E H is)
      go None later = refl
      go (Some us) later = later us

  pub same_constant : (is : List Instr) → list_all test is ≡ true → constant_in F G is ≡ constant_in E H is
  same_constant is tested = ap (λ (o : Option (List Value)). o >>= only_value) (all_same is tested [])
