-- A constant expression comes to the same number whatever functions are known: a function on the stack stays there.
use Rattle.std.proofs.Common.{◌≡◌, ℕ, List, [], ◌∷◌, Option, Some, None, refl, sym, ap, ◌∙◌, subst}
use Rattle.std.specs.Int.{cast_unsigned, w32, w64}
use Rattle.wasm_form.specs.declared.instr.Instr.{Instr, out-Instr}
use Rattle.wasm_form.specs.declared.instr.Instr.TheOpen as Open
use Rattle.wasm_form.specs.declared.instr.Expr.{Expr}
use Rattle.wasm_form.specs.declared.runtime.Ref.{Ref}
use Rattle.wasm_form.specs.declared.index.IndexForm.{IndexForm}
use Rattle.wasm_form.specs.declared.index.IndexForm.TheVariants.{Br, BrIf, Call, LocalGet, LocalSet, LocalTee, GlobalGet, GlobalSet, TableGet, TableSet, RefFunc}
use Rattle.wasm_form.specs.Index.{index_form}
use Rattle.wasm_form.specs.declared.runtime.Value.{Value}
use Rattle.wasm_form.specs.declared.runtime.Value.TheVariants.{Num, Func}
use Rattle.spec_loading.specs.spec_binary.Options.{◌>>=◌}
use Rattle.spec_loading.specs.spec_runtime.Constants.{index_constant, instruction_constant, joined, arithmetic, after_operator, after_constant, after_constants, only_value, constant_in, number_in}

-- a function is among the values
abbrev HoldsFunction : List Value → Type 0
HoldsFunction [] = ⊥
HoldsFunction (Num n ∷ vs) = HoldsFunction vs
HoldsFunction (Func r ∷ vs) = Unit {0}

abbrev number_left : Option (List Value) → Option ℕ
number_left o = (o >>= only_value) >>= number_in

module _ (fs : ℕ → Option Ref) (gs hs : ℕ → Option Value) (same : (g : ℕ) → gs g ≡ hs g) where
  abbrev no_functions : ℕ → Option Ref
  no_functions f = None

  operator_holds : (op : ℕ) (vs us : List Value) → HoldsFunction vs → after_operator op vs ≡ Some us → HoldsFunction us
  operator_holds op [] us h e = absurd h
  operator_holds op (Func r ∷ vs) us h e = absurd cc
  operator_holds op (Num b ∷ []) us h e = absurd h
  operator_holds op (Num b ∷ Func r ∷ vs) us h e = absurd cc
  operator_holds op (Num b ∷ Num a ∷ vs) us h e = go (arithmetic op >>= joined a b) e
    where
      go : (o : Option ℕ) → (o >>= λ n. Some (Num n ∷ vs)) ≡ Some us → HoldsFunction us
      go None q = absurd cc
      go (Some n) q = (let is : Num n ∷ vs ≡ us = cc in subst HoldsFunction is h)

  put_holds : (o : Option Value) (vs us : List Value) → HoldsFunction vs → (o >>= λ v. Some (v ∷ vs)) ≡ Some us → HoldsFunction us
  put_holds None vs us h e = absurd cc
  put_holds (Some (Num n)) vs us h e = (let is : Num n ∷ vs ≡ us = cc in subst HoldsFunction is h)
  put_holds (Some (Func r)) vs us h e = (let is : Func r ∷ vs ≡ us = cc in subst HoldsFunction is tt)

  step_holds : (x : Open.Instr-F Instr Expr) (vs us : List Value) → HoldsFunction vs → after_constant fs hs x vs ≡ Some us → HoldsFunction us
  step_holds (Open.Plain op) vs us h e = operator_holds op vs us h e
  step_holds x vs us h e = put_holds (instruction_constant fs hs x) vs us h e

  none_left : (is : List Instr) (vs : List Value) → HoldsFunction vs → number_left (after_constants fs hs is vs) ≡ None
  none_left [] [] h = absurd h
  none_left [] (Num n ∷ []) h = absurd h
  none_left [] (Func r ∷ []) h = refl
  none_left [] (v ∷ w ∷ vs) h = refl
  none_left (i ∷ is) vs h = go (after_constant fs hs (out-Instr i) vs) (λ us e. step_holds (out-Instr i) vs us h e) (none_left is)
    where
      go : (o : Option (List Value)) → ((us : List Value) → o ≡ Some us → HoldsFunction us) → ((us : List Value) → HoldsFunction us → number_left (after_constants fs hs is us) ≡ None)
          → number_left (o >>= after_constants fs hs is) ≡ None
      go None holds later = refl
      go (Some us) holds later = later us (holds us refl)

  -- one instruction, and then the others
  module _ (is : List Instr) (later : (us : List Value) → number_left (after_constants no_functions gs is us) ≡ number_left (after_constants fs hs is us)) where
    then_same : (o : Option (List Value)) → number_left (o >>= after_constants no_functions gs is) ≡ number_left (o >>= after_constants fs hs is)
    then_same None = refl
    then_same (Some us) = later us

    function_same : (o : Option Ref) (vs : List Value) → None ≡ number_left (((o >>= λ r. Some (Func (Some r))) >>= λ v. Some (v ∷ vs)) >>= after_constants fs hs is)
    function_same None vs = refl
    function_same (Some r) vs = sym (none_left is (Func (Some r) ∷ vs) tt)

    index_same : (f : Option IndexForm) (k : ℕ) (vs : List Value)
        → number_left (((f >>= λ x. index_constant no_functions gs x k) >>= λ v. Some (v ∷ vs)) >>= after_constants no_functions gs is)
        ≡ number_left (((f >>= λ x. index_constant fs hs x k) >>= λ v. Some (v ∷ vs)) >>= after_constants fs hs is)
    index_same None k vs = refl
    index_same (Some RefFunc) k vs = function_same (fs k) vs
    index_same (Some GlobalGet) k vs =
        ap (λ (o : Option Value). number_left ((o >>= λ v. Some (v ∷ vs)) >>= after_constants no_functions gs is)) (same k)
        ∙ then_same (hs k >>= λ v. Some (v ∷ vs))
    index_same (Some Br) k vs = refl
    index_same (Some BrIf) k vs = refl
    index_same (Some Call) k vs = refl
    index_same (Some LocalGet) k vs = refl
    index_same (Some LocalSet) k vs = refl
    index_same (Some LocalTee) k vs = refl
    index_same (Some GlobalSet) k vs = refl
    index_same (Some TableGet) k vs = refl
    index_same (Some TableSet) k vs = refl

    step_same : (x : Open.Instr-F Instr Expr) (vs : List Value)
        → number_left (after_constant no_functions gs x vs >>= after_constants no_functions gs is) ≡ number_left (after_constant fs hs x vs >>= after_constants fs hs is)
    step_same (Open.Plain op) vs = then_same (after_operator op vs)
    step_same (Open.Index op k) vs = index_same (index_form op) k vs
    step_same (Open.I32Const n) vs = later (Num (cast_unsigned w32 n) ∷ vs)
    step_same (Open.I64Const n) vs = later (Num (cast_unsigned w64 n) ∷ vs)
    step_same (Open.RefNull t) vs = later (Func None ∷ vs)
    step_same (Open.Block t e) vs = refl
    step_same (Open.Loop t e) vs = refl
    step_same (Open.If t e other) vs = refl
    step_same (Open.BrTable ks last) vs = refl
    step_same (Open.CallIndirect t table) vs = refl
    step_same (Open.Select ts) vs = refl
    step_same (Open.Access op align offset) vs = refl
    step_same Open.MemorySize vs = refl
    step_same Open.MemoryGrow vs = refl
    step_same (Open.F32Const n) vs = refl
    step_same (Open.F64Const n) vs = refl
    step_same (Open.Prefixed op a b) vs = refl

  all_same : (is : List Instr) (vs : List Value) → number_left (after_constants no_functions gs is vs) ≡ number_left (after_constants fs hs is vs)
  all_same [] vs = refl
  all_same (i ∷ is) vs = step_same is (all_same is) (out-Instr i) vs

  pub list_same : (is : List Instr) → (constant_in (λ f. None) gs is >>= number_in) ≡ (constant_in fs hs is >>= number_in)
  list_same is = all_same is []
