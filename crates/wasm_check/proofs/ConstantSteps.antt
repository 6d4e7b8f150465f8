-- What is left of a stack of constants, step by step.
use Rattle.std.proofs.Math.Seq.{drop-cons}
use Rattle.std.proofs.lemmas.List.{length-reverse}
use Rattle.std.proofs.Common.{suc, drop, get_or, ap₂, arith, ◌+◌, ◌<◌, ◌≡◌, ℕ, List, [], ◌∷◌, Option, Some, None, refl, sym, ap, ◌∙◌, reverse, length}
use Rattle.wasm_form.specs.declared.instr.Instr.{Instr, Plain, out-Instr, roll-Instr, roll-out-Instr}
use denote.Hole.Carrier.{roll}
use Rattle.wasm_form.specs.declared.instr.Instr.TheOpen as Open
use Rattle.wasm_form.specs.declared.instr.Expr.{Expr}
use Rattle.wasm_form.specs.declared.runtime.Ref.{Ref}
use Rattle.wasm_form.specs.declared.runtime.Value.{Value}
use Rattle.spec_execution.specs.spec_binary.Options.{◌>>=◌}
use Rattle.spec_execution.specs.spec_runtime.Constants.{instruction_constant, after_constant, after_constants, only_value}
use Rattle.wasm_check.specs.declared.value.Constant.{Constant}
use Rattle.wasm_check.specs.Constants.{value_of, values_of}

module _ (functions : ℕ → Option Ref) (globals : ℕ → Option Value) where
  -- an instruction that has no value stops
  pub nothing_after : (x : Open.Instr-F Instr Expr) → ((op : ℕ) → x ≡ Open.Plain op → ⊥) → instruction_constant functions globals x ≡ None → (o : Option (List Value))
      → (o >>= after_constant functions globals x) ≡ None
  nothing_after x other none None = refl
  nothing_after (Open.Plain op) other none (Some vs) = absurd (other op refl)
  nothing_after x other none (Some vs) = ap (λ (p : Option Value). p >>= λ v. Some (v ∷ vs)) none

  -- one instruction, and then the others
  pub one_more : (i : Instr) (is : List Instr) (o p : Option (List Value)) → (o >>= after_constant functions globals (out-Instr i)) ≡ p
      → (o >>= after_constants functions globals (i ∷ is)) ≡ (p >>= after_constants functions globals is)
  one_more i is None p e = ap (λ (q : Option (List Value)). q >>= after_constants functions globals is) e
  one_more i is (Some vs) p e = ap (λ (q : Option (List Value)). q >>= after_constants functions globals is) e

  -- what is left of one constant, and of none or more
  pub one_left : (k : Constant) → (values_of functions (k ∷ []) >>= only_value) ≡ value_of functions k
  one_left k = go (value_of functions k)
    where
      go : (o : Option Value) → ((o >>= λ v. Some (v ∷ [])) >>= only_value) ≡ o
      go None = refl
      go (Some v) = refl

  pub more_left : (k j : Constant) (ks : List Constant) → (values_of functions (k ∷ j ∷ ks) >>= only_value) ≡ None
  more_left k j ks = go (values_of functions ks) (value_of functions j) (value_of functions k)
    where
      go : (o : Option (List Value)) (p q : Option Value) → (((o >>= λ vs. p >>= λ v. Some (v ∷ vs)) >>= λ vs. q >>= λ v. Some (v ∷ vs)) >>= only_value) ≡ None
      go None p q = refl
      go (Some vs) None q = refl
      go (Some vs) (Some v) None = refl
      go (Some vs) (Some v) (Some w) = refl

-- an instruction that isn't plain, by its one level
pub not_plain : (i : Instr) → ((op : ℕ) → i ≡ Plain op → ⊥) → (op : ℕ) → out-Instr i ≡ Open.Plain op → ⊥
unfolding roll-Instr roll
not_plain i other op e = other op (sym (roll-out-Instr i) ∙ ap roll-Instr e)

-- what two or more constants come to, and none
pub not_one : (functions : ℕ → Option Ref) (ks : List Constant) → (length ks ≡ 1 → ⊥) → (values_of functions ks >>= only_value) ≡ None
not_one functions [] other = refl
not_one functions (k ∷ []) other = absurd (other refl)
not_one functions (k ∷ j ∷ ks) other = more_left functions (λ g. None) k j ks

pub none_of_many : (functions : ℕ → Option Ref) (ks : List Constant) → (length ks ≡ 1 → ⊥) → (values_of functions (reverse ks) >>= only_value) ≡ None
none_of_many functions ks other = not_one functions (reverse ks) (λ e. other (sym (length-reverse ks) ∙ e))

-- at the item whose turn it is
pub here_then : (is : List Instr) (j : ℕ) (i : Instr) → j < length is → i ≡ get_or is j i → drop j is ≡ i ∷ drop (j + 1) is
here_then is j i lt e = (let next : suc j ≡ j + 1 = omega arith in drop-cons is j i lt ∙ ap₂ (λ (x : Instr) (k : ℕ). x ∷ drop k is) (sym e) next)

pub ends : (functions : ℕ → Option Ref) (globals : ℕ → Option Value) (o : Option (List Value)) → (o >>= after_constants functions globals []) ≡ o
ends functions globals None = refl
ends functions globals (Some vs) = refl
