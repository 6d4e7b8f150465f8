-- The instruction that comes next: what it names and calls, and the step that it makes.
use Rattle.std.proofs.Common.{arith, ◌≡◌, ℕ, ◌<◌, Bool, true, false, not, List, [], ◌∷◌, length, drop, refl, sym, ap, subst, ◌∙◌, Option, None, Some}
use Rattle.std.specs.Prelude.{IsTrue, nat_lt}
use Rattle.std.proofs.lemmas.Bool.{ltb-true}
use Rattle.std.proofs.lemmas.List.Elements.{All-head}
use Rattle.wasm_form.specs.declared.instr.Instr.{Instr, out-Instr}
use Rattle.wasm_form.specs.declared.instr.Instr.TheOpen as Open
use Rattle.wasm_form.specs.declared.instr.Expr.{Expr}
use Rattle.wasm_form.specs.declared.runtime.Ref.{Ref}
use Rattle.wasm_form.specs.declared.index.IndexForm.{IndexForm}
use Rattle.wasm_form.specs.declared.index.IndexForm.TheVariants as index
use Rattle.wasm_form.specs.Index.{index_form}
use Rattle.spec_safety.specs.spec_runtime.Memories.{MemoryInstance}
use Rattle.spec_safety.specs.spec_execution.Activations.{Activation, Calls, index_move, instr_move}
use Rattle.spec_safety.specs.spec_execution.Views.{View, Counts}
use Rattle.spec_safety.specs.spec_execution.Ranges.{index_in_range, in_range, AreInRange}
use Rattle.spec_safety.specs.spec_execution.Runs.{Frame, Active, carried_out}
use Rattle.wasm_step.specs.Primitives.{first_of, with_rest}
use Rattle.wasm_step.specs.Named.{NamesAreThere, named_here, is_call, is_call_form}
use Rattle.wasm_machine.specs.Machines.{indirect, next_of, calls_outside, calls_outside_here, call_is_outside, names_outside, some_outside}
use Rattle.wasm_machine.specs.Outside.{callee_form, callee_of, IsOutsideCall}
use Rattle.wasm_machine.specs.declared.calls.Callee.{Callee}
use Rattle.wasm_machine.specs.declared.calls.Callee.TheVariants as callee
use Rattle.wasm_machine.proofs.InRange.{named_in_range, and_first, and_second}
use Rattle.wasm_machine.proofs.Called.{target_exists}

pub not_true : (b : Bool) → true ≡ not b → b ≡ false
not_true true e = absurd cc
not_true false e = refl

pub rest_some : (is : List Instr) (i : Instr) → Some i ≡ first_of is → 0 < length is
rest_some [] i e = absurd cc
rest_some (j ∷ is) i e = omega arith

-- ---- what it calls

form_called : (g f : ℕ) (o : Option IndexForm) → callee_form g o ≡ Some (callee.Function f) → (g ≡ f) × (o ≡ Some index.Call)
form_called g f (Some index.Call) e = (cc, refl)
form_called g f o e = absurd cc

form_no_entry : (g ty table : ℕ) (o : Option IndexForm) → callee_form g o ≡ Some (callee.Entry ty table) → ⊥
form_no_entry g ty table (Some index.Call) e = cc
form_no_entry g ty table o e = cc

form_no_call : (g : ℕ) (o : Option IndexForm) → callee_form g o ≡ None → is_call_form o ≡ false
form_no_call g (Some index.Call) e = absurd cc
form_no_call g o e = refl

form_call : (g : ℕ) (k : Callee) (o : Option IndexForm) → callee_form g o ≡ Some k → is_call_form o ≡ true
form_call g k (Some index.Call) e = refl
form_call g k o e = absurd cc

function_called : (x : Open.Instr-F Instr Expr) (f : ℕ) → callee_of x ≡ Some (callee.Function f) → (op : ℕ) × (x ≡ Open.Index op f) × (index_form op ≡ Some index.Call)
function_called (Open.Index op g) f e = let h = form_called g f (index_form op) e in (op, ap (Open.Index op) h.0, h.1)
function_called x f e = absurd cc

pub entry_called : (x : Open.Instr-F Instr Expr) (ty table : ℕ) → callee_of x ≡ Some (callee.Entry ty table) → x ≡ Open.CallIndirect ty table
entry_called (Open.Index op g) ty table e = absurd (form_no_entry g ty table (index_form op) e)
entry_called (Open.CallIndirect uy uable) ty table e = cc
entry_called x ty table e = absurd cc

-- what calls nothing is no call
pub none_called : (x : Open.Instr-F Instr Expr) → callee_of x ≡ None → is_call x ≡ false
none_called (Open.Index op g) e = form_no_call g (index_form op) e
none_called (Open.CallIndirect ty table) e = absurd cc
none_called x e = refl

-- what calls something is a call
pub some_called : (x : Open.Instr-F Instr Expr) (k : Callee) → callee_of x ≡ Some k → is_call x ≡ true
some_called (Open.Index op g) k e = form_call g k (index_form op) e
some_called (Open.CallIndirect ty table) k e = refl
some_called x k e = absurd cc

-- ---- what it names

pub named_next : (c : Counts) (is : List Instr) (i : Instr) → AreInRange c is → Some i ≡ first_of is → IsTrue (named_here c (out-Instr i))
named_next c [] i h e = absurd cc
named_next c (j ∷ is) i h e =
    let q : j ≡ i = cc in
    named_in_range c i (subst (λ (k : Instr). IsTrue (in_range c k)) q (All-head (λ (k : Instr). IsTrue (in_range c k)) j is h))

module _ (c : Counts) (is : List Instr) (i : Instr) (h : AreInRange c is) (e : Some i ≡ first_of is) where
  named_as : (x : Open.Instr-F Instr Expr) → out-Instr i ≡ x → named_here c x ≡ true
  named_as x q = ap (named_here c) (sym q) ∙ named_next c is i h e

  pub called_in_range : (f : ℕ) → callee_of (out-Instr i) ≡ Some (callee.Function f) → f < c.functions
  called_in_range f q =
      let k = function_called (out-Instr i) f q in
      let n : index_in_range c f (Some index.Call) ≡ true = subst (λ (o : Option IndexForm). index_in_range c f o ≡ true) k.2 (named_as (Open.Index k.0 f) k.1) in
      ltb-true f c.functions n

  pub type_in_range : (ty table : ℕ) → callee_of (out-Instr i) ≡ Some (callee.Entry ty table) → ty < c.types
  type_in_range ty table q = ltb-true ty c.types (and_first (nat_lt ty c.types) (nat_lt table c.tables) (named_as (Open.CallIndirect ty table) (entry_called (out-Instr i) ty table q)))

  pub table_in_range : (ty table : ℕ) → callee_of (out-Instr i) ≡ Some (callee.Entry ty table) → table < c.tables
  table_in_range ty table q = ltb-true table c.tables (and_second (nat_lt ty c.types) (nat_lt table c.tables) (named_as (Open.CallIndirect ty table) (entry_called (out-Instr i) ty table q)))

-- ---- the step

module _ {Units : Type 0} (V : View Units) (us : Units) where
  step_at : (memory : MemoryInstance) (frames : List (Frame ℕ)) (is : List Instr) (a : Activation) (i : Instr) → Some i ≡ first_of is
      → next_of V us memory (Active (with_rest a is) ∷ frames) ≡ carried_out V us memory frames (instr_move (V.declared a.unit) (out-Instr i) (with_rest a (drop 1 is)))
  step_at memory frames [] a i e = absurd cc
  step_at memory frames (j ∷ is) a i e =
      let p : j ≡ i = cc in
      ap (λ (k : Instr). carried_out V us memory frames (instr_move (V.declared a.unit) (out-Instr k) (with_rest a is))) p

  pub outside_at : (is : List Instr) (a : Activation) (i : Instr) → Some i ≡ first_of is → calls_outside V us (with_rest a is) ≡ calls_outside_here V us (with_rest a is) (out-Instr i)
  outside_at [] a i e = absurd cc
  outside_at (j ∷ is) a i e =
      let p : j ≡ i = cc in
      ap (λ (k : Instr). calls_outside_here V us (with_rest a (j ∷ is)) (out-Instr k)) p

  module _ (a : Activation) (i : Instr) (e : Some i ≡ first_of a.rest) where
    pub step_is : (memory : MemoryInstance) (frames : List (Frame ℕ)) → next_of V us memory (Active a ∷ frames) ≡ carried_out V us memory frames (instr_move (V.declared a.unit) (out-Instr i) (with_rest a (drop 1 a.rest)))
    step_is memory frames = step_at memory frames a.rest a i e

    module _ (f : ℕ) (q : callee_of (out-Instr i) ≡ Some (callee.Function f)) where
      function_move : instr_move (V.declared a.unit) (out-Instr i) (with_rest a (drop 1 a.rest)) ≡ Calls f (with_rest a (drop 1 a.rest))
      function_move =
          let k = function_called (out-Instr i) f q in
          ap (λ (x : Open.Instr-F Instr Expr). instr_move (V.declared a.unit) x (with_rest a (drop 1 a.rest))) k.1 ∙ ap (λ (o : Option IndexForm). index_move f o (with_rest a (drop 1 a.rest))) k.2

      pub function_step : (memory : MemoryInstance) (frames : List (Frame ℕ)) → next_of V us memory (Active a ∷ frames) ≡ carried_out V us memory frames (Calls f (with_rest a (drop 1 a.rest)))
      function_step memory frames = step_is memory frames ∙ ap (carried_out V us memory frames) function_move

      pub function_outside : calls_outside V us a ≡ names_outside V a f
      function_outside =
          let k = function_called (out-Instr i) f q in
          outside_at a.rest a i e ∙ ap (calls_outside_here V us a) k.1 ∙ ap (call_is_outside V a f) k.2

      -- its function is outside
      pub function_is_outside : (memory : MemoryInstance) (r : Ref) → NamesAreThere V → f < (V.counts a.unit).functions → Some r ≡ V.target a.unit f → calls_outside V us a ≡ true → IsOutsideCall V us memory a (record { target = r; above = 0 })
      function_is_outside memory r names h er out = record {
        outside = ap some_outside er ∙ sym function_outside ∙ out;
        exists = target_exists V names a.unit f r h er;
        some = rest_some a.rest i e;
        above = omega arith;
        next = λ frames. function_step memory frames ∙ rw (← er) refl;
      }

    module _ (ty table : ℕ) (q : callee_of (out-Instr i) ≡ Some (callee.Entry ty table)) where
      pub entry_step : (memory : MemoryInstance) (frames : List (Frame ℕ)) → next_of V us memory (Active a ∷ frames) ≡ carried_out V us memory frames (indirect ty table a)
      entry_step memory frames =
          step_is memory frames ∙ ap (λ (x : Open.Instr-F Instr Expr). carried_out V us memory frames (instr_move (V.declared a.unit) x (with_rest a (drop 1 a.rest)))) (entry_called (out-Instr i) ty table q)
