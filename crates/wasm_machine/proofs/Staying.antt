-- Moves of instructions that don't call: the activation stays on top, one of the same unit and function with as many locals.
use Rattle.std.proofs.Common.{◌≡◌, ℕ, zero, suc, ◌%◌, Bool, true, false, List, [], ◌∷◌, length, refl, Option, None, Some, IfSome}
use Rattle.std.specs.Prelude.{if◌then◌else◌, nat_le, slice_get, unwrap_or}
use Rattle.std.proofs.lemmas.List.{length-set}
use Rattle.wasm_form.specs.declared.types.FuncType.{FuncType}
use Rattle.wasm_form.specs.declared.instr.Instr.{Instr}
use Rattle.wasm_form.specs.declared.instr.Instr.TheOpen as Open
use Rattle.wasm_form.specs.declared.instr.Expr.{Expr}
use Rattle.wasm_form.specs.declared.runtime.Ref.{Ref}
use Rattle.wasm_form.specs.declared.plain.Operator.{Operator}
use Rattle.wasm_form.specs.declared.plain.Operator.TheVariants.{Test, Compare, Unary, Binary, Convert}
use Rattle.wasm_form.specs.declared.plain.PlainForm.{PlainForm}
use Rattle.wasm_form.specs.declared.plain.PlainForm.TheVariants as plain
use Rattle.wasm_form.specs.declared.index.IndexForm.{IndexForm}
use Rattle.wasm_form.specs.declared.index.IndexForm.TheVariants as index
use Rattle.wasm_form.specs.declared.access.MemoryAccess.{MemoryAccess}
use Rattle.wasm_form.specs.declared.second.SecondForm.{SecondForm}
use Rattle.wasm_form.specs.declared.second.SecondForm.TheVariants as second
use Rattle.wasm_form.specs.Plain.{plain_form}
use Rattle.wasm_form.specs.Index.{index_form}
use Rattle.wasm_form.specs.Access.{memory_access}
use Rattle.wasm_form.specs.Second.{second_form}
use Rattle.wasm_form.specs.declared.runtime.Value.{Value}
use Rattle.wasm_form.specs.declared.runtime.Value.TheVariants.{Num, Func}
use Rattle.spec_safety.specs.spec_runtime.Numerics.{Outcome, Whole, Traps, unary_of, binary_of, compare_of, convert_of}
use Rattle.spec_safety.specs.spec_execution.Activations.{Level, Activation, Effect, GlobalSet, TableGet, TableSet, TableGrow, TableFill, TableCopy, TableInit, MemoryInit, MemoryCopy, MemoryFill, Load, Store, MemoryGrow, Move, On, Calls, CallsEntry, Refers, Does, Leaves, Fails, Stuck, with_values, pushed, with_top, with_number, with_i32, with_reference, with_three, on_some, outcome_move, unary_move, binary_move, compare_move, convert_move, operator_move, expanded, else_of, block_move, loop_move, if_move, landed, to_end, branched, branch_move, branch_if_move, picked, select_move, one_if, is_null, plain_move, local_got, local_set, index_move, access_move, second_move, block_with, instr_move}
use Rattle.wasm_step.specs.Named.{is_call, is_call_form}

-- it goes on in an activation of this unit and function, with so many locals, or it ends there
abbrev pub StaysIn : ℕ → ℕ → ℕ → Move → Type 0
StaysIn unit func count (On a) = (a.unit ≡ unit) × (a.func ≡ func) × (length a.locals ≡ count)
StaysIn unit func count (Calls n a) = ⊥
StaysIn unit func count (CallsEntry t ty i a) = ⊥
StaysIn unit func count (Refers n a) = (a.unit ≡ unit) × (a.func ≡ func) × (length a.locals ≡ count)
StaysIn unit func count (Does effect a) = (a.unit ≡ unit) × (a.func ≡ func) × (length a.locals ≡ count)
StaysIn unit func count (Leaves values) = ⊥
StaysIn unit func count (Fails why) = Unit {0}
StaysIn unit func count Stuck = Unit {0}

module _ (unit func count : ℕ) where
  -- ---- operands

  with_top-stays : (vs : List Value) (go : Value → List Value → Move) → ((v : Value) (ws : List Value) → StaysIn unit func count (go v ws)) → StaysIn unit func count (with_top vs go)
  with_top-stays [] go h = tt
  with_top-stays (v ∷ vs) go h = h v vs

  with_number-stays : (vs : List Value) (go : ℕ → List Value → Move) → ((n : ℕ) (ws : List Value) → StaysIn unit func count (go n ws)) → StaysIn unit func count (with_number vs go)
  with_number-stays [] go h = tt
  with_number-stays (Num n ∷ vs) go h = h n vs
  with_number-stays (Func r ∷ vs) go h = tt

  with_i32-stays : (vs : List Value) (go : ℕ → List Value → Move) → ((n : ℕ) (ws : List Value) → StaysIn unit func count (go n ws)) → StaysIn unit func count (with_i32 vs go)
  with_i32-stays vs go h = with_number-stays vs _ (λ n ws. h _ ws)

  with_reference-stays : (vs : List Value) (go : Option Ref → List Value → Move) → ((r : Option Ref) (ws : List Value) → StaysIn unit func count (go r ws)) → StaysIn unit func count (with_reference vs go)
  with_reference-stays [] go h = tt
  with_reference-stays (Num n ∷ vs) go h = tt
  with_reference-stays (Func r ∷ vs) go h = h r vs

  on_some-stays : (o : Option Activation) → IfSome o (λ a. (a.unit ≡ unit) × (a.func ≡ func) × (length a.locals ≡ count)) → StaysIn unit func count (on_some o)
  on_some-stays None h = tt
  on_some-stays (Some a) h = h

  -- an activation that may be there
  some_if-stays : (b : Bool) (a : Activation) → (a.unit ≡ unit) × (a.func ≡ func) × (length a.locals ≡ count) → IfSome (if b then Some a else None) (λ c. (c.unit ≡ unit) × (c.func ≡ func) × (length c.locals ≡ count))
  some_if-stays true a h = h
  some_if-stays false a h = tt

module _ (a : Activation) where
  here : (a.unit ≡ a.unit) × (a.func ≡ a.func) × (length a.locals ≡ length a.locals)
  here = (refl, refl, refl)

  three-stays : (effect : ℕ → ℕ → ℕ → Effect) → StaysIn a.unit a.func (length a.locals) (with_three a effect)
  three-stays effect = with_i32-stays a.unit a.func (length a.locals) a.values _ (λ n vs. with_i32-stays a.unit a.func (length a.locals) vs _ (λ from ws. with_i32-stays a.unit a.func (length a.locals) ws (λ to us. Does (effect to from n) (with_values a us)) (λ to us. here)))

  -- ---- operators

  outcome-stays : (vs : List Value) (o : Outcome) → StaysIn a.unit a.func (length a.locals) (outcome_move (with_values a vs) o)
  outcome-stays vs (Whole n) = here
  outcome-stays vs (Traps why) = tt

  unary-stays : (vs : List Value) (n op : ℕ) → StaysIn a.unit a.func (length a.locals) (unary_move (with_values a vs) n (unary_of op))
  unary-stays vs n op = elim (unary_of op) as (λ o. StaysIn a.unit a.func (length a.locals) (unary_move (with_values a vs) n o)) [ Some o ↦ here | None ↦ tt ]

  binary-stays : (vs : List Value) (x y op : ℕ) → StaysIn a.unit a.func (length a.locals) (binary_move (with_values a vs) x y (binary_of op))
  binary-stays vs x y op = elim (binary_of op) as (λ o. StaysIn a.unit a.func (length a.locals) (binary_move (with_values a vs) x y o)) [ Some o ↦ outcome-stays vs _ | None ↦ tt ]

  compare-stays : (vs : List Value) (x y op : ℕ) → StaysIn a.unit a.func (length a.locals) (compare_move (with_values a vs) x y (compare_of op))
  compare-stays vs x y op = elim (compare_of op) as (λ o. StaysIn a.unit a.func (length a.locals) (compare_move (with_values a vs) x y o)) [ Some o ↦ here | None ↦ tt ]

  convert-stays : (vs : List Value) (n op : ℕ) → StaysIn a.unit a.func (length a.locals) (convert_move (with_values a vs) n (convert_of op))
  convert-stays vs n op = elim (convert_of op) as (λ o. StaysIn a.unit a.func (length a.locals) (convert_move (with_values a vs) n o)) [ Some o ↦ here | None ↦ tt ]

  operator-stays : (op : ℕ) (o : Operator) → StaysIn a.unit a.func (length a.locals) (operator_move op o a)
  operator-stays op (Test t) = with_number-stays a.unit a.func (length a.locals) a.values _ (λ n vs. compare-stays vs n 0 op)
  operator-stays op (Compare t) = with_number-stays a.unit a.func (length a.locals) a.values _ (λ y vs. with_number-stays a.unit a.func (length a.locals) vs _ (λ x ws. compare-stays ws x y op))
  operator-stays op (Unary t) = with_number-stays a.unit a.func (length a.locals) a.values _ (λ n vs. unary-stays vs n op)
  operator-stays op (Binary t) = with_number-stays a.unit a.func (length a.locals) a.values _ (λ y vs. with_number-stays a.unit a.func (length a.locals) vs _ (λ x ws. binary-stays ws x y op))
  operator-stays op (Convert from to) = with_number-stays a.unit a.func (length a.locals) a.values _ (λ n vs. convert-stays vs n op)

  -- ---- blocks and branches

  landed-stays : (vs : List Value) (l : Level) (ls : List Level) (o : Option (List Instr)) → ((landed a vs l ls o).unit ≡ a.unit) × ((landed a vs l ls o).func ≡ a.func) × (length (landed a vs l ls o).locals ≡ length a.locals)
  landed-stays vs l ls None = here
  landed-stays vs l ls (Some body) = here

  branched-stays : (k : ℕ) (ls : List Level) → IfSome (branched a k ls) (λ b. (b.unit ≡ a.unit) × (b.func ≡ a.func) × (length b.locals ≡ length a.locals))
  branched-stays zero [] = some_if-stays a.unit a.func (length a.locals) (nat_le a.results _) _ here
  branched-stays (suc k) [] = tt
  branched-stays zero (l ∷ ls) = some_if-stays a.unit a.func (length a.locals) (nat_le l.arity _) _ (landed-stays _ l ls l.again)
  branched-stays (suc k) (l ∷ ls) = branched-stays k ls

  branch-stays : (k : ℕ) → StaysIn a.unit a.func (length a.locals) (branch_move a k)
  branch-stays k = on_some-stays a.unit a.func (length a.locals) (branched a k a.levels) (branched-stays k a.levels)

  branch_if-stays : (k n : ℕ) → StaysIn a.unit a.func (length a.locals) (branch_if_move a k n)
  branch_if-stays k zero = here
  branch_if-stays k (suc n) = branch-stays k

  block-stays : (body : List Instr) (f : FuncType) → StaysIn a.unit a.func (length a.locals) (block_move a body f)
  block-stays body f = on_some-stays a.unit a.func (length a.locals) _ (some_if-stays a.unit a.func (length a.locals) (nat_le _ _) _ here)

  loop-stays : (body : List Instr) (f : FuncType) → StaysIn a.unit a.func (length a.locals) (loop_move a body f)
  loop-stays body f = on_some-stays a.unit a.func (length a.locals) _ (some_if-stays a.unit a.func (length a.locals) (nat_le _ _) _ here)

  local_got-stays : (o : Option Value) → StaysIn a.unit a.func (length a.locals) (local_got a o)
  local_got-stays None = tt
  local_got-stays (Some v) = here

  local_set-stays : (n : ℕ) (v : Value) (vs : List Value) (o : Option Value) → StaysIn a.unit a.func (length a.locals) (local_set a n v vs o)
  local_set-stays n v vs None = tt
  local_set-stays n v vs (Some old) = (refl, refl, length-set a.locals n v)

if-stays : (a : Activation) (body other : List Instr) (f : FuncType) (n : ℕ) → StaysIn a.unit a.func (length a.locals) (if_move a body other f n)
if-stays a body other f zero = block-stays a other f
if-stays a body other f (suc n) = block-stays a body f

block_with-stays : (unit func count : ℕ) (o : Option FuncType) (go : FuncType → Move) → ((f : FuncType) → StaysIn unit func count (go f)) → StaysIn unit func count (block_with o go)
block_with-stays unit func count None go h = tt
block_with-stays unit func count (Some f) go h = h f

-- ---- by their forms

select-stays : (a : Activation) → StaysIn a.unit a.func (length a.locals) (select_move a)
select-stays a = with_i32-stays a.unit a.func (length a.locals) a.values _ (λ n vs. with_top-stays a.unit a.func (length a.locals) vs _ (λ y ws. with_top-stays a.unit a.func (length a.locals) ws (λ x us. On (pushed (with_values a us) (picked x y n))) (λ x us. here a)))

plain-stays : (a : Activation) (op : ℕ) (o : Option PlainForm) → StaysIn a.unit a.func (length a.locals) (plain_move op o a)
plain-stays a op None = tt
plain-stays a op (Some plain.Unreachable) = tt
plain-stays a op (Some plain.Nop) = here a
plain-stays a op (Some plain.Return) = on_some-stays a.unit a.func (length a.locals) (to_end a) (some_if-stays a.unit a.func (length a.locals) (nat_le a.results _) _ (here a))
plain-stays a op (Some plain.Drop) = with_top-stays a.unit a.func (length a.locals) a.values (λ v vs. On (with_values a vs)) (λ v vs. here a)
plain-stays a op (Some plain.Select) = select-stays a
plain-stays a op (Some plain.RefIsNull) = with_reference-stays a.unit a.func (length a.locals) a.values (λ r vs. On (pushed (with_values a vs) (Num (one_if (is_null r))))) (λ r vs. here a)
plain-stays a op (Some (plain.Operator operator)) = operator-stays a op operator

pub index-stays : (a : Activation) (n : ℕ) (o : Option IndexForm) → is_call_form o ≡ false → StaysIn a.unit a.func (length a.locals) (index_move n o a)
index-stays a n None h = tt
index-stays a n (Some index.Br) h = branch-stays a n
index-stays a n (Some index.BrIf) h = with_i32-stays a.unit a.func (length a.locals) a.values _ (λ c vs. branch_if-stays (with_values a vs) n c)
index-stays a n (Some index.Call) h = absurd cc
index-stays a n (Some index.LocalGet) h = local_got-stays a (slice_get a.locals n)
index-stays a n (Some index.LocalSet) h = with_top-stays a.unit a.func (length a.locals) a.values _ (λ v vs. local_set-stays a n v vs (slice_get a.locals n))
index-stays a n (Some index.LocalTee) h = with_top-stays a.unit a.func (length a.locals) a.values _ (λ v vs. local_set-stays a n v (v ∷ vs) (slice_get a.locals n))
index-stays a n (Some index.GlobalGet) h = here a
index-stays a n (Some index.GlobalSet) h = with_top-stays a.unit a.func (length a.locals) a.values (λ v vs. Does (GlobalSet n v) (with_values a vs)) (λ v vs. here a)
index-stays a n (Some index.TableGet) h = with_i32-stays a.unit a.func (length a.locals) a.values (λ i vs. Does (TableGet n i) (with_values a vs)) (λ i vs. here a)
index-stays a n (Some index.TableSet) h = with_reference-stays a.unit a.func (length a.locals) a.values _ (λ r vs. with_i32-stays a.unit a.func (length a.locals) vs (λ i ws. Does (TableSet n i r) (with_values a ws)) (λ i ws. here a))
index-stays a n (Some index.RefFunc) h = here a

access_if-stays : (a : Activation) (b : Bool) (m : MemoryAccess) (op offset : ℕ) → StaysIn a.unit a.func (length a.locals) (if b
    then with_number a.values (λ v vs. with_i32 vs (λ at ws. Does (Store m offset at v) (with_values a ws)))
    else with_i32 a.values (λ at vs. Does (Load op m offset at) (with_values a vs)))
access_if-stays a true m op offset = with_number-stays a.unit a.func (length a.locals) a.values _ (λ v vs. with_i32-stays a.unit a.func (length a.locals) vs (λ at ws. Does (Store m offset at v) (with_values a ws)) (λ at ws. here a))
access_if-stays a false m op offset = with_i32-stays a.unit a.func (length a.locals) a.values (λ at vs. Does (Load op m offset at) (with_values a vs)) (λ at vs. here a)

access-stays : (a : Activation) (op offset : ℕ) (o : Option MemoryAccess) → StaysIn a.unit a.func (length a.locals) (access_move op offset o a)
access-stays a op offset None = tt
access-stays a op offset (Some m) = access_if-stays a m.writes m op offset

second-stays : (a : Activation) (x y : ℕ) (o : Option SecondForm) → StaysIn a.unit a.func (length a.locals) (second_move o x y a)
second-stays a x y None = tt
second-stays a x y (Some second.MemoryInit) = three-stays a (MemoryInit x)
second-stays a x y (Some second.DataDrop) = here a
second-stays a x y (Some second.MemoryCopy) = three-stays a MemoryCopy
second-stays a x y (Some second.MemoryFill) = three-stays a (λ to byte n. MemoryFill to (byte % 256) n)
second-stays a x y (Some second.TableInit) = three-stays a (TableInit x y)
second-stays a x y (Some second.ElemDrop) = here a
second-stays a x y (Some second.TableCopy) = three-stays a (TableCopy x y)
second-stays a x y (Some second.TableGrow) = with_i32-stays a.unit a.func (length a.locals) a.values _ (λ n vs. with_reference-stays a.unit a.func (length a.locals) vs (λ r ws. Does (TableGrow x r n) (with_values a ws)) (λ r ws. here a))
second-stays a x y (Some second.TableSize) = here a
second-stays a x y (Some second.TableFill) = with_i32-stays a.unit a.func (length a.locals) a.values _ (λ n vs. with_reference-stays a.unit a.func (length a.locals) vs _ (λ r ws. with_i32-stays a.unit a.func (length a.locals) ws (λ i us. Does (TableFill x i r n) (with_values a us)) (λ i us. here a)))

-- an instruction that doesn't call stays in its activation
pub instr-stays : (types : ℕ → Option FuncType) (x : Open.Instr-F Instr Expr) (a : Activation) → is_call x ≡ false → StaysIn a.unit a.func (length a.locals) (instr_move types x a)
instr-stays types (Open.Plain op) a h = plain-stays a op (plain_form op)
instr-stays types (Open.Index op n) a h = index-stays a n (index_form op) h
instr-stays types (Open.Block t e) a h = block_with-stays a.unit a.func (length a.locals) (expanded types t) _ (block-stays a e.list)
instr-stays types (Open.Loop t e) a h = block_with-stays a.unit a.func (length a.locals) (expanded types t) _ (loop-stays a e.list)
instr-stays types (Open.If t e other) a h = block_with-stays a.unit a.func (length a.locals) (expanded types t) _ (λ f. with_i32-stays a.unit a.func (length a.locals) a.values _ (λ n vs. if-stays (with_values a vs) e.list (else_of other) f n))
instr-stays types (Open.BrTable ks last) a h = with_i32-stays a.unit a.func (length a.locals) a.values _ (λ n vs. branch-stays (with_values a vs) (unwrap_or (slice_get ks n) last))
instr-stays types (Open.CallIndirect ty table) a h = absurd cc
instr-stays types (Open.Select ts) a h = select-stays a
instr-stays types (Open.Access op align offset) a h = access-stays a op offset (memory_access op)
instr-stays types Open.MemorySize a h = here a
instr-stays types Open.MemoryGrow a h = with_i32-stays a.unit a.func (length a.locals) a.values (λ n vs. Does (MemoryGrow n) (with_values a vs)) (λ n vs. here a)
instr-stays types (Open.I32Const n) a h = here a
instr-stays types (Open.I64Const n) a h = here a
instr-stays types (Open.F32Const n) a h = tt
instr-stays types (Open.F64Const n) a h = tt
instr-stays types (Open.RefNull t) a h = here a
instr-stays types (Open.Prefixed op x y) a h = second-stays a x y (second_form op)
