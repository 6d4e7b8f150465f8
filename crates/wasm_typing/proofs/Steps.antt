-- The steps of an `if`.
use Rattle.std.proofs.Common.{arith, ◌≡◌, ℕ, ◌+◌, List, [], ◌∷◌, length, ap, Option, Some, None, ◌∙◌, Result, Ok, Err, subst}
use Rattle.std.specs.Prelude.{max}
use Rattle.wasm_form.specs.declared.types.ValType.TheVariants.{I32}
use Rattle.wasm_form.specs.declared.types.FuncType.{FuncType}
use Rattle.wasm_form.specs.declared.instr.BlockType.{BlockType}
use Rattle.wasm_form.specs.declared.instr.Instr.{Instr, If}
use Rattle.wasm_form.specs.declared.instr.Expr.{Expr}
use Rattle.spec_validation.specs.spec_binary.Options.{◌>>=◌}
use Rattle.spec_validation.specs.Stacks.{Stack, put_on, take_off}
use Rattle.spec_validation.specs.Context.{Context, block_type}
use Rattle.spec_validation.specs.Typing.{after, afters, Meaning, Reach, around, inside, closes, either_way}
use Rattle.wasm_typing.specs.declared.fault.TypingFault.{TypingFault}
use Rattle.wasm_typing.specs.Answers.{Leaves}
use Rattle.wasm_typing.specs.Blocks.{else_of}
use Rattle.wasm_typing.specs.States.{TypingState, OpenBlock, reached, entries_below, labels_of, with_stack, entered, restarted, left, Reaches}
use Rattle.wasm_typing.proofs.Laws.{after-If}

pub reached-levels : (p q : TypingState) (o : Option Reach) → reached p o ≡ Some q → q.levels ≡ p.levels
reached-levels p q None h = absurd cc
reached-levels p q (Some r) h = cc

-- inside a block of results, over under
abbrev within : TypingState → Stack → FuncType → ℕ → Stack → TypingState
within p under f m s = record { stack = s; levels = record { label = f.results; below = under } ∷ p.levels; most = m }

greatest : (m b n h k : ℕ) → max (max m (n + b + h)) (n + b + k) ≡ max m (b + (n + max h k))
greatest m b n h k = omega arith

-- both sides were typed
both_sides : (result : Result Unit TypingFault) (p a b new : TypingState) (under : Stack) (f : FuncType) (o q : Option Reach)
    → reached (entered (with_stack p under) f.params f.results under) o ≡ Some a → reached (restarted a f.params) q ≡ Some b
    → Leaves result new (Some (left b f.results b.levels))
    → Reaches result p new (o >>= λ r. q >>= λ t. Some (around f under (max r.high t.high)))
both_sides result p a b new under f None q h k c = absurd cc
both_sides result p a b new under f (Some r) None h k c = absurd cc
both_sides (Ok x) p a b new under f (Some r) (Some t) h k c =
    let e : a ≡ within p under f (max p.most (length under.entries + entries_below p.levels + r.high)) r.stack = cc in
    let k' : Some (within p under f (max (max p.most (length under.entries + entries_below p.levels + r.high))
    (length under.entries + entries_below p.levels + t.high)) t.stack) ≡ Some b = rw e at k in
    let g : b ≡ within p under f (max (max p.most (length under.entries + entries_below p.levels + r.high))
    (length under.entries + entries_below p.levels + t.high)) t.stack = cc in
    let c' : Some (record {
      stack = put_on f.results under;
      levels = p.levels;
      most = max
          (max p.most (length under.entries + entries_below p.levels + r.high)) (length under.entries + entries_below p.levels + t.high);
    })
    ≡ Some new = rw g at c in
    rw (← greatest p.most (entries_below p.levels) (length under.entries) r.high t.high) c'
both_sides (Err z) p a b new under f (Some r) (Some t) h k c = λ i. let n : Some (left b f.results b.levels) ≡ None = c i in absurd cc

if_typed : (result : Result Unit TypingFault) (p a1 a2 a b new : TypingState) (body other : Meaning) (f : FuncType)
    → take_off (I32 ∷ []) p.stack ≡ Some a1.stack → a1 ≡ with_stack p a1.stack → take_off f.params a1.stack ≡ Some a2.stack
    → a2 ≡ with_stack a1 a2.stack
    → reached (entered a2 f.params f.results a2.stack) (inside body f.results f (labels_of a2.levels)) ≡ Some a
    → reached (restarted a f.params) (closes other f (labels_of a.levels)) ≡ Some b → Leaves result new (Some (left b f.results b.levels))
    → Reaches result p new (either_way body other f (labels_of p.levels) p.stack)
if_typed result p a1 a2 a b new body other f t1 e1 t2 e2 h k c =
    let e : a2 ≡ with_stack p a2.stack = e2 ∙ ap (λ (z : TypingState). with_stack z a2.stack) e1 in
    let l2 : a2.levels ≡ p.levels = ap (λ (z : TypingState). z.levels) e in
    let h' : reached (entered (with_stack p a2.stack) f.params f.results a2.stack) (inside body f.results f (labels_of p.levels)) ≡ Some a
    = subst (λ (z : TypingState). reached (entered z f.params f.results a2.stack) (inside body f.results f (labels_of z.levels)) ≡ Some a) e
    h in
    let l3 : a.levels ≡ record { label = f.results; below = a2.stack } ∷ p.levels = reached-levels
    (entered (with_stack p a2.stack) f.params f.results a2.stack) a (inside body f.results f (labels_of p.levels)) h' in
    let k' : reached (restarted a f.params) (inside other f.results f (labels_of p.levels)) ≡ Some b
    = subst (λ (z : List OpenBlock). reached (restarted a f.params) (closes other f (labels_of z)) ≡ Some b) l3 k in
    rw (t1, t2) (both_sides result p a b new a2.stack f (inside body f.results f (labels_of p.levels))
    (inside other f.results f (labels_of p.levels)) h' k' c)

-- the whole of an `if`: its number and its parameters are taken off, its sides are typed, and it is left
pub if-instruction : (result : Result Unit TypingFault) (p a1 a2 a b new : TypingState) (c : Context) (i : Instr) (t : BlockType) (e : Expr)
    (other : Option Expr) (f : FuncType) (instrs : List Instr)
    → i ≡ If t e other → instrs ≡ e.list → block_type c t ≡ Some f
    → take_off (I32 ∷ []) p.stack ≡ Some a1.stack → a1 ≡ with_stack p a1.stack → take_off f.params a1.stack ≡ Some a2.stack
    → a2 ≡ with_stack a1 a2.stack
    → reached (entered a2 f.params f.results a2.stack) (inside (afters c instrs) f.results f (labels_of a2.levels)) ≡ Some a
    → reached (restarted a f.params) (closes (afters c (else_of other)) f (labels_of a.levels)) ≡ Some b
    → Leaves result new (Some (left b f.results b.levels))
    → Reaches result p new (after c i (labels_of p.levels) p.stack)
if-instruction result p a1 a2 a b new c i t e other f instrs ei es et t1 e1 t2 e2 h k d =
    rw (ei, after-If c t e other (labels_of p.levels) p.stack, et, ← es)
    (if_typed result p a1 a2 a b new (afters c instrs) (afters c (else_of other)) f t1 e1 t2 e2 h k d)
