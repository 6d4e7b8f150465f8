-- Which instructions name no data segment, by their form.
use Rattle.std.proofs.Common.{◌≡◌, ℕ, suc, ◌+◌, ◌<◌, ◌≤◌, Bool, true, false, eqb, not, ◌&&◌, List, [], length, get_or, drop, drop-cons, Option, None, Some, refl, sym, ap, ◌∙◌, arith}
use Rattle.std.proofs.lemmas.List.{nil_from_length, length-drop}
use Rattle.wasm_form.specs.declared.instr.BlockType.{BlockType}
use Rattle.wasm_form.specs.declared.instr.Instr.{Instr, Block, Loop, If, Prefixed, roll-Instr, out-Instr, roll-out-Instr, fold-roll-Instr}
use Rattle.wasm_form.specs.declared.instr.Instr.TheOpen as Open
use Rattle.wasm_form.specs.declared.instr.Instr.TheVariants.{rolls-Block, rolls-Loop, rolls-If, rolls-Prefixed}
use Rattle.wasm_form.specs.declared.instr.Expr.{Expr}
use Rattle.spec_reading.specs.spec_binary.Trees.{every, every_here, every_inside, every_of}
use Rattle.spec_reading.specs.spec_binary.WellFormed.{names_no_data}
use Rattle.spec_reading.proofs.Trees.{every-Block, every-Loop, every-If-alone, every-If-else, every-Prefixed}
use Rattle.wasm_decode.specs.Counts.{other_names_no_data}

and_true : (b : Bool) → (b && true) ≡ b
and_true true = refl
and_true false = refl

pub names-Block : (t : BlockType) (e : Expr) → every names_no_data (Block t e) ≡ every_of names_no_data e.list
names-Block t e = every-Block names_no_data t e

pub names-Loop : (t : BlockType) (e : Expr) → every names_no_data (Loop t e) ≡ every_of names_no_data e.list
names-Loop t e = every-Loop names_no_data t e

pub names-If : (t : BlockType) (e : Expr) (o : Option Expr) → every names_no_data (If t e o) ≡ every_of names_no_data e.list && other_names_no_data o
names-If t e None = every-If-alone names_no_data t e ∙ sym (and_true (every_of names_no_data e.list))
names-If t e (Some f) = every-If-else names_no_data t e f

pub names-Prefixed : (op a b : ℕ) → every names_no_data (Prefixed op a b) ≡ not (eqb op 8) && not (eqb op 9)
names-Prefixed op a b = every-Prefixed names_no_data op a b

-- one that is none of these
flat : (i : Instr) (x : Open.Instr-F Instr Expr) → i ≡ roll-Instr x → ((t : BlockType) (e : Expr) → i ≡ Block t e → ⊥) → ((t : BlockType) (e : Expr) → i ≡ Loop t e → ⊥)
    → ((t : BlockType) (e : Expr) (o : Option Expr) → i ≡ If t e o → ⊥) → ((op a b : ℕ) → i ≡ Prefixed op a b → ⊥) → true ≡ every names_no_data i
unfolding every
flat i (Open.Block t e) q b l f p = absurd (b t e (q ∙ rolls-Block t e))
flat i (Open.Loop t e) q b l f p = absurd (l t e (q ∙ rolls-Loop t e))
flat i (Open.If t e o) q b l f p = absurd (f t e o (q ∙ rolls-If t e o))
flat i (Open.Prefixed op a c) q b l f p = absurd (p op a c (q ∙ rolls-Prefixed op a c))
flat i x q b l f p = sym (ap (every names_no_data) q ∙ fold-roll-Instr Bool Bool (every_here names_no_data) every_inside x)

pub names-flat : (i : Instr) → ((t : BlockType) (e : Expr) → i ≡ Block t e → ⊥) → ((t : BlockType) (e : Expr) → i ≡ Loop t e → ⊥)
    → ((t : BlockType) (e : Expr) (o : Option Expr) → i ≡ If t e o → ⊥) → ((op a b : ℕ) → i ≡ Prefixed op a b → ⊥) → true ≡ every names_no_data i
names-flat i = flat i (out-Instr i) (sym (roll-out-Instr i))

pub ruleset names_laws = (names-Block, names-Loop, names-If, names-Prefixed)

-- the loop over instructions
abbrev pub Remain : List Instr → ℕ → Type 0
Remain instrs i = every_of names_no_data instrs ≡ every_of names_no_data (drop i instrs)

turn : (instrs : List Instr) (i : ℕ) (x : Instr) → i < length instrs → x ≡ get_or instrs i x → every_of names_no_data (drop i instrs) ≡ every names_no_data x && every_of names_no_data (drop (suc i) instrs)
turn instrs i x h e = ap (every_of names_no_data) (drop-cons instrs i x h) ∙ ap (λ y. every names_no_data y && every_of names_no_data (drop (suc i) instrs)) (sym e)

pub names_go_on : (instrs : List Instr) (i : ℕ) (x : Instr) (t : Bool) → i < length instrs → x ≡ get_or instrs i x → t ≡ every names_no_data x → t ≡ true → Remain instrs i → Remain instrs (i + 1)
names_go_on instrs i x t h e s named so_far =
    so_far ∙ turn instrs i x h e ∙ ap (λ b. b && every_of names_no_data (drop (suc i) instrs)) (sym s ∙ named) ∙ ap (λ k. every_of names_no_data (drop k instrs)) (let k : suc i ≡ i + 1 = omega arith in k)

pub names_stop : (instrs : List Instr) (i : ℕ) (x : Instr) (t : Bool) → i < length instrs → x ≡ get_or instrs i x → t ≡ every names_no_data x → t ≡ false → Remain instrs i → false ≡ every_of names_no_data instrs
names_stop instrs i x t h e s named so_far =
    sym (so_far ∙ turn instrs i x h e ∙ ap (λ b. b && every_of names_no_data (drop (suc i) instrs)) (sym s ∙ named))

pub names_end : (instrs : List Instr) (i : ℕ) → length instrs ≤ i → Remain instrs i → true ≡ every_of names_no_data instrs
names_end instrs i h so_far =
    let none : drop i instrs ≡ [] = nil_from_length (drop i instrs) (omega (arith, length-drop i instrs)) in
    sym (so_far ∙ ap (every_of names_no_data) none)
