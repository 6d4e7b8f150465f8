-- Typing of blocks from a known stack.
use Rattle.std.proofs.Common.{◌≡◌, ℕ, suc, ◌+◌, ◌≤◌, max, List, [], ◌∷◌, ◌++◌, length, map, reverse, Option, Some, None, refl, sym, ap, ◌∙◌, subst, true, ◌&&◌, arith, if◌then◌else◌}
use Rattle.std.proofs.lemmas.Bool.{and_parts}
use Rattle.std.proofs.lemmas.List.{length-map}
use Rattle.spec_execution.specs.wasm_form.declared.types.ValType.{ValType}
use Rattle.spec_execution.specs.wasm_form.declared.types.ValType.TheVariants.{I32}
use Rattle.spec_execution.specs.wasm_form.declared.types.FuncType.{FuncType}
use Rattle.spec_execution.specs.wasm_form.declared.instr.Instr.{Instr, out-Instr}
use Rattle.spec_execution.specs.wasm_form.declared.instr.Expr.{Expr}
use Rattle.spec_execution.proofs.of_wasm_form.Levels.{with_inside, inside_else, fold_level}
use Rattle.spec_execution.specs.spec_binary.Options.{◌>>=◌}
use Rattle.spec_execution.specs.spec_binary.Trees.{greatest, nesting_here, nesting_inside, nesting, nesting_all, all_true, every_here, every_inside, every}
use Rattle.spec_execution.specs.spec_binary.BodyLimits.{most_nested}
use Rattle.spec_execution.specs.spec_validation.Stacks.{Stack, holding, take_off, ends_with}
use Rattle.spec_execution.specs.spec_validation.Context.{Context, Labels, from_to}
use Rattle.spec_execution.specs.spec_validation.Typing.{Reach, Meaning, inside, around, nested, either_way, or_nothing, after, afters, typed_here, body_reach}
use Rattle.spec_execution.proofs.of_spec_validation.Levels.{after_level}
use Rattle.spec_execution.specs.Activations.{else_of}
use Rattle.spec_safety.specs.ValueTypes.{constant_fits, constants_fit}
use Rattle.spec_safety.specs.TypedActivations.{known, Leads}
use Rattle.spec_safety.proofs.KnownStacks.{went_on, if_some, some_same, taken_known, put_over}

all_fit : (is : List Instr) → all_true (map (every constant_fits) is) ≡ constants_fit is
all_fit [] = refl
all_fit (i ∷ is) = ap (λ b. every constant_fits i && b) (all_fit is)

-- the constants in an instruction, by what is inside it
pub fit_level : (i : Instr) → every constant_fits i ≡ every_here constant_fits (with_inside constants_fit (out-Instr i))
unfolding every
fit_level i = fold_level (every_here constant_fits) every_inside constants_fit all_fit i

greatest_nesting : (is : List Instr) → greatest (map nesting is) ≡ nesting_all is
greatest_nesting [] = refl
greatest_nesting (i ∷ is) = ap (max (nesting i)) (greatest_nesting is)

-- how many blocks an instruction nests, by what is inside it
nesting_level : (i : Instr) → nesting i ≡ nesting_here (with_inside nesting_all (out-Instr i))
unfolding nesting
nesting_level i = fold_level nesting_here nesting_inside nesting_all greatest_nesting i

-- the first of some instructions, and the others
pub record Opened (c : Context) (labels : Labels) (under most : ℕ) (ts results : List ValType) (i : Instr) (is : List Instr) : Type 0 where
  pub reach : Reach
  pub typed : typed_here c (with_inside (afters c) (out-Instr i)) labels (known ts) ≡ Some reach
  pub high : under + reach.high ≤ most
  pub constants : every_here constant_fits (with_inside constants_fit (out-Instr i)) ≡ true
  pub nested : length labels + nesting_here (with_inside nesting_all (out-Instr i)) ≤ suc most_nested
  pub rest : Leads c labels under most reach.stack results is

pub opened : (c : Context) (labels : Labels) (under most : ℕ) (ts results : List ValType) (i : Instr) (is : List Instr)
    → Leads c labels under most (known ts) results (i ∷ is) → Opened c labels under most ts results i is
opened c labels under most ts results i is x =
    let b = went_on (after c i labels (known ts)) _ x.reach x.typed in
    let d = went_on (afters c is labels b.0.stack)
    (λ q. Some (record { stack = q.stack; high = max (length (map Some ts)) (max b.0.high q.high) })) x.reach b.2 in
    let same = some_same d.2 in
    let high : max (length (map Some ts)) (max b.0.high d.0.high) ≡ x.reach.high = ap (λ z. z.high) same in
    let room = x.high in
    let fit = and_parts (every constant_fits i) (constants_fit is) x.constants in
    let level = nesting_level i in
    let nested = x.nested in
    record {
      reach = b.0;
      typed = ap (λ (m : Meaning). m labels (known ts)) (sym (after_level c i (out-Instr i) refl)) ∙ b.1;
      high = omega arith;
      constants = sym (fit_level i) ∙ fit.0;
      nested = omega arith;
      rest = record {
        reach = d.0;
        typed = d.1;
        ends = subst (λ z. ends_with results z.stack ≡ true) (sym same) x.ends;
        high = omega arith;
        constants = fit.1;
        nested = omega arith;
      };
    }

-- the values that are there lie within the room
pub listed : (c : Context) (labels : Labels) (under most : ℕ) (ts results : List ValType) (is : List Instr)
    → Leads c labels under most (known ts) results is → under + length ts ≤ most
listed c labels under most ts results [] x =
    let high : length (map Some ts) ≡ x.reach.high = ap (λ z. z.high) (some_same x.typed) in
    let l = length-map ts (λ t. Some t) in
    let room = x.high in
    omega arith
listed c labels under most ts results (i ∷ is) x =
    let b = went_on (after c i labels (known ts)) _ x.reach x.typed in
    let d = went_on (afters c is labels b.0.stack)
    (λ q. Some (record { stack = q.stack; high = max (length (map Some ts)) (max b.0.high q.high) })) x.reach b.2 in
    let high : max (length (map Some ts)) (max b.0.high d.0.high) ≡ x.reach.high = ap (λ z. z.high) (some_same d.2) in
    let l = length-map ts (λ t. Some t) in
    let room = x.high in
    omega arith

pub inside_some : (body : Meaning) (label : List ValType) (f : FuncType) (labels : Labels) (q : Reach) → inside body label f labels ≡ Some q
    → (body (label ∷ labels) (known (reverse f.params)) ≡ Some q) × (ends_with f.results q.stack ≡ true)
inside_some body label f labels q e =
    let b = went_on (body (label ∷ labels) (holding f.params)) (λ r. if ends_with f.results r.stack then Some r else None) q e in
    let w = if_some (ends_with f.results b.0.stack) q (Some b.0) b.2 in
    (b.1 ∙ w.1, subst (λ z. ends_with f.results z.stack ≡ true) (some_same w.1) w.0)

leaves_known : (f : FuncType) (under : Stack) (kept : List ValType) (high : ℕ) (r : Reach) → under ≡ known kept → Some (around f under high) ≡ Some r
    → (r.stack ≡ known (reverse f.results ++ kept)) × (r.high ≡ length kept + high)
leaves_known f under kept high r u e =
    let same = some_same e in
    let l = length-map kept (λ t. Some t) in
    let h : length under.entries + high ≡ r.high = ap (λ z. z.high) same in
    let n : length under.entries ≡ length (map Some kept) = ap (λ z. length z.entries) u in
    (sym (ap (λ z. z.stack) same) ∙ put_over f.results under kept u, omega arith)

pub record Nested (body : Meaning) (label : List ValType) (f : FuncType) (labels : Labels) (ts : List ValType) (r : Reach) : Type 0 where
  pub kept : List ValType
  pub q : Reach
  pub is_on : ts ≡ reverse f.params ++ kept
  pub inner : body (label ∷ labels) (known (reverse f.params)) ≡ Some q
  pub ended : ends_with f.results q.stack ≡ true
  pub leaves : r.stack ≡ known (reverse f.results ++ kept)
  pub high : r.high ≡ length kept + q.high

pub nested_known : (body : Meaning) (label : List ValType) (f : FuncType) (labels : Labels) (ts : List ValType) (r : Reach)
    → nested body label f labels (known ts) ≡ Some r → Nested body label f labels ts r
nested_known body label f labels ts r e =
    let b = went_on (take_off f.params (known ts)) (λ under. inside body label f labels >>= λ r. Some (around f under r.high)) r e in
    let t = taken_known f.params ts b.0 b.1 in
    let d = went_on (inside body label f labels) (λ r. Some (around f b.0 r.high)) r b.2 in
    let i = inside_some body label f labels d.0 d.1 in
    let l = leaves_known f b.0 t.0 d.0.high r t.2 d.2 in
    record { kept = t.0; q = d.0; is_on = t.1; inner = i.0; ended = i.1; leaves = l.0; high = l.1 }

pub record Either (body other : Meaning) (f : FuncType) (labels : Labels) (ts : List ValType) (r : Reach) : Type 0 where
  pub kept : List ValType
  pub q : Reach
  pub p : Reach
  pub is_on : ts ≡ I32 ∷ (reverse f.params ++ kept)
  pub inner : body (f.results ∷ labels) (known (reverse f.params)) ≡ Some q
  pub ended : ends_with f.results q.stack ≡ true
  pub inner_other : other (f.results ∷ labels) (known (reverse f.params)) ≡ Some p
  pub ended_other : ends_with f.results p.stack ≡ true
  pub leaves : r.stack ≡ known (reverse f.results ++ kept)
  pub high : r.high ≡ length kept + max q.high p.high

pub either_known : (body other : Meaning) (f : FuncType) (labels : Labels) (ts : List ValType) (r : Reach)
    → either_way body other f labels (known ts) ≡ Some r → Either body other f labels ts r
either_known body other f labels ts r e =
    let a = went_on (take_off (I32 ∷ []) (known ts))
    (λ t. take_off f.params t >>= λ under. inside body f.results f labels >>= λ r. inside other f.results f labels >>= λ q. Some
    (around f under (max r.high q.high))) r e in
    let s = taken_known (I32 ∷ []) ts a.0 a.1 in
    let b = went_on (take_off f.params a.0)
    (λ under. inside body f.results f labels >>= λ r. inside other f.results f labels >>= λ q. Some (around f under (max r.high q.high))) r a.2 in
    let t = taken_known f.params s.0 b.0 (ap (take_off f.params) (sym s.2) ∙ b.1) in
    let d = went_on (inside body f.results f labels) (λ r. inside other f.results f labels >>= λ q. Some (around f b.0 (max r.high q.high))) r b.2 in
    let g = went_on (inside other f.results f labels) (λ q. Some (around f b.0 (max d.0.high q.high))) r d.2 in
    let i = inside_some body f.results f labels d.0 d.1 in
    let j = inside_some other f.results f labels g.0 g.1 in
    let l = leaves_known f b.0 t.0 (max d.0.high g.0.high) r t.2 g.2 in
    record {
      kept = t.0;
      q = d.0;
      p = g.0;
      is_on = s.1 ∙ ap (λ z. I32 ∷ z) t.1;
      inner = i.0;
      ended = i.1;
      inner_other = j.0;
      ended_other = j.1;
      leaves = l.0;
      high = l.1;
    }

pub else_is : (c : Context) (o : Option Expr) → or_nothing (inside_else (afters c) o) ≡ afters c (else_of o)
else_is c None = refl
else_is c (Some e) = refl

-- a well typed body begins with nothing, within its height
pub body_leads : (c : Context) (is : List Instr) (most : ℕ) (r : Reach) → body_reach c is ≡ Some r → r.high ≤ most → constants_fit is ≡ true
    → nesting_all is ≤ most_nested → Leads c (c.results ∷ []) 0 most (known []) c.results is
body_leads c is most r e room fit flat =
    let i = inside_some (afters c is) c.results (from_to [] c.results) [] r e in
    record { reach = r; typed = i.0; ends = i.1; high = omega arith; constants = fit; nested = omega arith }
