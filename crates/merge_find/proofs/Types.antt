-- Code that leads from a stack of types to another under labels (WebAssembly Core 2.0, section 3.3).
use Rattle.std.proofs.Common.{◌≡◌, ℕ, ◌+◌, max, List, [], ◌∷◌, ◌++◌, length, map, slice_get, Option, Some, None, unwrap_or, true, if◌then◌else◌, refl, ap, ◌∙◌, subst}
use Rattle.std.specs.Int.{cast_signed, w32, w64}
use Rattle.wasm_form.specs.declared.types.ValType.{ValType}
use Rattle.wasm_form.specs.declared.types.ValType.TheVariants.{I32, I64}
use Rattle.wasm_form.specs.declared.instr.BlockType.TheVariants.{Empty}
use Rattle.wasm_form.specs.declared.instr.Instr.{Instr, Plain, Index, Block, Access}
use Rattle.spec_execution.specs.spec_binary.Options.{◌>>=◌}
use Rattle.spec_execution.specs.spec_validation.Stacks.{Stack, holding, ends_with}
use Rattle.spec_execution.specs.spec_validation.Context.{Context, Labels}
use Rattle.spec_execution.specs.spec_validation.Typing.{Reach, after, afters, height}
use Rattle.wasm_typing.proofs.Laws.{after-Plain, after-Index, after-Block, after-If, after-Access, after-I32Const, after-I64Const}
use Rattle.merge_pieces.specs.Opcodes as op
use Rattle.merge_pieces.specs.Code.{number}
use Rattle.merge_find.specs.Decisions.{wide, when}

abbrev pub none : Stack
none = holding []

abbrev pub on_top : List ValType → Stack → Stack
on_top ts s = record s { entries = map Some ts ++ s.entries }

pub data Types (c : Context) (labels : Labels) : List Instr → Stack → Stack → Type 0 where
  done : {s : Stack} → Types c labels [] s s
  step : {i : Instr} {is : List Instr} {s t u : Stack} (h : ℕ) → after c i labels s ≡ Some (record { stack = t; high = h })
      → Types c labels is t u → Types c labels (i ∷ is) s u

pub types_then : {c : Context} {labels : Labels} {p q : List Instr} {s t u : Stack} → Types c labels p s t → Types c labels q t u
    → Types c labels (p ++ q) s u
types_then done b = b
types_then (step h e more) b = step h e (types_then more b)

-- it has a meaning, and what has a meaning is typed so
pub meaning : {c : Context} {labels : Labels} {is : List Instr} {s u : Stack} → Types c labels is s u
    → (h : ℕ) × (afters c is labels s ≡ Some (record { stack = u; high = h }))
meaning {s} done = (length s.entries, refl)
meaning {c} {s} (step h e more) = (let b = meaning more in (max (length s.entries) (max h b.0), rw (e, b.1) refl))

went_on : {A B : Type 0} (o : Option A) (f : A → Option B) (b : B) → (o >>= f) ≡ Some b → (a : A) × (o ≡ Some a) × (f a ≡ Some b)
went_on None f b e = absurd cc
went_on (Some a) f b e = (a, refl, e)

same_stack : (r q : Reach) → Some r ≡ Some q → r.stack ≡ q.stack
same_stack r q e = ap (λ (o : Option Reach). (unwrap_or o r).stack) e

pub types_of : {c : Context} {labels : Labels} (is : List Instr) (s u : Stack) (h : ℕ) → afters c is labels s ≡ Some (record { stack = u; high = h }) → Types c labels is s u
types_of {c} {labels} [] s u h e = subst (λ t. Types c labels [] s t) (same_stack (record { stack = s; high = length s.entries }) (record { stack = u; high = h }) e) done
types_of {c} {labels} (i ∷ is) s u h e =
    let first = went_on (after c i labels s) (λ r. afters c is labels r.stack >>= λ q. Some (record { stack = q.stack; high = max (length s.entries) (max r.high q.high) })) (record { stack = u; high = h }) e in
    let r = first.0 in
    let rest = went_on (afters c is labels r.stack) (λ q. Some (record { stack = q.stack; high = max (length s.entries) (max r.high q.high) })) (record { stack = u; high = h }) first.2 in
    let q = rest.0 in
    let same = same_stack (record { stack = q.stack; high = max (length s.entries) (max r.high q.high) }) (record { stack = u; high = h }) rest.2 in
    step r.high first.1 (subst (λ t. Types c labels is r.stack t) same (types_of is r.stack q.stack q.high rest.1))

closed : (rs : List ValType) (r : Reach) → ends_with rs r.stack ≡ true → ((if ends_with rs r.stack then Some r else None) >>= λ q. Some q.high) ≡ Some r.high
closed rs r ends = rw ends refl

-- a body without parameters
pub body_typed : {c : Context} {is : List Instr} (t : Stack) → ends_with c.results t ≡ true → Types c (c.results ∷ []) is none t → (h : ℕ) × (height c is ≡ Some h)
body_typed {c} {is} t ends a =
    let m = meaning a in
    let r : Reach = record { stack = t; high = m.0 } in
    (m.0, ap (λ o. (o >>= λ q. if ends_with c.results q.stack then Some q else None) >>= λ q. Some q.high) m.1 ∙ closed c.results r ends)

module _ {c : Context} {labels : Labels} where
  -- ---- blocks, whose code begins with nothing on the stack

  pub when_typed : {p : List Instr} (t : Stack) → ends_with [] t ≡ true → Types c ([] ∷ labels) p none t → Types c labels (when p ∷ []) (on_top (I32 ∷ []) none) none
  when_typed {p} t ends a =
      let m = meaning a in
      step (0 + max m.0 0) (after-If c Empty (record { list = p }) None labels (on_top (I32 ∷ []) none) ∙ rw (m.1, ends) refl) done

  pub block_typed : {p : List Instr} (t : Stack) → ends_with [] t ≡ true → Types c ([] ∷ labels) p none t → Types c labels (Block Empty (record { list = p }) ∷ []) none none
  block_typed {p} t ends a =
      let m = meaning a in
      step (0 + m.0) (after-Block c Empty (record { list = p }) labels none ∙ rw (m.1, ends) refl) done

  -- ---- instructions

  pub local_typed : (k : ℕ) (t : ValType) (s : Stack) → slice_get c.locals k ≡ Some t → Types c labels (Index op.local_get k ∷ []) s (on_top (t ∷ []) s)
  local_typed k t s e = step 0 (after-Index c op.local_get k labels s ∙ rw e refl) done

  pub load_typed : (offset : ℕ) (s : Stack) → c.memory ≡ true → Types c labels (Access op.i32_load8_u 0 offset ∷ []) (on_top (I32 ∷ []) s) (on_top (I32 ∷ []) s)
  load_typed offset s e = step 0 (after-Access c op.i32_load8_u 0 offset labels (on_top (I32 ∷ []) s) ∙ rw e refl) done

  pub number_typed : (k : ℕ) (s : Stack) → Types c labels (number k ∷ []) s (on_top (I32 ∷ []) s)
  number_typed k s = step 0 (after-I32Const c (cast_signed w32 k) labels s) done

  pub wide_typed : (k : ℕ) (s : Stack) → Types c labels (wide k ∷ []) s (on_top (I64 ∷ []) s)
  wide_typed k s = step 0 (after-I64Const c (cast_signed w64 k) labels s) done

  pub differ_typed : (s : Stack) → Types c labels (Plain op.i32_ne ∷ []) (on_top (I32 ∷ I32 ∷ []) s) (on_top (I32 ∷ []) s)
  differ_typed s = step 0 (after-Plain c op.i32_ne labels (on_top (I32 ∷ I32 ∷ []) s)) done

  pub less_typed : (s : Stack) → Types c labels (Plain op.i32_lt_u ∷ []) (on_top (I32 ∷ I32 ∷ []) s) (on_top (I32 ∷ []) s)
  less_typed s = step 0 (after-Plain c op.i32_lt_u labels (on_top (I32 ∷ I32 ∷ []) s)) done

  pub least_typed : (s : Stack) → Types c labels (Plain op.i32_ge_u ∷ []) (on_top (I32 ∷ I32 ∷ []) s) (on_top (I32 ∷ []) s)
  least_typed s = step 0 (after-Plain c op.i32_ge_u labels (on_top (I32 ∷ I32 ∷ []) s)) done
