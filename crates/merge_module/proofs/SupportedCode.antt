-- Renumbered code is supported where the code is.
use Rattle.std.proofs.Common.{◌≡◌, ℕ, Bool, true, nat_le, ◌+◌, List, [], ◌∷◌, map, Some, None, refl, sym, ap, ◌∙◌, subst}
use Rattle.std.specs.Prelude.{not}
use Rattle.std.specs.List.{list_all}
use Rattle.spec_reading.specs.wasm_form.declared.instr.BlockType.{BlockType}
use Rattle.spec_reading.specs.wasm_form.declared.instr.BlockType.TheVariants as block
use Rattle.spec_reading.specs.wasm_form.declared.instr.Instr.{Instr, roll-Instr, map-Instr, ind-Instr}
use Rattle.spec_reading.specs.wasm_form.declared.instr.Instr.TheOpen as Open
use Rattle.spec_reading.specs.wasm_form.declared.instr.Expr.{Expr}
use Rattle.spec_reading.specs.wasm_form.declared.module.Code.{Code}
use Rattle.spec_reading.specs.wasm_form.declared.module.Module.{Module}
use Rattle.spec_reading.proofs.of_wasm_form.Levels.{with_inside, fold_rolled}
use Rattle.spec_loading.specs.spec_validation.declared.fault.Place.TheVariants as place
use Rattle.spec_loading.specs.spec_validation.declared.fault.CheckFault.{CheckFault}
use Rattle.spec_loading.specs.spec_validation.declared.fault.CheckFault.TheVariants.{UnsupportedOp, UnsupportedType}
use Rattle.spec_loading.specs.spec_validation.Faults.{Finding, ◌or_else◌, unless, is_supported, type_supported, is_float_opcode, block_supported, unsupported_here, first_of, unsupported_inside, unsupported, unsupported_of, is_group_supported, body_supported}
use Rattle.merge_match.specs.Renumbering.{Numbers, block_type as numbered_block, renumbered, instr, code, expr}
use Rattle.merge_match.proofs.OneLevel.{inside as with_numbers, instr_rolled}
use Rattle.merge_module.proofs.Faultless.{neither, both_none, holds_so, so_none}

-- the first finding in a list inside an instruction
abbrev pub unsupported_list : Module → ℕ → List Instr → Finding
unsupported_list wasm k is = first_of (map (unsupported wasm k) is)

pub supported_level : (wasm : Module) (k : ℕ) (x : Open.Instr-F Instr Expr) → unsupported wasm k (roll-Instr x) ≡ unsupported_here wasm k (with_inside (unsupported_list wasm k) x)
unfolding unsupported
supported_level wasm k x = fold_rolled (unsupported_here wasm k) unsupported_inside (unsupported_list wasm k) (λ is. refl) x

pub list_is : (wasm : Module) (k : ℕ) (is : List Instr) → unsupported_of wasm k is ≡ unsupported_list wasm k is
list_is wasm k [] = refl
list_is wasm k (i ∷ is) = ap (λ f. unsupported wasm k i or_else f) (list_is wasm k is)

-- none is found in the one where none is found in the other
abbrev NoneToo : Finding → Finding → Type 0
NoneToo a b = a ≡ None → b ≡ None

unless_too : (b c : Bool) (f g : CheckFault) → (b ≡ true → c ≡ true) → NoneToo (unless b f) (unless c g)
unless_too b c f g so e = so_none c g (so (holds_so b f e))

then_too : (a b c d : Finding) → NoneToo a b → NoneToo c d → NoneToo (a or_else c) (b or_else d)
then_too a b c d first later e = let parts = neither a c e in both_none b d (first parts.0) (later parts.1)

module _ (n : Numbers) (m : ℕ) (v w : Module) (types : (t : ℕ) → type_supported v t ≡ true → type_supported w (n.ty m t) ≡ true) (j k : ℕ) where
  block_too : (t : BlockType) → block_supported v t ≡ true → block_supported w (numbered_block n m t) ≡ true
  block_too block.Empty e = e
  block_too (block.Value t) e = e
  block_too (block.Index t) e = types t e

  abbrev Kept : Instr → Type 0
  Kept i = NoneToo (unsupported v j i) (unsupported w k (instr n m i))

  abbrev AllKept : Expr → Type 0
  AllKept e = NoneToo (unsupported_list v j e.list) (unsupported_list w k (code n m e.list))

  abbrev Inside : Open.Instr-F Instr Expr → Type 0
  Inside (Open.Block t e) = AllKept e
  Inside (Open.Loop t e) = AllKept e
  Inside (Open.If t e None) = AllKept e
  Inside (Open.If t e (Some other)) = AllKept e × AllKept other
  Inside _ = Unit {0}

  type_too : (t : BlockType) → NoneToo (unless (block_supported v t) (UnsupportedType (place.Body j))) (unless (block_supported w (numbered_block n m t)) (UnsupportedType (place.Body k)))
  type_too t = unless_too (block_supported v t) (block_supported w (numbered_block n m t)) (UnsupportedType (place.Body j)) (UnsupportedType (place.Body k)) (block_too t)

  level_kept : (x : Open.Instr-F Instr Expr) → Inside x → NoneToo (unsupported_here v j (with_inside (unsupported_list v j) x)) (unsupported_here w k (with_inside (unsupported_list w k) (renumbered n m (with_numbers n m x))))
  level_kept (Open.Plain op) i e = unless_too (not (is_float_opcode op)) (not (is_float_opcode op)) (UnsupportedOp j op) (UnsupportedOp k op) (λ h. h) e
  level_kept (Open.Index op x) i e = refl
  level_kept (Open.Block t b) i e = then_too _ _ (unsupported_list v j b.list) (unsupported_list w k (code n m b.list)) (type_too t) i e
  level_kept (Open.Loop t b) i e = then_too _ _ (unsupported_list v j b.list) (unsupported_list w k (code n m b.list)) (type_too t) i e
  level_kept (Open.If t b None) i e = then_too _ _ (unsupported_list v j b.list) (unsupported_list w k (code n m b.list)) (type_too t) i e
  level_kept (Open.If t b (Some other)) i e =
      then_too _ _ (unsupported_list v j b.list or_else unsupported_list v j other.list) (unsupported_list w k (code n m b.list) or_else unsupported_list w k (code n m other.list)) (type_too t)
      (then_too (unsupported_list v j b.list) (unsupported_list w k (code n m b.list)) (unsupported_list v j other.list) (unsupported_list w k (code n m other.list)) i.0 i.1) e
  level_kept (Open.BrTable ks last) i e = refl
  level_kept (Open.CallIndirect ty table) i e = unless_too (type_supported v ty) (type_supported w (n.ty m ty)) (UnsupportedType (place.Body j)) (UnsupportedType (place.Body k)) (types ty) e
  level_kept (Open.Select ts) i e = unless_too (list_all is_supported ts) (list_all is_supported ts) (UnsupportedType (place.Body j)) (UnsupportedType (place.Body k)) (λ h. h) e
  level_kept (Open.Access op align offset) i e = unless_too (not (is_float_opcode op)) (not (is_float_opcode op)) (UnsupportedOp j op) (UnsupportedOp k op) (λ h. h) e
  level_kept Open.MemorySize i e = refl
  level_kept Open.MemoryGrow i e = refl
  level_kept (Open.I32Const x) i e = refl
  level_kept (Open.I64Const x) i e = refl
  level_kept (Open.F32Const bits) i e = absurd cc
  level_kept (Open.F64Const bits) i e = absurd cc
  level_kept (Open.RefNull t) i e = unless_too (is_supported t) (is_supported t) (UnsupportedType (place.Body j)) (UnsupportedType (place.Body k)) (λ h. h) e
  level_kept (Open.Prefixed op x y) i e = unless_too (nat_le 8 op) (nat_le 8 op) (UnsupportedOp j (0xFC00 + op)) (UnsupportedOp k (0xFC00 + op)) (λ h. h) e

  rolled_kept : (x : Open.Instr-F Instr Expr) → Inside x → Kept (roll-Instr x)
  rolled_kept x i e =
      ap (unsupported w k) (instr_rolled n m x) ∙ supported_level w k (renumbered n m (with_numbers n m x)) ∙ level_kept x i (sym (supported_level v j x) ∙ e)

  held : (y : Open.Instr-F ((i : Instr) × Kept i) ((e : Expr) × AllKept e)) → Inside (map-Instr _ _ Instr Expr (λ i. i.0) (λ e. e.0) y)
  held (Open.Block t e) = e.1
  held (Open.Loop t e) = e.1
  held (Open.If t e None) = e.1
  held (Open.If t e (Some other)) = (e.1, other.1)
  held (Open.Plain op) = tt
  held (Open.Index op x) = tt
  held (Open.BrTable ks last) = tt
  held (Open.CallIndirect ty table) = tt
  held (Open.Select ts) = tt
  held (Open.Access op align offset) = tt
  held Open.MemorySize = tt
  held Open.MemoryGrow = tt
  held (Open.I32Const x) = tt
  held (Open.I64Const x) = tt
  held (Open.F32Const bits) = tt
  held (Open.F64Const bits) = tt
  held (Open.RefNull t) = tt
  held (Open.Prefixed op x y) = tt

  list_kept : (is : List ((i : Instr) × Kept i)) → NoneToo (unsupported_list v j (map (λ i. i.0) is)) (unsupported_list w k (code n m (map (λ i. i.0) is)))
  list_kept [] e = refl
  list_kept (i ∷ is) e =
      then_too (unsupported v j i.0) (unsupported w k (instr n m i.0)) (unsupported_list v j (map (λ i. i.0) is)) (unsupported_list w k (code n m (map (λ i. i.0) is))) i.1 (list_kept is) e

  abbrev ListKept : Open.Expr-F Instr Expr → Type 0
  ListKept x = NoneToo (unsupported_list v j x.list) (unsupported_list w k (code n m x.list))

  instr_kept : (i : Instr) → Kept i
  instr_kept = ind-Instr Kept AllKept (λ x y is. rolled_kept x (subst Inside is (held y))) (λ x y is. subst ListKept is (list_kept y.list))

  code_kept : (is : List Instr) → NoneToo (unsupported_of v j is) (unsupported_of w k (code n m is))
  code_kept [] e = refl
  code_kept (i ∷ is) e = then_too (unsupported v j i) (unsupported w k (instr n m i)) (unsupported_of v j is) (unsupported_of w k (code n m is)) (instr_kept i) (code_kept is) e

  -- the code of a function with its numbers replaced is supported too
  pub body_kept : (c : Code) → body_supported v j c ≡ None → body_supported w k (record c { body = expr n m c.body }) ≡ None
  body_kept c e =
      then_too (unless (list_all is_group_supported c.locals) (UnsupportedType (place.Body j))) (unless (list_all is_group_supported c.locals) (UnsupportedType (place.Body k)))
      (unsupported_of v j c.body.list) (unsupported_of w k (code n m c.body.list))
      (unless_too (list_all is_group_supported c.locals) (list_all is_group_supported c.locals) (UnsupportedType (place.Body j)) (UnsupportedType (place.Body k)) (λ h. h)) (code_kept c.body.list) e
