-- The bodies of a valid module have their types, and what its code refers to is a function: whatever the module imports.
use Rattle.std.proofs.Common.{◌≡◌, ℕ, ◌-◌, ◌≤◌, Bool, true, false, length, Option, Some, None, refl, sym, ap, ◌∙◌, subst, arith}
use Rattle.std.specs.Prelude.{is_some, slice_get, nat_lt, if◌then◌else◌}
use Rattle.std.specs.List.{All}
use Rattle.std.proofs.lemmas.Bool.{ltb-true, ltb-false, and_parts}
use Rattle.spec_execution.specs.wasm_form.declared.types.ValType.{ValType}
use Rattle.spec_execution.specs.wasm_form.declared.types.ValType.TheVariants.{FuncRef, ExternRef}
use Rattle.spec_execution.specs.wasm_form.declared.types.FuncType.{FuncType}
use Rattle.spec_execution.specs.wasm_form.declared.module.Code.{Code}
use Rattle.spec_execution.specs.wasm_form.declared.module.Module.{Module}
use Rattle.spec_execution.specs.spec_binary.Options.{◌>>=◌}
use Rattle.spec_execution.specs.spec_binary.WellFormed.{is_reference_type}
use Rattle.spec_execution.specs.spec_binary.BodyLimits.{IsWithinLimits}
use Rattle.spec_execution.specs.spec_binary.Indices.{Function, function_with, function_type, function_at}
use Rattle.spec_execution.specs.spec_binary.IndexSpaces.{functions_in, imports_of, function_space, imported_count}
use Rattle.spec_execution.proofs.of_spec_binary.Lists.{slice_get-append-right}
use Rattle.spec_execution.specs.spec_validation.Typing.{body_reach, height}
use Rattle.spec_execution.specs.spec_validation.Faults.{fault, is_function, refers, type_of_body, body_context, body_height}
use Rattle.spec_execution.proofs.of_spec_validation.Parts.{parts_fit, body_fits}
use Rattle.spec_execution.specs.Values.{is_number}
use Rattle.spec_execution.specs.Instances.{module_height, module_context}
use Rattle.spec_safety.specs.ValueTypes.{constants_fit}
use Rattle.spec_safety.specs.TypedViews.{HasBody}
use Rattle.spec_safety.specs.SoundModules.{HoldsNumbers}
use Rattle.spec_safety.proofs.Lookups.{went_on, holds_at}
use Rattle.spec_safety.proofs.Spaces.{function_has_type}

found : {A : Type 0} (o : Option A) → is_some o ≡ true → (a : A) × (o ≡ Some a)
found None e = absurd cc
found (Some a) e = (a, refl)

-- references are no numbers
pub no_number : (t : ValType) → is_reference_type t ≡ true → is_number t ≡ false
no_number FuncRef e = refl
no_number ExternRef e = refl
no_number _ e = absurd cc

module _ (m : Module) (valid : fault m ≡ None) where
  -- a function that the code may refer to has a type
  pub refers_typed : (f : ℕ) → refers m f ≡ true → (ty : FuncType) × (function_type m f ≡ Some ty)
  refers_typed f e =
      let lt = ltb-true f (length (function_space m)) (and_parts (is_function m f) _ e).0 in
      function_has_type m (parts_fit m valid) f lt

  -- the type of a function with a body is that of the body
  own_type : (f : ℕ) → imported_count m ≤ f → type_of_body m (f - imported_count m) ≡ function_type m f
  own_type f le =
      ap (λ (o : Option ℕ). o >>= λ t. slice_get m.types t) (sym (slice_get-append-right (imports_of functions_in m.imports) m.funcs f le))

  height_told : (f : ℕ) (c : Code) (high : ℕ) → slice_get m.codes (f - imported_count m) ≡ Some c
      → body_height m (f - imported_count m) c ≡ Some high → module_height m f ≡ high
  height_told f c high at e = rw (at, e) refl

  pub body_typed : All IsWithinLimits m.codes → HoldsNumbers m → (f : ℕ) (x : Function) → function_at m f ≡ Some x → HasBody (module_context m) (module_height m f) x
  body_typed limits numbers f x e = go (nat_lt f (imported_count m)) refl e
    where
      go : (b : Bool) → nat_lt f (imported_count m) ≡ b
          → (if b then None else (slice_get m.codes (f - imported_count m) >>= λ c. function_type m f >>= λ ty. Some (function_with ty c))) ≡ Some x
          → HasBody (module_context m) (module_height m f) x
      go true q e = absurd cc
      go false q e =
          let c = went_on (slice_get m.codes (f - imported_count m)) _ x e in
          let ty = went_on (function_type m f) _ x c.2 in
          let is : function_with ty.0 c.0 ≡ x = (let h = ty.2 in cc) in
          let high = found (body_height m (f - imported_count m) c.0) (body_fits m valid (f - imported_count m) c.0 c.1) in
          let own = went_on (type_of_body m (f - imported_count m)) (λ t. height (body_context m t c.0) c.0.body.list) high.0 high.1 in
          let same : own.0 ≡ ty.0 = (let h = sym own.1 ∙ own_type f (ltb-false f (imported_count m) q) ∙ ty.1 in cc) in
          let reach = went_on (body_reach (body_context m own.0 c.0) c.0.body.list) (λ r. Some r.high) high.0 own.2 in
          let told : module_height m f ≡ high.0 = height_told f c.0 high.0 c.1 high.1 in
          let is_high : reach.0.high ≡ high.0 = (let h = reach.2 in cc) in
          let most : reach.0.high ≡ module_height m f = is_high ∙ sym told in
          let flat = (holds_at IsWithinLimits m.codes (f - imported_count m) c.0 limits c.1).flat in
          let constants = holds_at (λ (y : Code). constants_fit y.body.list ≡ true) m.codes (f - imported_count m) c.0 numbers.codes c.1 in
          let body : HasBody (module_context m) (module_height m f) (function_with own.0 c.0) = (reach.0, reach.1, omega arith, constants, flat) in
          subst (HasBody (module_context m) (module_height m f)) (ap (λ (t : FuncType). function_with t c.0) same ∙ is) body
