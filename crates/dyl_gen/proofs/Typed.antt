-- The bodies of the set are well typed (WebAssembly Core 2.0, section 3.3).
use Rattle.std.proofs.Common.{◌≡◌, ℕ, true, false, [], ◌∷◌, Some}
use Rattle.wasm_form.specs.declared.types.ValType.TheVariants.{I32, FuncRef}
use Rattle.spec_linking.specs.spec_validation.Context.{Context}
use Rattle.spec_linking.specs.spec_validation.Typing.{height}
use Rattle.wasm_typing.proofs.Laws.{after-Plain, after-Index, after-If, after-CallIndirect, after-Access, after-I32Const}
use Rattle.dyl_gen.specs.Generated.{no_numbers, one_number, four_numbers, number_type, function_code, relocation_code, constructor_code, start_code}

-- the imported globals and the memory, which each member has
pub record HasShared (c : Context) : Type 0 where
  pub base : c.globals 0 ≡ Some (number_type false)
  pub value : c.globals 1 ≡ Some (number_type true)
  pub slot : c.globals 2 ≡ Some (number_type true)
  pub memory : c.memory ≡ true

module _ (c : Context) (has : HasShared c) where
  pub function_height : c.locals ≡ I32 ∷ [] → c.types 1 ≡ Some one_number → c.tables 0 ≡ Some FuncRef → c.results ≡ I32 ∷ [] → height c function_code ≡ Some 3
  function_height locals types tables results =
      simp (after-Plain, after-Index, after-If, after-CallIndirect, after-Access, after-I32Const, has.base, has.slot, has.memory, locals, types, tables, results)

  pub relocation_height : c.results ≡ [] → height c relocation_code ≡ Some 2
  relocation_height results = simp (after-Index, after-Access, has.base, has.value, has.memory, results)

  pub constructor_height : c.results ≡ [] → height c constructor_code ≡ Some 3
  constructor_height results = simp (after-Plain, after-Index, after-Access, after-I32Const, has.base, has.memory, results)

  pub start_height : (n : ℕ) → c.functions 0 ≡ Some one_number → c.functions 1 ≡ Some four_numbers → c.functions 4 ≡ Some no_numbers → c.results ≡ [] → height c (start_code n) ≡ Some 4
  start_height n called put own results =
      simp (after-Plain, after-Index, after-Access, after-I32Const, has.base, has.memory, called, put, own, results)
