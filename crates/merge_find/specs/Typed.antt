-- The code of a search is well typed (WebAssembly Core 2.0, section 3.3), whatever names there are.
use Rattle.std.specs.Prelude.{◌≡◌, ℕ, List, [], ◌∷◌, slice_get, Some, true}
use Rattle.std.specs.List.{AllByRecursion as Each}
use Rattle.wasm_form.specs.declared.types.ValType.TheVariants.{I32, I64}
use Rattle.wasm_form.specs.declared.instr.Instr.{Instr}
use Rattle.spec_execution.specs.spec_validation.Stacks.{holding, unreachable}
use Rattle.spec_execution.specs.spec_validation.Context.{Context, Labels}
use Rattle.spec_execution.specs.spec_validation.Typing.{afters, height}
use Rattle.merge_find.specs.Decisions.{Goal, Named, search_code}
use Rattle.merge_find.specs.Finding.{search_body}

-- well typed code that returns, in whatever blocks
abbrev pub Ends : Context → List Instr → Type 0
Ends c code = (labels : Labels) → (h : ℕ) × (afters c code labels (holding []) ≡ Some (record { stack = unreachable; high = h }))

-- where the code of each name is, and that for no name
abbrev pub SearchIsTyped : Type 0
SearchIsTyped = (c : Context) (g : Goal) → c.memory ≡ true → slice_get c.locals 0 ≡ Some I32 → slice_get c.locals g.len ≡ Some I32
    → Ends c g.missed → (xs : List Named) → Each (λ x. Ends c x.1) xs → Ends c (search_code g xs)

-- the body of a function that searches for numbers
abbrev pub BodyIsTyped : Type 0
BodyIsTyped = (c : Context) (xs : List (List ℕ × ℕ)) → c.memory ≡ true → c.locals ≡ I32 ∷ I32 ∷ [] → c.results ≡ I64 ∷ []
    → (h : ℕ) × (height c (search_body xs).body.list ≡ Some h)
