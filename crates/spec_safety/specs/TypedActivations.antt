-- Activations whose values and whose code are typed, continuation by continuation (WebAssembly Core 2.0, appendix on soundness).
use Rattle.std.specs.Prelude.{◌≡◌, ◌≤◌, ◌+◌, ℕ, suc, List, [], ◌∷◌, ◌++◌, length, map, reverse, Option, Some, None, true, false}
use Rattle.spec_execution.specs.wasm_form.declared.types.ValType.{ValType}
use Rattle.spec_execution.specs.wasm_form.declared.instr.Instr.{Instr}
use Rattle.spec_execution.specs.spec_binary.Trees.{nesting_all}
use Rattle.spec_execution.specs.spec_binary.BodyLimits.{most_nested}
use Rattle.spec_execution.specs.spec_binary.Indices.{Function}
use Rattle.spec_execution.specs.spec_validation.Stacks.{Stack, ends_with}
use Rattle.spec_execution.specs.spec_validation.Context.{Context, Labels}
use Rattle.spec_execution.specs.spec_validation.Typing.{Reach, afters}
use Rattle.spec_execution.specs.Activations.{Level, Activation}
use Rattle.spec_execution.specs.Views.{View}
use Rattle.spec_safety.specs.ValueTypes.{HaveTypes, constants_fit}

-- these entries, the topmost first, over a known floor
abbrev pub known : List ValType → Stack
known ts = record { entries = map Some ts; loose = false }

-- the values under open blocks
abbrev pub count_below : List Level → ℕ
count_below [] = 0
count_below (l ∷ ls) = length l.below + count_below ls

-- From a stack, over so many other values, code leads to exactly these results; on the way there are at most so many values, and its
-- constants are numbers of their types. With the open blocks, of which there is one less than labels, no more blocks are nested than a
-- body may nest.
pub record Leads (c : Context) (labels : Labels) (under most : ℕ) (s : Stack) (results : List ValType) (is : List Instr) : Type 0 where
  pub reach : Reach
  pub typed : afters c is labels s ≡ Some reach
  pub ends : ends_with results reach.stack ≡ true
  pub high : under + reach.high ≤ most
  pub constants : constants_fit is ≡ true
  pub nested : length labels + nesting_all is ≤ suc most_nested

-- Where a branch to a block goes on: behind it, with what its end leaves; or at a loop's start, with what its code begins with.
abbrev pub GoesOnAt : Context → Labels → ℕ → ℕ → List ValType → List ValType → Option (List Instr) → Type 0
GoesOnAt c labels under most taken ends None = taken ≡ ends
GoesOnAt c labels under most taken ends (Some body) = Leads c labels under most (known (reverse taken)) ends body

-- An open block over others: a branch to it takes values of these types, its own code leads to `ends`, and the code after it, over the
-- values under it, to `outer`.
pub record IsOpen {Units : Type 0} (V : View Units) (c : Context) (most : ℕ) (l : Level) (ls : List Level) (taken : List ValType) (labels : Labels)
    (ends outer : List ValType) : Type 0 where
  pub arity : length taken ≡ l.arity
  pub again : GoesOnAt c (taken ∷ labels) (count_below (l ∷ ls)) most taken ends l.again
  pub kept : List ValType
  pub below : HaveTypes V kept l.below
  pub after : Leads c labels (count_below ls) most (known (reverse ends ++ kept)) outer l.after

-- open blocks, whose innermost code leads to `ends`; the last of the labels is the body's
abbrev pub AreOpen : {Units : Type 0} → View Units → Context → ℕ → List Level → Labels → List ValType → Type 0
AreOpen V c most [] labels ends = (labels ≡ c.results ∷ []) × (ends ≡ c.results)
AreOpen V c most (l ∷ ls) [] ends = ⊥
AreOpen V c most (l ∷ ls) (taken ∷ labels) ends = (outer : List ValType) × IsOpen V c most l ls taken labels ends outer
    × AreOpen V c most ls labels outer

-- a unit's context, for a body with these locals and results
abbrev pub within : Context → List ValType → List ValType → Context
within c locals results = record c { locals = locals; results = results }

-- an activation of this function of its unit, with as many results
abbrev pub IsOf : {Units : Type 0} → View Units → Function → Activation → Type 0
IsOf V x a = (V.code a.unit a.func ≡ Some x) × (length x.ty.results ≡ a.results)

-- An activation of a function, which returns its results and whose locals hold its parameters and its other locals. It goes on once the
-- values of types `taken` on top were replaced by values of types `given`.
pub record IsTyped {Units : Type 0} (V : View Units) (N : ℕ → Context) (x : Function) (taken given : List ValType) (a : Activation) : Type 0 where
  pub labels : Labels
  pub ends : List ValType
  pub kept : List ValType
  pub is_of : IsOf V x a
  pub locals : HaveTypes V (x.ty.params ++ x.locals) a.locals
  pub values : HaveTypes V (taken ++ kept) a.values
  pub rest : Leads (within (N a.unit) (x.ty.params ++ x.locals) x.ty.results) labels (count_below a.levels) (V.height a.unit a.func)
      (known (given ++ kept)) ends a.rest
  pub levels : AreOpen V (within (N a.unit) (x.ty.params ++ x.locals) x.ty.results) (V.height a.unit a.func) a.levels labels ends
