-- What a typed activation does next.
-- Part of the statement of laws (WebAssembly Core 2.0, appendix on soundness).
use Rattle.std.specs.Prelude.{◌≡◌, ◌<◌, ℕ, List, [], ◌∷◌, reverse, Some, true, false}
use Rattle.spec_execution.specs.wasm_form.declared.types.ValType.{ValType}
use Rattle.spec_execution.specs.wasm_form.declared.types.ValType.TheVariants.{I32, FuncRef}
use Rattle.spec_execution.specs.wasm_form.declared.types.FuncType.{FuncType}
use Rattle.spec_execution.specs.wasm_form.declared.types.GlobalType.{GlobalType}
use Rattle.spec_execution.specs.wasm_form.Access.{memory_access}
use Rattle.spec_execution.specs.spec_binary.Indices.{Function}
use Rattle.spec_execution.specs.spec_validation.Context.{Context}
use Rattle.spec_execution.specs.Activations.{Effect, GlobalGet, GlobalSet, TableGet, TableSet, TableSize, TableGrow, TableFill, TableCopy, TableInit, ElemDrop, Load, Store, MemorySize, MemoryGrow, MemoryCopy, MemoryFill, MemoryInit, DataDrop, Move, On, Calls, CallsEntry, Refers, Does, Leaves, Fails, Stuck}
use Rattle.spec_execution.specs.Views.{View}
use Rattle.spec_execution.specs.Ranges.{ReferenceExists}
use Rattle.spec_safety.specs.ValueTypes.{HasType, HaveTypes}
use Rattle.spec_safety.specs.TypedActivations.{IsTyped}

-- an effect names what its unit has, with operands of their types, and gives values of these types
abbrev pub IsTypedEffect : {Units : Type 0} → View Units → Context → Effect → List ValType → Type 0
IsTypedEffect V c (GlobalGet g) given = (t : GlobalType) × (c.globals g ≡ Some t) × (given ≡ t.value ∷ [])
IsTypedEffect V c (GlobalSet g v) given = (t : GlobalType) × (c.globals g ≡ Some t) × HasType V t.value v × (given ≡ [])
IsTypedEffect V c (TableGet t i) given = (ty : ValType) × (c.tables t ≡ Some ty) × (given ≡ ty ∷ [])
IsTypedEffect V c (TableSet t i r) given = (ty : ValType) × (c.tables t ≡ Some ty) × ReferenceExists V r × (given ≡ [])
IsTypedEffect V c (TableSize t) given = (ty : ValType) × (c.tables t ≡ Some ty) × (given ≡ I32 ∷ [])
IsTypedEffect V c (TableGrow t r n) given = (ty : ValType) × (c.tables t ≡ Some ty) × ReferenceExists V r × (given ≡ I32 ∷ [])
IsTypedEffect V c (TableFill t i r n) given = (ty : ValType) × (c.tables t ≡ Some ty) × ReferenceExists V r × (given ≡ [])
IsTypedEffect V c (TableCopy t u to from n) given = (ty : ValType) × (other : ValType) × (c.tables t ≡ Some ty) × (c.tables u ≡ Some other)
    × (given ≡ [])
IsTypedEffect V c (TableInit e t to from n) given = (ty : ValType) × (other : ValType) × (c.elems e ≡ Some ty) × (c.tables t ≡ Some other)
    × (given ≡ [])
IsTypedEffect V c (ElemDrop e) given = (ty : ValType) × (c.elems e ≡ Some ty) × (given ≡ [])
IsTypedEffect V c (Load op m offset at) given = (memory_access op ≡ Some m) × (m.writes ≡ false) × (given ≡ m.value ∷ [])
IsTypedEffect V c (Store m offset at v) given = given ≡ []
IsTypedEffect V c MemorySize given = given ≡ I32 ∷ []
IsTypedEffect V c (MemoryGrow n) given = given ≡ I32 ∷ []
IsTypedEffect V c (MemoryCopy to from n) given = given ≡ []
IsTypedEffect V c (MemoryFill to byte n) given = (byte < 256) × (given ≡ [])
IsTypedEffect V c (MemoryInit d to from n) given = (d < c.datas) × (given ≡ [])
IsTypedEffect V c (DataDrop d) given = (d < c.datas) × (given ≡ [])

-- a move of an activation of this function; it isn't stuck
abbrev pub IsTypedMove : {Units : Type 0} → View Units → (ℕ → Context) → Function → Move → Type 0
IsTypedMove V N x (On a) = IsTyped V N x [] [] a
IsTypedMove V N x (Calls f a) = (ty : FuncType) × ((N a.unit).functions f ≡ Some ty)
    × IsTyped V N x (reverse ty.params) (reverse ty.results) a
IsTypedMove V N x (CallsEntry table t i a) =
    (ty : FuncType) × (item : ValType) × ((N a.unit).tables table ≡ Some item) × ((N a.unit).types t ≡ Some ty)
    × IsTyped V N x (reverse ty.params) (reverse ty.results) a
IsTypedMove V N x (Refers f a) = ((N a.unit).refers f ≡ true) × IsTyped V N x [] (FuncRef ∷ []) a
IsTypedMove V N x (Does effect a) = (given : List ValType) × IsTypedEffect V (N a.unit) effect given × IsTyped V N x [] given a
IsTypedMove V N x (Leaves values) = HaveTypes V (reverse x.ty.results) values
IsTypedMove V N x (Fails why) = Unit {0}
IsTypedMove V N x Stuck = ⊥
