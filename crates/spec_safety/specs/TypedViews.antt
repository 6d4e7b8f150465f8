-- Views whose code is typed, and what typed code keeps of their units.
-- Part of the statement of laws (WebAssembly Core 2.0, appendix on soundness).
use Rattle.std.specs.Prelude.{◌≡◌, ◌≤◌, ◌<◌, ℕ, List, ◌++◌, Option, Some, true, false, is_some, nat_lt}
use Rattle.spec_execution.specs.wasm_form.declared.types.ValType.{ValType}
use Rattle.spec_execution.specs.wasm_form.declared.types.FuncType.{FuncType}
use Rattle.spec_execution.specs.wasm_form.declared.types.GlobalType.{GlobalType}
use Rattle.spec_execution.specs.wasm_form.declared.runtime.Ref.{Ref}
use Rattle.spec_execution.specs.wasm_form.declared.runtime.Value.{Value}
use Rattle.spec_execution.specs.spec_binary.Trees.{nesting_all}
use Rattle.spec_execution.specs.spec_binary.BodyLimits.{most_nested}
use Rattle.spec_execution.specs.spec_binary.Indices.{Function}
use Rattle.spec_execution.specs.spec_runtime.Tables.{TableInstance}
use Rattle.spec_execution.specs.spec_validation.Context.{Context}
use Rattle.spec_execution.specs.spec_validation.Typing.{Reach, body_reach}
use Rattle.spec_execution.specs.Values.{is_number}
use Rattle.spec_execution.specs.Views.{View, Counts, type_of}
use Rattle.spec_execution.specs.Ranges.{AllExist}
use Rattle.spec_safety.specs.ValueTypes.{HasType, constants_fit, AreBytes, IsTable}
use Rattle.spec_safety.specs.TypedActivations.{within}
use Rattle.spec_safety.specs.StoredUnits.{AreStored}

-- a function whose body has its type, within this height, and constants of their types, and nests no more blocks than a body may
abbrev pub HasBody : Context → ℕ → Function → Type 0
HasBody c most x = (r : Reach) × (body_reach (within c (x.ty.params ++ x.locals) x.ty.results) x.body ≡ Some r) × (r.high ≤ most)
    × (constants_fit x.body ≡ true) × (nesting_all x.body ≤ most_nested)

-- what the names of each unit stand for has the type that they have
pub record HoldTypes {Units : Type 0} (V : View Units) (N : ℕ → Context) (us : Units) : Type 0 where
  pub globals : (unit g : ℕ) (t : GlobalType) → (N unit).globals g ≡ Some t → (v : Value) × (V.global us unit g ≡ Some v) × HasType V t.value v
  pub tables : (unit t : ℕ) (ty : ValType) → (N unit).tables t ≡ Some ty → (x : TableInstance) × (V.table us unit t ≡ Some x) × IsTable V x
  pub elems : (unit e : ℕ) (ty : ValType) → (N unit).elems e ≡ Some ty
      → (items : List (Option Ref)) × (V.elem us unit e ≡ Some items) × AllExist V items
  pub datas : (unit d : ℕ) → d < (N unit).datas → (bytes : List ℕ) × (V.bytes us unit d ≡ Some bytes) × AreBytes bytes

-- Code is typed under the names of its unit, and these are the view's. What is kept of the units holds the types of what is named, and each
-- change keeps it.
pub record IsTypedView {Units : Type 0} (V : View Units) (N : ℕ → Context) (Kept : Units → Type 0) : Type 0 where
  pub types : (unit : ℕ) → (N unit).types ≡ V.declared unit
  pub functions : (unit f : ℕ) (ty : FuncType) → (N unit).functions f ≡ Some ty → (r : Ref) × (V.target unit f ≡ Some r) × (type_of V r ≡ Some ty)
  pub refers : (unit f : ℕ) → (N unit).refers f ≡ true → (ty : FuncType) × ((N unit).functions f ≡ Some ty)
  pub tables : (unit t : ℕ) (ty : ValType) → (N unit).tables t ≡ Some ty → is_number ty ≡ false
  pub code : (unit f : ℕ) (x : Function) → V.code unit f ≡ Some x → HasBody (N unit) (V.height unit f) x
  pub holds : (us : Units) → Kept us → HoldTypes V N us
  pub set_global : (us : Units) (unit g : ℕ) (t : GlobalType) (v : Value) → Kept us → (N unit).globals g ≡ Some t → HasType V t.value v
      → Kept (V.set_global us unit g v)
  pub set_table : (us : Units) (unit t : ℕ) (ty : ValType) (x : TableInstance) → Kept us → (N unit).tables t ≡ Some ty → IsTable V x
      → Kept (V.set_table us unit t x)
  pub drop_elem : (us : Units) (unit e : ℕ) (ty : ValType) → Kept us → (N unit).elems e ≡ Some ty → Kept (V.drop_elem us unit e)
  pub drop_data : (us : Units) (unit d : ℕ) → Kept us → d < (N unit).datas → Kept (V.drop_data us unit d)

-- a unit's counts are how many of each kind it names
pub record AreCounted (c : Context) (n : Counts) : Type 0 where
  pub types : (k : ℕ) → is_some (c.types k) ≡ nat_lt k n.types
  pub functions : (k : ℕ) → is_some (c.functions k) ≡ nat_lt k n.functions
  pub globals : (k : ℕ) → is_some (c.globals k) ≡ nat_lt k n.globals
  pub tables : (k : ℕ) → is_some (c.tables k) ≡ nat_lt k n.tables
  pub elems : (k : ℕ) → is_some (c.elems k) ≡ nat_lt k n.elems
  pub datas : c.datas ≡ n.datas

-- the view is typed under its own names, of which it has as many as it counts, and its units are in a store
pub record IsSoundView {Units : Type 0} (V : View Units) : Type 0 where
  pub typed : IsTypedView V V.names (HoldTypes V V.names)
  pub counted : (unit : ℕ) → AreCounted (V.names unit) (V.counts unit)
  pub stored : AreStored V
