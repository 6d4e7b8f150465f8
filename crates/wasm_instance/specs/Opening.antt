-- The opening state of a module (WebAssembly Core 2.0, section 4.5.4).
use Rattle.std.specs.Prelude.{◌≡◌, ℕ, List, [], Option, Some, MatchOption, Result, Ok, Err}
use Rattle.wasm_form.specs.declared.module.Module.{Module}
use Rattle.wasm_form.specs.declared.runtime.Ref.{Ref}
use Rattle.wasm_form.specs.declared.runtime.Trap.{Trap}
use Rattle.wasm_form.specs.declared.runtime.Value.{Value}
use Rattle.spec_safety.specs.spec_runtime.Memories.{MemoryInstance}
use Rattle.spec_safety.specs.spec_runtime.Tables.{TableInstance}
use Rattle.spec_safety.specs.spec_execution.Activations.{Effect}
use Rattle.spec_safety.specs.spec_execution.Instances.{ModuleParts, module_view}
use Rattle.spec_safety.specs.spec_execution.Segments.{Performed, goes_on, all_performed}
use Rattle.spec_safety.specs.spec_execution.OneModule.{segments_performed}
use Rattle.spec_safety.specs.spec_execution.declared.fault.SingleFault.{SingleFault}
use Rattle.spec_safety.specs.spec_execution.declared.fault.SingleFault.TheVariants.{SegmentTrap, Memory}
use Rattle.wasm_instance.specs.States.{InstanceState}

-- Effects come to these units and this memory, unless memory was wanting: all were carried out, or a trap ended them.
abbrev pub Applies : Option (Performed ModuleParts) → Result (Unit {0}) SingleFault → ModuleParts → MemoryInstance → Type 0
Applies wanted (Ok u) us memory = wanted ≡ Some (goes_on us memory)
Applies wanted (Err SegmentTrap) us memory = (why : Trap) × (wanted ≡ Some (record { units = us; memory = memory; trap = Some why }))
Applies wanted (Err Memory) us memory = Unit {0}
Applies wanted (Err _) us memory = ⊥

-- effects change tables and element segments alone, whatever the other parts
abbrev pub ElementsApply : Module → List Effect → List TableInstance → List (List (Option Ref)) → Result (Unit {0}) SingleFault → List TableInstance → List (List (Option Ref)) → Type 0
ElementsApply m effects tables elems result new_tables new_elems =
    (globals : List Value) (datas : List (List ℕ)) (memory : MemoryInstance)
    → Applies (all_performed (module_view m) 0 effects (record { globals = globals; tables = tables; elems = elems; datas = datas }) memory) result
    (record { globals = globals; tables = new_tables; elems = new_elems; datas = datas }) memory

-- effects change the memory and data segments alone
abbrev pub BytesApply : Module → List Effect → MemoryInstance → List (List ℕ) → Result (Unit {0}) SingleFault → MemoryInstance → List (List ℕ) → Type 0
BytesApply m effects memory datas result new_memory new_datas =
    (globals : List Value) (tables : List TableInstance) (elems : List (List (Option Ref)))
    → Applies (all_performed (module_view m) 0 effects (record { globals = globals; tables = tables; elems = elems; datas = datas }) memory) result
    (record { globals = globals; tables = tables; elems = elems; datas = new_datas }) new_memory

-- what is wanted was written from a segment, which is empty then; or there is none, which is a trap that changes nothing
abbrev pub Moves : {A B : Type 0} → Option A → (A × List B) → Result (Unit {0}) SingleFault → (A × List B) → Type 0
Moves wanted old result new = MatchOption wanted ((result ≡ Err SegmentTrap) × (new.0 ≡ old.0) × (new.1 ≡ old.1)) (λ x. (result ≡ Ok tt) × (new.0 ≡ x) × (new.1 ≡ []))

-- An instance in the opening state; or a trap, exactly where an active segment passes an end; or memory was wanting.
abbrev pub Opens : Module → Result InstanceState SingleFault → Type 0
Opens m (Ok i) = (i.wasm ≡ m) × (segments_performed m ≡ Some (goes_on i.parts i.memory))
Opens m (Err SegmentTrap) = (p : Performed ModuleParts) × (why : Trap) × (segments_performed m ≡ Some p) × (p.trap ≡ Some why)
Opens m (Err Memory) = Unit {0}
Opens m (Err _) = ⊥
