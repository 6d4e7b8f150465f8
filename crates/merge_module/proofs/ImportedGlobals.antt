-- The imported globals of a member of a linked set: what they stand for, and that they are i32.
use Rattle.std.proofs.Common.{◌≡◌, ℕ, sym, ◌∙◌}
use Rattle.spec_reading.specs.wasm_form.declared.types.GlobalType.{GlobalType}
use Rattle.spec_reading.specs.wasm_form.declared.module.ImportDesc.TheVariants as imported
use Rattle.spec_reading.specs.wasm_form.declared.module.Import.{Import}
use Rattle.spec_loading.specs.spec_linking.Imports.{ImportUse, SharedMemory, SharedTable, StackPointer, MemoryBase, TableBase, DataCell, SlotCell, EnvFunction, ModuleFunction, OtherUse, use_of}
pub use Rattle.spec_loading.proofs.NumberedImports.{GlobalImport, global_import}
pub use Rattle.spec_loading.proofs.LinkedCells.{IsFitting, use_fits}

no_function : (i : Import) (u : ImportUse) (t : ℕ) (ty : GlobalType) → IsFitting i u → i.desc ≡ imported.Global ty → (u ≡ EnvFunction t → ⊥) × (u ≡ ModuleFunction t → ⊥)
no_function i (EnvFunction k) t ty fits d = ((λ e. (let q = sym fits ∙ d in absurd cc)), (λ e. absurd cc))
no_function i (ModuleFunction k) t ty fits d = ((λ e. absurd cc), (λ e. (let q = sym fits ∙ d in absurd cc)))
no_function i SharedMemory t ty fits d = ((λ e. absurd cc), (λ e. absurd cc))
no_function i SharedTable t ty fits d = ((λ e. absurd cc), (λ e. absurd cc))
no_function i StackPointer t ty fits d = ((λ e. absurd cc), (λ e. absurd cc))
no_function i MemoryBase t ty fits d = ((λ e. absurd cc), (λ e. absurd cc))
no_function i TableBase t ty fits d = ((λ e. absurd cc), (λ e. absurd cc))
no_function i DataCell t ty fits d = ((λ e. absurd cc), (λ e. absurd cc))
no_function i SlotCell t ty fits d = ((λ e. absurd cc), (λ e. absurd cc))
no_function i OtherUse t ty fits d = ((λ e. absurd cc), (λ e. absurd cc))

pub global_no_function : (i : Import) (ty : GlobalType) → i.desc ≡ imported.Global ty → (t : ℕ) → (use_of i ≡ EnvFunction t → ⊥) × (use_of i ≡ ModuleFunction t → ⊥)
global_no_function i ty d t = no_function i (use_of i) t ty (use_fits i) d
