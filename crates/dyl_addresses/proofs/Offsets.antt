-- The numbers of constant expressions, by the bases that imported globals are.
use Rattle.std.proofs.Common.{◌≡◌, ℕ, zero, suc, List, [], ◌∷◌, ◌++◌, map, slice_get, Option, Some, None, refl, sym, ap, ◌∙◌}
use Rattle.std.proofs.Math.Path.{fun_ext}
use Rattle.wasm_form.specs.declared.module.ImportDesc.{ImportDesc}
use Rattle.wasm_form.specs.declared.module.ImportDesc.TheVariants as imported
use Rattle.wasm_form.specs.declared.module.Import.{Import}
use Rattle.wasm_form.specs.declared.module.Module.{Module}
use Rattle.wasm_form.specs.declared.runtime.Value.TheVariants.{Num}
use Rattle.spec_loading.specs.spec_binary.Options.{◌>>=◌}
use Rattle.spec_loading.specs.spec_binary.IndexSpaces.{globals_in}
use Rattle.spec_loading.specs.spec_linking.Imports.{ImportUse, SharedMemory, SharedTable, StackPointer, MemoryBase, TableBase, DataCell, SlotCell, EnvFunction, ModuleFunction, OtherUse, use_of, importing}
use Rattle.spec_loading.specs.spec_linking.LinkedSets.{LinkedSet, wasm_of, function_ref}
use Rattle.spec_loading.specs.spec_linking.Slots.{as_number, base_as, base_value, imported_base, memory_base, table_base, member_number}
use Rattle.dyl_addresses.specs.Bases.{AreBases, base_of, bases_from}
use Rattle.dyl_addresses.specs.Offsets.{based, number_with}
use Rattle.dyl_addresses.proofs.Numbers.{list_same}

-- a base that is known
pub known_base : (bases : List (Option ℕ)) (g : ℕ) → ((slice_get bases g >>= λ b. b) >>= λ n. Some (Num n)) ≡ based bases g
known_base bases g = go (slice_get bases g)
  where
    go : (o : Option (Option ℕ)) → ((o >>= λ b. b) >>= λ n. Some (Num n)) ≡ (o >>= as_number)
    go None = refl
    go (Some None) = refl
    go (Some (Some n)) = refl

-- ---- expressions

pub with_bases : (L : LinkedSet) (m : ℕ) (bases : List (Option ℕ)) → AreBases L m bases → number_with bases ≡ member_number L m
with_bases L m bases are =
    fun_ext (λ e. list_same (function_ref L m) (based bases) (imported_base L m) are e.list)

-- ---- bases

module _ (L : LinkedSet) (m memory table : ℕ) (here : memory_base L m ≡ Some memory) (there : table_base L m ≡ Some table) where
  base_is : (i : Import) (u : ImportUse) → as_number (base_of memory table u) ≡ base_as L m i u
  base_is i MemoryBase = ap as_number (sym here)
  base_is i TableBase = ap as_number (sym there)
  base_is i SharedMemory = refl
  base_is i SharedTable = refl
  base_is i StackPointer = refl
  base_is i DataCell = refl
  base_is i SlotCell = refl
  base_is i (EnvFunction t) = refl
  base_is i (ModuleFunction t) = refl
  base_is i OtherUse = refl

  base_at : (is : List Import) (g : ℕ)
      → (slice_get (bases_from memory table is) g >>= as_number) ≡ (slice_get (importing globals_in is) g >>= base_value L m)
  base_at [] g = refl
  base_at (i ∷ is) g = go (base_at is) i.desc g
    where
      go : ((g : ℕ) → (slice_get (bases_from memory table is) g >>= as_number) ≡ (slice_get (importing globals_in is) g >>= base_value L m))
          → (d : ImportDesc) (g : ℕ)
          → (slice_get (map (λ ty. base_of memory table (use_of i)) (globals_in d) ++ bases_from memory table is) g >>= as_number)
          ≡ (slice_get (map (λ x. i) (globals_in d) ++ importing globals_in is) g >>= base_value L m)
      go later (imported.Func t) g = later g
      go later (imported.Table ty) g = later g
      go later (imported.Space limits) g = later g
      go later (imported.Global ty) zero = base_is i (use_of i)
      go later (imported.Global ty) (suc g) = later g

  pub are_bases : (wasm : Module) → wasm_of L m ≡ Some wasm → AreBases L m (bases_from memory table wasm.imports)
  are_bases wasm found g =
      base_at wasm.imports g
      ∙ ap (λ (o : Option Module). o >>= λ x. slice_get (importing globals_in x.imports) g >>= base_value L m) (sym found)
