-- Reading types (WebAssembly Core 2.0, section 5.3).
use Rattle.std.specs.Prelude.{ℕ, Bool, true, false, List, [], ◌∷◌, Some, None, Result, Ok, Err, nat_eq, if◌then◌else◌}
use Rattle.spec_binary.specs.wasm_form.declared.types.ValType.{ValType}
use Rattle.spec_binary.specs.wasm_form.declared.types.ValType.TheVariants.{I32, I64, F32, F64, FuncRef, ExternRef}
use Rattle.spec_binary.specs.wasm_form.declared.types.FuncType.{FuncType}
use Rattle.spec_binary.specs.wasm_form.declared.types.Limits.{Limits}
use Rattle.spec_binary.specs.wasm_form.declared.types.TableType.{TableType}
use Rattle.spec_binary.specs.wasm_form.declared.types.GlobalType.{GlobalType}
use Rattle.spec_reading.specs.Steps.{Break, Broken, ◌>>=◌, Read}
use Rattle.spec_reading.specs.Values.{number_at, vec_at}

abbrev pub ref_type_of : ℕ → Result ValType Break
ref_type_of b = if nat_eq b 0x70 then Ok FuncRef else if nat_eq b 0x6F then Ok ExternRef else Err Broken

unfoldable pub ref_type_at : List ℕ → Read ValType
ref_type_at [] = Err Broken
ref_type_at (b ∷ bs) = ref_type_of b >>= λ t. Ok (t, bs)

abbrev pub val_type_of : ℕ → Result ValType Break
val_type_of b =
    if nat_eq b 0x7F then Ok I32 else if nat_eq b 0x7E then Ok I64 else if nat_eq b 0x7D then Ok F32 else if nat_eq b 0x7C then Ok F64 else ref_type_of b

unfoldable pub val_type_at : List ℕ → Read ValType
val_type_at [] = Err Broken
val_type_at (b ∷ bs) = val_type_of b >>= λ t. Ok (t, bs)

-- the parameters and the results
abbrev pub signature_at : List ℕ → Read FuncType
signature_at text = do
  params ← vec_at val_type_at text
  results ← vec_at val_type_at params.1
  Ok (record { params = params.0; results = results.0 }, results.1)

unfoldable pub func_type_at : List ℕ → Read FuncType
func_type_at [] = Err Broken
func_type_at (b ∷ bs) = if nat_eq b 0x60 then signature_at bs else Err Broken

abbrev pub minimum_at : List ℕ → Read Limits
minimum_at text = number_at 32 text >>= λ least. Ok (record { min = least.0; max = None }, least.1)

abbrev pub bounds_at : List ℕ → Read Limits
bounds_at text = do
  least ← number_at 32 text
  most ← number_at 32 least.1
  Ok (record { min = least.0; max = Some most.0 }, most.1)

unfoldable pub limits_at : List ℕ → Read Limits
limits_at [] = Err Broken
limits_at (b ∷ bs) = if nat_eq b 0x00 then minimum_at bs else if nat_eq b 0x01 then bounds_at bs else Err Broken

unfoldable pub table_type_at : List ℕ → Read TableType
table_type_at text = do
  elem ← ref_type_at text
  limits ← limits_at elem.1
  Ok (record { elem = elem.0; limits = limits.0 }, limits.1)

unfoldable pub mutability_at : List ℕ → Read Bool
mutability_at [] = Err Broken
mutability_at (b ∷ bs) = if nat_eq b 0x00 then Ok (false, bs) else if nat_eq b 0x01 then Ok (true, bs) else Err Broken

unfoldable pub global_type_at : List ℕ → Read GlobalType
global_type_at text = do
  value ← val_type_at text
  mutable ← mutability_at value.1
  Ok (record { value = value.0; mutable = mutable.0 }, mutable.1)
