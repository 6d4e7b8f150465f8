-- The value that is in a cell, and the cell of a value.
-- Serves the contracts of this crate: docs/DECISIONS.md, "The parts of a machine".
use Rattle.std.specs.Prelude.{◌≡◌, ◌<◌, ℕ, Bool, true, false, Option, Some, None, nat_eq, if◌then◌else◌}
use Rattle.wasm_form.specs.declared.runtime.Ref.{Ref}
use Rattle.wasm_form.specs.declared.runtime.Ref.TheVariants.{Own, Loader, Host, Stub}
use Rattle.wasm_form.specs.declared.runtime.LoaderCall.TheVariants.{Dlopen, Dlsym, Dlclose, Dlerror}
use Rattle.wasm_form.specs.declared.runtime.Value.{Value}
use Rattle.wasm_form.specs.declared.runtime.Value.TheVariants.{Num, Func}
use Rattle.wasm_cell.specs.declared.cell.Cell.TheInside.{Inside}

abbrev pub is_number : Value → Bool
is_number (Num n) = true
is_number (Func r) = false

-- the reference of a kind, of a unit and a number of a function
abbrev pub reference_of : ℕ → ℕ → ℕ → Option Ref
reference_of kind unit n =
    if nat_eq kind 1 then None
    else if nat_eq kind 2 then Some (Own unit n)
    else if nat_eq kind 3 then Some (Stub unit n)
    else if nat_eq kind 4 then Some (Host n)
    else if nat_eq kind 5 then Some (Loader Dlopen)
    else if nat_eq kind 6 then Some (Loader Dlsym)
    else if nat_eq kind 7 then Some (Loader Dlclose)
    else Some (Loader Dlerror)

-- kind 0 is that of numbers
abbrev pub value_of : Inside → Value
value_of c = if nat_eq c.kind 0 then Num c.bits else Func (reference_of c.kind c.unit c.bits)

abbrev pub fields_of : Value → Inside
fields_of (Num n) = record { bits = n; kind = 0; unit = 0 }
fields_of (Func None) = record { bits = 0; kind = 1; unit = 0 }
fields_of (Func (Some (Own unit func))) = record { bits = func; kind = 2; unit = unit }
fields_of (Func (Some (Stub unit func))) = record { bits = func; kind = 3; unit = unit }
fields_of (Func (Some (Host entry))) = record { bits = entry; kind = 4; unit = 0 }
fields_of (Func (Some (Loader Dlopen))) = record { bits = 0; kind = 5; unit = 0 }
fields_of (Func (Some (Loader Dlsym))) = record { bits = 0; kind = 6; unit = 0 }
fields_of (Func (Some (Loader Dlclose))) = record { bits = 0; kind = 7; unit = 0 }
fields_of (Func (Some (Loader Dlerror))) = record { bits = 0; kind = 8; unit = 0 }

-- each value is in one cell alone, and the number of a function is one of 32 bits
pub record IsCell (c : Inside) : Type 0 where
  pub inverse : fields_of (value_of c) ≡ c
  pub small : nat_eq c.kind 0 ≡ false → c.bits < 4294967296
