-- The code of the set has the forms of the binary format, and its instructions are few.
use Rattle.std.proofs.Common.{◌≡◌, ℕ, true}
use Rattle.spec_reading.specs.spec_binary.Operands.{control_operands, access_operands}
use Rattle.spec_reading.specs.spec_binary.Trees.{nesting_all, every_of}
use Rattle.spec_reading.specs.spec_binary.WellFormed.{has_form, names_no_data}
use Rattle.spec_reading.proofs.Trees.{nesting-Plain, nesting-Index, nesting-CallIndirect, nesting-Access, nesting-I32Const, nesting-If-else, every-Plain, every-Index, every-CallIndirect, every-Access, every-I32Const, every-If-else}
use Rattle.wasm_encode.specs.Weight.{units_of}
use Rattle.wasm_encode.proofs.Units.{units-Plain, units-Index, units-CallIndirect, units-Access, units-I32Const, units-If-else}
use Rattle.dyl_gen.specs.Generated.{function_code, relocation_code, constructor_code, start_code}

pub function_formed : every_of has_form function_code ≡ true
unfolding control_operands access_operands
function_formed = simp (every-Plain, every-Index, every-CallIndirect, every-Access, every-I32Const, every-If-else)

pub relocation_formed : every_of has_form relocation_code ≡ true
unfolding access_operands
relocation_formed = simp (every-Index, every-Access)

pub constructor_formed : every_of has_form constructor_code ≡ true
unfolding access_operands
constructor_formed = simp (every-Plain, every-Index, every-Access, every-I32Const)

pub start_formed : (n : ℕ) → every_of has_form (start_code n) ≡ true
unfolding control_operands access_operands
start_formed n = simp (every-Plain, every-Index, every-Access, every-I32Const)

pub function_dataless : every_of names_no_data function_code ≡ true
function_dataless = simp (every-Plain, every-Index, every-CallIndirect, every-Access, every-I32Const, every-If-else)

pub relocation_dataless : every_of names_no_data relocation_code ≡ true
relocation_dataless = simp (every-Index, every-Access)

pub constructor_dataless : every_of names_no_data constructor_code ≡ true
constructor_dataless = simp (every-Plain, every-Index, every-Access, every-I32Const)

pub start_dataless : (n : ℕ) → every_of names_no_data (start_code n) ≡ true
start_dataless n = simp (every-Plain, every-Index, every-Access, every-I32Const)

pub function_nested : nesting_all function_code ≡ 1
function_nested = simp (nesting-Plain, nesting-Index, nesting-CallIndirect, nesting-Access, nesting-I32Const, nesting-If-else)

pub relocation_nested : nesting_all relocation_code ≡ 0
relocation_nested = simp (nesting-Index, nesting-Access)

pub constructor_nested : nesting_all constructor_code ≡ 0
constructor_nested = simp (nesting-Plain, nesting-Index, nesting-Access, nesting-I32Const)

pub start_nested : (n : ℕ) → nesting_all (start_code n) ≡ 0
start_nested n = simp (nesting-Plain, nesting-Index, nesting-Access, nesting-I32Const)

pub function_units : units_of function_code ≡ 13
function_units = simp (units-Plain, units-Index, units-CallIndirect, units-Access, units-I32Const, units-If-else)

pub relocation_units : units_of relocation_code ≡ 3
relocation_units = simp (units-Index, units-Access)

pub constructor_units : units_of constructor_code ≡ 8
constructor_units = simp (units-Plain, units-Index, units-Access, units-I32Const)

pub start_units : (n : ℕ) → units_of (start_code n) ≡ 17
start_units n = simp (units-Plain, units-Index, units-Access, units-I32Const)
