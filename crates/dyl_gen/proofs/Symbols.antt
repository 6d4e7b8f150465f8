-- What the modules of the set define.
use Rattle.std.proofs.Common.{◌≡◌, ℕ, Bool, true, false, cond, List, Some, None, refl, bytes_eq}
use Rattle.wasm_form.specs.declared.instr.Instr.{out-Instr}
use denote.Hole.Carrier.{out}
use Rattle.wasm_form.specs.declared.module.ExportDesc.TheVariants as exported
use Rattle.spec_reading.specs.spec_binary.Options.{◌>>=◌}
use Rattle.spec_reading.specs.spec_binary.Indices.{function_type}
use Rattle.spec_linking.specs.Definitions.{FunctionSymbol, DataSymbol, data_symbol, desc_symbol, symbol_of}
use Rattle.dyl_gen.specs.Generated as made
use Rattle.dyl_gen.specs.Generated.{is_main, next, function_name, value_name, one_number, member}
use Rattle.dyl_gen.proofs.Valid.{member_by}

value_place : data_symbol made.value_global ≡ Some (DataSymbol 0)
unfolding out-Instr out
value_place = refl

module _ (n k x : ℕ) (note : List ℕ) where
  value_as : (b c : Bool) → (cond c (Some (exported.Global 3)) None >>= desc_symbol (member_by b n k x note)) ≡ cond c (Some (DataSymbol 0)) None
  value_as true true = value_place
  value_as true false = refl
  value_as false true = value_place
  value_as false false = refl

  value_by : (b : Bool) (y : ℕ) → symbol_of (member_by b n k x note) (value_name y) ≡ cond (bytes_eq (value_name y) (value_name k)) (Some (DataSymbol 0)) None
  value_by true y = value_as true (bytes_eq (value_name y) (value_name k))
  value_by false y = value_as false (bytes_eq (value_name y) (value_name k))

  function_as : (b c : Bool) → (cond c (Some (exported.Func (cond b 2 0))) None >>= desc_symbol (member_by b n k x note)) ≡ cond c (Some (FunctionSymbol (cond b 2 0))) None
  function_as true true = refl
  function_as true false = refl
  function_as false true = refl
  function_as false false = refl

  function_by : (b : Bool) (y : ℕ) → symbol_of (member_by b n k x note) (function_name y) ≡ cond (bytes_eq (function_name y) (function_name k)) (Some (FunctionSymbol (cond b 2 0))) None
  function_by true y = function_as true (bytes_eq (function_name y) (function_name k))
  function_by false y = function_as false (bytes_eq (function_name y) (function_name k))

  type_by : (b : Bool) → function_type (member_by b n k x note) (cond b 2 0) ≡ Some one_number
  type_by true = refl
  type_by false = refl

-- a member's function is numbered behind the imported ones
abbrev pub function_number : ℕ → ℕ
function_number k = cond (is_main k) 2 0

pub member_value : (n k y : ℕ) (note : List ℕ) → symbol_of (member n k note) (value_name y) ≡ cond (bytes_eq (value_name y) (value_name k)) (Some (DataSymbol 0)) None
member_value n k y note = value_by n k (next n k) note (is_main k) y

pub member_function : (n k y : ℕ) (note : List ℕ) → symbol_of (member n k note) (function_name y) ≡ cond (bytes_eq (function_name y) (function_name k)) (Some (FunctionSymbol (function_number k))) None
member_function n k y note = function_by n k (next n k) note (is_main k) y

pub member_type : (n k : ℕ) (note : List ℕ) → function_type (member n k note) (function_number k) ≡ Some one_number
member_type n k note = type_by n k (next n k) note (is_main k)

pub further_value : (y : ℕ) (note : List ℕ) → symbol_of (made.further note) (value_name y) ≡ None
further_value y note = refl

pub further_function : (y : ℕ) (note : List ℕ) → symbol_of (made.further note) (function_name y) ≡ None
further_function y note = refl
