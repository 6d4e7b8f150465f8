-- Reading bodies, with their limits (WebAssembly Core 2.0, section 5.5.13).
use Rattle.std.specs.Prelude.{ℕ, zero, suc, ◌+◌, List, [], ◌∷◌, Result, Ok, Err, nat_lt, if◌then◌else◌}
use Rattle.spec_binary.specs.wasm_form.declared.module.Group.{Group}
use Rattle.spec_binary.specs.wasm_form.declared.module.Code.{Code}
use Rattle.spec_binary.specs.BodyLimits.{most_locals, most_nested}
use Rattle.spec_binary.specs.declared.fault.DecodeFault.{DecodeFault}
use Rattle.spec_binary.specs.declared.fault.DecodeFault.TheVariants as fault
use Rattle.spec_reading.specs.Steps.{Break, Broken, TooDeep, TooManyLocals, ◌>>=◌, Read, whole}
use Rattle.spec_reading.specs.Values.{number_at, cut_at}
use Rattle.spec_reading.specs.Types.{val_type_at}
use Rattle.spec_reading.specs.Instructions.{expr_at}

-- how many locals and how many nested blocks a body may have
pub record Room : Type 0 where
  pub locals : ℕ
  pub nested : ℕ

abbrev pub usual_room : Room
usual_room = record { locals = most_locals; nested = most_nested }

-- k groups of locals, where so many locals may be declared, and so many are by now
unfoldable pub groups_at : ℕ → ℕ → ℕ → List ℕ → Read (List Group)
groups_at most zero so_far text = Ok ([], text)
groups_at most (suc k) so_far text = do
  count ← number_at 32 text
  if nat_lt most (so_far + count.0) then Err TooManyLocals else do
    ty ← val_type_at count.1
    groups ← groups_at most k (so_far + count.0) ty.1
    Ok (record { count = count.0; ty = ty.0 } ∷ groups.0, groups.1)

unfoldable pub locals_at : ℕ → List ℕ → Read (List Group)
locals_at most text = do
  k ← number_at 32 text
  groups_at most k.0 0 k.1

unfoldable pub func_at : Room → List ℕ → Read Code
func_at room text = do
  locals ← locals_at room.locals text
  body ← expr_at room.nested locals.1
  Ok (record { locals = locals.0; body = body.0 }, body.1)

-- the size, and what takes just so many bytes
unfoldable pub code_at : Room → List ℕ → Read Code
code_at room text = do
  contents ← cut_at text
  code ← whole (func_at room contents.0)
  Ok (code, contents.1)

-- why reading ends in the body of this number, behind so many sections
abbrev pub in_body : {A : Type 0} → ℕ → ℕ → Result A Break → Result A DecodeFault
in_body sections function (Ok x) = Ok x
in_body sections function (Err Broken) = Err (fault.Malformed sections)
in_body sections function (Err TooDeep) = Err (fault.TooDeep function)
in_body sections function (Err TooManyLocals) = Err (fault.TooManyLocals function)

-- k bodies, the first with this number
unfoldable pub bodies_at : Room → ℕ → ℕ → ℕ → List ℕ → Result (List Code × List ℕ) DecodeFault
bodies_at room sections zero function text = Ok ([], text)
bodies_at room sections (suc k) function text = do
  code ← in_body sections function (code_at room text)
  codes ← bodies_at room sections k (suc function) code.1
  Ok (code.0 ∷ codes.0, codes.1)
