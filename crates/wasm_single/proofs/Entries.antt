-- The functions that a run calls first.
use Rattle.std.proofs.Common.{◌≡◌, ◌<◌, ◌≤◌, ℕ, Bool, true, false, List, length, Option, Some, None, if◌then◌else◌, refl, subst}
use Rattle.std.specs.Prelude.{nat_lt, not, IfSome}
use Rattle.std.proofs.lemmas.Bool.{and_parts, ltb-true, ltb-false, not-true}
use Rattle.wasm_form.specs.declared.module.Module.{Module}
use Rattle.spec_safety.specs.spec_binary.Options.{◌>>=◌}
use Rattle.spec_safety.specs.spec_binary.IndexSpaces.{function_space, imported_count}
use Rattle.spec_safety.specs.spec_binary.Indices.{nullary_at, function_type, is_own}
use Rattle.spec_safety.proofs.of_spec_binary.OneType.{nullary_there}
use Rattle.spec_safety.specs.spec_binary.Exports.{exported_function, exported_as, own_function, start_name}
use Rattle.spec_safety.specs.spec_validation.Faults.{fault, start_fits}
use Rattle.spec_safety.specs.spec_execution.OneModule.{module_entry}
use Rattle.spec_safety.proofs.of_spec_validation.Parts.{parts_fit}
use Rattle.wasm_single.specs.Cores.{IsStartable}

-- ---- exports

-- a function of the module's own, by its number
pub record IsOwnNumber (m : Module) (f : ℕ) : Type 0 where
  pub own : imported_count m ≤ f
  pub inside : f < length (function_space m)

-- the function that a module defines and exports under a name
pub own_is_function : (m : Module) (name : List ℕ) (f : ℕ) → own_function m name ≡ Some f → IsOwnNumber m f
own_is_function m name f = go (exported_as name m.exports >>= exported_function)
  where
    numbered : (n : ℕ) → is_own m n ≡ true → IsOwnNumber m n
    numbered n e =
        let both = and_parts (not (nat_lt n (imported_count m))) (nat_lt n (length (function_space m))) e in
        record { own = ltb-false n (imported_count m) (not-true (nat_lt n (imported_count m)) both.0); inside = ltb-true n (length (function_space m)) both.1 }

    tested : (n : ℕ) (b : Bool) → is_own m n ≡ b → (if b then Some n else None) ≡ Some f → IsOwnNumber m f
    tested n true q e = let same : n ≡ f = cc in subst (IsOwnNumber m) same (numbered n q)
    tested n false q e = absurd cc

    go : (o : Option ℕ) → (o >>= λ n. if is_own m n then Some n else None) ≡ Some f → IsOwnNumber m f
    go None e = absurd cc
    go (Some n) e = tested n (is_own m n) refl e

-- ---- types

startable : (m : Module) (f : ℕ) → nullary_at (function_type m f) ≡ true → IsStartable m f
startable m f e = nullary_there (function_type m f) e

-- ---- the start function and the entry

pub start_is : (m : Module) → fault m ≡ None → IfSome m.start (IsStartable m)
start_is m valid = go m.start (parts_fit m valid).start
  where
    go : (start : Option ℕ) → start_fits m start ≡ true → IfSome start (IsStartable m)
    go None e = tt
    go (Some f) e = startable m f e

-- a function of the module's own that may be called first
pub record IsEntry (m : Module) (f : ℕ) : Type 0 where
  pub startable : IsStartable m f
  pub own : imported_count m ≤ f

pub entry_is : (m : Module) (f : ℕ) → module_entry m ≡ Some f → IsEntry m f
entry_is m f = go (own_function m start_name) refl
  where
    tested : (n : ℕ) → own_function m start_name ≡ Some n → (b : Bool) → nullary_at (function_type m n) ≡ b → (if b then Some n else None) ≡ Some f → IsEntry m f
    tested n found true q e = let same : n ≡ f = cc in subst (IsEntry m) same (record { startable = startable m n q; own = (own_is_function m start_name n found).own })
    tested n found false q e = absurd cc

    go : (o : Option ℕ) → own_function m start_name ≡ o → (o >>= λ n. if nullary_at (function_type m n) then Some n else None) ≡ Some f → IsEntry m f
    go None found e = absurd cc
    go (Some n) found e = tested n found (nullary_at (function_type m n)) refl e
