-- The place of data that a global of a module's own is.
use Rattle.std.proofs.Common.{◌≡◌, ℕ, ◌-◌, ◌≤◌, Bool, true, false, nat_lt, refl, arith}
use Rattle.std.proofs.lemmas.Bool.Decides.{nat_tests}
use Rattle.wasm_form.specs.declared.module.Module.{Module}
use Rattle.spec_linking.specs.Definitions.{imported_globals}
use Rattle.dyl_scope.specs.Names.{data_at, own_data}

pub own_at : (m : Module) (g n : ℕ) → n ≡ imported_globals m → n ≤ g → own_data m g ≡ data_at m (g - n)
own_at m g n is past = by (nat_lt g (imported_globals m)) refl
  where
    by : (b : Bool) → nat_lt g (imported_globals m) ≡ b → own_data m g ≡ data_at m (g - n)
    by true p = absurd (grind (arith, nat_tests))
    by false p = rw (p, is) refl
