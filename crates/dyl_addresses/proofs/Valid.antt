-- The active segments of a valid module have offsets of type i32.
use Rattle.std.proofs.Common.{◌≡◌, ◌<◌, ℕ, zero, suc, Bool, true, false, ◌&&◌, List, [], ◌∷◌, length, get_or, None, refl, arith}
use Rattle.std.specs.List.{list_all}
use Rattle.wasm_form.specs.declared.types.ValType.TheVariants.{I32}
use Rattle.wasm_form.specs.declared.module.ElemMode.{ElemMode}
use Rattle.wasm_form.specs.declared.module.ElemMode.TheVariants as elem_mode
use Rattle.wasm_form.specs.declared.module.Elem.{Elem}
use Rattle.wasm_form.specs.declared.module.DataMode.{DataMode}
use Rattle.wasm_form.specs.declared.module.DataMode.TheVariants as data_mode
use Rattle.wasm_form.specs.declared.module.Data.{Data}
use Rattle.wasm_form.specs.declared.module.Module.{Module}
use Rattle.spec_loading.specs.spec_validation.Faults.{fault, is_constant, elem_mode_fits, elem_fits, data_mode_fits, data_fits, items_fit}
use Rattle.spec_loading.proofs.of_spec_validation.Parts.{parts_fit}
use Rattle.dyl_addresses.specs.Offsets.{HasElemMode, HasElemOffset, HasDataMode, HasDataOffset}

first_holds : (a b : Bool) → (a && b) ≡ true → a ≡ true
first_holds true b h = refl
first_holds false b h = absurd cc

second_holds : (a b : Bool) → (a && b) ≡ true → b ≡ true
second_holds true b h = h
second_holds false b h = absurd cc

all_at : {A : Type 0} (p : A → Bool) (xs : List A) → list_all p xs ≡ true → (k : ℕ) (d : A) → k < length xs → p (get_or xs k d) ≡ true
all_at p [] h k d lt = absurd (omega arith)
all_at p (x ∷ xs) h zero d lt = first_holds (p x) (list_all p xs) h
all_at p (x ∷ xs) h (suc k) d lt = all_at p xs (second_holds (p x) (list_all p xs) h) k d (omega arith)

elem_mode_has : (m : Module) (mode : ElemMode) → elem_mode_fits m mode ≡ true → HasElemMode mode
elem_mode_has m (elem_mode.Active t offset) h = (m, second_holds _ (is_constant m I32 offset) h)
elem_mode_has m elem_mode.Passive h = tt
elem_mode_has m elem_mode.Declarative h = tt

data_mode_has : (m : Module) (mode : DataMode) → data_mode_fits m mode ≡ true → HasDataMode mode
data_mode_has m (data_mode.Active memory offset) h = (m, second_holds _ (is_constant m I32 offset) h)
data_mode_has m data_mode.Passive h = tt

pub elem_offsets : (m : Module) → fault m ≡ None → (k : ℕ) (d : Elem) → k < length m.elems → HasElemOffset (get_or m.elems k d)
elem_offsets m valid k d lt =
    let one = all_at (elem_fits m) m.elems (parts_fit m valid).elems k d lt in
    elem_mode_has m (get_or m.elems k d).mode (first_holds _ (items_fit m (get_or m.elems k d).items) one)

pub data_offsets : (m : Module) → fault m ≡ None → (k : ℕ) (d : Data) → k < length m.datas → HasDataOffset (get_or m.datas k d)
data_offsets m valid k d lt = data_mode_has m (get_or m.datas k d).mode (all_at (data_fits m) m.datas (parts_fit m valid).datas k d lt)
