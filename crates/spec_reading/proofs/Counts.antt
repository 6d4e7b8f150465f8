-- Whether the numbers of a module agree is told by a test.
use Rattle.std.proofs.Common.{◌≡◌, ℕ, Bool, true, false, ◌&&◌, eqb, List, [], ◌∷◌, length, Option, Some, None, refl}
use Rattle.std.specs.Prelude.{IsTrue}
use Rattle.std.specs.List.{AllByRecursion, list_all}
use Rattle.std.proofs.lemmas.List.Elements.{All-from_recursion, recursion_from_All}
use Rattle.std.proofs.lemmas.Bool.{and_parts, eqb-true, eq-eqb}
use Rattle.spec_binary.specs.wasm_form.declared.module.Code.{Code}
use Rattle.spec_binary.specs.wasm_form.declared.module.Module.{Module}
use Rattle.spec_binary.specs.Trees.{every_of}
use Rattle.spec_binary.specs.WellFormed.{names_no_data, IsDataCounted, CountsAgree}
use Rattle.spec_reading.specs.Sections.{leaves_data, is_data_counted, counts_agree}

both : (a b : Bool) → a ≡ true → b ≡ true → (a && b) ≡ true
both a b p q = rw (p, q) refl

-- each body names no data segment
abbrev LeavesData : Code → Type 0
LeavesData c = IsTrue (every_of names_no_data c.body.list)

each_leaves : (cs : List Code) → list_all leaves_data cs ≡ true → AllByRecursion LeavesData cs
each_leaves [] e = tt
each_leaves (c ∷ cs) e = let h = and_parts (leaves_data c) (list_all leaves_data cs) e in (h.0, each_leaves cs h.1)

all_leave : (cs : List Code) → AllByRecursion LeavesData cs → list_all leaves_data cs ≡ true
all_leave [] h = refl
all_leave (c ∷ cs) h = both (leaves_data c) (list_all leaves_data cs) h.0 (all_leave cs h.1)

counted_data : (n : Option ℕ) (m : Module) → is_data_counted n m ≡ true → IsDataCounted n m
counted_data (Some n) m e = eqb-true n (length m.datas) e
counted_data None m e = All-from_recursion LeavesData m.codes (each_leaves m.codes e)

data_counted : (n : Option ℕ) (m : Module) → IsDataCounted n m → is_data_counted n m ≡ true
data_counted (Some n) m e = eq-eqb n (length m.datas) e
data_counted None m e = all_leave m.codes (recursion_from_All LeavesData m.codes e)

pub agree : (m : Module) → counts_agree m ≡ true → CountsAgree m
agree m e =
    let h = and_parts (eqb (length m.codes) (length m.funcs)) (is_data_counted m.data_count m) e in
    record { bodies = eqb-true _ _ h.0; datas = counted_data m.data_count m h.1 }

pub agrees : (m : Module) → CountsAgree m → counts_agree m ≡ true
agrees m h = both (eqb (length m.codes) (length m.funcs)) (is_data_counted m.data_count m) (eq-eqb _ _ h.bodies) (data_counted m.data_count m h.datas)

pub disagree : (m : Module) → counts_agree m ≡ false → ¬ (CountsAgree m)
disagree m e h = absurd (let t = agrees m h in cc)

pub disagrees : (m : Module) → ¬ (CountsAgree m) → counts_agree m ≡ false
disagrees m h = elim (counts_agree m) as (λ t. counts_agree m ≡ t → t ≡ false) [ true ↦ λ e. absurd (h (agree m e)) | false ↦ λ _. refl ] refl
