-- The contents of a module's first custom section, where it is the record's.
use Rattle.std.proofs.Common.{◌≡◌, ℕ, ◌≤◌, List, [], ◌∷◌, length, get_or, sym, ap, ◌∙◌, arith}
use Rattle.wasm_form.specs.declared.module.Custom.{Custom}
use Rattle.wasm_form.specs.declared.module.Module.{Module}
use Rattle.spec_linking.specs.Records.{dylink_name, HasSection}

pub section_in : (m : Module) (customs : List Custom) (custom : Custom) (bytes : List ℕ) → customs ≡ m.customs → 1 ≤ length customs → custom ≡ get_or customs 0 custom
    → custom.rank ≡ 0 → custom.name ≡ dylink_name → bytes ≡ custom.bytes → HasSection m bytes
section_in m [] custom bytes e long is rank name same = absurd (omega arith)
section_in m (x ∷ xs) custom bytes e long is rank name same =
    record {
      section = x;
      others = xs;
      first = sym e;
      rank = sym (ap (λ (c : Custom). c.rank) is) ∙ rank;
      name = sym (ap (λ (c : Custom). c.name) is) ∙ name;
      contents = sym (ap (λ (c : Custom). c.bytes) is) ∙ sym same;
    }
