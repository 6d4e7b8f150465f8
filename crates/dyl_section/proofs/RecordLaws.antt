-- There is one thing to say of a module's record.
use Rattle.std.proofs.Common.{◌≡◌, ℕ, List, ◌∷◌, Result, Ok, Err, refl, sym, ap, subst, ◌∙◌}
use Rattle.wasm_form.specs.declared.module.Custom.{Custom}
use Rattle.wasm_form.specs.declared.module.Module.{Module}
use Rattle.spec_reading.specs.spec_binary.Saturated.{saturated}
use Rattle.spec_linking.specs.Records.{DylinkRecord, HasSection, HasRecord, IsBroken, RecordAnswer, recorded, none, broken}
use Rattle.spec_linking.specs.declared.fault.RecordFault.{RecordFault}
use Rattle.spec_linking.specs.declared.fault.RecordFault.TheVariants.{BadDylink}
use Rattle.dyl_section.proofs.Chains.{same_end, not_broken, same_count}

first_is : (a b : Custom) (xs ys : List Custom) → a ∷ xs ≡ b ∷ ys → a ≡ b
first_is a b xs ys e = cc

same_section : {m : Module} {bytes other : List ℕ} → HasSection m bytes → HasSection m other → bytes ≡ other
same_section a b = sym a.contents ∙ ap (λ (c : Custom). c.bytes) (first_is a.section b.section a.others b.others (sym a.first ∙ b.first)) ∙ b.contents

abbrev fault : RecordFault → Result DylinkRecord RecordFault
fault e = Err e

abbrev fine : DylinkRecord → Result DylinkRecord RecordFault
fine d = Ok d

said_same : {m : Module} {d e : DylinkRecord} → HasRecord m d → HasRecord m e → d ≡ e
said_same {m} {d} {e} a b =
    let same = same_section a.section b.section in
    same_end a.said b.said same

not_both : {m : Module} {d : DylinkRecord} {bytes : List ℕ} {count : ℕ} → HasRecord m d → HasSection m bytes → IsBroken bytes count → ⊥
not_both {count} a section b = not_broken a.said (subst (λ l. IsBroken l count) (same_section section a.section) b)

pub one_answer : (m : Module) (one other : Result DylinkRecord RecordFault) → RecordAnswer m one → RecordAnswer m other → one ≡ other
one_answer m one other (recorded {d} a) (recorded {d = e} b) = ap fine (said_same a b)
one_answer m one other (recorded a) (none h) = absurd (h a.bytes a.section)
one_answer m one other (recorded a) (broken s b) = absurd (not_both a s b)
one_answer m one other (none h) (recorded a) = absurd (h a.bytes a.section)
one_answer m one other (none h) (none k) = refl
one_answer m one other (none h) (broken {bytes} s b) = absurd (h bytes s)
one_answer m one other (broken s b) (recorded a) = absurd (not_both a s b)
one_answer m one other (broken {bytes} s b) (none h) = absurd (h bytes s)
one_answer m one other (broken {count = n} s b) (broken {count = k} t c) =
    ap (λ (count : ℕ). fault (BadDylink (saturated count))) (same_count b (subst (λ l. IsBroken l k) (same_section t s) c))
