-- One text begins with one chain of subsections.
use Rattle.std.proofs.Common.{◌≡◌, ℕ, ◌<◌, List, [], ◌∷◌, ◌++◌, refl, sym, ap, subst, ◌∙◌, append_assoc, append-nil, arith}
use Rattle.std.specs.Prelude.{◌≢◌}
use Rattle.spec_linking.specs.Records.{DylinkRecord, Subsections, done, next, BeginsWith, IsBroken, empty_record}
use Rattle.dyl_section.proofs.Parts.{same_part}

-- what a chain before another text takes from the left
regrouped : (s k r rest : List ℕ) (c : ℕ) → (c ∷ (s ++ (k ++ r))) ++ rest ≡ c ∷ (s ++ (k ++ (r ++ rest)))
regrouped s k r rest c = ap (λ l. c ∷ l) (append_assoc s (k ++ r) rest ∙ ap (λ l. s ++ l) (append_assoc k r rest))

-- a chain that ends before the end of the text is shorter than one that takes all of it
pub within : {d e f : DylinkRecord} {n m : ℕ} {w v : List ℕ} → Subsections d n w e → Subsections d m v f → (rest : List ℕ) → w ≡ v ++ rest → rest ≢ [] → m < n
within done done rest e h = absurd (h (sym e))
within (next p q t) done rest e h = omega arith
within done (next o r u) rest e h = absurd cc
within (next {d} {e = d1} {f} {count = n} {code = a} {size = s} {contents = k} {rest = r} p q t) (next {e = d2} {f = g} {count = m} {code = b} {size = z} {contents = l} {rest = x} o i u) rest e h =
    let same = same_part p q o i r (x ++ rest) (e ∙ regrouped z l x rest b) in
    let more : m < n = within t (subst (λ (y : DylinkRecord). Subsections y m x g) (sym same.0) u) rest same.1 h in
    omega arith

-- a text says one thing
pub same_end : {d e f : DylinkRecord} {n m : ℕ} {w v : List ℕ} → Subsections d n w e → Subsections d m v f → w ≡ v → e ≡ f
same_end done done h = refl
same_end (next p q t) done h = absurd cc
same_end done (next o r u) h = absurd cc
same_end (next {d} {e = d1} {f} {count = n} {code = a} {size = s} {contents = k} {rest = r} p q t) (next {e = d2} {f = g} {count = m} {code = b} {size = z} {contents = l} {rest = x} o i u) h =
    let same = same_part p q o i r x h in
    same_end t (subst (λ (y : DylinkRecord). Subsections y m x g) (sym same.0) u) same.1

-- what is said whole isn't broken
pub not_broken : {d : DylinkRecord} {n count : ℕ} {bytes : List ℕ} → Subsections empty_record n bytes d → IsBroken bytes count → ⊥
not_broken {d} {n} {count} {bytes} said broken =
    let begins : BeginsWith bytes n = record { front = bytes; rest = []; parts = sym (append-nil bytes); said = d; spelled = said } in
    let most = broken.greatest n begins in
    let less = within said broken.begins.spelled broken.begins.rest broken.begins.parts broken.more in
    omega arith

pub same_count : {n m : ℕ} {bytes : List ℕ} → IsBroken bytes n → IsBroken bytes m → n ≡ m
same_count {n} {m} a b = let x = a.greatest m b.begins in let y = b.greatest n a.begins in omega arith
