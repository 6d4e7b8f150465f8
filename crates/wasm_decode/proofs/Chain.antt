-- Reading sections one after the other, as the loop does.
use Rattle.std.proofs.Common.{◌≡◌, ℕ, suc, ◌-◌, ◌+◌, ◌^◌, ◌<◌, ◌≤◌, min, Bool, true, false, eqb, List, [], ◌∷◌, length, Result, Ok, Err, refl, sym, ap, ◌∙◌, arith}
use Rattle.std.proofs.lemmas.Bool.{eqb-true}
use Rattle.std.proofs.lemmas.List.{nil_from_length}
use Rattle.spec_reading.specs.spec_binary.declared.fault.DecodeFault.{DecodeFault}
use Rattle.spec_reading.specs.spec_binary.declared.fault.DecodeFault.TheVariants as faults
use Rattle.spec_reading.specs.spec_binary.Sections.{Progress, at_start}
use Rattle.spec_reading.specs.spec_binary.declared.fault.DecodeFault.TheVariants.{Malformed, Counts, TooDeep, TooManyLocals}
use Rattle.spec_reading.specs.spec_binary.Saturated.{saturated}
use Rattle.spec_reading.specs.Bodies.{usual_room}
use Rattle.spec_reading.specs.Sections.{section_at, chain_at}
use Rattle.wasm_decode.specs.Given.{Refuses}

-- where reading ends so, what a step does with it ends so
pub refuses_moved : {X Y : Type 0} (e : DecodeFault) (read : Result X DecodeFault) (total : Result Y DecodeFault) → ((d : DecodeFault) → read ≡ Err d → total ≡ Err d) → Refuses e read → Refuses e total
refuses_moved (faults.Malformed section) read total h f = h (Malformed section) f
refuses_moved faults.Counts read total h f = h Counts f
refuses_moved (faults.TooDeep function) read total h f = h (TooDeep function) f
refuses_moved (faults.TooManyLocals function) read total h f = h (TooManyLocals function) f
refuses_moved faults.Memory read total h f = tt

pub nothing_left : (t : Bool) (rest : List ℕ) → t ≡ eqb (length rest) 0 → t ≡ true → rest ≡ []
nothing_left t rest e h = nil_from_length rest (omega (arith, eqb-true (length rest) 0 (sym e ∙ h)))

pub something_left : (t : Bool) (rest : List ℕ) → t ≡ eqb (length rest) 0 → t ≡ false → 1 ≤ length rest
something_left t [] e h = absurd cc
something_left t (b ∷ bs) e h = omega arith

-- what is still to be read, behind so many sections, is the rest of the whole
abbrev pub Follows : Progress → ℕ → List ℕ → List ℕ → Type 0
Follows s count rest bytes = (fuel : ℕ) → length bytes ≤ fuel → (j : ℕ) × (n : ℕ) × (length rest ≤ j) × (saturated n ≡ count) × (chain_at usual_room j n s rest ≡ chain_at usual_room fuel 0 at_start bytes)

pub chain_begin : (s : Progress) (bytes : List ℕ) → s ≡ at_start → Follows s 0 bytes bytes
chain_begin s bytes e fuel h = (fuel, 0, h, refl, ap (λ s. chain_at usual_room fuel 0 s bytes) e)

none_left : (s : Progress) (j n : ℕ) → chain_at usual_room j n s [] ≡ Ok s
unfolding chain_at
none_left s j n = refl

pub chain_end : (s : Progress) (count : ℕ) (rest bytes : List ℕ) → rest ≡ [] → Follows s count rest bytes → (fuel : ℕ) → length bytes ≤ fuel → chain_at usual_room fuel 0 at_start bytes ≡ Ok s
chain_end s count rest bytes e c fuel h =
    let j = c fuel h in
    sym j.4 ∙ ap (chain_at usual_room j.0 j.1 s) e ∙ none_left s j.0 j.1

chain_breaks : (s : Progress) (j n count b : ℕ) (bs : List ℕ) (d : DecodeFault) → saturated n ≡ count → section_at usual_room count s (b ∷ bs) ≡ Err d → chain_at usual_room (suc j) n s (b ∷ bs) ≡ Err d
unfolding chain_at
chain_breaks s j n count b bs d e h = rw (e, h) refl

chain_turns : (s t : Progress) (j n count b : ℕ) (bs more : List ℕ) → saturated n ≡ count → section_at usual_room count s (b ∷ bs) ≡ Ok (t, more)
    → chain_at usual_room (suc j) n s (b ∷ bs) ≡ chain_at usual_room j (suc n) t more
unfolding chain_at
chain_turns s t j n count b bs more e h = rw (e, h) refl

stopped : (s : Progress) (count : ℕ) (rest bytes : List ℕ) (d : DecodeFault) → 1 ≤ length rest → section_at usual_room count s rest ≡ Err d → Follows s count rest bytes → (fuel : ℕ) → length bytes ≤ fuel
    → chain_at usual_room fuel 0 at_start bytes ≡ Err d
stopped s count [] bytes d some e c fuel h = absurd (omega arith)
stopped s count (b ∷ bs) bytes d some e c fuel h =
    let j = c fuel h in
    let k : j.0 ≡ suc (j.0 - 1) = omega arith in
    sym j.4 ∙ ap (λ k. chain_at usual_room k j.1 s (b ∷ bs)) k ∙ chain_breaks s (j.0 - 1) j.1 count b bs d j.3 e

pub chain_fails : (e : DecodeFault) (s : Progress) (count : ℕ) (rest bytes : List ℕ) → 1 ≤ length rest → Refuses e (section_at usual_room count s rest) → Follows s count rest bytes → (fuel : ℕ) → length bytes ≤ fuel
    → Refuses e (chain_at usual_room fuel 0 at_start bytes)
chain_fails e s count rest bytes some f c fuel h =
    refuses_moved e (section_at usual_room count s rest) (chain_at usual_room fuel 0 at_start bytes) (λ d g. stopped s count rest bytes d some g c fuel h) f

pub chain_goes_on : (s t : Progress) (count more_count : ℕ) (rest more bytes : List ℕ) → length more < length rest → section_at usual_room count s rest ≡ Ok (t, more) → more_count ≡ min (count + 1) (2 ^ 32 - 1)
    → Follows s count rest bytes → Follows t more_count more bytes
chain_goes_on s t count more_count [] more bytes shorter e next c fuel h = absurd (omega arith)
chain_goes_on s t count more_count (b ∷ bs) more bytes shorter e next c fuel h =
    let j = c fuel h in
    let k : j.0 ≡ suc (j.0 - 1) = omega arith in
    let one = chain_turns s t (j.0 - 1) j.1 count b bs more j.3 e in
    (j.0 - 1, suc j.1, omega arith, omega (arith, j.3), sym (ap (λ k. chain_at usual_room k j.1 s (b ∷ bs)) k ∙ one) ∙ j.4)
