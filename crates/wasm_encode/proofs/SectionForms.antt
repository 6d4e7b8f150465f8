-- What the writers of sections write, over plain lists.
use Rattle.std.proofs.Common.{◌≡◌, ◌≢◌, ℕ, suc, ◌+◌, ◌*◌, ◌^◌, ◌<◌, ◌≤◌, List, [], ◌∷◌, ◌++◌, length, length-append, take, drop, get_or, All, Contains, None, Some, Option, sym, ap, ◌∙◌, subst, arith, append_assoc}
use Rattle.std.proofs.lemmas.List.{drop_all}
use Rattle.std.proofs.lemmas.List.Elements.{All-append, All-nil, All-cons}
use Rattle.std.proofs.Math.Seq.{take-suc, drop-cons}
use Rattle.std.proofs.Common.{add-one}
use Rattle.wasm_form.specs.declared.module.Custom.{Custom}
use Rattle.spec_reading.specs.spec_binary.Number.{SpellsUnsigned, IsShortest, Appends}
use Rattle.spec_reading.specs.spec_binary.Name.{SpellsName}
use Rattle.spec_reading.specs.spec_binary.Sequence.{SpellsVec}
use Rattle.spec_reading.proofs.of_spec_binary.UnsignedSpelling.{unsigned_length}
use Rattle.spec_reading.specs.spec_binary.Sections.{IsSection, section as one_section}
use Rattle.spec_reading.specs.spec_binary.Joined.{IsSized}
use Rattle.wasm_encode.specs.SectionSizes.{IsTooLongCustom}
use Rattle.wasm_encode.specs.Written.{AddsSection, section, IsLongList, whole, part, SpellsSome, some, SpellsCustom, custom, IsRankRun}
use Rattle.spec_reading.proofs.of_spec_binary.Joined.{itself, whole as whole_of, shortest_like, unsigned_below}

-- one section
least_section : {id : ℕ} {contents other : List ℕ} (size : List ℕ) → IsShortest (SpellsUnsigned 32 (length contents)) size → IsSection id contents other → length (id ∷ (size ++ contents)) ≤ length other
least_section {contents} size p (one_section {size = z} s) = let least : length size ≤ length z = p.least z s in omega (arith, length-append size contents, length-append z contents)

pub framed : (id : ℕ) (contents : List ℕ) (old middle new : List ℕ) → middle ≡ old ++ id ∷ [] → Appends (IsSized contents) middle new → Appends (IsShortest (IsSection id contents)) old new
framed id contents old middle new e (w, sized, f) =
    let word = id ∷ (sized.size ++ contents) in (
      word,
      record { spelled = one_section sized.shortest.spelled; least = λ other s. least_section sized.size sized.shortest s },
      f ∙ ap (λ t. t ++ w) e ∙ append_assoc old (id ∷ []) w ∙ ap (λ t. old ++ (id ∷ t)) sized.parts,
    )

-- the section of contents that are no longer is no longer
pub shorter_contents : (id : ℕ) (contents word : List ℕ) → IsShortest (IsSection id contents) word → {other text : List ℕ} → length contents ≤ length other → IsSection id other text → length word ≤ length text
shorter_contents id contents word p {other} le (one_section {size} s) =
    let below = unsigned_below s (length contents) le in
    let least : length word ≤ length (id ∷ (below.0 ++ contents)) = p.least (id ∷ (below.0 ++ contents)) (one_section below.1) in
    omega (arith, below.2, length-append below.0 contents, length-append size other)

module _ {A : Type 0} {Spells : A → List ℕ → Type 0} {TooLong : A → Type 0} where
  pub long_part : (xs : List A) → ((x : A) × Contains xs x × TooLong x) → IsLongList Spells TooLong xs
  long_part xs (x, has, long) = part has long

  pub long_whole : (xs : List A) (contents : List ℕ) → Appends (IsShortest (SpellsVec Spells xs)) [] contents → 2 ^ 32 ≤ length contents → IsLongList Spells TooLong xs
  long_whole xs contents (w, p, e) h = whole p.spelled (λ v s. let least : length w ≤ length v = p.least v s in let same = ap length e in omega arith)

module _ {A : Type 0} {Spells : A → List ℕ → Type 0} where
  pub list_added : (id : ℕ) (xs : List A) (contents old new : List ℕ) → 0 < length xs → Appends (IsShortest (SpellsVec Spells xs)) [] contents → Appends (IsShortest (IsSection id contents)) old new
      → AddsSection (xs ≡ []) (SpellsVec Spells xs) id old new
  list_added id xs contents old new h held (w, p, e) = section {contents = contents} {word = w} (λ none. let same = ap length none in omega arith) (whole_of contents held) p e

-- a section of one number
some_number : {n : ℕ} {w : List ℕ} → SpellsSome (Some n) w → SpellsUnsigned 32 n w
some_number (some s) = s

pub number_added : (id n : ℕ) (number : Option ℕ) (contents old new : List ℕ) → number ≡ Some n → Appends (IsShortest (SpellsUnsigned 32 n)) [] contents → Appends (IsShortest (IsSection id contents)) old new
    → AddsSection (number ≡ None) (SpellsSome number) id old new
number_added id n number contents old new is held (w, p, e) =
    let shortest : IsShortest (SpellsSome (Some n)) contents = shortest_like contents (λ s. some s) (λ other s. itself other (some_number s)) (whole_of contents held) in
    section {contents = contents} {word = w} (λ none. absurd cc) (subst (λ m. IsShortest (SpellsSome m) contents) (sym is) shortest) p e

pub number_small : (n : ℕ) (contents : List ℕ) → Appends (IsShortest (SpellsUnsigned 32 n)) [] contents → 2 ^ 32 ≤ length contents → ⊥
number_small n contents held h = let few : 7 * length contents ≤ 32 + 6 = unsigned_length (omega arith) (whole_of contents held).spelled in omega arith

-- custom sections
least_custom : {c : Custom} {other : List ℕ} (name word : List ℕ) → IsShortest (SpellsName c.name) name → IsShortest (IsSection 0 (name ++ c.bytes)) word → SpellsCustom c other → length word ≤ length other
least_custom name word p q (custom {c} {name = v} s t) =
    let least : length name ≤ length v = p.least v s in
    shorter_contents 0 (name ++ c.bytes) word q (omega (arith, length-append name c.bytes, length-append v c.bytes)) t

pub custom_added : (c : Custom) (middle contents old new : List ℕ) → Appends (IsShortest (SpellsName c.name)) [] middle → contents ≡ middle ++ c.bytes
    → Appends (IsShortest (IsSection 0 contents)) old new → Appends (IsShortest (SpellsCustom c)) old new
custom_added c middle contents old new named e (w, p, f) =
    let name = whole_of middle named in
    let q : IsShortest (IsSection 0 (middle ++ c.bytes)) w = subst (λ t. IsShortest (IsSection 0 t) w) e p in
    (w, record { spelled = custom name.spelled q.spelled; least = λ other s. least_custom middle w name q s }, f)

pub custom_too_long : (c : Custom) (middle contents : List ℕ) → Appends (IsShortest (SpellsName c.name)) [] middle → contents ≡ middle ++ c.bytes → 2 ^ 32 ≤ length contents → IsTooLongCustom c
custom_too_long c middle contents named e h =
    let name = whole_of middle named in
    record {
      word = middle;
      spelled = name.spelled;
      long = λ v s. let least : length middle ≤ length v = name.least v s in omega (arith, ap length e, length-append middle c.bytes, length-append v c.bytes);
    }

first_same : {c d : Custom} {cs ds : List Custom} → c ∷ cs ≡ d ∷ ds → c ≡ d
first_same e = cc

module _ (rank : ℕ) (cs : List Custom) where
  abbrev Ranked : List Custom → Type 0
  Ranked = All (λ c. c.rank ≡ rank)

  pub run_started : Ranked (take 0 cs)
  run_started = All-nil (λ c. c.rank ≡ rank)

  pub run_next : (k : ℕ) (c : Custom) → k < length cs → c ≡ get_or cs k c → c.rank ≡ rank → Ranked (take k cs) → Ranked (take (k + 1) cs)
  run_next k c h is e ranked =
      let more : take (k + 1) cs ≡ take k cs ++ c ∷ [] = rw (add-one) (take-suc cs k c h ∙ ap (λ y. take k cs ++ y ∷ []) (sym is)) in
      subst Ranked (sym more) (All-append (λ c. c.rank ≡ rank) (take k cs) (c ∷ []) ranked (All-cons (λ c. c.rank ≡ rank) c [] e (All-nil (λ c. c.rank ≡ rank))))

  pub run_broken : (k : ℕ) (c : Custom) → k < length cs → c ≡ get_or cs k c → c.rank ≢ rank → Ranked (take k cs) → IsRankRun rank cs k
  run_broken k c h is e ranked = record {
    within = omega arith;
    ranked = ranked;
    end = λ d ds f.
        let here : drop k cs ≡ c ∷ drop (suc k) cs = drop-cons cs k c h ∙ ap (λ y. y ∷ drop (suc k) cs) (sym is) in
        subst (λ x. x.rank ≢ rank) (first_same (sym here ∙ f)) e;
  }

  pub run_ended : (k : ℕ) → length cs ≤ k → k ≤ length cs → Ranked (take k cs) → IsRankRun rank cs (length cs)
  run_ended k h l ranked =
      let same : k ≡ length cs = omega arith in
      record { within = omega arith; ranked = subst (λ n. Ranked (take n cs)) same ranked; end = λ d ds f. absurd (let none : drop (length cs) cs ≡ [] = drop_all (length cs) cs (omega arith) in cc) }
