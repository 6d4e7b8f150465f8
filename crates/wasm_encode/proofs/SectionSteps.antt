-- One more section behind a module's bytes so far, and when it is the first that is too long.
use Rattle.std.proofs.Common.{◌≡◌, ◌≢◌, ℕ, ◌+◌, ◌*◌, ◌^◌, ◌<◌, ◌≤◌, List, [], ◌∷◌, ◌++◌, length, length-append, Contains, refl, sym, ap, ◌∙◌, subst, arith, append_assoc, append-nil, inl, inr, ◌⊎◌, Result, Ok, Err}
use Rattle.std.specs.Prelude.{IsErr, suc, nat_eq, if◌then◌else◌}
use Rattle.std.proofs.lemmas.List.Elements.{All-contains, Contains-append_right, Contains-append_cases}
use Rattle.std.proofs.lemmas.Bool.{cases_lt}
use Rattle.wasm_form.specs.declared.module.Custom.{Custom}
use Rattle.wasm_form.specs.declared.module.Code.{Code}
use Rattle.wasm_form.specs.declared.module.Module.{Module}
use Rattle.spec_reading.specs.spec_binary.Number.{last, IsShortest}
use Rattle.spec_reading.specs.spec_binary.Sequence.{SpellsEach, none, SpellsVec, vec}
use Rattle.spec_reading.proofs.of_spec_binary.UnsignedSpelling.{unsigned_small}
use Rattle.spec_reading.specs.spec_binary.Parts.{SpellsCode, code}
use Rattle.spec_reading.specs.spec_binary.Sections.{IsSection}
use Rattle.spec_reading.specs.spec_binary.Modules.{header, SpellsModule}
use Rattle.spec_reading.specs.spec_binary.WellFormed.{HasRank}
use Rattle.wasm_encode.specs.declared.fault.EncodeFault.{EncodeFault}
use Rattle.wasm_encode.specs.declared.fault.EncodeFault.TheVariants.{SectionSize, Memory}
use Rattle.wasm_encode.specs.SectionSizes.{IsContents, types, imports, funcs, tables, memories, globals, exports, elems, codes, datas, rank_of, IsTooLongBody, IsTooLong, contents, body, custom, IsFirstTooLong}
use Rattle.wasm_encode.specs.Written.{AddsSection, nothing, section, IsLongList, whole, part, SpellsCustom, AddsCustoms, IsLongCustom}
use Rattle.wasm_encode.specs.Begun.{so_far, Accounts, IsBegun}
use Rattle.wasm_encode.specs.ListSections.{IsStep, IsListStep}
use Rattle.spec_reading.proofs.of_spec_binary.Joined.{each_all}
use Rattle.wasm_encode.proofs.Chains.{chain_next}
use Rattle.wasm_encode.proofs.Costs.{costs_least, accounts_of}
use Rattle.wasm_encode.proofs.Begun.{rank_some, section_small, placed_all, placed_none, customs_begun}

below_next : (k r : ℕ) → k ≤ suc r → (k ≤ r) ⊎ (k ≡ suc r)
below_next k r h = elim (cases_lt k (suc r)) [ inl less ↦ inl (omega arith) | inr more ↦ inr (omega arith) ]

no_rank : {m : Module} {r : ℕ} → ¬ HasRank m (suc r) → HasRank m (suc r) ⊎ (suc r ≡ 0) → ⊥
no_rank never (inl has) = never has
no_rank never (inr e) = omega arith

has_rank : {m : Module} {r : ℕ} → HasRank m (suc r) ⊎ (suc r ≡ 0) → HasRank m (suc r)
has_rank (inl has) = has
has_rank (inr e) = absurd (omega arith)

module _ {m : Module} {r id : ℕ} {L : Type 0} {H : List ℕ → Type 0} (k : IsStep m r id L H) {customs : List Custom} {old new : List ℕ} (b : IsBegun m r (suc r) customs old) where
  fit_next : AddsSection L H id old new → (other j : ℕ) → j ≤ suc r → IsTooLong m other (2 * j) → ⊥
  fit_next a other j h long = elim (below_next j r h) [ inl less ↦ b.sections_fit other j less long | inr here ↦ k.fits a other (2 * j) (omega arith) long ]

  with_nothing : L → new ≡ old → AddsSection L H id old new → IsBegun m (suc r) (suc r) customs new
  with_nothing out same a = record {
    sections = b.sections;
    parts = same ∙ b.parts;
    count = b.count;
    end = b.end;
    chain = b.chain;
    before = b.before;
    all = b.all;
    fields = b.fields ∙ k.left_out out b.before;
    last = omega (arith, b.last);
    ranked = λ h. absurd (no_rank (λ has. k.there has out) h);
    placed = b.placed;
    least = λ n c w each. omega (arith, b.least n c w each);
    sections_fit = fit_next a;
    customs_fit = b.customs_fit;
  }

  with_section : (text word : List ℕ) → ¬ L → IsShortest H text → IsShortest (IsSection id text) word → new ≡ old ++ word → AddsSection L H id old new → IsBegun m (suc r) (suc r) customs new
  with_section text word there p q joined a = record {
    sections = b.sections ++ word;
    parts = joined ∙ ap (λ t. t ++ word) b.parts ∙ append_assoc header b.sections word;
    count = suc b.count;
    end = k.after b.end;
    chain = chain_next b.chain q.spelled (k.contents b.end text (omega (arith, b.last)) p.spelled);
    before = b.before;
    all = b.all;
    fields = k.written b.end b.before b.fields;
    last = omega (arith, k.last b.end);
    ranked = λ h. k.rank (has_rank h) b.end;
    placed = b.placed;
    least = λ n c w each. let one = costs_least text word there p q (k.costs n c) in omega (arith, b.least n c w each, length-append b.sections word);
    sections_fit = fit_next a;
    customs_fit = b.customs_fit;
  }

  pub section_begun : AddsSection L H id old new → IsBegun m (suc r) (suc r) customs new
  section_begun (nothing out same) = with_nothing out same (nothing out same)
  section_begun (section {contents = text} {word} there p q joined) = with_section text word there p q joined (section there p q joined)

-- a section, and the custom sections behind it, which are those of the next rank
pub listed_begun : {A : Type 0} {m : Module} {r id : ℕ} {Spells : A → List ℕ → Type 0} {TooLong : A → Type 0} {items : List A} {customs rest : List Custom} {old middle new : List ℕ} (rank : ℕ) → rank ≡ suc r
    → IsListStep m r id Spells TooLong items → IsBegun m r (suc r) customs old → AddsSection (items ≡ []) (SpellsVec Spells items) id old middle → AddsCustoms rank customs rest middle new
    → IsBegun m (suc r) (suc (suc r)) rest new
listed_begun {customs} {rest} {middle} {new} rank e k b a more = customs_begun (section_begun k.step b a) (subst (λ n. AddsCustoms n customs rest middle new) e more)

-- the number of the section of a rank
abbrev id_of : ℕ → ℕ
id_of r = if nat_eq r 10 then 12 else if nat_eq r 11 then 10 else if nat_eq r 12 then 11 else r

same_id : {m : Module} {id : ℕ} {w : List ℕ} → IsContents m id w → id_of (rank_of id) ≡ id
same_id (types s) = refl
same_id (imports s) = refl
same_id (funcs s) = refl
same_id (tables s) = refl
same_id (memories s) = refl
same_id (globals s) = refl
same_id (exports s) = refl
same_id (elems s) = refl
same_id (codes s) = refl
same_id (datas s) = refl

known_id : {m : Module} {other : ℕ} {w : List ℕ} (r : ℕ) → IsContents m other w → 2 * rank_of other ≡ 2 * r → other ≡ id_of r
known_id {other} r s e = let same : rank_of other ≡ r = omega arith in sym (same_id s) ∙ ap id_of same

-- a list that was written can be spelled in fewer than 2 ^ 32 bytes
list_small : {A : Type 0} {Spells : A → List ℕ → Type 0} {id : ℕ} {xs : List A} {old new : List ℕ} → AddsSection (xs ≡ []) (SpellsVec Spells xs) id old new → (v : List ℕ) × SpellsVec Spells xs v × (length v < 2 ^ 32)
list_small {Spells} (nothing empty same) =
    let empty_vec : SpellsVec Spells [] (0 ∷ []) = vec {xs = []} {count = 0 ∷ []} {w = []} (last (omega arith) (omega arith)) none in
    (0 ∷ [], subst (λ l. SpellsVec Spells l (0 ∷ [])) (sym empty) empty_vec, omega arith)
list_small (section {contents = text} there p q joined) = (text, p.spelled, section_small q.spelled)

fits_at : {m : Module} {other p : ℕ} (r id : ℕ) (v : List ℕ) → id_of r ≡ id → IsContents m id v → length v < 2 ^ 32 → (r ≡ 11 → (c : Code) → Contains m.codes c → IsTooLongBody c → ⊥) → p ≡ 2 * r → IsTooLong m other p → ⊥
fits_at {m} r id v is s small bodies e (contents {id = other} t h) =
    let same = known_id r t e ∙ is in
    let large = h v (subst (λ n. IsContents m n v) (sym same) s) in
    omega arith
fits_at r id v is s small bodies e (body {c} has long) = bodies (omega arith) c has long
fits_at r id v is s small bodies e (custom has long) = omega arith

code_fits : (c : Code) (w : List ℕ) → SpellsCode c w → IsTooLongBody c → ⊥
code_fits c w (code {w = text} size s) long = let large = long.long text s in let small = unsigned_small size in omega arith

vec_fits : {cs : List Code} {w : List ℕ} → SpellsVec SpellsCode cs w → (c : Code) → Contains cs c → IsTooLongBody c → ⊥
vec_fits {cs} (vec n s) c has long = All-contains (λ d. IsTooLongBody d → ⊥) cs c (each_all (λ d. IsTooLongBody d → ⊥) code_fits s) has long

pub codes_fit : (m : Module) {id : ℕ} {old new : List ℕ} → AddsSection (m.codes ≡ []) (SpellsVec SpellsCode m.codes) id old new → (c : Code) → Contains m.codes c → IsTooLongBody c → ⊥
codes_fit m (nothing empty same) c has long = let none = subst (λ l. Contains l c) empty has in omega (arith, none.1)
codes_fit m (section there p q joined) c has long = vec_fits p.spelled c has long

pub list_fits : (m : Module) (r id : ℕ) {A : Type 0} {Spells : A → List ℕ → Type 0} {xs : List A} → id_of r ≡ id → ((w : List ℕ) → SpellsVec Spells xs w → IsContents m id w) → (r ≡ 11 → ⊥)
    → {old new : List ℕ} → AddsSection (xs ≡ []) (SpellsVec Spells xs) id old new → (other p : ℕ) → p ≡ 2 * r → IsTooLong m other p → ⊥
list_fits m r id is make ne a other p e long = let small = list_small a in fits_at r id small.0 is (make small.0 small.1) small.2 (λ same c has big. absurd (ne same)) e long

pub code_list_fits : (m : Module) {old new : List ℕ} → AddsSection (m.codes ≡ []) (SpellsVec SpellsCode m.codes) 10 old new → (other p : ℕ) → p ≡ 2 * 11 → IsTooLong m other p → ⊥
code_list_fits m a other p e long = let small = list_small a in fits_at 11 10 small.0 refl (codes small.1) small.2 (λ same. codes_fit m a) e long

-- the sections of one number are never too long
no_start : {m : Module} {id : ℕ} {w : List ℕ} → IsContents m id w → rank_of id ≢ 8
no_start (types s) e = omega arith
no_start (imports s) e = omega arith
no_start (funcs s) e = omega arith
no_start (tables s) e = omega arith
no_start (memories s) e = omega arith
no_start (globals s) e = omega arith
no_start (exports s) e = omega arith
no_start (elems s) e = omega arith
no_start (codes s) e = omega arith
no_start (datas s) e = omega arith

no_data_count : {m : Module} {id : ℕ} {w : List ℕ} → IsContents m id w → rank_of id ≢ 10
no_data_count (types s) e = omega arith
no_data_count (imports s) e = omega arith
no_data_count (funcs s) e = omega arith
no_data_count (tables s) e = omega arith
no_data_count (memories s) e = omega arith
no_data_count (globals s) e = omega arith
no_data_count (exports s) e = omega arith
no_data_count (elems s) e = omega arith
no_data_count (codes s) e = omega arith
no_data_count (datas s) e = omega arith

pub start_fits : {m : Module} {other p : ℕ} → p ≡ 2 * 8 → IsTooLong m other p → ⊥
start_fits e (contents {id} s h) = no_start s (omega arith)
start_fits e (body has long) = omega arith
start_fits e (custom has long) = omega arith

pub data_count_fits : {m : Module} {other p : ℕ} → p ≡ 2 * 10 → IsTooLong m other p → ⊥
data_count_fits e (contents {id} s h) = no_data_count s (omega arith)
data_count_fits e (body has long) = omega arith
data_count_fits e (custom has long) = omega arith

-- what stands before fits
earlier_fits : {m : Module} {r q : ℕ} {cs : List Custom} {bytes : List ℕ} (b : IsBegun m r q cs bytes) (bound : ℕ) → bound ≤ 2 * r + 2 → bound ≤ 2 * q + 1 → (other earlier : ℕ) → earlier < bound → IsTooLong m other earlier → ⊥
earlier_fits b bound h l other earlier less (contents {id} s f) = b.sections_fit id (rank_of id) (omega arith) (contents s f)
earlier_fits b bound h l other earlier less (body has long) = b.sections_fit 10 11 (omega arith) (body has long)
earlier_fits {q} {cs} b bound h l other earlier less (custom {c} has long) = elim (Contains-append_cases b.before cs c (subst (λ l. Contains l c) b.all has)) [
  | inl here ↦ b.customs_fit c here long
  | inr there ↦ let beyond : q ≤ c.rank = All-contains (λ d. q ≤ d.rank) cs c (placed_all q (omega arith) b.placed) there in omega arith
]

pub section_too_long : {m : Module} {r : ℕ} {cs : List Custom} {bytes : List ℕ} → IsBegun m r (suc r) cs bytes → (id : ℕ) → IsTooLong m id (2 * suc r) → IsFirstTooLong m id
section_too_long {r} b id long = record { place = 2 * suc r; long = long; first = earlier_fits b (2 * suc r) (omega arith) (omega arith) }

pub customs_too_long : {m : Module} {r : ℕ} {cs : List Custom} {bytes : List ℕ} → IsBegun m r r cs bytes → (id : ℕ) → (id ≡ 0) × IsLongCustom r cs → IsFirstTooLong m id
customs_too_long {m} {r} {cs} b id (zero_id, c) =
    let has : Contains m.customs c.custom = subst (λ l. Contains l c.custom) (sym b.all) (Contains-append_right b.before cs c.custom c.has) in
    subst (IsFirstTooLong m) (sym zero_id)
    (record { place = 2 * c.custom.rank + 1; long = custom has c.long; first = earlier_fits b (2 * c.custom.rank + 1) (omega (arith, c.ranked)) (omega (arith, c.ranked)) })

pub customs_too_long_at : {m : Module} {r : ℕ} {cs : List Custom} {bytes : List ℕ} (rank : ℕ) → rank ≡ r → IsBegun m r r cs bytes → (id : ℕ) → (id ≡ 0) × IsLongCustom rank cs → IsFirstTooLong m id
customs_too_long_at {cs} rank e b id (zero_id, c) = customs_too_long b id (zero_id, subst (λ n. IsLongCustom n cs) e c)

pub list_too_long : {A : Type 0} {Spells : A → List ℕ → Type 0} {TooLong : A → Type 0} (m : Module) (id : ℕ) {xs : List A} → ((w : List ℕ) → SpellsVec Spells xs w → IsContents m id w)
    → ((w : List ℕ) → IsContents m id w → SpellsVec Spells xs w) → ((x : A) → Contains xs x → TooLong x → IsTooLong m id (2 * rank_of id)) → IsLongList Spells TooLong xs → IsTooLong m id (2 * rank_of id)
list_too_long m id make unmake one (whole {w} s h) = contents (make w s) (λ v t. h v (unmake v t))
list_too_long m id make unmake one (part {x} has long) = one x has long

-- the whole module
pub all_written : {m : Module} {cs : List Custom} {bytes : List ℕ} (b : IsBegun m 12 13 cs bytes) → b.before ≡ m.customs
all_written b = sym (b.all ∙ ap (λ l. b.before ++ l) (placed_none (omega arith) b.placed) ∙ append-nil b.before)

fits_whole : {m : Module} {cs : List Custom} {bytes : List ℕ} {id p : ℕ} → IsBegun m 12 13 cs bytes → IsTooLong m id p → ⊥
fits_whole b (contents {id} s h) = b.sections_fit id (rank_of id) (rank_some s).1 (contents s h)
fits_whole b (body has long) = b.sections_fit 10 11 (omega arith) (body has long)
fits_whole b (custom {c} has long) = b.customs_fit c (subst (λ l. Contains l c) (sym (all_written b)) has) long

module _ {m : Module} {cs : List Custom} {bytes : List ℕ} (b : IsBegun m 12 13 cs bytes) where
  spelled_whole : SpellsModule m bytes
  spelled_whole = record { sections = b.sections; parts = b.parts; count = b.count; end = b.end; chain = b.chain; fields = b.fields ∙ ap (so_far m 12) (all_written b) }

  -- what the sections of a whole module cost
  pub accounts_whole : Accounts m (length b.sections)
  accounts_whole =
      let fields : b.end.fields ≡ m = b.fields ∙ ap (so_far m 12) (all_written b) in
      subst (λ f. Accounts f (length b.sections)) fields (accounts_of b.chain)

  least_whole : (other : List ℕ) → SpellsModule m other → length bytes ≤ length other
  least_whole other s =
      let found : Accounts m (length s.sections) = subst (λ f. Accounts f (length s.sections)) s.fields (accounts_of s.chain) in
      let least = b.least (length s.sections) found found.customs_word (subst (λ l. SpellsEach SpellsCustom l found.customs_word) (sym (all_written b)) found.customs) in
      omega (arith, found.enough, ap length b.parts, ap length s.parts, length-append header b.sections, length-append header s.sections)

  pub shortest_whole : IsShortest (SpellsModule m) bytes
  shortest_whole = record { spelled = spelled_whole; least = least_whole }

  pub whole_fits : (id : ℕ) → IsFirstTooLong m id → ⊥
  whole_fits id f = fits_whole b f.long

-- there is one section that is the first
one_place : {m : Module} {id other p q : ℕ} → IsTooLong m id p → IsTooLong m other q → p ≡ q → id ≡ other
one_place (contents {id} s h) (contents {id = other} t g) e = known_id (rank_of other) s e ∙ same_id t
one_place (contents s h) (body has long) e = known_id 11 s e
one_place (contents s h) (custom has long) e = absurd (omega arith)
one_place (body has long) (contents t g) e = sym (known_id 11 t (sym e))
one_place (body has long) (body other more) e = refl
one_place (body has long) (custom other more) e = absurd (omega arith)
one_place (custom has long) (contents t g) e = absurd (omega arith)
one_place (custom has long) (body other more) e = absurd (omega arith)
one_place (custom has long) (custom other more) e = refl

one_first : {m : Module} {id other : ℕ} → IsFirstTooLong m id → IsFirstTooLong m other → id ≡ other
one_first {id} {other} f g = elim (cases_lt f.place g.place) [
  | inl less ↦ absurd (g.first id f.place less f.long)
  | inr more ↦ elim (cases_lt g.place f.place) [
    | inl less ↦ absurd (f.first other g.place less g.long)
    | inr same ↦ one_place f.long g.long (omega arith)
  ]
]

pub told_first : {A : Type 0} {m : Module} (r : Result A EncodeFault) → IsErr r → ((id : ℕ) → r ≡ Err (SectionSize id) → IsFirstTooLong m id) → (id : ℕ) → IsFirstTooLong m id
    → (r ≡ Err (SectionSize id)) ⊎ (r ≡ Err Memory)
told_first (Ok x) err told id f = absurd cc
told_first (Err (SectionSize n)) err told id f = inl (ap (λ k. Err (SectionSize k)) (one_first (told n refl) f))
told_first (Err Memory) err told id f = inr refl
