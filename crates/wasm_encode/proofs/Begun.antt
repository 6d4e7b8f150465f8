-- The bytes of a module so far: the header, one more section, and custom sections.
use Rattle.std.proofs.Common.{◌≡◌, ◌≢◌, ℕ, ◌+◌, ◌^◌, ◌<◌, ◌≤◌, List, [], ◌∷◌, ◌++◌, length, length-append, All, Contains, refl, sym, ap, ◌∙◌, subst, arith, append_assoc, append-nil, inl, inr, ◌⊎◌}
use Rattle.std.specs.Prelude.{suc}
use Rattle.std.proofs.lemmas.List.Elements.{All-head, All-tail, All-nil, All-cons, All-contains, Contains-append_cases}
use Rattle.wasm_form.specs.declared.module.Custom.{Custom}
use Rattle.wasm_form.specs.declared.module.Module.{Module}
use Rattle.spec_reading.specs.spec_binary.Sequence.{SpellsEach, none, next}
use Rattle.spec_reading.proofs.of_spec_binary.UnsignedSpelling.{unsigned_small}
use Rattle.spec_reading.specs.spec_binary.Sections.{Progress, at_start, with_custom, custom as custom_contents, IsSection, section as one_section, Chain, done}
use Rattle.spec_reading.specs.spec_binary.Modules.{header}
use Rattle.spec_reading.specs.spec_binary.WellFormed as formed
use Rattle.spec_reading.specs.spec_binary.WellFormed.{IsShort, HasRank, ArePlaced, none as no_more, behind, first}
use Rattle.wasm_encode.specs.SectionSizes.{IsContents, types, imports, funcs, tables, memories, globals, exports, elems, codes, datas, rank_of, IsTooLongCustom, IsTooLong, contents, body, custom}
use Rattle.wasm_encode.specs.Written.{SpellsCustom, custom as custom_section, AddsCustoms}
use Rattle.wasm_encode.specs.Begun.{paid, Accounts, IsBegun}
use Rattle.spec_reading.proofs.of_spec_binary.Joined.{each_parts, each_all}
use Rattle.wasm_encode.proofs.Chains.{chain_next, chain_along}

-- where custom sections stand
rank_small : {m : Module} {k : ℕ} → HasRank m k → k ≤ 12
rank_small (formed.types h) = omega arith
rank_small (formed.imports h) = omega arith
rank_small (formed.funcs h) = omega arith
rank_small (formed.tables h) = omega arith
rank_small (formed.memories h) = omega arith
rank_small (formed.globals h) = omega arith
rank_small (formed.exports h) = omega arith
rank_small (formed.elems h) = omega arith
rank_small (formed.codes h) = omega arith
rank_small (formed.datas h) = omega arith

pub placed_none : {m : Module} {r : ℕ} {cs : List Custom} → 12 < r → ArePlaced m r cs → cs ≡ []
placed_none h no_more = refl
placed_none h (behind le has short p) = let small = rank_small has in absurd (omega arith)
placed_none h (first e short p) = absurd (omega arith)

pub placed_short : {m : Module} {r : ℕ} {cs : List Custom} → ArePlaced m r cs → All (λ c. IsShort c.name) cs
placed_short no_more = All-nil (λ c. IsShort c.name)
placed_short (behind {c} {cs} le has short p) = All-cons (λ d. IsShort d.name) c cs short (placed_short p)
placed_short (first {c} {cs} e short p) = All-cons (λ d. IsShort d.name) c cs short (placed_short p)

pub placed_all : {m : Module} {r : ℕ} {cs : List Custom} (q : ℕ) → q ≤ r → ArePlaced m r cs → All (λ c. q ≤ c.rank) cs
placed_all q h no_more = All-nil (λ c. q ≤ c.rank)
placed_all q h (behind {c} {cs} le has short p) = All-cons (λ d. q ≤ d.rank) c cs (omega arith) (placed_all q (omega arith) p)
placed_all q h (first {c} {cs} e short p) = All-cons (λ d. q ≤ d.rank) c cs (omega arith) (placed_all q h p)

placed_next : {m : Module} {r : ℕ} {cs : List Custom} → ((c : Custom) (ds : List Custom) → cs ≡ c ∷ ds → c.rank ≢ r) → ArePlaced m r cs → ArePlaced m (suc r) cs
placed_next h no_more = no_more
placed_next h (behind {c} {cs} le has short p) = let other = h c cs refl in behind (omega arith) has short p
placed_next h (first {c} {cs} e short p) = absurd (h c cs refl e)

beyond : (r k : ℕ) → r ≤ k → (r ≡ k → ⊥) → suc r ≤ k
beyond r k le ne = omega arith

-- no custom section stands behind a section that is empty
pub placed_over : {m : Module} {r : ℕ} {cs : List Custom} → 0 < r → (HasRank m r → ⊥) → ArePlaced m r cs → ArePlaced m (suc r) cs
placed_over some empty no_more = no_more
placed_over {m} {r} some empty (behind {c} le has short p) = behind (beyond r c.rank le (λ e. empty (subst (HasRank m) (sym e) has))) has short p
placed_over some empty (first e short p) = absurd (omega arith)

all_head : {A : Type 0} (P : A → Type 0) (x : A) (xs : List A) → All P (x ∷ xs) → P x × All P xs
all_head P x xs all = (All-head P x xs all, All-tail P x xs all)

placed_rest : {m : Module} {r : ℕ} (written rest : List Custom) → All (λ c. c.rank ≡ r) written → ArePlaced m r (written ++ rest) → ArePlaced m r rest
placed_rest [] rest all p = p
placed_rest {m} {r} (c ∷ cs) rest all (behind le has short p) = let parts = all_head (λ d. d.rank ≡ r) c cs all in placed_rest cs rest parts.1 (subst (λ k. ArePlaced m k (cs ++ rest)) parts.0 p)
placed_rest (c ∷ cs) rest all (first e short p) = placed_rest cs rest (all_head (λ d. d.rank ≡ 0) c cs all).1 p

rank_known : {m : Module} {r : ℕ} (c : Custom) (cs : List Custom) → c.rank ≡ r → ArePlaced m r (c ∷ cs) → HasRank m r ⊎ (r ≡ 0)
rank_known {m} c cs e (behind le has short p) = inl (subst (HasRank m) e has)
rank_known c cs e (first f short p) = inr refl

-- the sections that can be long
pub rank_some : {m : Module} {id : ℕ} {w : List ℕ} → IsContents m id w → (0 < rank_of id) × (rank_of id ≤ 12)
rank_some (types s) = (omega arith, omega arith)
rank_some (imports s) = (omega arith, omega arith)
rank_some (funcs s) = (omega arith, omega arith)
rank_some (tables s) = (omega arith, omega arith)
rank_some (memories s) = (omega arith, omega arith)
rank_some (globals s) = (omega arith, omega arith)
rank_some (exports s) = (omega arith, omega arith)
rank_some (elems s) = (omega arith, omega arith)
rank_some (codes s) = (omega arith, omega arith)
rank_some (datas s) = (omega arith, omega arith)

no_first : {m : Module} {id p : ℕ} → p ≡ 0 → IsTooLong m id p → ⊥
no_first e (contents s h) = let some = (rank_some s).0 in omega arith
no_first e (body has long) = omega arith
no_first e (custom has long) = omega arith

pub section_small : {id : ℕ} {text w : List ℕ} → IsSection id text w → length text < 2 ^ 32
section_small (one_section size) = unsigned_small size

-- the header alone
pub begun_header : (m : Module) (bytes : List ℕ) → ArePlaced m 0 m.customs → bytes ≡ header → IsBegun m 0 0 m.customs bytes
begun_header m bytes placed e = record {
  sections = [];
  parts = e ∙ sym (append-nil header);
  count = 0;
  end = at_start;
  chain = done;
  before = [];
  all = refl;
  fields = refl;
  last = omega arith;
  ranked = λ h. refl;
  placed = placed;
  least = λ n a w each. omega arith;
  sections_fit = λ id k h long. no_first (omega arith) long;
  customs_fit = λ c has long. omega (arith, has.1);
}

-- custom sections
record AfterCustoms (s : Progress) (written : List Custom) (text : List ℕ) : Type 0 where
  count : ℕ
  end : Progress
  chain : Chain at_start count text end
  fields : end.fields ≡ record s.fields { customs = s.fields.customs ++ written }
  last : end.last ≡ s.last
  rank : end.rank ≡ s.rank

abbrev with_rank : Custom → ℕ → Custom
with_rank c k = record { rank = k; name = c.name; bytes = c.bytes }

custom_same : (c : Custom) (rank : ℕ) → c.rank ≡ rank → ◌≡◌ {A = Custom} (record { rank = rank; name = c.name; bytes = c.bytes }) c
custom_same c rank e = ap (with_rank c) (sym e)

customs_chain : {k : ℕ} {s : Progress} (text : List ℕ) → Chain at_start k text s → (written : List Custom) {v : List ℕ} → SpellsEach SpellsCustom written v → All (λ c. c.rank ≡ s.rank) written
    → AfterCustoms s written (text ++ v)
customs_chain {k} {s} text chain [] none all = record {
  count = k;
  end = s;
  chain = chain_along text (text ++ []) (sym (append-nil text)) chain;
  fields = ap (λ l. record s.fields { customs = l }) (sym (append-nil s.fields.customs));
  last = refl;
  rank = refl;
}
customs_chain {k} {s} text chain (c ∷ cs) (next {w} {v} (custom_section named is) rest) all =
    let parts = all_head (λ d. d.rank ≡ s.rank) c cs all in
    let s' = with_custom s c.name c.bytes in
    let done : AfterCustoms s' cs ((text ++ w) ++ v) = customs_chain (text ++ w) (chain_next chain is (custom_contents c.bytes named)) cs rest parts.1 in
    let here : with_rank c s.rank ≡ c = custom_same c s.rank parts.0 in
    record {
      count = done.count;
      end = done.end;
      chain = chain_along ((text ++ w) ++ v) (text ++ (w ++ v)) (append_assoc text w v) done.chain;
      fields = done.fields ∙ ap (λ l. record s.fields { customs = l }) (append_assoc s.fields.customs (with_rank c s.rank ∷ []) cs ∙ ap (λ d. s.fields.customs ++ (d ∷ cs)) here);
      last = done.last;
      rank = done.rank;
    }

same_rank : (r k : ℕ) (written : List Custom) → All (λ c. c.rank ≡ r) written → ((c : Custom) (cs : List Custom) → written ≡ c ∷ cs → k ≡ r) → All (λ c. c.rank ≡ k) written
same_rank r k [] all h = All-nil (λ c. c.rank ≡ k)
same_rank r k (c ∷ cs) all h = subst (λ n. All (λ d. d.rank ≡ n) (c ∷ cs)) (sym (h c cs refl)) all

custom_fits : (c : Custom) (w : List ℕ) → SpellsCustom c w → IsTooLongCustom c → ⊥
custom_fits c w (custom_section {name} named is) long = let small = section_small is in let large = long.long name named in omega arith

head_rank : {m : Module} {r : ℕ} (written rest : List Custom) → All (λ c. c.rank ≡ r) written → ArePlaced m r (written ++ rest) → (c : Custom) (cs : List Custom) → written ≡ c ∷ cs → HasRank m r ⊎ (r ≡ 0)
head_rank {m} {r} written rest all p c cs e =
    let known = subst (λ l. All (λ d. d.rank ≡ r) l) e all in
    rank_known c (cs ++ rest) (all_head (λ d. d.rank ≡ r) c cs known).0 (subst (λ l. ArePlaced m r (l ++ rest)) e p)

module _ {m : Module} {r : ℕ} {customs rest : List Custom} {old new : List ℕ} (b : IsBegun m r r customs old) (a : AddsCustoms r customs rest old new) where
  placed_here : ArePlaced m r (a.written ++ rest)
  placed_here = subst (ArePlaced m r) a.parts b.placed

  customs_after : AfterCustoms b.end a.written (b.sections ++ a.appended.0)
  customs_after =
      customs_chain b.sections b.chain a.written a.appended.1.spelled
      (same_rank r b.end.rank a.written a.ranked (λ c cs e. b.ranked (head_rank a.written rest a.ranked placed_here c cs e)))

  customs_least : (n : ℕ) (accounts : Accounts m n) (w : List ℕ) → SpellsEach SpellsCustom (b.before ++ a.written) w → length (b.sections ++ a.appended.0) ≤ paid accounts.cost r + length w
  customs_least n accounts w each =
      let parts = each_parts b.before a.written each in
      let first = b.least n accounts parts.before parts.first in
      let second : length a.appended.0 ≤ length parts.after = a.appended.1.least parts.after parts.rest in
      omega (arith, first, ap length parts.parts, length-append parts.before parts.after, length-append b.sections a.appended.0)

  customs_below : (c : Custom) → Contains (b.before ++ a.written) c → IsTooLongCustom c → ⊥
  customs_below c has long = elim (Contains-append_cases b.before a.written c has) [
    | inl here ↦ b.customs_fit c here long
    | inr here ↦ All-contains (λ d. IsTooLongCustom d → ⊥) a.written c (each_all (λ d. IsTooLongCustom d → ⊥) custom_fits a.appended.1.spelled) here long
  ]

  pub customs_begun : IsBegun m r (suc r) rest new
  customs_begun =
      let done = customs_after in
      record {
        sections = b.sections ++ a.appended.0;
        parts = a.appended.2 ∙ ap (λ t. t ++ a.appended.0) b.parts ∙ append_assoc header b.sections a.appended.0;
        count = done.count;
        end = done.end;
        chain = done.chain;
        before = b.before ++ a.written;
        all = b.all ∙ ap (λ l. b.before ++ l) a.parts ∙ sym (append_assoc b.before a.written rest);
        fields = done.fields ∙ ap {A = Module} (λ f. record f { customs = f.customs ++ a.written }) b.fields;
        last = omega (arith, done.last, b.last);
        ranked = λ h. done.rank ∙ b.ranked h;
        placed = placed_next a.end (placed_rest a.written rest a.ranked placed_here);
        least = customs_least;
        sections_fit = b.sections_fit;
        customs_fit = customs_below;
      }
