-- Where reading a module ends, and what is to say of its bytes then.
use Rattle.std.proofs.Common.{◌≡◌, ◌≢◌, ℕ, zero, suc, ◌+◌, ◌-◌, ◌<◌, ◌≤◌, true, List, [], ◌∷◌, ◌++◌, length, take, drop, Err, refl, sym, ap, subst, ◌∙◌, append_assoc, arith, inl, inr, length-append}
use Rattle.std.specs.Prelude.{bytes_eq}
use Rattle.std.specs.List.{All}
use Rattle.std.proofs.lemmas.List.{take-append-drop}
use Rattle.std.proofs.lemmas.Bool.{lt-ltb}
use Rattle.std.proofs.lemmas.Bool.Decides.{leb_tells}
use Rattle.std.proofs.lemmas.Slice.Eq.{bytes_eq-Decides}
use Rattle.spec_binary.specs.wasm_form.declared.module.Code.{Code}
use Rattle.spec_binary.specs.BodyLimits.{IsWithinLimits}
use Rattle.spec_binary.specs.Sections.{Progress, at_start, IsSection, section, Chain, done, next}
use Rattle.spec_binary.specs.Modules.{header}
use Rattle.spec_binary.specs.Saturated.{saturated}
use Rattle.spec_binary.specs.DecodeAnswers.{Reaches, ReachesBody, PassesLocals, PassesNesting, DecodeAnswer, too_many_locals, too_deep, malformed}
use Rattle.spec_binary.specs.declared.fault.DecodeFault.{DecodeFault}
use Rattle.spec_binary.specs.declared.fault.DecodeFault.TheVariants.{Malformed, TooDeep, TooManyLocals}
use Rattle.spec_reading.specs.Bodies.{Room, usual_room}
use Rattle.spec_reading.specs.Sections.{codes_at, code_section_at, contents_at, section_at, chain_at, sections_at, answer_of}
use Rattle.spec_reading.proofs.Values.{cut_again}
use Rattle.spec_reading.proofs.Bodies.{Keeps}
use Rattle.spec_reading.proofs.CodeSections.{HoldsBody, CodesEnd, malformed as broken_codes, many_locals, deep, codes_passed, codes_deep}
use Rattle.spec_reading.proofs.Contents.{HasRoom}
use Rattle.spec_reading.proofs.FramedSections.{EndsInCode, section_complete, section_end}
use Rattle.spec_reading.proofs.Chains.{had_room, chain_length, chain_complete}
use Rattle.spec_reading.proofs.Fronts.{goes_on}

-- the usual room is that of the limits
pub have_room : (cs : List Code) → All IsWithinLimits cs → All (Keeps usual_room) cs
have_room cs h = λ k d l. let w = h k d l in record { locals = w.few_locals; nested = w.flat }

pub are_within : (cs : List Code) → All (Keeps usual_room) cs → All IsWithinLimits cs
are_within cs h = λ k d l. let w = h k d l in record { few_locals = w.locals; flat = w.nested }

-- a text begins with the header, or it doesn't
pub header_read : (bytes : List ℕ) → bytes_eq (take 8 bytes) header ≡ true → bytes ≡ header ++ drop 8 bytes
header_read bytes e = sym (take-append-drop 8 bytes) ∙ ap (λ l. l ++ drop 8 bytes) ((bytes_eq-Decides (take 8 bytes) header).0 e)

pub header_again : (bytes rest : List ℕ) → bytes ≡ header ++ rest → bytes_eq (take 8 bytes) header ≡ true
header_again bytes rest e = rw e refl

-- reading goes on behind the header
pub behind_header : (room : Room) (bytes rest : List ℕ) → bytes ≡ header ++ rest → sections_at room bytes ≡ chain_at room (length bytes) 0 at_start rest
unfolding sections_at
behind_header room bytes rest e = rw e refl

-- reading goes on behind sections
pub record Behind (room : Room) (bytes : List ℕ) (count : ℕ) (end : Progress) (rest : List ℕ) : Type 0 where
  pub fuel : ℕ
  pub enough : length rest < fuel
  pub goes_on : sections_at room bytes ≡ chain_at room fuel count end rest

header_length : (rest : List ℕ) → length (header ++ rest) ≡ 8 + length rest
header_length rest = omega arith

pub behind : (room : Room) (bytes sections rest : List ℕ) (count : ℕ) (end : Progress) → bytes ≡ header ++ (sections ++ rest) → Chain at_start count sections end → HasRoom room end
    → Behind room bytes count end rest
behind room bytes sections rest count end e chain h =
    let long : length bytes ≡ 8 + length (sections ++ rest) = ap length e ∙ header_length (sections ++ rest) in
    let short = chain_length chain in
    let enough : count + length rest < length bytes = omega (arith, length-append sections rest) in
    let sum : length bytes ≡ count + (length bytes - count) = omega arith in
    record {
      fuel = length bytes - count;
      enough = omega arith;
      goes_on = behind_header room bytes (sections ++ rest) e ∙ chain_complete room chain h 0 count (length bytes - count) (length bytes) (omega arith) sum rest;
    }

-- a code section in its order, whose bodies aren't read, isn't read
section_not_read : (sections : ℕ) (s : Progress) (contents word : List ℕ) (e : DecodeFault) → s.last < 11 → IsSection 0x0A contents word → codes_at usual_room sections contents ≡ Err e
    → (rest : List ℕ) → section_at usual_room sections s (word ++ rest) ≡ Err e
unfolding section_at contents_at code_section_at
section_not_read sections s c w e order (section {size} {contents} n) h rest = rw (append_assoc size contents rest, cut_again size contents rest n, lt-ltb _ _ order, h) refl

module _ (bytes : List ℕ) (function : ℕ) (text : List ℕ) (b : ReachesBody bytes function text) where
  holds : HoldsBody b.contents function text
  holds = record {
    bodies = b.bodies;
    number = b.number;
    spelled_number = b.spelled_number;
    more = b.more;
    front = b.front;
    front_word = b.front_word;
    spelled_front = b.spelled_front;
    front_length = b.front_length;
    limits = have_room b.front b.limits;
    size = b.size;
    spelled_size = b.spelled_size;
    others = b.others;
    parts = b.parts;
  }

  chain_stops : (fuel count : ℕ) (s : Progress) (rest : List ℕ) (e : DecodeFault) → length rest < fuel → rest ≢ [] → section_at usual_room (saturated count) s rest ≡ Err e
      → chain_at usual_room fuel count s rest ≡ Err e
  unfolding chain_at
  chain_stops fuel count s [] e l some h = absurd (some refl)
  chain_stops zero count s (c ∷ cs) e l some h = absurd (omega arith)
  chain_stops (suc fuel) count s (c ∷ cs) e l some h = rw h refl

  not_empty : (contents word rest : List ℕ) → IsSection 0x0A contents word → word ++ rest ≢ []
  not_empty _ _ rest (section n) e = cc

  body_not_read : (e : DecodeFault) → codes_at usual_room (saturated b.count) b.contents ≡ Err e → answer_of bytes ≡ Err e
  unfolding answer_of
  body_not_read e h =
      let on = behind usual_room bytes b.reached.sections b.reached.rest b.count b.reached.end b.reached.parts b.reached.chain (have_room b.reached.end.fields.codes b.reached.limits) in
      let here = section_not_read (saturated b.count) b.reached.end b.contents b.section e b.order b.framed h b.after in
      let stop = chain_stops on.fuel b.count b.reached.end (b.section ++ b.after) e (subst (λ l. length l < on.fuel) b.follows on.enough) (not_empty b.contents b.section b.after b.framed) here in
      let all : sections_at usual_room bytes ≡ Err e = on.goes_on ∙ ap (chain_at usual_room on.fuel b.count b.reached.end) b.follows ∙ stop in
      rw all refl

  pub passes_locals : PassesLocals text → answer_of bytes ≡ Err (TooManyLocals function)
  passes_locals p = body_not_read (TooManyLocals function) (codes_passed (saturated b.count) b.contents function text holds p)

  pub passes_nesting : PassesNesting text → answer_of bytes ≡ Err (TooDeep function)
  passes_nesting p = body_not_read (TooDeep function) (codes_deep (saturated b.count) b.contents function text holds p)

module _ (bytes : List ℕ) where
  -- sections are reached, and then one in which reading ends
  abbrev pub reaches : (count : ℕ) (word rest : List ℕ) (end : Progress) → bytes ≡ header ++ (word ++ rest) → Chain at_start count word end → HasRoom usual_room end → Reaches bytes count
  reaches count word rest end parts chain h = record { sections = word; rest = rest; parts = parts; end = end; chain = chain; limits = are_within end.fields.codes h }

  pub reaches_body : (function : ℕ) (text : List ℕ) (count : ℕ) (r : Reaches bytes count) (e : DecodeFault) (c : EndsInCode (saturated count) r.end r.rest e) → HoldsBody c.contents function text
      → ReachesBody bytes function text
  reaches_body function text count r e c b = record {
    count = count;
    reached = r;
    order = c.order;
    contents = c.contents;
    section = c.word;
    framed = c.framed;
    after = c.after;
    follows = c.follows;
    bodies = b.bodies;
    number = b.number;
    spelled_number = b.spelled_number;
    more = b.more;
    front = b.front;
    front_word = b.front_word;
    spelled_front = b.spelled_front;
    front_length = b.front_length;
    limits = are_within b.front b.limits;
    size = b.size;
    spelled_size = b.spelled_size;
    others = b.others;
    parts = b.parts;
  }

  -- behind a place where no section is read there is no chain
  no_chain : (sections : ℕ) (s t : Progress) (k : ℕ) (w rest : List ℕ) (e : DecodeFault) → Chain s k w t → HasRoom usual_room t → section_at usual_room sections s (w ++ rest) ≡ Err e → k ≡ 0
  no_chain sections s t _ _ rest e done h stop = refl
  no_chain sections s u _ _ rest e (next {t} {k} {id} {contents} {w} {v} f c p) h stop =
      let read = section_complete sections usual_room s id contents w t f c (had_room usual_room t k v u p h) (v ++ rest) in
      let same : section_at usual_room sections s (w ++ (v ++ rest)) ≡ Err e = ap (section_at usual_room sections s) (sym (append_assoc w v rest)) ∙ stop in
      absurd cc

  same_text : (x y : List ℕ) → bytes ≡ header ++ x → bytes ≡ header ++ y → x ≡ y
  same_text x y p q = ap (drop 8) (sym p ∙ q)

  -- no section more is reached than those behind which none is read
  no_more : (count : ℕ) (r : Reaches bytes count) (e : DecodeFault) → section_at usual_room (saturated count) r.end r.rest ≡ Err e → (more : ℕ) → Reaches bytes more → more ≤ count
  no_more count r e h more q = elim (leb_tells more count) [
    | inl p ↦ p.1
    | inr p ↦
        let room = have_room q.end.fields.codes q.limits in
        let on = goes_on usual_room r.chain (have_room r.end.fields.codes r.limits) q.chain room (omega arith) r.rest q.rest (same_text (r.sections ++ r.rest) (q.sections ++ q.rest) r.parts q.parts) in
        let none : on.more ≡ 0 = no_chain (saturated count) r.end q.end on.more on.word q.rest e on.chain room (ap (section_at usual_room (saturated count) r.end) (sym on.parts) ∙ h) in
        let sum = on.sum in
        absurd (omega arith)
  ]

  -- the answer where no section is read
  module _ (count : ℕ) (r : Reaches bytes count) (some : r.rest ≢ []) where
    ends_malformed : (e : DecodeFault) → section_at usual_room (saturated count) r.end r.rest ≡ Err e → answer_of bytes ≡ Err (Malformed (saturated count)) → DecodeAnswer bytes (Err (Malformed (saturated count)))
    ends_malformed e h a =
        malformed r some (no_more count r e h) (λ function text b p. absurd (let q = passes_locals bytes function text b p in cc))
        (λ function text b p. absurd (let q = passes_nesting bytes function text b p in cc))

    ends_in_body : (e : DecodeFault) (c : EndsInCode (saturated count) r.end r.rest e) → CodesEnd (saturated count) c.contents e → section_at usual_room (saturated count) r.end r.rest ≡ Err e → answer_of bytes ≡ Err e
        → DecodeAnswer bytes (Err e)
    ends_in_body _ c broken_codes h a = ends_malformed _ h a
    ends_in_body _ c (many_locals {function} {text} b p) h a = too_many_locals (reaches_body function text count r _ c b) p
    ends_in_body _ c (deep {function} {text} b p) h a = too_deep (reaches_body function text count r _ c b) p

    pub ends_so : (e : DecodeFault) → section_at usual_room (saturated count) r.end r.rest ≡ Err e → answer_of bytes ≡ Err e → DecodeAnswer bytes (Err e)
    ends_so e h a = elim (section_end (saturated count) r.end r.rest e h) [
      | inl p ↦ subst (λ (e : DecodeFault). DecodeAnswer bytes (Err e)) (sym p) (ends_malformed e h (a ∙ ap (λ (e : DecodeFault). Err e) p))
      | inr c ↦ ends_in_body e c c.ends h a
    ]
