-- There is one answer for bytes, and reading gives it.
use Rattle.std.proofs.Common.{◌≡◌, ◌≢◌, ℕ, ◌+◌, ◌<◌, ◌≤◌, Bool, true, false, List, [], ◌++◌, length, take, drop, Result, Ok, Err, refl, sym, ap, subst, ◌∙◌, append_assoc, arith, inl, inr}
use Rattle.std.specs.Prelude.{bytes_eq}
use Rattle.std.specs.List.{All}
use Rattle.std.proofs.lemmas.List.{append-nil}
use Rattle.std.proofs.lemmas.List.Elements.{All-nil}
use Rattle.spec_binary.specs.wasm_form.declared.module.Module.{Module}
use Rattle.spec_binary.specs.BodyLimits.{IsWithinLimits}
use Rattle.spec_binary.specs.Sections.{Progress, at_start, Chain, done, next}
use Rattle.spec_binary.specs.Modules.{header, SpellsModule}
use Rattle.spec_binary.specs.Saturated.{saturated}
use Rattle.spec_binary.specs.DecodeAnswers.{Reaches, ReachesBody, PassesLocals, PassesNesting, DecodeAnswer, too_many_locals, too_deep, no_header, malformed, counts, spelled}
use Rattle.spec_binary.specs.declared.fault.DecodeFault.{DecodeFault}
use Rattle.spec_binary.specs.declared.fault.DecodeFault.TheVariants.{Malformed}
use Rattle.spec_reading.specs.Steps.{◌>>=◌}
use Rattle.spec_reading.specs.Bodies.{Room, usual_room}
use Rattle.spec_reading.specs.Sections.{section_at, chain_at, counts_agree, counted, sections_at, answer_of}
use Rattle.spec_reading.specs.Laws.{ReadingAnswers}
use Rattle.spec_reading.proofs.Bodies.{Keeps}
use Rattle.spec_reading.proofs.CodeSections.{CodesEnd, malformed as broken_codes, many_locals, deep}
use Rattle.spec_reading.proofs.Contents.{HasRoom}
use Rattle.spec_reading.proofs.FramedSections.{EndsInCode, section_end}
use Rattle.spec_reading.proofs.Chains.{chain_join, TakesChain, chain_sound, ChainEnds, chain_end}
use Rattle.spec_reading.proofs.Counts.{agree, agrees, disagree, disagrees}
use Rattle.spec_reading.proofs.Ending.{have_room, are_within, header_read, header_again, behind_header, behind, passes_locals, passes_nesting, reaches, reaches_body, ends_so}

-- a module that is spelled is read, where its bodies have room
pub module_read : (room : Room) (m : Module) (bytes : List ℕ) (s : SpellsModule m bytes) → All (Keeps room) m.codes → sections_at room bytes ≡ Ok s.end
unfolding chain_at
module_read room m bytes s h =
    let keeps : HasRoom room s.end = subst (λ (m : Module). All (Keeps room) m.codes) (sym s.fields) h in
    let parts : bytes ≡ header ++ (s.sections ++ []) = s.parts ∙ ap (λ l. header ++ l) (sym (append-nil s.sections)) in
    (behind room bytes s.sections [] s.count s.end parts s.chain keeps).goes_on

module _ (bytes : List ℕ) where
  spelled_answer : (m : Module) → SpellsModule m bytes → All IsWithinLimits m.codes → (b : Bool) → counts_agree m ≡ b → DecodeAnswer bytes (counted m)
  spelled_answer m s h true e = rw e (spelled s h (agree m e))
  spelled_answer m s h false e = rw e (counts s h (disagree m e))

  -- the answer where no section more is read
  end_answer : (e : DecodeFault) (count : ℕ) (word rest : List ℕ) (end : Progress) → bytes ≡ header ++ (word ++ rest) → Chain at_start count word end → HasRoom usual_room end → rest ≢ []
      → section_at usual_room (saturated (0 + count)) end rest ≡ Err e → answer_of bytes ≡ Err e → DecodeAnswer bytes (Err e)
  end_answer e count word rest end parts chain h some stop a =
      let same : 0 + count ≡ count = omega arith in
      ends_so bytes count (reaches bytes count word rest end parts chain h) some e (subst (λ n. section_at usual_room (saturated n) end rest ≡ Err e) same stop) a

  chain_answer : (rest : List ℕ) → bytes ≡ header ++ rest → (r : Result Progress DecodeFault) → chain_at usual_room (length bytes) 0 at_start rest ≡ r → sections_at usual_room bytes ≡ r
      → DecodeAnswer bytes (answer_of bytes)
  unfolding answer_of
  chain_answer rest parts (Ok s) e a =
      let t = chain_sound usual_room (length bytes) 0 at_start rest s e in
      let keeps : HasRoom usual_room s = t.keeps (All-nil (Keeps usual_room)) in
      rw a (spelled_answer s.fields (record { sections = rest; parts = parts; count = t.count; end = s; chain = t.chain; fields = refl }) (are_within s.fields.codes keeps) (counts_agree s.fields) refl)
  chain_answer rest parts (Err e) h a =
      let short : length rest ≤ length bytes = let l = ap length parts in omega arith in
      let c = chain_end usual_room (length bytes) 0 at_start rest e short h in
      let all : (sections_at usual_room bytes >>= λ s. counted s.fields) ≡ Err e = rw a refl in
      rw a (end_answer e c.more c.word c.rest c.end (parts ∙ ap (λ l. header ++ l) c.parts) c.chain (c.keeps (All-nil (Keeps usual_room))) c.some c.ends all)

  no_header_answer : bytes_eq (take 8 bytes) header ≡ false → DecodeAnswer bytes (answer_of bytes)
  unfolding answer_of sections_at
  no_header_answer e = rw e (no_header (λ rest h. let t = header_again bytes rest h in cc))

  pub reading_gives : DecodeAnswer bytes (answer_of bytes)
  reading_gives = elim (bytes_eq (take 8 bytes) header) as (λ t. bytes_eq (take 8 bytes) header ≡ t → DecodeAnswer bytes (answer_of bytes)) [
    | true ↦ λ e. let parts = header_read bytes e in chain_answer (drop 8 bytes) parts (chain_at usual_room (length bytes) 0 at_start (drop 8 bytes)) refl (behind_header usual_room bytes (drop 8 bytes) parts)
    | false ↦ λ e. no_header_answer e
  ] refl

  -- no body passes a limit
  abbrev NonePasses : (List ℕ → Type 0) → Type 0
  NonePasses Passes = (function : ℕ) (text : List ℕ) → ReachesBody bytes function text → Passes text → ⊥

  module _ (few : NonePasses PassesLocals) (flat : NonePasses PassesNesting) where
    in_code : (count : ℕ) (r : Reaches bytes count) (e : DecodeFault) (c : EndsInCode (saturated count) r.end r.rest e) → CodesEnd (saturated count) c.contents e → e ≡ Malformed (saturated count)
    in_code count r _ c broken_codes = refl
    in_code count r _ c (many_locals {function} {text} b p) = absurd (few function text (reaches_body bytes function text count r _ c b) p)
    in_code count r _ c (deep {function} {text} b p) = absurd (flat function text (reaches_body bytes function text count r _ c b) p)

    -- what a place where no section is read says
    told_there : (count : ℕ) (r : Reaches bytes count) (e : DecodeFault) → section_at usual_room (saturated count) r.end r.rest ≡ Err e → e ≡ Malformed (saturated count)
    told_there count r e h = elim (section_end (saturated count) r.end r.rest e h) [ inl p ↦ p | inr c ↦ in_code count r e c c.ends ]

    module _ (count : ℕ) (r : Reaches bytes count) (some : r.rest ≢ []) (greatest : (more : ℕ) → Reaches bytes more → more ≤ count) where
      none_left : (k : ℕ) (w : List ℕ) (t : Progress) → Chain r.end k w t → k ≡ 0 → w ≡ []
      none_left _ _ _ done e = refl
      none_left _ _ _ (next f c p) e = absurd (omega arith)

      -- where sections take the rest, more of them are reached
      taken : (t : Progress) → TakesChain usual_room r.end r.rest t → ⊥
      taken t c =
          let keeps : HasRoom usual_room t = c.keeps (have_room r.end.fields.codes r.limits) in
          let parts : bytes ≡ header ++ ((r.sections ++ r.rest) ++ []) = r.parts ∙ ap (λ l. header ++ l) (sym (append-nil (r.sections ++ r.rest))) in
          let least = greatest (count + c.count) (reaches bytes (count + c.count) (r.sections ++ r.rest) [] t parts (chain_join r.chain c.chain (count + c.count) refl) keeps) in
          some (none_left c.count r.rest t c.chain (omega arith))

      -- where no section is read behind some more, there are none
      stopped : (e : DecodeFault) → ChainEnds usual_room count r.end r.rest e → e ≡ Malformed (saturated count)
      stopped e c =
          let keeps : HasRoom usual_room c.end = c.keeps (have_room r.end.fields.codes r.limits) in
          let parts : bytes ≡ header ++ ((r.sections ++ c.word) ++ c.rest) = r.parts ∙ ap (λ l. header ++ l) (ap (λ l. r.sections ++ l) c.parts ∙ sym (append_assoc r.sections c.word c.rest)) in
          let last = reaches bytes (count + c.more) (r.sections ++ c.word) c.rest c.end parts (chain_join r.chain c.chain (count + c.more) refl) keeps in
          let least = greatest (count + c.more) last in
          let same : count + c.more ≡ count = omega arith in
          told_there (count + c.more) last e c.ends ∙ ap (λ n. Malformed (saturated n)) same

      one_malformed : (fuel : ℕ) → length r.rest < fuel → (q : Result Progress DecodeFault) → chain_at usual_room fuel count r.end r.rest ≡ q → sections_at usual_room bytes ≡ q
          → ◌≡◌ {A = Result Module DecodeFault} (Err (Malformed (saturated count))) (answer_of bytes)
      unfolding answer_of
      one_malformed fuel l (Ok t) e a = absurd (taken t (chain_sound usual_room fuel count r.end r.rest t e))
      one_malformed fuel l (Err d) e a =
          let same = stopped d (chain_end usual_room fuel count r.end r.rest d (omega arith) e) in
          rw a (ap (λ (e : DecodeFault). Err e) (sym same))

      malformed_alone : ◌≡◌ {A = Result Module DecodeFault} (Err (Malformed (saturated count))) (answer_of bytes)
      malformed_alone =
          let on = behind usual_room bytes r.sections r.rest count r.end r.parts r.chain (have_room r.end.fields.codes r.limits) in
          one_malformed on.fuel on.enough (chain_at usual_room on.fuel count r.end r.rest) refl on.goes_on

  no_header_alone : ((rest : List ℕ) → bytes ≢ header ++ rest) → answer_of bytes ≡ Err (Malformed 0)
  unfolding answer_of sections_at
  no_header_alone h =
      let other : bytes_eq (take 8 bytes) header ≡ false = elim (bytes_eq (take 8 bytes) header) as (λ t. bytes_eq (take 8 bytes) header ≡ t → t ≡ false) [ true ↦ λ e. absurd (h (drop 8 bytes) (header_read bytes e)) | false ↦ λ e. refl ] refl in
      rw other refl

  spelled_alone : (m : Module) → SpellsModule m bytes → All IsWithinLimits m.codes → answer_of bytes ≡ counted m
  unfolding answer_of
  spelled_alone m s h = rw (module_read usual_room m bytes s (have_room m.codes h)) (ap counted s.fields)

  pub one_answer : (answer : Result Module DecodeFault) → DecodeAnswer bytes answer → answer ≡ answer_of bytes
  one_answer _ (too_many_locals {function} {text} b p) = sym (passes_locals bytes function text b p)
  one_answer _ (too_deep {function} {text} b p) = sym (passes_nesting bytes function text b p)
  one_answer _ (no_header h) = sym (no_header_alone h)
  one_answer _ (malformed {count} r some greatest few flat) = malformed_alone few flat count r some greatest
  one_answer _ (counts {m} s h d) = let b = disagrees m d in sym (spelled_alone m s h ∙ rw b refl)
  one_answer _ (spelled {m} s h d) = let b = agrees m d in sym (spelled_alone m s h ∙ rw b refl)

pub answers : ReadingAnswers
answers bytes = (reading_gives bytes, one_answer bytes)
