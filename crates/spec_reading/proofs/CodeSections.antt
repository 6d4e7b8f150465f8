-- The bodies of a code section are read as they are spelled, and where reading ends one passes a limit or is broken.
use Rattle.std.proofs.Common.{◌≡◌, ℕ, ◌+◌, ◌<◌, List, [], ◌∷◌, ◌++◌, length, Result, Ok, Err, refl, sym, ap, subst, ◌∙◌, arith, inl, inr}
use Rattle.std.specs.List.{All}
use Rattle.std.proofs.lemmas.List.{append-nil}
use Rattle.spec_binary.specs.wasm_form.declared.module.Code.{Code}
use Rattle.spec_binary.specs.Number.{SpellsUnsigned}
use Rattle.spec_binary.specs.Sequence.{SpellsEach, SpellsVec, vec}
use Rattle.spec_binary.specs.Parts.{SpellsCode}
use Rattle.spec_binary.specs.DecodeAnswers.{PassesLocals, PassesNesting}
use Rattle.spec_binary.specs.declared.fault.DecodeFault.{DecodeFault}
use Rattle.spec_binary.specs.declared.fault.DecodeFault.TheVariants as fault
use Rattle.spec_reading.specs.Steps.{Break, Broken, TooDeep, TooManyLocals, Read}
use Rattle.spec_reading.specs.Values.{number_at}
use Rattle.spec_reading.specs.Bodies.{Room, usual_room, code_at, in_body, bodies_at}
use Rattle.spec_reading.specs.Sections.{in_section, all_of, codes_at}
use Rattle.spec_reading.proofs.Steps.{bind_ok, bind_err, ok_is, err_is}
use Rattle.spec_reading.proofs.Values.{number_complete, number_sound}
use Rattle.spec_reading.proofs.Bodies.{Keeps, SizedThat, BodyEnds, broken, locals, nesting, code_ends, code_passed, code_deep}
use Rattle.spec_reading.proofs.BodyRows.{BodiesEnd, TakesBodies, bodies_complete, bodies_not_read, bodies_sound, bodies_end}

-- contents that hold so many bodies, which are spelled and have room, and then this text in place of the next one
pub record HoldsBody (contents : List ℕ) (function : ℕ) (text : List ℕ) : Type 0 where
  pub bodies : ℕ
  pub number : List ℕ
  pub spelled_number : SpellsUnsigned 32 bodies number
  pub more : function < bodies
  pub front : List Code
  pub front_word : List ℕ
  pub spelled_front : SpellsEach SpellsCode front front_word
  pub front_length : length front ≡ function
  pub limits : All (Keeps usual_room) front
  pub size : List ℕ
  pub spelled_size : SpellsUnsigned 32 (length text) size
  pub others : List ℕ
  pub parts : contents ≡ number ++ (front_word ++ (size ++ (text ++ others)))

-- why the bodies of a section aren't read
pub data CodesEnd (sections : ℕ) (contents : List ℕ) : DecodeFault → Type 0 where
  malformed : CodesEnd sections contents (fault.Malformed sections)
  many_locals : {function : ℕ} {text : List ℕ} → HoldsBody contents function text → PassesLocals text → CodesEnd sections contents (fault.TooManyLocals function)
  deep : {function : ℕ} {text : List ℕ} → HoldsBody contents function text → PassesNesting text → CodesEnd sections contents (fault.TooDeep function)

pub in_section_ok : {A : Type 0} (sections : ℕ) (r : Result A Break) (x : A) → in_section sections r ≡ Ok x → r ≡ Ok x
in_section_ok sections (Ok y) x e = ap (λ (z : _). Ok z) (ok_is DecodeFault y x e)
in_section_ok sections (Err d) x e = absurd cc

pub in_section_err : {A : Type 0} (sections : ℕ) (r : Result A Break) (e : DecodeFault) → in_section sections r ≡ Err e → e ≡ fault.Malformed sections
in_section_err sections (Ok y) e h = absurd cc
in_section_err sections (Err d) e h = sym (err_is DecodeFault _ _ h)

all_of_ok : {A : Type 0} (sections : ℕ) (p : A × List ℕ) (x : A) → all_of sections p ≡ Ok x → (p.0 ≡ x) × (p.1 ≡ [])
all_of_ok sections (y, []) x e = (ok_is DecodeFault y x e, refl)
all_of_ok sections (y, b ∷ bs) x e = absurd cc

all_of_err : {A : Type 0} (sections : ℕ) (p : A × List ℕ) (e : DecodeFault) → all_of sections p ≡ Err e → e ≡ fault.Malformed sections
all_of_err sections (y, []) e h = absurd cc
all_of_err sections (y, b ∷ bs) e h = sym (err_is DecodeFault _ _ h)

all_taken : (text mid rest word others : List ℕ) → text ≡ word ++ mid → mid ≡ others ++ rest → rest ≡ [] → text ≡ word ++ others
all_taken text mid rest word others p q r = p ∙ ap (λ l. word ++ l) (q ∙ ap (λ l. others ++ l) r ∙ append-nil others)

module _ (room : Room) (sections : ℕ) where
  pub codes_complete : (cs : List Code) (w : List ℕ) → SpellsVec SpellsCode cs w → All (Keeps room) cs → codes_at room sections w ≡ Ok cs
  unfolding codes_at
  codes_complete cs u (vec {count} {w} n p) keeps =
      let all : bodies_at room sections (length cs) 0 w ≡ Ok (cs, []) =
      ap (bodies_at room sections (length cs) 0) (sym (append-nil w)) ∙ bodies_complete room sections cs w p keeps 0 [] in
      rw (number_complete 32 (length cs) count n w, all) refl

  taken_spells : (k : ℕ) (w mid rest number : List ℕ) (cs : List Code) → SpellsUnsigned 32 k number → w ≡ number ++ mid → TakesBodies room k mid cs rest → rest ≡ [] → SpellsVec SpellsCode cs w
  taken_spells k w mid rest number cs n parts t none =
      subst (SpellsVec SpellsCode cs) (sym (all_taken w mid rest number t.word parts t.parts none)) (vec (subst (λ k. SpellsUnsigned 32 k number) (sym t.count) n) t.spelled)

  pub codes_sound : (w : List ℕ) (cs : List Code) → codes_at room sections w ≡ Ok cs → SpellsVec SpellsCode cs w × All (Keeps room) cs
  unfolding codes_at
  codes_sound w cs e =
      let k = bind_ok (in_section sections (number_at 32 w)) _ cs e in
      let b = bind_ok (bodies_at room sections k.0.0 0 k.0.1) _ cs k.2 in
      let n = number_sound 32 w k.0.0 k.0.1 (in_section_ok sections (number_at 32 w) k.0 k.1) in
      let t = bodies_sound room sections k.0.0 0 k.0.1 b.0.0 b.0.1 b.1 in
      let last = all_of_ok sections b.0 cs b.2 in
      let spelled = taken_spells k.0.0 w k.0.1 b.0.1 n.word b.0.0 n.spelled n.parts t last.1 in
      subst (λ cs. SpellsVec SpellsCode cs w × All (Keeps room) cs) last.0 (spelled, t.limits)

-- the fault of a body that isn't read
fault_is : (sections function : ℕ) (r : Read Code) (d : Break) (e told : DecodeFault) → r ≡ Err d → in_body {A = Code × List ℕ} sections function (Err d) ≡ Err told
    → in_body sections function r ≡ Err e → told ≡ e
fault_is sections function r d e told p q h = err_is DecodeFault _ _ (sym q ∙ sym (ap (in_body sections function) p) ∙ h)

place : (contents number after front rest size inner others : List ℕ) → contents ≡ number ++ after → after ≡ front ++ rest → rest ≡ size ++ (inner ++ others)
    → contents ≡ number ++ (front ++ (size ++ (inner ++ others)))
place contents number after front rest size inner others p q r = p ∙ ap (λ l. number ++ l) (q ∙ ap (λ l. front ++ l) r)

module _ (sections : ℕ) (contents : List ℕ) (k : ℕ) (number after : List ℕ) (n : SpellsUnsigned 32 k number) (parts : contents ≡ number ++ after) (e : DecodeFault) where
  module _ (b : BodiesEnd usual_room sections k 0 after e) where
    held : (Passes : List ℕ → Type 0) (s : SizedThat Passes b.rest) → HoldsBody contents (0 + length b.front) s.inner
    held Passes s = record {
      bodies = k;
      number = number;
      spelled_number = n;
      more = let h = b.more in omega arith;
      front = b.front;
      front_word = b.front_word;
      spelled_front = b.spelled_front;
      front_length = omega arith;
      limits = b.limits;
      size = s.size;
      spelled_size = s.spelled_size;
      others = s.rest;
      parts = place contents number after b.front_word b.rest s.size s.inner s.rest parts b.parts s.parts;
    }

    -- the contents end in a body that isn't read
    body_ends : (d : Break) → code_at usual_room b.rest ≡ Err d → BodyEnds d b.rest → CodesEnd sections contents e
    body_ends d h broken = subst (CodesEnd sections contents) (fault_is sections _ (code_at usual_room b.rest) Broken e _ h refl b.ends) malformed
    body_ends d h (locals s) = subst (CodesEnd sections contents) (fault_is sections _ (code_at usual_room b.rest) TooManyLocals e _ h refl b.ends) (many_locals (held PassesLocals s) s.passes)
    body_ends d h (nesting s) = subst (CodesEnd sections contents) (fault_is sections _ (code_at usual_room b.rest) TooDeep e _ h refl b.ends) (deep (held PassesNesting s) s.passes)

    bodies_stop : (r : Read Code) → code_at usual_room b.rest ≡ r → in_body sections (0 + length b.front) r ≡ Err e → CodesEnd sections contents e
    bodies_stop (Ok x) h q = absurd cc
    bodies_stop (Err d) h q = body_ends d h (code_ends b.rest d h)

pub codes_end : (sections : ℕ) (contents : List ℕ) (e : DecodeFault) → codes_at usual_room sections contents ≡ Err e → CodesEnd sections contents e
unfolding codes_at
codes_end sections contents e h = elim (bind_err (in_section sections (number_at 32 contents)) _ e h) [
  | inl p ↦ subst (CodesEnd sections contents) (sym (in_section_err sections (number_at 32 contents) e p)) malformed
  | inr k ↦
      let n = number_sound 32 contents k.0.0 k.0.1 (in_section_ok sections (number_at 32 contents) k.0 k.1) in
      elim (bind_err (bodies_at usual_room sections k.0.0 0 k.0.1) _ e k.2) [
        | inl p ↦
            let b = bodies_end usual_room sections k.0.0 0 k.0.1 e p in
            bodies_stop sections contents k.0.0 n.word k.0.1 n.spelled n.parts e b (code_at usual_room b.rest) refl b.ends
        | inr b ↦ subst (CodesEnd sections contents) (sym (all_of_err sections b.0 e b.2)) malformed
      ]
]

module _ (sections : ℕ) (contents : List ℕ) (function : ℕ) (text : List ℕ) (b : HoldsBody contents function text) where
  -- the body of this text isn't read
  held_not_read : (d : Break) (e : DecodeFault) → code_at usual_room (b.size ++ (text ++ b.others)) ≡ Err d → in_body {A = Code × List ℕ} sections function (Err d) ≡ Err e
      → codes_at usual_room sections contents ≡ Err e
  unfolding codes_at
  held_not_read d e h q =
      let after : List ℕ = b.size ++ (text ++ b.others) in
      let same : function ≡ 0 + length b.front = let l = b.front_length in omega arith in
      let stop : bodies_at usual_room sections b.bodies 0 (b.front_word ++ after) ≡ Err e =
      bodies_not_read usual_room sections b.front b.front_word b.spelled_front b.limits b.bodies 0 function (let l = b.front_length in let m = b.more in omega arith) same after e (ap (in_body sections function) h ∙ q) in
      rw (b.parts, number_complete 32 b.bodies b.number b.spelled_number (b.front_word ++ after), stop) refl

  pub codes_passed : PassesLocals text → codes_at usual_room sections contents ≡ Err (fault.TooManyLocals function)
  codes_passed p = held_not_read TooManyLocals _ (code_passed b.size text b.others b.spelled_size p) refl

  pub codes_deep : PassesNesting text → codes_at usual_room sections contents ≡ Err (fault.TooDeep function)
  codes_deep p = held_not_read TooDeep _ (code_deep b.size text b.others b.spelled_size p) refl
