-- Bodies one after the other are read as they are spelled.
use Rattle.std.proofs.Common.{◌≡◌, ℕ, zero, suc, ◌+◌, ◌<◌, List, [], ◌∷◌, ◌++◌, length, Result, Ok, Err, refl, sym, ap, subst, ◌∙◌, append_assoc, arith, inl, inr}
use Rattle.std.specs.List.{All, AllByRecursion}
use Rattle.std.proofs.lemmas.List.Elements.{All-nil, All-cons, recursion_from_All}
use Rattle.spec_binary.specs.wasm_form.declared.module.Code.{Code}
use Rattle.spec_binary.specs.Sequence.{SpellsEach, none, next}
use Rattle.spec_binary.specs.Parts.{SpellsCode}
use Rattle.spec_binary.specs.declared.fault.DecodeFault.{DecodeFault}
use Rattle.spec_reading.specs.Steps.{Break, Broken, TooDeep, TooManyLocals}
use Rattle.spec_reading.specs.Bodies.{Room, code_at, in_body, bodies_at}
use Rattle.spec_reading.proofs.Steps.{bind_ok, bind_err, ok_is}
use Rattle.spec_reading.proofs.Bodies.{Keeps, code_complete, code_sound}

-- bodies that are spelled and have room, and then fewer than k in all
pub record BodiesEnd (room : Room) (sections k function : ℕ) (text : List ℕ) (fault : DecodeFault) : Type 0 where
  pub front : List Code
  pub front_word : List ℕ
  pub spelled_front : SpellsEach SpellsCode front front_word
  pub more : length front < k
  pub limits : All (Keeps room) front
  pub rest : List ℕ
  pub parts : text ≡ front_word ++ rest
  pub ends : in_body sections (function + length front) (code_at room rest) ≡ Err fault

-- k bodies that are spelled and have room
pub record TakesBodies (room : Room) (k : ℕ) (text : List ℕ) (cs : List Code) (rest : List ℕ) : Type 0 where
  pub word : List ℕ
  pub spelled : SpellsEach SpellsCode cs word
  pub parts : text ≡ word ++ rest
  pub count : length cs ≡ k
  pub limits : All (Keeps room) cs

-- what a body gave
in_body_ok : {A : Type 0} (sections function : ℕ) (r : Result A Break) (x : A) → in_body sections function r ≡ Ok x → r ≡ Ok x
in_body_ok sections function (Ok y) x e = ap (λ (z : _). Ok z) (ok_is DecodeFault y x e)
in_body_ok sections function (Err Broken) x e = absurd cc
in_body_ok sections function (Err TooDeep) x e = absurd cc
in_body_ok sections function (Err TooManyLocals) x e = absurd cc

module _ (room : Room) (sections : ℕ) where
  bodies_again : (cs : List Code) (w : List ℕ) → SpellsEach SpellsCode cs w → AllByRecursion (Keeps room) cs → (function : ℕ) (rest : List ℕ)
      → bodies_at room sections (length cs) function (w ++ rest) ≡ Ok (cs, rest)
  unfolding bodies_at
  bodies_again cs w none keeps function rest = refl
  bodies_again cs u (next {x} {xs} {w} {v} p q) keeps function rest =
      rw (append_assoc w v rest, code_complete room x w p keeps.0 (v ++ rest), bodies_again xs v q keeps.1 (suc function) rest) refl

  pub bodies_complete : (cs : List Code) (w : List ℕ) → SpellsEach SpellsCode cs w → All (Keeps room) cs → (function : ℕ) (rest : List ℕ)
      → bodies_at room sections (length cs) function (w ++ rest) ≡ Ok (cs, rest)
  bodies_complete cs w s keeps function rest = bodies_again cs w s (recursion_from_All (Keeps room) cs keeps) function rest

  not_read_after : (cs : List Code) (w : List ℕ) → SpellsEach SpellsCode cs w → AllByRecursion (Keeps room) cs → (k function at : ℕ) → length cs < k → at ≡ function + length cs
      → (rest : List ℕ) (e : DecodeFault) → in_body sections at (code_at room rest) ≡ Err e → bodies_at room sections k function (w ++ rest) ≡ Err e
  unfolding bodies_at
  not_read_after cs w s keeps zero function at more same rest e h = absurd (omega arith)
  not_read_after cs w none keeps (suc k) function at more same rest e h =
      let here : at ≡ function = omega arith in
      let there : in_body sections function (code_at room rest) ≡ Err e = subst (λ n. in_body sections n (code_at room rest) ≡ Err e) here h in
      rw there refl
  not_read_after cs u (next {x} {xs} {w} {v} p q) keeps (suc k) function at more same rest e h =
      rw (append_assoc w v rest, code_complete room x w p keeps.0 (v ++ rest), not_read_after xs v q keeps.1 k (suc function) at (omega arith) (omega arith) rest e h) refl

  pub bodies_not_read : (cs : List Code) (w : List ℕ) → SpellsEach SpellsCode cs w → All (Keeps room) cs → (k function at : ℕ) → length cs < k → at ≡ function + length cs
      → (rest : List ℕ) (e : DecodeFault) → in_body sections at (code_at room rest) ≡ Err e → bodies_at room sections k function (w ++ rest) ≡ Err e
  bodies_not_read cs w s keeps k function at more same rest e h = not_read_after cs w s (recursion_from_All (Keeps room) cs keeps) k function at more same rest e h

  pub bodies_sound : (k function : ℕ) (text : List ℕ) (cs : List Code) (rest : List ℕ) → bodies_at room sections k function text ≡ Ok (cs, rest) → TakesBodies room k text cs rest
  unfolding bodies_at
  bodies_sound zero function text cs rest e =
      subst (λ (p : List Code × List ℕ). TakesBodies room zero text p.0 p.1) (ok_is DecodeFault ([], text) (cs, rest) e)
      (record { word = []; spelled = none; parts = refl; count = refl; limits = All-nil (Keeps room) })
  bodies_sound (suc k) function text cs rest e =
      let a = bind_ok (in_body sections function (code_at room text)) _ (cs, rest) e in
      let b = bind_ok (bodies_at room sections k (suc function) a.0.1) _ (cs, rest) a.2 in
      let c = code_sound room text a.0.0 a.0.1 (in_body_ok sections function (code_at room text) a.0 a.1) in
      let others = bodies_sound k (suc function) a.0.1 b.0.0 b.0.1 b.1 in
      subst (λ (p : List Code × List ℕ). TakesBodies room (suc k) text p.0 p.1) (ok_is DecodeFault (a.0.0 ∷ b.0.0, b.0.1) (cs, rest) b.2)
      (record {
        word = c.0.word ++ others.word;
        spelled = next c.0.spelled others.spelled;
        parts = c.0.parts ∙ ap (λ l. c.0.word ++ l) others.parts ∙ sym (append_assoc c.0.word others.word b.0.1);
        count = ap suc others.count;
        limits = All-cons (Keeps room) a.0.0 b.0.0 c.1 others.limits;
      })

  pub bodies_end : (k function : ℕ) (text : List ℕ) (e : DecodeFault) → bodies_at room sections k function text ≡ Err e → BodiesEnd room sections k function text e
  unfolding bodies_at
  bodies_end zero function text e h = absurd cc
  bodies_end (suc k) function text e h = elim (bind_err (in_body sections function (code_at room text)) _ e h) [
    | inl p ↦
        let same : function ≡ function + 0 = omega arith in
        record {
          front = [];
          front_word = [];
          spelled_front = none;
          more = omega arith;
          limits = All-nil (Keeps room);
          rest = text;
          parts = refl;
          ends = subst (λ n. in_body sections n (code_at room text) ≡ Err e) same p;
        }
    | inr a ↦
        let c = code_sound room text a.0.0 a.0.1 (in_body_ok sections function (code_at room text) a.0 a.1) in
        elim (bind_err (bodies_at room sections k (suc function) a.0.1) _ e a.2) [
          | inl p ↦
              let others = bodies_end k (suc function) a.0.1 e p in
              let same : suc function + length others.front ≡ function + suc (length others.front) = omega arith in
              record {
                front = a.0.0 ∷ others.front;
                front_word = c.0.word ++ others.front_word;
                spelled_front = next c.0.spelled others.spelled_front;
                more = let l = others.more in omega arith;
                limits = All-cons (Keeps room) a.0.0 others.front c.1 others.limits;
                rest = others.rest;
                parts = c.0.parts ∙ ap (λ l. c.0.word ++ l) others.parts ∙ sym (append_assoc c.0.word others.front_word others.rest);
                ends = subst (λ n. in_body sections n (code_at room others.rest) ≡ Err e) same others.ends;
              }
          | inr b ↦ absurd (let l = b.2 in cc)
        ]
  ]
