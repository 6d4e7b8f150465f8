-- Numbers, bytes and names are read as they are spelled.
use Rattle.std.proofs.Common.{◌≡◌, ℕ, ℤ, pos, zero, suc, ◌+◌, ◌-◌, ◌*◌, ◌^◌, ◌+ℤ◌, ◌-ℤ◌, ◌*ℤ◌, ◌≤◌, false, eqb, ltb, List, [], ◌∷◌, ◌++◌, length, take, drop, Ok, refl, sym, ap, subst, ◌∙◌, append_assoc, arith, inl, inr, length-append}
use Rattle.std.specs.Str.{is_utf8}
use Rattle.std.proofs.lemmas.Str.{IsUtf8-from_is_utf8, is_utf8-from_IsUtf8}
use Rattle.std.proofs.lemmas.List.{take_at, drop_at, take-append-drop, length-take-le}
use Rattle.std.proofs.lemmas.Bool.{ltb-false, le-ltb, lt-ltb, ltb-true, eqb-true, eq-eqb}
use Rattle.spec_binary.specs.Number.{SpellsUnsigned, SpellsSigned, last, last_below, more}
use Rattle.spec_binary.specs.Name.{SpellsName, name}
use Rattle.spec_binary.specs.Instructions.{SpellsBits}
use Rattle.spec_binary.specs.Instructions as bits
use Rattle.spec_reading.specs.Steps.{Break}
use Rattle.spec_reading.specs.Values.{number_at, signed_at, bits_at, byte_at, cut_at, name_at}
use Rattle.spec_reading.proofs.Steps.{bind_ok, chosen, chosen_first, chosen_second, ok_is, Plainly, plain_ok, plain_broken, plain_choice, plain_bind, IsComplete, IsSound, given, IsPlain, plain_is, is_plain}

-- unsigned numbers

pub number_again : {n v : ℕ} {w : List ℕ} → SpellsUnsigned n v w → (rest : List ℕ) → number_at n (w ++ rest) ≡ Ok (v, rest)
unfolding number_at
number_again (last {n} {b} h k) rest = rw (lt-ltb b 128 h, lt-ltb b (2 ^ n) k) refl
number_again (more {n} {b} {v} {high} {w} h l k e r) rest = rw (le-ltb b 128 h, lt-ltb b 256 l, lt-ltb 7 n k, number_again r rest, sym e) refl

pub number_complete : (n : ℕ) → IsComplete (SpellsUnsigned n) (number_at n)
number_complete n v w s rest = number_again s rest

pub number_sound : (n : ℕ) → IsSound (SpellsUnsigned n) (number_at n)
unfolding number_at
number_sound n [] v rest e = absurd cc
number_sound n (b ∷ bs) v rest e = elim (chosen (ltb b 128) _ _ _ e) [
  | inl p ↦
      let q = chosen_first (ltb b (2 ^ n)) _ _ _ p.1 in
      given (SpellsUnsigned n) (b ∷ bs) b v bs rest q.1 (record { word = b ∷ []; spelled = last (ltb-true _ _ p.0) (ltb-true _ _ q.0); parts = refl })
  | inr p ↦
      let l = chosen_first (ltb b 256) _ _ _ p.1 in
      let q = chosen_first (ltb 7 n) _ _ _ l.1 in
      let r = bind_ok (number_at (n - 7) bs) _ (v, rest) q.1 in
      let t = number_sound (n - 7) bs r.0.0 r.0.1 r.1 in
      given (SpellsUnsigned n) (b ∷ bs) (128 * r.0.0 + (b - 128)) v r.0.1 rest r.2
      (record { word = b ∷ t.word; spelled = more (ltb-false _ _ p.0) (ltb-true _ _ l.0) (ltb-true _ _ q.0) refl t.spelled; parts = ap (λ l. b ∷ l) t.parts })
]

number_breaks : (n : ℕ) (text : List ℕ) → Plainly (number_at n text)
unfolding number_at
number_breaks n [] = plain_broken
number_breaks n (b ∷ bs) =
    plain_choice (ltb b 128) _ _ (plain_choice (ltb b (2 ^ n)) _ _ (plain_ok _) plain_broken)
    (plain_choice (ltb b 256) _ _ (plain_choice (ltb 7 n) _ _ (plain_bind (number_at (n - 7) bs) _ (number_breaks (n - 7) bs) (λ high. plain_ok _)) plain_broken) plain_broken)

pub number_plain : (n : ℕ) → IsPlain (number_at n)
number_plain n = plain_is (number_at n) (number_breaks n)

-- signed numbers

pub signed_again : {n : ℕ} {v : ℤ} {w : List ℕ} → SpellsSigned n v w → (rest : List ℕ) → signed_at n (w ++ rest) ≡ Ok (v, rest)
unfolding signed_at
signed_again (last {n} {b} h k) rest = rw (lt-ltb b 64 h, lt-ltb b (2 ^ (n - 1)) k) refl
signed_again (last_below {n} {b} h l k) rest = rw (le-ltb b 64 h, lt-ltb b 128 l, le-ltb (b + 2 ^ (n - 1)) 128 k) refl
signed_again (more {n} {b} {v} {high} {w} h l k e r) rest =
    let large : 64 ≤ b = omega arith in
    rw (le-ltb b 64 large, le-ltb b 128 h, lt-ltb b 256 l, lt-ltb 7 n k, signed_again r rest, sym e) refl

pub signed_complete : (n : ℕ) → IsComplete (SpellsSigned n) (signed_at n)
signed_complete n v w s rest = signed_again s rest

pub signed_sound : (n : ℕ) → IsSound (SpellsSigned n) (signed_at n)
unfolding signed_at
signed_sound n [] v rest e = absurd cc
signed_sound n (b ∷ bs) v rest e = elim (chosen (ltb b 64) _ _ _ e) [
  | inl p ↦
      let q = chosen_first (ltb b (2 ^ (n - 1))) _ _ _ p.1 in
      given (SpellsSigned n) (b ∷ bs) (pos b) v bs rest q.1 (record { word = b ∷ []; spelled = last (ltb-true _ _ p.0) (ltb-true _ _ q.0); parts = refl })
  | inr p ↦ elim (chosen (ltb b 128) _ _ _ p.1) [
    | inl l ↦
        let q = chosen_second (ltb (b + 2 ^ (n - 1)) 128) _ _ _ l.1 in
        given (SpellsSigned n) (b ∷ bs) (pos b -ℤ pos 128) v bs rest q.1
        (record { word = b ∷ []; spelled = last_below (ltb-false _ _ p.0) (ltb-true _ _ l.0) (ltb-false _ _ q.0); parts = refl })
    | inr l ↦
        let m = chosen_first (ltb b 256) _ _ _ l.1 in
        let q = chosen_first (ltb 7 n) _ _ _ m.1 in
        let r = bind_ok (signed_at (n - 7) bs) _ (v, rest) q.1 in
        let t = signed_sound (n - 7) bs r.0.0 r.0.1 r.1 in
        given (SpellsSigned n) (b ∷ bs) (pos 128 *ℤ r.0.0 +ℤ pos (b - 128)) v r.0.1 rest r.2
        (record { word = b ∷ t.word; spelled = more (ltb-false _ _ l.0) (ltb-true _ _ m.0) (ltb-true _ _ q.0) refl t.spelled; parts = ap (λ l. b ∷ l) t.parts })
  ]
]

signed_breaks : (n : ℕ) (text : List ℕ) → Plainly (signed_at n text)
unfolding signed_at
signed_breaks n [] = plain_broken
signed_breaks n (b ∷ bs) =
    plain_choice (ltb b 64) _ _ (plain_choice (ltb b (2 ^ (n - 1))) _ _ (plain_ok _) plain_broken)
    (plain_choice (ltb b 128) _ _ (plain_choice (ltb (b + 2 ^ (n - 1)) 128) _ _ plain_broken (plain_ok _))
    (plain_choice (ltb b 256) _ _ (plain_choice (ltb 7 n) _ _ (plain_bind (signed_at (n - 7) bs) _ (signed_breaks (n - 7) bs) (λ high. plain_ok _)) plain_broken) plain_broken))

pub signed_plain : (n : ℕ) → IsPlain (signed_at n)
signed_plain n = plain_is (signed_at n) (signed_breaks n)

-- the bits of a number

bits_again : {n v : ℕ} {w : List ℕ} → SpellsBits n v w → (rest : List ℕ) → bits_at n (w ++ rest) ≡ Ok (v, rest)
unfolding bits_at
bits_again bits.none rest = refl
bits_again (bits.next {n} {b} {v} {high} {w} h e s) rest = rw (lt-ltb b 256 h, bits_again s rest, sym e) refl

pub bits_complete : (n : ℕ) → IsComplete (SpellsBits n) (bits_at n)
bits_complete n v w s rest = bits_again s rest

pub bits_sound : (n : ℕ) → IsSound (SpellsBits n) (bits_at n)
unfolding bits_at
bits_sound zero text v rest e = given (SpellsBits zero) text 0 v text rest e (record { word = []; spelled = bits.none; parts = refl })
bits_sound (suc n) [] v rest e = absurd cc
bits_sound (suc n) (b ∷ bs) v rest e =
    let q = chosen_first (ltb b 256) _ _ _ e in
    let r = bind_ok (bits_at n bs) _ (v, rest) q.1 in
    let t = bits_sound n bs r.0.0 r.0.1 r.1 in
    given (SpellsBits (suc n)) (b ∷ bs) (b + 256 * r.0.0) v r.0.1 rest r.2
    (record { word = b ∷ t.word; spelled = bits.next (ltb-true _ _ q.0) refl t.spelled; parts = ap (λ l. b ∷ l) t.parts })

bits_breaks : (n : ℕ) (text : List ℕ) → Plainly (bits_at n text)
unfolding bits_at
bits_breaks zero text = plain_ok _
bits_breaks (suc n) [] = plain_broken
bits_breaks (suc n) (b ∷ bs) = plain_choice (ltb b 256) _ _ (plain_bind (bits_at n bs) _ (bits_breaks n bs) (λ high. plain_ok _)) plain_broken

pub bits_plain : (n : ℕ) → IsPlain (bits_at n)
bits_plain n = plain_is (bits_at n) (bits_breaks n)

-- one byte that is known

pub byte_again : (b : ℕ) (rest : List ℕ) → byte_at b (b ∷ rest) ≡ Ok (tt, rest)
unfolding byte_at
byte_again b rest = rw (eq-eqb b b refl) refl

pub byte_sound : (wanted : ℕ) (text : List ℕ) (u : Unit {0}) (rest : List ℕ) → byte_at wanted text ≡ Ok (u, rest) → text ≡ wanted ∷ rest
unfolding byte_at
byte_sound wanted [] u rest e = absurd cc
byte_sound wanted (b ∷ bs) u rest e =
    let q = chosen_first (eqb b wanted) _ _ _ e in
    ap (λ b. b ∷ bs) (eqb-true _ _ q.0) ∙ ap (λ (p : Unit {0} × List ℕ). wanted ∷ p.1) (ok_is Break _ _ q.1)

byte_breaks : (wanted : ℕ) (text : List ℕ) → Plainly (byte_at wanted text)
unfolding byte_at
byte_breaks wanted [] = plain_broken
byte_breaks wanted (b ∷ bs) = plain_choice (eqb b wanted) _ _ (plain_ok _) plain_broken

pub byte_plain : (wanted : ℕ) → IsPlain (byte_at wanted)
byte_plain wanted = plain_is (byte_at wanted) (byte_breaks wanted)

-- the word is this byte
abbrev pub IsByte : ℕ → Unit {0} → List ℕ → Type 0
IsByte b u w = w ≡ b ∷ []

pub byte_complete : (b : ℕ) → IsComplete (IsByte b) (byte_at b)
byte_complete b u w e rest = rw e (byte_again b rest)

pub byte_taken : (b : ℕ) → IsSound (IsByte b) (byte_at b)
byte_taken b text u rest e = record { word = b ∷ []; spelled = refl; parts = byte_sound b text u rest e }

-- the number of the contents' bytes, the contents, and what follows them
pub record Cuts (text contents rest : List ℕ) : Type 0 where
  pub size : List ℕ
  pub count : SpellsUnsigned 32 (length contents) size
  pub parts : text ≡ size ++ (contents ++ rest)

pub cut_again : (size contents rest : List ℕ) → SpellsUnsigned 32 (length contents) size → cut_at (size ++ (contents ++ rest)) ≡ Ok (contents, rest)
unfolding cut_at
cut_again size contents rest n =
    let long : ltb (length (contents ++ rest)) (length contents) ≡ false = le-ltb _ _ (omega (arith, length-append contents rest)) in
    rw (number_again n (contents ++ rest), long, take_at contents rest (length contents) refl, drop_at contents rest (length contents) refl) refl

pub cut_sound : (text contents rest : List ℕ) → cut_at text ≡ Ok (contents, rest) → Cuts text contents rest
unfolding cut_at
cut_sound text contents rest e =
    let n = bind_ok (number_at 32 text) _ (contents, rest) e in
    let l = chosen_second (ltb (length n.0.1) n.0.0) _ _ _ n.2 in
    let t = number_sound 32 text n.0.0 n.0.1 n.1 in
    let size : length (take n.0.0 n.0.1) ≡ n.0.0 = length-take-le n.0.0 n.0.1 (ltb-false _ _ l.0) in
    subst (λ (p : List ℕ × List ℕ). Cuts text p.0 p.1) (ok_is Break (take n.0.0 n.0.1, drop n.0.0 n.0.1) (contents, rest) l.1)
    (record { size = t.word; count = rw size t.spelled; parts = t.parts ∙ ap (λ l. t.word ++ l) (sym (take-append-drop n.0.0 n.0.1)) })

cut_breaks : (text : List ℕ) → Plainly (cut_at text)
unfolding cut_at
cut_breaks text = plain_bind (number_at 32 text) _ (is_plain (number_at 32) (number_plain 32) text) (λ n. plain_choice (ltb (length n.1) n.0) _ _ plain_broken (plain_ok _))

pub cut_plain : IsPlain cut_at
cut_plain = plain_is cut_at cut_breaks

-- names

name_again : {text w : List ℕ} → SpellsName text w → (rest : List ℕ) → name_at (w ++ rest) ≡ Ok (text, rest)
unfolding name_at
name_again (name {text} {count} n u) rest = rw (append_assoc count text rest, cut_again count text rest n, is_utf8-from_IsUtf8 text u) refl

pub name_complete : IsComplete SpellsName name_at
name_complete text w s rest = name_again s rest

pub name_sound : IsSound SpellsName name_at
unfolding name_at
name_sound text x rest e =
    let c = bind_ok (cut_at text) _ (x, rest) e in
    let u = chosen_first (is_utf8 c.0.0) _ _ _ c.2 in
    let cuts = cut_sound text c.0.0 c.0.1 c.1 in
    given SpellsName text c.0.0 x c.0.1 rest u.1
    (record { word = cuts.size ++ c.0.0; spelled = name cuts.count (IsUtf8-from_is_utf8 _ u.0); parts = cuts.parts ∙ sym (append_assoc cuts.size c.0.0 c.0.1) })
