-- Things one after the other, and with their number before them, are read as they are spelled.
use Rattle.std.proofs.Common.{◌≡◌, ℕ, zero, suc, List, [], ◌∷◌, ◌++◌, length, Ok, refl, sym, ap, ◌∙◌, append_assoc}
use Rattle.spec_binary.specs.Sequence.{SpellsEach, none, next, SpellsVec, vec}
use Rattle.spec_binary.specs.Parts.{SpellsByte, byte}
use Rattle.spec_reading.specs.Steps.{Break, Read}
use Rattle.spec_reading.specs.Values.{number_at, cut_at, items_at, vec_at}
use Rattle.spec_reading.proofs.Steps.{bind_ok, ok_is, Plainly, plain_ok, plain_bind, Takes, IsComplete, IsSound, given, IsPlain, plain_is, is_plain}
use Rattle.spec_reading.proofs.Values.{number_complete, number_sound, number_plain, cut_again, cut_sound}

module _ {A : Type 0} (Spells : A → List ℕ → Type 0) (read : List ℕ → Read A) (complete : IsComplete Spells read) where
  pub items_again : (xs : List A) (w : List ℕ) → SpellsEach Spells xs w → (rest : List ℕ) → items_at read (length xs) (w ++ rest) ≡ Ok (xs, rest)
  unfolding items_at
  items_again xs w none rest = refl
  items_again xs u (next {x} {xs = ys} {w} {v} p q) rest = rw (append_assoc w v rest, complete x w p (v ++ rest), items_again ys v q rest) refl

  pub vec_complete : IsComplete (SpellsVec Spells) (vec_at read)
  unfolding vec_at
  vec_complete xs u (vec {xs = ys} {count} {w} n p) rest = rw (append_assoc count w rest, number_complete 32 (length ys) count n (w ++ rest)) (items_again ys w p rest)

module _ {A : Type 0} (Spells : A → List ℕ → Type 0) (read : List ℕ → Read A) (sound : IsSound Spells read) where
  pub items_sound : (k : ℕ) (text : List ℕ) (xs : List A) (rest : List ℕ) → items_at read k text ≡ Ok (xs, rest) → Takes (SpellsEach Spells) text xs rest × (length xs ≡ k)
  unfolding items_at
  items_sound zero text xs rest e =
      (given (SpellsEach Spells) text [] xs text rest e (record { word = []; spelled = none; parts = refl }), sym (ap (λ (p : List A × List ℕ). length p.0) (ok_is Break _ _ e)))
  items_sound (suc k) text xs rest e =
      let a = bind_ok (read text) _ (xs, rest) e in
      let b = bind_ok (items_at read k a.0.1) _ (xs, rest) a.2 in
      let x = sound text a.0.0 a.0.1 a.1 in
      let y = items_sound k a.0.1 b.0.0 b.0.1 b.1 in (
        given (SpellsEach Spells) text (a.0.0 ∷ b.0.0) xs b.0.1 rest b.2
            (record { word = x.word ++ y.0.word; spelled = next x.spelled y.0.spelled; parts = x.parts ∙ ap (λ l. x.word ++ l) y.0.parts ∙ sym (append_assoc x.word y.0.word b.0.1) }),
        sym (ap (λ (p : List A × List ℕ). length p.0) (ok_is Break _ _ b.2)) ∙ ap suc y.1,
      )

  pub vec_sound : IsSound (SpellsVec Spells) (vec_at read)
  unfolding vec_at
  vec_sound text xs rest e =
      let n = bind_ok (number_at 32 text) _ (xs, rest) e in
      let c = number_sound 32 text n.0.0 n.0.1 n.1 in
      let y = items_sound n.0.0 n.0.1 xs rest n.2 in
      record { word = c.word ++ y.0.word; spelled = vec (rw y.1 c.spelled) y.0.spelled; parts = c.parts ∙ ap (λ l. c.word ++ l) y.0.parts ∙ sym (append_assoc c.word y.0.word rest) }

module _ {A : Type 0} (read : List ℕ → Read A) (plain : IsPlain read) where
  items_breaks : (k : ℕ) (text : List ℕ) → Plainly (items_at read k text)
  unfolding items_at
  items_breaks zero text = plain_ok _
  items_breaks (suc k) text = plain_bind (read text) _ (is_plain read plain text) (λ x. plain_bind (items_at read k x.1) _ (items_breaks k x.1) (λ xs. plain_ok _))

  vec_breaks : (text : List ℕ) → Plainly (vec_at read text)
  unfolding vec_at
  vec_breaks text = plain_bind (number_at 32 text) _ (is_plain (number_at 32) (number_plain 32) text) (λ n. items_breaks n.0 n.1)

  pub vec_plain : IsPlain (vec_at read)
  vec_plain = plain_is (vec_at read) vec_breaks

-- bytes stand for themselves

bytes_are : {bytes w : List ℕ} → SpellsEach SpellsByte bytes w → w ≡ bytes
bytes_are none = refl
bytes_are (next {x = b} byte q) = ap (λ l. b ∷ l) (bytes_are q)

each_byte : (bytes : List ℕ) → SpellsEach SpellsByte bytes bytes
each_byte [] = none
each_byte (b ∷ bs) = next byte (each_byte bs)

bytes_again : {bytes w : List ℕ} → SpellsVec SpellsByte bytes w → (rest : List ℕ) → cut_at (w ++ rest) ≡ Ok (bytes, rest)
bytes_again (vec {xs} {count} {w} n p) rest = rw (append_assoc count w rest, bytes_are p) (cut_again count xs rest n)

pub bytes_complete : IsComplete (SpellsVec SpellsByte) cut_at
bytes_complete bytes w s rest = bytes_again s rest

pub bytes_sound : IsSound (SpellsVec SpellsByte) cut_at
bytes_sound text bytes rest e =
    let cuts = cut_sound text bytes rest e in
    record { word = cuts.size ++ bytes; spelled = vec cuts.count (each_byte bytes); parts = cuts.parts ∙ sym (append_assoc cuts.size bytes rest) }
