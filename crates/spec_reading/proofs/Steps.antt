-- Steps of a reading, and the laws of one: what is spelled so is read, what is read is spelled so, and it breaks as the format does.
use Rattle.std.proofs.Common.{◌≡◌, ℕ, Bool, true, false, cond, List, [], ◌∷◌, ◌++◌, Result, Ok, Err, refl, sym, ap, subst, ◌∙◌, append_assoc, inl, inr}
use Rattle.std.specs.Prelude.{◌⊎◌}
use Rattle.std.proofs.lemmas.List.{append-nil}
use Rattle.spec_reading.specs.Steps.{Break, Broken, ◌>>=◌, Read, whole}

-- the value of a step that read something
pub bind_ok : {A B F : Type 0} (r : Result A F) (f : A → Result B F) (y : B) → (r >>= f) ≡ Ok y → (x : A) × (r ≡ Ok x) × (f x ≡ Ok y)
bind_ok (Ok x) f y e = (x, refl, e)
bind_ok (Err d) f y e = absurd cc

-- a step that failed, or one after it
pub bind_err : {A B F : Type 0} (r : Result A F) (f : A → Result B F) (e : F) → (r >>= f) ≡ Err e → (r ≡ Err e) ⊎ ((x : A) × (r ≡ Ok x) × (f x ≡ Err e))
bind_err (Ok x) f e h = inr (x, refl, h)
bind_err (Err d) f e h = inl cc

-- which way a test went
pub chosen : {A : Type 0} (b : Bool) (x y z : A) → cond b x y ≡ z → ((b ≡ true) × (x ≡ z)) ⊎ ((b ≡ false) × (y ≡ z))
chosen true x y z e = inl (refl, e)
chosen false x y z e = inr (refl, e)

-- a test that went the way where something is read
pub chosen_first : {A F : Type 0} (b : Bool) (x : Result A F) (d : F) (z : A) → cond b x (Err d) ≡ Ok z → (b ≡ true) × (x ≡ Ok z)
chosen_first true x d z e = (refl, e)
chosen_first false x d z e = absurd cc

pub chosen_second : {A F : Type 0} (b : Bool) (x : Result A F) (d : F) (z : A) → cond b (Err d) x ≡ Ok z → (b ≡ false) × (x ≡ Ok z)
chosen_second true x d z e = absurd cc
chosen_second false x d z e = (refl, e)

module _ (F : Type 0) where
  abbrev fine : {A : Type 0} → A → Result A F
  fine x = Ok x

  pub ok_is : {A : Type 0} (x y : A) → fine x ≡ fine y → x ≡ y
  ok_is x y e = cc

  abbrev failed : (A : Type 0) → F → Result A F
  failed A e = Err e

  pub err_is : {A : Type 0} (d e : F) → failed A d ≡ failed A e → d ≡ e
  err_is d e h = cc

-- it breaks, and passes no limit
pub record Plainly {A : Type 0} (r : Result A Break) : Type 0 where
  pub broken : (e : Break) → r ≡ Err e → e ≡ Broken

module _ {A : Type 0} where
  pub plain_ok : (x : A) → Plainly (Ok x)
  plain_ok x = record { broken = λ e h. absurd cc }

  pub plain_broken : Plainly {A = A} (Err Broken)
  plain_broken = record { broken = λ e h. cc }

  pub plain_choice : (b : Bool) (x y : Result A Break) → Plainly x → Plainly y → Plainly (cond b x y)
  plain_choice true x y p q = p
  plain_choice false x y p q = q

  pub plain_bind : {B : Type 0} (r : Result A Break) (f : A → Result B Break) → Plainly r → ((x : A) → Plainly (f x)) → Plainly (r >>= f)
  plain_bind (Ok x) f p q = q x
  plain_bind (Err e) f p q = record { broken = λ d h. p.broken d cc }

-- a word at the front of the text spells x, and the rest follows it
pub record Takes {A : Type 0} (Spells : A → List ℕ → Type 0) (text : List ℕ) (x : A) (rest : List ℕ) : Type 0 where
  pub word : List ℕ
  pub spelled : Spells x word
  pub parts : text ≡ word ++ rest

module _ {A : Type 0} (Spells : A → List ℕ → Type 0) where
  -- what is spelled so is read
  abbrev pub IsComplete : (List ℕ → Read A) → Type 0
  IsComplete read = (x : A) (w : List ℕ) → Spells x w → (rest : List ℕ) → read (w ++ rest) ≡ Ok (x, rest)

  -- what is read is spelled so
  abbrev pub IsSound : (List ℕ → Read A) → Type 0
  IsSound read = (text : List ℕ) (x : A) (rest : List ℕ) → read text ≡ Ok (x, rest) → Takes Spells text x rest

  -- what is spelled so is read, and nothing follows it
  abbrev pub IsWholeComplete : (List ℕ → Read A) → Type 0
  IsWholeComplete read = (x : A) (w : List ℕ) → Spells x w → whole (read w) ≡ Ok x

  abbrev pub IsWholeSound : (List ℕ → Read A) → Type 0
  IsWholeSound read = (w : List ℕ) (x : A) → whole (read w) ≡ Ok x → Spells x w

  -- what a reading gave, moved along the equation of its answer
  pub given : (text : List ℕ) (x y : A) (u v : List ℕ) → ◌≡◌ {A = Read A} (Ok (x, u)) (Ok (y, v)) → Takes Spells text x u → Takes Spells text y v
  given text x y u v e t = subst (λ (p : A × List ℕ). Takes Spells text p.0 p.1) (ok_is Break (x, u) (y, v) e) t

module _ {A : Type 0} where
  -- where this reading breaks, it passes no limit
  abbrev pub IsPlain : (List ℕ → Read A) → Type 0
  IsPlain read = (text : List ℕ) (e : Break) → read text ≡ Err e → e ≡ Broken

  pub plain_is : (read : List ℕ → Read A) → ((text : List ℕ) → Plainly (read text)) → IsPlain read
  plain_is read p text e h = (p text).broken e h

  pub is_plain : (read : List ℕ → Read A) → IsPlain read → (text : List ℕ) → Plainly (read text)
  is_plain read p text = record { broken = p text }

  pub whole_parts : (q : Read A) (x : A) → whole q ≡ Ok x → q ≡ Ok (x, [])
  whole_parts (Ok (y, [])) x e = ap (λ (z : A). Ok (z, [])) (ok_is Break y x e)
  whole_parts (Ok (y, b ∷ bs)) x e = absurd cc
  whole_parts (Err d) x e = absurd cc

  -- a whole that isn't read broke, or something follows it
  pub whole_err : (q : Read A) (e : Break) → whole q ≡ Err e → (q ≡ Err e) ⊎ (e ≡ Broken)
  whole_err (Ok (y, [])) e h = absurd cc
  whole_err (Ok (y, b ∷ bs)) e h = inr cc
  whole_err (Err d) e h = inl cc

module _ {A : Type 0} (Spells : A → List ℕ → Type 0) (read : List ℕ → Read A) where
  pub whole_complete : IsComplete Spells read → IsWholeComplete Spells read
  whole_complete complete x w p = ap whole (ap read (sym (append-nil w)) ∙ complete x w p [])

  pub whole_sound : IsSound Spells read → IsWholeSound Spells read
  whole_sound sound w x e =
      let t = sound w x [] (whole_parts (read w) x e) in
      subst (Spells x) (sym (t.parts ∙ append-nil t.word)) t.spelled

abbrev pub got : {A : Type 0} → A → List ℕ → Read A
got x rest = Ok (x, rest)

-- what one reading gave
pub record One {A C : Type 0} (Spells : A → List ℕ → Type 0) (make : A → C) (text : List ℕ) (z : C) (rest : List ℕ) : Type 0 where
  pub first : A
  pub word : List ℕ
  pub spelled : Spells first word
  pub parts : text ≡ word ++ rest
  pub is : make first ≡ z

-- what two readings gave, one after the other
pub record Two {A B C : Type 0} (Spells : A → List ℕ → Type 0) (After : B → List ℕ → Type 0) (make : A → B → C) (text : List ℕ) (z : C) (rest : List ℕ) : Type 0 where
  pub first : A
  pub second : B
  pub word : List ℕ
  pub end : List ℕ
  pub spelled : Spells first word
  pub after : After second end
  pub parts : text ≡ (word ++ end) ++ rest
  pub is : make first second ≡ z

module _ {A C : Type 0} (Spells : A → List ℕ → Type 0) (read : List ℕ → Read A) (sound : IsSound Spells read) (make : A → C) where
  pub one_sound : (text : List ℕ) (z : C) (rest : List ℕ) → (read text >>= λ x. got (make x.0) x.1) ≡ Ok (z, rest) → One Spells make text z rest
  one_sound text z rest e =
      let a = bind_ok (read text) _ (z, rest) e in
      let same = ok_is Break (make a.0.0, a.0.1) (z, rest) a.2 in
      let t = sound text a.0.0 a.0.1 a.1 in
      record { first = a.0.0; word = t.word; spelled = t.spelled; parts = t.parts ∙ ap (λ (p : C × List ℕ). t.word ++ p.1) same; is = ap (λ (p : C × List ℕ). p.0) same }

module _ {A C : Type 0} (Spells : A → List ℕ → Type 0) (read : List ℕ → Read A) (complete : IsComplete Spells read) (make : A → C) where
  pub one_complete : (x : A) (w : List ℕ) → Spells x w → (rest : List ℕ) → (read (w ++ rest) >>= λ x. got (make x.0) x.1) ≡ Ok (make x, rest)
  one_complete x w p rest = rw (complete x w p rest) refl

module _ {A B C : Type 0} (Spells : A → List ℕ → Type 0) (After : B → List ℕ → Type 0) (read : List ℕ → Read A) (next : List ℕ → Read B) where
  module _ (sound : IsSound Spells read) (sound_next : IsSound After next) (make : A → B → C) where
    pub two_sound : (text : List ℕ) (z : C) (rest : List ℕ) → (read text >>= λ x. next x.1 >>= λ y. got (make x.0 y.0) y.1) ≡ Ok (z, rest) → Two Spells After make text z rest
    two_sound text z rest e =
        let a = bind_ok (read text) _ (z, rest) e in
        let b = bind_ok (next a.0.1) _ (z, rest) a.2 in
        let same = ok_is Break (make a.0.0 b.0.0, b.0.1) (z, rest) b.2 in
        let t = sound text a.0.0 a.0.1 a.1 in
        let u = sound_next a.0.1 b.0.0 b.0.1 b.1 in
        record {
          first = a.0.0;
          second = b.0.0;
          word = t.word;
          end = u.word;
          spelled = t.spelled;
          after = u.spelled;
          parts = t.parts ∙ ap (λ l. t.word ++ l) u.parts ∙ sym (append_assoc t.word u.word b.0.1) ∙ ap (λ (p : C × List ℕ). (t.word ++ u.word) ++ p.1) same;
          is = ap (λ (p : C × List ℕ). p.0) same;
        }

  module _ (complete : IsComplete Spells read) (complete_next : IsComplete After next) (make : A → B → C) where
    pub two_complete : (x : A) (y : B) (w v : List ℕ) → Spells x w → After y v → (rest : List ℕ) → (read ((w ++ v) ++ rest) >>= λ x. next x.1 >>= λ y. got (make x.0 y.0) y.1) ≡ Ok (make x y, rest)
    two_complete x y w v p q rest = rw (append_assoc w v rest, complete x w p (v ++ rest), complete_next y v q rest) refl

module _ {A C : Type 0} (read : List ℕ → Read A) (plain : IsPlain read) where
  pub one_plain : (make : A → C) (text : List ℕ) → Plainly (read text >>= λ x. got (make x.0) x.1)
  one_plain make text = plain_bind (read text) _ (is_plain read plain text) (λ x. plain_ok (make x.0, x.1))

module _ {A B C : Type 0} (read : List ℕ → Read A) (plain : IsPlain read) (next : List ℕ → Read B) (plain_next : IsPlain next) where
  pub two_plain : (make : A → B → C) (text : List ℕ) → Plainly (read text >>= λ x. next x.1 >>= λ y. got (make x.0 y.0) y.1)
  two_plain make text = plain_bind (read text) _ (is_plain read plain text) (λ x. one_plain next plain_next (make x.0) x.1)
