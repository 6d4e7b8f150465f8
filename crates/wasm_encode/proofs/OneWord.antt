-- Kinds of words of which one alone is the shortest: numbers, names, lists, and what has a size before it.
use Rattle.std.proofs.Common.{◌≡◌, ◌⊎◌, inl, inr, ℕ, ◌<◌, ◌≤◌, List, [], ◌∷◌, ◌++◌, length, length-append, refl, sym, ap, ◌∙◌, subst, arith}
use Rattle.std.proofs.lemmas.Bool.{cases_lt}
use Rattle.spec_reading.specs.spec_binary.Number.{SpellsUnsigned, IsShortest}
use Rattle.spec_reading.specs.spec_binary.Sequence.{SpellsEach, none, next, SpellsVec, vec}
use Rattle.spec_reading.specs.spec_binary.Joined.{IsByte, Joined}
use Rattle.spec_reading.proofs.of_spec_binary.Joined.{joined, unjoined, unsigned_below}
use Rattle.spec_reading.proofs.of_spec_binary.UnsignedSpelling.{one_shortest_unsigned}

abbrev pub OneWord : (List ℕ → Type 0) → Type 0
OneWord P = (w v : List ℕ) → IsShortest P w → IsShortest P v → w ≡ v

-- one word, and no other, is of this kind
pub one_is : {P : List ℕ → Type 0} (u : List ℕ) → ((w : List ℕ) → P w → w ≡ u) → OneWord P
one_is u is w v s t = is w s.spelled ∙ sym (is v t.spelled)

pub one_byte : (b : ℕ) → OneWord (IsByte b)
one_byte b = one_is (b ∷ []) (λ w e. e)

-- the same kind by two definitions
pub one_like : {P R : List ℕ → Type 0} → ((w : List ℕ) → R w → P w) → ((w : List ℕ) → P w → R w) → OneWord P → OneWord R
one_like {P} {R} to from one w v s t = one w v (like w s) (like v t)
  where
    like : (u : List ℕ) → IsShortest R u → IsShortest P u
    like u p = record { spelled = to u p.spelled; least = λ other o. p.least other (from other o) }

-- what is of the one kind and not of the other is longer than some word
pub one_split : {P R : List ℕ → Type 0} → ((w : List ℕ) → R w → P w ⊎ ((u : List ℕ) × P u × (length u < length w))) → ((w : List ℕ) → P w → R w) → OneWord P → OneWord R
one_split {P} {R} split from one w v s t = one w v (chosen w s (split w s.spelled)) (chosen v t (split v t.spelled))
  where
    chosen : (u : List ℕ) → IsShortest R u → P u ⊎ ((x : List ℕ) × P x × (length x < length u)) → IsShortest P u
    chosen u p (inl is) = record { spelled = is; least = λ other o. p.least other (from other o) }
    chosen u p (inr shorter) = absurd (let least : length u ≤ length shorter.0 = p.least shorter.0 (from shorter.0 shorter.1) in omega (arith, shorter.2))

same_parts : (a b x y w v : List ℕ) → w ≡ a ++ x → v ≡ b ++ y → a ≡ b → x ≡ y → w ≡ v
same_parts a b x y w v e f first rest = e ∙ ap (λ z. z ++ x) first ∙ ap (λ z. b ++ z) rest ∙ sym f

-- words one after the other
pub one_joined : {P Q : List ℕ → Type 0} → OneWord P → OneWord Q → OneWord (Joined P Q)
one_joined {P} {Q} p q w v s t =
    same_parts s.spelled.before t.spelled.before s.spelled.after t.spelled.after w v s.spelled.parts t.spelled.parts
    (p s.spelled.before t.spelled.before (front w s) (front v t)) (q s.spelled.after t.spelled.after (back w s) (back v t))
  where
    front : (u : List ℕ) (j : IsShortest (Joined P Q) u) → IsShortest P j.spelled.before
    front u j = record {
      spelled = j.spelled.first;
      least = λ other o.
          let le : length u ≤ length (other ++ j.spelled.after) = j.least (other ++ j.spelled.after) (joined other j.spelled.after o j.spelled.rest) in
          omega (arith, ap length j.spelled.parts, length-append j.spelled.before j.spelled.after, length-append other j.spelled.after);
    }

    back : (u : List ℕ) (j : IsShortest (Joined P Q) u) → IsShortest Q j.spelled.after
    back u j = record {
      spelled = j.spelled.rest;
      least = λ other o.
          let le : length u ≤ length (j.spelled.before ++ other) = j.least (j.spelled.before ++ other) (joined j.spelled.before other j.spelled.first o) in
          omega (arith, ap length j.spelled.parts, length-append j.spelled.before j.spelled.after, length-append j.spelled.before other);
    }

-- lists
module _ {A : Type 0} {Spells : A → List ℕ → Type 0} where
  each_nothing : {w : List ℕ} → SpellsEach Spells [] w → w ≡ []
  each_nothing none = refl

  each_next : {x : A} {w : List ℕ} {ys : List A} → SpellsEach Spells (x ∷ ys) w → Joined (Spells x) (SpellsEach Spells ys) w
  each_next (next s rest) = joined _ _ s rest

  vec_parts : {xs : List A} {w : List ℕ} → SpellsVec Spells xs w → Joined (SpellsUnsigned 32 (length xs)) (SpellsEach Spells xs) w
  vec_parts (vec n s) = joined _ _ n s

  pub one_each : ((x : A) → OneWord (Spells x)) → (xs : List A) → OneWord (SpellsEach Spells xs)
  one_each one [] = one_is [] (λ w s. each_nothing s)
  one_each one (x ∷ xs) = one_like (λ w s. each_next s) (unjoined (SpellsEach Spells (x ∷ xs)) (λ w v s t. next s t)) (one_joined (one x) (one_each one xs))

  pub one_vec : ((x : A) → OneWord (Spells x)) → (xs : List A) → OneWord (SpellsVec Spells xs)
  one_vec one xs =
      one_like (λ w s. vec_parts s) (unjoined (SpellsVec Spells xs) (λ w v s t. vec s t)) (one_joined (one_shortest_unsigned 32 (length xs)) (one_each one xs))

-- contents behind their size
pub record Sized (P : List ℕ → Type 0) (w : List ℕ) : Type 0 where
  pub size : List ℕ
  pub contents : List ℕ
  pub number : SpellsUnsigned 32 (length contents) size
  pub holds : P contents
  pub parts : w ≡ size ++ contents

pub one_sized : {P : List ℕ → Type 0} → OneWord P → OneWord (Sized P)
one_sized {P} one w v s t =
    let same = one s.spelled.contents t.spelled.contents (inside w s) (inside v t) in
    same_parts s.spelled.size t.spelled.size s.spelled.contents t.spelled.contents w v s.spelled.parts t.spelled.parts
    (one_shortest_unsigned 32 (length s.spelled.contents) s.spelled.size t.spelled.size (number w s)
    (subst (λ c. IsShortest (SpellsUnsigned 32 (length c)) t.spelled.size) (sym same) (number v t))) same
  where
    sized : (size contents : List ℕ) → SpellsUnsigned 32 (length contents) size → P contents → Sized P (size ++ contents)
    sized size contents n p = record { size = size; contents = contents; number = n; holds = p; parts = refl }

    number : (u : List ℕ) (z : IsShortest (Sized P) u) → IsShortest (SpellsUnsigned 32 (length z.spelled.contents)) z.spelled.size
    number u z = record {
      spelled = z.spelled.number;
      least = λ other o.
          let le : length u ≤ length (other ++ z.spelled.contents) = z.least (other ++ z.spelled.contents) (sized other z.spelled.contents o z.spelled.holds) in
          omega (arith, ap length z.spelled.parts, length-append z.spelled.size z.spelled.contents, length-append other z.spelled.contents);
    }

    not_shorter : (u : List ℕ) (z : IsShortest (Sized P) u) (other : List ℕ) → P other → length other < length z.spelled.contents → ⊥
    not_shorter u z other o less =
        let below = unsigned_below z.spelled.number (length other) (omega arith) in
        let le : length u ≤ length (below.0 ++ other) = z.least (below.0 ++ other) (sized below.0 other below.1 o) in
        omega (arith, below.2, ap length z.spelled.parts, length-append z.spelled.size z.spelled.contents, length-append below.0 other)

    inside : (u : List ℕ) (z : IsShortest (Sized P) u) → IsShortest P z.spelled.contents
    inside u z = record {
      spelled = z.spelled.holds;
      least = λ other o. elim (cases_lt (length other) (length z.spelled.contents)) [ inl less ↦ absurd (not_shorter u z other o less) | inr more ↦ more ];
    }
