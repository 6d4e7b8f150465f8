-- Lists of instructions over values of one type: each instruction puts one there, or makes one of two.
use Rattle.std.proofs.Common.{◌≡◌, ℕ, suc, List, [], ◌∷◌, length, Option, Some, None, refl, sym, subst}
use Rattle.std.specs.List.{All}
use Rattle.std.proofs.lemmas.List.Elements.{All-cons, All-head, All-tail}
use Rattle.wasm_form.specs.declared.instr.Instr.{Instr}
use Rattle.spec_binary.specs.Options.{◌>>=◌}
use Rattle.spec_binary.specs.Counted.{Step, Puts, Joins, Other, after_step, left}

-- What is done to a list of values by instructions one after the other.
abbrev pub all_after : {V : Type 0} → (Instr → List V → Option (List V)) → List Instr → List V → Option (List V)
all_after after [] vs = Some vs
all_after after (i ∷ is) vs = after i vs >>= all_after after is

-- What an option holds is so; where it holds nothing, there is this instead.
abbrev pub Holds : {A : Type 0} → Type 0 → (A → Type 0) → Option A → Type 0
Holds gap P None = gap
Holds gap P (Some a) = P a

pub held : {A : Type 0} (P : A → Type 0) (o : Option A) → Holds ⊥ P o → (a : A) × (o ≡ Some a) × P a
held P None h = absurd h
held P (Some a) h = (a, refl, h)

module _ {V : Type 0} (step : Instr → Step) (after : Instr → List V → Option (List V)) (gap : Type 0) (P : V → Type 0) where
  -- one more good value, if any
  abbrev pub OneMore : List V → Option (List V) → Type 0
  OneMore vs o = Holds gap (λ us. (v : V) × (us ≡ v ∷ vs) × P v) o

  -- an instruction that puts a good value there, or makes one of two good ones
  abbrev pub IsGood : Step → Instr → Type 0
  IsGood Puts i = (vs : List V) → OneMore vs (after i vs)
  IsGood Joins i = (a b : V) → P a → P b → (vs : List V) → OneMore vs (after i (b ∷ a ∷ vs))
  IsGood Other i = Unit {0}

  abbrev GoodLeft : ℕ → Option (List V) → Type 0
  GoodLeft k o = Holds gap (λ ws. (length ws ≡ k) × All P ws) o

  -- so many good values lead to as many as are left
  pub good_left : (is : List Instr) → All (λ i. IsGood (step i) i) is → (vs : List V) (k : ℕ) → All P vs → left step is (length vs) ≡ Some k
      → GoodLeft k (all_after after is vs)
  good_left [] goods vs k all e = ((let same : length vs ≡ k = cc in same), all)
  good_left (i ∷ is) goods vs k all e =
      go (λ us more h. good_left is (All-tail (λ j. IsGood (step j) j) i is goods) us k more h) (step i) (All-head (λ j. IsGood (step j) j) i is goods) vs all e
    where
      then_left : ((us : List V) → All P us → left step is (length us) ≡ Some k → GoodLeft k (all_after after is us))
          → (vs : List V) → All P vs → (o : Option (List V)) → OneMore vs o → left step is (suc (length vs)) ≡ Some k → GoodLeft k (o >>= all_after after is)
      then_left later vs all None h e = h
      then_left later vs all (Some us) h e = subst (λ ws. GoodLeft k (all_after after is ws)) (sym h.1) (later (h.0 ∷ vs) (All-cons P h.0 vs h.2 all) e)

      go : ((us : List V) → All P us → left step is (length us) ≡ Some k → GoodLeft k (all_after after is us))
          → (z : Step) → IsGood z i → (vs : List V) → All P vs → (after_step z (length vs) >>= left step is) ≡ Some k → GoodLeft k (all_after after (i ∷ is) vs)
      go later Puts g vs all h = then_left later vs all (after i vs) (g vs) h
      go later Joins g [] all h = absurd cc
      go later Joins g (a ∷ []) all h = absurd cc
      go later Joins g (b ∷ a ∷ vs) all h =
          let two = All-tail P b (a ∷ vs) all in
          then_left later vs (All-tail P a vs two) (after i (b ∷ a ∷ vs)) (g a b (All-head P a vs two) (All-head P b (a ∷ vs) all) vs) h
      go later Other g vs all h = absurd cc
