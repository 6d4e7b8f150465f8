-- Typing from a known stack.
use Rattle.std.proofs.Common.{◌≡◌, ℕ, zero, suc, ◌+◌, ◌≤◌, List, [], ◌∷◌, ◌++◌, length, map, reverse, drop, Option, Some, None, refl, sym, ap, ◌∙◌, slice_get, Bool, true, false, nat_eq, nat_le, if◌then◌else◌, arith, append-nil, subst}
use Rattle.std.specs.Prelude.{unwrap_or}
use Rattle.std.proofs.lemmas.Bool.Decides.{nat_tests}
use Rattle.std.proofs.lemmas.Bool.{and_parts}
use Rattle.std.proofs.lemmas.List.{length-reverse, length-map, map-append, length-append}
use Rattle.spec_execution.specs.wasm_form.declared.types.ValType.{ValType}
use Rattle.spec_execution.specs.wasm_form.declared.types.ValType.TheVariants.{I32, I64, F32, F64, FuncRef, ExternRef}
use Rattle.spec_execution.specs.wasm_form.declared.types.FuncType.{FuncType}
use Rattle.spec_execution.specs.spec_binary.Options.{◌>>=◌}
use Rattle.spec_execution.specs.spec_binary.SameTypes.{same_type}
pub use Rattle.spec_execution.proofs.of_spec_binary.Options.{went_on}
use Rattle.spec_execution.specs.spec_validation.Stacks.{Stack, unreachable, has, begins, take_off, put_on, ends_with, drop_one, both, choose_one, is_integer_entry}
use Rattle.spec_execution.specs.spec_validation.Context.{Labels, Shape, Gives, Jumps, given}
use Rattle.spec_execution.specs.spec_validation.Typing.{shaped, shape_after, plainly, flat, Reach, lands_with, all_land, tabled}
use Rattle.spec_safety.specs.TypedActivations.{known}

pub some_same : {A : Type 0} {a b : A} → Some a ≡ Some b → a ≡ b
some_same {a = a} e = ap (λ o. unwrap_or o a) e

-- what a look-up that answered goes on to
pub then_is : {A B : Type 0} (o : Option A) (f : A → Option B) (a : A) → o ≡ Some a → (o >>= f) ≡ f a
then_is o f a e = ap (λ z. z >>= f) e

pub if_some : {A : Type 0} (b : Bool) (a : A) (o : Option A) → (if b then o else None) ≡ Some a → (b ≡ true) × (o ≡ Some a)
if_some true a o e = (refl, e)
if_some false a o e = absurd cc

pub one_type : (t u : ValType) → same_type t u ≡ true → t ≡ u
one_type I32 I32 e = refl
one_type I64 I64 e = refl
one_type F32 F32 e = refl
one_type F64 F64 e = refl
one_type FuncRef FuncRef e = refl
one_type ExternRef ExternRef e = refl
one_type _ _ e = absurd cc

itself : (t : ValType) → same_type t t ≡ true
itself I32 = refl
itself _ = refl

begins_known : (ps ts : List ValType) → begins ps (map Some ts) false ≡ true
    → (kept : List ValType) × (ts ≡ ps ++ kept) × (drop (length ps) (map Some ts) ≡ map Some kept)
begins_known [] ts e = (ts, refl, refl)
begins_known (p ∷ ps) [] e = absurd cc
begins_known (p ∷ ps) (t ∷ ts) e =
    let b = and_parts (same_type p t) (begins ps (map Some ts) false) e in
    let r = begins_known ps ts b.1 in
    (r.0, cc (one_type p t b.0, r.1), r.2)

begins_self : (ps : List ValType) → begins ps (map Some ps) false ≡ true
begins_self [] = refl
begins_self (p ∷ ps) = rw (itself p) (begins_self ps)

pub has_known : (ps ts : List ValType) → has ps (known ts) ≡ true
    → (kept : List ValType) × (ts ≡ reverse ps ++ kept) × (drop (length ps) (map Some ts) ≡ map Some kept)
has_known ps ts e =
    let r = begins_known (reverse ps) ts e in
    (r.0, r.1, ap (λ n. drop n (map Some ts)) (sym (length-reverse ps)) ∙ r.2)

pub taken_known : (ps ts : List ValType) (s : Stack) → take_off ps (known ts) ≡ Some s
    → (kept : List ValType) × (ts ≡ reverse ps ++ kept) × (s ≡ known kept)
taken_known ps ts s e =
    let w = if_some (has ps (known ts)) s (Some (record (known ts) { entries = drop (length ps) (map Some ts) })) e in
    let r = has_known ps ts w.0 in
    (r.0, r.1, sym (some_same w.1) ∙ ap (λ l. record { entries = l; loose = false }) r.2)

put_known : (rs kept : List ValType) → put_on rs (known kept) ≡ known (reverse rs ++ kept)
put_known rs kept = ap (λ l. record { entries = l; loose = false }) (sym (map-append Some (reverse rs) kept))

-- what is put over a known stack gives one
pub put_over : (rs : List ValType) (s : Stack) (kept : List ValType) → s ≡ known kept → put_on rs s ≡ known (reverse rs ++ kept)
put_over rs s kept e = ap (put_on rs) e ∙ put_known rs kept

pub gives_known : (f : FuncType) (ts : List ValType) (s : Stack) → shaped (Gives f) (known ts) ≡ Some s
    → (kept : List ValType) × (ts ≡ reverse f.params ++ kept) × (s ≡ known (reverse f.results ++ kept))
gives_known f ts s e =
    let b = went_on (take_off f.params (known ts)) (λ r. Some (put_on f.results r)) s e in
    let r = taken_known f.params ts b.0 b.1 in
    (r.0, r.1, sym (some_same b.2) ∙ put_over f.results b.0 r.0 r.2)

pub jumps_known : (ps ts : List ValType) (s : Stack) → shaped (Jumps ps) (known ts) ≡ Some s → (kept : List ValType) × (ts ≡ reverse ps ++ kept)
jumps_known ps ts s e =
    let b = went_on (take_off ps (known ts)) (λ r. Some unreachable) s e in
    let r = taken_known ps ts b.0 b.1 in
    (r.0, r.1)

no_types : (xs : List ValType) → length xs ≡ 0 → xs ≡ []
no_types [] e = refl
no_types (x ∷ xs) e = absurd (omega arith)

-- a known stack that ends with these types holds nothing else
pub ends_known : (rs ts : List ValType) → ends_with rs (known ts) ≡ true → ts ≡ reverse rs
ends_known rs ts e =
    let b = and_parts (has rs (known ts)) (nat_le (length (map Some ts)) (length rs)) e in
    let r = has_known rs ts b.0 in
    let l = length-map ts (λ t. Some t) in
    let m = length-append (reverse rs) r.0 in
    let n = length-reverse rs in
    let k = b.1 in
    let short : length ts ≤ length rs = grind (arith, nat_tests) in
    let same_length : length ts ≡ length (reverse rs) + length r.0 = ap length r.1 ∙ m in
    let none : length r.0 ≡ 0 = omega arith in
    r.1 ∙ ap (λ x. reverse rs ++ x) (no_types r.0 none) ∙ append-nil (reverse rs)

pub ends_self : (rs : List ValType) → ends_with rs (known (reverse rs)) ≡ true
ends_self rs =
    let l = length-map (reverse rs) (λ t. Some t) in
    let n = length-reverse rs in
    let k : nat_le (length (map Some (reverse rs))) (length rs) ≡ true = grind (arith, nat_tests) in
    rw (begins_self (reverse rs)) k

-- ---- shapes

pub flat_is : (o : Option Stack) (r : Reach) → flat o ≡ Some r → o ≡ Some r.stack
flat_is None r e = absurd cc
flat_is (Some x) r e = ap (λ z. Some z.stack) (some_same e)

pub shape_is : (h : Shape) (s : Stack) (r : Reach) → plainly (Some h) s ≡ Some r → shaped h s ≡ Some r.stack
shape_is h s r e = flat_is (shaped h s) r e

pub plainly_some : (o : Option Shape) (s : Stack) (r : Reach) → plainly o s ≡ Some r → (h : Shape) × (o ≡ Some h) × (shaped h s ≡ Some r.stack)
plainly_some o s r e = went_on o (λ h. shaped h s) r.stack (flat_is (shape_after o s) r e)

-- behind a test
pub was_given : (b : Bool) (f : FuncType) (s : Stack) (r : Reach) → plainly (given b f) s ≡ Some r → (b ≡ true) × (shaped (Gives f) s ≡ Some r.stack)
was_given true f s r e = (refl, shape_is (Gives f) s r e)
was_given false f s r e = absurd cc

-- a shape that a name gives
pub named : {A : Type 0} (o : Option A) (k : A → Shape) (s : Stack) (r : Reach) → plainly (o >>= λ x. Some (k x)) s ≡ Some r
    → (a : A) × (o ≡ Some a) × (shaped (k a) s ≡ Some r.stack)
named o k s r e =
    let p = plainly_some _ s r e in
    let b = went_on o (λ x. Some (k x)) p.0 p.1 in
    (b.0, b.1, rw (← some_same b.2) at p.2)

-- the same of one that is given behind a name and a test
pub named_given : {A : Type 0} (o : Option A) (b : A → Bool) (f : A → FuncType) (s : Stack) (r : Reach)
    → plainly (o >>= λ x. given (b x) (f x)) s ≡ Some r
    → (a : A) × (o ≡ Some a) × (b a ≡ true) × (shaped (Gives (f a)) s ≡ Some r.stack)
named_given None b f s r e = absurd cc
named_given (Some a) b f s r e = let w = was_given (b a) (f a) s r e in (a, refl, w.0, w.1)

pub drops_known : (ts : List ValType) (s : Stack) → drop_one (known ts) ≡ Some s
    → (t : ValType) × (kept : List ValType) × (ts ≡ t ∷ kept) × (s ≡ known kept)
drops_known [] s e = absurd cc
drops_known (t ∷ ts) s e = (t, ts, refl, sym (some_same e))

pub chooses_known : (ts : List ValType) (s : Stack) → choose_one (known ts) ≡ Some s
    → (t : ValType) × (kept : List ValType) × (ts ≡ t ∷ t ∷ kept) × (s ≡ known (t ∷ kept))
chooses_known [] s e = absurd cc
chooses_known (t ∷ []) s e = absurd cc
chooses_known (t ∷ u ∷ ts) s e =
    let b = went_on (both (Some t) (Some u))
    (λ x. if is_integer_entry x then Some (record { entries = x ∷ map Some ts; loose = false }) else None) s e in
    let w = if_some (same_type t u) b.0 (Some (Some t)) b.1 in
    let x = if_some (is_integer_entry b.0) s _ b.2 in (
      t,
      ts,
      ap (λ z. t ∷ z ∷ ts) (sym (one_type t u w.0)),
      sym (some_same x.1)
          ∙ ap (λ z. record { entries = z ∷ map Some ts; loose = false }) (sym (some_same w.1)),
    )

-- ---- tables of labels

lands_known : (n : ℕ) (ts : List ValType) (o : Option (List ValType)) → lands_with n (known ts) o ≡ true
    → (t : List ValType) × (kept : List ValType) × (o ≡ Some t) × (ts ≡ reverse t ++ kept)
lands_known n ts None e = absurd cc
lands_known n ts (Some t) e =
    let b = and_parts (nat_eq (length t) n) (has t (known ts)) e in
    let r = has_known t ts b.1 in
    (t, r.0, refl, r.1)

pub land_known : (ks : List ℕ) (n k m : ℕ) (labels : Labels) (ts : List ValType) → all_land labels n (known ts) (k ∷ ks) ≡ true
    → (t : List ValType) × (kept : List ValType) × (slice_get labels (unwrap_or (slice_get ks m) k) ≡ Some t) × (ts ≡ reverse t ++ kept)
land_known [] n k m labels ts e = lands_known n ts (slice_get labels k) (and_parts _ _ e).0
land_known (x ∷ ks) n k zero labels ts e = lands_known n ts (slice_get labels x)
    (and_parts _ _ (and_parts (lands_with n (known ts) (slice_get labels k)) _ e).1).0
land_known (x ∷ ks) n k (suc m) labels ts e =
    let b = and_parts (lands_with n (known ts) (slice_get labels k)) _ e in
    let d = and_parts (lands_with n (known ts) (slice_get labels x)) _ b.1 in
    land_known ks n k m labels ts (rw (b.0, d.1) refl)

pub tabled_known : (labels : Labels) (ks : List ℕ) (k : ℕ) (ts : List ValType) (s : Stack) → tabled labels ks k (known ts) ≡ Some s
    → (n : ℕ) × (kept : List ValType) × (ts ≡ I32 ∷ kept) × (all_land labels n (known kept) (k ∷ ks) ≡ true)
tabled_known labels ks k ts s e =
    let b = went_on (take_off (I32 ∷ []) (known ts)) _ s e in
    let r = taken_known (I32 ∷ []) ts b.0 b.1 in
    let d = went_on (slice_get labels k) _ s b.2 in
    let w = if_some (all_land labels (length d.0) b.0 (k ∷ ks)) s (Some unreachable) d.2 in
    (length d.0, r.0, r.1, subst (λ x. all_land labels (length d.0) x (k ∷ ks) ≡ true) r.2 w.0)

-- what two names give, behind a test
pub both_given : {A B : Type 0} (o : Option A) (p : Option B) (b : A → B → Bool) (f : FuncType) (s : Stack) (r : Reach)
    → plainly (o >>= λ x. p >>= λ y. given (b x y) f) s ≡ Some r
    → (x : A) × (y : B) × (o ≡ Some x) × (p ≡ Some y) × (shaped (Gives f) s ≡ Some r.stack)
both_given None p b f s r e = absurd cc
both_given (Some x) None b f s r e = absurd cc
both_given (Some x) (Some y) b f s r e = (x, y, refl, refl, (was_given (b x y) f s r e).1)
