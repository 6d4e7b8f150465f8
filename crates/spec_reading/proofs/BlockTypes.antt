-- Block types are read as they are spelled.
use Rattle.std.proofs.Common.{◌≡◌, ℕ, ℤ, pos, negsuc, ◌<◌, ◌≤◌, eqb, ltb, List, [], ◌∷◌, ◌++◌, Ok, refl, ap, subst, ◌∙◌, arith, inl, inr}
use Rattle.std.specs.Prelude.{◌⊎◌}
use Rattle.std.proofs.lemmas.Int.{ints}
use Rattle.std.proofs.lemmas.Bool.{eqb-true, ne_eqb, lt-ltb, le-ltb}
use Rattle.spec_binary.specs.wasm_form.declared.instr.BlockType.{BlockType}
use Rattle.spec_binary.specs.wasm_form.declared.instr.BlockType.TheVariants.{Empty, Value, Index as TypeIndex}
use Rattle.spec_binary.specs.Number.{SpellsSigned, last, last_below, more}
use Rattle.spec_binary.specs.Types.{i32, i64, f32, f64, reference, func_ref, extern_ref}
use Rattle.spec_binary.specs.Instructions.{SpellsBlockType, empty, value, index}
use Rattle.spec_reading.specs.Steps.{Break, ◌>>=◌}
use Rattle.spec_reading.specs.Values.{signed_at}
use Rattle.spec_reading.specs.Types.{val_type_of}
use Rattle.spec_reading.specs.Instructions.{indexed_type, type_index_at, block_type_at}
use Rattle.spec_reading.proofs.Steps.{bind_ok, chosen, ok_is, Plainly, plain_ok, plain_broken, plain_choice, plain_bind, Takes, IsSound, given, IsPlain, plain_is, is_plain, got}
use Rattle.spec_reading.proofs.Values.{signed_again, signed_sound, signed_plain}
use Rattle.spec_reading.proofs.Types.{val_type_told, val_type_tells}

-- where a number that isn't negative is spelled, the first byte is none from 0x40 to 0x7F
record Begun (w : List ℕ) : Type 0 where
  head : ℕ
  tail : List ℕ
  parts : w ≡ head ∷ tail
  apart : (head < 0x40) ⊎ (0x80 ≤ head)

begun : {m n : ℕ} {v : ℤ} {w : List ℕ} → SpellsSigned m v w → v ≡ pos n → Begun w
begun (last {b} h k) e = record { head = b; tail = []; parts = refl; apart = inl h }
begun (last_below {b} h l k) e = absurd (omega (arith, ints))
begun (more {b} {w} h l k r s) e = record { head = b; tail = w; parts = refl; apart = inr h }

index_below : (b : ℕ) (bs : List ℕ) → b < 0x40 → block_type_at (b ∷ bs) ≡ type_index_at (b ∷ bs)
unfolding block_type_at
index_below b bs h = rw (ne_eqb b 0x40 (λ e. omega arith), lt-ltb b 0x40 h) refl

index_above : (b : ℕ) (bs : List ℕ) → 0x80 ≤ b → block_type_at (b ∷ bs) ≡ type_index_at (b ∷ bs)
unfolding block_type_at
index_above b bs h =
    let least : 0x40 ≤ b = omega arith in
    rw (ne_eqb b 0x40 (λ e. omega arith), le-ltb b 0x40 least, le-ltb b 0x80 h) refl

type_index_again : {n : ℕ} {w : List ℕ} → SpellsSigned 33 (pos n) w → (rest : List ℕ) → type_index_at (w ++ rest) ≡ Ok (TypeIndex n, rest)
type_index_again s rest = rw (signed_again s rest) refl

begins_index : (w rest : List ℕ) → Begun w → block_type_at (w ++ rest) ≡ type_index_at (w ++ rest)
begins_index w rest f = rw f.parts (elim f.apart [ inl h ↦ index_below f.head (f.tail ++ rest) h | inr h ↦ index_above f.head (f.tail ++ rest) h ])

pub block_type_again : {t : BlockType} {w : List ℕ} → SpellsBlockType t w → (rest : List ℕ) → block_type_at (w ++ rest) ≡ Ok (t, rest)
unfolding block_type_at
block_type_again empty rest = refl
block_type_again (value i32) rest = refl
block_type_again (value i64) rest = refl
block_type_again (value f32) rest = refl
block_type_again (value f64) rest = refl
block_type_again (value (reference func_ref)) rest = refl
block_type_again (value (reference extern_ref)) rest = refl
block_type_again (index {w} s) rest = begins_index w rest (begun s refl) ∙ type_index_again s rest

index_told : (v : ℤ) (t : BlockType) → indexed_type v ≡ Ok t → (n : ℕ) × (v ≡ pos n) × (TypeIndex n ≡ t)
index_told (pos n) t e = (n, refl, ok_is Break _ _ e)
index_told (negsuc n) t e = absurd cc

type_index_sound : IsSound SpellsBlockType type_index_at
type_index_sound text t rest e =
    let a = bind_ok (signed_at 33 text) _ (t, rest) e in
    let b = bind_ok (indexed_type a.0.0) _ (t, rest) a.2 in
    let n = index_told a.0.0 b.0 b.1 in
    let s = signed_sound 33 text a.0.0 a.0.1 a.1 in
    let spelled : SpellsBlockType (TypeIndex n.0) s.word = index (subst (λ v. SpellsSigned 33 v s.word) n.1 s.spelled) in
    given SpellsBlockType text b.0 t a.0.1 rest b.2 (record { word = s.word; spelled = subst (λ t. SpellsBlockType t s.word) n.2 spelled; parts = s.parts })

value_told : (b : ℕ) (bs : List ℕ) (t : BlockType) (rest : List ℕ) → (val_type_of b >>= λ t. got (Value t) bs) ≡ Ok (t, rest) → Takes SpellsBlockType (b ∷ bs) t rest
value_told b bs t rest e =
    let a = bind_ok (val_type_of b) _ (t, rest) e in
    given SpellsBlockType (b ∷ bs) (Value a.0) t bs rest a.2 (record { word = b ∷ []; spelled = value (val_type_told b a.0 a.1); parts = refl })

pub block_type_sound : IsSound SpellsBlockType block_type_at
unfolding block_type_at
block_type_sound [] t rest e = absurd cc
block_type_sound (b ∷ bs) t rest e = elim (chosen (eqb b 0x40) _ _ _ e) [
  | inl p ↦ given SpellsBlockType (b ∷ bs) Empty t bs rest p.1 (record { word = 0x40 ∷ []; spelled = empty; parts = ap (λ b. b ∷ bs) (eqb-true b 0x40 p.0) })
  | inr p ↦ elim (chosen (ltb b 0x40) _ _ _ p.1) [
    | inl q ↦ type_index_sound (b ∷ bs) t rest q.1
    | inr q ↦ elim (chosen (ltb b 0x80) _ _ _ q.1) [
      | inl r ↦ value_told b bs t rest r.1
      | inr r ↦ type_index_sound (b ∷ bs) t rest r.1
    ]
  ]
]

index_tells : (v : ℤ) → Plainly (indexed_type v)
index_tells (pos n) = plain_ok _
index_tells (negsuc n) = plain_broken

type_index_breaks : (text : List ℕ) → Plainly (type_index_at text)
type_index_breaks text = plain_bind (signed_at 33 text) _ (is_plain (signed_at 33) (signed_plain 33) text) (λ n. plain_bind (indexed_type n.0) _ (index_tells n.0) (λ t. plain_ok _))

block_type_breaks : (text : List ℕ) → Plainly (block_type_at text)
unfolding block_type_at
block_type_breaks [] = plain_broken
block_type_breaks (b ∷ bs) =
    plain_choice (eqb b 0x40) _ _ (plain_ok _)
    (plain_choice (ltb b 0x40) _ _ (type_index_breaks (b ∷ bs))
    (plain_choice (ltb b 0x80) _ _ (plain_bind (val_type_of b) _ (val_type_tells b) (λ t. plain_ok _)) (type_index_breaks (b ∷ bs))))

pub block_type_plain : IsPlain block_type_at
block_type_plain = plain_is block_type_at block_type_breaks
