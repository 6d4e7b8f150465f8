-- Element and data segments are read as they are spelled.
use Rattle.std.proofs.Common.{◌≡◌, ◌≢◌, ℕ, ◌<◌, ◌≤◌, false, ltb, eqb, List, [], ◌∷◌, ◌++◌, Ok, refl, sym, ap, subst, ◌∙◌, append_assoc, arith, inl, inr}
use Rattle.std.specs.Prelude.{◌%◌}
use Rattle.std.proofs.lemmas.Bool.{lt-ltb, le-ltb, ltb-true, ltb-false, eqb-true, eqb-false, ne_eqb}
use Rattle.spec_binary.specs.wasm_form.declared.types.ValType.{ValType}
use Rattle.spec_binary.specs.wasm_form.declared.types.ValType.TheVariants.{FuncRef}
use Rattle.spec_binary.specs.wasm_form.declared.instr.Expr.{Expr}
use Rattle.spec_binary.specs.wasm_form.declared.module.ElemMode.{ElemMode}
use Rattle.spec_binary.specs.wasm_form.declared.module.ElemMode.TheVariants as element
use Rattle.spec_binary.specs.wasm_form.declared.module.ElemItems.{ElemItems}
use Rattle.spec_binary.specs.wasm_form.declared.module.ElemItems.TheVariants.{Funcs, Exprs}
use Rattle.spec_binary.specs.wasm_form.declared.module.Elem.{Elem}
use Rattle.spec_binary.specs.wasm_form.declared.module.DataMode.{DataMode}
use Rattle.spec_binary.specs.wasm_form.declared.module.DataMode.TheVariants as data_mode
use Rattle.spec_binary.specs.wasm_form.declared.module.Data.{Data}
use Rattle.spec_binary.specs.Number.{SpellsUnsigned}
use Rattle.spec_binary.specs.Sequence.{SpellsVec}
use Rattle.spec_binary.specs.Parts as spells
use Rattle.spec_binary.specs.Parts.{SpellsConstant, SpellsElemMode, first_table, named_table, declarative, SpellsElemItems, functions, kind_and_functions, expressions, type_and_expressions, SpellsElem, SpellsDataMode, first_memory, named_memory, SpellsData}
use Rattle.spec_reading.specs.Steps.{Break, ◌>>=◌}
use Rattle.spec_reading.specs.Values.{number_at, byte_at, cut_at, vec_at}
use Rattle.spec_reading.specs.Types.{ref_type_at}
use Rattle.spec_reading.specs.Parts.{constant_at, place_at, elem_mode_at, functions_at, expressions_at, elem_items_at, elem_at, data_mode_at, data_at}
use Rattle.spec_reading.proofs.Steps.{bind_ok, chosen, chosen_first, ok_is, Takes, IsComplete, IsSound, given, got, One, Two, one_sound, two_sound}
use Rattle.spec_reading.proofs.Values.{number_complete, number_sound, byte_again, byte_sound}
use Rattle.spec_reading.proofs.Vectors.{vec_complete, vec_sound, bytes_complete, bytes_sound}
use Rattle.spec_reading.proofs.Types.{ref_type_complete, ref_type_sound}
use Rattle.spec_reading.proofs.Parts.{constant_complete, constant_sound, three_parts, two_parts}

-- a segment's place, and the mode that it gives

abbrev pair : ℕ → Expr → ℕ × Expr
pair n e = (n, e)

module _ {C : Type 0} (make : ℕ → Expr → C) where
  place_complete : (n : ℕ) (e : Expr) (w v : List ℕ) → SpellsUnsigned 32 n w → SpellsConstant e v → (rest : List ℕ)
      → (place_at ((w ++ v) ++ rest) >>= λ place. got (make place.0.0 place.0.1) place.1) ≡ Ok (make n e, rest)
  place_complete n e w v p q rest = rw (append_assoc w v rest, number_complete 32 n w p (v ++ rest), constant_complete e v q rest) refl

  place_sound : (text : List ℕ) (z : C) (rest : List ℕ) → (place_at text >>= λ place. got (make place.0.0 place.0.1) place.1) ≡ Ok (z, rest)
      → Two (SpellsUnsigned 32) SpellsConstant make text z rest
  place_sound text z rest e =
      let p = bind_ok (place_at text) _ (z, rest) e in
      let t = two_sound (SpellsUnsigned 32) SpellsConstant (number_at 32) constant_at (number_sound 32) constant_sound pair text p.0.0 p.0.1 p.1 in
      let same = ok_is Break (make p.0.0.0 p.0.0.1, p.0.1) (z, rest) p.2 in
      record {
        first = t.first;
        second = t.second;
        word = t.word;
        end = t.end;
        spelled = t.spelled;
        after = t.after;
        parts = t.parts ∙ ap (λ (p : C × List ℕ). (t.word ++ t.end) ++ p.1) same;
        is = ap (λ (p : ℕ × Expr). make p.0 p.1) t.is ∙ ap (λ (p : C × List ℕ). p.0) same;
      }

-- a word that is read as one thing, or as two, spells what is made of them
module _ {A B C : Type 0} (Spells : A → List ℕ → Type 0) (After : B → List ℕ → Type 0) (To : C → List ℕ → Type 0) where
  taken_one : (make : A → C) (text : List ℕ) (z : C) (rest : List ℕ) → ((x : A) (w : List ℕ) → Spells x w → To (make x) w) → One Spells make text z rest → Takes To text z rest
  taken_one make text z rest to t = record { word = t.word; spelled = subst (λ z. To z t.word) t.is (to t.first t.word t.spelled); parts = t.parts }

  taken_two : (make : A → B → C) (text : List ℕ) (z : C) (rest : List ℕ) → ((x : A) (y : B) (w v : List ℕ) → Spells x w → After y v → To (make x y) (w ++ v))
      → Two Spells After make text z rest → Takes To text z rest
  taken_two make text z rest to t = record { word = t.word ++ t.end; spelled = subst (λ z. To z (t.word ++ t.end)) t.is (to t.first t.second t.word t.end t.spelled t.after); parts = t.parts }

elem_mode_again : {low : ℕ} {m : ElemMode} {x : List ℕ} → SpellsElemMode low m x → (rest : List ℕ) → elem_mode_at low (x ++ rest) ≡ Ok (m, rest)
unfolding elem_mode_at
elem_mode_again (first_table {offset} {w} p) rest = rw (constant_complete offset w p rest) refl
elem_mode_again spells.passive rest = refl
elem_mode_again (named_table {table} {offset} {w} {v} p q) rest = place_complete element.Active table offset w v p q rest
elem_mode_again declarative rest = refl

pub elem_mode_complete : (low : ℕ) → IsComplete (SpellsElemMode low) (elem_mode_at low)
elem_mode_complete low m w p rest = elem_mode_again p rest

-- the mode by the two low bits of the flags
mode_of : (low n : ℕ) (text : List ℕ) (m : ElemMode) (rest : List ℕ) → low ≡ n → Takes (SpellsElemMode n) text m rest → Takes (SpellsElemMode low) text m rest
mode_of low n text m rest e t = subst (λ n. Takes (SpellsElemMode n) text m rest) (sym e) t

pub elem_mode_sound : (low : ℕ) → low < 4 → IsSound (SpellsElemMode low) (elem_mode_at low)
unfolding elem_mode_at
elem_mode_sound low small text m rest e = elim (chosen (eqb low 0) _ _ _ e) [
  | inl p ↦ mode_of low 0 text m rest (eqb-true low 0 p.0) (taken_one SpellsConstant SpellsConstant (SpellsElemMode 0) (element.Active 0) text m rest (λ x w s. first_table s)
      (one_sound SpellsConstant constant_at constant_sound (element.Active 0) text m rest p.1))
  | inr p ↦ elim (chosen (eqb low 1) _ _ _ p.1) [
    | inl q ↦ mode_of low 1 text m rest (eqb-true low 1 q.0) (given (SpellsElemMode 1) text element.Passive m text rest q.1 (record { word = []; spelled = spells.passive; parts = refl }))
    | inr q ↦ elim (chosen (eqb low 2) _ _ _ q.1) [
      | inl r ↦ mode_of low 2 text m rest (eqb-true low 2 r.0) (taken_two (SpellsUnsigned 32) SpellsConstant (SpellsElemMode 2) element.Active text m rest (λ x y w v s t. named_table s t)
          (place_sound element.Active text m rest r.1))
      | inr r ↦
          let none : low ≢ 0 = eqb-false low 0 p.0 in
          let one : low ≢ 1 = eqb-false low 1 q.0 in
          let two : low ≢ 2 = eqb-false low 2 r.0 in
          mode_of low 3 text m rest (omega arith) (given (SpellsElemMode 3) text element.Declarative m text rest r.1 (record { word = []; spelled = declarative; parts = refl }))
    ]
  ]
]

-- the items

functions_sound : (text : List ℕ) (z : ElemItems) (rest : List ℕ) → functions_at text ≡ Ok (z, rest) → One (SpellsVec (SpellsUnsigned 32)) Funcs text z rest
functions_sound text z rest e = one_sound (SpellsVec (SpellsUnsigned 32)) (vec_at (number_at 32)) (vec_sound (SpellsUnsigned 32) (number_at 32) (number_sound 32)) Funcs text z rest e

expressions_sound : (t : ValType) (text : List ℕ) (z : ElemItems) (rest : List ℕ) → expressions_at t text ≡ Ok (z, rest) → One (SpellsVec SpellsConstant) (Exprs t) text z rest
expressions_sound t text z rest e = one_sound (SpellsVec SpellsConstant) (vec_at constant_at) (vec_sound SpellsConstant constant_at constant_sound) (Exprs t) text z rest e

elem_items_again : {flags : ℕ} {x : ElemItems} {u : List ℕ} → SpellsElemItems flags x u → (rest : List ℕ) → elem_items_at flags (u ++ rest) ≡ Ok (x, rest)
unfolding elem_items_at
elem_items_again (functions {ns} {w} p) rest = rw (vec_complete (SpellsUnsigned 32) (number_at 32) (number_complete 32) ns w p rest) refl
elem_items_again (kind_and_functions {flags} {ns} {w} some few p) rest =
    let none : eqb flags 0 ≡ false = ne_eqb flags 0 (λ e. omega arith) in
    rw (none, lt-ltb flags 4 few, byte_again 0x00 (w ++ rest), vec_complete (SpellsUnsigned 32) (number_at 32) (number_complete 32) ns w p rest) refl
elem_items_again (expressions {es} {w} p) rest = rw (vec_complete SpellsConstant constant_at constant_complete es w p rest) refl
elem_items_again (type_and_expressions {flags} {t} {es} {w} {v} more few p q) rest =
    let none : eqb flags 0 ≡ false = ne_eqb flags 0 (λ e. omega arith) in
    let four : eqb flags 4 ≡ false = ne_eqb flags 4 (λ e. omega arith) in
    let large : ltb flags 4 ≡ false = le-ltb flags 4 (omega arith) in
    rw (none, four, large, lt-ltb flags 8 few, append_assoc w v rest, ref_type_complete t w p (v ++ rest), vec_complete SpellsConstant constant_at constant_complete es v q rest) refl

pub elem_items_complete : (flags : ℕ) → IsComplete (SpellsElemItems flags) (elem_items_at flags)
elem_items_complete flags x w p rest = elem_items_again p rest

items_of : (flags n : ℕ) (text : List ℕ) (x : ElemItems) (rest : List ℕ) → flags ≡ n → Takes (SpellsElemItems n) text x rest → Takes (SpellsElemItems flags) text x rest
items_of flags n text x rest e t = subst (λ n. Takes (SpellsElemItems n) text x rest) (sym e) t

-- a kind, and functions behind it
kind_sound : (flags : ℕ) → flags ≢ 0 → flags < 4 → (text : List ℕ) (x : ElemItems) (rest : List ℕ) → (byte_at 0x00 text >>= λ kind. functions_at kind.1) ≡ Ok (x, rest)
    → Takes (SpellsElemItems flags) text x rest
kind_sound flags some few text x rest e =
    let k = bind_ok (byte_at 0x00 text) _ (x, rest) e in
    let t = functions_sound k.0.1 x rest k.2 in
    record {
      word = 0x00 ∷ t.word;
      spelled = subst (λ x. SpellsElemItems flags x (0x00 ∷ t.word)) t.is (kind_and_functions (omega arith) few t.spelled);
      parts = byte_sound 0x00 text k.0.0 k.0.1 k.1 ∙ ap (λ l. 0x00 ∷ l) t.parts;
    }

-- a type, and expressions behind it
type_sound : (flags : ℕ) → 4 < flags → flags < 8 → (text : List ℕ) (x : ElemItems) (rest : List ℕ) → (ref_type_at text >>= λ t. expressions_at t.0 t.1) ≡ Ok (x, rest)
    → Takes (SpellsElemItems flags) text x rest
type_sound flags more few text x rest e =
    let r = bind_ok (ref_type_at text) _ (x, rest) e in
    let ty = ref_type_sound text r.0.0 r.0.1 r.1 in
    let t = expressions_sound r.0.0 r.0.1 x rest r.2 in
    record {
      word = ty.word ++ t.word;
      spelled = subst (λ x. SpellsElemItems flags x (ty.word ++ t.word)) t.is (type_and_expressions more few ty.spelled t.spelled);
      parts = two_parts text r.0.1 rest ty.word t.word ty.parts t.parts;
    }

pub elem_items_sound : (flags : ℕ) → IsSound (SpellsElemItems flags) (elem_items_at flags)
unfolding elem_items_at
elem_items_sound flags text x rest e = elim (chosen (eqb flags 0) _ _ _ e) [
  | inl p ↦ items_of flags 0 text x rest (eqb-true flags 0 p.0) (taken_one (SpellsVec (SpellsUnsigned 32)) SpellsConstant (SpellsElemItems 0) Funcs text x rest (λ x w s. functions s) (functions_sound text x rest p.1))
  | inr p ↦ elim (chosen (ltb flags 4) _ _ _ p.1) [
    | inl q ↦ kind_sound flags (eqb-false flags 0 p.0) (ltb-true _ _ q.0) text x rest q.1
    | inr q ↦ elim (chosen (eqb flags 4) _ _ _ q.1) [
      | inl r ↦ items_of flags 4 text x rest (eqb-true flags 4 r.0)
          (taken_one (SpellsVec SpellsConstant) SpellsConstant (SpellsElemItems 4) (Exprs FuncRef) text x rest (λ x w s. expressions s) (expressions_sound FuncRef text x rest r.1))
      | inr r ↦
          let s = chosen_first (ltb flags 8) _ _ _ r.1 in
          let other : flags ≢ 4 = eqb-false flags 4 r.0 in
          let least : 4 ≤ flags = ltb-false _ _ q.0 in
          type_sound flags (omega arith) (ltb-true _ _ s.0) text x rest s.1
    ]
  ]
]

-- element segments

elem_again : {s : Elem} {x : List ℕ} → SpellsElem s x → (rest : List ℕ) → elem_at (x ++ rest) ≡ Ok (s, rest)
unfolding elem_at
elem_again (spells.segment {s} {flags} {w} {v} {u} p q r) rest =
    rw (append_assoc w (v ++ u) rest, append_assoc v u rest, number_complete 32 flags w p (v ++ (u ++ rest)), elem_mode_complete (flags % 4) s.mode v q (u ++ rest), elem_items_complete flags s.items u r rest) refl

pub elem_complete : IsComplete SpellsElem elem_at
elem_complete s w p rest = elem_again p rest

pub elem_sound : IsSound SpellsElem elem_at
unfolding elem_at
elem_sound text x rest e =
    let f = bind_ok (number_at 32 text) _ (x, rest) e in
    let m = bind_ok (elem_mode_at (f.0.0 % 4) f.0.1) _ (x, rest) f.2 in
    let i = bind_ok (elem_items_at f.0.0 m.0.1) _ (x, rest) m.2 in
    let p = number_sound 32 text f.0.0 f.0.1 f.1 in
    let q = elem_mode_sound (f.0.0 % 4) (omega arith) f.0.1 m.0.0 m.0.1 m.1 in
    let r = elem_items_sound f.0.0 m.0.1 i.0.0 i.0.1 i.1 in
    given SpellsElem text (record { mode = m.0.0; items = i.0.0 }) x i.0.1 rest i.2
    (record { word = p.word ++ (q.word ++ r.word); spelled = spells.segment p.spelled q.spelled r.spelled; parts = three_parts text f.0.1 m.0.1 i.0.1 p.word q.word r.word p.parts q.parts r.parts })

-- data segments

data_mode_again : {flags : ℕ} {m : DataMode} {x : List ℕ} → SpellsDataMode flags m x → (rest : List ℕ) → data_mode_at flags (x ++ rest) ≡ Ok (m, rest)
unfolding data_mode_at
data_mode_again (first_memory {offset} {w} p) rest = rw (constant_complete offset w p rest) refl
data_mode_again spells.passive rest = refl
data_mode_again (named_memory {memory} {offset} {w} {v} p q) rest = place_complete data_mode.Active memory offset w v p q rest

pub data_mode_complete : (flags : ℕ) → IsComplete (SpellsDataMode flags) (data_mode_at flags)
data_mode_complete flags m w p rest = data_mode_again p rest

-- the mode by the flags
data_mode_of : (flags n : ℕ) (text : List ℕ) (m : DataMode) (rest : List ℕ) → flags ≡ n → Takes (SpellsDataMode n) text m rest → Takes (SpellsDataMode flags) text m rest
data_mode_of flags n text m rest e t = subst (λ n. Takes (SpellsDataMode n) text m rest) (sym e) t

pub data_mode_sound : (flags : ℕ) → IsSound (SpellsDataMode flags) (data_mode_at flags)
unfolding data_mode_at
data_mode_sound flags text m rest e = elim (chosen (eqb flags 0) _ _ _ e) [
  | inl p ↦ data_mode_of flags 0 text m rest (eqb-true flags 0 p.0) (taken_one SpellsConstant SpellsConstant (SpellsDataMode 0) (data_mode.Active 0) text m rest (λ x w s. first_memory s)
      (one_sound SpellsConstant constant_at constant_sound (data_mode.Active 0) text m rest p.1))
  | inr p ↦ elim (chosen (eqb flags 1) _ _ _ p.1) [
    | inl q ↦ data_mode_of flags 1 text m rest (eqb-true flags 1 q.0) (given (SpellsDataMode 1) text data_mode.Passive m text rest q.1 (record { word = []; spelled = spells.passive; parts = refl }))
    | inr q ↦
        let r = chosen_first (eqb flags 2) _ _ _ q.1 in
        data_mode_of flags 2 text m rest (eqb-true flags 2 r.0) (taken_two (SpellsUnsigned 32) SpellsConstant (SpellsDataMode 2) data_mode.Active text m rest (λ x y w v s t. named_memory s t)
        (place_sound data_mode.Active text m rest r.1))
  ]
]

data_again : {s : Data} {x : List ℕ} → SpellsData s x → (rest : List ℕ) → data_at (x ++ rest) ≡ Ok (s, rest)
unfolding data_at
data_again (spells.segment {s} {flags} {w} {v} {u} p q r) rest =
    rw (append_assoc w (v ++ u) rest, append_assoc v u rest, number_complete 32 flags w p (v ++ (u ++ rest)), data_mode_complete flags s.mode v q (u ++ rest), bytes_complete s.bytes u r rest) refl

pub data_complete : IsComplete SpellsData data_at
data_complete s w p rest = data_again p rest

pub data_sound : IsSound SpellsData data_at
unfolding data_at
data_sound text x rest e =
    let f = bind_ok (number_at 32 text) _ (x, rest) e in
    let m = bind_ok (data_mode_at f.0.0 f.0.1) _ (x, rest) f.2 in
    let b = bind_ok (cut_at m.0.1) _ (x, rest) m.2 in
    let p = number_sound 32 text f.0.0 f.0.1 f.1 in
    let q = data_mode_sound f.0.0 f.0.1 m.0.0 m.0.1 m.1 in
    let r = bytes_sound m.0.1 b.0.0 b.0.1 b.1 in
    given SpellsData text (record { mode = m.0.0; bytes = b.0.0 }) x b.0.1 rest b.2
    (record { word = p.word ++ (q.word ++ r.word); spelled = spells.segment p.spelled q.spelled r.spelled; parts = three_parts text f.0.1 m.0.1 b.0.1 p.word q.word r.word p.parts q.parts r.parts })
