-- Bodies are read as they are spelled, where they keep the room that there is for them.
use Rattle.std.proofs.Common.{◌≡◌, ℕ, ◌≤◌, List, [], ◌++◌, length, Ok, Err, refl, sym, ap, subst, ◌∙◌, append_assoc, inl, inr}
use Rattle.std.specs.Prelude.{◌⊎◌}
use Rattle.std.proofs.lemmas.List.{append-nil}
use Rattle.spec_binary.specs.wasm_form.declared.module.Code.{Code}
use Rattle.spec_binary.specs.Number.{SpellsUnsigned}
use Rattle.spec_binary.specs.Trees.{nesting_all}
use Rattle.spec_binary.specs.BodyLimits.{local_count, most_locals, most_nested}
use Rattle.spec_binary.specs.Parts.{SpellsFunc, func, SpellsCode, code}
use Rattle.spec_binary.specs.DecodeAnswers.{GetsTooDeep, PassesLocals, PassesNesting}
use Rattle.spec_reading.specs.Steps.{Break, Broken, TooDeep, TooManyLocals, whole}
use Rattle.spec_reading.specs.Values.{cut_at}
use Rattle.spec_reading.specs.Instructions.{expr_at}
use Rattle.spec_reading.specs.Bodies.{Room, usual_room, locals_at, func_at, code_at}
use Rattle.spec_reading.proofs.Steps.{bind_ok, bind_err, ok_is, Takes, whole_parts, whole_err}
use Rattle.spec_reading.proofs.Values.{cut_again, cut_sound, cut_plain}
use Rattle.spec_reading.proofs.Instructions.{expr_complete}
use Rattle.spec_reading.proofs.InstructionsFound.{expr_sound}
use Rattle.spec_reading.proofs.Depths.{expr_deep, expr_deep_back, expr_locals}
use Rattle.spec_reading.proofs.Groups.{locals_complete, locals_sound, locals_passed, locals_err}

-- the body has room
pub record Keeps (room : Room) (c : Code) : Type 0 where
  pub locals : local_count c.locals ≤ room.locals
  pub nested : nesting_all c.body.list ≤ room.nested

module _ (room : Room) where
  func_complete : (c : Code) (w : List ℕ) → SpellsFunc c w → Keeps room c → (rest : List ℕ) → func_at room (w ++ rest) ≡ Ok (c, rest)
  unfolding func_at
  func_complete x u (func {c} {w} {v} p q) k rest =
      rw (append_assoc w v rest, locals_complete room.locals c.locals w p k.locals (v ++ rest), expr_complete room.nested c.body v q k.nested rest) refl

  func_sound : (text : List ℕ) (c : Code) (rest : List ℕ) → func_at room text ≡ Ok (c, rest) → Takes SpellsFunc text c rest × Keeps room c
  unfolding func_at
  func_sound text c rest e =
      let l = bind_ok (locals_at room.locals text) _ (c, rest) e in
      let b = bind_ok (expr_at room.nested l.0.1) _ (c, rest) l.2 in
      let locals = locals_sound room.locals text l.0.0 l.0.1 l.1 in
      let body = expr_sound room.nested l.0.1 b.0.0 b.0.1 b.1 in
      subst (λ (p : Code × List ℕ). Takes SpellsFunc text p.0 p.1 × Keeps room p.0) (ok_is Break (record { locals = l.0.0; body = b.0.0 }, b.0.1) (c, rest) b.2) (
        record {
          word = locals.0.word ++ body.0.word;
          spelled = func locals.0.spelled body.0.spelled;
          parts = locals.0.parts ∙ ap (λ l. locals.0.word ++ l) body.0.parts ∙ sym (append_assoc locals.0.word body.0.word b.0.1);
        },
        record { locals = locals.1; nested = body.1 },
      )

  pub code_complete : (c : Code) (w : List ℕ) → SpellsCode c w → Keeps room c → (rest : List ℕ) → code_at room (w ++ rest) ≡ Ok (c, rest)
  unfolding code_at
  code_complete x u (code {c} {size} {w} n s) k rest =
      let full : whole (func_at room w) ≡ Ok c = ap whole (ap (func_at room) (sym (append-nil w)) ∙ func_complete c w s k []) in
      rw (append_assoc size w rest, cut_again size w rest n, full) refl

  pub code_sound : (text : List ℕ) (c : Code) (rest : List ℕ) → code_at room text ≡ Ok (c, rest) → Takes SpellsCode text c rest × Keeps room c
  unfolding code_at
  code_sound text c rest e =
      let cut = bind_ok (cut_at text) _ (c, rest) e in
      let r = bind_ok (whole (func_at room cut.0.0)) _ (c, rest) cut.2 in
      let cuts = cut_sound text cut.0.0 cut.0.1 cut.1 in
      let t = func_sound cut.0.0 r.0 [] (whole_parts (func_at room cut.0.0) r.0 r.1) in
      let spelled : SpellsFunc r.0 cut.0.0 = subst (SpellsFunc r.0) (sym (t.0.parts ∙ append-nil t.0.word)) t.0.spelled in
      subst (λ (p : Code × List ℕ). Takes SpellsCode text p.0 p.1 × Keeps room p.0) (ok_is Break (r.0, cut.0.1) (c, rest) r.2) (
        record { word = cuts.size ++ cut.0.0; spelled = code cuts.count spelled; parts = cuts.parts ∙ sym (append_assoc cuts.size cut.0.0 cut.0.1) },
        t.1,
      )

-- a size, a text of that size that passes a limit, and what follows it
pub record SizedThat (Passes : List ℕ → Type 0) (text : List ℕ) : Type 0 where
  pub size : List ℕ
  pub inner : List ℕ
  pub rest : List ℕ
  pub spelled_size : SpellsUnsigned 32 (length inner) size
  pub passes : Passes inner
  pub parts : text ≡ size ++ (inner ++ rest)

-- why no body is read
pub data BodyEnds : Break → List ℕ → Type 0 where
  broken : {text : List ℕ} → BodyEnds Broken text
  locals : {text : List ℕ} → SizedThat PassesLocals text → BodyEnds TooManyLocals text
  nesting : {text : List ℕ} → SizedThat PassesNesting text → BodyEnds TooDeep text

-- what reading an expression ends with is to say of the body
expr_ends : (d : Break) (text rest : List ℕ) → expr_at most_nested rest ≡ Err d → (GetsTooDeep most_nested rest → PassesNesting text)
    → (d ≡ Broken) ⊎ (((d ≡ TooManyLocals) × PassesLocals text) ⊎ ((d ≡ TooDeep) × PassesNesting text))
expr_ends Broken text rest e deep = inl refl
expr_ends TooDeep text rest e deep = inr (inr (refl, deep (expr_deep_back most_nested rest e)))
expr_ends TooManyLocals text rest e deep = absurd (expr_locals most_nested rest e)

func_ends : (text : List ℕ) (d : Break) → func_at usual_room text ≡ Err d → (d ≡ Broken) ⊎ (((d ≡ TooManyLocals) × PassesLocals text) ⊎ ((d ≡ TooDeep) × PassesNesting text))
unfolding func_at
func_ends text d e = elim (bind_err (locals_at most_locals text) _ d e) [
  | inl p ↦ elim (locals_err text d p) [ inl q ↦ inl q | inr q ↦ inr (inl q) ]
  | inr l ↦ elim (bind_err (expr_at most_nested l.0.1) _ d l.2) [
    | inl p ↦
        let locals = locals_sound most_locals text l.0.0 l.0.1 l.1 in
        expr_ends d text l.0.1 p (λ q. record { locals = l.0.0; word = locals.0.word; spelled = locals.0.spelled; within = locals.1; rest = l.0.1; deep = q; parts = locals.0.parts })
    | inr b ↦ absurd (let h = b.2 in cc)
  ]
]

-- a body that isn't read passes a limit, or is broken
inner_ends : (text size inner rest : List ℕ) → SpellsUnsigned 32 (length inner) size → text ≡ size ++ (inner ++ rest) → (d : Break) → whole (func_at usual_room inner) ≡ Err d
    → BodyEnds d text
inner_ends text size inner rest n parts d e = elim (whole_err (func_at usual_room inner) d e) [
  | inr q ↦ subst (λ d. BodyEnds d text) (sym q) broken
  | inl p ↦ elim (func_ends inner d p) [
    | inl q ↦ subst (λ d. BodyEnds d text) (sym q) broken
    | inr q ↦ elim q [
      | inl l ↦ subst (λ d. BodyEnds d text) (sym l.0) (locals (record { size = size; inner = inner; rest = rest; spelled_size = n; passes = l.1; parts = parts }))
      | inr l ↦ subst (λ d. BodyEnds d text) (sym l.0) (nesting (record { size = size; inner = inner; rest = rest; spelled_size = n; passes = l.1; parts = parts }))
    ]
  ]
]

pub code_ends : (text : List ℕ) (d : Break) → code_at usual_room text ≡ Err d → BodyEnds d text
unfolding code_at
code_ends text d e = elim (bind_err (cut_at text) _ d e) [
  | inl p ↦ subst (λ d. BodyEnds d text) (sym (cut_plain text d p)) broken
  | inr cut ↦
      let cuts = cut_sound text cut.0.0 cut.0.1 cut.1 in
      elim (bind_err (whole (func_at usual_room cut.0.0)) _ d cut.2) [
        | inl p ↦ inner_ends text cuts.size cut.0.0 cut.0.1 cuts.count cuts.parts d p
        | inr r ↦ absurd (let h = r.2 in cc)
      ]
]

func_passed : (text : List ℕ) → PassesLocals text → func_at usual_room text ≡ Err TooManyLocals
unfolding func_at
func_passed text p = rw (locals_passed text p) refl

func_deep : (text : List ℕ) → PassesNesting text → func_at usual_room text ≡ Err TooDeep
unfolding func_at
func_deep text p = rw (p.parts, locals_complete most_locals p.locals p.word p.spelled p.within p.rest, expr_deep most_nested p.rest p.deep) refl

-- the body of this text isn't read
code_not_read : (size text rest : List ℕ) → SpellsUnsigned 32 (length text) size → (d : Break) → func_at usual_room text ≡ Err d → code_at usual_room (size ++ (text ++ rest)) ≡ Err d
unfolding code_at
code_not_read size text rest n d e = rw (cut_again size text rest n, e) refl

pub code_passed : (size text rest : List ℕ) → SpellsUnsigned 32 (length text) size → PassesLocals text → code_at usual_room (size ++ (text ++ rest)) ≡ Err TooManyLocals
code_passed size text rest n p = code_not_read size text rest n TooManyLocals (func_passed text p)

pub code_deep : (size text rest : List ℕ) → SpellsUnsigned 32 (length text) size → PassesNesting text → code_at usual_room (size ++ (text ++ rest)) ≡ Err TooDeep
code_deep size text rest n p = code_not_read size text rest n TooDeep (func_deep text p)
