-- Groups of locals are read as they are spelled, up to so many locals.
use Rattle.std.proofs.Common.{◌≡◌, ℕ, zero, suc, ◌+◌, ◌<◌, ◌≤◌, true, false, ltb, List, [], ◌∷◌, ◌++◌, length, Ok, Err, refl, sym, ap, subst, ◌∙◌, append_assoc, arith, inl, inr}
use Rattle.std.specs.Prelude.{◌⊎◌}
use Rattle.std.proofs.lemmas.Bool.{ltb-false, le-ltb, lt-ltb, ltb-true}
use Rattle.spec_binary.specs.wasm_form.declared.module.Group.{Group}
use Rattle.spec_binary.specs.Number.{SpellsUnsigned}
use Rattle.spec_binary.specs.Sequence.{SpellsEach, none, next, SpellsVec, vec}
use Rattle.spec_binary.specs.BodyLimits.{local_count, most_locals}
use Rattle.spec_binary.specs.Parts.{SpellsGroup, group}
use Rattle.spec_binary.specs.DecodeAnswers.{PassesLocals}
use Rattle.spec_reading.specs.Steps.{Break, Broken, TooManyLocals}
use Rattle.spec_reading.specs.Values.{number_at}
use Rattle.spec_reading.specs.Types.{val_type_at}
use Rattle.spec_reading.specs.Bodies.{groups_at, locals_at}
use Rattle.spec_reading.proofs.Steps.{bind_ok, bind_err, chosen, chosen_second, ok_is, err_is, Takes}
use Rattle.spec_reading.proofs.Values.{number_complete, number_sound, number_plain}
use Rattle.spec_reading.proofs.Types.{val_type_complete, val_type_sound, val_type_plain}

-- k groups at the front of a text, which keep to so many locals
pub record TakesGroups (most k so_far : ℕ) (text : List ℕ) (gs : List Group) (rest : List ℕ) : Type 0 where
  pub word : List ℕ
  pub spelled : SpellsEach SpellsGroup gs word
  pub parts : text ≡ word ++ rest
  pub count : length gs ≡ k
  pub within : so_far + local_count gs ≤ most

-- fewer than k groups, and a number that is too large for one more
pub record PassesGroups (most k so_far : ℕ) (text : List ℕ) : Type 0 where
  pub front : List Group
  pub front_word : List ℕ
  pub spelled_front : SpellsEach SpellsGroup front front_word
  pub more : length front < k
  pub within : so_far + local_count front ≤ most
  pub count : ℕ
  pub count_word : List ℕ
  pub spelled_count : SpellsUnsigned 32 count count_word
  pub passed : most < so_far + local_count front + count
  pub rest : List ℕ
  pub parts : text ≡ front_word ++ (count_word ++ rest)

module _ (most : ℕ) where
  groups_complete : (gs : List Group) (w : List ℕ) → SpellsEach SpellsGroup gs w → (so_far : ℕ) → so_far + local_count gs ≤ most → (rest : List ℕ)
      → groups_at most (length gs) so_far (w ++ rest) ≡ Ok (gs, rest)
  unfolding groups_at
  groups_complete gs w none so_far lt rest = refl
  groups_complete gs w (next {xs} {v = u} (group {g} {w = x} {v} p q) s) so_far lt rest =
      let room : ltb most (so_far + g.count) ≡ false = le-ltb _ _ (omega arith) in
      rw (
        append_assoc (x ++ v) u rest,
        append_assoc x v (u ++ rest),
        number_complete 32 g.count x p (v ++ (u ++ rest)),
        room,
        val_type_complete g.ty v q (u ++ rest),
        groups_complete xs u s (so_far + g.count) (omega arith) rest,
      ) refl

  groups_passed : (gs : List Group) (w : List ℕ) → SpellsEach SpellsGroup gs w → (k so_far : ℕ) → length gs < k → so_far + local_count gs ≤ most → (count : ℕ) (word : List ℕ)
      → SpellsUnsigned 32 count word → most < so_far + local_count gs + count → (rest : List ℕ) → groups_at most k so_far (w ++ (word ++ rest)) ≡ Err TooManyLocals
  unfolding groups_at
  groups_passed gs w s zero so_far more lt count word n passed rest = absurd (omega arith)
  groups_passed gs w none (suc k) so_far more lt count word n passed rest =
      let past : ltb most (so_far + count) ≡ true = lt-ltb _ _ (omega arith) in
      rw (number_complete 32 count word n rest, past) refl
  groups_passed gs w (next {xs} {v = u} (group {g} {w = x} {v} p q) s) (suc k) so_far more lt count word n passed rest =
      let room : ltb most (so_far + g.count) ≡ false = le-ltb _ _ (omega arith) in
      rw (
        append_assoc (x ++ v) u (word ++ rest),
        append_assoc x v (u ++ (word ++ rest)),
        number_complete 32 g.count x p (v ++ (u ++ (word ++ rest))),
        room,
        val_type_complete g.ty v q (u ++ (word ++ rest)),
        groups_passed xs u s k (so_far + g.count) (omega arith) (omega arith) count word n (omega arith) rest,
      ) refl

  group_parts : (text a b c u v w rest : List ℕ) → text ≡ u ++ a → a ≡ v ++ b → b ≡ w ++ rest → text ≡ ((u ++ v) ++ w) ++ rest
  group_parts text a b c u v w rest p q r = p ∙ ap (λ l. u ++ l) (q ∙ ap (λ l. v ++ l) r) ∙ sym (append_assoc u v (w ++ rest)) ∙ sym (append_assoc (u ++ v) w rest)

  groups_sound : (k so_far : ℕ) → so_far ≤ most → (text : List ℕ) (gs : List Group) (rest : List ℕ) → groups_at most k so_far text ≡ Ok (gs, rest)
      → TakesGroups most k so_far text gs rest
  unfolding groups_at
  groups_sound zero so_far lt text gs rest e =
      subst (λ (p : List Group × List ℕ). TakesGroups most zero so_far text p.0 p.1) (ok_is Break ([], text) (gs, rest) e)
      (record { word = []; spelled = none; parts = refl; count = refl; within = omega arith })
  groups_sound (suc k) so_far lt text gs rest e =
      let n = bind_ok (number_at 32 text) _ (gs, rest) e in
      let l = chosen_second (ltb most (so_far + n.0.0)) _ _ _ n.2 in
      let t = bind_ok (val_type_at n.0.1) _ (gs, rest) l.1 in
      let g = bind_ok (groups_at most k (so_far + n.0.0) t.0.1) _ (gs, rest) t.2 in
      let count = number_sound 32 text n.0.0 n.0.1 n.1 in
      let type = val_type_sound n.0.1 t.0.0 t.0.1 t.1 in
      let others = groups_sound k (so_far + n.0.0) (ltb-false _ _ l.0) t.0.1 g.0.0 g.0.1 g.1 in
      subst (λ (p : List Group × List ℕ). TakesGroups most (suc k) so_far text p.0 p.1) (ok_is Break (record { count = n.0.0; ty = t.0.0 } ∷ g.0.0, g.0.1) (gs, rest) g.2)
      (record {
        word = (count.word ++ type.word) ++ others.word;
        spelled = next (group count.spelled type.spelled) others.spelled;
        parts = group_parts text n.0.1 t.0.1 rest count.word type.word others.word g.0.1 count.parts type.parts others.parts;
        count = ap suc others.count;
        within = let h = others.within in omega arith;
      })

  -- a group that is well spelled and keeps its room, before groups that don't
  passes_after : (k so_far : ℕ) (text after : List ℕ) (g : Group) (w v : List ℕ) → SpellsGroup g (w ++ v) → text ≡ (w ++ v) ++ after → PassesGroups most k (so_far + g.count) after
      → PassesGroups most (suc k) so_far text
  passes_after k so_far text after g w v s e p = record {
    front = g ∷ p.front;
    front_word = (w ++ v) ++ p.front_word;
    spelled_front = next s p.spelled_front;
    more = let h = p.more in omega arith;
    within = let h = p.within in omega arith;
    count = p.count;
    count_word = p.count_word;
    spelled_count = p.spelled_count;
    passed = let h = p.passed in omega arith;
    rest = p.rest;
    parts = e ∙ ap (λ l. (w ++ v) ++ l) p.parts ∙ sym (append_assoc (w ++ v) p.front_word (p.count_word ++ p.rest));
  }

  groups_err : (k so_far : ℕ) → so_far ≤ most → (text : List ℕ) (d : Break) → groups_at most k so_far text ≡ Err d → (d ≡ Broken) ⊎ ((d ≡ TooManyLocals) × PassesGroups most k so_far text)
  unfolding groups_at
  groups_err zero so_far lt text d e = absurd cc
  groups_err (suc k) so_far lt text d e = elim (bind_err (number_at 32 text) _ d e) [
    | inl p ↦ inl (number_plain 32 text d p)
    | inr n ↦
        let count = number_sound 32 text n.0.0 n.0.1 n.1 in
        elim (chosen (ltb most (so_far + n.0.0)) _ _ _ n.2) [
          | inl l ↦ inr (
            sym (err_is Break _ _ l.1),
            record {
              front = [];
              front_word = [];
              spelled_front = none;
              more = omega arith;
              within = omega arith;
              count = n.0.0;
              count_word = count.word;
              spelled_count = count.spelled;
              passed = let h = ltb-true _ _ l.0 in omega arith;
              rest = n.0.1;
              parts = count.parts;
            },
          )
          | inr l ↦ elim (bind_err (val_type_at n.0.1) _ d l.1) [
            | inl p ↦ inl (val_type_plain n.0.1 d p)
            | inr t ↦
                let type = val_type_sound n.0.1 t.0.0 t.0.1 t.1 in
                elim (bind_err (groups_at most k (so_far + n.0.0) t.0.1) _ d t.2) [
                  | inl p ↦ elim (groups_err k (so_far + n.0.0) (ltb-false _ _ l.0) t.0.1 d p) [
                    | inl q ↦ inl q
                    | inr q ↦ inr (
                      q.0,
                      passes_after k so_far text t.0.1 (record { count = n.0.0; ty = t.0.0 }) count.word type.word (group count.spelled type.spelled)
                          (count.parts ∙ ap (λ l. count.word ++ l) type.parts ∙ sym (append_assoc count.word type.word t.0.1)) q.1,
                    )
                  ]
                  | inr g ↦ absurd (let h = g.2 in cc)
                ]
          ]
        ]
  ]

  pub locals_complete : (gs : List Group) (w : List ℕ) → SpellsVec SpellsGroup gs w → local_count gs ≤ most → (rest : List ℕ) → locals_at most (w ++ rest) ≡ Ok (gs, rest)
  unfolding locals_at
  locals_complete gs u (vec {count} {w} n p) lt rest = rw (append_assoc count w rest, number_complete 32 (length gs) count n (w ++ rest)) (groups_complete gs w p 0 (omega arith) rest)

  pub locals_sound : (text : List ℕ) (gs : List Group) (rest : List ℕ) → locals_at most text ≡ Ok (gs, rest) → Takes (SpellsVec SpellsGroup) text gs rest × (local_count gs ≤ most)
  unfolding locals_at
  locals_sound text gs rest e =
      let n = bind_ok (number_at 32 text) _ (gs, rest) e in
      let c = number_sound 32 text n.0.0 n.0.1 n.1 in
      let y = groups_sound n.0.0 0 (omega arith) n.0.1 gs rest n.2 in (
        record { word = c.word ++ y.word; spelled = vec (rw y.count c.spelled) y.spelled; parts = c.parts ∙ ap (λ l. c.word ++ l) y.parts ∙ sym (append_assoc c.word y.word rest) },
        let h = y.within in omega arith,
      )

pub locals_passed : (text : List ℕ) → PassesLocals text → locals_at most_locals text ≡ Err TooManyLocals
unfolding locals_at
locals_passed text p =
    rw (p.parts, number_complete 32 p.groups p.number p.spelled_number (p.front_word ++ (p.count_word ++ p.rest)))
    (groups_passed most_locals p.front p.front_word p.spelled_front p.groups 0 p.more (let h = p.within in omega arith) p.count p.count_word p.spelled_count (let h = p.passed in omega arith) p.rest)

pub locals_err : (text : List ℕ) (d : Break) → locals_at most_locals text ≡ Err d → (d ≡ Broken) ⊎ ((d ≡ TooManyLocals) × PassesLocals text)
unfolding locals_at
locals_err text d e = elim (bind_err (number_at 32 text) _ d e) [
  | inl p ↦ inl (number_plain 32 text d p)
  | inr n ↦
      let c = number_sound 32 text n.0.0 n.0.1 n.1 in
      elim (groups_err most_locals n.0.0 0 (omega arith) n.0.1 d n.2) [
        | inl q ↦ inl q
        | inr q ↦ inr (
          q.0,
          record {
            groups = n.0.0;
            number = c.word;
            spelled_number = c.spelled;
            front = q.1.front;
            front_word = q.1.front_word;
            spelled_front = q.1.spelled_front;
            more = q.1.more;
            within = let h = q.1.within in omega arith;
            count = q.1.count;
            count_word = q.1.count_word;
            spelled_count = q.1.spelled_count;
            passed = let h = q.1.passed in omega arith;
            rest = q.1.rest;
            parts = c.parts ∙ ap (λ l. c.word ++ l) q.1.parts;
          },
        )
      ]
]
