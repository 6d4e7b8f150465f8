-- A section is read as it is spelled.
use Rattle.std.proofs.Common.{◌≡◌, ℕ, ◌<◌, ◌≤◌, List, [], ◌∷◌, ◌++◌, Ok, Err, refl, sym, ap, subst, ◌∙◌, append_assoc, inl, inr}
use Rattle.std.specs.Prelude.{◌⊎◌}
use Rattle.spec_binary.specs.Sections.{Progress, Contents, IsSection, section}
use Rattle.spec_binary.specs.declared.fault.DecodeFault.{DecodeFault}
use Rattle.spec_binary.specs.declared.fault.DecodeFault.TheVariants.{Malformed}
use Rattle.spec_reading.specs.Values.{cut_at}
use Rattle.spec_reading.specs.Bodies.{Room, usual_room}
use Rattle.spec_reading.specs.Sections.{in_section, contents_at, section_at}
use Rattle.spec_reading.proofs.Steps.{bind_ok, bind_err, ok_is, err_is}
use Rattle.spec_reading.proofs.Values.{Cuts, cut_again, cut_sound}
use Rattle.spec_reading.proofs.CodeSections.{CodesEnd, in_section_ok, in_section_err}
use Rattle.spec_reading.proofs.Contents.{HasRoom, Means, contents_sound, contents_complete, ContentsEnd, malformed, bodies, contents_end}

-- a section at the front of a text, and what follows it
pub record TakesSection (room : Room) (s : Progress) (text : List ℕ) (t : Progress) (rest : List ℕ) : Type 0 where
  pub id : ℕ
  pub contents : List ℕ
  pub word : List ℕ
  pub framed : IsSection id contents word
  pub means : Means room s id contents t
  pub parts : text ≡ word ++ rest

-- why no section is read: what stands there is malformed, or a code section in which reading ends
pub record EndsInCode (sections : ℕ) (s : Progress) (text : List ℕ) (e : DecodeFault) : Type 0 where
  pub order : s.last < 11
  pub contents : List ℕ
  pub word : List ℕ
  pub framed : IsSection 0x0A contents word
  pub after : List ℕ
  pub follows : text ≡ word ++ after
  pub ends : CodesEnd sections contents e

module _ (sections : ℕ) where
  pub section_complete : (room : Room) (s : Progress) (id : ℕ) (contents word : List ℕ) (t : Progress) → IsSection id contents word → Contents s id contents t
      → (11 ≤ t.last → HasRoom room t) → (rest : List ℕ) → section_at room sections s (word ++ rest) ≡ Ok (t, rest)
  unfolding section_at
  section_complete room s id w u t (section {size} {contents} n) c keeps rest =
      rw (append_assoc size contents rest, cut_again size contents rest n, contents_complete room sections s id contents t c keeps) refl

  pub section_sound : (room : Room) (s : Progress) (text : List ℕ) (t : Progress) (rest : List ℕ) → section_at room sections s text ≡ Ok (t, rest) → TakesSection room s text t rest
  unfolding section_at
  section_sound room s [] t rest e = absurd cc
  section_sound room s (id ∷ text) t rest e =
      let c = bind_ok (in_section sections (cut_at text)) _ (t, rest) e in
      let u = bind_ok (contents_at room sections s id c.0.0) _ (t, rest) c.2 in
      let cuts = cut_sound text c.0.0 c.0.1 (in_section_ok sections (cut_at text) c.0 c.1) in
      subst (λ (p : Progress × List ℕ). TakesSection room s (id ∷ text) p.0 p.1) (ok_is DecodeFault (u.0, c.0.1) (t, rest) u.2)
      (record {
        id = id;
        contents = c.0.0;
        word = id ∷ cuts.size ++ c.0.0;
        framed = section cuts.count;
        means = contents_sound room sections s c.0.0 id u.0 u.1;
        parts = ap (λ l. id ∷ l) (cuts.parts ∙ sym (append_assoc cuts.size c.0.0 c.0.1));
      })

  ends_in_code : (s : Progress) (id : ℕ) (text contents rest : List ℕ) → Cuts text contents rest → (e : DecodeFault) → ContentsEnd sections s contents e id
      → (e ≡ Malformed sections) ⊎ EndsInCode sections s (id ∷ text) e
  ends_in_code s id text contents rest cuts e (malformed p) = inl p
  ends_in_code s id text contents rest cuts e (bodies order p) = inr (record {
    order = order;
    contents = contents;
    word = 0x0A ∷ cuts.size ++ contents;
    framed = section cuts.count;
    after = rest;
    follows = ap (λ l. 0x0A ∷ l) (cuts.parts ∙ sym (append_assoc cuts.size contents rest));
    ends = p;
  })

  pub section_end : (s : Progress) (text : List ℕ) (e : DecodeFault) → section_at usual_room sections s text ≡ Err e → (e ≡ Malformed sections) ⊎ EndsInCode sections s text e
  unfolding section_at
  section_end s [] e h = inl (sym (err_is DecodeFault _ _ h))
  section_end s (id ∷ text) e h = elim (bind_err (in_section sections (cut_at text)) _ e h) [
    | inl p ↦ inl (in_section_err sections (cut_at text) e p)
    | inr c ↦
        let cuts = cut_sound text c.0.0 c.0.1 (in_section_ok sections (cut_at text) c.0 c.1) in
        elim (bind_err (contents_at usual_room sections s id c.0.0) _ e c.2) [
          | inl p ↦ ends_in_code s id text c.0.0 c.0.1 cuts e (contents_end sections s c.0.0 e id p)
          | inr u ↦ absurd (let q = u.2 in cc)
        ]
  ]
