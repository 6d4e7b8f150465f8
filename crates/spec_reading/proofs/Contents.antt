-- The contents of sections are read as they are spelled.
use Rattle.std.proofs.Common.{◌≡◌, ℕ, ◌<◌, ◌≤◌, cond, ltb, eqb, List, ◌++◌, Result, Ok, Err, refl, sym, subst, arith, inl, inr}
use Rattle.std.specs.List.{All}
use Rattle.std.proofs.lemmas.Bool.{lt-ltb, ltb-true, eqb-true}
use Rattle.spec_binary.specs.wasm_form.declared.module.Code.{Code}
use Rattle.spec_binary.specs.Number.{SpellsUnsigned}
use Rattle.spec_binary.specs.Name.{SpellsName}
use Rattle.spec_binary.specs.Sequence.{SpellsVec}
use Rattle.spec_binary.specs.Types.{SpellsFuncType, SpellsLimits, SpellsTableType}
use Rattle.spec_binary.specs.Parts.{SpellsImport, SpellsGlobal, SpellsExport, SpellsElem, SpellsCode, SpellsData}
use Rattle.spec_binary.specs.Sections.{Progress, with_custom, with_types, with_imports, with_funcs, with_tables, with_memories, with_globals, with_exports, with_start, with_elems, with_data_count, with_codes, with_datas, Contents, custom, types, imports, funcs, tables, memories, globals, exports, start, elems, data_count, codes, datas}
use Rattle.spec_binary.specs.declared.fault.DecodeFault.{DecodeFault}
use Rattle.spec_binary.specs.declared.fault.DecodeFault.TheVariants.{Malformed}
use Rattle.spec_reading.specs.Steps.{Read, whole}
use Rattle.spec_reading.specs.Values.{number_at, name_at, vec_at}
use Rattle.spec_reading.specs.Types.{func_type_at, table_type_at, limits_at}
use Rattle.spec_reading.specs.Parts.{import_at, global_at, export_at, elem_at, data_at}
use Rattle.spec_reading.specs.Bodies.{Room, usual_room}
use Rattle.spec_reading.specs.Sections.{in_section, custom_at, field_at, codes_at, code_section_at, contents_at}
use Rattle.spec_reading.proofs.Steps.{bind_ok, bind_err, chosen, chosen_first, ok_is, err_is, IsComplete, IsSound, whole_complete, whole_sound}
use Rattle.spec_reading.proofs.Values.{number_complete, number_sound, name_complete, name_sound}
use Rattle.spec_reading.proofs.Vectors.{vec_complete, vec_sound}
use Rattle.spec_reading.proofs.Types.{func_type_complete, func_type_sound, limits_complete, limits_sound, table_type_complete, table_type_sound}
use Rattle.spec_reading.proofs.Parts.{import_complete, import_sound, global_complete, global_sound, export_complete, export_sound}
use Rattle.spec_reading.proofs.Segments.{elem_complete, elem_sound, data_complete, data_sound}
use Rattle.spec_reading.proofs.Bodies.{Keeps}
use Rattle.spec_reading.proofs.CodeSections.{CodesEnd, in_section_ok, in_section_err, codes_complete, codes_sound, codes_end}

-- the bodies have room
abbrev pub HasRoom : Room → Progress → Type 0
HasRoom room s = All (Keeps room) s.fields.codes

-- the contents are so, and leave the bodies of a module their room
abbrev pub Means : Room → Progress → ℕ → List ℕ → Progress → Type 0
Means room s id w t = Contents s id w t × (HasRoom room s → HasRoom room t)

module _ (sections : ℕ) where
  custom_complete : (s : Progress) (name w bytes : List ℕ) → SpellsName name w → custom_at sections s (w ++ bytes) ≡ Ok (with_custom s name bytes)
  unfolding custom_at
  custom_complete s name w bytes n = rw (name_complete name w n bytes) refl

  custom_sound : (room : Room) (s : Progress) (w : List ℕ) (t : Progress) → custom_at sections s w ≡ Ok t → Means room s 0 w t
  unfolding custom_at
  custom_sound room s w t e =
      let n = bind_ok (in_section sections (name_at w)) _ t e in
      let name = name_sound w n.0.0 n.0.1 (in_section_ok sections (name_at w) n.0 n.1) in
      subst (Means room s 0 w) (ok_is DecodeFault (with_custom s n.0.0 n.0.1) t n.2) (subst (λ w. Contents s 0 w (with_custom s n.0.0 n.0.1)) (sym name.parts) (custom n.0.1 name.spelled), λ h. h)

  custom_end : (s : Progress) (w : List ℕ) (e : DecodeFault) → custom_at sections s w ≡ Err e → e ≡ Malformed sections
  unfolding custom_at
  custom_end s w e h = elim (bind_err (in_section sections (name_at w)) _ e h) [
    | inl p ↦ in_section_err sections (name_at w) e p
    | inr n ↦ absurd (let q = n.2 in cc)
  ]

  module _ {A : Type 0} (Spells : A → List ℕ → Type 0) (read : List ℕ → Read A) (put : Progress → A → Progress) (rank : ℕ) (s : Progress) (w : List ℕ) where
    field_complete : IsComplete Spells read → (x : A) → s.last < rank → Spells x w → field_at read put rank sections s w ≡ Ok (put s x)
    unfolding field_at
    field_complete complete x order p = rw (lt-ltb _ _ order, whole_complete Spells read complete x w p) refl

    field_sound : IsSound Spells read → (M : Progress → Type 0) → ((x : A) → s.last < rank → Spells x w → M (put s x)) → (t : Progress) → field_at read put rank sections s w ≡ Ok t → M t
    unfolding field_at
    field_sound sound M make t e =
        let l = chosen_first (ltb s.last rank) _ _ t e in
        let x = bind_ok (in_section sections (whole (read w))) _ t l.1 in
        subst M (ok_is DecodeFault (put s x.0) t x.2) (make x.0 (ltb-true _ _ l.0) (whole_sound Spells read sound w x.0 (in_section_ok sections (whole (read w)) x.0 x.1)))

    field_end : (e : DecodeFault) → field_at read put rank sections s w ≡ Err e → e ≡ Malformed sections
    unfolding field_at
    field_end e h = elim (chosen (ltb s.last rank) _ _ _ h) [
      | inl l ↦ elim (bind_err (in_section sections (whole (read w))) _ e l.1) [
        | inl p ↦ in_section_err sections (whole (read w)) e p
        | inr x ↦ absurd (let q = x.2 in cc)
      ]
      | inr l ↦ sym (err_is DecodeFault _ _ l.1)
    ]

  module _ {A : Type 0} (Spells : A → List ℕ → Type 0) (read : List ℕ → Read A) (put : Progress → List A → Progress) (rank : ℕ) (s : Progress) (w : List ℕ) where
    vec_field_complete : IsComplete Spells read → (xs : List A) → s.last < rank → SpellsVec Spells xs w → field_at (vec_at read) put rank sections s w ≡ Ok (put s xs)
    vec_field_complete complete xs order p = field_complete (SpellsVec Spells) (vec_at read) put rank s w (vec_complete Spells read complete) xs order p

    vec_field_sound : IsSound Spells read → (M : Progress → Type 0) → ((xs : List A) → s.last < rank → SpellsVec Spells xs w → M (put s xs)) → (t : Progress)
        → field_at (vec_at read) put rank sections s w ≡ Ok t → M t
    vec_field_sound sound M make t e = field_sound (SpellsVec Spells) (vec_at read) put rank s w (vec_sound Spells read sound) M make t e

-- what of `Contents` a section of this number says
pick : (id k : ℕ) (x y z : Result Progress DecodeFault) (M : ℕ → Type 0) → cond (eqb id k) x y ≡ z → (x ≡ z → M k) → (y ≡ z → M id) → M id
pick id k x y z M e f g = elim (chosen (eqb id k) x y z e) [ inl p ↦ subst M (sym (eqb-true id k p.0)) (f p.1) | inr p ↦ g p.1 ]

module _ (room : Room) (sections : ℕ) (s : Progress) (w : List ℕ) where
  code_section_complete : (cs : List Code) → s.last < 11 → SpellsVec SpellsCode cs w → All (Keeps room) cs → code_section_at room sections s w ≡ Ok (with_codes s cs)
  unfolding code_section_at
  code_section_complete cs order p keeps = rw (lt-ltb _ _ order, codes_complete room sections cs w p keeps) refl

  code_section_sound : (t : Progress) → code_section_at room sections s w ≡ Ok t → Means room s 10 w t
  unfolding code_section_at
  code_section_sound t e =
      let l = chosen_first (ltb s.last 11) _ _ t e in
      let cs = bind_ok (codes_at room sections w) _ t l.1 in
      let p = codes_sound room sections w cs.0 cs.1 in
      subst (Means room s 10 w) (ok_is DecodeFault (with_codes s cs.0) t cs.2) (codes (ltb-true _ _ l.0) p.0, λ h. p.1)

  -- every section writes its field as it is spelled
  pub contents_sound : (id : ℕ) (t : Progress) → contents_at room sections s id w ≡ Ok t → Means room s id w t
  unfolding contents_at
  contents_sound id t e =
      let Here : ℕ → Type 0 = λ n. Means room s n w t in
      pick id 0 _ _ (Ok t) Here e (custom_sound sections room s w t) (λ e.
      pick id 1 _ _ (Ok t) Here e (vec_field_sound sections SpellsFuncType func_type_at with_types 1 s w func_type_sound (Means room s 1 w) (λ x l p. (types l p, λ h. h)) t) (λ e.
      pick id 2 _ _ (Ok t) Here e (vec_field_sound sections SpellsImport import_at with_imports 2 s w import_sound (Means room s 2 w) (λ x l p. (imports l p, λ h. h)) t) (λ e.
      pick id 3 _ _ (Ok t) Here e (vec_field_sound sections (SpellsUnsigned 32) (number_at 32) with_funcs 3 s w (number_sound 32) (Means room s 3 w) (λ x l p. (funcs l p, λ h. h)) t) (λ e.
      pick id 4 _ _ (Ok t) Here e (vec_field_sound sections SpellsTableType table_type_at with_tables 4 s w table_type_sound (Means room s 4 w) (λ x l p. (tables l p, λ h. h)) t) (λ e.
      pick id 5 _ _ (Ok t) Here e (vec_field_sound sections SpellsLimits limits_at with_memories 5 s w limits_sound (Means room s 5 w) (λ x l p. (memories l p, λ h. h)) t) (λ e.
      pick id 6 _ _ (Ok t) Here e (vec_field_sound sections SpellsGlobal global_at with_globals 6 s w global_sound (Means room s 6 w) (λ x l p. (globals l p, λ h. h)) t) (λ e.
      pick id 7 _ _ (Ok t) Here e (vec_field_sound sections SpellsExport export_at with_exports 7 s w export_sound (Means room s 7 w) (λ x l p. (exports l p, λ h. h)) t) (λ e.
      pick id 8 _ _ (Ok t) Here e (field_sound sections (SpellsUnsigned 32) (number_at 32) with_start 8 s w (number_sound 32) (Means room s 8 w) (λ x l p. (start l p, λ h. h)) t) (λ e.
      pick id 9 _ _ (Ok t) Here e (vec_field_sound sections SpellsElem elem_at with_elems 9 s w elem_sound (Means room s 9 w) (λ x l p. (elems l p, λ h. h)) t) (λ e.
      pick id 10 _ _ (Ok t) Here e (code_section_sound t) (λ e.
      pick id 11 _ _ (Ok t) Here e (vec_field_sound sections SpellsData data_at with_datas 12 s w data_sound (Means room s 11 w) (λ x l p. (datas l p, λ h. h)) t) (λ e.
      pick id 12 _ _ (Ok t) Here e (field_sound sections (SpellsUnsigned 32) (number_at 32) with_data_count 10 s w (number_sound 32) (Means room s 12 w) (λ x l p. (data_count l p, λ h. h)) t) (λ e. absurd cc)))))))))))))

pub contents_complete : (room : Room) (sections : ℕ) (s : Progress) (id : ℕ) (w : List ℕ) (t : Progress) → Contents s id w t → (11 ≤ t.last → HasRoom room t)
    → contents_at room sections s id w ≡ Ok t
unfolding contents_at
contents_complete room n _ _ _ _ (custom {s} {name} {w} bytes p) keeps = custom_complete n s name w bytes p
contents_complete room n _ _ w _ (types {s} {xs} l p) keeps = vec_field_complete n SpellsFuncType func_type_at with_types 1 s w func_type_complete xs l p
contents_complete room n _ _ w _ (imports {s} {xs} l p) keeps = vec_field_complete n SpellsImport import_at with_imports 2 s w import_complete xs l p
contents_complete room n _ _ w _ (funcs {s} {xs} l p) keeps = vec_field_complete n (SpellsUnsigned 32) (number_at 32) with_funcs 3 s w (number_complete 32) xs l p
contents_complete room n _ _ w _ (tables {s} {xs} l p) keeps = vec_field_complete n SpellsTableType table_type_at with_tables 4 s w table_type_complete xs l p
contents_complete room n _ _ w _ (memories {s} {xs} l p) keeps = vec_field_complete n SpellsLimits limits_at with_memories 5 s w limits_complete xs l p
contents_complete room n _ _ w _ (globals {s} {xs} l p) keeps = vec_field_complete n SpellsGlobal global_at with_globals 6 s w global_complete xs l p
contents_complete room n _ _ w _ (exports {s} {xs} l p) keeps = vec_field_complete n SpellsExport export_at with_exports 7 s w export_complete xs l p
contents_complete room n _ _ w _ (start {s} {n = x} l p) keeps = field_complete n (SpellsUnsigned 32) (number_at 32) with_start 8 s w (number_complete 32) x l p
contents_complete room n _ _ w _ (elems {s} {xs} l p) keeps = vec_field_complete n SpellsElem elem_at with_elems 9 s w elem_complete xs l p
contents_complete room n _ _ w _ (data_count {s} {n = x} l p) keeps = field_complete n (SpellsUnsigned 32) (number_at 32) with_data_count 10 s w (number_complete 32) x l p
contents_complete room n _ _ w _ (codes {s} {xs} l p) keeps = code_section_complete room n s w xs l p (keeps (omega arith))
contents_complete room n _ _ w _ (datas {s} {xs} l p) keeps = vec_field_complete n SpellsData data_at with_datas 12 s w data_complete xs l p

-- why contents aren't read: they are malformed, or of a code section in which reading ends
pub data ContentsEnd (sections : ℕ) (s : Progress) (w : List ℕ) (e : DecodeFault) : ℕ → Type 0 where
  malformed : {id : ℕ} → e ≡ Malformed sections → ContentsEnd sections s w e id
  bodies : s.last < 11 → CodesEnd sections w e → ContentsEnd sections s w e 10

module _ (sections : ℕ) (s : Progress) (w : List ℕ) (e : DecodeFault) where
  code_section_end : code_section_at usual_room sections s w ≡ Err e → ContentsEnd sections s w e 10
  unfolding code_section_at
  code_section_end h = elim (chosen (ltb s.last 11) _ _ _ h) [
    | inl l ↦ elim (bind_err (codes_at usual_room sections w) _ e l.1) [
      | inl p ↦ bodies (ltb-true _ _ l.0) (codes_end sections w e p)
      | inr x ↦ absurd (let q = x.2 in cc)
    ]
    | inr l ↦ malformed (sym (err_is DecodeFault _ _ l.1))
  ]

  field_ends : {A : Type 0} (read : List ℕ → Read A) (put : Progress → A → Progress) (rank : ℕ) {id : ℕ} → field_at read put rank sections s w ≡ Err e → ContentsEnd sections s w e id
  field_ends read put rank h = malformed (field_end sections (λ x w. Unit {0}) read put rank s w e h)

  pub contents_end : (id : ℕ) → contents_at usual_room sections s id w ≡ Err e → ContentsEnd sections s w e id
  unfolding contents_at
  contents_end id h =
      let Here : ℕ → Type 0 = ContentsEnd sections s w e in
      pick id 0 _ _ (Err e) Here h (λ h. malformed (custom_end sections s w e h)) (λ h.
      pick id 1 _ _ (Err e) Here h (field_ends _ _ _) (λ h.
      pick id 2 _ _ (Err e) Here h (field_ends _ _ _) (λ h.
      pick id 3 _ _ (Err e) Here h (field_ends _ _ _) (λ h.
      pick id 4 _ _ (Err e) Here h (field_ends _ _ _) (λ h.
      pick id 5 _ _ (Err e) Here h (field_ends _ _ _) (λ h.
      pick id 6 _ _ (Err e) Here h (field_ends _ _ _) (λ h.
      pick id 7 _ _ (Err e) Here h (field_ends _ _ _) (λ h.
      pick id 8 _ _ (Err e) Here h (field_ends _ _ _) (λ h.
      pick id 9 _ _ (Err e) Here h (field_ends _ _ _) (λ h.
      pick id 10 _ _ (Err e) Here h code_section_end (λ h.
      pick id 11 _ _ (Err e) Here h (field_ends _ _ _) (λ h.
      pick id 12 _ _ (Err e) Here h (field_ends _ _ _) (λ h. malformed (sym (err_is DecodeFault _ _ h)))))))))))))))
