-- Of the spellings of a module without custom sections one alone is the shortest.
use Rattle.std.proofs.Common.{◌≡◌, inl, inr, ℕ, zero, suc, ◌+◌, ◌<◌, ◌≤◌, Bool, true, false, List, [], ◌∷◌, ◌++◌, length, length-append, Option, Some, None, refl, sym, ap, ◌∙◌, subst, arith, append_assoc, append-nil}
use Rattle.std.specs.Prelude.{nat_eq, if◌then◌else◌}
use Rattle.std.proofs.lemmas.Bool.{cases_lt, eqb-true, eq-eqb, ne_eqb}
use Rattle.wasm_form.specs.declared.module.Custom.{Custom}
use Rattle.wasm_form.specs.declared.module.Module.{Module}
use Rattle.spec_reading.specs.spec_binary.Number.{SpellsUnsigned, IsShortest}
use Rattle.spec_reading.specs.spec_binary.Sequence.{SpellsVec}
use Rattle.spec_reading.specs.spec_binary.Types.{SpellsFuncType, SpellsLimits, SpellsTableType}
use Rattle.spec_reading.specs.spec_binary.Parts.{SpellsImport, SpellsGlobal, SpellsExport, SpellsElem, SpellsCode, SpellsData}
use Rattle.spec_reading.specs.spec_binary.Sections.{Progress, at_start, with_types, with_imports, with_funcs, with_tables, with_memories, with_globals, with_exports, with_start, with_elems, with_data_count, with_codes, with_datas, Contents, custom, types, imports, funcs, tables, memories, globals, exports, start, elems, data_count, codes, datas, IsSection, section as one_section, Chain, done, next}
use Rattle.spec_reading.specs.spec_binary.Modules.{header, SpellsModule}
use Rattle.spec_reading.specs.spec_binary.Joined.{IsByte, Joined}
use Rattle.spec_reading.proofs.of_spec_binary.Joined.{behind, unjoined}
use Rattle.spec_reading.proofs.of_spec_binary.UnsignedSpelling.{one_shortest_unsigned}
use Rattle.wasm_encode.specs.Written.{SpellsSome, some}
use Rattle.wasm_encode.specs.Begun.{so_far}
use Rattle.wasm_encode.specs.ListSections.{IsStep}
use Rattle.wasm_encode.proofs.Chains.{chain_along, chain_next}
use Rattle.wasm_encode.proofs.Steps.{types_list, imports_list, funcs_list, tables_list, memories_list, globals_list, exports_list, start_step, elems_list, data_count_step, codes_list, datas_list}
use Rattle.wasm_encode.proofs.OneWord.{OneWord, one_is, one_byte, one_like, one_joined, one_vec, Sized, one_sized}
use Rattle.wasm_encode.proofs.OneForm.{one_func_type, one_limits, one_table_type}
use Rattle.wasm_encode.proofs.OnePart.{one_import, one_global, one_export, one_elem, one_code, one_data}

number : (v : ℕ) → OneWord (SpellsUnsigned 32 v)
number v = one_shortest_unsigned 32 v

-- ---- one section, or nothing where there is nothing to write

data Piece (IsLeftOut : Type 0) (Holds : List ℕ → Type 0) (id : ℕ) : List ℕ → Type 0 where
  nothing : IsLeftOut → Piece IsLeftOut Holds id []
  section : {contents w : List ℕ} → Holds contents → IsSection id contents w → Piece IsLeftOut Holds id w

no_bytes : (w : List ℕ) → length w ≤ 0 → w ≡ []
no_bytes [] le = refl
no_bytes (b ∷ w) le = absurd (omega arith)

module _ (L : Type 0) (H : List ℕ → Type 0) (id : ℕ) (one : OneWord H) where
  framed : {contents w : List ℕ} → H contents → IsSection id contents w → Joined (IsByte id) (Sized H) w
  framed {contents} h (one_section {size} n) = behind id (size ++ contents) (record { size = size; contents = contents; number = n; holds = h; parts = refl })

  unframed : (w : List ℕ) → Joined (IsByte id) (Sized H) w → Piece L H id w
  unframed w = unjoined (Piece L H id) (λ b z e s.
      subst (λ x. Piece L H id (x ++ z)) (sym e) (subst (λ y. Piece L H id (id ∷ y)) (sym s.parts) (section s.holds (one_section s.number)))) w

  shortest_framed : {contents w : List ℕ} → H contents → IsSection id contents w → IsShortest (Piece L H id) w → IsShortest (Joined (IsByte id) (Sized H)) w
  shortest_framed h i s = record { spelled = framed h i; least = λ other o. s.least other (unframed other o) }

  same_piece : {w v : List ℕ} → Piece L H id w → Piece L H id v → IsShortest (Piece L H id) w → IsShortest (Piece L H id) v → w ≡ v
  same_piece {v} (nothing out) q s t = sym (no_bytes v (t.least [] (nothing out)))
  same_piece {w} (section h i) (nothing out) s t = no_bytes w (s.least [] (nothing out))
  same_piece {w} {v} (section h i) (section k j) s t = one_joined (one_byte id) (one_sized one) w v (shortest_framed h i s) (shortest_framed k j t)

  one_piece : OneWord (Piece L H id)
  one_piece w v s t = same_piece s.spelled t.spelled s t

some_is : {n : ℕ} {w : List ℕ} → SpellsSome (Some n) w → SpellsUnsigned 32 n w
some_is (some s) = s

none_is : {w : List ℕ} → SpellsSome None w → ⊥
none_is h = elim h [ ]

one_some : (n : Option ℕ) → OneWord (SpellsSome n)
one_some None = λ w v s t. absurd (none_is s.spelled)
one_some (Some n) = one_like (λ w s. some_is s) (λ w s. some s) (number n)

-- ---- the sections of a module by their ranks
abbrev PieceAt : Module → ℕ → List ℕ → Type 0
PieceAt m zero w = w ≡ []
PieceAt m (suc zero) w = Piece (m.types ≡ []) (SpellsVec SpellsFuncType m.types) 1 w
PieceAt m (suc (suc zero)) w = Piece (m.imports ≡ []) (SpellsVec SpellsImport m.imports) 2 w
PieceAt m (suc (suc (suc zero))) w = Piece (m.funcs ≡ []) (SpellsVec (SpellsUnsigned 32) m.funcs) 3 w
PieceAt m (suc (suc (suc (suc zero)))) w = Piece (m.tables ≡ []) (SpellsVec SpellsTableType m.tables) 4 w
PieceAt m (suc (suc (suc (suc (suc zero))))) w = Piece (m.memories ≡ []) (SpellsVec SpellsLimits m.memories) 5 w
PieceAt m (suc (suc (suc (suc (suc (suc zero)))))) w = Piece (m.globals ≡ []) (SpellsVec SpellsGlobal m.globals) 6 w
PieceAt m (suc (suc (suc (suc (suc (suc (suc zero))))))) w = Piece (m.exports ≡ []) (SpellsVec SpellsExport m.exports) 7 w
PieceAt m (suc (suc (suc (suc (suc (suc (suc (suc zero)))))))) w = Piece (m.start ≡ None) (SpellsSome m.start) 8 w
PieceAt m (suc (suc (suc (suc (suc (suc (suc (suc (suc zero))))))))) w = Piece (m.elems ≡ []) (SpellsVec SpellsElem m.elems) 9 w
PieceAt m (suc (suc (suc (suc (suc (suc (suc (suc (suc (suc zero)))))))))) w = Piece (m.data_count ≡ None) (SpellsSome m.data_count) 12 w
PieceAt m (suc (suc (suc (suc (suc (suc (suc (suc (suc (suc (suc zero))))))))))) w = Piece (m.codes ≡ []) (SpellsVec SpellsCode m.codes) 10 w
PieceAt m (suc (suc (suc (suc (suc (suc (suc (suc (suc (suc (suc (suc zero)))))))))))) w = Piece (m.datas ≡ []) (SpellsVec SpellsData m.datas) 11 w
PieceAt m (suc (suc (suc (suc (suc (suc (suc (suc (suc (suc (suc (suc (suc k))))))))))))) w = w ≡ []

one_at : (m : Module) (k : ℕ) → OneWord (PieceAt m k)
one_at m zero = one_is [] (λ w e. e)
one_at m (suc zero) = one_piece (m.types ≡ []) (SpellsVec SpellsFuncType m.types) 1 (one_vec one_func_type m.types)
one_at m (suc (suc zero)) = one_piece (m.imports ≡ []) (SpellsVec SpellsImport m.imports) 2 (one_vec one_import m.imports)
one_at m (suc (suc (suc zero))) = one_piece (m.funcs ≡ []) (SpellsVec (SpellsUnsigned 32) m.funcs) 3 (one_vec number m.funcs)
one_at m (suc (suc (suc (suc zero)))) = one_piece (m.tables ≡ []) (SpellsVec SpellsTableType m.tables) 4 (one_vec one_table_type m.tables)
one_at m (suc (suc (suc (suc (suc zero))))) = one_piece (m.memories ≡ []) (SpellsVec SpellsLimits m.memories) 5 (one_vec one_limits m.memories)
one_at m (suc (suc (suc (suc (suc (suc zero)))))) = one_piece (m.globals ≡ []) (SpellsVec SpellsGlobal m.globals) 6 (one_vec one_global m.globals)
one_at m (suc (suc (suc (suc (suc (suc (suc zero))))))) = one_piece (m.exports ≡ []) (SpellsVec SpellsExport m.exports) 7 (one_vec one_export m.exports)
one_at m (suc (suc (suc (suc (suc (suc (suc (suc zero)))))))) = one_piece (m.start ≡ None) (SpellsSome m.start) 8 (one_some m.start)
one_at m (suc (suc (suc (suc (suc (suc (suc (suc (suc zero))))))))) = one_piece (m.elems ≡ []) (SpellsVec SpellsElem m.elems) 9 (one_vec one_elem m.elems)
one_at m (suc (suc (suc (suc (suc (suc (suc (suc (suc (suc zero)))))))))) = one_piece (m.data_count ≡ None) (SpellsSome m.data_count) 12 (one_some m.data_count)
one_at m (suc (suc (suc (suc (suc (suc (suc (suc (suc (suc (suc zero))))))))))) = one_piece (m.codes ≡ []) (SpellsVec SpellsCode m.codes) 10 (one_vec one_code m.codes)
one_at m (suc (suc (suc (suc (suc (suc (suc (suc (suc (suc (suc (suc zero)))))))))))) = one_piece (m.datas ≡ []) (SpellsVec SpellsData m.datas) 11 (one_vec one_data m.datas)
one_at m (suc (suc (suc (suc (suc (suc (suc (suc (suc (suc (suc (suc (suc k))))))))))))) = one_is [] (λ w e. e)

-- the sections one after the other
abbrev all_words : (ℕ → List ℕ) → ℕ → List ℕ
all_words word zero = []
all_words word (suc n) = all_words word n ++ word (suc n)

abbrev Pieces : Module → (ℕ → List ℕ) → Type 0
Pieces m word = (k : ℕ) → PieceAt m k (word k)

pieces : (m : Module) (word : ℕ → List ℕ) → word 0 ≡ []
    → Piece (m.types ≡ []) (SpellsVec SpellsFuncType m.types) 1 (word 1)
    → Piece (m.imports ≡ []) (SpellsVec SpellsImport m.imports) 2 (word 2)
    → Piece (m.funcs ≡ []) (SpellsVec (SpellsUnsigned 32) m.funcs) 3 (word 3)
    → Piece (m.tables ≡ []) (SpellsVec SpellsTableType m.tables) 4 (word 4)
    → Piece (m.memories ≡ []) (SpellsVec SpellsLimits m.memories) 5 (word 5)
    → Piece (m.globals ≡ []) (SpellsVec SpellsGlobal m.globals) 6 (word 6)
    → Piece (m.exports ≡ []) (SpellsVec SpellsExport m.exports) 7 (word 7)
    → Piece (m.start ≡ None) (SpellsSome m.start) 8 (word 8)
    → Piece (m.elems ≡ []) (SpellsVec SpellsElem m.elems) 9 (word 9)
    → Piece (m.data_count ≡ None) (SpellsSome m.data_count) 12 (word 10)
    → Piece (m.codes ≡ []) (SpellsVec SpellsCode m.codes) 10 (word 11)
    → Piece (m.datas ≡ []) (SpellsVec SpellsData m.datas) 11 (word 12)
    → ((k : ℕ) → 12 < k → word k ≡ []) → Pieces m word
pieces m word p0 p1 p2 p3 p4 p5 p6 p7 p8 p9 p10 p11 p12 above zero = p0
pieces m word p0 p1 p2 p3 p4 p5 p6 p7 p8 p9 p10 p11 p12 above (suc zero) = p1
pieces m word p0 p1 p2 p3 p4 p5 p6 p7 p8 p9 p10 p11 p12 above (suc (suc zero)) = p2
pieces m word p0 p1 p2 p3 p4 p5 p6 p7 p8 p9 p10 p11 p12 above (suc (suc (suc zero))) = p3
pieces m word p0 p1 p2 p3 p4 p5 p6 p7 p8 p9 p10 p11 p12 above (suc (suc (suc (suc zero)))) = p4
pieces m word p0 p1 p2 p3 p4 p5 p6 p7 p8 p9 p10 p11 p12 above (suc (suc (suc (suc (suc zero))))) = p5
pieces m word p0 p1 p2 p3 p4 p5 p6 p7 p8 p9 p10 p11 p12 above (suc (suc (suc (suc (suc (suc zero)))))) = p6
pieces m word p0 p1 p2 p3 p4 p5 p6 p7 p8 p9 p10 p11 p12 above (suc (suc (suc (suc (suc (suc (suc zero))))))) = p7
pieces m word p0 p1 p2 p3 p4 p5 p6 p7 p8 p9 p10 p11 p12 above (suc (suc (suc (suc (suc (suc (suc (suc zero)))))))) = p8
pieces m word p0 p1 p2 p3 p4 p5 p6 p7 p8 p9 p10 p11 p12 above (suc (suc (suc (suc (suc (suc (suc (suc (suc zero))))))))) = p9
pieces m word p0 p1 p2 p3 p4 p5 p6 p7 p8 p9 p10 p11 p12 above (suc (suc (suc (suc (suc (suc (suc (suc (suc (suc zero)))))))))) = p10
pieces m word p0 p1 p2 p3 p4 p5 p6 p7 p8 p9 p10 p11 p12 above (suc (suc (suc (suc (suc (suc (suc (suc (suc (suc (suc zero))))))))))) = p11
pieces m word p0 p1 p2 p3 p4 p5 p6 p7 p8 p9 p10 p11 p12 above (suc (suc (suc (suc (suc (suc (suc (suc (suc (suc (suc (suc zero)))))))))))) = p12
pieces m word p0 p1 p2 p3 p4 p5 p6 p7 p8 p9 p10 p11 p12 above (suc (suc (suc (suc (suc (suc (suc (suc (suc (suc (suc (suc (suc k))))))))))))) = above (suc (suc (suc (suc (suc (suc (suc (suc (suc (suc (suc (suc (suc k))))))))))))) (omega arith)

-- with another word at one rank
abbrev with_word : (ℕ → List ℕ) → ℕ → List ℕ → ℕ → List ℕ
with_word word rank w = λ k. if nat_eq k rank then w else word k

module _ (word : ℕ → List ℕ) (rank : ℕ) (w : List ℕ) where
  word_other : (k : ℕ) → (k ≡ rank → ⊥) → with_word word rank w k ≡ word k
  word_other k other = ap (λ b. if b then w else word k) (ne_eqb k rank other)

  word_there : (k : ℕ) → k ≡ rank → with_word word rank w k ≡ w
  word_there k is = ap (λ b. if b then w else word k) (eq-eqb k rank is)

  below_same : (n : ℕ) → n < rank → all_words (with_word word rank w) n ≡ all_words word n
  below_same zero lt = refl
  below_same (suc n) lt = ap (λ t. t ++ with_word word rank w (suc n)) (below_same n (omega arith)) ∙ ap (λ t. all_words word n ++ t) (word_other (suc n) (λ e. omega arith))

  -- one more word, where there is none from its rank on
  word_added : (n : ℕ) → 0 < rank → rank ≤ n → ((k : ℕ) → rank ≤ k → word k ≡ []) → all_words (with_word word rank w) n ≡ all_words word n ++ w
  word_added zero up le none = absurd (omega arith)
  word_added (suc n) up le none = elim (cases_lt n rank) [
    | inl less ↦
        let here : suc n ≡ rank = omega arith in
        ap (λ t. t ++ with_word word rank w (suc n)) (below_same n less) ∙ ap (λ t. all_words word n ++ t) (word_there (suc n) here)
        ∙ ap (λ t. t ++ w) (sym (append-nil (all_words word n)) ∙ ap (λ t. all_words word n ++ t) (sym (none (suc n) le)))
    | inr more ↦
        let empty : with_word word rank w (suc n) ≡ [] = word_other (suc n) (λ e. omega arith) ∙ none (suc n) le in
        ap (λ t. all_words (with_word word rank w) n ++ t) empty ∙ append-nil (all_words (with_word word rank w) n) ∙ word_added n up more none
        ∙ ap (λ t. t ++ w) (sym (append-nil (all_words word n)) ∙ ap (λ t. all_words word n ++ t) (sym (none (suc n) le)))
  ]

  -- another one in the place of that there is
  word_changed : (n : ℕ) → 0 < rank → rank ≤ n → length (all_words (with_word word rank w) n) + length (word rank) ≡ length (all_words word n) + length w
  word_changed zero up le = absurd (omega arith)
  word_changed (suc n) up le = elim (cases_lt n rank) [
    | inl less ↦
        let here : suc n ≡ rank = omega arith in
        let there = ap length (word_there (suc n) here) in
        let same = ap length (below_same n less) in
        let old = ap (λ k. length (word k)) here in
        omega (arith, there, same, old, length-append (all_words (with_word word rank w) n) (with_word word rank w (suc n)), length-append (all_words word n) (word (suc n)))
    | inr more ↦
        let other = ap length (word_other (suc n) (λ e. omega arith)) in
        let before = word_changed n up more in
        omega (arith, other, before, length-append (all_words (with_word word rank w) n) (with_word word rank w (suc n)), length-append (all_words word n) (word (suc n)))
  ]

-- ---- from a spelling to its sections

record Split (s : Progress) (text : List ℕ) : Type 0 where
  word : ℕ → List ℕ
  zeroth : word 0 ≡ []
  types : Piece (s.fields.types ≡ []) (SpellsVec SpellsFuncType s.fields.types) 1 (word 1)
  imports : Piece (s.fields.imports ≡ []) (SpellsVec SpellsImport s.fields.imports) 2 (word 2)
  funcs : Piece (s.fields.funcs ≡ []) (SpellsVec (SpellsUnsigned 32) s.fields.funcs) 3 (word 3)
  tables : Piece (s.fields.tables ≡ []) (SpellsVec SpellsTableType s.fields.tables) 4 (word 4)
  memories : Piece (s.fields.memories ≡ []) (SpellsVec SpellsLimits s.fields.memories) 5 (word 5)
  globals : Piece (s.fields.globals ≡ []) (SpellsVec SpellsGlobal s.fields.globals) 6 (word 6)
  exports : Piece (s.fields.exports ≡ []) (SpellsVec SpellsExport s.fields.exports) 7 (word 7)
  start : Piece (s.fields.start ≡ None) (SpellsSome s.fields.start) 8 (word 8)
  elems : Piece (s.fields.elems ≡ []) (SpellsVec SpellsElem s.fields.elems) 9 (word 9)
  data_count : Piece (s.fields.data_count ≡ None) (SpellsSome s.fields.data_count) 12 (word 10)
  codes : Piece (s.fields.codes ≡ []) (SpellsVec SpellsCode s.fields.codes) 10 (word 11)
  datas : Piece (s.fields.datas ≡ []) (SpellsVec SpellsData s.fields.datas) 11 (word 12)
  above : (k : ℕ) → s.last < k → word k ≡ []
  parts : text ≡ all_words word 12

above_next : (word : ℕ → List ℕ) (last rank : ℕ) (w : List ℕ) → last < rank → ((k : ℕ) → last < k → word k ≡ []) → (k : ℕ) → rank < k → with_word word rank w k ≡ []
above_next word last rank w lt none k h = word_other word rank w k (λ e. omega arith) ∙ none k (omega arith)

split : (t : Progress) (text : List ℕ) (word : ℕ → List ℕ) → word 0 ≡ []
    → Piece (t.fields.types ≡ []) (SpellsVec SpellsFuncType t.fields.types) 1 (word 1)
    → Piece (t.fields.imports ≡ []) (SpellsVec SpellsImport t.fields.imports) 2 (word 2)
    → Piece (t.fields.funcs ≡ []) (SpellsVec (SpellsUnsigned 32) t.fields.funcs) 3 (word 3)
    → Piece (t.fields.tables ≡ []) (SpellsVec SpellsTableType t.fields.tables) 4 (word 4)
    → Piece (t.fields.memories ≡ []) (SpellsVec SpellsLimits t.fields.memories) 5 (word 5)
    → Piece (t.fields.globals ≡ []) (SpellsVec SpellsGlobal t.fields.globals) 6 (word 6)
    → Piece (t.fields.exports ≡ []) (SpellsVec SpellsExport t.fields.exports) 7 (word 7)
    → Piece (t.fields.start ≡ None) (SpellsSome t.fields.start) 8 (word 8)
    → Piece (t.fields.elems ≡ []) (SpellsVec SpellsElem t.fields.elems) 9 (word 9)
    → Piece (t.fields.data_count ≡ None) (SpellsSome t.fields.data_count) 12 (word 10)
    → Piece (t.fields.codes ≡ []) (SpellsVec SpellsCode t.fields.codes) 10 (word 11)
    → Piece (t.fields.datas ≡ []) (SpellsVec SpellsData t.fields.datas) 11 (word 12)
    → ((k : ℕ) → t.last < k → word k ≡ []) → text ≡ all_words word 12 → Split t text
split t text word p0 p1 p2 p3 p4 p5 p6 p7 p8 p9 p10 p11 p12 above parts = record { word = word; zeroth = p0; types = p1; imports = p2; funcs = p3; tables = p4; memories = p5; globals = p6; exports = p7; start = p8; elems = p9; data_count = p10; codes = p11; datas = p12; above = above; parts = parts }

no_custom : (cs : List Custom) (c : Custom) → cs ++ c ∷ [] ≡ [] → ⊥
no_custom cs c e = omega (arith, ap length e, length-append cs (c ∷ []))

added : {s : Progress} {text : List ℕ} (a : Split s text) (rank : ℕ) (w : List ℕ) → 0 < rank → rank ≤ 12 → s.last < rank → text ++ w ≡ all_words (with_word a.word rank w) 12
added a rank w up le lt = ap (λ t. t ++ w) a.parts ∙ sym (word_added a.word rank w 12 up le (λ k h. a.above k (omega arith)))

-- one more section
split_after : {s t : Progress} {text contents w : List ℕ} {id : ℕ} → Split s text → IsSection id contents w → Contents s id contents t → t.fields.customs ≡ [] → Split t (text ++ w)
split_after a is (custom {s} {name} bytes named) none = absurd (no_custom s.fields.customs (record { rank = s.rank; name = name; bytes = bytes }) none)
split_after {text} {w} a is (types {s} {xs} lt p) none =
    split (with_types s xs) (text ++ w) (with_word a.word 1 w) a.zeroth (section p is) a.imports a.funcs a.tables a.memories a.globals a.exports a.start a.elems a.data_count a.codes a.datas
    (above_next a.word s.last 1 w lt a.above) (added a 1 w (omega arith) (omega arith) lt)
split_after {text} {w} a is (imports {s} {xs} lt p) none =
    split (with_imports s xs) (text ++ w) (with_word a.word 2 w) a.zeroth a.types (section p is) a.funcs a.tables a.memories a.globals a.exports a.start a.elems a.data_count a.codes a.datas
    (above_next a.word s.last 2 w lt a.above) (added a 2 w (omega arith) (omega arith) lt)
split_after {text} {w} a is (funcs {s} {xs} lt p) none =
    split (with_funcs s xs) (text ++ w) (with_word a.word 3 w) a.zeroth a.types a.imports (section p is) a.tables a.memories a.globals a.exports a.start a.elems a.data_count a.codes a.datas
    (above_next a.word s.last 3 w lt a.above) (added a 3 w (omega arith) (omega arith) lt)
split_after {text} {w} a is (tables {s} {xs} lt p) none =
    split (with_tables s xs) (text ++ w) (with_word a.word 4 w) a.zeroth a.types a.imports a.funcs (section p is) a.memories a.globals a.exports a.start a.elems a.data_count a.codes a.datas
    (above_next a.word s.last 4 w lt a.above) (added a 4 w (omega arith) (omega arith) lt)
split_after {text} {w} a is (memories {s} {xs} lt p) none =
    split (with_memories s xs) (text ++ w) (with_word a.word 5 w) a.zeroth a.types a.imports a.funcs a.tables (section p is) a.globals a.exports a.start a.elems a.data_count a.codes a.datas
    (above_next a.word s.last 5 w lt a.above) (added a 5 w (omega arith) (omega arith) lt)
split_after {text} {w} a is (globals {s} {xs} lt p) none =
    split (with_globals s xs) (text ++ w) (with_word a.word 6 w) a.zeroth a.types a.imports a.funcs a.tables a.memories (section p is) a.exports a.start a.elems a.data_count a.codes a.datas
    (above_next a.word s.last 6 w lt a.above) (added a 6 w (omega arith) (omega arith) lt)
split_after {text} {w} a is (exports {s} {xs} lt p) none =
    split (with_exports s xs) (text ++ w) (with_word a.word 7 w) a.zeroth a.types a.imports a.funcs a.tables a.memories a.globals (section p is) a.start a.elems a.data_count a.codes a.datas
    (above_next a.word s.last 7 w lt a.above) (added a 7 w (omega arith) (omega arith) lt)
split_after {text} {w} a is (start {s} {n = number} lt p) none =
    split (with_start s number) (text ++ w) (with_word a.word 8 w) a.zeroth a.types a.imports a.funcs a.tables a.memories a.globals a.exports (section (some p) is) a.elems a.data_count a.codes a.datas
    (above_next a.word s.last 8 w lt a.above) (added a 8 w (omega arith) (omega arith) lt)
split_after {text} {w} a is (elems {s} {xs} lt p) none =
    split (with_elems s xs) (text ++ w) (with_word a.word 9 w) a.zeroth a.types a.imports a.funcs a.tables a.memories a.globals a.exports a.start (section p is) a.data_count a.codes a.datas
    (above_next a.word s.last 9 w lt a.above) (added a 9 w (omega arith) (omega arith) lt)
split_after {text} {w} a is (data_count {s} {n = number} lt p) none =
    split (with_data_count s number) (text ++ w) (with_word a.word 10 w) a.zeroth a.types a.imports a.funcs a.tables a.memories a.globals a.exports a.start a.elems (section (some p) is) a.codes a.datas
    (above_next a.word s.last 10 w lt a.above) (added a 10 w (omega arith) (omega arith) lt)
split_after {text} {w} a is (codes {s} {xs} lt p) none =
    split (with_codes s xs) (text ++ w) (with_word a.word 11 w) a.zeroth a.types a.imports a.funcs a.tables a.memories a.globals a.exports a.start a.elems a.data_count (section p is) a.datas
    (above_next a.word s.last 11 w lt a.above) (added a 11 w (omega arith) (omega arith) lt)
split_after {text} {w} a is (datas {s} {xs} lt p) none =
    split (with_datas s xs) (text ++ w) (with_word a.word 12 w) a.zeroth a.types a.imports a.funcs a.tables a.memories a.globals a.exports a.start a.elems a.data_count a.codes (section p is)
    (above_next a.word s.last 12 w lt a.above) (added a 12 w (omega arith) (omega arith) lt)

-- custom sections stay
customs_before : {s t : Progress} {id : ℕ} {contents : List ℕ} → Contents s id contents t → t.fields.customs ≡ [] → s.fields.customs ≡ []
customs_before (custom {s} {name} bytes named) none = absurd (no_custom s.fields.customs (record { rank = s.rank; name = name; bytes = bytes }) none)
customs_before (types lt p) none = none
customs_before (imports lt p) none = none
customs_before (funcs lt p) none = none
customs_before (tables lt p) none = none
customs_before (memories lt p) none = none
customs_before (globals lt p) none = none
customs_before (exports lt p) none = none
customs_before (start lt p) none = none
customs_before (elems lt p) none = none
customs_before (data_count lt p) none = none
customs_before (codes lt p) none = none
customs_before (datas lt p) none = none

no_customs : {s t : Progress} {k : ℕ} {v : List ℕ} → Chain s k v t → t.fields.customs ≡ [] → s.fields.customs ≡ []
no_customs done none = none
no_customs (next is c rest) none = customs_before c (no_customs rest none)

split_along : {s t : Progress} {k : ℕ} {text v : List ℕ} → Split s text → Chain s k v t → t.fields.customs ≡ [] → Split t (text ++ v)
split_along {t} {text} a done none = subst (Split t) (sym (append-nil text)) a
split_along {t} {text} a (next {w} {v} is c rest) none = subst (Split t) (append_assoc text w v) (split_along (split_after a is c (no_customs rest none)) rest none)

nothing_split : Split at_start []
nothing_split = split at_start [] (λ k. []) refl (nothing refl) (nothing refl) (nothing refl) (nothing refl) (nothing refl) (nothing refl) (nothing refl) (nothing refl) (nothing refl) (nothing refl) (nothing refl) (nothing refl) (λ k h. refl) refl

record HasPieces (m : Module) (bytes : List ℕ) : Type 0 where
  word : ℕ → List ℕ
  pieces_of : Pieces m word
  parts : bytes ≡ header ++ all_words word 12

chain_small : {s t : Progress} {k : ℕ} {v : List ℕ} → Chain s k v t → s.last ≤ 12 → t.last ≤ 12
chain_small done le = le
chain_small (next is c rest) le = chain_small rest (small c le)
  where
    small : {a b : Progress} {id : ℕ} {contents : List ℕ} → Contents a id contents b → a.last ≤ 12 → b.last ≤ 12
    small (custom bytes named) le = le
    small (types lt p) le = omega arith
    small (imports lt p) le = omega arith
    small (funcs lt p) le = omega arith
    small (tables lt p) le = omega arith
    small (memories lt p) le = omega arith
    small (globals lt p) le = omega arith
    small (exports lt p) le = omega arith
    small (start lt p) le = omega arith
    small (elems lt p) le = omega arith
    small (data_count lt p) le = omega arith
    small (codes lt p) le = omega arith
    small (datas lt p) le = omega arith

has_pieces : (m : Module) → m.customs ≡ [] → (bytes : List ℕ) → SpellsModule m bytes → HasPieces m bytes
has_pieces m none bytes is =
    let a = split_along nothing_split is.chain (ap (λ (f : Module). f.customs) is.fields ∙ none) in
    let small = chain_small is.chain (omega arith) in
    record {
      word = a.word;
      pieces_of = subst (λ f. Pieces f a.word) is.fields
          (pieces is.end.fields a.word a.zeroth a.types a.imports a.funcs a.tables a.memories a.globals a.exports a.start a.elems a.data_count a.codes a.datas (λ k h. a.above k (omega arith)));
      parts = is.parts ∙ ap (λ t. header ++ t) a.parts;
    }

-- ---- and back

record Reached (m : Module) (rank : ℕ) (text : List ℕ) : Type 0 where
  count : ℕ
  end : Progress
  chain : Chain at_start count text end
  fields : end.fields ≡ so_far m rank []
  last : end.last ≤ rank

reached_next : {m : Module} {r id : ℕ} {L : Type 0} {H : List ℕ → Type 0} {text w : List ℕ} → IsStep m r id L H → Reached m r text → Piece L H id w → Reached m (suc r) (text ++ w)
reached_next {text} k d (nothing out) = record {
  count = d.count;
  end = d.end;
  chain = chain_along text (text ++ []) (sym (append-nil text)) d.chain;
  fields = d.fields ∙ k.left_out out [];
  last = omega (arith, d.last);
}
reached_next k d (section {contents} h is) = record {
  count = suc d.count;
  end = k.after d.end;
  chain = chain_next d.chain is (k.contents d.end contents (omega (arith, d.last)) h);
  fields = k.written d.end [] d.fields;
  last = omega (arith, k.last d.end);
}

spelled_by : (m : Module) → m.customs ≡ [] → (word : ℕ → List ℕ) → Pieces m word → SpellsModule m (header ++ all_words word 12)
spelled_by m none word p =
    let d0 : Reached m 0 [] = record { count = 0; end = at_start; chain = done; fields = refl; last = omega arith } in
    let d1 = reached_next (types_list m).step d0 (p 1) in
    let d2 = reached_next (imports_list m).step d1 (p 2) in
    let d3 = reached_next (funcs_list m).step d2 (p 3) in
    let d4 = reached_next (tables_list m).step d3 (p 4) in
    let d5 = reached_next (memories_list m).step d4 (p 5) in
    let d6 = reached_next (globals_list m).step d5 (p 6) in
    let d7 = reached_next (exports_list m).step d6 (p 7) in
    let d8 = reached_next (start_step m) d7 (p 8) in
    let d9 = reached_next (elems_list m).step d8 (p 9) in
    let d10 = reached_next (data_count_step m) d9 (p 10) in
    let d11 = reached_next (codes_list m).step d10 (p 11) in
    let d12 = reached_next (datas_list m).step d11 (p 12) in
    record {
      sections = all_words word 12;
      parts = refl;
      count = d12.count;
      end = d12.end;
      chain = d12.chain;
      fields = d12.fields ∙ ap (λ (cs : List Custom). record m { customs = cs }) (sym none);
    }

-- ---- one alone is the shortest

module _ (m : Module) (none : m.customs ≡ []) where
  replaced : (word : ℕ → List ℕ) (rank : ℕ) (u : List ℕ) → Pieces m word → PieceAt m rank u → Pieces m (with_word word rank u)
  replaced word rank u p q k = by (nat_eq k rank) refl
    where
      by : (b : Bool) → nat_eq k rank ≡ b → PieceAt m k (if b then u else word k)
      by true e = subst (λ n. PieceAt m n u) (sym (eqb-true k rank e)) q
      by false e = p k

  shortest_at : (bytes : List ℕ) (s : IsShortest (SpellsModule m) bytes) (h : HasPieces m bytes) (k : ℕ) → 0 < k → k ≤ 12 → IsShortest (PieceAt m k) (h.word k)
  shortest_at bytes s h k up le = record {
    spelled = h.pieces_of k;
    least = λ other q.
        let w : List ℕ = all_words (with_word h.word k other) 12 in
        let least : length bytes ≤ length (header ++ w) = s.least (header ++ w) (spelled_by m none (with_word h.word k other) (replaced h.word k other h.pieces_of q)) in
        let changed = word_changed h.word k other 12 up le in
        omega (arith, changed, ap length h.parts, length-append header (all_words h.word 12), length-append header w);
  }

  all_same : (a b : ℕ → List ℕ) (n : ℕ) → ((k : ℕ) → 0 < k → k ≤ n → a k ≡ b k) → all_words a n ≡ all_words b n
  all_same a b zero same = refl
  all_same a b (suc n) same = ap (λ t. t ++ a (suc n)) (all_same a b n (λ k up le. same k up (omega arith))) ∙ ap (λ t. all_words b n ++ t) (same (suc n) (omega arith) (omega arith))

  pub one_shortest : (w v : List ℕ) → IsShortest (SpellsModule m) w → IsShortest (SpellsModule m) v → w ≡ v
  one_shortest w v s t =
      let a = has_pieces m none w s.spelled in
      let b = has_pieces m none v t.spelled in
      a.parts
      ∙ ap (λ z. header ++ z) (all_same a.word b.word 12 (λ k up le. one_at m k (a.word k) (b.word k) (shortest_at w s a k up le) (shortest_at v t b k up le)))
      ∙ sym b.parts
