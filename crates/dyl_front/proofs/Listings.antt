-- What is put member by member is what is listed, and the summary is put in parts.
use Rattle.std.proofs.Common.{◌≡◌, ◌≤◌, ℕ, zero, suc, ◌+◌, List, [], ◌∷◌, ◌++◌, length, drop, Option, Some, unwrap_or, slice_get, refl, sym, ap, ap₂, ◌∙◌, append_assoc, append-nil, arith}
use Rattle.std.specs.Prelude.{codes}
use Rattle.std.proofs.lemmas.List.{drop_all}
use Rattle.spec_merging.specs.wasm_form.declared.module.Import.{Import}
use Rattle.spec_linking.specs.Sets.{Member}
use Rattle.spec_linking.specs.LinkedSets.{LinkedSet, function_ref}
use Rattle.spec_linking.specs.Slots.{linked_plan, imported_number, memory_base, table_base}
use Rattle.dyl_front.specs.Listing.{module_line, module_lines, import_lines, bind_lines}
use Rattle.dyl_front.specs.declared.reports.Report.{Report}
use Rattle.dyl_front.specs.Summary.{run_line, set_lines, summary_of}

-- a member comes before those behind it
member_at : (ms : List Member) (m : ℕ) (y : Member) → slice_get ms m ≡ Some y → drop m ms ≡ y ∷ drop (m + 1) ms
member_at [] m y e = absurd cc
member_at (x ∷ ms) zero y e = (let same : x ≡ y = cc in ap (λ z. z ∷ ms) same)
member_at (x ∷ ms) (suc m) y e = (let next : suc m + 1 ≡ suc (m + 1) = omega arith in rw next (member_at ms m y e))

-- what is put for one comes before what is put for those behind it
put_next : (of : ℕ → List Member → List ℕ) (ms : List Member) (m : ℕ) (y : Member) → slice_get ms m ≡ Some y
    → (one : List ℕ) → of m (y ∷ drop (m + 1) ms) ≡ one ++ of (m + 1) (drop (m + 1) ms)
    → (to more all : List ℕ) → more ≡ to ++ one → to ++ of m (drop m ms) ≡ all → more ++ of (m + 1) (drop (m + 1) ms) ≡ all
put_next of ms m y there one is to more all put before =
    let rest = of (m + 1) (drop (m + 1) ms) in
    ap (λ l. l ++ rest) put ∙ append_assoc to one rest ∙ ap (λ l. to ++ l) (sym is)
    ∙ ap (λ (l : List Member). to ++ of m l) (sym (member_at ms m y there)) ∙ before

put_last : (of : ℕ → List Member → List ℕ) (ms : List Member) (m : ℕ) → of m [] ≡ [] → length ms ≤ m → (to all : List ℕ) → to ++ of m (drop m ms) ≡ all → to ≡ all
put_last of ms m none le to all before =
    sym (append-nil to) ∙ ap (λ l. to ++ l) (sym none) ∙ ap (λ (l : List Member). to ++ of m l) (sym (drop_all m ms le)) ∙ before

module _ (L : LinkedSet) (ms : List Member) (m : ℕ) where
  pub modules_next : (y : Member) → slice_get ms m ≡ Some y → (memory table : ℕ) → memory_base L m ≡ Some memory → table_base L m ≡ Some table
      → (to more all : List ℕ) → more ≡ to ++ module_line m y memory table
      → to ++ module_lines (linked_plan L) m (drop m ms) ≡ all → more ++ module_lines (linked_plan L) (m + 1) (drop (m + 1) ms) ≡ all
  modules_next y there memory table one two =
      put_next (module_lines (linked_plan L)) ms m y there (module_line m y memory table)
      (ap₂ (λ (a b : Option ℕ). module_line m y (unwrap_or a 0) (unwrap_or b 0) ++ module_lines (linked_plan L) (m + 1) (drop (m + 1) ms)) one two)

  pub modules_last : length ms ≤ m → (to all : List ℕ) → to ++ module_lines (linked_plan L) m (drop m ms) ≡ all → to ≡ all
  modules_last = put_last (module_lines (linked_plan L)) ms m refl

  pub binds_next : (y : Member) → slice_get ms m ≡ Some y → (is : List Import) → is ≡ y.wasm.imports
      → (to more all : List ℕ) → more ≡ to ++ import_lines (function_ref L) (imported_number L) m 0 0 is
      → to ++ bind_lines (function_ref L) (imported_number L) m (drop m ms) ≡ all → more ++ bind_lines (function_ref L) (imported_number L) (m + 1) (drop (m + 1) ms) ≡ all
  binds_next y there is same =
      put_next (bind_lines (function_ref L) (imported_number L)) ms m y there (import_lines (function_ref L) (imported_number L) m 0 0 is)
      (ap (λ (l : List Import). import_lines (function_ref L) (imported_number L) m 0 0 l ++ bind_lines (function_ref L) (imported_number L) (m + 1) (drop (m + 1) ms)) (sym same))

  pub binds_last : length ms ≤ m → (to all : List ℕ) → to ++ bind_lines (function_ref L) (imported_number L) m (drop m ms) ≡ all → to ≡ all
  binds_last = put_last (bind_lines (function_ref L) (imported_number L)) ms m refl

-- what is put for the set and for its two runs
pub summary_is : (L : LinkedSet) (loaded merged : Report) (begun sizes first all : List ℕ) → begun ≡ [] → sizes ≡ begun ++ set_lines L
    → first ≡ sizes ++ run_line (codes "run") loaded.ran loaded.output → all ≡ first ++ run_line (codes "exec") merged.ran merged.output → all ≡ summary_of L loaded merged
summary_is L loaded merged begun sizes first all empty put_sizes put_first put_all =
    put_all
    ∙ ap (λ bytes. bytes ++ run_line (codes "exec") merged.ran merged.output)
    (put_first ∙ ap (λ bytes. bytes ++ run_line (codes "run") loaded.ran loaded.output) (put_sizes ∙ ap (λ bytes. bytes ++ set_lines L) empty))
