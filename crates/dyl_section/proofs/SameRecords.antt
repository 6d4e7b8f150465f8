-- A record as the definition has it, and as this crate has it, say the same.
use Rattle.std.proofs.Common.{◌≡◌, ℕ, suc, List, [], ◌∷◌, map, length, refl, sym, ap, subst, ◌∙◌}
use Rattle.spec_reading.specs.spec_binary.Number.{SpellsUnsigned}
use Rattle.spec_reading.specs.spec_binary.Sequence.{SpellsEach, none, next, SpellsVec, vec}
use Rattle.spec_linking.specs.Records.{ExportNote, ImportNote, DylinkRecord}
use Rattle.dyl_section.specs.declared.record.ExportInfo.{ExportInfo}
use Rattle.dyl_section.specs.declared.record.ImportInfo.{ImportInfo}
use Rattle.dyl_section.specs.declared.record.Dylink.{Dylink}
use Rattle.dyl_section.specs.Recorded.{export_note, import_note, record_of}

abbrev pub export_info : ExportNote → ExportInfo
export_info x = record { name = x.name; flags = x.flags }

abbrev pub import_info : ImportNote → ImportInfo
import_info x = record { «module» = x.from_module; field = x.field; flags = x.flags }

abbrev pub info_of : DylinkRecord → Dylink
info_of d = record { mem_size = d.mem_size; mem_align = d.mem_align; table_size = d.table_size; table_align = d.table_align; needed = d.needed; exports = map export_info d.exports; imports = map import_info d.imports; paths = d.paths }

pub map_back : {A B : Type 0} (f : A → B) (g : B → A) → ((x : A) → g (f x) ≡ x) → (xs : List A) → map g (map f xs) ≡ xs
map_back f g back [] = refl
map_back f g back (x ∷ xs) = let head = back x in let tail = map_back f g back xs in cc

pub exports_back : (xs : List ExportNote) → map export_note (map export_info xs) ≡ xs
exports_back xs = map_back export_info export_note (λ x. refl) xs

pub imports_back : (xs : List ImportNote) → map import_note (map import_info xs) ≡ xs
imports_back xs = map_back import_info import_note (λ x. refl) xs

pub exports_forth : (xs : List ExportInfo) → map export_info (map export_note xs) ≡ xs
exports_forth xs = map_back export_note export_info (λ x. refl) xs

pub imports_forth : (xs : List ImportInfo) → map import_info (map import_note xs) ≡ xs
imports_forth xs = map_back import_note import_info (λ x. refl) xs

pub record_back : (d : DylinkRecord) → record_of (info_of d) ≡ d
record_back d =
    ap (λ (xs : List ExportNote). record d { exports = xs; imports = map import_note (map import_info d.imports) }) (exports_back d.exports)
    ∙ ap (λ (xs : List ImportNote). record d { imports = xs }) (imports_back d.imports)

pub info_back : (d : Dylink) → info_of (record_of d) ≡ d
info_back d =
    ap (λ (xs : List ExportInfo). record d { exports = xs; imports = map import_info (map import_note d.imports) }) (exports_forth d.exports)
    ∙ ap (λ (xs : List ImportInfo). record d { imports = xs }) (imports_forth d.imports)

length_mapped : {A B : Type 0} (f : A → B) (xs : List A) → length (map f xs) ≡ length xs
length_mapped f [] = refl
length_mapped f (x ∷ xs) = ap suc (length_mapped f xs)

-- spellings of what a list is mapped to
module _ {A B : Type 0} (Spells : B → List ℕ → Type 0) (f : A → B) where
  pub each_mapped : {xs : List A} {w : List ℕ} → SpellsEach (λ x. Spells (f x)) xs w → SpellsEach Spells (map f xs) w
  each_mapped none = none
  each_mapped (next p q) = next p (each_mapped q)

  pub vec_mapped : {xs : List A} {w : List ℕ} → SpellsVec (λ x. Spells (f x)) xs w → SpellsVec Spells (map f xs) w
  vec_mapped (vec {xs} {count} n p) = vec (subst (λ k. SpellsUnsigned 32 k count) (sym (length_mapped f xs)) n) (each_mapped p)

  module _ (g : B → A) (back : (y : B) → f (g y) ≡ y) where
    pub each_unmapped : {ys : List B} {w : List ℕ} → SpellsEach Spells ys w → SpellsEach (λ x. Spells (f x)) (map g ys) w
    each_unmapped none = none
    each_unmapped (next {x = y} {w} p q) = next (subst (λ z. Spells z w) (sym (back y)) p) (each_unmapped q)

    pub vec_unmapped : {ys : List B} {w : List ℕ} → SpellsVec Spells ys w → SpellsVec (λ x. Spells (f x)) (map g ys) w
    vec_unmapped (vec {xs = ys} {count} n p) = vec (subst (λ k. SpellsUnsigned 32 k count) (sym (length_mapped g ys)) n) (each_unmapped p)
