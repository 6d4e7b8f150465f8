-- The shortest spellings of notes, from those of their parts; and that parts are spelled where the whole is.
use Rattle.std.proofs.Common.{◌≡◌, ℕ, zero, suc, ◌^◌, ◌<◌, List, ◌++◌, length, get_or, refl, sym, subst, arith}
use Rattle.spec_reading.specs.spec_binary.Number.{SpellsUnsigned, IsShortest, Appends}
use Rattle.spec_reading.specs.spec_binary.Name.{SpellsName, name}
use Rattle.spec_reading.specs.spec_binary.Sequence.{SpellsEach, none, next, SpellsVec, vec}
use Rattle.spec_reading.specs.spec_binary.Joined.{Joined}
use Rattle.spec_reading.proofs.of_spec_binary.Joined.{unjoined, itself, appends_like, appends_joined}
use Rattle.spec_reading.proofs.of_spec_binary.UnsignedSpelling.{unsigned_small}
use Rattle.spec_linking.specs.Records as records
use Rattle.dyl_section.specs.declared.record.ExportInfo.{ExportInfo}
use Rattle.dyl_section.specs.declared.record.ImportInfo.{ImportInfo}
use Rattle.dyl_section.specs.Written.{IsSpelled, SpellsExportInfo, SpellsImportInfo}

-- two words, one after the other, of which a whole is made
appends_shortest : {P Q R : List ℕ → Type 0} → ((w v : List ℕ) → P w → Q v → R (w ++ v))
    → ((other : List ℕ) → R other → (w : List ℕ) × (v : List ℕ) × P w × Q v × (other ≡ w ++ v)) → (old middle new : List ℕ) → Appends (IsShortest P) old middle
    → Appends (IsShortest Q) middle new → Appends (IsShortest R) old new
appends_shortest {P} {Q} {R} join split old middle new p q =
    appends_like old new (unjoined R join)
    (λ other r. let s = split other r in itself {P = Joined P Q} other (record { before = s.0; after = s.1; first = s.2; rest = s.3; parts = s.4 }))
    (appends_joined old middle new p q)

-- names
name_size : {text w : List ℕ} → SpellsName text w → length text < 2 ^ 32
name_size (name {count} n u) = unsigned_small n

pub name_short : (text : List ℕ) → IsSpelled (SpellsName text) → length text < 2 ^ 32
name_short text s = name_size s.spelled

-- notes on exports
export_split : (x : ExportInfo) (other : List ℕ) → SpellsExportInfo x other → (w : List ℕ) × (v : List ℕ) × SpellsName x.name w × SpellsUnsigned 32 x.flags v × (other ≡ w ++ v)
export_split x other (records.note {w} {v} p q) = (w, v, p, q, refl)

pub export_name : (x : ExportInfo) → IsSpelled (SpellsExportInfo x) → length x.name < 2 ^ 32
export_name x s = let p = export_split x s.word s.spelled in name_size p.2

pub export_written : (x : ExportInfo) (old middle new : List ℕ) → Appends (IsShortest (SpellsName x.name)) old middle → Appends (IsShortest (SpellsUnsigned 32 x.flags)) middle new
    → Appends (IsShortest (SpellsExportInfo x)) old new
export_written x old middle new p q = appends_shortest (λ w v a b. records.note a b) (export_split x) old middle new p q

-- notes on imports
data SpellsEnd (x : ImportInfo) : List ℕ → Type 0 where
  end : {w v : List ℕ} → SpellsName x.field w → SpellsUnsigned 32 x.flags v → SpellsEnd x (w ++ v)

end_split : (x : ImportInfo) (other : List ℕ) → SpellsEnd x other → (w : List ℕ) × (v : List ℕ) × SpellsName x.field w × SpellsUnsigned 32 x.flags v × (other ≡ w ++ v)
end_split x other (end {w} {v} p q) = (w, v, p, q, refl)

import_split : (x : ImportInfo) (other : List ℕ) → SpellsImportInfo x other → (w : List ℕ) × (v : List ℕ) × SpellsName x.«module» w × SpellsEnd x v × (other ≡ w ++ v)
import_split x other (records.note {w} {v} {u} p q r) = (w, v ++ u, p, end q r, refl)

import_join : (x : ImportInfo) (w v : List ℕ) → SpellsName x.«module» w → SpellsEnd x v → SpellsImportInfo x (w ++ v)
import_join x w v p (end q r) = records.note p q r

pub import_module : (x : ImportInfo) → IsSpelled (SpellsImportInfo x) → length x.«module» < 2 ^ 32
import_module x s = let p = import_split x s.word s.spelled in name_size p.2

pub import_field : (x : ImportInfo) → IsSpelled (SpellsImportInfo x) → length x.field < 2 ^ 32
import_field x s = let p = import_split x s.word s.spelled in let q = end_split x p.1 p.3 in name_size q.2

pub import_written : (x : ImportInfo) (old first second new : List ℕ) → Appends (IsShortest (SpellsName x.«module»)) old first → Appends (IsShortest (SpellsName x.field)) first second
    → Appends (IsShortest (SpellsUnsigned 32 x.flags)) second new → Appends (IsShortest (SpellsImportInfo x)) old new
import_written x old first second new p q r =
    appends_shortest (import_join x) (import_split x) old first new p (appends_shortest (λ w v a b. end a b) (end_split x) first second new q r)

-- lists
module _ {A : Type 0} {Spells : A → List ℕ → Type 0} where
  spelled_in : {xs : List A} {w : List ℕ} → SpellsEach Spells xs w → (k : ℕ) (x : A) → k < length xs → x ≡ get_or xs k x → IsSpelled (Spells x)
  spelled_in none k x h is = absurd (omega arith)
  spelled_in (next {x = y} {w} s rest) zero x h is = record { word = w; spelled = subst (λ (z : A). Spells z w) (sym is) s }
  spelled_in (next s rest) (suc k) x h is = spelled_in rest k x (omega arith) is

  pub spelled_at : (xs : List A) (k : ℕ) (x : A) → IsSpelled (SpellsEach Spells xs) → k < length xs → x ≡ get_or xs k x → IsSpelled (Spells x)
  spelled_at xs k x s h is = spelled_in s.spelled k x h is

  vec_split : {xs : List A} {other : List ℕ} → SpellsVec Spells xs other → (w : List ℕ) × (v : List ℕ) × SpellsUnsigned 32 (length xs) w × SpellsEach Spells xs v × (other ≡ w ++ v)
  vec_split (vec {count} {w} n p) = (count, w, n, p, refl)

  pub vec_length : (xs : List A) → IsSpelled (SpellsVec Spells xs) → length xs < 2 ^ 32
  vec_length xs s = let p = vec_split s.spelled in unsigned_small p.2

  pub vec_each : (xs : List A) → IsSpelled (SpellsVec Spells xs) → IsSpelled (SpellsEach Spells xs)
  vec_each xs s = let p = vec_split s.spelled in record { word = p.1; spelled = p.3 }
