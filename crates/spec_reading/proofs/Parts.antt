-- What the sections hold is read as it is spelled.
use Rattle.std.proofs.Common.{◌≡◌, ℕ, true, eqb, List, [], ◌∷◌, ◌++◌, Result, Ok, Err, refl, sym, ap, subst, ◌∙◌, append_assoc, arith, inl, inr}
use Rattle.std.proofs.lemmas.Bool.{eqb-true}
use Rattle.spec_binary.specs.wasm_form.declared.instr.Expr.{Expr}
use Rattle.spec_binary.specs.wasm_form.declared.module.ImportDesc.TheVariants as imported
use Rattle.spec_binary.specs.wasm_form.declared.module.Import.{Import}
use Rattle.spec_binary.specs.wasm_form.declared.module.GlobalDef.{GlobalDef}
use Rattle.spec_binary.specs.wasm_form.declared.module.ExportDesc.{ExportDesc}
use Rattle.spec_binary.specs.wasm_form.declared.module.ExportDesc.TheVariants as exported
use Rattle.spec_binary.specs.wasm_form.declared.module.Export.{Export}
use Rattle.spec_binary.specs.Number.{SpellsUnsigned}
use Rattle.spec_binary.specs.Types.{SpellsLimits, SpellsTableType, SpellsGlobalType}
use Rattle.spec_binary.specs.Parts as spells
use Rattle.spec_binary.specs.Parts.{SpellsConstant, constant, SpellsImportDesc, SpellsImport, import, SpellsGlobal, SpellsExportDesc, SpellsExport, export}
use Rattle.spec_reading.specs.Steps.{Break, Broken, TooDeep, TooManyLocals}
use Rattle.spec_reading.specs.Values.{number_at, name_at}
use Rattle.spec_reading.specs.Types.{limits_at, table_type_at, global_type_at}
use Rattle.spec_reading.specs.Instructions.{expr_at}
use Rattle.spec_reading.specs.Parts.{without_blocks, constant_at, import_desc_at, import_at, global_at, described_export, export_desc_at, export_at}
use Rattle.spec_reading.proofs.Steps.{bind_ok, chosen, chosen_first, ok_is, Takes, IsComplete, IsSound, given, One, one_sound}
use Rattle.spec_reading.proofs.Values.{number_complete, number_sound, name_complete, name_sound}
use Rattle.spec_reading.proofs.Types.{limits_complete, limits_sound, table_type_complete, table_type_sound, global_type_complete, global_type_sound}
use Rattle.spec_reading.proofs.Instructions.{expr_complete}
use Rattle.spec_reading.proofs.InstructionsFound.{expr_sound}

-- constants

constant_again : {e : Expr} {w : List ℕ} → SpellsConstant e w → (rest : List ℕ) → constant_at (w ++ rest) ≡ Ok (e, rest)
unfolding constant_at
constant_again (constant {e} {w} flat p) rest = rw (expr_complete 0 e w p (omega arith) rest) refl

pub constant_complete : IsComplete SpellsConstant constant_at
constant_complete e w p rest = constant_again p rest

without_blocks_ok : {A : Type 0} (r : Result A Break) (x : A) → without_blocks r ≡ Ok x → r ≡ Ok x
without_blocks_ok (Ok y) x e = e
without_blocks_ok (Err Broken) x e = absurd cc
without_blocks_ok (Err TooDeep) x e = absurd cc
without_blocks_ok (Err TooManyLocals) x e = absurd cc

pub constant_sound : IsSound SpellsConstant constant_at
unfolding constant_at
constant_sound text x rest e =
    let t = expr_sound 0 text x rest (without_blocks_ok (expr_at 0 text) (x, rest) e) in
    let flat = t.1 in
    record { word = t.0.word; spelled = constant (omega arith) t.0.spelled; parts = t.0.parts }

-- imports

pub import_desc_complete : IsComplete SpellsImportDesc import_desc_at
unfolding import_desc_at
import_desc_complete d u (spells.function {n} {w} p) rest = rw (number_complete 32 n w p rest) refl
import_desc_complete d u (spells.table {ty} {w} p) rest = rw (table_type_complete ty w p rest) refl
import_desc_complete d u (spells.memory {limits} {w} p) rest = rw (limits_complete limits w p rest) refl
import_desc_complete d u (spells.global {ty} {w} p) rest = rw (global_type_complete ty w p rest) refl

-- what a byte and something behind it spell
behind_byte : {A C : Type 0} (Spells : A → List ℕ → Type 0) (To : C → List ℕ → Type 0) (make : A → C) (b c : ℕ) (text : List ℕ) (z : C) (rest : List ℕ) → eqb b c ≡ true
    → ((x : A) (w : List ℕ) → Spells x w → To (make x) (c ∷ w)) → One Spells make text z rest → Takes To (b ∷ text) z rest
behind_byte Spells To make b c text z rest same to t = record {
  word = c ∷ t.word;
  spelled = subst (λ z. To z (c ∷ t.word)) t.is (to t.first t.word t.spelled);
  parts = ap (λ b. b ∷ text) (eqb-true b c same) ∙ ap (λ l. c ∷ l) t.parts;
}

pub import_desc_sound : IsSound SpellsImportDesc import_desc_at
unfolding import_desc_at
import_desc_sound [] x rest e = absurd cc
import_desc_sound (b ∷ bs) x rest e = elim (chosen (eqb b 0x00) _ _ _ e) [
  | inl p ↦ behind_byte (SpellsUnsigned 32) SpellsImportDesc imported.Func b 0x00 bs x rest p.0 (λ n w s. spells.function s)
      (one_sound (SpellsUnsigned 32) (number_at 32) (number_sound 32) imported.Func bs x rest p.1)
  | inr p ↦ elim (chosen (eqb b 0x01) _ _ _ p.1) [
    | inl q ↦ behind_byte SpellsTableType SpellsImportDesc imported.Table b 0x01 bs x rest q.0 (λ n w s. spells.table s) (one_sound SpellsTableType table_type_at table_type_sound imported.Table bs x rest q.1)
    | inr q ↦ elim (chosen (eqb b 0x02) _ _ _ q.1) [
      | inl r ↦ behind_byte SpellsLimits SpellsImportDesc imported.Space b 0x02 bs x rest r.0 (λ n w s. spells.memory s) (one_sound SpellsLimits limits_at limits_sound imported.Space bs x rest r.1)
      | inr r ↦
          let s = chosen_first (eqb b 0x03) _ _ _ r.1 in
          behind_byte SpellsGlobalType SpellsImportDesc imported.Global b 0x03 bs x rest s.0 (λ n w s. spells.global s) (one_sound SpellsGlobalType global_type_at global_type_sound imported.Global bs x rest s.1)
    ]
  ]
]

-- three words one after the other
pub three_parts : (text a b rest u v w : List ℕ) → text ≡ u ++ a → a ≡ v ++ b → b ≡ w ++ rest → text ≡ (u ++ (v ++ w)) ++ rest
three_parts text a b rest u v w p q r = p ∙ ap (λ l. u ++ l) (q ∙ ap (λ l. v ++ l) r ∙ sym (append_assoc v w rest)) ∙ sym (append_assoc u (v ++ w) rest)

pub two_parts : (text a rest u v : List ℕ) → text ≡ u ++ a → a ≡ v ++ rest → text ≡ (u ++ v) ++ rest
two_parts text a rest u v p q = p ∙ ap (λ l. u ++ l) q ∙ sym (append_assoc u v rest)

import_again : {i : Import} {x : List ℕ} → SpellsImport i x → (rest : List ℕ) → import_at (x ++ rest) ≡ Ok (i, rest)
unfolding import_at
import_again (import {i} {w} {v} {u} p q r) rest =
    rw (append_assoc w (v ++ u) rest, append_assoc v u rest, name_complete i.module w p (v ++ (u ++ rest)), name_complete i.field v q (u ++ rest), import_desc_complete i.desc u r rest) refl

pub import_complete : IsComplete SpellsImport import_at
import_complete i w p rest = import_again p rest

pub import_sound : IsSound SpellsImport import_at
unfolding import_at
import_sound text x rest e =
    let m = bind_ok (name_at text) _ (x, rest) e in
    let f = bind_ok (name_at m.0.1) _ (x, rest) m.2 in
    let d = bind_ok (import_desc_at f.0.1) _ (x, rest) f.2 in
    let p = name_sound text m.0.0 m.0.1 m.1 in
    let q = name_sound m.0.1 f.0.0 f.0.1 f.1 in
    let r = import_desc_sound f.0.1 d.0.0 d.0.1 d.1 in
    given SpellsImport text (record { «module» = m.0.0; field = f.0.0; desc = d.0.0 }) x d.0.1 rest d.2
    (record { word = p.word ++ (q.word ++ r.word); spelled = import p.spelled q.spelled r.spelled; parts = three_parts text m.0.1 f.0.1 d.0.1 p.word q.word r.word p.parts q.parts r.parts })

-- globals

global_again : {g : GlobalDef} {x : List ℕ} → SpellsGlobal g x → (rest : List ℕ) → global_at (x ++ rest) ≡ Ok (g, rest)
unfolding global_at
global_again (spells.global {g} {w} {v} p q) rest = rw (append_assoc w v rest, global_type_complete g.ty w p (v ++ rest), constant_complete g.init v q rest) refl

pub global_complete : IsComplete SpellsGlobal global_at
global_complete g w p rest = global_again p rest

pub global_sound : IsSound SpellsGlobal global_at
unfolding global_at
global_sound text x rest e =
    let t = bind_ok (global_type_at text) _ (x, rest) e in
    let c = bind_ok (constant_at t.0.1) _ (x, rest) t.2 in
    let p = global_type_sound text t.0.0 t.0.1 t.1 in
    let q = constant_sound t.0.1 c.0.0 c.0.1 c.1 in
    given SpellsGlobal text (record { ty = t.0.0; init = c.0.0 }) x c.0.1 rest c.2
    (record { word = p.word ++ q.word; spelled = spells.global p.spelled q.spelled; parts = two_parts text t.0.1 c.0.1 p.word q.word p.parts q.parts })

-- exports

pub export_desc_complete : IsComplete SpellsExportDesc export_desc_at
unfolding export_desc_at
export_desc_complete d u (spells.function {n} {w} p) rest = rw (number_complete 32 n w p rest) refl
export_desc_complete d u (spells.table {n} {w} p) rest = rw (number_complete 32 n w p rest) refl
export_desc_complete d u (spells.memory {n} {w} p) rest = rw (number_complete 32 n w p rest) refl
export_desc_complete d u (spells.global {n} {w} p) rest = rw (number_complete 32 n w p rest) refl

abbrev described : ExportDesc → Result ExportDesc Break
described d = Ok d

-- a kind and a number spell what they describe
described_as : (b c : ℕ) (w : List ℕ) (d e : ExportDesc) → SpellsExportDesc d (c ∷ w) → eqb b c ≡ true → described d ≡ described e → SpellsExportDesc e (b ∷ w)
described_as b c w d e s h same = subst (λ d. SpellsExportDesc d (b ∷ w)) (ok_is Break d e same) (subst (λ c. SpellsExportDesc d (c ∷ w)) (sym (eqb-true b c h)) s)

desc_spelled : (b n : ℕ) (w : List ℕ) (d : ExportDesc) → SpellsUnsigned 32 n w → described_export b n ≡ Ok d → SpellsExportDesc d (b ∷ w)
desc_spelled b n w d s e = elim (chosen (eqb b 0x00) _ _ _ e) [
  | inl p ↦ described_as b 0x00 w (exported.Func n) d (spells.function s) p.0 p.1
  | inr p ↦ elim (chosen (eqb b 0x01) _ _ _ p.1) [
    | inl q ↦ described_as b 0x01 w (exported.Table n) d (spells.table s) q.0 q.1
    | inr q ↦ elim (chosen (eqb b 0x02) _ _ _ q.1) [
      | inl r ↦ described_as b 0x02 w (exported.Space n) d (spells.memory s) r.0 r.1
      | inr r ↦ let u = chosen_first (eqb b 0x03) _ _ _ r.1 in described_as b 0x03 w (exported.Global n) d (spells.global s) u.0 u.1
    ]
  ]
]

pub export_desc_sound : IsSound SpellsExportDesc export_desc_at
unfolding export_desc_at
export_desc_sound [] d rest e = absurd cc
export_desc_sound (b ∷ bs) d rest e =
    let n = bind_ok (number_at 32 bs) _ (d, rest) e in
    let x = bind_ok (described_export b n.0.0) _ (d, rest) n.2 in
    let t = number_sound 32 bs n.0.0 n.0.1 n.1 in
    given SpellsExportDesc (b ∷ bs) x.0 d n.0.1 rest x.2 (record { word = b ∷ t.word; spelled = desc_spelled b n.0.0 t.word x.0 t.spelled x.1; parts = ap (λ l. b ∷ l) t.parts })

export_again : {x : Export} {z : List ℕ} → SpellsExport x z → (rest : List ℕ) → export_at (z ++ rest) ≡ Ok (x, rest)
unfolding export_at
export_again (export {e} {w} {v} p q) rest = rw (append_assoc w v rest, name_complete e.name w p (v ++ rest), export_desc_complete e.desc v q rest) refl

pub export_complete : IsComplete SpellsExport export_at
export_complete x w p rest = export_again p rest

pub export_sound : IsSound SpellsExport export_at
unfolding export_at
export_sound text x rest e =
    let n = bind_ok (name_at text) _ (x, rest) e in
    let d = bind_ok (export_desc_at n.0.1) _ (x, rest) n.2 in
    let p = name_sound text n.0.0 n.0.1 n.1 in
    let q = export_desc_sound n.0.1 d.0.0 d.0.1 d.1 in
    given SpellsExport text (record { name = n.0.0; desc = d.0.0 }) x d.0.1 rest d.2
    (record { word = p.word ++ q.word; spelled = export p.spelled q.spelled; parts = two_parts text n.0.1 d.0.1 p.word q.word p.parts q.parts })
