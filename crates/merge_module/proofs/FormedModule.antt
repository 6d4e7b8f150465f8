-- Constants, and what members have, renumbered, are well formed.
use Rattle.std.proofs.Common.{ℕ, true, List, [], ◌∷◌, map, refl, ◌∙◌, arith}
use Rattle.std.specs.List.{All}
use Rattle.std.proofs.lemmas.Bool.{and_from}
use Rattle.std.proofs.lemmas.List.{length-map}
use Rattle.std.proofs.lemmas.List.Elements.{All-nil, All-cons, All-head, All-tail}
use Rattle.spec_reading.specs.wasm_form.declared.instr.Instr.{Instr}
use Rattle.spec_reading.specs.wasm_form.declared.instr.Expr.{Expr}
use Rattle.spec_reading.specs.wasm_form.declared.module.ElemMode.{ElemMode}
use Rattle.spec_reading.specs.wasm_form.declared.module.ElemMode.TheVariants as elem_mode
use Rattle.spec_reading.specs.wasm_form.declared.module.ElemItems.{ElemItems}
use Rattle.spec_reading.specs.wasm_form.declared.module.ElemItems.TheVariants as elem_items
use Rattle.spec_reading.specs.wasm_form.declared.module.Elem.{Elem}
use Rattle.spec_reading.specs.wasm_form.declared.module.Code.{Code}
use Rattle.spec_reading.specs.wasm_form.declared.module.Data.{Data}
use Rattle.spec_reading.specs.spec_binary.Trees.{every}
use Rattle.spec_reading.specs.spec_binary.WellFormed.{has_form, IsFormedConstant, IsFormedElemMode, IsFormedItems, IsFormedElem, IsFormedCode, IsFormedData}
use Rattle.merge_match.specs.Renumbering.{Numbers, expr}
use Rattle.merge_match.specs.Joined.{renumbered_code}
use Rattle.merge_start.specs.Words.{number}
use Rattle.merge_module.specs.MergedModule.{number_expr, passive_mode, renumbered_items, passive_elem, passive_data}
use Rattle.merge_module.proofs.FormedCode.{code_kept}
use Rattle.merge_module.proofs.Pieces.{IsStep, number_step}

-- one instruction alone
pub alone : (i : Instr) → IsStep i → IsFormedConstant (record { list = i ∷ [] })
alone i is = (let flat = is.flat in record { formed = and_from (every has_form i) true is.formed refl; flat = omega arith })

-- ---- what members have, renumbered

pub code_formed : (n : Numbers) (m : ℕ) (c : Code) → IsFormedCode c → IsFormedCode (renumbered_code n m c)
code_formed n m c is =
    let kept = code_kept n m c.body.list in
    let limits = is.limits in
    record {
      locals = is.locals;
      body = kept.formed is.body;
      limits = record { few_locals = limits.few_locals; flat = (let flat = limits.flat in let same = kept.nested in omega arith) };
    }

constant_formed : (n : Numbers) (m : ℕ) (e : Expr) → IsFormedConstant e → IsFormedConstant (expr n m e)
constant_formed n m e is = (let kept = code_kept n m e.list in record { formed = kept.formed is.formed; flat = kept.nested ∙ is.flat })

constants_formed : (n : Numbers) (m : ℕ) (es : List Expr) → All IsFormedConstant es → All IsFormedConstant (map (expr n m) es)
constants_formed n m [] all = All-nil IsFormedConstant
constants_formed n m (e ∷ es) all =
    All-cons IsFormedConstant (expr n m e) (map (expr n m) es) (constant_formed n m e (All-head IsFormedConstant e es all)) (constants_formed n m es (All-tail IsFormedConstant e es all))

items_formed : (n : Numbers) (m : ℕ) (items : ElemItems) → IsFormedItems items → IsFormedItems (renumbered_items n m items)
items_formed n m (elem_items.Funcs fs) short = omega (arith, length-map fs (n.named m))
items_formed n m (elem_items.Exprs ty es) is = (is.0, (omega (arith, length-map es (expr n m)), constants_formed n m es is.1.1))

passive_formed : (mode : ElemMode) → IsFormedElemMode (passive_mode mode)
passive_formed (elem_mode.Active t offset) = tt
passive_formed elem_mode.Passive = tt
passive_formed elem_mode.Declarative = tt

pub elem_formed : (n : Numbers) (m : ℕ) (e : Elem) → IsFormedElem e → IsFormedElem (passive_elem n m e)
elem_formed n m e is = record { mode = passive_formed e.mode; items = items_formed n m e.items is.items }

pub data_formed : (d : Data) → IsFormedData d → IsFormedData (passive_data d)
data_formed d is = record { mode = tt; bytes = is.bytes }

pub number_formed : (k : ℕ) → IsFormedConstant (number_expr k)
number_formed k = alone (number k) (number_step k)

pub map_all : {A B : Type 0} (P : A → Type 0) (Q : B → Type 0) (f : A → B) → ((a : A) → P a → Q (f a)) → (xs : List A) → All P xs → All Q (map f xs)
map_all P Q f each [] all = All-nil Q
map_all P Q f each (x ∷ xs) all = All-cons Q (f x) (map f xs) (each x (All-head P x xs all)) (map_all P Q f each xs (All-tail P x xs all))

pub always : {A B : Type 0} (Q : B → Type 0) (f : A → B) → ((a : A) → Q (f a)) → (xs : List A) → All Q (map f xs)
always Q f each [] = All-nil Q
always Q f each (x ∷ xs) = All-cons Q (f x) (map f xs) (each x) (always Q f each xs)
