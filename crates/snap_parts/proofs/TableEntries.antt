-- What is written of tables, entry by entry and table by table.
use Rattle.std.proofs.Common.{◌≡◌, ◌≢◌, ℕ, zero, suc, ◌+◌, ◌-◌, ◌<◌, ◌≤◌, List, [], ◌∷◌, ◌++◌, length, map, get_or, take, drop, Option, Some, None, refl, sym, ap, ap₂, subst, ◌∙◌, arith, append_assoc}
use Rattle.std.specs.Prelude.{slice_get, Err}
use Rattle.std.specs.Option.{ok_or}
use Rattle.std.proofs.lemmas.List.{length-map, length-drop, length-take-le, take_more, get_or-drop, get_or-map, map-append, append-nil}
use Rattle.spec_loading.specs.wasm_form.declared.instr.Expr.{Expr}
use Rattle.spec_loading.specs.wasm_form.declared.module.Elem.{Elem}
use Rattle.spec_loading.specs.wasm_form.declared.runtime.Ref.{Ref}
use Rattle.spec_loading.specs.wasm_form.declared.runtime.Trap.{Trap}
use Rattle.spec_loading.specs.spec_runtime.Tables.{TableInstance}
use Rattle.merge_match.specs.Renumbering.{Numbers, reference, entry, table_instance}
use Rattle.snap_module.specs.Held.{Stretch, entry_expr, table_elem, table_elems}
use Rattle.snap_parts.specs.declared.pieces.Piece.{Piece}
use Rattle.snap_parts.specs.Found.{cut, AreFound, noted}
use Rattle.spec_snapshots.specs.Stretches.{IsSparse, AreSparse}
use Rattle.snap_parts.specs.Segments.{TableWritten, TablesWritten}
use Rattle.snap_parts.proofs.Founds.{found_blank, found_item, found_all}

-- ---- entries of a table

module _ (n : Numbers) (xs : List (Option Ref)) (i : ℕ) (lt : i < length xs) where
  entry_is : get_or (map (entry n) xs) i None ≡ entry n (get_or xs i None)
  entry_is = get_or-map (entry n) xs i None None lt

  inside : i < length (map (entry n) xs)
  inside = (let same = length-map xs (entry n) in omega arith)

  pub entry_blank : (gap : ℕ) (ps : List Piece) → get_or xs i None ≡ None → AreFound None gap (map (entry n) xs) i ps
      → AreFound None gap (map (entry n) xs) (i + 1) ps
  entry_blank gap ps is f = found_blank None gap (map (entry n) xs) i ps inside (entry_is ∙ ap (entry n) is) f

  there : (r : Ref) → get_or xs i None ≡ Some r → get_or (map (entry n) xs) i None ≢ None
  there r is e = (let some : Some (reference n r) ≡ None = sym (entry_is ∙ ap (entry n) is) ∙ e in cc)

  pub entry_there : (gap : ℕ) (ps : List Piece) (r : Ref) → get_or xs i None ≡ Some r → AreFound None gap (map (entry n) xs) i ps
      → AreFound None gap (map (entry n) xs) (i + 1) (noted gap i ps)
  entry_there gap ps r is f = found_item None gap (map (entry n) xs) i ps inside (there r is) f

-- nothing is past the end
pub none_at : (xs : List (Option Ref)) (i : ℕ) (why other : Trap) → ok_or (slice_get xs i) why ≡ Err other → None ≡ get_or xs i None
none_at [] i why other e = refl
none_at (x ∷ xs) zero why other e = absurd cc
none_at (x ∷ xs) (suc i) why other e = none_at xs i why other e

-- any numbers
pub some_numbers : Numbers
some_numbers = record {
  function = λ r. 0;
  named = λ m f. 0;
  ty = λ m t. 0;
  global = λ m g. 0;
  table = λ m t. 0;
  elem = λ m e. 0;
  segment = λ m d. 0;
}

-- one more of them
pub entries_next : (n : Numbers) (xs : List (Option Ref)) (at i : ℕ) → at ≤ i → i < length xs → (r : Option Ref) → r ≡ get_or xs i None
    → (e : Expr) → e ≡ entry_expr (entry n r) → (done now : List Expr) → now ≡ done ++ e ∷ []
    → done ≡ map entry_expr (take (i - at) (drop at (map (entry n) xs))) → now ≡ map entry_expr (take (i + 1 - at) (drop at (map (entry n) xs)))
entries_next n xs at i le lt r is e made done now put before =
    let rest : List (Option Ref) = drop at (map (entry n) xs) in
    let place : at + (i - at) ≡ i = omega arith in
    let more : i - at + 1 ≡ i + 1 - at = omega arith in
    let room : i - at < length rest = omega (arith, length-drop at (map (entry n) xs), length-map xs (entry n)) in
    let item : get_or rest (i - at) None ≡ entry n r =
    get_or-drop at (map (entry n) xs) (i - at) None ∙ ap (λ k. get_or (map (entry n) xs) k None) place
    ∙ get_or-map (entry n) xs i None None lt ∙ ap (entry n) (sym is) in
    let all : take (i + 1 - at) rest ≡ take (i - at) rest ++ entry n r ∷ [] =
    ap (λ k. take k rest) (sym more) ∙ take_more rest (i - at) None room ∙ ap (λ x. take (i - at) rest ++ x ∷ []) item in
    put ∙ ap₂ (λ a b. a ++ b ∷ []) before made ∙ sym (map-append entry_expr (take (i - at) rest) (entry n r ∷ []))
    ∙ ap (map entry_expr) (sym all)

-- ---- a table

pub table_is : (n : Numbers) (gap t : ℕ) (x : TableInstance) (ps : List Piece) → AreFound None gap (map (entry n) x.entries) (length x.entries) ps
    → (before now : List Elem) → now ≡ before ++ map (table_elem t) (map (cut (map (entry n) x.entries)) ps)
    → TableWritten gap t (table_instance n x) before now
table_is n gap t x ps f before now put =
    let xs : List (Option Ref) = map (entry n) x.entries in
    let all : AreFound None gap xs (length xs) ps = subst (λ (k : ℕ). AreFound None gap xs k ps) (sym (length-map x.entries (entry n))) f in
    record { stretches = map (cut xs) ps; sparse = found_all None gap xs ps all; put = put }

-- ---- tables

sparse_last : (gap : ℕ) (xs : List TableInstance) (sss : List (List (Stretch (Option Ref)))) (x : TableInstance) (ss : List (Stretch (Option Ref)))
    → AreSparse gap xs sss → IsSparse None gap x.entries ss → AreSparse gap (xs ++ x ∷ []) (sss ++ ss ∷ [])
sparse_last gap [] [] x ss are is = (is, tt)
sparse_last gap (y ∷ xs) (ts ∷ sss) x ss are is = (are.0, sparse_last gap xs sss x ss are.1 is)
sparse_last gap _ _ x ss are is = absurd are

sparse_length : (gap : ℕ) (xs : List TableInstance) (sss : List (List (Stretch (Option Ref)))) → AreSparse gap xs sss → length sss ≡ length xs
sparse_length gap [] [] are = refl
sparse_length gap (y ∷ xs) (ts ∷ sss) are = ap suc (sparse_length gap xs sss are.1)
sparse_length gap _ _ are = absurd are

elems_last : (t : ℕ) (sss : List (List (Stretch (Option Ref)))) (ss : List (Stretch (Option Ref)))
    → table_elems t (sss ++ ss ∷ []) ≡ table_elems t sss ++ map (table_elem (t + length sss)) ss
elems_last t [] ss =
    let none : t ≡ t + 0 = omega arith in
    append-nil (map (table_elem t) ss) ∙ ap (λ k. map (table_elem k) ss) none
elems_last t (ts ∷ sss) ss =
    let place : t + 1 + length sss ≡ t + suc (length sss) = omega arith in
    ap (λ l. map (table_elem t) ts ++ l) (elems_last (t + 1) sss ss ∙ ap (λ k. table_elems (t + 1) sss ++ map (table_elem k) ss) place)
    ∙ sym (append_assoc (map (table_elem t) ts) (table_elems (t + 1) sss) (map (table_elem (t + suc (length sss))) ss))

pub tables_none : (gap : ℕ) (before : List Elem) → TablesWritten gap [] before before
tables_none gap before = record { stretches = []; sparse = tt; put = sym (append-nil before) }

pub tables_next : (n : Numbers) (gap : ℕ) (xs : List TableInstance) (k : ℕ) (x : TableInstance) → k < length xs → x ≡ get_or xs k x
    → (before now later : List Elem) → TablesWritten gap (map (table_instance n) (take k xs)) before now
    → TableWritten gap k (table_instance n x) now later → TablesWritten gap (map (table_instance n) (take (k + 1) xs)) before later
tables_next n gap xs k x lt is before now later w one =
    let f : TableInstance → TableInstance = table_instance n in
    let front : List TableInstance = map f (take k xs) in
    let more : take (k + 1) xs ≡ take k xs ++ x ∷ [] = take_more xs k x lt ∙ ap (λ y. take k xs ++ y ∷ []) (sym is) in
    let list : map f (take (k + 1) xs) ≡ front ++ f x ∷ [] = ap (map f) more ∙ map-append f (take k xs) (x ∷ []) in
    let many : length w.stretches ≡ k = sparse_length gap front w.stretches w.sparse ∙ length-map (take k xs) f ∙ taken in
    record {
      stretches = w.stretches ++ one.stretches ∷ [];
      sparse = subst (λ (l : List TableInstance). AreSparse gap l (w.stretches ++ one.stretches ∷ [])) (sym list)
          (sparse_last gap front w.stretches (f x) one.stretches w.sparse one.sparse);
      put = one.put ∙ ap (λ l. l ++ map (table_elem k) one.stretches) w.put
          ∙ append_assoc before (table_elems 0 w.stretches) (map (table_elem k) one.stretches)
          ∙ ap (λ l. before ++ l) (ap (λ j. table_elems 0 w.stretches ++ map (table_elem j) one.stretches) (place many) ∙ sym (elems_last 0 w.stretches one.stretches));
    }
  where
    taken : length (take k xs) ≡ k
    taken = length-take-le k xs (omega arith)

    place : {m : ℕ} → m ≡ k → k ≡ 0 + m
    place same = omega arith
