-- Each change over a store keeps the types of what is there.
use Rattle.std.proofs.Common.{◌≡◌, ◌<◌, ℕ, zero, suc, List, [], ◌∷◌, Option, Some, None, refl, sym, ap, ◌∙◌, subst, slice_get, slice_set}
use Rattle.std.proofs.lemmas.List.Elements.{All-nil}
use Rattle.spec_execution.specs.wasm_form.declared.types.ValType.{ValType}
use Rattle.spec_execution.specs.wasm_form.declared.types.GlobalType.{GlobalType}
use Rattle.spec_execution.specs.wasm_form.declared.runtime.Value.{Value}
use Rattle.spec_execution.specs.spec_binary.Options.{◌>>=◌}
use Rattle.spec_execution.specs.spec_runtime.Tables.{TableInstance}
use Rattle.spec_execution.specs.spec_validation.Context.{Context}
use Rattle.spec_execution.specs.Ranges.{ReferenceExists, AllExist}
use Rattle.spec_execution.specs.Instances.{ModuleParts, Instances, set_at, store_view}
use Rattle.spec_safety.specs.ValueTypes.{HasType, AreBytes, IsTable}
use Rattle.spec_safety.specs.TypedViews.{HoldTypes, IsTypedView}
use Rattle.spec_safety.specs.TypedStores.{AreTyped}

-- an element that a look-up finds, of which this holds
abbrev pub IsAt : {A : Type 0} → (A → Type 0) → List A → Option ℕ → Type 0
IsAt {A} P xs at = (x : A) × ((at >>= slice_get xs) ≡ Some x) × P x

still_there : {A : Type 0} (P : A → Type 0) (xs : List A) (i : ℕ) (v : A) (j : ℕ) → (i ≡ j → P v) → IsAt P xs (Some j) → IsAt P (slice_set xs i v) (Some j)
still_there P [] i v j new old = absurd (let e = old.1 in cc)
still_there P (x ∷ xs) zero v zero new old = (v, refl, new refl)
still_there P (x ∷ xs) zero v (suc j) new old = old
still_there P (x ∷ xs) (suc i) v zero new old = old
still_there P (x ∷ xs) (suc i) v (suc j) new old = still_there P xs i v j (λ e. new (ap suc e)) old

pub still_at : {A : Type 0} (P : A → Type 0) (xs : List A) (i : Option ℕ) (v : A) (j : Option ℕ) → ((at : ℕ) → i ≡ Some at → j ≡ Some at → P v) → IsAt P xs j → IsAt P (set_at xs i v) j
still_at P xs None v j new old = old
still_at P xs (Some i) v None new old = absurd (let e = old.1 in cc)
still_at P xs (Some i) v (Some j) new old = still_there P xs i v j (λ e. new i refl (ap (λ k. Some k) (sym e))) old

module _ (I : Instances) (N : ℕ → Context) (typed : AreTyped I N) (us : ModuleParts) (holds : HoldTypes (store_view I) N us) where
  -- globals at one address have one type
  keeps_globals : (unit g : ℕ) (t : GlobalType) (v : Value) → (N unit).globals g ≡ Some t → HasType (store_view I) t.value v → HoldTypes (store_view I) N ((store_view I).set_global us unit g v)
  keeps_globals unit g t v named new =
      record {
        globals = λ u k s e.
            let keeps : (a : ℕ) → I.global_at unit g ≡ Some a → I.global_at u k ≡ Some a → HasType (store_view I) s.value v =
            λ a here there. subst (λ (z : ValType). HasType (store_view I) z v) (typed.globals unit g u k t s named e (here ∙ sym there)) new in
            still_at (HasType (store_view I) s.value) us.globals (I.global_at unit g) v (I.global_at u k) keeps (holds.globals u k s e);
        tables = holds.tables;
        elems = holds.elems;
        datas = holds.datas;
      }

  keeps_tables : (unit t : ℕ) (x : TableInstance) → IsTable (store_view I) x → HoldTypes (store_view I) N ((store_view I).set_table us unit t x)
  keeps_tables unit t x new = record {
    globals = holds.globals;
    tables = λ u k ty e. still_at (IsTable (store_view I)) us.tables (I.table_at unit t) x (I.table_at u k) (λ a p q. new) (holds.tables u k ty e);
    elems = holds.elems;
    datas = holds.datas;
  }

  keeps_elems : (unit e : ℕ) → HoldTypes (store_view I) N ((store_view I).drop_elem us unit e)
  keeps_elems unit e = record {
    globals = holds.globals;
    tables = holds.tables;
    elems = λ u k ty f. still_at (AllExist (store_view I)) us.elems (I.elem_at unit e) [] (I.elem_at u k) (λ a p q. All-nil (ReferenceExists (store_view I))) (holds.elems u k ty f);
    datas = holds.datas;
  }

  keeps_datas : (unit d : ℕ) → HoldTypes (store_view I) N ((store_view I).drop_data us unit d)
  keeps_datas unit d = record {
    globals = holds.globals;
    tables = holds.tables;
    elems = holds.elems;
    datas = λ u k lt. still_at AreBytes us.datas (I.data_at unit d) [] (I.data_at u k) (λ a p q. All-nil (λ b. b < 256)) (holds.datas u k lt);
  }

pub store_is_typed : (I : Instances) (N : ℕ → Context) → AreTyped I N → IsTypedView (store_view I) N (HoldTypes (store_view I) N)
store_is_typed I N typed = record {
  types = typed.types;
  functions = typed.functions;
  refers = typed.refers;
  tables = typed.tables;
  code = typed.code;
  holds = λ us h. h;
  set_global = λ us unit g t v holds named new. keeps_globals I N typed us holds unit g t v named new;
  set_table = λ us unit t ty x holds named new. keeps_tables I N typed us holds unit t x new;
  drop_elem = λ us unit e ty holds named. keeps_elems I N typed us holds unit e;
  drop_data = λ us unit d holds lt. keeps_datas I N typed us holds unit d;
}
