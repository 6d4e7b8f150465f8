-- A sound activation on top has a step, and what it comes to is sound.
use Rattle.std.proofs.Common.{◌≡◌, ◌≢◌, ℕ, List, [], ◌∷◌, ◌++◌, length, map, reverse, take, Option, Some, None, refl, sym, ap, ◌∙◌, subst, Bool, true, false, if◌then◌else◌}
use Rattle.std.specs.Prelude.{is_some}
use Rattle.std.proofs.lemmas.List.{reverse-reverse}
use Rattle.spec_execution.specs.wasm_form.declared.types.ValType.{ValType}
use Rattle.spec_execution.specs.wasm_form.declared.types.ValType.TheVariants.{FuncRef}
use Rattle.spec_execution.specs.wasm_form.declared.types.FuncType.{FuncType}
use Rattle.spec_execution.specs.wasm_form.declared.runtime.LoaderCall.{LoaderCall}
use Rattle.spec_execution.specs.wasm_form.declared.runtime.Ref.{Ref}
use Rattle.spec_execution.specs.wasm_form.declared.runtime.Ref.TheVariants.{Own, Loader, Host, Stub}
use Rattle.spec_execution.specs.wasm_form.declared.runtime.Trap.TheVariants as trap
use Rattle.spec_execution.specs.wasm_form.declared.runtime.Value.{Value}
use Rattle.spec_execution.specs.wasm_form.declared.runtime.Value.TheVariants.{Func}
use Rattle.spec_execution.specs.spec_runs.Systems.{only_if}
use Rattle.spec_execution.specs.spec_binary.Options.{◌>>=◌}
use Rattle.spec_execution.specs.spec_binary.Indices.{Function}
use Rattle.spec_execution.specs.spec_binary.SameTypes.{same_function_type}
use Rattle.spec_execution.proofs.of_spec_binary.Lists.{holds_at}
use Rattle.spec_execution.proofs.of_spec_binary.OneType.{one_function_type}
use Rattle.spec_execution.specs.spec_runtime.Memories.{MemoryInstance}
use Rattle.spec_execution.specs.spec_runtime.Tables.{entry_at}
use Rattle.spec_execution.specs.spec_validation.Context.{Context}
use Rattle.spec_execution.specs.Values.{take_values, zero_of}
use Rattle.spec_execution.specs.Activations.{Activation, with_values, pushed, Move, On, Calls, CallsEntry, Refers, Does, Leaves, Fails, Stuck, move}
use Rattle.spec_execution.specs.Views.{View, type_of, loader_type, Effected, performed}
use Rattle.spec_execution.specs.Views as effects
use Rattle.spec_execution.specs.Ranges.{ReferenceExists}
use Rattle.spec_execution.specs.Runs.{Frame, Active, Marked, Next, Goes, Traps, entered, Caller, call_own, call_host, call_loader, call, calling, call_entry, given, left_with, effected_with, carried_out}
use Rattle.spec_safety.specs.ValueTypes.{HaveTypes, IsMemory}
use Rattle.spec_safety.specs.TypedActivations.{within, IsTyped}
use Rattle.spec_safety.specs.TypedMoves.{IsTypedMove}
use Rattle.spec_safety.specs.TypedViews.{HoldTypes, IsTypedView}
use Rattle.spec_safety.specs.TypedFrames.{OnMark, IsCalledOver, Stand, IsSoundNext}
use Rattle.spec_safety.specs.NeverStuck.{CodeStepIsSound}
use Rattle.spec_safety.proofs.HeldValues.{have_append, have_reverse, have_zeros, split}
use Rattle.spec_safety.proofs.OpenBlocks.{body_leads}
use Rattle.spec_safety.proofs.SoundMoves.{move_ok}
use Rattle.spec_safety.proofs.SoundEffects.{IsThere, performed_ok}

not_empty : {X : Type 0} (x : X) (xs : List X) → (x ∷ xs) ≢ []
not_empty x xs e = absurd cc

module _ {Units Mark : Type 0} (V : View Units) (N : ℕ → Context) (Kept : Units → Type 0) (M : OnMark Mark) (typed : IsTypedView V N Kept) where
  abbrev Ok : Option (Next Units Mark) → Type 0
  Ok o = IsSoundNext V N Kept M o

  -- values are given
  pub given_ok : (function : Function) (rs : List ValType) (a : Activation) (vs : List Value) → IsTyped V N function [] rs a → HaveTypes V rs vs
      → IsTyped V N function [] [] (with_values a (vs ++ a.values))
  given_ok function rs a vs x h =
      record {
        labels = x.labels;
        ends = x.ends;
        kept = rs ++ x.kept;
        is_of = x.is_of;
        locals = x.locals;
        values = have_append V rs x.kept vs a.values h x.values;
        rest = x.rest;
        levels = x.levels;
      }

  -- what called goes on with these
  pub given_stand : (f : Frame Mark) (fs : List (Frame Mark)) (rs : List ValType) (vs : List Value) → Stand V N M (f ∷ fs) rs → HaveTypes V rs vs
      → Stand V N M (given vs f ∷ fs) []
  given_stand (Active a) fs rs vs st h = (st.0, given_ok st.0 rs a vs st.1 h, st.2, st.3)
  given_stand (Marked mark) fs rs vs st h = (refl, st.1)

  module _ (us : Units) (memory : MemoryInstance) (kept : Kept us) (is : IsMemory memory) where
    holds : HoldTypes V N us
    holds = typed.holds us kept

    goes_ok : (f : Frame Mark) (fs : List (Frame Mark)) → Stand V N M (f ∷ fs) [] → Ok (Some (Goes us memory (f ∷ fs)))
    goes_ok f fs st = (kept, is, not_empty f fs, st)

    pub left_ok : (fs : List (Frame Mark)) (rs : List ValType) (vs : List Value) → Stand V N M fs rs → HaveTypes V rs vs
        → Ok (Some (left_with us memory vs fs))
    left_ok [] rs vs st h = tt
    left_ok (f ∷ fs) rs vs st h = goes_ok (given vs f) fs (given_stand f fs rs vs st h)

    -- ---- calls

    module _ (caller : Caller Mark) (vs : List Value) (under : List ValType) where
      -- what called stands, once it is given these
      abbrev Returns : List ValType → Type 0
      Returns rs = (ws : List Value) → HaveTypes V under ws → Stand V N M (caller ws) rs

      -- so that a function of this type may be called from there
      abbrev CalledFrom : FuncType → Type 0
      CalledFrom ty = (ws : List Value) → IsCalledOver (caller ws) ty

      entered_ok : (unit f : ℕ) (x : Function) → V.code unit f ≡ Some x → HaveTypes V (reverse x.ty.params ++ under) vs
          → Returns (reverse x.ty.results) → CalledFrom x.ty → Ok (call_own us memory caller vs unit f x)
      entered_ok unit f x e h st from =
          let s = split V (reverse x.ty.params) under vs h in
          let args : List Value = take (length (reverse x.ty.params)) vs in
          let turned : HaveTypes V x.ty.params (reverse args) =
          subst (λ z. HaveTypes V z (reverse args)) (reverse-reverse x.ty.params) (have_reverse V (reverse x.ty.params) args s.top) in
          let body = typed.code unit f x e in
          let leads = body_leads (within (N unit) (x.ty.params ++ x.locals) x.ty.results) x.body (V.height unit f) body.0 body.1 body.2 body.3 body.4 in
          let a : IsTyped V N x [] [] (entered unit f x args) =
          record {
            labels = x.ty.results ∷ [];
            ends = x.ty.results;
            kept = [];
            is_of = (e, refl);
            locals = have_append V x.ty.params x.locals (reverse args) (map zero_of x.locals) turned (have_zeros V x.locals);
            values = tt;
            rest = leads;
            levels = (refl, refl);
          } in
          rw s.taken (goes_ok (Active (entered unit f x args)) (caller _) (x, a, from _, st _ s.under))

      host_ok : (entry : ℕ) (ty : FuncType) → V.host entry ≡ Some ty → HaveTypes V (reverse ty.params ++ under) vs → Returns (reverse ty.results)
          → CalledFrom ty → Ok (call_host caller vs entry ty)
      host_ok entry ty e h st from =
          let s = split V (reverse ty.params) under vs h in
          rw s.taken (ty, e, (_, s.top, refl), from _, st _ s.under)

      loader_ok : (which : LoaderCall) → V.has_loader ≡ true → HaveTypes V (reverse (loader_type which).params ++ under) vs
          → Returns (reverse (loader_type which).results) → Ok (call_loader caller vs which (loader_type which))
      loader_ok which e h st =
          let s = split V (reverse (loader_type which).params) under vs h in
          rw s.taken (e, (_, s.top, refl), st _ s.under)

      stub_ok : (ty : FuncType) → HaveTypes V (reverse ty.params ++ under) vs
          → Ok (take_values (reverse ty.params) vs >>= λ p. Some (Traps trap.Unreachable))
      stub_ok ty h = let s = split V (reverse ty.params) under vs h in rw s.taken tt

      own_called : (unit f : ℕ) (ty : FuncType) (o : Option Function) → V.code unit f ≡ o → (o >>= λ x. Some x.ty) ≡ Some ty
          → HaveTypes V (reverse ty.params ++ under) vs → Returns (reverse ty.results) → CalledFrom ty → Ok (o >>= call_own us memory caller vs unit f)
      own_called unit f ty None q e h st from = absurd cc
      own_called unit f ty (Some x) q e h st from =
          let same : ty ≡ x.ty = cc in
          entered_ok unit f x q (subst (λ z. HaveTypes V (reverse z.params ++ under) vs) same h) (subst (λ z. Returns (reverse z.results)) same st)
          (subst CalledFrom same from)

      loader_called : (which : LoaderCall) (ty : FuncType) (b : Bool) → V.has_loader ≡ b → only_if b (loader_type which) ≡ Some ty
          → HaveTypes V (reverse ty.params ++ under) vs → Returns (reverse ty.results)
          → Ok (only_if b (loader_type which) >>= call_loader caller vs which)
      loader_called which ty false q e h st = absurd cc
      loader_called which ty true q e h st =
          let same : ty ≡ loader_type which = cc in
          loader_ok which q (subst (λ z. HaveTypes V (reverse z.params ++ under) vs) same h) (subst (λ z. Returns (reverse z.results)) same st)

      pub call_ok : (r : Ref) (ty : FuncType) → type_of V r ≡ Some ty → HaveTypes V (reverse ty.params ++ under) vs → Returns (reverse ty.results)
          → CalledFrom ty → Ok (call V us memory caller vs r)
      call_ok (Own unit f) ty e h st from = own_called unit f ty (V.code unit f) refl e h st from
      call_ok (Host entry) ty e h st from = rw e (host_ok entry ty e h st from)
      call_ok (Loader which) ty e h st from = loader_called which ty V.has_loader refl e h st
      call_ok (Stub unit f) ty e h st from = rw e (stub_ok ty h)

    -- ---- moves

    module _ (fs : List (Frame Mark)) (own : Function) (over : IsCalledOver fs own.ty) (stands : Stand V N M fs (reverse own.ty.results)) where
      on_ok : (a : Activation) → IsTyped V N own [] [] a → Ok (Some (Goes us memory (Active a ∷ fs)))
      on_ok a x = goes_ok (Active a) fs (own, x, over, stands)

      calls_ok : (a : Activation) (r : Ref) (ty : FuncType) → type_of V r ≡ Some ty → IsTyped V N own (reverse ty.params) (reverse ty.results) a
          → Ok (call V us memory (calling a fs) a.values r)
      calls_ok a r ty e x =
          call_ok (calling a fs) a.values x.kept r ty e x.values
          (λ ws h. (
            own,
            record {
              labels = x.labels;
              ends = x.ends;
              kept = x.kept;
              is_of = x.is_of;
              locals = x.locals;
              values = h;
              rest = x.rest;
              levels = x.levels;
            },
            over,
            stands,
          ))
          (λ ws. tt)

      entry_ok : (a : Activation) (ty : FuncType) (o : Option (Option Ref)) → ((r : Option Ref) → o ≡ Some r → ReferenceExists V r)
          → IsTyped V N own (reverse ty.params) (reverse ty.results) a → Ok (call_entry V us memory fs a ty o)
      entry_ok a ty None ex x = tt
      entry_ok a ty (Some None) ex x = tt
      entry_ok a ty (Some (Some r)) ex x = go (type_of V r) refl (ex (Some r) refl)
        where
          tested : (u : FuncType) (b : Bool) → type_of V r ≡ Some u → same_function_type u ty ≡ b
              → Ok (if b then call V us memory (calling a fs) a.values r else Some (Traps trap.WrongType))
          tested u true e q = calls_ok a r ty (e ∙ ap (λ (z : FuncType). Some z) (one_function_type u ty q)) x
          tested u false e q = tt

          go : (o : Option FuncType) → type_of V r ≡ o → is_some o ≡ true
              → Ok (o >>= λ found. if same_function_type found ty then call V us memory (calling a fs) a.values r else Some (Traps trap.WrongType))
          go None e k = absurd cc
          go (Some u) e k = tested u (same_function_type u ty) e refl

      effected_ok : (a : Activation) (rs : List ValType) (o : Option (Effected Units)) → IsTyped V N own [] rs a → IsThere V N Kept typed rs o
          → Ok (o >>= λ e. Some (effected_with fs a e))
      effected_ok a rs None x h = absurd h
      effected_ok a rs (Some (effects.Gives values us' memory')) x h = (h.1, h.2, not_empty _ _, (own, given_ok own rs a values x h.0, over, stands))
      effected_ok a rs (Some (effects.Traps why)) x h = tt

      pub carried_ok : (m : Move) → IsTypedMove V N own m → Ok (carried_out V us memory fs m)
      carried_ok (On a) x = on_ok a x
      carried_ok (Calls f a) x =
          let r = typed.functions a.unit f x.0 x.1 in
          rw r.1 (calls_ok a r.0 x.0 r.2 x.2)
      carried_ok (CallsEntry t ty i a) x =
          let table = holds.tables a.unit t x.1 x.2 in
          let declared : V.declared a.unit ty ≡ Some x.0 = ap (λ (d : ℕ → Option FuncType). d ty) (sym (typed.types a.unit)) ∙ x.3 in
          rw (table.1, declared) (entry_ok a x.0 (entry_at table.0 i) (λ r e. holds_at (ReferenceExists V) table.0.entries i r table.2.entries e) x.4)
      carried_ok (Refers f a) x =
          let ty = typed.refers a.unit f x.0 in
          let r = typed.functions a.unit f ty.0 ty.1 in
          rw r.1 (on_ok (pushed a (Func (Some r.0))) (given_ok own (FuncRef ∷ []) a (Func (Some r.0) ∷ []) x.1 ((refl, ap is_some r.2), tt)))
      carried_ok (Does effect a) x = effected_ok a x.0 (performed V us memory a.unit effect) x.2
          (performed_ok V N Kept typed us memory kept is a.unit effect x.0 x.1)
      carried_ok (Leaves values) x = left_ok fs (reverse own.ty.results) values stands x
      carried_ok (Fails why) x = tt
      carried_ok Stuck x = absurd x

pub code_step : {Units Mark : Type 0} (V : View Units) (N : ℕ → Context) (Kept : Units → Type 0) (M : OnMark Mark) → CodeStepIsSound V N Kept M
code_step V N Kept M typed us memory a frames kept is st =
    carried_ok V N Kept M typed us memory kept is frames st.0 st.2 st.3 (move (V.declared a.unit) a)
    (subst (λ (d : _). IsTypedMove V N st.0 (move d a)) (typed.types a.unit) (move_ok V N st.0 typed.tables a st.1))
