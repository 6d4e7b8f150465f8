-- What is asked of a host function fits its parameters, where these are integers.
use Rattle.std.proofs.Common.{◌≡◌, ℕ, ◌^◌, ◌<◌, List, [], ◌∷◌, ◌++◌, reverse, Option, Some, None, Bool, true, ◌&&◌, IsTrue, IfSome, All, if◌then◌else◌, refl, sym, ap, ◌∙◌, subst, arith}
use Rattle.std.specs.List.{list_all}
use Rattle.std.proofs.lemmas.Bool.{and_parts, and_from, lt-ltb}
use Rattle.std.proofs.lemmas.Option.{same_Some}
use Rattle.std.proofs.lemmas.List.{reverse-append, reverse-reverse}
use Rattle.std.proofs.lemmas.List.Folds.{list_all-append}
use Rattle.std.proofs.lemmas.List.Elements.{All-head, All-tail}
use Rattle.spec_safety.proofs.Lookups.{All-reverse}
use Rattle.wasm_form.specs.declared.types.ValType.{ValType}
use Rattle.wasm_form.specs.declared.types.ValType.TheVariants.{I32, I64, F32, F64, FuncRef, ExternRef}
use Rattle.wasm_form.specs.declared.types.FuncType.{FuncType}
use Rattle.wasm_form.specs.declared.module.Module.{Module}
use Rattle.wasm_form.specs.declared.runtime.Ref.{Ref}
use Rattle.wasm_form.specs.declared.runtime.Ref.TheVariants.{Own, Loader, Host, Stub}
use Rattle.wasm_form.specs.declared.runtime.Trap.{Trap}
use Rattle.wasm_form.specs.declared.runtime.Trap.TheVariants as trap
use Rattle.wasm_form.specs.declared.runtime.Asked.{Asked}
use Rattle.wasm_form.specs.declared.runtime.Value.{Value}
use Rattle.wasm_form.specs.declared.runtime.Value.TheVariants.{Num, Func}
use Rattle.spec_safety.specs.spec_runs.Systems.{only_if, Status, Moving, Waits, Returned, Exited, Trapped}
use Rattle.spec_safety.specs.spec_binary.Options.{◌>>=◌}
use Rattle.spec_safety.specs.spec_binary.SameTypes.{same_function_type}
use Rattle.spec_safety.specs.spec_runtime.Memories.{MemoryInstance}
use Rattle.spec_safety.specs.spec_runtime.Names.{HostName, is_integer, has_integers}
use Rattle.spec_safety.specs.spec_runtime.Tables.{entry_at}
use Rattle.spec_safety.specs.spec_runtime.Hosts.{HostCall, number_fits, numbers_fit}
use Rattle.spec_safety.specs.spec_execution.Values.{is_number, of_kind, take_values, number_of, numbers_of}
use Rattle.spec_safety.specs.spec_execution.Activations.{Activation, Move, On, Calls, CallsEntry, Refers, Does, Leaves, Fails, Stuck, move}
use Rattle.spec_safety.specs.spec_execution.Views.{View, type_of, loader_type, Effected, performed}
use Rattle.spec_safety.specs.spec_execution.Views as effects
use Rattle.spec_safety.specs.spec_execution.Runs.{Frame, Active, Marked, Next, Goes, Asks, Loads, Ends, Traps, Caller, arguments, call_own, call_host, call_loader, call, calling, call_entry, left_with, effected_with, carried_out, stands, became}
use Rattle.spec_safety.specs.spec_execution.Instances.{ModuleParts, module_hosts, host_type, module_view}
use Rattle.spec_safety.specs.spec_execution.OneModule.{Starting, ModuleState, start_next, module_next, module_step}
use Rattle.wasm_machine.specs.declared.event.Event.{Event}
use Rattle.wasm_machine.specs.declared.event.Event.TheVariants as event
use Rattle.wasm_single.specs.declared.bare_run.Core.{Core}
use Rattle.wasm_machine.specs.Steps.{TellsStatus, ArgumentsFit, AreNumbers}
use Rattle.wasm_single.specs.Cores.{Steps}
use Rattle.spec_safety.proofs.of_spec_binary.Options.{went_on, each_found, each, either_way}

-- ---- numbers by their types

-- numbers of 64 bits fit these types, if the types are integers
abbrev pub Fit : List ValType → List ℕ → Type 0
Fit types numbers = list_all is_integer types ≡ true → All (λ n. n < 2 ^ 64) numbers → IsTrue (numbers_fit types numbers)

integer_number : (t : ValType) → is_integer t ≡ true → is_number t ≡ true
integer_number I32 e = refl
integer_number I64 e = refl
integer_number F32 e = absurd cc
integer_number F64 e = absurd cc
integer_number FuncRef e = absurd cc
integer_number ExternRef e = absurd cc

one_fits : (t : ValType) (n : ℕ) → is_integer t ≡ true → number_of t n < 2 ^ 64 → number_fits t (number_of t n) ≡ true
one_fits I32 n e h = lt-ltb (number_of I32 n) (2 ^ 32) (omega arith)
one_fits I64 n e h = lt-ltb n (2 ^ 64) h
one_fits F32 n e h = absurd cc
one_fits F64 n e h = absurd cc
one_fits FuncRef n e h = absurd cc
one_fits ExternRef n e h = absurd cc

taken_fit : (ts : List ValType) (vs : List Value) (p : List Value × List Value) → take_values ts vs ≡ Some p → Fit ts (numbers_of ts p.0)
taken_fit [] vs p e = λ integers small. refl
taken_fit (t ∷ ts) [] p e = absurd cc
taken_fit (t ∷ ts) (Num n ∷ vs) p e = λ integers.
    let both = and_parts (is_integer t) (list_all is_integer ts) integers in
    let whole : (take_values ts vs >>= λ q. Some (Num n ∷ q.0, q.1)) ≡ Some p =
    sym (ap (λ k. if of_kind k (Num n) then (take_values ts vs >>= λ q. Some (Num n ∷ q.0, q.1)) else None) (integer_number t both.0)) ∙ e in
    let q = went_on (take_values ts vs) (λ q. Some (Num n ∷ q.0, q.1)) p whole in
    let rest = numbers_of ts q.0.0 in
    let P : List Value × List Value → Type 0 = λ x. All (λ m. m < 2 ^ 64) (numbers_of (t ∷ ts) x.0) → IsTrue (numbers_fit (t ∷ ts) (numbers_of (t ∷ ts) x.0)) in
    subst P (same_Some (Num n ∷ q.0.0, q.0.1) p q.2)
    (λ small.
    and_from (number_fits t (number_of t n)) (numbers_fit ts rest)
    (one_fits t n both.0 (All-head (λ m. m < 2 ^ 64) (number_of t n) rest small))
    (taken_fit ts vs q.0 q.1 both.1 (All-tail (λ m. m < 2 ^ 64) (number_of t n) rest small)))
taken_fit (t ∷ ts) (Func r ∷ vs) p e = λ integers.
    let kind : is_number t ≡ true = integer_number t (and_parts (is_integer t) (list_all is_integer ts) integers).0 in
    let none : None ≡ Some p = sym (ap (λ k. if of_kind k (Func r) then (take_values ts vs >>= λ q. Some (Func r ∷ q.0, q.1)) else None) kind) ∙ e in
    absurd cc

-- ---- the other way round

fit_push : (ts : List ValType) (ns : List ℕ) (t : ValType) (n : ℕ) → numbers_fit ts ns ≡ true → number_fits t n ≡ true → numbers_fit (ts ++ t ∷ []) (ns ++ n ∷ []) ≡ true
fit_push [] [] t n h k = and_from (number_fits t n) true k refl
fit_push [] (m ∷ ns) t n h k = absurd cc
fit_push (u ∷ ts) [] t n h k = absurd cc
fit_push (u ∷ ts) (m ∷ ns) t n h k =
    let both = and_parts (number_fits u m) (numbers_fit ts ns) h in
    and_from (number_fits u m) (numbers_fit (ts ++ t ∷ []) (ns ++ n ∷ [])) both.0 (fit_push ts ns t n both.1 k)

fit_reverse : (ts : List ValType) (ns : List ℕ) → numbers_fit ts ns ≡ true → numbers_fit (reverse ts) (reverse ns) ≡ true
fit_reverse [] [] h = refl
fit_reverse [] (n ∷ ns) h = absurd cc
fit_reverse (t ∷ ts) [] h = absurd cc
fit_reverse (t ∷ ts) (n ∷ ns) h =
    let both = and_parts (number_fits t n) (numbers_fit ts ns) h in
    rw (reverse-append (t ∷ []) ts, reverse-append (n ∷ []) ns) (fit_push (reverse ts) (reverse ns) t n (fit_reverse ts ns both.1) both.0)

all_reverse : {X : Type 0} (p : X → Bool) (xs : List X) → list_all p xs ≡ true → list_all p (reverse xs) ≡ true
all_reverse p [] h = refl
all_reverse p (x ∷ xs) h =
    let both = and_parts (p x) (list_all p xs) h in
    rw (reverse-append (x ∷ []) xs, list_all-append p (reverse xs) (x ∷ [])) (and_from (list_all p (reverse xs)) (p x && true) (all_reverse p xs both.1) (and_from (p x) true both.0 refl))

-- the arguments of a function are numbers by its types
arguments_fit : (ty : FuncType) (vs : List Value) (p : List Value × List Value) → take_values (reverse ty.params) vs ≡ Some p → Fit ty.params (arguments ty p.0)
arguments_fit ty vs p e integers small =
    let numbers = numbers_of (reverse ty.params) p.0 in
    let below : All (λ n. n < 2 ^ 64) numbers = subst (All (λ n. n < 2 ^ 64)) (reverse-reverse numbers) (All-reverse (λ n. n < 2 ^ 64) (reverse numbers) small) in
    let turned : numbers_fit (reverse (reverse ty.params)) (reverse numbers) ≡ true =
    fit_reverse (reverse ty.params) numbers (taken_fit (reverse ty.params) vs p e (all_reverse is_integer ty.params integers) below) in
    subst (λ ts. IsTrue (numbers_fit ts (reverse numbers))) (reverse-reverse ty.params) turned

-- ---- what a step asks

-- it asks a host function that there is for the arguments of its type
abbrev pub IsAsked : {Units Mark : Type 0} → View Units → Next Units Mark → Type 0
IsAsked V (Asks entry args frames) = (ty : FuncType) × (V.host entry ≡ Some ty) × Fit ty.params args
IsAsked V (Goes us memory frames) = Unit {0}
IsAsked V (Loads which args frames) = Unit {0}
IsAsked V Ends = Unit {0}
IsAsked V (Traps why) = Unit {0}

abbrev trapped : {Units Mark : Type 0} → Option (Next Units Mark)
trapped = Some (Traps trap.Unreachable)

module _ {Units Mark : Type 0} (V : View Units) (us : Units) (memory : MemoryInstance) where
  pub call_asks : (caller : Caller Mark) (values : List Value) (r : Ref) → IfSome (call V us memory caller values r) (IsAsked V)
  call_asks caller values (Own unit f) =
      each (IsAsked V) (V.code unit f) (call_own us memory caller values unit f)
      (λ x. each (IsAsked V) (take_values (reverse x.ty.params) values) _ (λ p. tt))
  call_asks caller values (Host entry) =
      each_found (IsAsked V) (V.host entry) (call_host caller values entry)
      (λ ty at. each_found (IsAsked V) (take_values (reverse ty.params) values) _ (λ p e. (ty, at, arguments_fit ty values p e)))
  call_asks caller values (Loader which) =
      each (IsAsked V) (only_if V.has_loader (loader_type which)) (call_loader caller values which)
      (λ ty. each (IsAsked V) (take_values (reverse ty.params) values) _ (λ p. tt))
  call_asks caller values (Stub unit f) = each (IsAsked V) (V.stub unit f) (λ ty. take_values (reverse ty.params) values >>= λ p. trapped) (λ ty. each (IsAsked V) (take_values (reverse ty.params) values) (λ p. trapped) (λ p. tt))

  entry_asks : (frames : List (Frame Mark)) (a : Activation) (ty : FuncType) (o : Option (Option Ref)) → IfSome (call_entry V us memory frames a ty o) (IsAsked V)
  entry_asks frames a ty None = tt
  entry_asks frames a ty (Some None) = tt
  entry_asks frames a ty (Some (Some r)) =
      each (IsAsked V) (type_of V r) _
      (λ found. either_way (IsAsked V) (same_function_type found ty) (call V us memory (calling a frames) a.values r) (Some (Traps _)) (call_asks (calling a frames) a.values r) tt)

  effected_asks : (frames : List (Frame Mark)) (a : Activation) (e : Effected Units) → IsAsked V (effected_with frames a e)
  effected_asks frames a (effects.Gives values us' memory') = tt
  effected_asks frames a (effects.Traps why) = tt

  left_asks : (values : List Value) (frames : List (Frame Mark)) → IsAsked V (left_with us memory values frames)
  left_asks values [] = tt
  left_asks values (f ∷ fs) = tt

  pub carried_asks : (frames : List (Frame Mark)) (m : Move) → IfSome (carried_out V us memory frames m) (IsAsked V)
  carried_asks frames (On a) = tt
  carried_asks frames (Calls f a) = each (IsAsked V) (V.target a.unit f) _ (λ r. call_asks (calling a frames) a.values r)
  carried_asks frames (CallsEntry t ty i a) =
      each (IsAsked V) (V.table us a.unit t) _ (λ table. each (IsAsked V) (V.declared a.unit ty) _ (λ f. entry_asks frames a f (entry_at table i)))
  carried_asks frames (Refers f a) = each (IsAsked V) (V.target a.unit f) _ (λ r. tt)
  carried_asks frames (Does effect a) = each (IsAsked V) (performed V us memory a.unit effect) _ (λ e. effected_asks frames a e)
  carried_asks frames (Leaves values) = left_asks values frames
  carried_asks frames (Fails why) = tt
  carried_asks frames Stuck = tt

module _ (m : Module) (s : ModuleState) where
  start_asks : (under : List (Frame Starting)) (start : Option ℕ) (entry : ℕ) → IfSome (start_next m s under (record { start = start; entry = entry })) (IsAsked (module_view m))
  start_asks under None entry = each (IsAsked (module_view m)) ((module_view m).target 0 entry) _ (λ r. call_asks (module_view m) s.units s.memory (λ values. under) [] r)
  start_asks under (Some f) entry = each (IsAsked (module_view m)) ((module_view m).target 0 f) _ (λ r. call_asks (module_view m) s.units s.memory _ [] r)

  next_asks : (frames : List (Frame Starting)) → IfSome (module_next m s frames) (IsAsked (module_view m))
  next_asks [] = tt
  next_asks (Active a ∷ under) = carried_asks (module_view m) s.units s.memory under (move ((module_view m).declared a.unit) a)
  next_asks (Marked starting ∷ under) = start_asks under starting.start starting.entry

  -- a host function that is asked
  asked_fit : (entry : ℕ) (args : List ℕ) (frames : List (Frame Starting)) (t : ModuleState) (call : HostCall) (o : Option HostName)
      → ((ty : FuncType) × (host_type o ≡ Some ty) × Fit ty.params args) → (o >>= λ h. Some (stands s frames (Waits (record { host = h; args = args })))) ≡ Some t
      → t.status ≡ Waits call → Fit call.host.ty.params call.args
  asked_fit entry args frames t call None asked e waits = absurd cc
  asked_fit entry args frames t call (Some h) asked e waits =
      let same : stands s frames (Waits (record { host = h; args = args })) ≡ t = same_Some (stands s frames (Waits (record { host = h; args = args }))) t e in
      let status : Waits (record { host = h; args = args }) ≡ t.status = ap (λ (x : ModuleState). x.status) same in
      let called : record { host = h; args = args } ≡ call = cc in
      let ty : asked.0 ≡ h.ty = same_Some asked.0 h.ty (sym asked.1) in
      let P : HostCall → Type 0 = λ c. Fit c.host.ty.params c.args in
      let Q : FuncType → Type 0 = λ x. Fit x.params args in
      subst P called (subst Q ty asked.2)

  stands_so : (x t : ModuleState) (call : HostCall) → Some x ≡ Some t → t.status ≡ Waits call → x.status ≡ Waits call
  stands_so x t call e waits = ap (λ (y : ModuleState). y.status) (same_Some x t e) ∙ waits

  became_fit : (n : Next ModuleParts Starting) (t : ModuleState) (call : HostCall) → IsAsked (module_view m) n → became (module_hosts m) s n ≡ Some t → t.status ≡ Waits call
      → Fit call.host.ty.params call.args
  became_fit (Goes us memory frames) t call asked e waits =
      let clash : Moving ≡ Waits call = stands_so (record { units = us; memory = memory; stack = frames; status = Moving }) t call e waits in absurd cc
  became_fit (Asks entry args frames) t call asked e waits = asked_fit entry args frames t call (module_hosts m entry) asked e waits
  became_fit (Loads which args frames) t call asked e waits = absurd cc
  became_fit Ends t call asked e waits = let clash : Returned ≡ Waits call = stands_so (stands s [] Returned) t call e waits in absurd cc
  became_fit (Traps why) t call asked e waits = let clash : Trapped why ≡ Waits call = stands_so (stands s [] (Trapped why)) t call e waits in absurd cc

  -- what a step asks fits the parameters of the host function, if they are integers
  step_arguments : (t : ModuleState) (call : HostCall) → module_step m s ≡ Some t → t.status ≡ Waits call → Fit call.host.ty.params call.args
  step_arguments t call e waits =
      let n = went_on (module_next m s s.stack) (became (module_hosts m) s) t e in
      let asked : IfSome (Some n.0) (IsAsked (module_view m)) = subst (λ (o : Option (Next ModuleParts Starting)). IfSome o (IsAsked (module_view m))) n.1 (next_asks s.stack) in
      became_fit n.0 t call asked n.2 waits

-- the same of what is told of the step
told_fit : (m : Module) (s t : ModuleState) (asked : Asked) (status : Status HostCall Trap) → module_step m s ≡ Some t → t.status ≡ status → TellsStatus (module_hosts m) (event.Waits asked) status
    → AreNumbers (event.Waits asked) → ArgumentsFit (module_hosts m) (event.Waits asked)
told_fit m s t asked Moving made stands told numbers = absurd told
told_fit m s t asked (Waits call) made stands told numbers =
    let fits : Fit call.host.ty.params asked.args = subst (Fit call.host.ty.params) (sym told.1) (step_arguments m s t call made stands) in
    let P : Option HostName → Type 0 = λ o. IfSome o (λ h. IsTrue (has_integers h.ty) → IsTrue (numbers_fit h.ty.params asked.args)) in
    subst P (sym told.0) (λ integers. fits (and_parts (list_all is_integer call.host.ty.params) (list_all is_integer call.host.ty.results) integers).0 numbers)
told_fit m s t asked Returned made stands told numbers = absurd told
told_fit m s t asked (Exited code) made stands told numbers = absurd told
told_fit m s t asked (Trapped why) made stands told numbers = absurd told

pub arguments_told : (e : Event) (s : ModuleState) (new : Core) → Steps e s new → AreNumbers e → ArgumentsFit (module_hosts new.checked.now) e
arguments_told (event.Waits asked) s new made numbers = told_fit new.checked.now s made.1.0 asked made.1.0.status made.1.1 refl made.1.2 numbers
arguments_told event.Moved s new made numbers = tt
arguments_told (event.Loader which first second) s new made numbers = tt
arguments_told (event.Marked tag) s new made numbers = tt
arguments_told event.Returned s new made numbers = tt
arguments_told (event.Trapped why) s new made numbers = tt
arguments_told (event.Exited code) s new made numbers = tt
arguments_told event.Deep s new made numbers = tt
