-- The functions of the loader: what they are answered, and that the step which calls one is the run's.
use Rattle.std.proofs.Common.{◌≡◌, ℕ, zero, suc, ◌+◌, ◌<◌, ◌≤◌, List, [], ◌∷◌, length, Option, Some, None, Bool, true, false, if◌then◌else◌, refl, sym, ap, ap₂, ◌∙◌, subst, arith}
use Rattle.std.specs.Prelude.{nat_eq, bit_and, bytes_eq, ◌||◌, cond}
use Rattle.std.specs.List.{position_from}
use Rattle.std.proofs.lemmas.Option.{same_Some}
use Rattle.wasm_form.specs.declared.runtime.LoaderCall.{LoaderCall}
use Rattle.wasm_form.specs.declared.runtime.LoaderCall.TheVariants.{Dlopen, Dlsym, Dlclose, Dlerror}
use Rattle.spec_loading.specs.spec_runtime.Memories.{MemoryInstance}
use Rattle.spec_loading.specs.spec_linking.Sets.{Member}
use Rattle.spec_loading.specs.spec_linking.LinkedSets.{LinkedSet}
use Rattle.spec_loading.specs.spec_linking.Definitions.{searched}
use Rattle.spec_loading.specs.spec_linking.Slots.{cell_number}
use Rattle.spec_loading.specs.declared.answers.Opening.{Opening}
use Rattle.spec_loading.specs.declared.answers.Opening.TheVariants as opening
use Rattle.spec_loading.specs.declared.answers.Finding.{Finding}
use Rattle.spec_loading.specs.declared.answers.Finding.TheVariants as finding
use Rattle.spec_loading.specs.Loading.{LoaderState, LoaderAnswer, Gives}
use Rattle.spec_loading.specs.LoaderAnswers.{string_at, other_flags, global_flag, member_named, begin_or, open_named, open_answer, is_handle, handle_list, found_number, find_named, symbol_answer, close_answer, error_answer, opened, found, closed, with_error, loader_answer}
use Rattle.spec_loading.specs.LoadedSet.{set_loading}
use Rattle.wasm_machine.specs.declared.event.Event.{Event}
use Rattle.wasm_machine.specs.declared.event.Event.TheVariants as event
use Rattle.wasm_machine.specs.declared.machine.Standing.TheVariants as standing
use Rattle.dyl_world.specs.Promoted.{PromotedMembers}
use Rattle.dyl_frames.specs.Next.{next_answer}
use Rattle.dyl_frames.specs.Cores.{loader_arguments}
use Rattle.dyl_store.specs.declared.running.Running.{Running}
use Rattle.dyl_store.specs.Runs.{IsSomewhere, StepsTo}
use Rattle.dyl_store.specs.Calls.{is_loader, loader_of, AnswersWith, Answers}

-- ---- what a call comes to

-- each function answers as many arguments as it takes
answer_there : (L : LinkedSet) (call : LoaderCall) (first second : ℕ) (memory : MemoryInstance) (loader : LoaderState) → (x : LoaderAnswer) × (loader_answer L call (loader_arguments call first second) memory loader ≡ Some x)
answer_there L Dlopen first second memory loader = (opened L loader (open_answer L memory first second), refl)
answer_there L Dlsym first second memory loader = (found loader (symbol_answer L loader.stages loader.promoted memory first second), refl)
answer_there L Dlclose first second memory loader = (closed loader (close_answer loader.stages first), refl)
answer_there L Dlerror first second memory loader = (Gives (error_answer L loader.error) (with_error loader 0), refl)

module _ (L : LinkedSet) (call : LoaderCall) where
  -- there is one answer
  pub answers_by : (args : List ℕ) (e : Event) (old new : Running) (x : LoaderAnswer) → loader_answer L call args old.world.memory (loader_of old) ≡ Some x → AnswersWith L x e old new → Answers L call args e old new
  answers_by args e old new x is with_it = λ answer same. subst (λ (y : LoaderAnswer). AnswersWith L y e old new) (same_Some x answer (sym is ∙ same)) with_it

  -- a call that is answered is a step
  pub answered_steps : (first second : ℕ) (e : Event) (old mid new : Running) → StepsTo L (event.Loader call first second) old mid → Answers L call (loader_arguments call first second) e mid new → StepsTo L e old new
  answered_steps first second e old mid new steps answers = λ s at.
      let told = steps s at in
      let there = answer_there L call first second mid.world.memory (loader_of mid) in
      let next : next_answer (set_loading L) s ≡ Some there.0 =
      told.2.answer ∙ ap (λ (l : LoaderState). loader_answer L call (loader_arguments call first second) mid.world.memory l) told.1.loader ∙ there.1 in
      answers there.0 there.1 s told.1 next

-- a machine that tells a call waits for its answer
pub call_waits : (call : LoaderCall) (first second : ℕ) (old mid : Running) → IsSomewhere old → StepsTo old.linked.now (event.Loader call first second) old mid → mid.core.machine.standing ≡ standing.Loading
call_waits call first second old mid at steps = (steps at.0 at.1).0

pub no_loader : (e : Event) → ((call : LoaderCall) (first second : ℕ) → e ≡ event.Loader call first second → ⊥) → is_loader e ≡ false
no_loader event.Moved none = refl
no_loader (event.Waits asked) none = refl
no_loader (event.Loader call first second) none = absurd (none call first second refl)
no_loader (event.Marked tag) none = refl
no_loader event.Returned none = refl
no_loader (event.Trapped why) none = refl
no_loader (event.Exited code) none = refl
no_loader event.Deep none = refl

-- ---- errors are numbers from 1 to 5, and what is opened is a member

abbrev pub IsError : ℕ → Type 0
IsError e = (1 ≤ e) × (e ≤ 5)

pub either : {A : Type 0} (P : A → Type 0) (b : Bool) (x y : A) → P x → P y → P (if b then x else y)
either P true x y p q = p
either P false x y p q = q

abbrev pub OpensWell : ℕ → Opening → Type 0
OpensWell count opening.Main = Unit {0}
OpensWell count opening.Trapped = Unit {0}
OpensWell count (opening.Refused e) = IsError e
OpensWell count (opening.Begin m) = m < count
OpensWell count (opening.BeginGlobal m) = m < count

begin_well : (flags m n : ℕ) → m < n → OpensWell n (begin_or flags (Some m))
begin_well flags m n lt = either (OpensWell n) (nat_eq (bit_and flags global_flag) 0) (opening.Begin m) (opening.BeginGlobal m) lt lt

named_step : (flags : ℕ) (b : Bool) (k n : ℕ) (o : Option ℕ) → k < n → OpensWell n (begin_or flags o) → OpensWell n (begin_or flags (cond b (Some k) o))
named_step flags true k n o lt h = begin_well flags k n lt
named_step flags false k n o lt h = h

named_well : (flags : ℕ) (test : Member → Bool) (k : ℕ) (xs : List Member) (n : ℕ) → k + length xs ≡ n → OpensWell n (begin_or flags (position_from test k xs))
named_well flags test k [] n e = (omega arith, omega arith)
named_well flags test k (x ∷ xs) n e = named_step flags (test x) k n (position_from test (k + 1) xs) (omega arith) (named_well flags test (k + 1) xs n (omega arith))

opened_well : (L : LinkedSet) (flags : ℕ) (o : Option (List ℕ)) → OpensWell (length L.set.members) (open_named L flags o)
opened_well L flags None = tt
opened_well L flags (Some name) =
    either (OpensWell (length L.set.members)) (nat_eq (bit_and flags other_flags) 0) (begin_or flags (member_named L.set name)) (opening.Refused 1)
    (named_well flags (λ m. bytes_eq name m.name) 0 L.set.members (length L.set.members) (omega arith)) (omega arith, omega arith)

pub opens_well : (L : LinkedSet) (memory : MemoryInstance) (name flags : ℕ) → OpensWell (length L.set.members) (open_answer L memory name flags)
opens_well L memory zero flags = tt
opens_well L memory (suc n) flags = opened_well L flags (string_at memory (suc n))

abbrev pub FindsWell : Finding → Type 0
FindsWell finding.Trapped = Unit {0}
FindsWell (finding.Refused e) = IsError e
FindsWell (finding.Address n) = Unit {0}

number_well : (o : Option ℕ) → FindsWell (found_number o)
number_well None = (omega arith, omega arith)
number_well (Some n) = tt

found_well : (L : LinkedSet) (stages promoted : List ℕ) (handle : ℕ) (o : Option (List ℕ)) → FindsWell (find_named L stages promoted handle o)
found_well L stages promoted handle None = tt
found_well L stages promoted handle (Some name) =
    let number = cell_number L name (searched L.set (handle_list L.set promoted handle) name) in
    either FindsWell (nat_eq handle 0 || is_handle stages handle) (found_number number) (finding.Refused 3) (number_well number) (omega arith, omega arith)

pub finds_well : (L : LinkedSet) (stages promoted : List ℕ) (memory : MemoryInstance) (handle name : ℕ) → FindsWell (symbol_answer L stages promoted memory handle name)
finds_well L stages promoted memory handle name = found_well L stages promoted handle (string_at memory name)

-- ---- what the functions come to, by what they were answered

module _ (L : LinkedSet) (old new : Running) (e : Event) (memory : MemoryInstance) (space : memory ≡ old.world.memory) where
  module _ (name flags : ℕ) (r : Opening) (is : r ≡ open_answer L memory name flags) where
    pub opens_by : (x : Opening) → r ≡ x → AnswersWith L (opened L (loader_of old) x) e old new → Answers L Dlopen (name ∷ flags ∷ []) e old new
    opens_by x same answers =
        let there : open_answer L old.world.memory name flags ≡ x = ap (λ (m : MemoryInstance). open_answer L m name flags) (sym space) ∙ sym is ∙ same in
        answers_by L Dlopen (name ∷ flags ∷ []) e old new (opened L (loader_of old) x) (ap (λ (y : Opening). Some (opened L (loader_of old) y)) there) answers

  module _ (stages : List ℕ) (kept : stages ≡ old.core.stages) (promoted : PromotedMembers) (same_promoted : promoted ≡ old.core.promoted) (handle name : ℕ) (r : Finding) (is : r ≡ symbol_answer L stages promoted.list memory handle name) where
    pub finds_by : (x : Finding) → r ≡ x → AnswersWith L (found (loader_of old) x) e old new → Answers L Dlsym (handle ∷ name ∷ []) e old new
    finds_by x same answers =
        let there : symbol_answer L old.core.stages old.core.promoted.list old.world.memory handle name ≡ x =
        ap (λ (m : MemoryInstance). symbol_answer L old.core.stages old.core.promoted.list m handle name) (sym space)
        ∙ ap₂ (λ (xs : List ℕ) (ps : PromotedMembers). symbol_answer L xs ps.list memory handle name) (sym kept) (sym same_promoted) ∙ sym is ∙ same in
        answers_by L Dlsym (handle ∷ name ∷ []) e old new (found (loader_of old) x) (ap (λ (y : Finding). Some (found (loader_of old) y)) there) answers

-- what is opened is a member, and errors are in their range
module _ (L : LinkedSet) (memory : MemoryInstance) where
  pub opened_range : (name flags : ℕ) (r x : Opening) → r ≡ open_answer L memory name flags → r ≡ x → OpensWell (length L.set.members) x
  opened_range name flags r x is same = subst (OpensWell (length L.set.members)) (sym is ∙ same) (opens_well L memory name flags)

  pub found_range : (stages promoted : List ℕ) (handle name : ℕ) (r x : Finding) → r ≡ symbol_answer L stages promoted memory handle name → r ≡ x → FindsWell x
  found_range stages promoted handle name r x is same = subst FindsWell (sym is ∙ same) (finds_well L stages promoted memory handle name)

module _ (L : LinkedSet) (old new : Running) (e : Event) where
  pub closes_by : (stages : List ℕ) → stages ≡ old.core.stages → (handle : ℕ) (r x : Bool) → r ≡ close_answer stages handle → r ≡ x → AnswersWith L (closed (loader_of old) x) e old new → Answers L Dlclose (handle ∷ []) e old new
  closes_by stages kept handle r x is same answers =
      let there : close_answer old.core.stages handle ≡ x = ap (λ (xs : List ℕ). close_answer xs handle) (sym kept) ∙ sym is ∙ same in
      answers_by L Dlclose (handle ∷ []) e old new (closed (loader_of old) x) (ap (λ (y : Bool). Some (closed (loader_of old) y)) there) answers

  pub tells_by : (error n left : ℕ) → error ≡ old.core.error → n ≡ error_answer L error → left ≡ 0 → AnswersWith L (Gives n (with_error (loader_of old) left)) e old new → Answers L Dlerror [] e old new
  tells_by error n left kept is none answers =
      let value : error_answer L old.core.error ≡ n = ap (error_answer L) (sym kept) ∙ sym is in
      answers_by L Dlerror [] e old new (Gives n (with_error (loader_of old) left)) (ap₂ (λ (x y : ℕ). Some (Gives x (with_error (loader_of old) y))) value (sym none)) answers
