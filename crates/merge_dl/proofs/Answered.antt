-- The step that calls a function of the loader, and the call of the generated function, come to the same.
use Rattle.std.proofs.Common.{◌≡◌, ℕ, zero, suc, ◌+◌, ◌*◌, ◌<◌, ◌≤◌, Bool, true, false, ◌||◌, List, [], ◌∷◌, length, reverse, slice_get, slice_set, nat_eq, bit_and, Option, Some, None, refl, sym, ap, subst, arith, if◌then◌else◌}
use Rattle.std.specs.Prelude.{bytes_eq}
use Rattle.wasm_form.specs.declared.types.FuncType.{FuncType}
use Rattle.wasm_form.specs.declared.module.Code.{Code}
use Rattle.wasm_form.specs.declared.module.Module.{Module}
use Rattle.wasm_form.specs.declared.runtime.LoaderCall.{LoaderCall}
use Rattle.wasm_form.specs.declared.runtime.LoaderCall.TheVariants.{Dlopen, Dlsym, Dlclose, Dlerror}
use Rattle.wasm_form.specs.declared.runtime.Ref.TheVariants.{Own, Loader}
use Rattle.wasm_form.specs.declared.runtime.Trap.{Trap}
use Rattle.wasm_form.specs.declared.runtime.Trap.TheVariants.{MemoryBounds}
use Rattle.wasm_form.specs.declared.runtime.Value.{Value}
use Rattle.wasm_form.specs.declared.runtime.Value.TheVariants.{Num, Func}
use Rattle.spec_loading.specs.spec_runs.Systems.{only_if, Moving}
use Rattle.spec_loading.specs.spec_binary.Options.{◌>>=◌}
use Rattle.spec_loading.specs.spec_binary.Indices.{function_with}
use Rattle.spec_loading.specs.spec_runtime.Numerics.{W32}
use Rattle.spec_loading.specs.spec_runtime.Memories.{MemoryInstance}
use Rattle.spec_loading.specs.spec_execution.Values.{low, take_values}
use Rattle.spec_loading.specs.spec_execution.Activations.{Activation, with_values}
use Rattle.spec_loading.specs.spec_execution.Views.{loader_type}
use Rattle.spec_loading.specs.spec_execution.Limits.{activations}
use Rattle.spec_loading.specs.spec_execution.Runs.{Frame, Next, Goes, Loads, call, calling, call_own, call_loader, arguments, entered, became}
use Rattle.spec_loading.specs.spec_execution.Runs as frames
use Rattle.spec_loading.specs.spec_execution.Instances.{module_hosts, module_view}
use Rattle.spec_loading.specs.spec_execution.OneModule.{Starting, ModuleState, module_step}
use Rattle.spec_loading.specs.spec_linking.Gathering.{IsSet}
use Rattle.spec_loading.specs.spec_linking.Definitions.{searched}
use Rattle.spec_loading.specs.spec_linking.Slots.{cell_number}
use Rattle.spec_loading.specs.spec_linking.Links.{Links}
use Rattle.spec_loading.specs.spec_linking.LinkedSets.{LinkedSet}
use Rattle.spec_loading.specs.declared.answers.Opening.{Opening}
use Rattle.spec_loading.specs.declared.answers.Opening.TheVariants as opening
use Rattle.spec_loading.specs.declared.answers.Finding.{Finding}
use Rattle.spec_loading.specs.declared.answers.Finding.TheVariants as finding
use Rattle.spec_loading.specs.Phases.{LoaderFrame, open_frame, open_global_frame}
use Rattle.spec_loading.specs.Costs.{next_cost}
use Rattle.spec_loading.specs.SetCosts.{open_cost, call_cost, set_prices}
use Rattle.spec_loading.specs.Loading.{LoaderState, LoaderAnswer, answered, goes_on, went}
use Rattle.spec_loading.specs.Loading as loading
use Rattle.spec_loading.specs.LoaderAnswers.{other_flags, global_flag, begin_or, member_named, open_named, open_answer, find_named, found_number, symbol_answer, close_answer, error_answer, handle_list, with_error, opened, found, closed, string_at, is_handle}
use Rattle.spec_loading.specs.Members.{Store, set_view, uses_loader}
use Rattle.spec_loading.specs.LoadedSet.{SetState, set_loading}
use Rattle.merge_match.specs.Renumbering.{Numbers, values, activation}
use Rattle.merge_match.specs.Bounded.{IsBounded}
use Rattle.merge_match.specs.Matching.{Below, Alike, Met}
use Rattle.merge_start.specs.Words.{Starts, promote_code}
use Rattle.merge_pieces.specs.Running.{Reaches}
use Rattle.merge_start.specs.Running.{Changing, trapped_at}
use Rattle.merge_start.specs.Started.{Same}
use Rattle.merge_start.specs.Points.{Promotes, places, Matched}
use Rattle.merge_start.specs.Laws.{calls_opening}
use Rattle.merge_pieces.proofs.Running.{reaches_then, reaches_deeper, one_step}
use Rattle.merge_start.proofs.Reaching.{silent_of, with_global}
use Rattle.merge_start.proofs.Keeping.{guard_there, error_there, error_same}
use Rattle.merge_start.proofs.Nested.{members_open_as_merged, members_promote_as_merged}
use Rattle.merge_start.proofs.Promoted.{few_promoted, later_inside, place_there}
use Rattle.merge_dl.specs.Words.{Finders, call_body}
use Rattle.merge_dl.specs.Ready.{LoaderReady}
use Rattle.merge_dl.specs.Laws.{LoaderIsAnswered}
use Rattle.merge_dl.proofs.Sites.{Site, site_depth, back_with, Outcome, Gives, Opens, OpensThen, Leads, Answers, bottom}
use Rattle.merge_dl.proofs.Calls.{locals_of, begins_body}
use Rattle.spec_loading.proofs.SlotWords.{position_within}
use Rattle.merge_dl.proofs.Grounds.{Ground}
use Rattle.merge_dl.proofs.Tries.{finding_outcome}
use Rattle.merge_dl.proofs.Preferred.{PlacesHeld}
use Rattle.merge_dl.proofs.Handles.{symbol_answers}
use Rattle.merge_dl.proofs.Closes.{closing_outcome, close_answers}
use Rattle.merge_find.specs.Finding.{SearchComes}
use Rattle.merge_dl.proofs.Opens.{opening_outcome, open_steps, open_price, open_answers}
use Rattle.merge_dl.proofs.Texts.{error_answers}

-- ---- what comes of a call

module _ (L : LinkedSet) (n : Numbers) (x : Starts) (merged : Module) where
  -- in fewer steps than c, and no deeper than d
  abbrev Reached : ℕ → ℕ → Option SetState → Option ModuleState → Type 0
  Reached deep c o p = Met n (places L n x) (Same L n x) (module_step merged) deep c o p

  module _ (s : SetState) (t : ModuleState) (alike : Alike (Same L n x) s t) (a : Activation) (fs : List (Frame LoaderFrame))
      (gs : List (Frame Starting)) (below : Below n (places L n x) a.results fs gs) (rest : List Value) (f : ℕ)
      (deep : ℕ) (enough : length (activations gs) + 3 ≤ deep) where
    abbrev caller : List (Frame LoaderFrame)
    caller = frames.Active (with_values a rest) ∷ fs

    abbrev site : Site
    site = bottom f (with_values (activation n a) (values n rest)) gs

    abbrev start : Changing
    start = record { units = t.units; memory = s.run.memory }

    module _ (i c : ℕ) (fits : i < c) where
      gives_met : (t0 : ModuleState) (d : Changing) (k : ℕ) (loader : LoaderState) → d.memory ≡ s.run.memory → Same L n x loader s.run.units d.units
          → Reaches merged (site_depth 1 site) i t0 (back_with d site (Num k)) → Reached deep c (Some (answered s caller (loading.Gives k loader))) (Some t0)
      gives_met t0 d k loader memory same reached =
          let silent = silent_of (reaches_deeper {d' = deep} (omega (arith, enough)) reached) in
          let few = silent.2 in (
            silent.0,
            t0,
            back_with d site (Num k),
            refl,
            silent.1,
            record { memory = memory; status = refl; units = same; stacks = (gs, refl, below) },
            omega (arith, few, fits),
            silent.3,
          )

      traps_met : (t0 : ModuleState) (why : Trap) → Reaches merged (site_depth 1 site) i t0 (trapped_at start why)
          → Reached deep c (Some (answered s caller (loading.Traps why))) (Some t0)
      traps_met t0 why reached =
          let silent = silent_of (reaches_deeper {d' = deep} (omega (arith, enough)) reached) in
          let few = silent.2 in (
            silent.0,
            t0,
            trapped_at start why,
            refl,
            silent.1,
            record { memory = refl; status = refl; units = alike.units; stacks = tt },
            omega (arith, few, fits),
            silent.3,
          )

      module _ (set : IsSet L.set) (d : Finders) (ready : LoaderReady L n x d merged) (used : uses_loader L ≡ true) where
        abbrev hs : List (Frame Starting)
        hs = frames.Active (with_values (activation n a) (values n rest)) ∷ gs

        -- the function that opens the member is called, one step further
        opening_met : i + 1 < c → (t0 u : ModuleState) (m : ℕ) (b : Activation) (frame : LoaderFrame)
            → Reaches merged (site_depth 1 site) i t0 (calls_opening x m b hs start.units start.memory)
            → module_step merged (calls_opening x m b hs start.units start.memory) ≡ Some u
            → Matched L n x (goes_on s (frames.Marked frame ∷ caller)) u → Reached deep c (Some (answered s caller (loading.Opens frame))) (Some t0)
        opening_met room t0 u m b frame leads steps matched =
            let silent = silent_of (reaches_then (reaches_deeper {d' = deep} (omega (arith, enough)) leads) (one_step (omega (arith, enough)) refl steps)) in
            let few = silent.2 in
            (silent.0, t0, u, refl, silent.1, matched, omega (arith, few, room), silent.3)

        opens_met : i + 1 < c → (t0 : ModuleState) (m : ℕ) → m < length L.set.members → Leads merged x 1 i t0 site (Opens start m)
            → Reached deep c (Some (answered s caller (loading.Opens (open_frame L.set m)))) (Some t0)
        opens_met room t0 m lt leads =
            let opened = members_open_as_merged L n x merged set m lt (ready.opens m lt) s t.units alike.units caller hs (gs, refl, below) leads.0 leads.1 in
            opening_met room t0 opened.0 m leads.0 (open_frame L.set m) leads.2 opened.1 opened.2

        promotes_met : i + 1 < c → (t0 : ModuleState) (m : ℕ) → m < length L.set.members → Leads merged x 1 i t0 site (OpensThen (promote_code L x m) start m)
            → Reached deep c (Some (answered s caller (loading.Opens (open_global_frame L.set m)))) (Some t0)
        promotes_met room t0 m lt leads =
            let promotes : Promotes L x m leads.0 =
            record { hands = leads.1; used = used; number = ready.promoted; later = later_inside L set m lt } in
            let opened = members_promote_as_merged L n x merged set m lt (ready.opens m lt) s t.units alike.units caller hs (gs, refl, below) leads.0 promotes in
            opening_met room t0 opened.0 m leads.0 (open_global_frame L.set m) leads.2 opened.1 opened.2

        -- an error is kept
        abbrev faulty : ℕ → Changing
        faulty e = with_global start d.error (Num e)

        error_kept : (e : ℕ) → e ≤ 5 → Same L n x (with_error s.loader e) s.run.units (faulty e).units
        error_kept e small =
            subst (λ g. Same L n x (with_error s.loader e) s.run.units (record t.units { globals = slice_set t.units.globals g (Num e) })) (sym ready.error)
            (error_same L n x s.loader s.run.units t.units alike.units used e small)

        faults_met : (t0 : ModuleState) (e k : ℕ) → e ≤ 5 → Reaches merged (site_depth 1 site) i t0 (back_with (faulty e) site (Num k))
            → Reached deep c (Some (answered s caller (loading.Gives k (with_error s.loader e)))) (Some t0)
        faults_met t0 e k small reached = gives_met t0 (faulty e) k (with_error s.loader e) refl (error_kept e small) reached

        -- ---- of each function

        -- an answer names errors and members of the set
        abbrev IsOpening : Opening → Type 0
        IsOpening opening.Main = Unit {0}
        IsOpening opening.Trapped = Unit {0}
        IsOpening (opening.Refused e) = e ≤ 5
        IsOpening (opening.Begin m) = m < length L.set.members
        IsOpening (opening.BeginGlobal m) = m < length L.set.members

        open_met : i + 1 < c → (t0 : ModuleState) (y : Opening) → IsOpening y → Leads merged x 1 i t0 site (opening_outcome L x start d y)
            → Reached deep c (Some (answered s caller (opened L s.loader y))) (Some t0)
        open_met room t0 opening.Main is leads = gives_met t0 start 1 s.loader refl alike.units leads
        open_met room t0 opening.Trapped is leads = traps_met t0 MemoryBounds leads
        open_met room t0 (opening.Refused e) is leads = faults_met t0 e 0 is leads
        open_met room t0 (opening.Begin m) is leads = opens_met room t0 m is leads
        open_met room t0 (opening.BeginGlobal m) is leads = promotes_met room t0 m is leads

        abbrev IsFinding : Finding → Type 0
        IsFinding finding.Trapped = Unit {0}
        IsFinding (finding.Refused e) = e ≤ 5
        IsFinding (finding.Address k) = Unit {0}

        find_met : (t0 : ModuleState) (y : Finding) → IsFinding y → Leads merged x 1 i t0 site (finding_outcome start d y)
            → Reached deep c (Some (answered s caller (found s.loader y))) (Some t0)
        find_met t0 finding.Trapped is leads = traps_met t0 MemoryBounds leads
        find_met t0 (finding.Refused e) is leads = faults_met t0 e 0 is leads
        find_met t0 (finding.Address k) is leads = gives_met t0 start k s.loader refl alike.units leads

        close_met : (t0 : ModuleState) (y : Bool) → Leads merged x 1 i t0 site (closing_outcome start d y)
            → Reached deep c (Some (answered s caller (closed s.loader y))) (Some t0)
        close_met t0 true leads = gives_met t0 start 0 s.loader refl alike.units leads
        close_met t0 false leads = faults_met t0 5 4294967295 (omega arith) leads

-- ---- answers name errors and members

module _ (L : LinkedSet) where
  abbrev Sound : Opening → Type 0
  Sound opening.Main = Unit {0}
  Sound opening.Trapped = Unit {0}
  Sound (opening.Refused e) = e ≤ 5
  Sound (opening.Begin m) = m < length L.set.members
  Sound (opening.BeginGlobal m) = m < length L.set.members

  begun_sound : (flags : ℕ) (name : List ℕ) (o : Option ℕ) → member_named L.set name ≡ o → Sound (begin_or flags o)
  begun_sound flags name None e = omega arith
  begun_sound flags name (Some m) e = go (nat_eq (bit_and flags global_flag) 0)
    where
      inside : m < length L.set.members
      inside = (let within = position_within (λ y. bytes_eq name y.name) 0 L.set.members m e in omega arith)

      go : (z : Bool) → Sound (if z then opening.Begin m else opening.BeginGlobal m)
      go true = inside
      go false = inside

  named_sound : (flags : ℕ) (o : Option (List ℕ)) → Sound (open_named L flags o)
  named_sound flags None = tt
  named_sound flags (Some name) = go (nat_eq (bit_and flags other_flags) 0)
    where
      go : (z : Bool) → Sound (if z then begin_or flags (member_named L.set name) else opening.Refused 1)
      go true = begun_sound flags name (member_named L.set name) refl
      go false = omega arith

  pub open_sound : (memory : MemoryInstance) (name flags : ℕ) → Sound (open_answer L memory name flags)
  open_sound memory zero flags = tt
  open_sound memory (suc name) flags = named_sound flags (string_at memory (suc name))

  abbrev SoundFinding : Finding → Type 0
  SoundFinding finding.Trapped = Unit {0}
  SoundFinding (finding.Refused e) = e ≤ 5
  SoundFinding (finding.Address k) = Unit {0}

  number_sound : (o : Option ℕ) → SoundFinding (found_number o)
  number_sound None = omega arith
  number_sound (Some k) = tt

  pub find_sound : (stages promoted : List ℕ) (handle : ℕ) (o : Option (List ℕ)) → SoundFinding (find_named L stages promoted handle o)
  find_sound stages promoted handle None = tt
  find_sound stages promoted handle (Some name) = go (nat_eq handle 0 || is_handle stages handle)
    where
      go : (z : Bool) → SoundFinding (if z then found_number (cell_number L name (searched L.set (handle_list L.set promoted handle) name)) else finding.Refused 3)
      go true = number_sound (cell_number L name (searched L.set (handle_list L.set promoted handle) name))
      go false = omega arith

-- ---- the calls

module _ (comes : SearchComes) (L : LinkedSet) (n : Numbers) (x : Starts) (d : Finders) (merged : Module) (set : IsSet L.set) (links : Links L)
    (used : uses_loader L ≡ true) (ready : LoaderReady L n x d merged) (s : SetState) (t : ModuleState) (alike : Alike (Same L n x) s t)
    (bounded : IsBounded s.run.memory) (a : Activation) (fs : List (Frame LoaderFrame)) (gs : List (Frame Starting))
    (below : Below n (places L n x) a.results fs gs) (deep : ℕ) (enough : length (activations gs) + 3 ≤ deep) where
  abbrev begin : Changing
  begin = record { units = t.units; memory = s.run.memory }

  error_held : slice_get t.units.globals d.error ≡ Some (Num s.loader.error)
  error_held =
      subst (λ g. slice_get t.units.globals g ≡ Some (Num s.loader.error)) (sym ready.error)
      (error_there L n x s.loader s.run.units t.units alike.units used)

  ground : Ground L x d merged s.loader.stages begin
  ground = record {
    bounded = bounded;
    lengths = ready.lengths;
    finds = ready.finds;
    old = Num s.loader.error;
    held = error_held;
    guards = λ m stage held. (guard_there L n x s.loader s.run.units t.units alike.units m stage held, alike.units.store.kept.low m stage held);
    sized = alike.units.store.kept.sized;
  }

  placed : PlacesHeld L x s.loader.promoted begin
  placed = record {
    few = (let few = few_promoted L s.loader.promoted alike.units.store.kept.later alike.units.store.kept.apart in let members = set.few in omega (arith, few, members));
    later = alike.units.store.kept.later;
    places = place_there L n x s.loader s.run.units t.units alike.units used ready.promoted;
  }

  module _ (which : LoaderCall) (vs : List Value) where
    abbrev ty : FuncType
    ty = loader_type which

    abbrev f : ℕ
    f = n.function (Loader which)

    abbrev body : Code
    body = call_body L x d which

    abbrev set_next : Option (Next Store LoaderFrame)
    set_next = call (set_view L) s.run.units s.run.memory (calling a fs) vs (Loader which)

    abbrev set_call : Option SetState
    set_call = set_next >>= went (set_loading L) s

    -- what it costs, by what it comes to
    abbrev cost : Option (Next Store LoaderFrame) → ℕ
    cost o = next_cost (set_prices L) s o

    abbrev code_call : Option ModuleState
    code_call = call (module_view merged) t.units s.run.memory (calling (activation n a) gs) (values n vs) (Own 0 f) >>= became (module_hosts merged) t

    taken_by_set : set_next ≡ (take_values (reverse ty.params) vs >>= λ p. Some (Loads which (arguments ty p.0) (calling a fs p.1)))
    taken_by_set = ap (λ b. only_if b ty >>= call_loader (calling a fs) vs which) used

    taken_by_code : code_call
        ≡ ((take_values (reverse ty.params) (values n vs)
        >>= λ p. Some (Goes t.units s.run.memory (frames.Active (entered 0 f (function_with ty body) p.0) ∷ calling (activation n a) gs p.1)))
        >>= became (module_hosts merged) t)
    taken_by_code =
        ap (λ o. (o >>= call_own t.units s.run.memory (calling (activation n a) gs) (values n vs) 0 f) >>= became (module_hosts merged) t) (ready.calls which).code

    -- what the function begins with
    abbrev entering : List Value → List Value → ModuleState
    entering args rest = record {
      units = t.units;
      memory = s.run.memory;
      stack = frames.Active (entered 0 f (function_with ty body) args) ∷ frames.Active (with_values (activation n a) (values n rest)) ∷ gs;
      status = Moving;
    }

    -- both have no step
    neither : set_next ≡ None → code_call ≡ None → Reached L n x merged deep (cost set_next) set_call code_call
    neither e q = subst (λ o. Reached L n x merged deep (cost o) (o >>= went (set_loading L) s) code_call) (sym e) q

    -- both have one
    both : (args rest : List Value) (y : LoaderAnswer) (o : Outcome) (i : ℕ) → length ty.results ≡ 1
        → set_next ≡ Some (Loads which (arguments ty args) (frames.Active (with_values a rest) ∷ fs))
        → went (set_loading L) s (Loads which (arguments ty args) (frames.Active (with_values a rest) ∷ fs)) ≡ Some (answered s (frames.Active (with_values a rest) ∷ fs) y)
        → code_call ≡ Some (entering args rest) → Answers merged x 1 i body.body.list begin (locals_of body args) o
        → ((t0 : ModuleState) → Leads merged x 1 i t0 (bottom f (with_values (activation n a) (values n rest)) gs) o
        → Reached L n x merged deep (suc (call_cost L which (arguments ty args) s.run.memory s.loader)) (Some (answered s (frames.Active (with_values a rest) ∷ fs) y)) (Some t0))
        → Reached L n x merged deep (cost set_next) set_call code_call
    both args rest y o i one e went_on q answers ends =
        let b : Activation = with_values (activation n a) (values n rest) in
        let price = suc (call_cost L which (arguments ty args) s.run.memory s.loader) in
        let there_is = begins_body (ready.calls which) begin b gs args one in
        let leads : Leads merged x 1 i (entering args rest) (bottom f b gs) o =
        subst (λ u. Leads merged x 1 i u (bottom f b gs) o) (sym there_is) (answers.runs f b gs) in
        subst (λ z. Reached L n x merged deep (cost z) (z >>= went (set_loading L) s) code_call) (sym e)
        (subst (λ p. Reached L n x merged deep price p code_call) (sym went_on)
        (subst (λ p. Reached L n x merged deep price (Some (answered s (frames.Active (with_values a rest) ∷ fs) y)) p) (sym q) (ends (entering args rest) leads)))

  -- ---- each function

  open_called : (vs : List Value) → Reached L n x merged deep (cost Dlopen vs (set_next Dlopen vs)) (set_call Dlopen vs) (code_call Dlopen vs)
  open_called (Num flags ∷ Num name ∷ rest) =
      let y = open_answer L s.run.memory (low W32 name) (low W32 flags) in
      let vs : List Value = Num flags ∷ Num name ∷ rest in
      let i = open_steps L s.run.memory (low W32 name) in
      let price = open_price L s.run.memory (low W32 name) in
      both Dlopen vs (Num flags ∷ Num name ∷ []) rest (opened L s.loader y) (opening_outcome L x begin d y) i refl (taken_by_set Dlopen vs) refl (taken_by_code Dlopen vs)
      (open_answers ground comes name flags)
      (λ t0 leads. open_met L n x merged s t alike a fs gs below rest (n.function (Loader Dlopen)) deep enough i (suc (open_cost L s.run.memory (low W32 name))) (omega (arith, price))
      set d ready used (omega (arith, price)) t0 y (open_sound L s.run.memory (low W32 name) (low W32 flags)) leads)
  open_called [] = neither Dlopen [] (taken_by_set Dlopen []) (taken_by_code Dlopen [])
  open_called (Func r ∷ vs) = neither Dlopen (Func r ∷ vs) (taken_by_set Dlopen (Func r ∷ vs)) (taken_by_code Dlopen (Func r ∷ vs))
  open_called (Num flags ∷ []) = neither Dlopen (Num flags ∷ []) (taken_by_set Dlopen (Num flags ∷ [])) (taken_by_code Dlopen (Num flags ∷ []))
  open_called (Num flags ∷ Func r ∷ vs) =
      neither Dlopen (Num flags ∷ Func r ∷ vs) (taken_by_set Dlopen (Num flags ∷ Func r ∷ vs)) (taken_by_code Dlopen (Num flags ∷ Func r ∷ vs))

  symbol_called : (vs : List Value) → Reached L n x merged deep (cost Dlsym vs (set_next Dlsym vs)) (set_call Dlsym vs) (code_call Dlsym vs)
  symbol_called (Num name ∷ Num handle ∷ rest) =
      let y = symbol_answer L s.loader.stages s.loader.promoted s.run.memory (low W32 handle) (low W32 name) in
      let vs : List Value = Num name ∷ Num handle ∷ rest in
      let i = call_cost L Dlsym (low W32 handle ∷ low W32 name ∷ []) s.run.memory s.loader in
      both Dlsym vs (Num name ∷ Num handle ∷ []) rest (found s.loader y) (finding_outcome begin d y) i refl (taken_by_set Dlsym vs) refl (taken_by_code Dlsym vs)
      (symbol_answers ground placed set links handle name)
      (λ t0 leads. find_met L n x merged s t alike a fs gs below rest (n.function (Loader Dlsym)) deep enough i (suc i) (omega arith) set d ready used t0 y
      (find_sound L s.loader.stages s.loader.promoted (low W32 handle) (string_at s.run.memory (low W32 name))) leads)
  symbol_called [] = neither Dlsym [] (taken_by_set Dlsym []) (taken_by_code Dlsym [])
  symbol_called (Func r ∷ vs) = neither Dlsym (Func r ∷ vs) (taken_by_set Dlsym (Func r ∷ vs)) (taken_by_code Dlsym (Func r ∷ vs))
  symbol_called (Num name ∷ []) = neither Dlsym (Num name ∷ []) (taken_by_set Dlsym (Num name ∷ [])) (taken_by_code Dlsym (Num name ∷ []))
  symbol_called (Num name ∷ Func r ∷ vs) =
      neither Dlsym (Num name ∷ Func r ∷ vs) (taken_by_set Dlsym (Num name ∷ Func r ∷ vs)) (taken_by_code Dlsym (Num name ∷ Func r ∷ vs))

  close_called : (vs : List Value) → Reached L n x merged deep (cost Dlclose vs (set_next Dlclose vs)) (set_call Dlclose vs) (code_call Dlclose vs)
  close_called (Num handle ∷ rest) =
      let y = close_answer s.loader.stages (low W32 handle) in
      let vs : List Value = Num handle ∷ rest in
      let i = 8 + 5 * length L.set.members in
      both Dlclose vs (Num handle ∷ []) rest (closed s.loader y) (closing_outcome begin d y) i refl (taken_by_set Dlclose vs) refl (taken_by_code Dlclose vs)
      (close_answers ground set handle)
      (λ t0 leads. close_met L n x merged s t alike a fs gs below rest (n.function (Loader Dlclose)) deep enough i (suc i) (omega arith) set d ready used t0 y leads)
  close_called [] = neither Dlclose [] (taken_by_set Dlclose []) (taken_by_code Dlclose [])
  close_called (Func r ∷ vs) = neither Dlclose (Func r ∷ vs) (taken_by_set Dlclose (Func r ∷ vs)) (taken_by_code Dlclose (Func r ∷ vs))

  error_called : (vs : List Value) → Reached L n x merged deep (cost Dlerror vs (set_next Dlerror vs)) (set_call Dlerror vs) (code_call Dlerror vs)
  error_called vs =
      let k = error_answer L s.loader.error in
      both Dlerror vs [] vs (loading.Gives k (with_error s.loader 0)) (Gives (with_global begin d.error (Num 0)) (Num k)) 31 refl
      (taken_by_set Dlerror vs) refl (taken_by_code Dlerror vs)
      (error_answers L d begin s.loader.error alike.units.store.kept.few ready.texts error_held)
      (λ t0 leads. faults_met L n x merged s t alike a fs gs below vs (n.function (Loader Dlerror)) deep enough 31 32 (omega arith) set d ready used t0 0 k (omega arith) leads)

  pub calls_answered : (which : LoaderCall) → Reached L n x merged deep (cost which a.values (set_next which a.values)) (set_call which a.values) (code_call which a.values)
  calls_answered Dlopen = open_called a.values
  calls_answered Dlsym = symbol_called a.values
  calls_answered Dlclose = close_called a.values
  calls_answered Dlerror = error_called a.values

pub loader_is_answered : SearchComes → LoaderIsAnswered
loader_is_answered comes L n x d merged set links used is ready s t alike bounded a fs gs below which deep enough =
    calls_answered comes L n x d merged set links used ready s t alike bounded a fs gs below deep enough which
