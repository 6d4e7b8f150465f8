-- What is so of an order and of words, from what is so of what they hold.
use Rattle.std.proofs.Common.{◌≡◌, ℕ, ◌≤◌, length, Bool, true, false, List, Option, Result, Ok, Err, refl, sym, subst, inl, inr}
use Rattle.std.specs.Option.{ForSome}
use Rattle.std.specs.FinMap.{get}
use Rattle.spec_hosts.specs.dyl_outside.FileMap.{FileMap}
use Rattle.spec_hosts.specs.dyl_outside.Files.{FilesState}
use Rattle.spec_hosts.specs.dyl_outside.Sink.{SinkState}
use Rattle.spec_hosts.specs.spec_runtime.Names.{HostNames}
use Rattle.spec_hosts.specs.Devices.{Devices}
use Rattle.spec_hosts.specs.Hosted.{Embedder}
use Rattle.spec_loading.specs.spec_linking.Sets as sets
use Rattle.spec_loading.specs.spec_linking.Plans as plans
use Rattle.dyl_link.specs.dyl_search.declared.set.SetOptions.{SetOptions}
use Rattle.dyl_link.specs.dyl_search.Gathers.{options_of}
use Rattle.dyl_link.specs.declared.options.LinkOptions.{LinkOptions}
use Rattle.dyl_link.specs.Sets as links
use Rattle.dyl_front.specs.Orders.{IsLinkInRange, AreArgumentsInRange, IsInRange}
use Rattle.dyl_front.specs.declared.order.Order.{Order}
use Rattle.dyl_front.specs.declared.order.Order.TheVariants.{Merge, Run, Exec, Plan, Gen, Trace, Replay, Snap, Board}
use Rattle.dyl_front.specs.declared.outcome.UsageKind.{UsageKind}
use Rattle.dyl_front.specs.declared.outcome.Outcome.{Outcome}
use Rattle.dyl_front.specs.declared.outcome.Outcome.TheVariants.{Usage, Memory}
use Rattle.dyl_commands.specs.Told.{IsTold, TellsErrors}
use Rattle.dyl_commands.specs.Runs.{guest_arguments, Picks, no_picks, ProgramWorks, Works, Does}
use Rattle.dyl_commands.specs.Due.{DueFor, Yields, IsComplete}
use Rattle.dyl_commands.proofs.Telling.{told_keeps}

abbrev Asked : Type 0
Asked = Result Order UsageKind

-- what is so of an order's parts is so of the order
pub at_merge : (P : Asked → Type 0) (order : Order) (set : SetOptions) (link : LinkOptions) (out path : List ℕ) → order ≡ Merge set link out → path ≡ out → P (Ok (Merge set link path)) → P (Ok order)
at_merge P order set link out path is same h = subst (λ o. P (Ok o)) (sym is) (subst (λ p. P (Ok (Merge set link p))) same h)

pub at_run : (P : Asked → Type 0) (order : Order) (set : SetOptions) (link : LinkOptions) (steps : ℕ) (args items : List (List ℕ)) → order ≡ Run set link steps args → items ≡ args → P (Ok (Run set link steps items)) → P (Ok order)
at_run P order set link steps args items is texts h = subst (λ o. P (Ok o)) (sym is) (subst (λ t. P (Ok (Run set link steps t))) texts h)

pub at_plan : (P : Asked → Type 0) (order : Order) (set : SetOptions) (link : LinkOptions) → order ≡ Plan set link → P (Ok (Plan set link)) → P (Ok order)
at_plan P order set link is h = subst (λ o. P (Ok o)) (sym is) h

pub at_gen : (P : Asked → Type 0) (order : Order) (n pages steps : ℕ) → order ≡ Gen n pages steps → P (Ok (Gen n pages steps)) → P (Ok order)
at_gen P order n pages steps is h = subst (λ o. P (Ok o)) (sym is) h

pub at_trace : (P : Asked → Type 0) (order : Order) (one : Bool) (set : SetOptions) (link : LinkOptions) (steps : ℕ) (out path : List ℕ) (args items : List (List ℕ)) → order ≡ Trace one set link steps out args → path ≡ out
    → items ≡ args → P (Ok (Trace one set link steps path items)) → P (Ok order)
at_trace P order one set link steps out path args items is same texts h =
    subst (λ o. P (Ok o)) (sym is) (subst (λ t. P (Ok (Trace one set link steps out t))) texts (subst (λ p. P (Ok (Trace one set link steps p items))) same h))

pub at_replay : (P : Asked → Type 0) (order : Order) (one : Bool) (trace path : List ℕ) (set : SetOptions) (link : LinkOptions) (steps : ℕ) → order ≡ Replay one trace set link steps → path ≡ trace
    → P (Ok (Replay one path set link steps)) → P (Ok order)
at_replay P order one trace path set link steps is same h = subst (λ o. P (Ok o)) (sym is) (subst (λ p. P (Ok (Replay one p set link steps))) same h)

pub at_snap : (P : Asked → Type 0) (order : Order) (set : SetOptions) (link : LinkOptions) (steps : ℕ) (out path : List ℕ) → order ≡ Snap set link steps out → path ≡ out → P (Ok (Snap set link steps path)) → P (Ok order)
at_snap P order set link steps out path is same h = subst (λ o. P (Ok o)) (sym is) (subst (λ p. P (Ok (Snap set link steps p))) same h)

pub at_board : (P : Asked → Type 0) (order : Order) (mains items : List (List ℕ)) (link : LinkOptions) (steps slice turns : ℕ) → order ≡ Board mains link steps slice turns → items ≡ mains
    → P (Ok (Board items link steps slice turns)) → P (Ok order)
at_board P order mains items link steps slice turns is same h = subst (λ o. P (Ok o)) (sym is) (subst (λ m. P (Ok (Board m link steps slice turns))) same h)

-- the numbers of an order are in their ranges
pub range_of_merge : (order : Order) (set : SetOptions) (link : LinkOptions) (out : List ℕ) → order ≡ Merge set link out → IsInRange order → IsLinkInRange link
range_of_merge order set link out is h = (subst IsInRange is h).1

pub range_of_run : (order : Order) (set : SetOptions) (link : LinkOptions) (steps : ℕ) (args : List (List ℕ)) → order ≡ Run set link steps args → IsInRange order → IsLinkInRange link × AreArgumentsInRange steps args
range_of_run order set link steps args is h = let r = subst IsInRange is h in (r.1, r.2)

pub range_of_snap : (order : Order) (set : SetOptions) (link : LinkOptions) (steps : ℕ) (out : List ℕ) → order ≡ Snap set link steps out → IsInRange order → IsLinkInRange link × (steps ≤ 9223372036854775807)
range_of_snap order set link steps out is h = let r = subst IsInRange is h in (r.1, r.3)

pub range_of_plan : (order : Order) (set : SetOptions) (link : LinkOptions) → order ≡ Plan set link → IsInRange order → IsLinkInRange link
range_of_plan order set link is h = (subst IsInRange is h).1

pub range_of_gen : (order : Order) (n pages steps : ℕ) → order ≡ Gen n pages steps → IsInRange order → (1 ≤ pages) × (pages ≤ 16384) × (steps ≤ 9223372036854775807)
range_of_gen order n pages steps is h = subst IsInRange is h

pub range_of_trace : (order : Order) (one : Bool) (set : SetOptions) (link : LinkOptions) (steps : ℕ) (out : List ℕ) (args : List (List ℕ)) → order ≡ Trace one set link steps out args → IsInRange order
    → IsLinkInRange link × (steps ≤ 9223372036854775807)
range_of_trace order one set link steps out args is h = let r = subst IsInRange is h in (r.1, r.3.0)

pub range_of_replay : (order : Order) (one : Bool) (trace : List ℕ) (set : SetOptions) (link : LinkOptions) (steps : ℕ) → order ≡ Replay one trace set link steps → IsInRange order → IsLinkInRange link
range_of_replay order one trace set link steps is h = (subst IsInRange is h).2

pub range_of_board : (order : Order) (mains items : List (List ℕ)) (link : LinkOptions) (steps slice turns : ℕ) → order ≡ Board mains link steps slice turns → items ≡ mains → IsInRange order
    → IsLinkInRange link × (steps ≤ 9223372036854775807) × (1 ≤ length items) × (length items ≤ 64)
range_of_board order mains items link steps slice turns is same h =
    let r = subst IsInRange is h in
    (r.1, r.2, subst (λ m. 1 ≤ length m) (sym same) r.0.0, subst (λ m. length m ≤ 64) (sym same) r.0.1)

pub at_exec : (P : Asked → Type 0) (order : Order) (file path : List ℕ) (steps : ℕ) (args items : List (List ℕ)) → order ≡ Exec file steps args → path ≡ file → items ≡ args → P (Ok (Exec path steps items)) → P (Ok order)
at_exec P order file path steps args items is same texts h =
    subst (λ o. P (Ok o)) (sym is) (subst (λ t. P (Ok (Exec file steps t))) texts (subst (λ p. P (Ok (Exec p steps items))) same h))

-- Words that are no order, or no memory to read them: what is due, and that it is complete.
module _ (names : HostNames) (asked : Asked) (answer : Outcome) (old : FilesState) where
  pub usage_due : (kind : UsageKind) → asked ≡ Err kind → IsTold (Usage kind) answer → ForSome old.told (λ told. (due : Outcome) → DueFor names (get told) asked due → Yields asked due answer)
  usage_due kind is told = λ files there due d. told_keeps (Yields asked due) (Usage kind) answer told (λ line. tt) (subst (λ a. DueFor names (get files) a due) is d)

  pub memory_due : IsTold Memory answer → ForSome old.told (λ told. (due : Outcome) → DueFor names (get told) asked due → Yields asked due answer)
  memory_due told = λ files there due d. told_keeps (Yields asked due) Memory answer told (λ line. tt) tt

  module _ (new : FilesState) (before now : ℕ) where
    pub usage_complete : (kind : UsageKind) → asked ≡ Err kind → ForSome old.told (λ told. IsComplete names (get told) asked answer old new before now)
    usage_complete kind is = λ files there. subst (λ a. IsComplete names (get files) a answer old new before now) (sym is) tt

    whole : (files : FileMap) (a : Asked) → IsComplete names (get files) a Memory old new before now
    whole files (Err kind) = tt
    whole files (Ok (Merge set link out)) = λ merges few reads writes. inr refl
    whole files (Ok (Run set link steps args)) = λ links reads. inr refl
    whole files (Ok (Exec file steps args)) = λ opens reads. inr refl
    whole files (Ok (Plan set link)) = λ links reads puts. inr refl
    whole files (Ok (Gen n pages steps)) = λ some few enough puts. inr refl
    whole files (Ok (Trace one set link steps out args)) = λ x gives reads writes. inr refl
    whole files (Ok (Replay one trace set link steps)) = λ due reads. inr refl
    whole files (Ok (Snap set link steps out)) = λ starts few reads writes. inr refl
    whole files (Ok (Board mains link steps slice turns)) = λ links reads. inr refl

    pub memory_complete : IsTold Memory answer → ForSome old.told (λ told. IsComplete names (get told) asked answer old new before now)
    memory_complete told = λ files there. told_keeps (λ a. IsComplete names (get files) asked a old new before now) Memory answer told (λ line. whole files asked) (whole files asked)

module _ (told : Option FileMap) (embedder : List (List ℕ) → Embedder) (pick : Picks) where
  -- words that are no order: nothing is done, and that is told
  pub usage_does : (asked : Asked) (kind : UsageKind) → asked ≡ Err kind → (answer : Outcome) (old : Devices) (errors : SinkState) → TellsErrors answer old.errors errors
      → Does told embedder pick asked answer old (record old { errors = errors })
  usage_does asked kind is answer old errors line =
      subst (λ a. Does told embedder pick a answer old (record old { errors = errors })) (sym is) (record { errors = old.errors; works = refl; line = line })

  -- nothing was done
  nothing_traced : (one : Bool) (o : sets.SetOptions) (l : plans.LinkOptions) (steps : ℕ) (embedder : Embedder) (old : Devices) → ProgramWorks told one o l steps embedder Memory old old
  nothing_traced false o l steps embedder old = inl refl
  nothing_traced true o l steps embedder old = inl refl

  nothing_works : (asked : Asked) (old : Devices) → Works told embedder pick asked Memory old old
  nothing_works (Err kind) old = refl
  nothing_works (Ok (Merge set link out)) old = refl
  nothing_works (Ok (Run set link steps args)) old = inl refl
  nothing_works (Ok (Exec file steps args)) old = inl refl
  nothing_works (Ok (Plan set link)) old = (inl refl, refl)
  nothing_works (Ok (Gen n pages steps)) old = (inl refl, refl)
  nothing_works (Ok (Trace one set link steps out args)) old = nothing_traced one (options_of set) (links.options_of link) steps (embedder (guest_arguments args)) old
  nothing_works (Ok (Replay one trace set link steps)) old = refl
  nothing_works (Ok (Snap set link steps out)) old = refl
  nothing_works (Ok (Board mains link steps slice turns)) old = inl refl

  -- memory was wanting before anything was done, and that is told
  pub memory_does : (asked : Asked) (answer : Outcome) (old : Devices) (errors : SinkState) → IsTold Memory answer → TellsErrors answer old.errors errors → Does told embedder pick asked answer old (record old { errors = errors })
  memory_does asked answer old errors is line = record {
    errors = old.errors;
    works = told_keeps (λ a. Works told embedder pick asked a old old) Memory answer is (λ line. nothing_works asked old) (nothing_works asked old);
    line = line;
  }

-- where no turns are taken it is the same whatever is picked
abbrev pub takes_turns : Asked → Bool
takes_turns (Ok (Board mains link steps slice turns)) = true
takes_turns _ = false

module _ (told : Option FileMap) (embedder : List (List ℕ) → Embedder) (pick : Picks) where
  without_picks : (asked : Asked) (answer : Outcome) (old new : Devices) → takes_turns asked ≡ false → Works told embedder no_picks asked answer old new → Works told embedder pick asked answer old new
  without_picks (Err kind) answer old new none h = h
  without_picks (Ok (Merge set link out)) answer old new none h = h
  without_picks (Ok (Run set link steps args)) answer old new none h = h
  without_picks (Ok (Exec file steps args)) answer old new none h = h
  without_picks (Ok (Plan set link)) answer old new none h = h
  without_picks (Ok (Gen n pages steps)) answer old new none h = h
  without_picks (Ok (Trace one set link steps out args)) answer old new none h = h
  without_picks (Ok (Replay one trace set link steps)) answer old new none h = h
  without_picks (Ok (Snap set link steps out)) answer old new none h = h
  without_picks (Ok (Board mains link steps slice turns)) answer old new none h = absurd cc

  pub does_without_picks : (asked : Asked) (answer : Outcome) (old new : Devices) → takes_turns asked ≡ false → Does told embedder no_picks asked answer old new → Does told embedder pick asked answer old new
  does_without_picks asked answer old new none h = record { errors = h.errors; works = without_picks asked answer old (record new { errors = h.errors }) none h.works; line = h.line }
