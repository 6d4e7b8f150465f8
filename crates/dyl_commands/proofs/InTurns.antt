-- What comes of several sets that run in turns.
use Rattle.std.proofs.Common.{◌≡◌, ◌<◌, ◌≤◌, ℕ, List, [], ◌∷◌, map, length, false, Option, Some, Ok, Err, refl, ap, subst, ◌∙◌, inl, inr, arith}
use Rattle.std.specs.List.{All}
use Rattle.std.proofs.lemmas.List.Elements.{All-nil, All-cons}
use Rattle.std.specs.FinMap.{get}
use Rattle.spec_hosts.specs.dyl_outside.FileMap.{FileMap}
use Rattle.spec_hosts.specs.dyl_outside.Files.{FilesState}
use Rattle.spec_hosts.specs.spec_runtime.Names.{HostNames}
use Rattle.spec_hosts.specs.Devices.{Devices}
use Rattle.spec_hosts.specs.Hosted.{Embedder}
use Rattle.spec_loading.specs.spec_linking.declared.fault.SetFault.{SetFault}
use Rattle.spec_loading.specs.spec_linking.declared.fault.SetFault.TheVariants.{ReadFault}
use Rattle.spec_loading.specs.spec_linking.Sets.{ClosedSet}
use Rattle.spec_loading.specs.spec_linking.Plans as plans
use Rattle.spec_loading.specs.spec_linking.LinkedSets.{LinkedSet}
use Rattle.spec_boards.specs.BoardRuns.{IsBoardRun, IsBoardCut}
use Rattle.dyl_link.specs.declared.options.LinkOptions.{LinkOptions}
use Rattle.dyl_link.specs.Sets as links
use Rattle.dyl_store.specs.Stores.{set_course}
use Rattle.dyl_front.specs.declared.order.Order.TheVariants as order
use Rattle.dyl_front.specs.declared.outcome.Outcome.{Outcome}
use Rattle.dyl_front.specs.declared.outcome.Outcome.TheVariants.{Board, Set, Link, Memory}
use Rattle.dyl_commands.specs.Linking.{linked}
use Rattle.dyl_commands.specs.Sets.{AllLink}
use Rattle.dyl_commands.specs.Due.{is_done}
use Rattle.dyl_commands.specs.Counts.{BoardCounts}
use Rattle.dyl_commands.specs.Runs.{Picks, AreThere, BoardWorks}
use Rattle.dyl_commands.specs.Served.{Serves, AreGot, AreNotGot, MayFollowAll, GetsAll, RunsInTurns}

-- ---- the sets

module _ (names : HostNames) (l : plans.LinkOptions) (old : FilesState) where
  as_many : (mains : List (List ℕ)) (Ls : List LinkedSet) → AreGot names mains l Ls old → length Ls ≡ length mains
  as_many [] [] h = refl
  as_many (main ∷ mains) (L ∷ Ls) h = (let rest = as_many mains Ls h.1 in omega arith)
  as_many [] (L ∷ Ls) h = absurd h
  as_many (main ∷ mains) [] h = absurd h

  pub some_sets : (mains : List (List ℕ)) (Ls : List LinkedSet) → AreGot names mains l Ls old → 0 < length mains → 0 < length Ls
  some_sets mains Ls h some = (let same = as_many mains Ls h in omega arith)

  pub few_sets : (mains : List (List ℕ)) (Ls : List LinkedSet) → AreGot names mains l Ls old → length mains ≤ 64 → length Ls ≤ 64
  few_sets mains Ls h few = (let same = as_many mains Ls h in omega arith)

  -- each is linked over these host functions
  pub all_over : (mains : List (List ℕ)) (Ls : List LinkedSet) → AreGot names mains l Ls old → All (λ (M : LinkedSet). M.names ≡ names) Ls
  all_over [] [] h = All-nil (λ (M : LinkedSet). M.names ≡ names)
  all_over (main ∷ mains) (L ∷ Ls) h = All-cons (λ (M : LinkedSet). M.names ≡ names) L Ls (ap (λ (M : LinkedSet). M.names) h.0.is) (all_over mains Ls h.1)
  all_over [] (L ∷ Ls) h = absurd h
  all_over (main ∷ mains) [] h = absurd h

  abbrev sets_of : (mains : List (List ℕ)) (Ls : List LinkedSet) → AreGot names mains l Ls old → List ClosedSet
  sets_of [] Ls h = []
  sets_of (main ∷ mains) (L ∷ Ls) h = h.0.set ∷ sets_of mains Ls h.1
  sets_of (main ∷ mains) [] h = absurd h

  -- they are these sets, linked
  are_linked : (mains : List (List ℕ)) (Ls : List LinkedSet) (h : AreGot names mains l Ls old) → Ls ≡ map (linked names l) (sets_of mains Ls h)
  are_linked [] [] h = refl
  are_linked (main ∷ mains) (L ∷ Ls) h = ap (λ M. M ∷ Ls) h.0.is ∙ ap (λ Ms. linked names l h.0.set ∷ Ms) (are_linked mains Ls h.1)
  are_linked [] (L ∷ Ls) h = absurd h
  are_linked (main ∷ mains) [] h = absurd h

  are_there : (mains : List (List ℕ)) (Ls : List LinkedSet) (h : AreGot names mains l Ls old) → AreThere old.told names mains l (sets_of mains Ls h)
  are_there [] Ls h = tt
  are_there (main ∷ mains) (L ∷ Ls) h = (record { gathered = h.0.gathered; shape = h.0.shape; links = h.0.links }, are_there mains Ls h.1)
  are_there (main ∷ mains) [] h = absurd h

  all_link : (mains : List (List ℕ)) (Ls : List LinkedSet) → AreGot names mains l Ls old → (files : FileMap) → old.told ≡ Some files → AllLink names (get files) mains l
  all_link [] Ls h files told = tt
  all_link (main ∷ mains) (L ∷ Ls) h files told = (record { set = h.0.set; gathered = h.0.gathered files told; links = h.0.links }, all_link mains Ls h.1 files told)
  all_link (main ∷ mains) [] h files told = absurd h

-- ---- their run

-- of these, which are those that were linked
module _ (embedder : Embedder) (mains : List (List ℕ)) (o : LinkOptions) (Ls items : List LinkedSet) (same : items ≡ Ls) (old new : FilesState)
    (gets : GetsAll embedder.names mains (links.options_of o) (Ok Ls) old new) (steps slice turns : ℕ) (pick : Picks) (begun now : Devices) where
  abbrev l : plans.LinkOptions
  l = links.options_of o

  -- the sets, which these are once they are linked
  abbrev sets : List ClosedSet
  sets = sets_of embedder.names l old mains Ls gets.got

  these : items ≡ map (linked embedder.names l) sets
  these = same ∙ are_linked embedder.names l old mains Ls gets.got

  pub turns_serve : (answer : Outcome) → RunsInTurns items embedder steps slice turns pick answer begun now → (before after : ℕ)
      → Serves embedder.names (Ok (order.Board mains o steps slice turns)) answer old new before after
  turns_serve (Board r) h before after = record { tells = all_link embedder.names l old mains Ls gets.got; leaves = λ files told. gets.files ∙ told; caused = tt; inner = refl }
  turns_serve Memory h before after = record { tells = λ files told. tt; leaves = λ files told. gets.files ∙ told; caused = tt; inner = refl }
  turns_serve _ h before after = absurd h

  pub turns_work : (answer : Outcome) → RunsInTurns items embedder steps slice turns pick answer begun now → BoardWorks old.told mains l steps slice turns pick embedder answer begun now
  turns_work (Board r) h = record {
    sets = sets;
    there = are_there embedder.names l old mains Ls gets.got;
    run = subst (λ (Ms : List LinkedSet). IsBoardRun set_course Ms steps slice turns pick embedder r begun now) these h;
  }
  turns_work Memory h = inr (record {
    sets = sets;
    there = are_there embedder.names l old mains Ls gets.got;
    cut = subst (λ (Ms : List LinkedSet). IsBoardCut set_course Ms steps slice turns pick embedder begun now) these h;
  })
  turns_work _ h = absurd h

  follows : (answer : Outcome) → RunsInTurns items embedder steps slice turns pick answer begun now → MayFollowAll answer
  follows (Board r) h = tt
  follows Memory h = tt
  follows _ h = absurd h

  pub turns_count : (answer : Outcome) → RunsInTurns items embedder steps slice turns pick answer begun now → BoardCounts mains answer old new
  turns_count answer h = gets.counts answer (follows answer h)

  pub turns_not_done : (answer : Outcome) → RunsInTurns items embedder steps slice turns pick answer begun now → is_done answer ≡ false
  turns_not_done (Board r) h = refl
  turns_not_done Memory h = refl
  turns_not_done _ h = absurd h

-- ---- where one isn't linked

module _ (names : HostNames) (mains : List (List ℕ)) (o : LinkOptions) (old new : FilesState) (answer : Outcome) (gets : GetsAll names mains (links.options_of o) (Err answer) old new) where
  pub unlinked_count : BoardCounts mains answer old new
  unlinked_count = gets.counts answer refl

module _ (names : HostNames) (mains : List (List ℕ)) (o : LinkOptions) (old new : FilesState) (steps slice turns : ℕ) where
  pub board_refused : (before now : ℕ) → new.told ≡ old.told → (answer : Outcome) → AreNotGot names mains (links.options_of o) answer old new
      → Serves names (Ok (order.Board mains o steps slice turns)) answer old new before now
  board_refused before now same Memory h = record { tells = λ files told. tt; leaves = λ files told. same ∙ told; caused = tt; inner = refl }
  board_refused before now same (Set fault) h = of_set fault h
    where
      of_set : (f : SetFault) → AreNotGot names mains (links.options_of o) (Set f) old new → Serves names (Ok (order.Board mains o steps slice turns)) (Set f) old new before now
      of_set (ReadFault at) h = record { tells = h.tells; leaves = λ files told. same ∙ told; caused = h.caused; inner = refl }
      of_set f h = record { tells = h.tells; leaves = λ files told. same ∙ told; caused = h.caused; inner = h.inner }
  board_refused before now same (Link fault) h = record { tells = h.tells; leaves = λ files told. same ∙ told; caused = tt; inner = h.inner }
  board_refused before now same _ h = absurd h.caused

  -- nothing is done
  pub board_idle : (told : Option FileMap) (pick : Picks) (embedder : Embedder) (begun : Devices) (answer : Outcome) → AreNotGot names mains (links.options_of o) answer old new
      → BoardWorks told mains (links.options_of o) steps slice turns pick embedder answer begun begun
  board_idle told pick embedder begun Memory h = inl refl
  board_idle told pick embedder begun (Set fault) h = refl
  board_idle told pick embedder begun (Link fault) h = refl
  board_idle told pick embedder begun _ h = absurd h.caused

  pub board_not_done : (answer : Outcome) → AreNotGot names mains (links.options_of o) answer old new → is_done answer ≡ false
  board_not_done (Set fault) h = refl
  board_not_done (Link fault) h = refl
  board_not_done Memory h = refl
  board_not_done _ h = absurd h.caused
