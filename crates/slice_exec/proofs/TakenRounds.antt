-- What comes of a turn that was taken, and of the call at which it stopped.
use Rattle.std.proofs.Common.{◌≡◌, ◌<◌, ◌+◌, ℕ, Bool, true, false, List, [], ◌∷◌, ◌++◌, length, get_or, slice_get, slice_set, Some, Result, Ok, Err, IsErr, refl, sym, ap, ◌∙◌, subst, arith}
use Rattle.std.proofs.lemmas.List.{length-map, length_push}
use Rattle.std.proofs.lemmas.Option.{same_Some, slice_get_within, slice_get_read}
use Rattle.spec_hosts.specs.wasm_form.declared.memory.Memory.{Memory}
use Rattle.spec_hosts.specs.wasm_form.declared.runtime.Answer.{Answer}
use Rattle.spec_hosts.specs.spec_runtime.Recorded.{Recorded}
use Rattle.spec_hosts.specs.spec_runtime.Courses.{Course, IsAt, is_waiting}
use Rattle.spec_hosts.specs.Devices.{Devices}
use Rattle.spec_hosts.specs.Hosted.{Embedder}
use Rattle.spec_hosts.specs.Ends.{are_many}
use Rattle.spec_loading.specs.spec_linking.LinkedSets.{LinkedSet, hosts_of}
use Rattle.spec_boards.specs.declared.turn.Turn.{Turn}
use Rattle.spec_boards.specs.declared.turn.Stop.TheVariants as stop
use Rattle.spec_boards.proofs.Seats.{get_set}
use Rattle.spec_boards.proofs.Standing.{map_set_same}
use Rattle.dyl_store.specs.Stores.{StoreRun, set_course}
use Rattle.dyl_link.specs.host_table.declared.entry.HostTable.{HostTable}
use Rattle.host_calls.specs.declared.hosts.Hosts.{Hosts}
use Rattle.host_calls.specs.Bindings.{AreBindings}
use Rattle.host_calls.specs.Embedders.{names_of, embedder_of, embedder}
use Rattle.dyl_link.specs.host_table.Names.{HaveIntegers}
use Rattle.slice_board.specs.Taken.{next_turn, TakesTurn}
use Rattle.slice_board.specs.declared.board.Seat.{Seat}
use Rattle.slice_exec.specs.declared.tally.Tally.{Tally}
use Rattle.slice_exec.specs.Playing.{sets_in, written_in, CallGives, IsHostsOf, IsAsking, IsServing, Serves, IsAtRound, IsReady, RoundGives}
use Rattle.slice_exec.proofs.Lists.{all_at, zip_at, zip_length}
use Rattle.slice_exec.proofs.Rounds as rounds

-- the same of what is the same embedder
gives_as : (e f : Embedder) → e ≡ f → (C : Course) (x : Recorded) (r : Result Answer Memory) (old new : Devices) → CallGives e C x r old new → CallGives f C x r old new
gives_as e f same C x r old new gives = subst (λ (d : Embedder). CallGives d C x r old new) same gives

module _ {X : Type 0} {F : X → Type 0} {g : _} (slice : ℕ) (pick : ℕ → ℕ → ℕ → Type 0) (hosts : List (Hosts X F g)) (seats : List Seat) (n : ℕ) (tally : Tally) where
  -- memory was wanting before a use of a device was begun
  pub lost_round : (why : Memory) (news : List Seat) (next : ℕ) (told : Tally) (before : Devices) → RoundGives slice pick hosts (Err why) seats n tally news next told before before
  lost_round why news next told before =
      (tt, λ name table have most turns begun here few lt goes. rounds.cut (sets_in seats) most slice turns pick (embedder_of (name ∷ []) table) seats n tally begun before here)

  -- the same of an answer that is an error
  pub lost_by : (result : Result (Unit {0}) Memory) → IsErr result → (news : List Seat) (next : ℕ) (told : Tally) (before : Devices) → RoundGives slice pick hosts result seats n tally news next told before before
  lost_by (Ok done) is news next told before = absurd cc
  lost_by (Err why) is news next told before = lost_round why news next told before

  module _ (t : Turn) (mids : List Seat) (taken : TakesTurn pick slice (Ok t) n seats mids) (told : Tally) (picks : told.picks.items ≡ tally.picks.items ++ t.program ∷ []) (written : told.written.items ≡ tally.written.items) where
    abbrev p : ℕ
    p = taken.program

    abbrev old : Seat
    old = taken.old

    abbrev new : Seat
    new = taken.new

    sets_same : sets_in mids ≡ sets_in seats
    sets_same = ap sets_in taken.set ∙ map_set_same (λ (s : Seat). s.store.linked) seats p old new taken.there taken.linked

    one_pick : length told.picks.items ≡ length tally.picks.items + 1
    one_pick = ap length picks ∙ length_push tally.picks.items t.program

    picks_so : told.picks.items ≡ tally.picks.items ++ p ∷ []
    picks_so = picks ∙ ap (λ i. tally.picks.items ++ i ∷ []) taken.comes.0

    new_at : slice_get mids t.program ≡ Some new
    new_at = ap (λ l. slice_get l t.program) taken.set ∙ ap (slice_get (slice_set seats p new)) taken.comes.0 ∙ get_set seats p new old taken.there

    -- no call is answered
    pub silent_round : (done : Unit {0}) (next : ℕ) (before : Devices) → next ≡ next_turn n → (t.stop ≡ stop.Waits → are_many new.store.run.answers ≡ true) → RoundGives slice pick hosts (Ok done) seats n tally mids next told before before
    silent_round done next before turn full = (
      (sets_same, one_pick),
      λ name table have most turns begun here few lt goes.
          let e = embedder_of (name ∷ []) table in
          subst (λ m. IsAtRound (sets_in seats) most slice turns pick e mids m told begun before) (sym turn)
          (subst (λ ss. IsAtRound (sets_in seats) most slice turns pick e ss (next_turn n) told begun before) (sym taken.set)
          (rounds.silent most slice turns pick e seats n tally begun before here few lt goes p taken.picked old new taken.there taken.linked taken.most t.steps t.stop taken.comes.1 told picks_so written full)),
    )

    -- the steps of the program led where it stands
    pub seen_at : (s : Seat) (u : StoreRun) → slice_get mids t.program ≡ Some s → u ≡ s.store → (u.run.lost ≡ false → IsAt (set_course u.linked) u.run) → IsAt (set_course new.store.linked) new.store.run
    seen_at s u at same seen =
        let one : u ≡ new.store = same ∙ ap (λ (x : Seat). x.store) (same_Some s new (sym at ∙ new_at)) in
        let stood : new.store.run.lost ≡ false → IsAt (set_course new.store.linked) new.store.run = subst (λ (v : StoreRun). v.run.lost ≡ false → IsAt (set_course v.linked) v.run) one seen in
        stood taken.comes.1.taken.0.0

    -- the program of a store that is looked at
    pub seen_full : (s : Seat) (u : StoreRun) (full : Bool) (b : Bool) → slice_get mids t.program ≡ Some s → u ≡ s.store → full ≡ are_many u.run.answers → full ≡ b → are_many new.store.run.answers ≡ b
    seen_full s u full b at same is holds =
        let one : u ≡ new.store = same ∙ ap (λ (x : Seat). x.store) (same_Some s new (sym at ∙ new_at)) in
        ap (λ (v : StoreRun). are_many v.run.answers) (sym one) ∙ sym is ∙ holds

    module _ (now : Devices) (ready : IsReady slice pick hosts seats n tally now) where
      hosts_within : length (sets_in seats) ≡ length hosts
      hosts_within = zip_length (IsHostsOf ready.0 ready.1) (sets_in seats) hosts ready.2.0

      pub program_within : t.program < length hosts
      program_within =
          let within = slice_get_within seats p old taken.there in
          let same = taken.comes.0 in
          let count = length-map seats (λ (s : Seat). s.store.linked) in
          let hosted = hosts_within in
          omega (arith, within, same, count, hosted)

      pub written_so : (s : Seat) (u : StoreRun) → slice_get mids t.program ≡ Some s → u ≡ s.store → told.written.items ≡ written_in mids
      written_so s u at same =
          written ∙ ready.6.written
          ∙ sym (ap written_in taken.set ∙ rounds.written_same ready.3 slice ready.4 pick (embedder_of (ready.0 ∷ []) ready.1) seats n tally ready.5 now ready.6 ready.7 ready.8 ready.9 p taken.picked old new taken.there taken.linked taken.most t.steps t.stop taken.comes.1)

      module _ (h : Hosts X F g) (read : h ≡ get_or hosts t.program h) where
        host_at : slice_get hosts p ≡ Some h
        host_at = ap (slice_get hosts) (sym taken.comes.0) ∙ slice_get_read hosts (length hosts) t.program h refl program_within read

        is_hosts : IsHostsOf ready.0 ready.1 old.store.linked h
        is_hosts = zip_at (IsHostsOf ready.0 ready.1) (sets_in seats) hosts p old.store.linked h ready.2.0 (rounds.set_there seats p old taken.there) host_at

        linked_over : old.store.linked.names ≡ names_of ready.1
        linked_over = all_at (λ (L : LinkedSet). L.names ≡ names_of ready.1) (sets_in seats) p old.store.linked ready.2.1 (rounds.set_there seats p old taken.there)

        asking_so : IsAt (set_course new.store.linked) new.store.run → t.stop ≡ stop.Waits → IsAsking h new.store
        asking_so stands stops =
            let turned = rounds.turned ready.3 slice ready.4 pick (embedder_of (ready.0 ∷ []) ready.1) seats n tally ready.5 now ready.6 ready.7 ready.8 ready.9 p taken.picked old new taken.there taken.linked taken.most t.steps t.stop taken.comes.1 in
            let waits : IsAt (set_course old.store.linked) new.store.run → is_waiting (set_course old.store.linked) new.store.run ≡ true =
            λ at. rounds.waiting_new ready.3 slice ready.4 pick (embedder_of (ready.0 ∷ []) ready.1) seats n tally ready.5 now ready.6 ready.7 ready.8 ready.9 p taken.picked old new taken.there taken.linked taken.most t.steps t.stop taken.comes.1 at stops
            in
            let table : h.table.now ≡ ready.1 = is_hosts.1 in
            record {
              found = turned.0.0;
              waiting = subst (λ (L : LinkedSet). IsAt (set_course L) new.store.run → is_waiting (set_course L) new.store.run ≡ true) (sym taken.linked) waits stands;
              names = ap (λ (L : LinkedSet). L.names) taken.linked ∙ linked_over ∙ ap (λ tb. names_of tb) (sym table);
              integers = subst (λ tb. HaveIntegers (names_of tb)) (sym table) ready.2.2;
              bound =
                  subst (λ (L : LinkedSet). AreBindings h.table.now (hosts_of L) h.bindings.items) (sym taken.linked) (subst (λ tb. AreBindings tb (hosts_of old.store.linked) h.bindings.items) (sym table) is_hosts.2);
            }

        pub serving_so : (s : Seat) (u : StoreRun) → slice_get mids t.program ≡ Some s → u ≡ s.store → (u.run.lost ≡ false → IsAt (set_course u.linked) u.run)
            → t.stop ≡ stop.Waits → are_many new.store.run.answers ≡ false → IsServing h t.program mids told.written.items
        serving_so s u at same seen stops few =
            let one : u ≡ new.store = same ∙ ap (λ (x : Seat). x.store) (same_Some s new (sym at ∙ new_at)) in
            let stood : new.store.run.lost ≡ false → IsAt (set_course new.store.linked) new.store.run = subst (λ (v : StoreRun). v.run.lost ≡ false → IsAt (set_course v.linked) v.run) one seen in
            let found = (rounds.turned ready.3 slice ready.4 pick (embedder_of (ready.0 ∷ []) ready.1) seats n tally ready.5 now ready.6 ready.7 ready.8 ready.9 p taken.picked old new taken.there taken.linked taken.most t.steps t.stop taken.comes.1).0.0 in
            (new, new_at, asking_so (stood found) stops, written_so s u at same, few)

        -- what came of the call, as its embedder says
        gives_old : (name : List ℕ) (table : HostTable X F g) → IsHostsOf name table old.store.linked h → (r : Result Answer Memory) (before after : Devices)
            → CallGives (embedder h) (set_course new.store.linked) new.store.run r before after → CallGives (embedder_of (name ∷ []) table) (set_course old.store.linked) new.store.run r before after
        gives_old name table hosted r before after gives =
            let e : embedder h ≡ embedder_of (name ∷ []) table = λ i. embedder_of (hosted.0 i) (hosted.1 i) in
            gives_as (embedder h) (embedder_of (name ∷ []) table) e (set_course old.store.linked) new.store.run r before after
            (subst (λ (L : LinkedSet). CallGives (embedder h) (set_course L) new.store.run r before after) taken.linked gives)

        -- the call was answered, or memory was wanting
        pub answered_round : (result : Result (Unit {0}) Memory) (news : List Seat) (next : ℕ) (last : Tally) (before after : Devices) → IsAt (set_course new.store.linked) new.store.run → t.stop ≡ stop.Waits → are_many new.store.run.answers ≡ false → next ≡ next_turn n
            → last.picks.items ≡ told.picks.items → Serves h t.program result mids told.written.items news last.written.items before after → RoundGives slice pick hosts result seats n tally news next last before after
        answered_round (Ok done) news next last before after stands stops few turn same serves =
            let s = serves new new_at in (
              (
                ap sets_in s.5 ∙ map_set_same (λ (s : Seat). s.store.linked) mids t.program new s.1 new_at s.2 ∙ sets_same,
                ap length same ∙ one_pick,
              ),
              λ name table have most turns begun here fewer lt goes.
                  let e = embedder_of (name ∷ []) table in
                  let hosted = zip_at (IsHostsOf name table) (sets_in seats) hosts p old.store.linked h have.0 (rounds.set_there seats p old taken.there) host_at in
                  let gives = gives_old name table hosted (Ok s.0) before after s.7 in
                  let where_set : news ≡ slice_set (slice_set seats p new) p s.1 = s.5 ∙ ap (λ i. slice_set mids i s.1) taken.comes.0 ∙ ap (λ l. slice_set l p s.1) taken.set in
                  subst (λ m. IsAtRound (sets_in seats) most slice turns pick e news m last begun after) (sym turn)
                  (subst (λ ss. IsAtRound (sets_in seats) most slice turns pick e ss (next_turn n) last begun after) (sym where_set)
                  (rounds.answered most slice turns pick e seats n tally begun before here fewer lt goes p taken.picked old new taken.there taken.linked taken.most t.steps t.stop taken.comes.1 stops few
                  last s.0 s.1 after (same ∙ picks_so) (subst (λ (M : LinkedSet). IsAt (set_course M) new.store.run) taken.linked stands) s.2 s.3 s.4 (s.6 ∙ ap written_in where_set) gives)),
            )
        answered_round (Err why) news next last before after stands stops few turn same serves =
            let s = serves new new_at in (
              tt,
              λ name table have most turns begun here fewer lt goes.
                  let hosted = zip_at (IsHostsOf name table) (sets_in seats) hosts p old.store.linked h have.0 (rounds.set_there seats p old taken.there) host_at in
                  rounds.cut_call most slice turns pick (embedder_of (name ∷ []) table) seats n tally begun before here fewer lt goes p taken.picked old new taken.there taken.linked taken.most t.steps t.stop taken.comes.1 stops few
                  s.0 after (gives_old name table hosted s.0 before after s.1),
            )
