use Rattle.std.proofs.Common.{ap, subst, length, arith, Err, List, ℕ}
use Rattle.dyl_search.specs.Loaded.{IsLoaded, IsModule, Holds}
use Rattle.std.proofs.lemmas.Result.{err_from_is_err_and}
use Rattle.dyl_search.proofs.FewNames.{names_few, names_within, loaded_few}
use Rattle.dyl_search.proofs.NextMember.{no_member, lost_counts, no_member_counts, counted_more, stands_more}
use Rattle.dyl_search.proofs.Whole.{loaded_whole, search_whole}
use Rattle.dyl_search.proofs.step.step.Goals as goal

pub next_member-requires-clause-few : goal.next_member-requires-clause-few
next_member-requires-clause-few g c =
    let P : List ℕ → Type 0 = λ bytes. Holds bytes (λ wasm. IsModule wasm c.in_ok-loaded.loaded) in
    let names = names_within (g.F.Files.seen c.args.files.now).told c.args.o.now c.args.g.now c.requires.stands in
    let needed = loaded_few c.in_ok-found.found.bytes.items c.in_ok-loaded.loaded (subst P c.as_slice-2.ensures.value c.in_ok-loaded.ensures) in
    let room = c.in_ok-found.ensures.found.few_bytes in
    omega arith

pub add_member-requires-clause-few_names : goal.add_member-requires-clause-few_names
add_member-requires-clause-few_names g c =
    let P : List ℕ → Type 0 = λ bytes. Holds bytes (λ wasm. IsModule wasm c.in_ok-loaded.loaded) in
    let names = names_within (g.F.Files.seen c.args.files.now).told c.args.o.now c.args.g.now c.requires.stands in
    let needed = loaded_few c.in_ok-found.found.bytes.items c.in_ok-loaded.loaded (subst P c.as_slice-2.ensures.value c.in_ok-loaded.ensures) in
    let room = c.in_ok-found.ensures.found.few_bytes in
    let same = ap length c.in_ok-member.ensures.known in
    let more = names_few (length c.as_slice.result.now) c.args.g.now.names c.in_ok-loaded.loaded.dylink.needed in
    omega arith

pub returns-in_err-loaded-clause-stops : goal.returns-in_err-loaded-clause-stops
returns-in_err-loaded-clause-stops g c =
    let p = err_from_is_err_and c.from_residual-in_err-loaded.result c.from_residual-in_err-loaded.ensures.1 in
    let P : List ℕ → Type 0 = λ bytes. IsLoaded (length c.as_slice.result.now) bytes (Err c.in_err-loaded.field-0.0) in
    rw (p.1, p.2) (no_member (g.F.Files.seen c.args.files.now).told c.args.o.now c.args.g.now c.requires.stands c.in_ok-found.found c.in_ok-found.ensures.found
    (length c.as_slice.result.now) c.in_err-loaded.field-0.0 (ap length c.as_slice.ensures.value) (subst P c.as_slice-2.ensures.value c.in_err-loaded.ensures))

pub returns-clause-stands : goal.returns-clause-stands
returns-clause-stands g c =
    let P : List ℕ → Type 0 = λ bytes. Holds bytes (λ wasm. IsModule wasm c.in_ok-loaded.loaded) in
    stands_more (g.F.Files.seen c.args.files.now).told c.args.o.now c.args.g.now c.requires.stands c.in_ok-found.found c.in_ok-found.ensures.found c.in_ok-loaded.loaded (subst P c.as_slice-2.ensures.value c.in_ok-loaded.ensures)
    (length c.as_slice.result.now) c.in_ok-member.member c.add_member.new.g c.next_member.new.names (ap length c.as_slice.ensures.value) c.in_ok-member.ensures.made c.in_ok-member.ensures.known
    c.in_ok-add_member.ensures.members c.in_ok-add_member.ensures.names c.in_ok-add_member.ensures.total

pub returns-in_err-loaded-clause-whole : goal.returns-in_err-loaded-clause-whole
returns-in_err-loaded-clause-whole g c =
    let p = err_from_is_err_and c.from_residual-in_err-loaded.result c.from_residual-in_err-loaded.ensures.1 in
    rw (p.1, p.2) (loaded_whole (length c.as_slice.result.now) c.as_slice-2.result.now c.in_err-loaded.field-0.0 c.in_err-loaded.ensures)

pub returns-in_err-found-clause-whole : goal.returns-in_err-found-clause-whole
returns-in_err-found-clause-whole g c =
    let p = err_from_is_err_and c.from_residual.result c.from_residual.ensures.1 in
    rw (p.1, p.2) (search_whole c.in_err-found.field-0.0 c.in_err-found.ensures.fault)

pub returns-in_err-found-clause-broken : goal.returns-in_err-found-clause-broken
returns-in_err-found-clause-broken g c = λ start counted.
    let p = err_from_is_err_and c.from_residual.result c.from_residual.ensures.1 in
    rw (p.1, p.2) (c.in_err-found.ensures.broken start counted)

pub returns-in_err-loaded-clause-broken : goal.returns-in_err-loaded-clause-broken
returns-in_err-loaded-clause-broken g c = λ start counted.
    let p = err_from_is_err_and c.from_residual-in_err-loaded.result c.from_residual-in_err-loaded.ensures.1 in
    let P : List ℕ → Type 0 = λ bytes. IsLoaded (length c.as_slice.result.now) bytes (Err c.in_err-loaded.field-0.0) in
    rw (p.1, p.2) (no_member_counts (g.F.Files.seen c.args.files.now).told c.args.o.now c.args.g.now c.requires.stands c.in_ok-found.found c.in_ok-found.ensures.found
    start (g.F.Files.seen c.args.files.now).absents (g.F.Files.seen c.find_next.new.files).absents counted c.in_ok-found.ensures.tried
    (length c.as_slice.result.now) c.in_err-loaded.field-0.0 (ap length c.as_slice.ensures.value) (subst P c.as_slice-2.ensures.value c.in_err-loaded.ensures))

pub returns-in_err-member-clause-broken : goal.returns-in_err-member-clause-broken
returns-in_err-member-clause-broken g c = λ start counted.
    let p = err_from_is_err_and c.from_residual-in_err-member.result c.from_residual-in_err-member.ensures.1 in
    rw (p.1, p.2) (lost_counts (g.F.Files.seen c.args.files.now).told c.args.o.now c.args.g.now c.requires.stands c.in_ok-found.found c.in_ok-found.ensures.found
    start (g.F.Files.seen c.args.files.now).absents (g.F.Files.seen c.find_next.new.files).absents counted c.in_ok-found.ensures.tried)

pub returns-in_err-add_member-clause-broken : goal.returns-in_err-add_member-clause-broken
returns-in_err-add_member-clause-broken g c = λ start counted.
    let p = err_from_is_err_and c.from_residual-in_err-add_member.result c.from_residual-in_err-add_member.ensures.1 in
    rw (p.1, p.2) (lost_counts (g.F.Files.seen c.args.files.now).told c.args.o.now c.args.g.now c.requires.stands c.in_ok-found.found c.in_ok-found.ensures.found
    start (g.F.Files.seen c.args.files.now).absents (g.F.Files.seen c.find_next.new.files).absents counted c.in_ok-found.ensures.tried)

pub returns-clause-tried : goal.returns-clause-tried
returns-clause-tried g c = λ start counted.
    counted_more (g.F.Files.seen c.args.files.now).told c.args.o.now c.args.g.now c.requires.stands c.in_ok-found.found c.in_ok-found.ensures.found
    start (g.F.Files.seen c.args.files.now).absents (g.F.Files.seen c.find_next.new.files).absents counted c.in_ok-found.ensures.tried
    c.in_ok-member.member c.add_member.new.g c.in_ok-add_member.ensures.members
