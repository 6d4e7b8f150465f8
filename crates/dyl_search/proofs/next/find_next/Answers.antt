use Rattle.std.proofs.Common.{arith, ◌≡◌, ◌∙◌, ◌<◌, ◌-◌, sym, ap, refl, length, map, slice_get, Some, Ok, Err}
use Rattle.std.proofs.lemmas.Result.{err_from_is_err_and}
use Rattle.spec_linking.specs.Sets.{most_bytes, most_members}
use Rattle.spec_linking.specs.Wanted.{Wanted}
use Rattle.spec_linking.specs.Gathering.{paths_from}
use Rattle.dyl_search.specs.Gathers.{options_of, member_of, members_of}
use Rattle.dyl_search.proofs.Finding.{finds_same}
use Rattle.dyl_search.proofs.NextFile.{too_many, too_many_counts, stops_at, broken_at, next_file, found_counts, no_file, no_file_counts, nothing_there}
use Rattle.dyl_search.proofs.next.find_next.Goals as goal

pub returns-then-number-eq-MOST_MEMBERS-clause-stops : goal.returns-then-number-eq-MOST_MEMBERS-clause-stops
returns-then-number-eq-MOST_MEMBERS-clause-stops g c =
    too_many (g.F.Files.seen c.args.files.now).told c.args.o.now c.args.g.now c.requires.stands (sym (ap length c.as_slice-members.ensures.value) ∙ c.if-number-eq-MOST_MEMBERS.true) c.requires.more

pub unreachable-requires : goal.unreachable-requires
unreachable-requires g c =
    let n : length c.as_slice-members.result.now ≡ length c.args.g.now.members.items = ap length c.as_slice-members.ensures.value in
    let lt : length c.as_slice-members.result.now < length c.args.g.now.names = omega (arith, c.requires.more) in
    nothing_there c.args.g.now.names (length c.as_slice-members.result.now) lt (sym c.in_default.ensures)

pub returns-in_err-found-clause-stops : goal.returns-in_err-found-clause-stops
returns-in_err-found-clause-stops g c =
    let told = (g.F.Files.seen c.args.files.now).told in
    let n : length c.as_slice-members.result.now ≡ length c.args.g.now.members.items = ap length c.as_slice-members.ensures.value in
    let w : Wanted = record { name = c.in-Some.name.now; needed_by = c.in-Some.by } in
    let at : slice_get c.args.g.now.names (length c.args.g.now.members.items) ≡ Some w = ap (slice_get c.args.g.now.names) (sym n) ∙ sym c.in-Some.ensures in
    let few : length c.args.g.now.members.items < most_members = omega (arith, c.requires.stands.few, c.if-number-eq-MOST_MEMBERS.false) in
    let p = err_from_is_err_and c.from_residual.result c.from_residual.ensures.1 in
    rw (p.1, p.2) (stops_at told c.args.o.now c.args.g.now c.requires.stands w at few c.in_err-found.field-0.0
    (finds_same told told (paths_from (options_of c.args.o.now) w.name (slice_get (members_of c.args.g.now) w.needed_by)) (paths_from (options_of c.args.o.now) w.name (slice_get (map member_of c.as_slice-members.result.now) w.needed_by))
    (most_bytes - c.args.g.now.total) (Err c.in_err-found.field-0.0) refl (ap (λ ms. paths_from (options_of c.args.o.now) w.name (slice_get (map member_of ms) w.needed_by)) c.as_slice-members.ensures.value) c.in_err-found.ensures.answer))

pub returns-clause-found : goal.returns-clause-found
returns-clause-found g c =
    let told = (g.F.Files.seen c.args.files.now).told in
    let n : length c.as_slice-members.result.now ≡ length c.args.g.now.members.items = ap length c.as_slice-members.ensures.value in
    let w : Wanted = record { name = c.in-Some.name.now; needed_by = c.in-Some.by } in
    let at : slice_get c.args.g.now.names (length c.args.g.now.members.items) ≡ Some w = ap (slice_get c.args.g.now.names) (sym n) ∙ sym c.in-Some.ensures in
    let few : length c.args.g.now.members.items < most_members = omega (arith, c.requires.stands.few, c.if-number-eq-MOST_MEMBERS.false) in
    next_file told c.args.o.now c.args.g.now c.requires.stands w at few c.in_ok-found.found c.or_missing.result
    (finds_same told told (paths_from (options_of c.args.o.now) w.name (slice_get (members_of c.args.g.now) w.needed_by)) (paths_from (options_of c.args.o.now) w.name (slice_get (map member_of c.as_slice-members.result.now) w.needed_by))
    (most_bytes - c.args.g.now.total) (Ok c.in_ok-found.found) refl (ap (λ ms. paths_from (options_of c.args.o.now) w.name (slice_get (map member_of ms) w.needed_by)) c.as_slice-members.ensures.value) c.in_ok-found.ensures.answer)
    c.or_missing.ensures

pub returns-clause-stops : goal.returns-clause-stops
returns-clause-stops g c =
    let told = (g.F.Files.seen c.args.files.now).told in
    let n : length c.as_slice-members.result.now ≡ length c.args.g.now.members.items = ap length c.as_slice-members.ensures.value in
    let w : Wanted = record { name = c.in-Some.name.now; needed_by = c.in-Some.by } in
    let at : slice_get c.args.g.now.names (length c.args.g.now.members.items) ≡ Some w = ap (slice_get c.args.g.now.names) (sym n) ∙ sym c.in-Some.ensures in
    let few : length c.args.g.now.members.items < most_members = omega (arith, c.requires.stands.few, c.if-number-eq-MOST_MEMBERS.false) in
    no_file told c.args.o.now c.args.g.now c.requires.stands w at few c.in_ok-found.found c.or_missing.result
    (finds_same told told (paths_from (options_of c.args.o.now) w.name (slice_get (members_of c.args.g.now) w.needed_by)) (paths_from (options_of c.args.o.now) w.name (slice_get (map member_of c.as_slice-members.result.now) w.needed_by))
    (most_bytes - c.args.g.now.total) (Ok c.in_ok-found.found) refl (ap (λ ms. paths_from (options_of c.args.o.now) w.name (slice_get (map member_of ms) w.needed_by)) c.as_slice-members.ensures.value) c.in_ok-found.ensures.answer)
    c.or_missing.ensures

pub returns-then-number-eq-MOST_MEMBERS-clause-broken : goal.returns-then-number-eq-MOST_MEMBERS-clause-broken
returns-then-number-eq-MOST_MEMBERS-clause-broken g c = λ start counted.
    too_many_counts (g.F.Files.seen c.args.files.now).told c.args.o.now c.args.g.now c.requires.stands start (g.F.Files.seen c.args.files.now).absents
    (sym (ap length c.as_slice-members.ensures.value) ∙ c.if-number-eq-MOST_MEMBERS.true) c.requires.more counted

pub returns-in_err-found-clause-broken : goal.returns-in_err-found-clause-broken
returns-in_err-found-clause-broken g c = λ start counted.
    let told = (g.F.Files.seen c.args.files.now).told in
    let n : length c.as_slice-members.result.now ≡ length c.args.g.now.members.items = ap length c.as_slice-members.ensures.value in
    let w : Wanted = record { name = c.in-Some.name.now; needed_by = c.in-Some.by } in
    let at : slice_get c.args.g.now.names (length c.args.g.now.members.items) ≡ Some w = ap (slice_get c.args.g.now.names) (sym n) ∙ sym c.in-Some.ensures in
    let few : length c.args.g.now.members.items < most_members = omega (arith, c.requires.stands.few, c.if-number-eq-MOST_MEMBERS.false) in
    let p = err_from_is_err_and c.from_residual.result c.from_residual.ensures.1 in
    rw (p.1, p.2) (broken_at told c.args.o.now c.args.g.now c.requires.stands w at few start (g.F.Files.seen c.args.files.now).absents (g.F.Files.seen c.find_wanted.new.files).absents counted c.in_err-found.field-0.0
    (finds_same told told (paths_from (options_of c.args.o.now) w.name (slice_get (members_of c.args.g.now) w.needed_by)) (paths_from (options_of c.args.o.now) w.name (slice_get (map member_of c.as_slice-members.result.now) w.needed_by))
    (most_bytes - c.args.g.now.total) (Err c.in_err-found.field-0.0) refl (ap (λ ms. paths_from (options_of c.args.o.now) w.name (slice_get (map member_of ms) w.needed_by)) c.as_slice-members.ensures.value) c.in_err-found.ensures.answer))

pub returns-clause-tried : goal.returns-clause-tried
returns-clause-tried g c =
    let told = (g.F.Files.seen c.args.files.now).told in
    let n : length c.as_slice-members.result.now ≡ length c.args.g.now.members.items = ap length c.as_slice-members.ensures.value in
    let w : Wanted = record { name = c.in-Some.name.now; needed_by = c.in-Some.by } in
    let at : slice_get c.args.g.now.names (length c.args.g.now.members.items) ≡ Some w = ap (slice_get c.args.g.now.names) (sym n) ∙ sym c.in-Some.ensures in
    let few : length c.args.g.now.members.items < most_members = omega (arith, c.requires.stands.few, c.if-number-eq-MOST_MEMBERS.false) in
    found_counts told c.args.o.now c.args.g.now c.requires.stands w at few (g.F.Files.seen c.args.files.now).absents (g.F.Files.seen c.find_wanted.new.files).absents c.in_ok-found.found c.or_missing.result
    (finds_same told told (paths_from (options_of c.args.o.now) w.name (slice_get (members_of c.args.g.now) w.needed_by)) (paths_from (options_of c.args.o.now) w.name (slice_get (map member_of c.as_slice-members.result.now) w.needed_by))
    (most_bytes - c.args.g.now.total) (Ok c.in_ok-found.found) refl (ap (λ ms. paths_from (options_of c.args.o.now) w.name (slice_get (map member_of ms) w.needed_by)) c.as_slice-members.ensures.value) c.in_ok-found.ensures.answer)
    c.or_missing.ensures

pub returns-clause-broken : goal.returns-clause-broken
returns-clause-broken g c = λ start counted.
    let told = (g.F.Files.seen c.args.files.now).told in
    let n : length c.as_slice-members.result.now ≡ length c.args.g.now.members.items = ap length c.as_slice-members.ensures.value in
    let w : Wanted = record { name = c.in-Some.name.now; needed_by = c.in-Some.by } in
    let at : slice_get c.args.g.now.names (length c.args.g.now.members.items) ≡ Some w = ap (slice_get c.args.g.now.names) (sym n) ∙ sym c.in-Some.ensures in
    let few : length c.args.g.now.members.items < most_members = omega (arith, c.requires.stands.few, c.if-number-eq-MOST_MEMBERS.false) in
    no_file_counts told c.args.o.now c.args.g.now c.requires.stands w at few start (g.F.Files.seen c.args.files.now).absents (g.F.Files.seen c.find_wanted.new.files).absents counted c.in_ok-found.found c.or_missing.result
    (finds_same told told (paths_from (options_of c.args.o.now) w.name (slice_get (members_of c.args.g.now) w.needed_by)) (paths_from (options_of c.args.o.now) w.name (slice_get (map member_of c.as_slice-members.result.now) w.needed_by))
    (most_bytes - c.args.g.now.total) (Ok c.in_ok-found.found) refl (ap (λ ms. paths_from (options_of c.args.o.now) w.name (slice_get (map member_of ms) w.needed_by)) c.as_slice-members.ensures.value) c.in_ok-found.ensures.answer)
    c.or_missing.ensures
