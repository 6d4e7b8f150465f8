use Rattle.std.proofs.Common.{◌≡◌, ◌∙◌, ap, sym, ◌++◌, ◌∷◌, [], map, Ok, Err, Some, None, refl, false}
use Rattle.spec_linking.specs.Paths.{in_directory, folder, expanded, search_paths, has_slash}
use Rattle.dyl_search.specs.Gathers.{options_of}
use Rattle.dyl_search.proofs.Finding.{at_option, finds_before, finds_same, then_at, searched}
use Rattle.dyl_search.proofs.find.find_needed.Goals as goal

pub returns-in-Err-clause-answer : goal.returns-in-Err-clause-answer
returns-in-Err-clause-answer g c =
    let told = (g.F.Files.seen c.args.files.now).told in
    let name = c.args.name.now in
    let path = c.args.member.now.path in
    let texts = c.args.member.now.dylink.paths in
    let plain : has_slash name ≡ false = sym c.has_slash_in.ensures ∙ c.if-has_slash_in.false in
    finds_same told told (search_paths (options_of c.args.o.now) path texts name)
    (map (λ text. in_directory (expanded path text) name) texts ++ (map (λ directory. in_directory directory name) c.args.o.now.paths ++ (folder c.args.o.now.main ++ name) ∷ []))
    c.args.most (Err c.in-Err.fault) refl (searched (options_of c.args.o.now) path texts name plain)
    (finds_before told (map (λ text. in_directory (expanded path text) name) texts) (map (λ directory. in_directory directory name) c.args.o.now.paths ++ (folder c.args.o.now.main ++ name) ∷ [])
    c.args.most (Err c.in-Err.fault) (λ e. cc)
    (finds_same told told (map (λ text. in_directory (expanded path text) name) texts) (map (λ text. in_directory (expanded c.as_str.result.now text) name) c.items.result.now) c.args.most (Err c.in-Err.fault) refl
    (ap (λ p. map (λ text. in_directory (expanded p text) name) c.items.result.now) c.as_str.ensures ∙ ap (map (λ text. in_directory (expanded path text) name)) c.items.ensures) c.in-Err.ensures.answer))

pub returns-in-Ok-None-clause-answer : goal.returns-in-Ok-None-clause-answer
returns-in-Ok-None-clause-answer g c =
    let told = (g.F.Files.seen c.args.files.now).told in
    let name = c.args.name.now in
    let path = c.args.member.now.path in
    let texts = c.args.member.now.dylink.paths in
    let plain : has_slash name ≡ false = sym c.has_slash_in.ensures ∙ c.if-has_slash_in.false in
    finds_same told told (search_paths (options_of c.args.o.now) path texts name)
    (map (λ text. in_directory (expanded path text) name) texts ++ (map (λ directory. in_directory directory name) c.args.o.now.paths ++ (folder c.args.o.now.main ++ name) ∷ []))
    c.args.most c.find_listed.result refl (searched (options_of c.args.o.now) path texts name plain)
    (then_at told (g.F.Files.seen c.find_in.new.files).told (map (λ text. in_directory (expanded path text) name) texts) (map (λ directory. in_directory directory name) c.args.o.now.paths ++ (folder c.args.o.now.main ++ name) ∷ [])
    c.args.most c.find_listed.result
    (finds_same told told (map (λ text. in_directory (expanded path text) name) texts) (map (λ text. in_directory (expanded c.as_str.result.now text) name) c.items.result.now) c.args.most (Ok None) refl
    (ap (λ p. map (λ text. in_directory (expanded p text) name) c.items.result.now) c.as_str.ensures ∙ ap (map (λ text. in_directory (expanded path text) name)) c.items.ensures) (at_option c.in-Ok-None.field-0-is c.in-Ok-None.ensures.answer))
    c.in-Ok-None.ensures.outside.files c.find_listed.ensures.answer)

pub returns-in-Ok-Some-clause-answer : goal.returns-in-Ok-Some-clause-answer
returns-in-Ok-Some-clause-answer g c =
    let told = (g.F.Files.seen c.args.files.now).told in
    let name = c.args.name.now in
    let path = c.args.member.now.path in
    let texts = c.args.member.now.dylink.paths in
    let plain : has_slash name ≡ false = sym c.has_slash_in.ensures ∙ c.if-has_slash_in.false in
    finds_same told told (search_paths (options_of c.args.o.now) path texts name)
    (map (λ text. in_directory (expanded path text) name) texts ++ (map (λ directory. in_directory directory name) c.args.o.now.paths ++ (folder c.args.o.now.main ++ name) ∷ []))
    c.args.most (Ok (Some c.in-Ok-Some.file)) refl (searched (options_of c.args.o.now) path texts name plain)
    (finds_before told (map (λ text. in_directory (expanded path text) name) texts) (map (λ directory. in_directory directory name) c.args.o.now.paths ++ (folder c.args.o.now.main ++ name) ∷ [])
    c.args.most (Ok (Some c.in-Ok-Some.file)) (λ e. cc)
    (finds_same told told (map (λ text. in_directory (expanded path text) name) texts) (map (λ text. in_directory (expanded c.as_str.result.now text) name) c.items.result.now) c.args.most (Ok (Some c.in-Ok-Some.file)) refl
    (ap (λ p. map (λ text. in_directory (expanded p text) name) c.items.result.now) c.as_str.ensures ∙ ap (map (λ text. in_directory (expanded path text) name)) c.items.ensures) (at_option c.in-Ok-Some.field-0-is c.in-Ok-Some.ensures.answer)))
