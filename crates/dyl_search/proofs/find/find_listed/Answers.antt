use Rattle.std.proofs.Common.{◌≡◌, ◌∙◌, ap, ◌++◌, ◌∷◌, [], map, Ok, Err, Some, None, string_bytes, refl}
use Rattle.spec_linking.specs.Paths.{in_directory, folder}
use Rattle.dyl_search.proofs.Finding.{at_option, finds_before, finds_same, finds_lost, then_at}
use Rattle.std.proofs.lemmas.Result.{err_from_is_err_and}
use Rattle.spec_linking.specs.declared.fault.SetFault.TheVariants.{Memory}
use Rattle.dyl_search.proofs.find.find_listed.Goals as goal

pub returns-in-Err-clause-answer : goal.returns-in-Err-clause-answer
returns-in-Err-clause-answer g c = finds_before (g.F.Files.seen c.args.files.now).told (map (λ d. in_directory d c.args.name.now) c.args.o.now.paths) ((folder c.args.o.now.main ++ c.args.name.now) ∷ []) c.args.most (Err c.in-Err.fault) (λ e. cc)
    (finds_same (g.F.Files.seen c.args.files.now).told (g.F.Files.seen c.args.files.now).told (map (λ d. in_directory d c.args.name.now) c.args.o.now.paths) (map (λ d. in_directory d c.args.name.now) c.items.result.now) c.args.most (Err c.in-Err.fault)
    refl (ap (map (λ d. in_directory d c.args.name.now)) c.items.ensures) c.in-Err.ensures.answer)

pub returns-in-Ok-Some-clause-answer : goal.returns-in-Ok-Some-clause-answer
returns-in-Ok-Some-clause-answer g c = finds_before (g.F.Files.seen c.args.files.now).told (map (λ d. in_directory d c.args.name.now) c.args.o.now.paths) ((folder c.args.o.now.main ++ c.args.name.now) ∷ []) c.args.most (Ok (Some c.in-Ok-Some.found)) (λ e. cc)
    (finds_same (g.F.Files.seen c.args.files.now).told (g.F.Files.seen c.args.files.now).told (map (λ d. in_directory d c.args.name.now) c.args.o.now.paths) (map (λ d. in_directory d c.args.name.now) c.items.result.now) c.args.most (Ok (Some c.in-Ok-Some.found))
    refl (ap (map (λ d. in_directory d c.args.name.now)) c.items.ensures) (at_option c.in-Ok-Some.field-0-is c.in-Ok-Some.ensures.answer))

pub returns-in_ok-beside-in-Ok-None-clause-answer : goal.returns-in_ok-beside-in-Ok-None-clause-answer
returns-in_ok-beside-in-Ok-None-clause-answer g c =
    let path : string_bytes c.in_ok-beside-in-Ok-None.field-0 ≡ folder c.args.o.now.main ++ c.args.name.now = c.in_ok-beside-in-Ok-None.ensures ∙ ap (λ p. folder p ++ c.args.name.now) c.as_str.ensures in
    then_at (g.F.Files.seen c.args.files.now).told (g.F.Files.seen c.find_in.new.files).told (map (λ d. in_directory d c.args.name.now) c.args.o.now.paths) ((folder c.args.o.now.main ++ c.args.name.now) ∷ []) c.args.most c.find_at.result
    (finds_same (g.F.Files.seen c.args.files.now).told (g.F.Files.seen c.args.files.now).told (map (λ d. in_directory d c.args.name.now) c.args.o.now.paths) (map (λ d. in_directory d c.args.name.now) c.items.result.now) c.args.most (Ok None)
    refl (ap (map (λ d. in_directory d c.args.name.now)) c.items.ensures) (at_option c.in-Ok-None.field-0-is c.in-Ok-None.ensures.answer))
    c.in-Ok-None.ensures.outside.files
    (finds_same (g.F.Files.seen c.find_in.new.files).told (g.F.Files.seen c.find_in.new.files).told ((folder c.args.o.now.main ++ c.args.name.now) ∷ []) (string_bytes c.in_ok-beside-in-Ok-None.field-0 ∷ []) c.args.most c.find_at.result refl (ap (λ p. p ∷ []) path) c.find_at.ensures.answer)

pub returns-in_err-beside-in-Ok-None-clause-answer : goal.returns-in_err-beside-in-Ok-None-clause-answer
returns-in_err-beside-in-Ok-None-clause-answer g c =
    let now = (g.F.Files.seen c.find_in.new.files).absents in
    let p = err_from_is_err_and c.from_residual.result c.from_residual.ensures.1 in
    rw (p.1, p.2)
    (then_at (g.F.Files.seen c.args.files.now).told (g.F.Files.seen c.find_in.new.files).told (map (λ d. in_directory d c.args.name.now) c.args.o.now.paths) ((folder c.args.o.now.main ++ c.args.name.now) ∷ []) c.args.most (Err Memory)
    (finds_same (g.F.Files.seen c.args.files.now).told (g.F.Files.seen c.args.files.now).told (map (λ d. in_directory d c.args.name.now) c.args.o.now.paths) (map (λ d. in_directory d c.args.name.now) c.items.result.now) c.args.most (Ok None)
    refl (ap (map (λ d. in_directory d c.args.name.now)) c.items.ensures) (at_option c.in-Ok-None.field-0-is c.in-Ok-None.ensures.answer))
    c.in-Ok-None.ensures.outside.files
    (finds_lost (g.F.Files.seen c.find_in.new.files).told ((folder c.args.o.now.main ++ c.args.name.now) ∷ []) c.args.most now now refl))
