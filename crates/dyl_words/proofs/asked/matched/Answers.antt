use Rattle.std.proofs.Common.{rules, ◌≡◌, ◌⊎◌, inl, inr, ◌∷◌, map, string_bytes, true, false, []}
use Rattle.std.specs.List.{list_any}
use Rattle.dyl_words.specs.Words as spec
use Rattle.dyl_words.specs.Clap.{app, no_kinds, has_stray}
use Rattle.dyl_words.proofs.Asking.{zero_refused, stray_refused, refused, read}
use Rattle.clap.specs.Words.{fault_of, matches_of, rows_of}
use Rattle.clap.specs.Matches.{found_of}
use Rattle.clap.specs.Values.{kind_of}
use Rattle.clap.specs.declared.error.kind.ErrorKind.TheVariants.{OutOfMemory}
use Rattle.dyl_words.proofs.asked.matched.Goals as goal

pub returns-then-some_zero-clause-refused : goal.returns-then-some_zero-clause-refused
returns-then-some_zero-clause-refused c =
    let split : map string_bytes c.args.words.now ≡ string_bytes c.in-Some._command.now ∷ map string_bytes c.in-Some.rest.now = search rules in
    let zero : list_any spec.has_zero (map string_bytes c.in-Some.rest.now) ≡ true = search rules in
    λ w. zero_refused c.args.command _ _ _ split zero

pub returns-then-has_stray-clause-refused : goal.returns-then-has_stray-clause-refused
returns-then-has_stray-clause-refused c =
    let split : map string_bytes c.args.words.now ≡ string_bytes c.in-Some._command.now ∷ map string_bytes c.in-Some.rest.now = search rules in
    let zero : list_any spec.has_zero (map string_bytes c.in-Some.rest.now) ≡ false = search rules in
    let stray : has_stray (map string_bytes c.in-Some.rest.now) ≡ true = search rules in
    λ w. stray_refused c.args.command _ _ _ split zero stray

pub returns-in-Ok-clause-read : goal.returns-in-Ok-clause-read
returns-in-Ok-clause-read c =
    let split : map string_bytes c.args.words.now ≡ string_bytes c.in-Some._command.now ∷ map string_bytes c.in-Some.rest.now = search rules in
    let zero : list_any spec.has_zero (map string_bytes c.in-Some.rest.now) ≡ false = search rules in
    let stray : has_stray (map string_bytes c.in-Some.rest.now) ≡ false = search rules in
    let passes : fault_of (app c.args.command) (map string_bytes c.args.words.now) ≡ [] = search rules in
    let rows : rows_of (found_of c.in-Ok.matches) ≡ matches_of (app c.args.command) (map string_bytes c.args.words.now) = search rules in
    read c.args.command _ _ _ split zero stray passes _ rows

pub returns-in-Err-clause-refused : goal.returns-in-Err-clause-refused
returns-in-Err-clause-refused c =
    let split : map string_bytes c.args.words.now ≡ string_bytes c.in-Some._command.now ∷ map string_bytes c.in-Some.rest.now = search rules in
    let zero : list_any spec.has_zero (map string_bytes c.in-Some.rest.now) ≡ false = search rules in
    let stray : has_stray (map string_bytes c.in-Some.rest.now) ≡ false = search rules in
    let fails : (kind_of c.in-Err.error ≡ OutOfMemory) ⊎ (no_kinds (fault_of (app c.args.command) (map string_bytes c.args.words.now)) ≡ false) = search rules in
    λ w. elim fails [
      | inl k ↦ search rules
      | inr f ↦ refused c.args.command _ _ _ split zero stray f
    ]
