use Rattle.std.proofs.Common.{rules, ◌∙◌, ap, sym, subst}
use Rattle.spec_loading.specs.spec_linking.Plans as plans
use Rattle.dyl_link.specs.Answers.{Tells}
use Rattle.dyl_link.proofs.Findings.{before_limits}
use Rattle.dyl_link.proofs.Sound.{is_sound, after_entry, same_entry}
use Rattle.dyl_link.proofs.entry_and_layout.entered.Goals as goal

pub placed_of-requires-clause-sound : goal.placed_of-requires-clause-sound
placed_of-requires-clause-sound c =
    let L = c.requires.over.0 in
    let over = c.requires.over.1 in
    let none = c.in_ok-entry.ensures.tells L over.imported over.shape (ap (λ (o : plans.LinkOptions). o.no_duplicates) (sym over.options)) in
    (L, is_sound L c.args.set.now c.args.o.now c.args.imports.now over none)

pub returns-in_err-entry-clause-tells : goal.returns-in_err-entry-clause-tells
returns-in_err-entry-clause-tells c = λ L over.
    let told = c.in_err-entry.ensures.tells L over.imported over.shape (ap (λ (o : plans.LinkOptions). o.no_duplicates) (sym over.options)) in
    subst (Tells c.from_residual.result) (sym (before_limits L)) (search (rules, told))

pub returns-in_err-placed-clause-tells : goal.returns-in_err-placed-clause-tells
returns-in_err-placed-clause-tells c = λ L over.
    let none = c.in_ok-entry.ensures.tells L over.imported over.shape (ap (λ (o : plans.LinkOptions). o.no_duplicates) (sym over.options)) in
    let told = c.in_err-placed.ensures.tells L (is_sound L c.args.set.now c.args.o.now c.args.imports.now over none) in
    subst (Tells c.from_residual-in_err-placed.result) (sym (after_entry L none)) (search (rules, told))

pub returns-clause-tells : goal.returns-clause-tells
returns-clause-tells c = λ L over.
    let none = c.in_ok-entry.ensures.tells L over.imported over.shape (ap (λ (o : plans.LinkOptions). o.no_duplicates) (sym over.options)) in
    after_entry L none ∙ c.in_ok-placed.ensures.tells L (is_sound L c.args.set.now c.args.o.now c.args.imports.now over none)

pub returns-clause-entry : goal.returns-clause-entry
returns-clause-entry c = λ L over. same_entry L c.args.imports.now c.in_ok-entry.entry over.imported c.in_ok-entry.ensures.entry

pub returns-clause-placed : goal.returns-clause-placed
returns-clause-placed c = λ L over.
    let none = c.in_ok-entry.ensures.tells L over.imported over.shape (ap (λ (o : plans.LinkOptions). o.no_duplicates) (sym over.options)) in
    c.in_ok-placed.ensures.exact L (is_sound L c.args.set.now c.args.o.now c.args.imports.now over none)
