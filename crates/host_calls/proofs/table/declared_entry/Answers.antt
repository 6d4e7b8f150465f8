-- One that is declared is found, with its type.
use Rattle.std.proofs.Common.{◌≡◌, sym, ◌∙◌}
use Rattle.host_table.specs.Names.{host_name_of}
use Rattle.host_table.specs.Table.{functions_of}
use Rattle.host_calls.proofs.Entries.{called_found, called_there}
use Rattle.host_calls.proofs.table.declared_entry.Goals as goal

pub unreachable-requires : goal.unreachable-requires
unreachable-requires g c =
    let t = c.args.table.now in
    let h = c.args.host.now in
    called_there (λ e. host_name_of e.host) h.«module» h.name (λ k. k.ty ≡ h.ty) t.entries.items 0 (sym c.requires.bound ∙ c.in-None.is)
    (c.names_have_their_types.ensures.others (functions_of t) h.«module» h.name h.ty c.requires.other c.requires.declared)

pub returns-clause-typed : goal.returns-clause-typed
returns-clause-typed g c =
    let t = c.args.table.now in
    let h = c.args.host.now in
    called_found (λ e. host_name_of e.host) h.«module» h.name (λ k. k.ty ≡ h.ty) t.entries.items c.in-Some.entry (sym c.requires.bound ∙ c.in-Some.is)
    (c.names_have_their_types.ensures.others (functions_of t) h.«module» h.name h.ty c.requires.other c.requires.declared)
