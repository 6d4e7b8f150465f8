-- The host function that was added has the next number.
use Rattle.std.proofs.Common.{◌≡◌, ◌∙◌, ◌++◌, ◌∷◌, [], None, map, length, ap, sym}
use Rattle.std.specs.List.{position_from}
use Rattle.std.proofs.lemmas.List.{length-map, map_push}
use Rattle.spec_loading.specs.spec_linking.LinkedSets.{is_named}
use Rattle.host_table.specs.Names.{host_name_of}
use Rattle.host_table.specs.Numbers.{number_of, with_number}
use Rattle.host_table.proofs.Numbering.{numbered_more}
use Rattle.dyl_imports.proofs.hosts.Hosts.push.Goals as goal

pub invariant_of-self-2 : goal.invariant_of-self-2
invariant_of-self-2 c =
    let old = c.self.inside.list.items in
    let numbers = c.self.inside.numbers in
    let host = c.in_ok-host.host in
    let from = c.args.from.now in
    let name = c.args.name.now in
    let same : map host_name_of c.push.new.self.items ≡ map host_name_of old ++ host_name_of host ∷ [] =
    ap (λ l. map host_name_of l) (c.in-Ok.ensures.items ∙ ap (λ l. l ++ host ∷ []) c.prepare.ensures.list) ∙ map_push host_name_of old host in
    let named : host.«module» ≡ from = ap (λ h. h.module_name) c.in_ok-host.ensures in
    let called : host.name ≡ name = ap (λ h. h.name) c.in_ok-host.ensures in
    let fresh : number_of numbers host.«module» host.name ≡ None =
    (λ i. number_of numbers (named i) (called i)) ∙ c.self.invariant from name ∙ ap (position_from (is_named from name) 0) c.self.view_is ∙ c.requires.new in
    let added : c.prepare.new.numbers ≡ with_number host.«module» host.name (length (map host_name_of old)) numbers =
    c.in_ok-prepare.ensures.ok ∙ ap (λ n. with_number host.«module» host.name n numbers) (sym (length-map old host_name_of)) in
    numbered_more (λ n. n) numbers c.prepare.new.numbers (map host_name_of old) (map host_name_of c.push.new.self.items) (host_name_of host) c.self.invariant fresh added same
