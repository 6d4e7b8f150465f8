-- The entry that was added has the next number.
use Rattle.std.proofs.Common.{◌≡◌, ◌≤◌, true, length, is_ok, refl, ◌∙◌, arith}
use Rattle.std.proofs.lemmas.Grind.{common_steps}
use Rattle.host_table.specs.Names.{host_name_of}
use Rattle.host_table.proofs.Numbering.{numbered_more, pushed_entry}
use Rattle.host_table.proofs.entry.HostTable.push.Goals as goal

pub invariant_of-self : goal.invariant_of-self
invariant_of-self g c =
    let t = c.args.self.now in
    let fine : is_ok c.push.result ≡ true = grind (arith, common_steps) in
    let pushed = rw (fine, c.in-Ok.ensures.entries) at c.push.ensures.items in
    let fresh = t.numbered c.args.host.«module» c.args.host.name ∙ c.requires.fresh in
    let few : length c.push.new.self.items ≤ 4294967295 = grind (arith, common_steps) in
    record {
      room = few;
      numbered = numbered_more (λ e. host_name_of e.host) t.numbers c.prepare.new.numbers t.entries.items c.push.new.self.items _ t.numbered fresh c.in-Ok.ensures.ok pushed;
    }

pub returns-in-Ok-push-clause-added : goal.returns-in-Ok-push-clause-added
returns-in-Ok-push-clause-added g c =
    pushed_entry (λ e. host_name_of e.host) (λ e. e.call) c.args.self.now.entries.items c.push.new.self.items _ (rw c.in-Ok.ensures.entries at c.in-Ok-push.ensures.items) (host_name_of c.args.host) c.args.call refl refl
