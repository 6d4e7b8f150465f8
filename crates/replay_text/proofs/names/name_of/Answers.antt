use Rattle.std.proofs.Common.{ap, string_bytes}
use Rattle.std.proofs.lemmas.Str.{IsUtf8-string_bytes}
use Rattle.replay_text.proofs.FromStd.{name_read, no_name}
use Rattle.replay_text.proofs.names.name_of.Goals as goal

pub returns-in-Ok : goal.returns-in-Ok
returns-in-Ok c =
    rw c.of.ensures
    (name_read c.args.word.now c.as_bytes.result.now c.in_ok-bytes.bytes.items (string_bytes c.in-Ok.name) c.as_bytes.ensures.value c.in_ok-bytes.ensures (ap (λ v. v.items) c.in-Ok.ensures.ok) (IsUtf8-string_bytes c.in-Ok.name))

pub returns : goal.returns
returns c = no_name c.args.word.now c.as_bytes.result.now c.in_ok-bytes.bytes.items c.as_bytes.ensures.value c.in_ok-bytes.ensures (λ u. let k = c.in-Err.ensures.succeeds u in cc)
