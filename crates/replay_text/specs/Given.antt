-- What a reader of a part of a line returns.
-- Serves the contracts of this crate, which follow Texts of `spec_traces`.
use Rattle.std.specs.Prelude.{◌≡◌, Option, Some, None, Result, Ok, Err}
use Rattle.replay_text.specs.declared.unread.Unread.{Unread}
use Rattle.replay_text.specs.declared.unread.Unread.TheVariants as unread

abbrev pub Fails : {Y : Type 0} → Unread → Option Y → Type 0
Fails unread.Malformed read = read ≡ None
Fails unread.Memory read = Unit {0}

-- what was returned, seen by view, is what is read, unless memory ran out
abbrev pub Gives : {X Y : Type 0} → (X → Y) → Result X Unread → Option Y → Type 0
Gives view (Ok x) read = read ≡ Some (view x)
Gives view (Err why) read = Fails why read
