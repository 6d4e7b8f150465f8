-- What the words ask for.
-- This profile: docs/FORMATS.md, "The commands" and "Options".
use Rattle.std.specs.Prelude.{◌≡◌, ◌≤◌, ◌==◌, ℕ, List, [], ◌∷◌, Bool, true, ◌&&◌, nat_le, not, map, length, Option, Some, None, Result, Ok, Err, String, string_bytes, if◌then◌else◌}
use Rattle.std.specs.List.{list_all, list_any, slice_split}
use Rattle.std.specs.Str.Parse.{digits_value}
use Rattle.std.specs.declared.alloc.Global.{Global}
use Rattle.std.specs.declared.io.ErrorKind.{ErrorKind}
use Rattle.std.specs.declared.io.ErrorKind.TheVariants.{OutOfMemory}
use Rattle.dyl_link.specs.declared.options.LinkOptions.{LinkOptions}
use Rattle.dyl_link.specs.dyl_search.declared.set.SetOptions.{SetOptions}
use Rattle.dyl_words.specs.Words.{Asked, asked, command_named, has_zero}
use Rattle.dyl_words.specs.declared.asked.AskFault.{AskFault}
use Rattle.dyl_words.specs.declared.asked.AskFault.TheVariants as ask
use Rattle.dyl_words.specs.declared.names.CommandName.{CommandName}
use Rattle.dyl_words.specs.declared.names.CommandName.TheVariants as command
use Rattle.dyl_front.specs.declared.outcome.Opt.{Opt}
use Rattle.dyl_front.specs.declared.outcome.Opt.TheVariants.{Dl, Path, Pages, Stack, Steps, Slice, Turns, N}
use Rattle.dyl_front.specs.declared.outcome.UsageKind.{UsageKind}
use Rattle.dyl_front.specs.declared.outcome.UsageKind.TheVariants.{NoCommand, UnknownCommand, Words, Number, Name}
use Rattle.dyl_front.specs.declared.outcome.Outcome.{Outcome}
use Rattle.dyl_front.specs.declared.outcome.Outcome.TheVariants as outcome
use Rattle.dyl_front.specs.declared.order.Order.{Order}
use Rattle.dyl_front.specs.declared.order.Order.TheVariants.{Merge, Run, Exec, Plan, Gen, Trace, Replay, Snap, Board}
use Rattle.dyl_front.specs.declared.words.WordFault.{WordFault}
use Rattle.dyl_front.specs.declared.words.WordFault.TheVariants as word

abbrev pub Text : Type 0
Text = List ℕ

abbrev pub on_ok : {A B : Type 0} → Result A UsageKind → (A → Result B UsageKind) → Result B UsageKind
on_ok (Ok x) next = next x
on_ok (Err kind) next = Err kind

-- ---- the values of options

abbrev pub is_digit : ℕ → Bool
is_digit b = nat_le 0x30 b && nat_le b 0x39

abbrev pub is_number : Text → Bool
is_number text = not (length text == 0) && list_all is_digit text

abbrev pub is_between : ℕ → ℕ → ℕ → Bool
is_between least most n = nat_le least n && nat_le n most

-- a number in its range, in digits alone
abbrev pub number_of : Opt → ℕ → ℕ → Text → Result ℕ UsageKind
number_of of least most text = if is_number text && is_between least most (digits_value 10 text) then Ok (digits_value 10 text) else Err (Number of)

-- the number that is the value of an option; where none is given, this one
abbrev pub number_in : Opt → ℕ → ℕ → ℕ → Option Text → Result ℕ UsageKind
number_in of least most unless None = Ok unless
number_in of least most unless (Some text) = number_of of least most text

abbrev pub is_empty : Text → Bool
is_empty text = length text == 0

abbrev pub items_of : Opt → List Text → Result (List Text) UsageKind
items_of of parts = if list_any is_empty parts then Err (Name of) else Ok parts

-- the items between separators; where no value is given, none
abbrev pub items_in : Opt → ℕ → Option Text → Result (List Text) UsageKind
items_in of separator None = Ok []
items_in of separator (Some text) = items_of of (slice_split (λ b. b == separator) text)

-- names between commas, and directories between colons
abbrev pub set_in : Text → Asked → Result SetOptions UsageKind
set_in main a = on_ok (items_in Dl 0x2C a.dl) (λ dl. on_ok (items_in Path 0x3A a.path) (λ paths. Ok (record { main = main; dl = dl; paths = paths })))

abbrev pub pages_in : Asked → Result ℕ UsageKind
pages_in a = number_in Pages 1 16384 1024 a.pages

abbrev pub link_in : Asked → Result LinkOptions UsageKind
link_in a = on_ok (pages_in a) (λ pages. on_ok (number_in Stack 16 16777216 65536 a.stack) (λ stack. Ok (record { stack = stack; pages = pages; no_duplicates = a.no_duplicates })))

abbrev pub steps_in : Asked → Result ℕ UsageKind
steps_in a = number_in Steps 0 9223372036854775807 1000000000 a.steps

abbrev pub slice_in : Asked → Result ℕ UsageKind
slice_in a = number_in Slice 1 1000000 1000 a.slice

abbrev pub turns_in : Asked → Result ℕ UsageKind
turns_in a = number_in Turns 0 1048576 1048576 a.turns

-- ---- orders

abbrev pub over_set : Text → Asked → (SetOptions → LinkOptions → Result Order UsageKind) → Result Order UsageKind
over_set main a next = on_ok (set_in main a) (λ set. on_ok (link_in a) (λ link. next set link))

abbrev pub merge_order : Text → Text → Asked → Result Order UsageKind
merge_order main out a = over_set main a (λ set link. Ok (Merge set link out))

abbrev pub run_order : Text → List Text → Asked → Result Order UsageKind
run_order main args a = over_set main a (λ set link. on_ok (steps_in a) (λ steps. Ok (Run set link steps args)))

abbrev pub exec_order : Text → List Text → Asked → Result Order UsageKind
exec_order file args a = on_ok (steps_in a) (λ steps. Ok (Exec file steps args))

abbrev pub plan_order : Text → Asked → Result Order UsageKind
plan_order main a = over_set main a (λ set link. Ok (Plan set link))

-- the number of members may be any of 32 bits here
abbrev pub gen_order : Text → Asked → Result Order UsageKind
gen_order number a = on_ok (pages_in a) (λ pages. on_ok (steps_in a) (λ steps. on_ok (number_of N 0 4294967295 number) (λ n. Ok (Gen n pages steps))))

-- with `--one`, which no other option of a set stands beside, main is the path of the one module
abbrev pub trace_order : Text → Text → List Text → Asked → Result Order UsageKind
trace_order main out args a = over_set main a (λ set link. on_ok (steps_in a) (λ steps. Ok (Trace a.one set link steps out args)))

abbrev pub replay_order : Text → Text → Asked → Result Order UsageKind
replay_order trace main a = over_set main a (λ set link. on_ok (steps_in a) (λ steps. Ok (Replay a.one trace set link steps)))

abbrev pub snap_order : Text → Text → Asked → Result Order UsageKind
snap_order main out a = over_set main a (λ set link. on_ok (steps_in a) (λ steps. Ok (Snap set link steps out)))

-- all plain words are main modules
abbrev pub board_order : List Text → Asked → Result Order UsageKind
board_order mains a =
    on_ok (link_in a) (λ link. on_ok (steps_in a) (λ steps. on_ok (slice_in a) (λ slice. on_ok (turns_in a) (λ turns. Ok (Board mains link steps slice turns)))))

-- by the plain words, of which `asked` leaves neither too few nor too many
abbrev pub order_by : CommandName → List Text → Asked → Result Order UsageKind
order_by command.Merge (main ∷ out ∷ []) a = merge_order main out a
order_by command.Run (main ∷ args) a = run_order main args a
order_by command.Exec (file ∷ args) a = exec_order file args a
order_by command.Plan (main ∷ []) a = plan_order main a
order_by command.Gen (number ∷ []) a = gen_order number a
order_by command.Trace (main ∷ out ∷ args) a = trace_order main out args a
order_by command.Replay (trace ∷ main ∷ []) a = replay_order trace main a
order_by command.Snap (main ∷ out ∷ []) a = snap_order main out a
order_by command.Board mains a = board_order mains a
order_by _ _ a = Err Words

abbrev pub order_asked : CommandName → Option Asked → Result Order UsageKind
order_asked c None = Err Words
order_asked c (Some a) = order_by c a.plain a

abbrev pub order_for : Option CommandName → List Text → Result Order UsageKind
order_for None words = Err UnknownCommand
order_for (Some c) words = order_asked c (asked c words)

-- what these words ask for, of which the first is the program's own name
abbrev pub order_of : List (String Global) → Result Order UsageKind
order_of [] = Err NoCommand
order_of (program ∷ []) = Err NoCommand
order_of (program ∷ word ∷ words) = order_for (command_named (string_bytes word)) (map string_bytes words)

-- these were read from the words, or this is what is wrong with them, or memory was wanting
abbrev pub Reads : {A : Type 0} → Result A WordFault → Result A UsageKind → Type 0
Reads (Ok read) order = order ≡ Ok read
Reads (Err (word.Usage kind)) order = order ≡ Err kind
Reads (Err word.Memory) order = Unit {0}

-- why nothing is asked for, as a fault of words
abbrev pub word_fault : AskFault → WordFault
word_fault ask.Words = word.Usage Words
word_fault ask.Memory = word.Memory

-- what is answered where the system gives no words, for an error of this kind: words that are no texts are none that any command takes
abbrev pub refused_words : ErrorKind → Outcome
refused_words OutOfMemory = outcome.Memory
refused_words _ = outcome.Usage Words

abbrev pub has_no_zero : List ℕ → Bool
has_no_zero text = not (has_zero text)

-- a name or a directory of a list
abbrev pub is_item : List ℕ → Bool
is_item text = not (length text == 0) && has_no_zero text

abbrev pub IsSetInRange : SetOptions → Type 0
IsSetInRange set = (has_no_zero set.main ≡ true) × (list_all is_item set.dl ≡ true) × (list_all is_item set.paths ≡ true)

abbrev pub IsLinkInRange : LinkOptions → Type 0
IsLinkInRange link = (1 ≤ link.pages) × (link.pages ≤ 16384) × (16 ≤ link.stack) × (link.stack ≤ 16777216)

abbrev pub AreArgumentsInRange : ℕ → List (List ℕ) → Type 0
AreArgumentsInRange steps args = (steps ≤ 9223372036854775807) × (list_all has_no_zero args ≡ true)

-- there are 1 to 64 main modules
abbrev pub AreMainsInRange : List (List ℕ) → Type 0
AreMainsInRange mains = (1 ≤ length mains) × (length mains ≤ 64) × (list_all has_no_zero mains ≡ true)

abbrev pub AreTurnsInRange : ℕ → ℕ → Type 0
AreTurnsInRange slice turns = (1 ≤ slice) × (slice ≤ 1000000) × (turns ≤ 1048576)

-- an order whose numbers are in their ranges, whose lists have no empty item, and whose texts have no zero character
abbrev pub IsInRange : Order → Type 0
IsInRange (Merge set link out) = IsSetInRange set × IsLinkInRange link × (has_no_zero out ≡ true)
IsInRange (Run set link steps args) = IsSetInRange set × IsLinkInRange link × AreArgumentsInRange steps args
IsInRange (Exec file steps args) = (has_no_zero file ≡ true) × AreArgumentsInRange steps args
IsInRange (Plan set link) = IsSetInRange set × IsLinkInRange link
IsInRange (Gen n pages steps) = (1 ≤ pages) × (pages ≤ 16384) × (steps ≤ 9223372036854775807)
IsInRange (Trace one set link steps out args) = IsSetInRange set × IsLinkInRange link × (has_no_zero out ≡ true) × AreArgumentsInRange steps args
IsInRange (Replay one trace set link steps) = (has_no_zero trace ≡ true) × IsSetInRange set × IsLinkInRange link × (steps ≤ 9223372036854775807)
IsInRange (Snap set link steps out) = IsSetInRange set × IsLinkInRange link × (has_no_zero out ≡ true) × (steps ≤ 9223372036854775807)
IsInRange (Board mains link steps slice turns) = AreMainsInRange mains × IsLinkInRange link × (steps ≤ 9223372036854775807) × AreTurnsInRange slice turns
