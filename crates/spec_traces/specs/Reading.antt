-- Reading a line of the text of a trace, as functions over lists.
-- Serves the proof of laws: docs/LAWS.md, "One text is of one trace".
use Rattle.std.specs.Prelude.{ℕ, ◌+◌, ◌-◌, ◌*◌, ◌^◌, Bool, true, false, ◌&&◌, ◌||◌, not, List, [], ◌∷◌, codes, Option, Some, None, nat_eq, nat_lt, nat_le, if◌then◌else◌}
use Rattle.std.specs.List.{slice_split, list_all}
use Rattle.std.specs.Char.{is_ascii_digit}
use Rattle.std.specs.Str.{bytes_eq, is_utf8}
use Rattle.std.specs.Str.Parse.{digits_value}
use Rattle.spec_hosts.specs.spec_binary.Options.{◌>>=◌}
use Rattle.spec_hosts.specs.wasm_form.declared.runtime.Trap.{Trap}
use Rattle.spec_hosts.specs.wasm_form.declared.runtime.Trap.TheVariants as trap
use Rattle.dyl_print.specs.Printed.{is_printed, trap_text, end_word}
use Rattle.spec_traces.specs.declared.trace.TraceEnd.{TraceEnd}
use Rattle.spec_traces.specs.declared.trace.TraceEnd.TheVariants as end
use Rattle.spec_traces.specs.declared.line.Line.{Line}
use Rattle.spec_traces.specs.declared.line.Line.TheVariants.{Header, Call, Put, Reply, Exit, End}
use Rattle.spec_traces.specs.Texts.{run_end}

-- ---- words

abbrev pub is_space : ℕ → Bool
is_space b = nat_eq b 0x20

-- the first word of a text, and what stands behind the space that ends it
abbrev pub cut : List ℕ → List ℕ × Option (List ℕ)
cut [] = ([], None)
cut (b ∷ bytes) = if is_space b then ([], Some bytes) else (b ∷ (cut bytes).0, (cut bytes).1)

-- the words of what stands behind a space
abbrev pub words_of : Option (List ℕ) → List (List ℕ)
words_of None = []
words_of (Some text) = slice_split is_space text

-- the first of these whose text it is
abbrev pub named_so : {A : Type 0} → (A → List ℕ) → List A → List ℕ → Option A
named_so text_for [] text = None
named_so text_for (x ∷ xs) text = if bytes_eq text (text_for x) then Some x else named_so text_for xs text

-- ---- numbers

-- it isn't empty, and a zero stands first only where it stands alone
abbrev pub begins_well : List ℕ → Bool
begins_well [] = false
begins_well (b ∷ []) = true
begins_well (b ∷ c ∷ bytes) = not (nat_eq b 0x30)

-- decimal digits without leading zeros
abbrev pub is_number : List ℕ → Bool
is_number word = begins_well word && list_all is_ascii_digit word

-- a number of 64 bits
abbrev pub number_of : List ℕ → Option ℕ
number_of word = if is_number word && nat_lt (digits_value 10 word) (2 ^ 64) then Some (digits_value 10 word) else None

abbrev pub number_below : ℕ → List ℕ → Option ℕ
number_below end word = number_of word >>= λ n. if nat_lt n end then Some n else None

unfoldable pub numbers_of : List (List ℕ) → Option (List ℕ)
numbers_of [] = Some []
numbers_of (word ∷ words) = do
  n ← number_of word
  ns ← numbers_of words
  Some (n ∷ ns)

-- ---- bytes

-- the number of a lower-case hexadecimal digit
abbrev pub digit_of : ℕ → Option ℕ
digit_of c =
    if nat_le 0x30 c && nat_le c 0x39 then Some (c - 0x30)
    else if nat_le 0x61 c && nat_le c 0x66 then Some (c - 0x57)
    else None

abbrev pub byte_of : ℕ → ℕ → Option ℕ
byte_of high low = do
  h ← digit_of high
  l ← digit_of low
  Some (h * 16 + l)

-- the byte of the two digits at the front of a word, and what stands behind them
abbrev pub front_byte : List ℕ → Option (ℕ × List ℕ)
front_byte [] = None
front_byte (high ∷ []) = None
front_byte (high ∷ low ∷ word) = byte_of high low >>= λ b. Some (b, word)

-- a byte in front of what is read behind it
abbrev pub behind_byte : ℕ → Option (List ℕ) → Option (List ℕ)
behind_byte b rest = rest >>= λ bytes. Some (b ∷ bytes)

unfoldable pub digits_as_bytes : List ℕ → Option (List ℕ)
digits_as_bytes [] = Some []
digits_as_bytes (high ∷ []) = None
digits_as_bytes (high ∷ low ∷ word) = byte_of high low >>= λ b. behind_byte b (digits_as_bytes word)

-- of one byte or more
abbrev pub some_bytes : List ℕ → Option (List ℕ)
some_bytes [] = None
some_bytes (c ∷ word) = digits_as_bytes (c ∷ word)

abbrev pub bytes_of : List ℕ → Option (List ℕ)
bytes_of word = if bytes_eq word (codes "-") then Some [] else some_bytes word

-- ---- names

-- a byte that isn't printed as it is, by its digits
abbrev pub hidden_byte : ℕ → ℕ → Option ℕ
hidden_byte high low = byte_of high low >>= λ b. if is_printed b then None else Some b

-- the byte behind a backslash, and what stands behind its digits
abbrev pub hidden_front : List ℕ → Option (ℕ × List ℕ)
hidden_front [] = None
hidden_front (c ∷ []) = None
hidden_front (c ∷ d ∷ word) = hidden_byte c d >>= λ x. Some (x, word)

-- the byte that the front of a word stands for, and what stands behind it
abbrev pub front_of : List ℕ → Option (ℕ × List ℕ)
front_of [] = None
front_of (b ∷ word) =
    if nat_eq b 0x5C then hidden_front word
    else if is_printed b then Some (b, word)
    else None

abbrev pub behind_printed : ℕ → Option (List ℕ) → Option (List ℕ)
behind_printed b rest = if is_printed b then behind_byte b rest else None

unfoldable pub unescaped : List ℕ → Option (List ℕ)
unescaped [] = Some []
unescaped (b ∷ []) = if nat_eq b 0x5C then None else behind_printed b (Some [])
unescaped (b ∷ c ∷ []) = if nat_eq b 0x5C then None else behind_printed b (unescaped (c ∷ []))
unescaped (b ∷ c ∷ d ∷ word) = if nat_eq b 0x5C then (hidden_byte c d >>= λ x. behind_byte x (unescaped word)) else behind_printed b (unescaped (c ∷ d ∷ word))

-- a text in UTF-8
abbrev pub name_of : List ℕ → Option (List ℕ)
name_of word = unescaped word >>= λ name. if is_utf8 name then Some name else None

-- ---- ends of runs

abbrev pub traps : List Trap
traps = trap.Unreachable ∷ trap.MemoryBounds ∷ trap.TableBounds ∷ trap.NullEntry ∷ trap.WrongType ∷ trap.DivideByZero ∷ trap.Overflow ∷ []

abbrev pub trap_of : List ℕ → Option Trap
trap_of text = named_so trap_text traps text

-- the ends that are told by one word
abbrev pub plain_ends : List TraceEnd
plain_ends = end.Return ∷ end.StepLimit ∷ end.DepthLimit ∷ end.HostCallLimit ∷ []

abbrev pub end_by : List ℕ → Option (List ℕ) → Option TraceEnd
end_by word None = named_so (λ how. end_word (run_end how)) plain_ends word
end_by word (Some rest) =
    if bytes_eq word (codes "exit") then (number_below (2 ^ 32) rest >>= λ code. Some (end.Exit code))
    else if bytes_eq word (codes "trap") then (trap_of rest >>= λ why. Some (end.Trap why))
    else None

unfoldable pub end_of : List ℕ → Option TraceEnd
end_of text = end_by (cut text).0 (cut text).1

-- ---- lines, by what stands behind their first word

abbrev pub read_header : List ℕ → Option Line
read_header text = if bytes_eq text (codes "1") then Some Header else None

unfoldable pub read_call : List (List ℕ) → Option Line
read_call [] = None
read_call (steps ∷ []) = None
read_call (steps ∷ from ∷ []) = None
read_call (steps ∷ from ∷ name ∷ args) = do
  n ← number_below (2 ^ 63) steps
  m ← name_of from
  f ← name_of name
  ns ← numbers_of args
  Some (Call (record { steps = n; «module» = m; name = f; args = ns }))

unfoldable pub read_put : List (List ℕ) → Option Line
read_put [] = None
read_put (at ∷ []) = None
read_put (at ∷ word ∷ []) = do
  n ← number_below (2 ^ 32) at
  bytes ← bytes_of word
  Some (Put (record { at = n; bytes = bytes }))
read_put (at ∷ word ∷ more ∷ words) = None

unfoldable pub read_reply : List (List ℕ) → Option Line
read_reply words = numbers_of words >>= λ results. Some (Reply results)

unfoldable pub read_exit : List (List ℕ) → Option Line
read_exit [] = None
read_exit (code ∷ []) = number_below (2 ^ 32) code >>= λ n. Some (Exit n)
read_exit (code ∷ more ∷ words) = None

abbrev pub read_ending : List ℕ → Option (List ℕ) → Option Line
read_ending steps None = None
read_ending steps (Some text) = do
  n ← number_below (2 ^ 63) steps
  how ← end_of text
  Some (End n how)

unfoldable pub read_end : List ℕ → Option Line
read_end text = read_ending (cut text).0 (cut text).1

-- behind these first words stand words
abbrev pub has_words : List ℕ → Bool
has_words word = bytes_eq word (codes "call") || bytes_eq word (codes "put") || bytes_eq word (codes "reply") || bytes_eq word (codes "exit")

abbrev pub words_line : List ℕ → List (List ℕ) → Option Line
words_line word words =
    if bytes_eq word (codes "call") then read_call words
    else if bytes_eq word (codes "put") then read_put words
    else if bytes_eq word (codes "reply") then read_reply words
    else if bytes_eq word (codes "exit") then read_exit words
    else None

-- and behind these a text
abbrev pub text_line : List ℕ → Option (List ℕ) → Option Line
text_line word None = None
text_line word (Some text) =
    if bytes_eq word (codes "end") then read_end text
    else if bytes_eq word (codes "trace") then read_header text
    else None

abbrev pub line_by : List ℕ → Option (List ℕ) → Option Line
line_by word rest = if has_words word then words_line word (words_of rest) else text_line word rest

-- what a line says, if a line is read so
unfoldable pub line_of : List ℕ → Option Line
line_of text = line_by (cut text).0 (cut text).1
