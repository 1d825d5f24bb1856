-- The text that lists the parts of a capture.
use Rattle.std.specs.Prelude.{ℕ, ◌/◌, List, ◌++◌, length, codes, decimal}
use Rattle.std.specs.List.{flat_map}
use Rattle.stretch.specs.Parts.{Kind, Part, quiet, selected, opened, lone, parts}

-- the word of a kind
abbrev pub word_of : Kind → List ℕ
word_of quiet = codes "quiet"
word_of selected = codes "selected"
word_of opened = codes "open"
word_of lone = codes "lone"

-- a line of a word and two numbers
abbrev pub row_of : List ℕ → ℕ → ℕ → List ℕ
row_of word first count = word ++ codes " " ++ decimal first ++ codes " " ++ decimal count ++ codes "\n"

-- a part's line: its kind, the number of its first record, how many whole records it holds
abbrev pub line_of : Part → List ℕ
line_of p = row_of (word_of p.kind) p.first (length p.bytes / 2)

-- the last line: how many parts and whole records there are
abbrev pub last_line : ℕ → ℕ → List ℕ
last_line count records = decimal count ++ codes " parts, " ++ decimal records ++ codes " records\n"

-- a line for each part of the capture, in order, and the last line
unfoldable pub listing_of : List ℕ → List ℕ
listing_of capture = flat_map line_of (parts capture) ++ last_line (length (parts capture)) (length capture / 2)
