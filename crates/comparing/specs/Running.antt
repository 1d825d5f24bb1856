-- What a capture on a new bench part comes to.
use Rattle.std.specs.Prelude.{ℕ, List}
use Rattle.rules.specs.Rules.{born}
use Rattle.rules.specs.Calls.{Outcome, outcome, capture}
use Rattle.laws.specs.Bench.{bench, fresh}

-- on a part with the cells of this row; room is the length of the answer buffer
unfoldable pub ran_on : (row records : List ℕ) (room : ℕ) → Outcome
ran_on row records room = outcome bench (born bench row) (capture records room)

-- on a delivered part
unfoldable pub ran : (records : List ℕ) (room : ℕ) → Outcome
ran records room = outcome bench fresh (capture records room)
