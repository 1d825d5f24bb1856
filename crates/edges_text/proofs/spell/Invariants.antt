use Rattle.std.proofs.Common.{◌≡◌, List, map}
use Rattle.rules.specs.declared.state.Level.{Level}
use Rattle.rules.specs.Tables.{level_number}
use Rattle.edges_text.proofs.Spelling.{mixed}
use Rattle.edges_text.proofs.spell.Given as goal

abbrev pub invariant-loop-answer : goal.invariant-loop-answer
invariant-loop-answer l = (qs : List Level) → l.initial.answers ≡ map level_number qs → l.answers ≡ mixed l.answer-index qs
