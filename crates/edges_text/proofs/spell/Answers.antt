use Rattle.std.proofs.Common.{arith}
use Rattle.edges_text.proofs.Spelling.{mixed_more, mixed_all}
use Rattle.edges_text.proofs.spell.Goals as goal

pub loop-answer-preserved : goal.loop-answer-preserved
loop-answer-preserved c = λ qs e.
    mixed_more c.loop-answer.answer-index qs c.loop-answer.answers c.letter_of.result (c.loop-answer.invariant qs e) (omega arith) c.letter_of.ensures

pub returns : goal.returns
returns c = λ qs e. mixed_all c.loop-answer.answer-index qs c.loop-answer.answers (c.loop-answer.invariant qs e) (omega arith)
