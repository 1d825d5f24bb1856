use Rattle.std.proofs.Common.{◌≡◌, [], Err, arith}
use Rattle.std.proofs.lemmas.List.{length-take}
use Rattle.edges_text.specs.Edges.{lines, ran, edges_of}
use Rattle.edges_text.proofs.Lines.{long_text, ran_text}
use Rattle.edges_text.proofs.Taking.{levels_taken, room_taken, answers_taken}
use Rattle.edges_text.proofs.edges.Goals as goal

pub returns-then-input-gt-MOST : goal.returns-then-input-gt-MOST
returns-then-input-gt-MOST c =
    let same : lines [] (Err c.from.result) ≡ edges_of c.args.input.now = rw c.from.ensures (long_text c.args.input.now (omega arith)) in
    rw (← same) c.tell.ensures

pub slice_bounds-answers-end : goal.slice_bounds-answers-end
slice_bounds-answers-end c =
    let n = levels_taken c.args.input.now c.run-says.result c.taken.result c.run-says.ensures.says c.taken.ensures in
    let room = room_taken c.args.input.now c.taken.result n c.if-input-gt-MOST.false in
    omega arith

pub slice_bounds-letters-end : goal.slice_bounds-letters-end
slice_bounds-letters-end c =
    let n = levels_taken c.args.input.now c.run-says.result c.taken.result c.run-says.ensures.says c.taken.ensures in
    let room = room_taken c.args.input.now c.taken.result n c.if-input-gt-MOST.false in
    omega (arith, length-take c.taken.result c.run-says.new.answers)

pub returns : goal.returns
returns c =
    let n = levels_taken c.args.input.now c.run-says.result c.taken.result c.run-says.ensures.says c.taken.ensures in
    let taken = answers_taken (ran c.args.input.now).levels c.run-says.new.answers _ c.taken.result c.run-says.ensures.answers n in
    let letters = c.spell.ensures (ran c.args.input.now).levels taken in
    let same = ran_text c.args.input.now _ c.run-says.result c.if-input-gt-MOST.false letters c.run-says.ensures.says in
    rw (← same) c.tell-2.ensures
