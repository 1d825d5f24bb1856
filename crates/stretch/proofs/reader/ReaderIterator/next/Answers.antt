use Rattle.std.proofs.Common.{◌/◌, length, sym, refl, ap, ◌∙◌, arith, rules}
use Rattle.std.proofs.lemmas.List.{length-drop, take_rest}
use Rattle.stretch.specs.Reads.{shown_as}
use Rattle.stretch.proofs.Cuts.{handed, parts_none, shown_bytes}
use Rattle.stretch.proofs.reader.ReaderIterator.next.Goals as goal

pub returns-then-place-capture-clause-steps : goal.returns-then-place-capture-clause-steps
returns-then-place-capture-clause-steps c =
    (parts_none _ _ (omega (arith, length-drop c.args.self.now.place c.args.self.now.capture.now)), refl)

pub returns : goal.returns
returns c =
    let n = c.args.self.now.place / 2 in
    let s = c.first_part-stretch.result in
    let h = handed _ _ _ (shown_as n s) _ (take_rest c.args.self.now.capture.now c.args.self.now.place) c.if-place-capture.false (c.first_part-stretch.ensures n) (ap length (c.bytes.ensures ∙ sym (shown_bytes n s))) in
    record { steps = h.0; goes = search rules }
