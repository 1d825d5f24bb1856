-- What the contracts of a writer say of the buffer that it writes to.
use Rattle.std.specs.Prelude.{◌≡◌, ℕ, ◌+◌, min, List, ◌++◌, length}
use Rattle.text.specs.declared.writer.Writer.{Writer}
use Rattle.text.specs.Text.{overlaid, laid, fitted}

-- a writer over a buffer that first held b, after the text t
pub record Holds (b t : List ℕ) (w : Writer) : Type 0 where
  -- the buffer under the text so far
  pub buffer : w.out.now ≡ overlaid b t
  -- where the next byte goes
  pub place : w.at ≡ min (length t) (length b)

-- a writer before and after it wrote a text
pub record Wrote (before : Writer) (text : List ℕ) (after : Writer) : Type 0 where
  -- the text is laid where the next byte went
  pub buffer : after.out.now ≡ laid before.out.now before.at text
  -- the next byte goes behind what found room
  pub place : after.at ≡ before.at + fitted before.out.now before.at text
  -- it is still the same buffer
  pub kept : after.out.ghost_name ≡ before.out.ghost_name
  -- after the text t it holds t and this text
  pub holds : (b t : List ℕ) → Holds b t before → Holds b (t ++ text) after
