-- What a writer holds after one text more.
use Rattle.std.proofs.Common.{◌≡◌, ℕ, ◌+◌, List, ◌++◌, ap, ◌∙◌}
use Rattle.text.specs.declared.writer.Writer.{Writer}
use Rattle.text.specs.Text.{laid, fitted, Lays}
use Rattle.text.specs.Writers.{Holds, Wrote}
use Rattle.text.proofs.Laying.{overlaid_more, fitted_more}

holds_more : (b t u : List ℕ) (w v : Writer) → Holds b t w → v.out.now ≡ laid w.out.now w.at u → v.at ≡ w.at + fitted w.out.now w.at u → Holds b (t ++ u) v
holds_more b t u w v h e f =
    record {
      buffer = e ∙ ap (λ xs. laid xs w.at u) h.buffer ∙ overlaid_more b t u w.at h.place;
      place = f ∙ ap (λ xs. w.at + fitted xs w.at u) h.buffer ∙ fitted_more b t u w.at h.place;
    }

-- a writer whose buffer a text was laid into, and whose place went on by what found room
pub wrote_laid : (w v : Writer) (u : List ℕ) (n : ℕ) → Lays w.out.now w.at u n v.out.now → v.at ≡ w.at + n → v.out.ghost_name ≡ w.out.ghost_name → Wrote w u v
wrote_laid w v u n l e k =
    let f = e ∙ ap (λ m. w.at + m) l.wrote in
    record {
      buffer = l.buffer;
      place = f;
      kept = k;
      holds = λ b t h. holds_more b t u w v h l.buffer f;
    }
