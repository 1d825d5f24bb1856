-- The two lengths of an identification page.
use Rattle.std.specs.Prelude.{ℕ}
use Rattle.rules.specs.declared.state.IdentPage.{IdentPage}
use Rattle.rules.specs.declared.state.IdentPage.TheVariants.{Short, Long}

abbrev pub ident_length : IdentPage → ℕ
ident_length Short = 128
ident_length Long = 256
