use Rattle.std.proofs.Common.{◌≡◌, ◌++◌, ◌∙◌, List, ℕ, OnOk, string_bytes, ap, subst}
use Rattle.html_heading_text.specs.HeadingRows.{rows_say}
use Rattle.html_heading_text.proofs.HeadingTexts.{said_law, text_same}
use Rattle.html_heading_text.specs.declared.heading_text.Endings.TheVariants.{Dropped}
use Rattle.html_heading_text.proofs.heading_text.push_heading_text.Goals as goal

pub returns : goal.returns
returns g c = λ at leads is rows.
    subst (λ (s : List ℕ). OnOk c.push_rows.result (string_bytes c.push_rows.new.out ≡ string_bytes c.args.out.now ++ s))
    (ap (rows_say Dropped 0) rows ∙ said_law Dropped leads is ∙ text_same is) (c.push_rows.ensures at)
