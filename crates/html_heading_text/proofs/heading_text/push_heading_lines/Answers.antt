use Rattle.std.proofs.Common.{◌≡◌, ◌++◌, ◌∙◌, List, ℕ, OnOk, string_bytes, ap, subst}
use Rattle.html_heading_text.specs.HeadingRows.{rows_say}
use Rattle.html_heading_text.proofs.HeadingTexts.{said_law}
use Rattle.html_heading_text.specs.declared.heading_text.Endings.TheVariants.{Kept}
use Rattle.html_heading_text.proofs.heading_text.push_heading_lines.Goals as goal

pub returns : goal.returns
returns g c = λ at leads is rows.
    subst (λ (s : List ℕ). OnOk c.push_rows.result (string_bytes c.push_rows.new.out ≡ string_bytes c.args.out.now ++ s))
    (ap (rows_say Kept 0) rows ∙ said_law Kept leads is) (c.push_rows.ensures at)
