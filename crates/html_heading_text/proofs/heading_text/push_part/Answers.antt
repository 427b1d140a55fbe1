use Rattle.std.proofs.Common.{◌≡◌, ◌++◌, List, ℕ, OnOk, string_bytes, sym, ap, ◌∙◌, subst}
use Rattle.std.specs.List.{flat_map}
use Rattle.inline_leaves.specs.Leaves.{parts_of}
use Rattle.inline_leaves.specs.declared.leaf.LeafPart.{LeafPart}
use Rattle.html_heading_text.specs.HeadingLines.{leaf_says}
use Rattle.html_heading_text.proofs.HeadingTexts.{data_said, escapes_said}
use Rattle.html_heading_text.proofs.heading_text.push_part.Goals as goal

pub returns-in-Escape : goal.returns-in-Escape
returns-in-Escape g c =
    let endings = c.args.endings in
    subst (λ (s : List ℕ). OnOk c.push_raw.result (string_bytes c.push_raw.new.out ≡ string_bytes c.args.out.now ++ s))
    (sym (ap (λ (p : LeafPart). flat_map (leaf_says endings) (parts_of p)) c.in-Escape.is ∙ escapes_said endings c.in-Escape.text.now)) c.push_raw.ensures

pub returns-in-Unclosed : goal.returns-in-Unclosed
returns-in-Unclosed g c =
    let endings = c.args.endings in
    subst (λ (s : List ℕ). OnOk c.push_raw-in-Unclosed.result (string_bytes c.push_raw-in-Unclosed.new.out ≡ string_bytes c.args.out.now ++ s))
    (sym (ap (λ (p : LeafPart). flat_map (leaf_says endings) (parts_of p)) c.in-Unclosed.is ∙ data_said endings c.in-Unclosed.text.now))
    c.push_raw-in-Unclosed.ensures
