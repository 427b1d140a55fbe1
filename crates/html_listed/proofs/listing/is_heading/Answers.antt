use Rattle.std.proofs.Common.{ap, codes, sym, ◌∙◌}
use Rattle.definition_text.specs.Bytes.{begins_with}
use Rattle.definition_html.specs.Listing.{heading_names}
use Rattle.html_listed.proofs.ListedNames.{no_heading}
use Rattle.html_listed.proofs.listing.is_heading.Goals as goal

pub returns-then-starts_with : goal.returns-then-starts_with
unfolding heading_names
returns-then-starts_with c = c.is_in.ensures

pub returns-else-starts_with : goal.returns-else-starts_with
returns-else-starts_with c =
    c.if-starts_with.false
    ∙ no_heading c.args.name.now
    (ap (begins_with (codes "h")) (sym c.as_bytes.ensures.value) ∙ sym c.starts_with.ensures.value ∙ c.if-starts_with.false)
