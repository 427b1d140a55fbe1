use Rattle.std.proofs.Common.{true, false, refl, sym, ◌∙◌}
use Rattle.definition_html.specs.Listing.{is_in, free_names, heading_names, void_names}
use Rattle.html_listed.proofs.ListedNames.{part_names, listed_by}
use Rattle.html_listed.proofs.listing.is_listed.Goals as goal

pub returns-then-free : goal.returns-then-free
unfolding free_names
returns-then-free c =
    let name = c.args.name.now in
    listed_by name true (is_in heading_names name) (is_in void_names name) (is_in part_names name) (sym c.if-free.true ∙ c.is_in-free.ensures) refl refl refl

pub returns-then-heading : goal.returns-then-heading
unfolding free_names
returns-then-heading c =
    let name = c.args.name.now in
    listed_by name false true (is_in void_names name) (is_in part_names name) (sym c.if-free.false ∙ c.is_in-free.ensures)
    (sym c.if-heading.true ∙ c.is_heading-heading.ensures) refl refl

pub returns-then-void : goal.returns-then-void
unfolding free_names void_names
returns-then-void c =
    let name = c.args.name.now in
    listed_by name false false true (is_in part_names name) (sym c.if-free.false ∙ c.is_in-free.ensures)
    (sym c.if-heading.false ∙ c.is_heading-heading.ensures) (sym c.if-void.true ∙ c.is_in-void.ensures) refl

pub returns : goal.returns
unfolding free_names void_names part_names
returns c =
    let name = c.args.name.now in
    listed_by name false false false c.is_in.result (sym c.if-free.false ∙ c.is_in-free.ensures)
    (sym c.if-heading.false ∙ c.is_heading-heading.ensures) (sym c.if-void.false ∙ c.is_in-void.ensures) c.is_in.ensures
