use Rattle.std.proofs.Common.{◌∙◌, ap}
use Rattle.std.specs.Option.{option_copied, option_or}
use Rattle.definition_html.specs.Listing.{free_names, heading_names, void_names}
use Rattle.html_safe_page.proofs.Passed.{copied_any}
use Rattle.html_listed.proofs.ListedNames.{part_names}
use Rattle.html_sanitizer.specs.Listing.{found_name}
use Rattle.html_sanitizer.proofs.ListedNames.{found_listed}
use Rattle.html_sanitizer.proofs.listing.listed_name.Goals as goal

pub returns : goal.returns
unfolding free_names heading_names void_names part_names
returns c =
    let written = c.args.written.now in
    ap option_copied (c.or-3.ensures ∙ ap (λ x. option_or x c.find_name-4.result) (c.or-2.ensures ∙ ap (λ x. option_or x c.find_name-3.result) c.or.ensures))
    ∙ copied_any c.find_name.result c.find_name-2.result c.find_name-3.result c.find_name-4.result (found_name free_names written)
    (found_name heading_names written) (found_name void_names written) (found_name part_names written) c.find_name.ensures c.find_name-2.ensures
    c.find_name-3.ensures c.find_name-4.ensures
    ∙ found_listed written
