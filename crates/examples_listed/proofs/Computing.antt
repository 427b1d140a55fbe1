-- What the pass over HTML unfolds.
use Rattle.std.specs.Char.{encode_utf8}
use Rattle.definition_page.specs.Urls.{href_protocols, src_protocols}
use Rattle.definition_html.specs.Listing.{void_names, heading_names, free_names, part_rows, frame_names, listed_attributes}

-- `unfolding lists` lets `refl` compute what is made of HTML
unfoldable pub lists : Unit {0}
unfolding encode_utf8 href_protocols src_protocols void_names heading_names free_names part_rows frame_names listed_attributes
lists = tt
