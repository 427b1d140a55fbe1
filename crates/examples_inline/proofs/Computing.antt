-- What a page unfolds.
use Rattle.std.specs.Char.{encode_utf8}
use Rattle.std.specs.Fmt.{digits}
use Rattle.std.specs.Str.{chars, is_utf8}
use Rattle.std.specs.Str.Lossy.{utf8_valid_len, utf8_lossy}
use Rattle.std.proofs.UnicodeAscii.{unicode_tables}
use Rattle.caseless.proofs.Computing.{caseless}
use Rattle.ucd_perl.proofs.Computing.{ucd_perl}
use Rattle.ucd_props.proofs.Computing.{ucd_props}
use Rattle.definition_block.specs.HtmlNames.{raw_names, block_names}
use Rattle.definition_page.specs.GfmTagfilter.{filtered_names}
use Rattle.definition_page.specs.Urls.{href_protocols, src_protocols}
use Rattle.definition_html.specs.Listing.{void_names, heading_names, free_names, part_rows, frame_names, listed_attributes}

-- `unfolding pages` lets `refl` compute a page
unfoldable pub pages : Unit {0}
unfolding digits encode_utf8 chars is_utf8 utf8_valid_len utf8_lossy caseless raw_names block_names filtered_names href_protocols src_protocols
pages = tt

-- `unfolding page_ids` lets it compute one with ids of headings
unfoldable pub page_ids : Unit {0}
unfolding pages unicode_tables ucd_perl ucd_props
page_ids = tt

-- `unfolding listed_pages` lets it compute one whose raw HTML is kept by the list
unfoldable pub listed_pages : Unit {0}
unfolding pages void_names heading_names free_names part_rows frame_names listed_attributes
listed_pages = tt
