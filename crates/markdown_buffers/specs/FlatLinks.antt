-- Links as C reads them.
use Rattle.std.specs.Prelude.{ℕ, ◌-◌, unwrap_or}
use Rattle.markdown_links.specs.declared.kind.LinkKind.{LinkKind}
use Rattle.markdown_links.specs.declared.kind.LinkKind.TheVariants as kinds
use Rattle.markdown_links.specs.declared.link.Link.{Link}
use Rattle.markdown_buffers.specs.declared.flat_link.FlatLink.{FlatLink}

abbrev pub kind_number : LinkKind → ℕ
kind_number kinds.Link = 0
kind_number kinds.Image = 1
kind_number kinds.Autolink = 2
kind_number kinds.Literal = 3
kind_number kinds.Definition = 4

-- the definition of a link that has none
abbrev pub no_definition : ℕ
no_definition = 18446744073709551615

abbrev pub flat_link : Link → FlatLink
flat_link l = record {
  offset = l.start.index;
  line = l.start.line;
  column = l.start.column;
  end_offset = l.end.index;
  end_line = l.end.line;
  end_column = l.end.column;
  event = l.event;
  destination = l.destination.start;
  destination_size = l.destination.end - l.destination.start;
  definition = unwrap_or l.definition no_definition;
  kind = kind_number l.kind;
}
