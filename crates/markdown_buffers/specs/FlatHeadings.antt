-- Headings as C reads them.
use Rattle.std.specs.Prelude.{◌-◌}
use Rattle.markdown_outline.specs.declared.heading.Heading.{Heading}
use Rattle.markdown_buffers.specs.declared.flat_heading.FlatHeading.{FlatHeading}

abbrev pub flat_heading : Heading → FlatHeading
flat_heading h = record {
  offset = h.start.index;
  line = h.start.line;
  column = h.start.column;
  end_offset = h.end.index;
  end_line = h.end.line;
  end_column = h.end.column;
  event = h.event;
  text = h.text.start;
  text_size = h.text.end - h.text.start;
  slug = h.slug.start;
  slug_size = h.slug.end - h.slug.start;
  rank = h.rank;
}
