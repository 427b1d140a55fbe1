-- The sets of constructs that documents are compared by.
use Rattle.std.specs.Prelude.{true, None}
use Rattle.markdown_options.specs.declared.configuration.Constructs.{Constructs}
use Rattle.markdown_compile_options.specs.declared.configuration.Options.{Options}
use Rattle.markdown_options.specs.Defaults.{default_constructs, gfm_constructs}

-- every construct but those of MDX
abbrev pub every_construct : Constructs
every_construct = record gfm_constructs { frontmatter = true; mark = true; math_flow = true; math_text = true }

-- those of CommonMark, with tables and footnotes if these are given
abbrev pub plain_constructs : Constructs → Constructs
plain_constructs given = record default_constructs {
  gfm_footnote_definition = given.gfm_footnote_definition;
  gfm_label_start_footnote = given.gfm_label_start_footnote;
  gfm_table = given.gfm_table;
}

-- the same options with these constructs, and with the default texts
abbrev pub by_constructs : Constructs → Options → Options
by_constructs on options = record {
  parse = record options.parse { constructs = on };
  compile = record options.compile {
    gfm_footnote_back_label = None;
    gfm_footnote_clobber_prefix = None;
    gfm_footnote_label = None;
    gfm_footnote_label_attributes = None;
    gfm_footnote_label_tag_name = None;
    heading_id_prefix = None;
    image_base = None;
    link_base = None;
    link_rel = None;
  };
}

abbrev pub by_every : Options → Options
by_every options = by_constructs every_construct options

abbrev pub by_plain : Options → Options
by_plain options = by_constructs (plain_constructs options.parse.constructs) options
