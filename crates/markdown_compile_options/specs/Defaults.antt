-- The options that a caller starts from.
use Rattle.std.specs.Prelude.{true, false, None}
use Rattle.markdown_options.specs.Defaults.{default_parse_options, gfm_parse_options}
use Rattle.markdown_options.specs.declared.line_ending.LineEnding.TheVariants.{LineFeed}
use Rattle.markdown_compile_options.specs.declared.configuration.CompileOptions.{CompileOptions}
use Rattle.markdown_compile_options.specs.declared.configuration.Options.{Options}

-- prints nothing dangerous, line feeds, and no texts of the caller's
abbrev pub default_compile_options : CompileOptions
default_compile_options = record {
  allow_any_img_src = false;
  allow_dangerous_html = false;
  allow_dangerous_protocol = false;
  allow_listed_html = false;
  default_line_ending = LineFeed;
  gfm_footnote_back_label = None;
  gfm_footnote_clobber_prefix = None;
  gfm_footnote_label = None;
  gfm_footnote_label_attributes = None;
  gfm_footnote_label_tag_name = None;
  gfm_tagfilter = false;
  gfm_task_list_item_checkable = false;
  heading_ids = false;
  heading_id_prefix = None;
  image_base = None;
  lazy_images = false;
  link_base = None;
  link_rel = None;
}

-- the same with the tag filter
abbrev pub gfm_compile_options : CompileOptions
gfm_compile_options = record default_compile_options { gfm_tagfilter = true }

-- the defaults of reading and printing
abbrev pub default_options : Options
default_options = record { parse = default_parse_options; compile = default_compile_options }

-- both as GFM has them
abbrev pub gfm_options : Options
gfm_options = record { parse = gfm_parse_options; compile = gfm_compile_options }
