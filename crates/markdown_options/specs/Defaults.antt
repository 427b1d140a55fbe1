-- The options that a caller starts from.
use Rattle.std.specs.Prelude.{true, false}
use Rattle.markdown_options.specs.declared.configuration.Constructs.{Constructs}
use Rattle.markdown_options.specs.declared.configuration.ParseOptions.{ParseOptions}

-- every construct off
abbrev pub no_constructs : Constructs
no_constructs = record {
  attention = false;
  autolink = false;
  block_quote = false;
  character_escape = false;
  character_reference = false;
  code_indented = false;
  code_fenced = false;
  code_text = false;
  definition = false;
  frontmatter = false;
  gfm_autolink_literal = false;
  gfm_footnote_definition = false;
  gfm_label_start_footnote = false;
  gfm_strikethrough = false;
  gfm_table = false;
  gfm_task_list_item = false;
  hard_break_escape = false;
  hard_break_trailing = false;
  heading_atx = false;
  heading_setext = false;
  html_flow = false;
  html_text = false;
  label_start_image = false;
  label_start_link = false;
  label_end = false;
  list_item = false;
  mark = false;
  math_flow = false;
  math_text = false;
  mdx_esm = false;
  mdx_expression_flow = false;
  mdx_expression_text = false;
  mdx_jsx_flow = false;
  mdx_jsx_text = false;
  thematic_break = false;
}

-- what CommonMark has
abbrev pub default_constructs : Constructs
default_constructs = record no_constructs {
  attention = true;
  autolink = true;
  block_quote = true;
  character_escape = true;
  character_reference = true;
  code_indented = true;
  code_fenced = true;
  code_text = true;
  definition = true;
  hard_break_escape = true;
  hard_break_trailing = true;
  heading_atx = true;
  heading_setext = true;
  html_flow = true;
  html_text = true;
  label_start_image = true;
  label_start_link = true;
  label_end = true;
  list_item = true;
  thematic_break = true;
}

-- what GFM adds
abbrev pub gfm_constructs : Constructs
gfm_constructs = record default_constructs {
  gfm_autolink_literal = true;
  gfm_footnote_definition = true;
  gfm_label_start_footnote = true;
  gfm_strikethrough = true;
  gfm_table = true;
  gfm_task_list_item = true;
}

-- what MDX has in place of autolinks, indented code and HTML
abbrev pub mdx_constructs : Constructs
mdx_constructs = record default_constructs {
  autolink = false;
  code_indented = false;
  html_flow = false;
  html_text = false;
  mdx_esm = true;
  mdx_expression_flow = true;
  mdx_expression_text = true;
  mdx_jsx_flow = true;
  mdx_jsx_text = true;
}

-- reads what CommonMark has; one tilde and one dollar do
abbrev pub default_parse_options : ParseOptions
default_parse_options = record {
  constructs = default_constructs;
  gfm_strikethrough_single_tilde = true;
  math_text_single_dollar = true;
}

-- reads what GFM has
abbrev pub gfm_parse_options : ParseOptions
gfm_parse_options = record default_parse_options { constructs = gfm_constructs }

-- reads what MDX has
abbrev pub mdx_parse_options : ParseOptions
mdx_parse_options = record default_parse_options { constructs = mdx_constructs }
