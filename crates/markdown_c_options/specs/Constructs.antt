-- The constructs of a sum of their numbers.
use Rattle.std.specs.Prelude.{ℕ}
use Rattle.markdown_options.specs.declared.configuration.Constructs.{Constructs}
use Rattle.markdown_options.specs.Defaults.{no_constructs}
use Rattle.markdown_c_options.specs.Flags.{has_flag}

-- the constructs of a sum, whose numbers are powers of two; none of MDX has one
abbrev pub constructs_of : ℕ → Constructs
constructs_of sum = record no_constructs {
  attention = has_flag 1 sum;
  autolink = has_flag 2 sum;
  block_quote = has_flag 4 sum;
  character_escape = has_flag 8 sum;
  character_reference = has_flag 16 sum;
  code_indented = has_flag 32 sum;
  code_fenced = has_flag 64 sum;
  code_text = has_flag 128 sum;
  definition = has_flag 256 sum;
  frontmatter = has_flag 512 sum;
  gfm_autolink_literal = has_flag 1024 sum;
  gfm_footnote_definition = has_flag 2048 sum;
  gfm_label_start_footnote = has_flag 4096 sum;
  gfm_strikethrough = has_flag 8192 sum;
  gfm_table = has_flag 16384 sum;
  gfm_task_list_item = has_flag 32768 sum;
  hard_break_escape = has_flag 65536 sum;
  hard_break_trailing = has_flag 131072 sum;
  heading_atx = has_flag 262144 sum;
  heading_setext = has_flag 524288 sum;
  html_flow = has_flag 1048576 sum;
  html_text = has_flag 2097152 sum;
  label_start_image = has_flag 4194304 sum;
  label_start_link = has_flag 8388608 sum;
  label_end = has_flag 16777216 sum;
  list_item = has_flag 33554432 sum;
  mark = has_flag 67108864 sum;
  math_flow = has_flag 134217728 sum;
  math_text = has_flag 268435456 sum;
  thematic_break = has_flag 536870912 sum;
}
