-- The options that a sum of flags asks for.
use Rattle.std.specs.Prelude.{ℕ, Bool, ◌≡◌, ◌<◌, ◌==◌, ◌/◌, ◌%◌, if◌then◌else◌}
use Rattle.markdown_options.specs.declared.configuration.Constructs.{Constructs}
use Rattle.markdown_compile_options.specs.declared.configuration.Options.{Options}
use Rattle.markdown_options.specs.declared.configuration.ParseOptions.{ParseOptions}
use Rattle.markdown_options.specs.Defaults.{no_constructs, default_constructs, default_parse_options}
use Rattle.markdown_compile_options.specs.Defaults.{default_compile_options, default_options}

-- whether a flag, which is a power of two, is in a sum of flags
abbrev pub has_flag : ℕ → ℕ → Bool
has_flag flag flags = flags / flag % 2 == 1

-- the constructs of a sum of flags; 2: none is on; 4: strikethrough; 8: math in a text and in blocks; 16: frontmatter; 32: task list items; 64: tables;
-- 128: links with no brackets; 256: footnotes; 1024: marked text
abbrev pub flagged_constructs : ℕ → Constructs
flagged_constructs flags =
    if has_flag 2 flags then no_constructs
    else record default_constructs {
      gfm_autolink_literal = has_flag 128 flags;
      gfm_footnote_definition = has_flag 256 flags;
      gfm_label_start_footnote = has_flag 256 flags;
      gfm_strikethrough = has_flag 4 flags;
      gfm_table = has_flag 64 flags;
      gfm_task_list_item = has_flag 32 flags;
      mark = has_flag 1024 flags;
      math_text = has_flag 8 flags;
      math_flow = has_flag 8 flags;
      frontmatter = has_flag 16 flags;
    }

-- the options of a sum of flags; 1: HTML and every protocol are allowed; 512: `<` before nine names is text in that HTML
abbrev pub flagged_options : ℕ → Options
flagged_options flags = record default_options {
  parse = record default_parse_options { constructs = flagged_constructs flags };
  compile = record default_compile_options {
    allow_dangerous_html = has_flag 1 flags;
    allow_dangerous_protocol = has_flag 1 flags;
    gfm_tagfilter = has_flag 512 flags;
  };
}

-- a number is a sum of flags
abbrev pub AreFlags : ℕ → Type 0
AreFlags flags = flags < 2048

-- options are those of a sum of flags
abbrev pub MeanFlags : ℕ → Options → Type 0
MeanFlags flags options = options ≡ flagged_options flags

-- how a text is read, by a sum of flags
abbrev pub ReadByFlags : ℕ → ParseOptions → Type 0
ReadByFlags flags options = options ≡ (flagged_options flags).parse
