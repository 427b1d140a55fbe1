-- The options of numbers: constructs, switches and a line ending.
use Rattle.std.specs.Prelude.{◌≡◌, ◌<◌, ◌^◌, ℕ, if◌then◌else◌, ◌==◌}
use Rattle.markdown_compile_options.specs.declared.configuration.Options.{Options}
use Rattle.markdown_options.specs.declared.configuration.ParseOptions.{ParseOptions}
use Rattle.markdown_options.specs.declared.line_ending.LineEnding.{LineEnding}
use Rattle.markdown_options.specs.declared.line_ending.LineEnding.TheVariants.{CarriageReturn, CarriageReturnLineFeed, LineFeed}
use Rattle.markdown_compile_options.specs.Defaults.{default_compile_options}
use Rattle.markdown_c_options.specs.Constructs.{constructs_of}
use Rattle.markdown_c_options.specs.Flags.{has_flag}

-- 0: a line feed; 1: a carriage return; 2: both
abbrev pub ending_of : ℕ → LineEnding
ending_of number = if number == 0 then LineFeed else (if number == 1 then CarriageReturn else CarriageReturnLineFeed)

-- how a text is read; 32: one tilde strikes text, too; 64: one dollar makes math, too
abbrev pub parse_options_of : ℕ → ℕ → ParseOptions
parse_options_of constructs switches = record {
  constructs = constructs_of constructs;
  gfm_strikethrough_single_tilde = has_flag 32 switches;
  math_text_single_dollar = has_flag 64 switches;
}

-- with the default texts; 1: images may have any protocol; 2: HTML is allowed; 4: links and images may have any protocol;
-- 8: `<` before nine names is text in that HTML; 16: check boxes aren't disabled; 128: headings have ids; 256: images are lazy;
-- 512: HTML is kept by the list
abbrev pub options_of_numbers : ℕ → ℕ → ℕ → Options
options_of_numbers constructs switches ending = record {
  parse = parse_options_of constructs switches;
  compile = record default_compile_options {
    allow_any_img_src = has_flag 1 switches;
    allow_dangerous_html = has_flag 2 switches;
    allow_dangerous_protocol = has_flag 4 switches;
    allow_listed_html = has_flag 512 switches;
    default_line_ending = ending_of ending;
    gfm_tagfilter = has_flag 8 switches;
    gfm_task_list_item_checkable = has_flag 16 switches;
    heading_ids = has_flag 128 switches;
    lazy_images = has_flag 256 switches;
  };
}

-- numbers of options are known
abbrev pub AreNumbers : ℕ → ℕ → ℕ → Type 0
AreNumbers constructs switches ending = (constructs < 2 ^ 30) × (switches < 1024) × (ending < 3)

-- options are those of numbers, with the default texts
abbrev pub MeanNumbers : ℕ → ℕ → ℕ → Options → Type 0
MeanNumbers constructs switches ending options = options ≡ options_of_numbers constructs switches ending
