-- The options that flags ask for.
use Rattle.std.specs.Prelude.{◌≡◌, Bool, false, if◌then◌else◌, List, Option, None, codes, option_map, string_bytes}
use Rattle.std.specs.Option.{option_map_or}
use Rattle.std.specs.Str.{bytes_eq}
use Rattle.clap.specs.Words.{Row, Text, first_of}
use Rattle.markdown_compile_options.specs.declared.configuration.CompileOptions.{CompileOptions}
use Rattle.markdown_options.specs.declared.configuration.Constructs.{Constructs}
use Rattle.markdown_compile_options.specs.declared.configuration.Options.{Options}
use Rattle.markdown_options.specs.declared.configuration.ParseOptions.{ParseOptions}
use Rattle.markdown_options.specs.Defaults.{default_constructs, default_parse_options, gfm_constructs, no_constructs}
use Rattle.markdown_compile_options.specs.Defaults.{default_compile_options, gfm_compile_options}
use Rattle.markdown_settings.specs.declared.flags.Flags.{Flags}

-- the value of a flag that is set
abbrev pub is_true_text : Option Text → Bool
is_true_text text = option_map_or (λ t. bytes_eq t (codes "true")) text false

-- whether a flag is set in the matches
abbrev pub is_set : Text → List Row → Bool
is_set name rows = is_true_text (first_of name rows)

-- the flags that are set in the matches
abbrev pub flags_in : List Row → Flags
flags_in rows = record {
  gfm = is_set (codes "gfm") rows;
  mark = is_set (codes "mark") rows;
  math = is_set (codes "math") rows;
  frontmatter = is_set (codes "frontmatter") rows;
  heading_ids = is_set (codes "heading-ids") rows;
  lazy_images = is_set (codes "lazy-images") rows;
  listed_html = is_set (codes "listed-html") rows;
  dangerous = is_set (codes "dangerous") rows;
  plain = is_set (codes "plain") rows;
}

-- `--gfm` turns GitHub's constructs on, `--mark`, `--math` and `--frontmatter` an extension each; `--plain` turns every construct off
abbrev pub constructs_of : Flags → Constructs
constructs_of flags =
    if flags.plain then no_constructs
    else record (if flags.gfm then gfm_constructs else default_constructs) {
      frontmatter = flags.frontmatter;
      mark = flags.mark;
      math_flow = flags.math;
      math_text = flags.math;
    }

-- the rest of reading is the default
abbrev pub parse_of : Flags → ParseOptions
parse_of flags = record default_parse_options { constructs = constructs_of flags }

-- what GitHub prints, or what is printed by default
abbrev pub printed_as : Bool → CompileOptions
printed_as gfm = if gfm then gfm_compile_options else default_compile_options

-- `--dangerous` allows HTML of the text and every protocol; `--listed-html` keeps HTML by the list; `--heading-ids` gives headings ids, and
-- `--lazy-images` makes images lazy
abbrev pub compile_of : Flags → CompileOptions
compile_of flags = record (printed_as flags.gfm) {
  allow_dangerous_html = flags.dangerous;
  allow_dangerous_protocol = flags.dangerous;
  allow_listed_html = flags.listed_html;
  heading_ids = flags.heading_ids;
  lazy_images = flags.lazy_images;
}

-- the options of flags, with the default texts
abbrev pub flag_options : Flags → Options
flag_options flags = record { parse = parse_of flags; compile = compile_of flags }

-- options with the default texts in place of those that words may give
abbrev pub without_texts : Options → Options
without_texts options = record options {
  compile = record options.compile {
    heading_id_prefix = None;
    image_base = None;
    link_base = None;
    link_rel = None;
  };
}

-- options are those of matches: of their flags, with their texts
pub record MeanRows (rows : List Row) (options : Options) : Type 0 where
  pub flags : without_texts options ≡ flag_options (flags_in rows)
  pub id_prefix : option_map string_bytes options.compile.heading_id_prefix ≡ first_of (codes "heading-id-prefix") rows
  pub link_base : option_map string_bytes options.compile.link_base ≡ first_of (codes "link-base") rows
  pub image_base : option_map string_bytes options.compile.image_base ≡ first_of (codes "image-base") rows
  pub link_rel : option_map string_bytes options.compile.link_rel ≡ first_of (codes "link-rel") rows
