-- The options that matches of the command stand for.
use Rattle.std.proofs.Common.{◌≡◌, Bool, true, false, refl, List, ap, ◌∙◌, codes, option_map, string_bytes}
use Rattle.clap.specs.Words.{Row, first_of}
use Rattle.markdown_compile_options.specs.declared.configuration.Options.{Options}
use Rattle.markdown_compile_options.specs.declared.configuration.CompileOptions.{CompileOptions}
use Rattle.markdown_options.specs.declared.configuration.ParseOptions.{ParseOptions}
use Rattle.markdown_settings.specs.declared.flags.Flags.{Flags}
use Rattle.markdown_settings.specs.Flags.{flag_options, flags_in, parse_of, printed_as, without_texts, MeanRows}

-- options of printing by flags
abbrev printed : (gfm dangerous listed_html heading_ids lazy_images : Bool) → CompileOptions
printed gfm dangerous listed_html heading_ids lazy_images = record (printed_as gfm) {
  allow_dangerous_html = dangerous;
  allow_dangerous_protocol = dangerous;
  allow_listed_html = listed_html;
  heading_ids = heading_ids;
  lazy_images = lazy_images;
}

abbrev both : ParseOptions → CompileOptions → Options
both parse compile = record { parse = parse; compile = compile }

-- flags give no texts
no_texts : (parse : ParseOptions) (gfm dangerous listed_html heading_ids lazy_images : Bool)
    → without_texts (both parse (printed gfm dangerous listed_html heading_ids lazy_images))
    ≡ both parse (printed gfm dangerous listed_html heading_ids lazy_images)
no_texts parse true dangerous listed_html heading_ids lazy_images = refl
no_texts parse false dangerous listed_html heading_ids lazy_images = refl

flags_only : (flags : Flags) → without_texts (flag_options flags) ≡ flag_options flags
flags_only flags = no_texts (parse_of flags) flags.gfm flags.dangerous flags.listed_html flags.heading_ids flags.lazy_images

-- those of their flags, once they have their texts
pub mean : (rows : List Row) (first options : Options) → first ≡ flag_options (flags_in rows) → without_texts options ≡ without_texts first
    → option_map string_bytes options.compile.heading_id_prefix ≡ first_of (codes "heading-id-prefix") rows
    → option_map string_bytes options.compile.link_base ≡ first_of (codes "link-base") rows
    → option_map string_bytes options.compile.image_base ≡ first_of (codes "image-base") rows
    → option_map string_bytes options.compile.link_rel ≡ first_of (codes "link-rel") rows
    → MeanRows rows options
mean rows first options is same prefix base images rel = record {
  flags = same ∙ ap without_texts is ∙ flags_only (flags_in rows);
  id_prefix = prefix;
  link_base = base;
  image_base = images;
  link_rel = rel;
}
