-- Options as C passes them, and what they stand for.
use Rattle.std.specs.Prelude.{◌≡◌, ◌<◌, ◌^◌, ℕ, List, [], codes, if◌then◌else◌, Option, Some, None, option_map, string_bytes, bytes_eq}
use Rattle.std.specs.Str.{IsUtf8}
use Rattle.markdown_compile_options.specs.declared.configuration.Options.{Options}
use Rattle.markdown_options.specs.declared.configuration.ParseOptions.{ParseOptions}
use Rattle.markdown_c_options.specs.declared.flat_options.FlatOptions.{FlatOptions}
use Rattle.markdown_c_options.specs.Switches.{options_of_numbers, parse_options_of}

-- all numbers of options are known, and their texts are UTF-8
pub record IsKnown (flat : FlatOptions) : Type 0 where
  pub size : flat.size ≡ 168
  pub constructs : flat.constructs < 2 ^ 30
  pub switches : flat.switches < 1024
  pub ending : flat.default_line_ending < 3
  pub back_label : IsUtf8 flat.gfm_footnote_back_label.now
  pub clobber_prefix : IsUtf8 flat.gfm_footnote_clobber_prefix.now
  pub label : IsUtf8 flat.gfm_footnote_label.now
  pub label_attributes : IsUtf8 flat.gfm_footnote_label_attributes.now
  pub label_tag_name : IsUtf8 flat.gfm_footnote_label_tag_name.now
  pub id_prefix : IsUtf8 flat.heading_id_prefix.now
  pub link_base : IsUtf8 flat.link_base.now
  pub image_base : IsUtf8 flat.image_base.now
  pub link_rel : IsUtf8 flat.link_rel.now

-- a text of the caller's, unless it is the default one
abbrev pub given_text : List ℕ → List ℕ → Option (List ℕ)
given_text default text = if bytes_eq text default then None else Some text

-- options with the default texts
abbrev pub without_texts : Options → Options
without_texts options = record options {
  compile = record options.compile {
    gfm_footnote_back_label = None;
    gfm_footnote_clobber_prefix = None;
    gfm_footnote_label = None;
    gfm_footnote_label_attributes = None;
    gfm_footnote_label_tag_name = None;
    heading_id_prefix = None;
    image_base = None;
    link_base = None;
    link_rel = None;
  };
}

-- the options that are meant
pub record StandsFor (flat : FlatOptions) (options : Options) : Type 0 where
  pub numbers : without_texts options ≡ options_of_numbers flat.constructs flat.switches flat.default_line_ending
  pub back_label : option_map string_bytes options.compile.gfm_footnote_back_label ≡ given_text (codes "Back to content") flat.gfm_footnote_back_label.now
  pub clobber_prefix : option_map string_bytes options.compile.gfm_footnote_clobber_prefix
      ≡ given_text (codes "user-content-") flat.gfm_footnote_clobber_prefix.now
  pub label : option_map string_bytes options.compile.gfm_footnote_label ≡ given_text (codes "Footnotes") flat.gfm_footnote_label.now
  pub label_attributes : option_map string_bytes options.compile.gfm_footnote_label_attributes
      ≡ given_text (codes "class=\"sr-only\"") flat.gfm_footnote_label_attributes.now
  pub label_tag_name : option_map string_bytes options.compile.gfm_footnote_label_tag_name ≡ given_text (codes "h2") flat.gfm_footnote_label_tag_name.now
  pub id_prefix : option_map string_bytes options.compile.heading_id_prefix ≡ given_text [] flat.heading_id_prefix.now
  pub link_base : option_map string_bytes options.compile.link_base ≡ given_text [] flat.link_base.now
  pub image_base : option_map string_bytes options.compile.image_base ≡ given_text [] flat.image_base.now
  pub link_rel : option_map string_bytes options.compile.link_rel ≡ given_text [] flat.link_rel.now

-- how a text is read by them
abbrev pub ReadsBy : FlatOptions → ParseOptions → Type 0
ReadsBy flat options = options ≡ parse_options_of flat.constructs flat.switches
