-- The options that a struct of C stands for.
use Rattle.std.proofs.Common.{[], ◌≡◌, ap, ◌∙◌, option_map}
use Rattle.std.specs.Prelude.{codes, string_bytes}
use Rattle.markdown_compile_options.specs.declared.configuration.Options.{Options}
use Rattle.markdown_c_options.specs.declared.flat_options.FlatOptions.{FlatOptions}
use Rattle.markdown_c_options.specs.FlatOptions.{given_text, without_texts, StandsFor}
use Rattle.markdown_c_options.specs.Switches.{options_of_numbers}

-- those of its numbers, once they have its texts
pub stands : (flat : FlatOptions) (first options : Options) → first ≡ options_of_numbers flat.constructs flat.switches flat.default_line_ending
    → without_texts options ≡ without_texts first
    → option_map string_bytes options.compile.gfm_footnote_back_label ≡ given_text (codes "Back to content") flat.gfm_footnote_back_label.now
    → option_map string_bytes options.compile.gfm_footnote_clobber_prefix ≡ given_text (codes "user-content-") flat.gfm_footnote_clobber_prefix.now
    → option_map string_bytes options.compile.gfm_footnote_label ≡ given_text (codes "Footnotes") flat.gfm_footnote_label.now
    → option_map string_bytes options.compile.gfm_footnote_label_attributes ≡ given_text (codes "class=\"sr-only\"") flat.gfm_footnote_label_attributes.now
    → option_map string_bytes options.compile.gfm_footnote_label_tag_name ≡ given_text (codes "h2") flat.gfm_footnote_label_tag_name.now
    → option_map string_bytes options.compile.heading_id_prefix ≡ given_text [] flat.heading_id_prefix.now
    → option_map string_bytes options.compile.link_base ≡ given_text [] flat.link_base.now
    → option_map string_bytes options.compile.image_base ≡ given_text [] flat.image_base.now
    → option_map string_bytes options.compile.link_rel ≡ given_text [] flat.link_rel.now
    → StandsFor flat options
stands flat first options is same back prefix label attributes name id_prefix link_base image_base rel = record {
  numbers = same ∙ ap without_texts is;
  back_label = back;
  clobber_prefix = prefix;
  label = label;
  label_attributes = attributes;
  label_tag_name = name;
  id_prefix = id_prefix;
  link_base = link_base;
  image_base = image_base;
  link_rel = rel;
}
