-- What options of printing change: pages without each, and with it.
use Rattle.std.specs.Prelude.{◌≡◌, true, codes}
use Rattle.std.proofs.Common.{refl}
use Rattle.markdown_options.specs.declared.line_ending.LineEnding.TheVariants.{CarriageReturnLineFeed, CarriageReturn}
use Rattle.markdown_compile_options.specs.declared.configuration.Options.{Options}
use Rattle.markdown_compile_options.specs.Defaults.{default_compile_options, default_options}
use Rattle.examples_inline.proofs.Computing.{pages}
use Rattle.examples_inline.specs.Pages.{page_with}

abbrev with_any_protocol : Options
with_any_protocol = record default_options { compile = record default_compile_options { allow_dangerous_protocol = true } }

abbrev with_any_source : Options
with_any_source = record default_options { compile = record default_compile_options { allow_any_img_src = true } }

abbrev with_both : Options
with_both = record default_options { compile = record default_compile_options { default_line_ending = CarriageReturnLineFeed } }

abbrev with_return : Options
with_return = record default_options { compile = record default_compile_options { default_line_ending = CarriageReturn } }

-- ---- URLs

protocol_refused : page_with default_options (codes "[a](x:b)") ≡ codes "<p><a href=\"\">a</a></p>"
unfolding pages
protocol_refused = refl

protocol_allowed : page_with with_any_protocol (codes "[a](x:b)") ≡ codes "<p><a href=\"x:b\">a</a></p>"
unfolding pages
protocol_allowed = refl

sources_refused : page_with default_options (codes "![a](x:b) [c](x:d)") ≡ codes "<p><img src=\"\" alt=\"a\" /> <a href=\"\">c</a></p>"
unfolding pages
sources_refused = refl

sources_allowed : page_with with_any_source (codes "![a](x:b) [c](x:d)") ≡ codes "<p><img src=\"x:b\" alt=\"a\" /> <a href=\"\">c</a></p>"
unfolding pages
sources_allowed = refl

-- ---- line endings

ending_line_feed : page_with default_options (codes "> a") ≡ codes "<blockquote>\n<p>a</p>\n</blockquote>"
unfolding pages
ending_line_feed = refl

ending_both : page_with with_both (codes "> a") ≡ codes "<blockquote>\r\n<p>a</p>\r\n</blockquote>"
unfolding pages
ending_both = refl

ending_return : page_with with_return (codes "> a") ≡ codes "<blockquote>\r<p>a</p>\r</blockquote>"
unfolding pages
ending_return = refl
