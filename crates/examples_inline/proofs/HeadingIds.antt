-- Ids of headings by their inline structure, and links to them.
use Rattle.std.specs.Prelude.{◌≡◌, true, codes}
use Rattle.std.proofs.Common.{Global, refl, lit<}
use Rattle.markdown_compile_options.specs.declared.configuration.Options.{Options}
use Rattle.markdown_compile_options.specs.Defaults.{default_compile_options, default_options}
use Rattle.examples_inline.proofs.Computing.{pages, page_ids}
use Rattle.examples_inline.proofs.Given.{with_compile, given, prefix_is_text, marks_are_text}
use Rattle.examples_inline.specs.Pages.{page_with}

abbrev with_ids : Options
with_ids = with_compile (record default_compile_options { heading_ids = true })

ids_off : page_with default_options (codes "# a\n# A") ≡ codes "<h1>a</h1>\n<h1>A</h1>"
unfolding pages
ids_off = refl

without_tags : page_with with_ids (codes "# *a* `b c` ![d](e) <i>")
    ≡ codes "<h1 id=\"a-b-c--\"><em>a</em> <code>b c</code> <img src=\"e\" alt=\"d\" /> &lt;i&gt;</h1>"
unfolding page_ids
without_tags = refl

module _ (alloc : Global) where
  abbrev with_prefix : Options
  with_prefix = with_compile (record default_compile_options { heading_ids = true; heading_id_prefix = given alloc (codes "x-") (lit< tt) prefix_is_text })

  -- links on the page lead to the ids with the prefix
  prefix_of_links : page_with with_prefix (codes "# a\n\n[b](#a) [c](#) [d](e#a) ![f](#a)")
      ≡ codes "<h1 id=\"x-a\">a</h1>\n<p><a href=\"#x-a\">b</a> <a href=\"#\">c</a> <a href=\"e#a\">d</a> <img src=\"#a\" alt=\"f\" /></p>"
  unfolding page_ids
  prefix_of_links = refl

  -- without ids there is no prefix
  prefix_alone : page_with (with_compile (record default_compile_options { heading_id_prefix = given alloc (codes "x-") (lit< tt) prefix_is_text }))
      (codes "# a\n\n[b](#a)")
      ≡ codes "<h1>a</h1>\n<p><a href=\"#a\">b</a></p>"
  unfolding pages
  prefix_alone = refl

  prefix_encoded : page_with
      (with_compile (record default_compile_options { heading_ids = true; heading_id_prefix = given alloc (codes "\"<&") (lit< tt) marks_are_text }))
      (codes "# a")
      ≡ codes "<h1 id=\"&quot;&lt;&amp;a\">a</h1>"
  unfolding page_ids
  prefix_encoded = refl
