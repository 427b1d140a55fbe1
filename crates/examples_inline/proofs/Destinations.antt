-- Links and images with a base, `rel` and lazy loading.
use Rattle.std.specs.Prelude.{◌≡◌, ◌++◌, true, codes}
use Rattle.std.proofs.Common.{Global, refl, lit<}
use Rattle.markdown_compile_options.specs.declared.configuration.Options.{Options}
use Rattle.markdown_compile_options.specs.Defaults.{default_compile_options, gfm_options}
use Rattle.examples_inline.proofs.Computing.{pages}
use Rattle.examples_inline.proofs.Given.{with_compile, given, base_is_text, image_base_is_text, script_is_text, rel_is_text}
use Rattle.examples_inline.specs.Pages.{page_with}

lazy_images : page_with (with_compile (record default_compile_options { lazy_images = true })) (codes "![a](b) ![c](d 't')")
    ≡ codes "<p><img src=\"b\" alt=\"a\" loading=\"lazy\" /> <img src=\"d\" alt=\"c\" title=\"t\" loading=\"lazy\" /></p>"
unfolding pages
lazy_images = refl

module _ (alloc : Global) where
  abbrev based : Options
  based = with_compile (record default_compile_options { link_base = given alloc (codes "https://x.y/r/") (lit< tt) base_is_text })

  relative_links : page_with based (codes "[a](b.md) [c](./d) [e](f/g:h)")
      ≡ codes "<p><a href=\"https://x.y/r/b.md\">a</a> <a href=\"https://x.y/r/./d\">c</a> <a href=\"https://x.y/r/f/g:h\">e</a></p>"
  unfolding pages
  relative_links = refl

  other_links : page_with based (codes "[a](/b) [c](//d) [e](#f) [g](?h) [i]() [j](http://k) <l@m.n>")
      ≡ codes "<p><a href=\"/b\">a</a> <a href=\"//d\">c</a> <a href=\"#f\">e</a> <a href=\"?h\">g</a>"
      ++ codes " <a href=\"\">i</a> <a href=\"http://k\">j</a> <a href=\"mailto:l@m.n\">l@m.n</a></p>"
  unfolding pages
  other_links = refl

  -- the protocol is looked at behind the base, and before it
  protocols_behind_base : page_with based (codes "[a](javascript:b) [c](d\\:e)") ≡ codes "<p><a href=\"\">a</a> <a href=\"\">c</a></p>"
  unfolding pages
  protocols_behind_base = refl

  base_with_protocol : page_with (with_compile (record default_compile_options { link_base = given alloc (codes "javascript:") (lit< tt) script_is_text }))
      (codes "[a](b)")
      ≡ codes "<p><a href=\"\">a</a></p>"
  unfolding pages
  base_with_protocol = refl

  -- images have the base of links, unless they have their own
  base_of_links : page_with based (codes "![a](b)") ≡ codes "<p><img src=\"https://x.y/r/b\" alt=\"a\" /></p>"
  unfolding pages
  base_of_links = refl

  base_of_images : page_with
      (with_compile (record default_compile_options { image_base = given alloc (codes "https://x.y/raw/") (lit< tt) image_base_is_text }))
      (codes "[a](b) ![c](d)")
      ≡ codes "<p><a href=\"b\">a</a> <img src=\"https://x.y/raw/d\" alt=\"c\" /></p>"
  unfolding pages
  base_of_images = refl

  -- ---- rel

  abbrev with_rel : Options
  with_rel = record gfm_options { compile = record default_compile_options { link_rel = given alloc (codes "nofollow noopener") (lit< tt) rel_is_text } }

  rel_of_links : page_with with_rel (codes "[a](b) [c](d 't') [![e](f)](g)")
      ≡ codes "<p><a href=\"b\" rel=\"nofollow noopener\">a</a> <a href=\"d\" title=\"t\" rel=\"nofollow noopener\">c</a>"
      ++ codes " <a href=\"g\" rel=\"nofollow noopener\"><img src=\"f\" alt=\"e\" /></a></p>"
  unfolding pages
  rel_of_links = refl

  rel_of_autolinks : page_with with_rel (codes "<http://a.b> www.c.d")
      ≡ codes "<p><a href=\"http://a.b\" rel=\"nofollow noopener\">http://a.b</a> <a href=\"http://www.c.d\" rel=\"nofollow noopener\">www.c.d</a></p>"
  unfolding pages
  rel_of_autolinks = refl
