-- Raw HTML that is kept by the list (CommonMark 4.6 and 6.6).
use Rattle.std.specs.Prelude.{◌≡◌, true, codes}
use Rattle.std.proofs.Common.{refl}
use Rattle.markdown_compile_options.specs.Defaults.{default_compile_options, default_options}
use Rattle.markdown_compile_options.specs.declared.configuration.Options.{Options}
use Rattle.examples_inline.proofs.Computing.{listed_pages}
use Rattle.examples_inline.specs.Pages.{page_with}

-- default options, but raw HTML is kept by the list
abbrev listing : Options
listing = record default_options { compile = record default_compile_options { allow_listed_html = true } }

-- the same where HTML is printed as it is, too
abbrev as_it_is : Options
as_it_is = record default_options { compile = record default_compile_options { allow_dangerous_html = true; allow_listed_html = true } }

void_tag : page_with listing (codes "a<br>b") ≡ codes "<p>a<br />b</p>"
unfolding listed_pages
void_tag = refl

ended : page_with listing (codes "<b>a\n\nb</b>") ≡ codes "<p><b>a</b></p>\n<p>b</p>"
unfolding listed_pages
ended = refl

ended_in_emphasis : page_with listing (codes "*<b>a*b</b> c&lt;d") ≡ codes "<p><em><b>a</b></em>b c&lt;d</p>"
unfolding listed_pages
ended_in_emphasis = refl

-- the lines of a tag are one, without the spaces at the start of the second
over_lines : page_with listing (codes "<a\n  title=x href='u'>b</a>") ≡ codes "<p><a href=\"u\" title=\"x\">b</a></p>"
unfolding listed_pages
over_lines = refl

unlisted : page_with listing (codes "a<x-y onclick=b><!-- c -->") ≡ codes "<p>a&lt;x-y onclick=b&gt;</p>"
unfolding listed_pages
unlisted = refl

-- the description of an image has no tags
described : page_with listing (codes "![a<b>c</b>](d)") ≡ codes "<p><img src=\"d\" alt=\"a&lt;b&gt;c&lt;/b&gt;\" /></p>"
unfolding listed_pages
described = refl

-- an empty line of an HTML block prints its ending alone
empty_line : page_with listing (codes "<pre>\n\na</pre>") ≡ codes "<pre>\n\na</pre>"
unfolding listed_pages
empty_line = refl

around_blocks : page_with listing (codes "<div align=center>\n\n*a*\n\n</div>") ≡ codes "<div align=\"center\">\n<p><em>a</em></p>\n</div>"
unfolding listed_pages
around_blocks = refl

printed_as_it_is : page_with as_it_is (codes "<b class=c>a<br>") ≡ codes "<p><b class=c>a<br></p>"
unfolding listed_pages
printed_as_it_is = refl
