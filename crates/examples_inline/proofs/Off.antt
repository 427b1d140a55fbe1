-- Each construct off in turn.
use Rattle.std.specs.Prelude.{◌≡◌, codes}
use Rattle.std.proofs.Common.{refl}
use Rattle.examples_inline.proofs.Computing.{pages}
use Rattle.examples_inline.specs.Pages.{page_with}
use Rattle.std.specs.Prelude.{false}
use Rattle.markdown_compile_options.specs.declared.configuration.Options.{Options}
use Rattle.markdown_options.specs.Defaults.{default_constructs, default_parse_options}
use Rattle.markdown_compile_options.specs.Defaults.{default_options}

abbrev without_attention : Options
without_attention = record default_options { parse = record default_parse_options { constructs = record default_constructs { attention = false } } }

abbrev without_autolink : Options
without_autolink = record default_options { parse = record default_parse_options { constructs = record default_constructs { autolink = false } } }

abbrev without_character_escape : Options
without_character_escape =
    record default_options { parse = record default_parse_options { constructs = record default_constructs { character_escape = false } } }

abbrev without_character_reference : Options
without_character_reference =
    record default_options { parse = record default_parse_options { constructs = record default_constructs { character_reference = false } } }

abbrev without_code_text : Options
without_code_text = record default_options { parse = record default_parse_options { constructs = record default_constructs { code_text = false } } }

abbrev without_hard_break_escape : Options
without_hard_break_escape =
    record default_options { parse = record default_parse_options { constructs = record default_constructs { hard_break_escape = false } } }

abbrev without_hard_break_trailing : Options
without_hard_break_trailing =
    record default_options { parse = record default_parse_options { constructs = record default_constructs { hard_break_trailing = false } } }

abbrev without_html_text : Options
without_html_text = record default_options { parse = record default_parse_options { constructs = record default_constructs { html_text = false } } }

abbrev without_label_start_image : Options
without_label_start_image =
    record default_options { parse = record default_parse_options { constructs = record default_constructs { label_start_image = false } } }

abbrev without_label_start_link : Options
without_label_start_link =
    record default_options { parse = record default_parse_options { constructs = record default_constructs { label_start_link = false } } }

abbrev without_label_end : Options
without_label_end = record default_options { parse = record default_parse_options { constructs = record default_constructs { label_end = false } } }

abbrev without_block_quote : Options
without_block_quote = record default_options { parse = record default_parse_options { constructs = record default_constructs { block_quote = false } } }

abbrev without_code_indented : Options
without_code_indented = record default_options { parse = record default_parse_options { constructs = record default_constructs { code_indented = false } } }

abbrev without_code_fenced : Options
without_code_fenced = record default_options { parse = record default_parse_options { constructs = record default_constructs { code_fenced = false } } }

abbrev without_definition : Options
without_definition = record default_options { parse = record default_parse_options { constructs = record default_constructs { definition = false } } }

abbrev without_heading_atx : Options
without_heading_atx = record default_options { parse = record default_parse_options { constructs = record default_constructs { heading_atx = false } } }

abbrev without_heading_setext : Options
without_heading_setext = record default_options { parse = record default_parse_options { constructs = record default_constructs { heading_setext = false } } }

abbrev without_html_flow : Options
without_html_flow = record default_options { parse = record default_parse_options { constructs = record default_constructs { html_flow = false } } }

abbrev without_list_item : Options
without_list_item = record default_options { parse = record default_parse_options { constructs = record default_constructs { list_item = false } } }

abbrev without_thematic_break : Options
without_thematic_break = record default_options { parse = record default_parse_options { constructs = record default_constructs { thematic_break = false } } }

row_0 : page_with without_attention (codes "*a* __b__ `c`") ≡ codes "<p>*a* __b__ <code>c</code></p>"
unfolding pages
row_0 = refl

row_1 : page_with without_attention (codes "<a:bc> <b> \\* &amp;") ≡ codes "<p>&lt;a:bc&gt; &lt;b&gt; * &amp;</p>"
unfolding pages
row_1 = refl

row_2 : page_with without_attention (codes "a\\\nb  \nc") ≡ codes "<p>a<br />\nb<br />\nc</p>"
unfolding pages
row_2 = refl

row_3 : page_with without_attention (codes "![a](b) [c](d) [e]\n\n[e]: f")
    ≡ codes "<p><img src=\"b\" alt=\"a\" /> <a href=\"d\">c</a> <a href=\"f\">e</a></p>\n"
unfolding pages
row_3 = refl

row_4 : page_with without_attention (codes "[\\]](\\* '&amp;')") ≡ codes "<p><a href=\"*\" title=\"&amp;\">]</a></p>"
unfolding pages
row_4 = refl

row_5 : page_with without_attention (codes "![[a](b)](c)") ≡ codes "<p><img src=\"c\" alt=\"a\" /></p>"
unfolding pages
row_5 = refl

row_6 : page_with without_autolink (codes "*a* __b__ `c`") ≡ codes "<p><em>a</em> <strong>b</strong> <code>c</code></p>"
unfolding pages
row_6 = refl

row_7 : page_with without_autolink (codes "<a:bc> <b> \\* &amp;") ≡ codes "<p>&lt;a:bc&gt; &lt;b&gt; * &amp;</p>"
unfolding pages
row_7 = refl

row_8 : page_with without_autolink (codes "a\\\nb  \nc") ≡ codes "<p>a<br />\nb<br />\nc</p>"
unfolding pages
row_8 = refl

row_9 : page_with without_autolink (codes "![a](b) [c](d) [e]\n\n[e]: f") ≡ codes "<p><img src=\"b\" alt=\"a\" /> <a href=\"d\">c</a> <a href=\"f\">e</a></p>\n"
unfolding pages
row_9 = refl

row_10 : page_with without_autolink (codes "[\\]](\\* '&amp;')") ≡ codes "<p><a href=\"*\" title=\"&amp;\">]</a></p>"
unfolding pages
row_10 = refl

row_11 : page_with without_autolink (codes "![[a](b)](c)") ≡ codes "<p><img src=\"c\" alt=\"a\" /></p>"
unfolding pages
row_11 = refl

row_12 : page_with without_character_escape (codes "*a* __b__ `c`") ≡ codes "<p><em>a</em> <strong>b</strong> <code>c</code></p>"
unfolding pages
row_12 = refl

row_13 : page_with without_character_escape (codes "<a:bc> <b> \\* &amp;") ≡ codes "<p>&lt;a:bc&gt; &lt;b&gt; \\* &amp;</p>"
unfolding pages
row_13 = refl

row_14 : page_with without_character_escape (codes "a\\\nb  \nc") ≡ codes "<p>a<br />\nb<br />\nc</p>"
unfolding pages
row_14 = refl

row_15 : page_with without_character_escape (codes "![a](b) [c](d) [e]\n\n[e]: f")
    ≡ codes "<p><img src=\"b\" alt=\"a\" /> <a href=\"d\">c</a> <a href=\"f\">e</a></p>\n"
unfolding pages
row_15 = refl

row_16 : page_with without_character_escape (codes "[\\]](\\* '&amp;')") ≡ codes "<p>[\\]](\\* '&amp;')</p>"
unfolding pages
row_16 = refl

row_17 : page_with without_character_escape (codes "![[a](b)](c)") ≡ codes "<p><img src=\"c\" alt=\"a\" /></p>"
unfolding pages
row_17 = refl

row_18 : page_with without_character_reference (codes "*a* __b__ `c`") ≡ codes "<p><em>a</em> <strong>b</strong> <code>c</code></p>"
unfolding pages
row_18 = refl

row_19 : page_with without_character_reference (codes "<a:bc> <b> \\* &amp;") ≡ codes "<p>&lt;a:bc&gt; &lt;b&gt; * &amp;amp;</p>"
unfolding pages
row_19 = refl

row_20 : page_with without_character_reference (codes "a\\\nb  \nc") ≡ codes "<p>a<br />\nb<br />\nc</p>"
unfolding pages
row_20 = refl

row_21 : page_with without_character_reference (codes "![a](b) [c](d) [e]\n\n[e]: f")
    ≡ codes "<p><img src=\"b\" alt=\"a\" /> <a href=\"d\">c</a> <a href=\"f\">e</a></p>\n"
unfolding pages
row_21 = refl

row_22 : page_with without_character_reference (codes "[\\]](\\* '&amp;')") ≡ codes "<p><a href=\"*\" title=\"&amp;amp;\">]</a></p>"
unfolding pages
row_22 = refl

row_23 : page_with without_character_reference (codes "![[a](b)](c)") ≡ codes "<p><img src=\"c\" alt=\"a\" /></p>"
unfolding pages
row_23 = refl

row_24 : page_with without_code_text (codes "*a* __b__ `c`") ≡ codes "<p><em>a</em> <strong>b</strong> `c`</p>"
unfolding pages
row_24 = refl

row_25 : page_with without_code_text (codes "<a:bc> <b> \\* &amp;") ≡ codes "<p>&lt;a:bc&gt; &lt;b&gt; * &amp;</p>"
unfolding pages
row_25 = refl

row_26 : page_with without_code_text (codes "a\\\nb  \nc") ≡ codes "<p>a<br />\nb<br />\nc</p>"
unfolding pages
row_26 = refl

row_27 : page_with without_code_text (codes "![a](b) [c](d) [e]\n\n[e]: f")
    ≡ codes "<p><img src=\"b\" alt=\"a\" /> <a href=\"d\">c</a> <a href=\"f\">e</a></p>\n"
unfolding pages
row_27 = refl

row_28 : page_with without_code_text (codes "[\\]](\\* '&amp;')") ≡ codes "<p><a href=\"*\" title=\"&amp;\">]</a></p>"
unfolding pages
row_28 = refl

row_29 : page_with without_code_text (codes "![[a](b)](c)") ≡ codes "<p><img src=\"c\" alt=\"a\" /></p>"
unfolding pages
row_29 = refl

row_30 : page_with without_hard_break_escape (codes "*a* __b__ `c`") ≡ codes "<p><em>a</em> <strong>b</strong> <code>c</code></p>"
unfolding pages
row_30 = refl

row_31 : page_with without_hard_break_escape (codes "<a:bc> <b> \\* &amp;") ≡ codes "<p>&lt;a:bc&gt; &lt;b&gt; * &amp;</p>"
unfolding pages
row_31 = refl

row_32 : page_with without_hard_break_escape (codes "a\\\nb  \nc") ≡ codes "<p>a\\\nb<br />\nc</p>"
unfolding pages
row_32 = refl

row_33 : page_with without_hard_break_escape (codes "![a](b) [c](d) [e]\n\n[e]: f")
    ≡ codes "<p><img src=\"b\" alt=\"a\" /> <a href=\"d\">c</a> <a href=\"f\">e</a></p>\n"
unfolding pages
row_33 = refl

row_34 : page_with without_hard_break_escape (codes "[\\]](\\* '&amp;')") ≡ codes "<p><a href=\"*\" title=\"&amp;\">]</a></p>"
unfolding pages
row_34 = refl

row_35 : page_with without_hard_break_escape (codes "![[a](b)](c)") ≡ codes "<p><img src=\"c\" alt=\"a\" /></p>"
unfolding pages
row_35 = refl

row_36 : page_with without_hard_break_trailing (codes "*a* __b__ `c`") ≡ codes "<p><em>a</em> <strong>b</strong> <code>c</code></p>"
unfolding pages
row_36 = refl

row_37 : page_with without_hard_break_trailing (codes "<a:bc> <b> \\* &amp;") ≡ codes "<p>&lt;a:bc&gt; &lt;b&gt; * &amp;</p>"
unfolding pages
row_37 = refl

row_38 : page_with without_hard_break_trailing (codes "a\\\nb  \nc") ≡ codes "<p>a<br />\nb\nc</p>"
unfolding pages
row_38 = refl

row_39 : page_with without_hard_break_trailing (codes "![a](b) [c](d) [e]\n\n[e]: f")
    ≡ codes "<p><img src=\"b\" alt=\"a\" /> <a href=\"d\">c</a> <a href=\"f\">e</a></p>\n"
unfolding pages
row_39 = refl

row_40 : page_with without_hard_break_trailing (codes "[\\]](\\* '&amp;')") ≡ codes "<p><a href=\"*\" title=\"&amp;\">]</a></p>"
unfolding pages
row_40 = refl

row_41 : page_with without_hard_break_trailing (codes "![[a](b)](c)") ≡ codes "<p><img src=\"c\" alt=\"a\" /></p>"
unfolding pages
row_41 = refl

row_42 : page_with without_html_text (codes "*a* __b__ `c`") ≡ codes "<p><em>a</em> <strong>b</strong> <code>c</code></p>"
unfolding pages
row_42 = refl

row_43 : page_with without_html_text (codes "<a:bc> <b> \\* &amp;") ≡ codes "<p>&lt;a:bc&gt; &lt;b&gt; * &amp;</p>"
unfolding pages
row_43 = refl

row_44 : page_with without_html_text (codes "a\\\nb  \nc") ≡ codes "<p>a<br />\nb<br />\nc</p>"
unfolding pages
row_44 = refl

row_45 : page_with without_html_text (codes "![a](b) [c](d) [e]\n\n[e]: f")
    ≡ codes "<p><img src=\"b\" alt=\"a\" /> <a href=\"d\">c</a> <a href=\"f\">e</a></p>\n"
unfolding pages
row_45 = refl

row_46 : page_with without_html_text (codes "[\\]](\\* '&amp;')") ≡ codes "<p><a href=\"*\" title=\"&amp;\">]</a></p>"
unfolding pages
row_46 = refl

row_47 : page_with without_html_text (codes "![[a](b)](c)") ≡ codes "<p><img src=\"c\" alt=\"a\" /></p>"
unfolding pages
row_47 = refl

row_48 : page_with without_label_start_image (codes "*a* __b__ `c`") ≡ codes "<p><em>a</em> <strong>b</strong> <code>c</code></p>"
unfolding pages
row_48 = refl

row_49 : page_with without_label_start_image (codes "<a:bc> <b> \\* &amp;") ≡ codes "<p>&lt;a:bc&gt; &lt;b&gt; * &amp;</p>"
unfolding pages
row_49 = refl

row_50 : page_with without_label_start_image (codes "a\\\nb  \nc") ≡ codes "<p>a<br />\nb<br />\nc</p>"
unfolding pages
row_50 = refl

row_51 : page_with without_label_start_image (codes "![a](b) [c](d) [e]\n\n[e]: f")
    ≡ codes "<p>!<a href=\"b\">a</a> <a href=\"d\">c</a> <a href=\"f\">e</a></p>\n"
unfolding pages
row_51 = refl

row_52 : page_with without_label_start_image (codes "[\\]](\\* '&amp;')") ≡ codes "<p><a href=\"*\" title=\"&amp;\">]</a></p>"
unfolding pages
row_52 = refl

row_53 : page_with without_label_start_image (codes "![[a](b)](c)") ≡ codes "<p>![<a href=\"b\">a</a>](c)</p>"
unfolding pages
row_53 = refl

row_54 : page_with without_label_start_link (codes "*a* __b__ `c`") ≡ codes "<p><em>a</em> <strong>b</strong> <code>c</code></p>"
unfolding pages
row_54 = refl

row_55 : page_with without_label_start_link (codes "<a:bc> <b> \\* &amp;") ≡ codes "<p>&lt;a:bc&gt; &lt;b&gt; * &amp;</p>"
unfolding pages
row_55 = refl

row_56 : page_with without_label_start_link (codes "a\\\nb  \nc") ≡ codes "<p>a<br />\nb<br />\nc</p>"
unfolding pages
row_56 = refl

row_57 : page_with without_label_start_link (codes "![a](b) [c](d) [e]\n\n[e]: f") ≡ codes "<p><img src=\"b\" alt=\"a\" /> [c](d) [e]</p>\n"
unfolding pages
row_57 = refl

row_58 : page_with without_label_start_link (codes "[\\]](\\* '&amp;')") ≡ codes "<p>[]](* '&amp;')</p>"
unfolding pages
row_58 = refl

row_59 : page_with without_label_start_link (codes "![[a](b)](c)") ≡ codes "<p><img src=\"b\" alt=\"[a\" />](c)</p>"
unfolding pages
row_59 = refl

row_60 : page_with without_label_end (codes "*a* __b__ `c`") ≡ codes "<p><em>a</em> <strong>b</strong> <code>c</code></p>"
unfolding pages
row_60 = refl

row_61 : page_with without_label_end (codes "<a:bc> <b> \\* &amp;") ≡ codes "<p>&lt;a:bc&gt; &lt;b&gt; * &amp;</p>"
unfolding pages
row_61 = refl

row_62 : page_with without_label_end (codes "a\\\nb  \nc") ≡ codes "<p>a<br />\nb<br />\nc</p>"
unfolding pages
row_62 = refl

row_63 : page_with without_label_end (codes "![a](b) [c](d) [e]\n\n[e]: f") ≡ codes "<p>![a](b) [c](d) [e]</p>\n"
unfolding pages
row_63 = refl

row_64 : page_with without_label_end (codes "[\\]](\\* '&amp;')") ≡ codes "<p>[]](* '&amp;')</p>"
unfolding pages
row_64 = refl

row_65 : page_with without_label_end (codes "![[a](b)](c)") ≡ codes "<p>![[a](b)](c)</p>"
unfolding pages
row_65 = refl

-- ---- blocks: with the construct, and without it

row_66 : page_with default_options (codes "> a") ≡ codes "<blockquote>\n<p>a</p>\n</blockquote>"
unfolding pages
row_66 = refl

row_67 : page_with without_block_quote (codes "> a") ≡ codes "<p>&gt; a</p>"
unfolding pages
row_67 = refl

row_68 : page_with default_options (codes "a\n\n    b") ≡ codes "<p>a</p>\n<pre><code>b\n</code></pre>"
unfolding pages
row_68 = refl

row_69 : page_with without_code_indented (codes "a\n\n    b") ≡ codes "<p>a</p>\n<p>b</p>"
unfolding pages
row_69 = refl

row_70 : page_with default_options (codes "```\na\n```") ≡ codes "<pre><code>a\n</code></pre>"
unfolding pages
row_70 = refl

row_71 : page_with without_code_fenced (codes "```\na\n```") ≡ codes "<p><code>a</code></p>"
unfolding pages
row_71 = refl

row_72 : page_with default_options (codes "[a]: b\n\n[a]") ≡ codes "<p><a href=\"b\">a</a></p>"
unfolding pages
row_72 = refl

row_73 : page_with without_definition (codes "[a]: b\n\n[a]") ≡ codes "<p>[a]: b</p>\n<p>[a]</p>"
unfolding pages
row_73 = refl

row_74 : page_with default_options (codes "# a") ≡ codes "<h1>a</h1>"
unfolding pages
row_74 = refl

row_75 : page_with without_heading_atx (codes "# a") ≡ codes "<p># a</p>"
unfolding pages
row_75 = refl

row_76 : page_with default_options (codes "a\n=\n\nb\n-") ≡ codes "<h1>a</h1>\n<h2>b</h2>"
unfolding pages
row_76 = refl

row_77 : page_with without_heading_setext (codes "a\n=\n\nb\n-") ≡ codes "<p>a\n=</p>\n<p>b\n-</p>"
unfolding pages
row_77 = refl

row_78 : page_with default_options (codes "<div>\n*a*\n</div>") ≡ codes "&lt;div&gt;\n*a*\n&lt;/div&gt;"
unfolding pages
row_78 = refl

row_79 : page_with without_html_flow (codes "<div>\n*a*\n</div>") ≡ codes "<p>&lt;div&gt;\n<em>a</em>\n&lt;/div&gt;</p>"
unfolding pages
row_79 = refl

row_80 : page_with default_options (codes "- a\n1. b") ≡ codes "<ul>\n<li>a</li>\n</ul>\n<ol>\n<li>b</li>\n</ol>"
unfolding pages
row_80 = refl

row_81 : page_with without_list_item (codes "- a\n1. b") ≡ codes "<p>- a\n1. b</p>"
unfolding pages
row_81 = refl

row_82 : page_with default_options (codes "***\n---") ≡ codes "<hr />\n<hr />"
unfolding pages
row_82 = refl

row_83 : page_with without_thematic_break (codes "***\n---") ≡ codes "<h2>***</h2>"
unfolding pages
row_83 = refl
