-- Texts with underlined headings, link reference definitions and HTML blocks, and their HTML, which the definition computes.
use Rattle.std.specs.Prelude.{◌≡◌, ℕ, true, List, [], ◌∷◌, ◌++◌, codes, map, replicate}
use Rattle.std.proofs.Common.{refl}
use Rattle.markdown_compile_options.specs.declared.configuration.Options.{Options}
use Rattle.markdown_options.specs.Defaults.{no_constructs, default_parse_options}
use Rattle.markdown_compile_options.specs.Defaults.{default_compile_options, default_options}
use Rattle.definition_block.specs.HtmlNames.{raw_names, block_names}
use Rattle.definition_page.specs.GfmTagfilter.{filtered_names}
use Rattle.markdown_options.specs.declared.beside.Kind.TheVariants.{Whitespace}
use Rattle.definition_block.specs.Tree.{blocks}
use Rattle.definition_block.specs.Blocks.{Blocks}
use Rattle.definition_block.specs.Definitions.{definitions}
use Rattle.markdown_definition.specs.Html.{html}
use Rattle.examples_block.proofs.SmallTables.{small}

-- all blocks of CommonMark
abbrev on : Options
on = record default_options {
  parse = record default_parse_options {
    constructs = record no_constructs {
      block_quote = true;
      code_indented = true;
      code_fenced = true;
      definition = true;
      heading_atx = true;
      heading_setext = true;
      html_flow = true;
      list_item = true;
      thematic_break = true;
    };
  };
}

-- the same, and HTML is printed as it is
abbrev dangerous : Options
dangerous = record on { compile = record default_compile_options { allow_dangerous_html = true } }

-- the same with the filter of tags
abbrev filtered : Options
filtered = record on {
  compile = record default_compile_options {
    allow_dangerous_html = true;
    gfm_tagfilter = true;
  };
}

-- the filter alone
abbrev safe_filter : Options
safe_filter = record on { compile = record default_compile_options { gfm_tagfilter = true } }

row_0 : html small (codes "[foo]: /url 'title'" ++ (10 ∷ []) ++ (10 ∷ []) ++ codes "[foo]") on ≡ codes "<p>[foo]</p>"
row_0 = refl

row_1 : html small (codes "   [foo]: " ++ (10 ∷ []) ++ codes "      /url  " ++ (10 ∷ []) ++ codes "           'the title'  " ++ (10 ∷ []) ++ (10 ∷ [])
    ++ codes "[foo]") on ≡ codes "<p>[foo]</p>"
row_1 = refl

row_2 : html small (codes "[foo]: /url '" ++ (10 ∷ []) ++ codes "title" ++ (10 ∷ []) ++ codes "line1" ++ (10 ∷ []) ++ codes "line2" ++ (10 ∷ []) ++ codes "'"
    ++ (10 ∷ []) ++ (10 ∷ []) ++ codes "[foo]") on ≡ codes "<p>[foo]</p>"
row_2 = refl

row_3 : html small (codes "[foo]: /url 'title" ++ (10 ∷ []) ++ (10 ∷ []) ++ codes "with blank line'" ++ (10 ∷ []) ++ (10 ∷ []) ++ codes "[foo]") on
    ≡ codes "<p>[foo]: /url 'title</p>" ++ (10 ∷ []) ++ codes "<p>with blank line'</p>" ++ (10 ∷ []) ++ codes "<p>[foo]</p>"
row_3 = refl

row_4 : html small (codes "[foo]:" ++ (10 ∷ []) ++ (10 ∷ []) ++ codes "[foo]") on ≡ codes "<p>[foo]:</p>" ++ (10 ∷ []) ++ codes "<p>[foo]</p>"
row_4 = refl

row_5 : html small (codes "[foo]: <>" ++ (10 ∷ []) ++ (10 ∷ []) ++ codes "[foo]") on ≡ codes "<p>[foo]</p>"
unfolding raw_names block_names
row_5 = refl

row_6 : html small (codes "[foo]: <bar>(baz)" ++ (10 ∷ []) ++ (10 ∷ []) ++ codes "[foo]") on
    ≡ codes "<p>[foo]: &lt;bar&gt;(baz)</p>" ++ (10 ∷ []) ++ codes "<p>[foo]</p>"
unfolding raw_names block_names
row_6 = refl

row_7 : html small (codes "[foo]: /url \"title\" ok") on ≡ codes "<p>[foo]: /url &quot;title&quot; ok</p>"
row_7 = refl

row_8 : html small (codes "[foo]: /url" ++ (10 ∷ []) ++ codes "\"title\" ok") on ≡ codes "<p>&quot;title&quot; ok</p>"
row_8 = refl

row_9 : html small (codes "    [foo]: /url \"title\"" ++ (10 ∷ []) ++ (10 ∷ []) ++ codes "[foo]") on
    ≡ codes "<pre><code>[foo]: /url &quot;title&quot;" ++ (10 ∷ []) ++ codes "</code></pre>" ++ (10 ∷ []) ++ codes "<p>[foo]</p>"
row_9 = refl

row_10 : html small (codes "Foo" ++ (10 ∷ []) ++ codes "[bar]: /baz" ++ (10 ∷ []) ++ (10 ∷ []) ++ codes "[bar]") on
    ≡ codes "<p>Foo" ++ (10 ∷ []) ++ codes "[bar]: /baz</p>" ++ (10 ∷ []) ++ codes "<p>[bar]</p>"
row_10 = refl

row_11 : html small (codes "# [Foo]" ++ (10 ∷ []) ++ codes "[foo]: /url" ++ (10 ∷ []) ++ codes "> bar") on
    ≡ codes "<h1>[Foo]</h1>" ++ (10 ∷ []) ++ codes "<blockquote>" ++ (10 ∷ []) ++ codes "<p>bar</p>" ++ (10 ∷ []) ++ codes "</blockquote>"
row_11 = refl

row_12 : html small (codes "[foo]: /url" ++ (10 ∷ []) ++ codes "bar" ++ (10 ∷ []) ++ codes "===" ++ (10 ∷ []) ++ codes "[foo]") on
    ≡ codes "<h1>bar</h1>" ++ (10 ∷ []) ++ codes "<p>[foo]</p>"
row_12 = refl

row_13 : html small (codes "[foo]: /url" ++ (10 ∷ []) ++ codes "===" ++ (10 ∷ []) ++ codes "[foo]") on ≡ codes "<p>===" ++ (10 ∷ []) ++ codes "[foo]</p>"
row_13 = refl

row_14 : html small (codes "[foo]: /foo-url \"foo\"" ++ (10 ∷ []) ++ codes "[bar]: /bar-url" ++ (10 ∷ []) ++ codes "  \"bar\"" ++ (10 ∷ [])
    ++ codes "[baz]: /baz-url" ++ (10 ∷ []) ++ (10 ∷ []) ++ codes "[foo]") on ≡ codes "<p>[foo]</p>"
row_14 = refl

row_15 : html small (codes "[foo]" ++ (10 ∷ []) ++ (10 ∷ []) ++ codes "> [foo]: /url") on
    ≡ codes "<p>[foo]</p>" ++ (10 ∷ []) ++ codes "<blockquote>" ++ (10 ∷ []) ++ codes "</blockquote>"
row_15 = refl

row_16 : html small (codes "[a]: b" ++ (10 ∷ []) ++ codes "-") on ≡ codes "<p>-</p>"
row_16 = refl

row_17 : html small (codes "[a]: b" ++ (10 ∷ []) ++ codes "---" ++ (10 ∷ []) ++ codes "c") on ≡ codes "<hr />" ++ (10 ∷ []) ++ codes "<p>c</p>"
row_17 = refl

row_18 : html small (codes "[a]: b" ++ (10 ∷ []) ++ codes "c" ++ (10 ∷ []) ++ codes "d" ++ (10 ∷ []) ++ codes "---") on
    ≡ codes "<h2>c" ++ (10 ∷ []) ++ codes "d</h2>"
row_18 = refl

row_19 : html small (codes "[a]: b" ++ (10 ∷ []) ++ codes "[a]: c" ++ (10 ∷ []) ++ (10 ∷ []) ++ codes "d" ++ (10 ∷ []) ++ (10 ∷ []) ++ codes "[a]: e") on
    ≡ codes "<p>d</p>" ++ (10 ∷ [])
row_19 = refl

row_20 : html small (codes "> [a]: b" ++ (10 ∷ []) ++ codes "'c" ++ (10 ∷ []) ++ codes "d'" ++ (10 ∷ []) ++ codes "> e") on
    ≡ codes "<blockquote>" ++ (10 ∷ []) ++ codes "<p>e</p>" ++ (10 ∷ []) ++ codes "</blockquote>"
row_20 = refl

row_21 : html small (codes "> [a]: b" ++ (10 ∷ []) ++ codes "'c" ++ (10 ∷ []) ++ codes "d") on
    ≡ codes "<blockquote>" ++ (10 ∷ []) ++ codes "<p>'c" ++ (10 ∷ []) ++ codes "d</p>" ++ (10 ∷ []) ++ codes "</blockquote>"
row_21 = refl

row_22 : html small (codes "> [a]:" ++ (10 ∷ []) ++ codes "b") on ≡ codes "<blockquote>" ++ (10 ∷ []) ++ codes "</blockquote>"
row_22 = refl

row_23 : html small (codes "> [a]: b" ++ (10 ∷ []) ++ codes "===") on ≡ codes "<blockquote>" ++ (10 ∷ []) ++ codes "<p>===</p>" ++ (10 ∷ [])
    ++ codes "</blockquote>"
row_23 = refl

row_24 : html small (codes "- [a]: b" ++ (10 ∷ []) ++ codes "- c") on ≡ codes "<ul>" ++ (10 ∷ []) ++ codes "<li></li>" ++ (10 ∷ []) ++ codes "<li>c</li>"
    ++ (10 ∷ []) ++ codes "</ul>"
row_24 = refl

row_25 : html small (codes "- [a]: b" ++ (10 ∷ []) ++ (10 ∷ []) ++ codes "  c" ++ (10 ∷ []) ++ codes "- d") on
    ≡ codes "<ul>" ++ (10 ∷ []) ++ codes "<li>" ++ (10 ∷ []) ++ codes "<p>c</p>" ++ (10 ∷ []) ++ codes "</li>" ++ (10 ∷ []) ++ codes "<li>" ++ (10 ∷ [])
    ++ codes "<p>d</p>" ++ (10 ∷ []) ++ codes "</li>" ++ (10 ∷ []) ++ codes "</ul>"
row_25 = refl

row_26 : html small (codes "- [a]: b" ++ (10 ∷ []) ++ codes "  c" ++ (10 ∷ []) ++ codes "- [d]: e") on
    ≡ codes "<ul>" ++ (10 ∷ []) ++ codes "<li>c</li>" ++ (10 ∷ []) ++ codes "<li></li>" ++ (10 ∷ []) ++ codes "</ul>"
row_26 = refl

row_27 : html small (codes "- [a]: b" ++ (10 ∷ []) ++ (10 ∷ []) ++ (10 ∷ []) ++ codes "[c]: d") on
    ≡ codes "<ul>" ++ (10 ∷ []) ++ codes "<li></li>" ++ (10 ∷ []) ++ codes "</ul>" ++ (10 ∷ [])
row_27 = refl

row_28 : html small (codes "- a" ++ (10 ∷ []) ++ (10 ∷ []) ++ codes "  [b]: c" ++ (10 ∷ []) ++ codes "- d") on
    ≡ codes "<ul>" ++ (10 ∷ []) ++ codes "<li>" ++ (10 ∷ []) ++ codes "<p>a</p>" ++ (10 ∷ []) ++ codes "</li>" ++ (10 ∷ []) ++ codes "<li>" ++ (10 ∷ [])
    ++ codes "<p>d</p>" ++ (10 ∷ []) ++ codes "</li>" ++ (10 ∷ []) ++ codes "</ul>"
row_28 = refl

row_29 : html small (codes "- a" ++ (10 ∷ []) ++ codes "  - [b]: c" ++ (10 ∷ []) ++ codes "    d" ++ (10 ∷ []) ++ codes "  - [e]: f" ++ (10 ∷ []) ++ (10 ∷ [])
    ++ codes "- g") on ≡ codes "<ul>" ++ (10 ∷ []) ++ codes "<li>" ++ (10 ∷ []) ++ codes "<p>a</p>" ++ (10 ∷ []) ++ codes "<ul>" ++ (10 ∷ [])
    ++ codes "<li>d</li>" ++ (10 ∷ []) ++ codes "<li></li>" ++ (10 ∷ []) ++ codes "</ul>" ++ (10 ∷ []) ++ codes "</li>" ++ (10 ∷ []) ++ codes "<li>"
    ++ (10 ∷ []) ++ codes "<p>g</p>" ++ (10 ∷ []) ++ codes "</li>" ++ (10 ∷ []) ++ codes "</ul>"
row_29 = refl

row_30 : html small (codes "1. [a]: b") on ≡ codes "<ol>" ++ (10 ∷ []) ++ codes "<li></li>" ++ (10 ∷ []) ++ codes "</ol>"
row_30 = refl

row_31 : html small (codes "[a]: b" ++ (13 ∷ []) ++ (10 ∷ []) ++ codes "[c]:" ++ (13 ∷ []) ++ (10 ∷ []) ++ codes " d" ++ (13 ∷ []) ++ (10 ∷ []) ++ codes "e"
    ++ (13 ∷ []) ++ (10 ∷ [])) on ≡ codes "<p>e</p>" ++ (13 ∷ []) ++ (10 ∷ [])
row_31 = refl

row_32 : html small (codes "[a]: b" ++ (10 ∷ [])) on ≡ []
row_32 = refl

row_33 : html small (codes "[a]: b" ++ (10 ∷ []) ++ codes "# c" ++ (10 ∷ []) ++ codes "[d]: e" ++ (10 ∷ []) ++ (10 ∷ [])) on ≡ codes "<h1>c</h1>" ++ (10 ∷ [])
row_33 = refl

row_34 : html small (codes "> [a]: b" ++ (10 ∷ []) ++ codes "> [c]: d" ++ (10 ∷ []) ++ codes ">" ++ (10 ∷ []) ++ codes "> e" ++ (10 ∷ []) ++ (10 ∷ [])
    ++ codes "f") on ≡ codes "<blockquote>" ++ (10 ∷ []) ++ codes "<p>e</p>" ++ (10 ∷ []) ++ codes "</blockquote>" ++ (10 ∷ []) ++ codes "<p>f</p>"
row_34 = refl

row_35 : html small (codes "- " ++ (9 ∷ []) ++ codes "[a" ++ (10 ∷ []) ++ (9 ∷ []) ++ codes " b]: c" ++ (10 ∷ []) ++ codes "  " ++ (9 ∷ []) ++ codes "'d'"
    ++ (10 ∷ []) ++ codes "e") on ≡ codes "<ul>" ++ (10 ∷ []) ++ codes "<li>e</li>" ++ (10 ∷ []) ++ codes "</ul>"
row_35 = refl

row_36 : html small (codes "[a\\]]: b" ++ (10 ∷ []) ++ codes "[c" ++ (10 ∷ []) ++ codes "d]: e" ++ (10 ∷ []) ++ codes "[]: f") on ≡ codes "<p>[]: f</p>"
row_36 = refl

row_37 : html small (codes "[a]: b 'c' d" ++ (10 ∷ []) ++ codes "[e]: f") on ≡ codes "<p>[a]: b 'c' d" ++ (10 ∷ []) ++ codes "[e]: f</p>"
row_37 = refl

row_38 : html small (codes "[a]: b" ++ (0 ∷ []) ++ codes "c" ++ (10 ∷ []) ++ (0 ∷ [])) on
    ≡ codes "<p>" ++ (239 ∷ []) ++ (191 ∷ []) ++ (189 ∷ []) ++ codes "</p>"
row_38 = refl

row_39 : html small (codes "Foo" ++ (10 ∷ []) ++ codes "Bar" ++ (10 ∷ []) ++ codes "  baz" ++ (9 ∷ []) ++ (10 ∷ []) ++ codes "====") on
    ≡ codes "<h1>Foo" ++ (10 ∷ []) ++ codes "Bar" ++ (10 ∷ []) ++ codes "baz</h1>"
row_39 = refl

row_40 : html small (codes "Foo" ++ (10 ∷ []) ++ codes "-------------------------" ++ (10 ∷ []) ++ (10 ∷ []) ++ codes "Foo" ++ (10 ∷ []) ++ codes "=") on
    ≡ codes "<h2>Foo</h2>" ++ (10 ∷ []) ++ codes "<h1>Foo</h1>"
row_40 = refl

row_41 : html small (codes "   Foo" ++ (10 ∷ []) ++ codes "---" ++ (10 ∷ []) ++ (10 ∷ []) ++ codes "  Foo" ++ (10 ∷ []) ++ codes "-----" ++ (10 ∷ [])
    ++ (10 ∷ []) ++ codes "  Foo" ++ (10 ∷ []) ++ codes "  ===") on ≡ codes "<h2>Foo</h2>" ++ (10 ∷ []) ++ codes "<h2>Foo</h2>" ++ (10 ∷ [])
    ++ codes "<h1>Foo</h1>"
row_41 = refl

row_42 : html small (codes "    Foo" ++ (10 ∷ []) ++ codes "    ---" ++ (10 ∷ []) ++ (10 ∷ []) ++ codes "    Foo" ++ (10 ∷ []) ++ codes "---") on
    ≡ codes "<pre><code>Foo" ++ (10 ∷ []) ++ codes "---" ++ (10 ∷ []) ++ (10 ∷ []) ++ codes "Foo" ++ (10 ∷ []) ++ codes "</code></pre>" ++ (10 ∷ [])
    ++ codes "<hr />"
row_42 = refl

row_43 : html small (codes "Foo" ++ (10 ∷ []) ++ codes "   ----      ") on ≡ codes "<h2>Foo</h2>"
row_43 = refl

row_44 : html small (codes "Foo" ++ (10 ∷ []) ++ codes "    ---") on ≡ codes "<p>Foo" ++ (10 ∷ []) ++ codes "---</p>"
row_44 = refl

row_45 : html small (codes "Foo" ++ (10 ∷ []) ++ codes "= =" ++ (10 ∷ []) ++ (10 ∷ []) ++ codes "Foo" ++ (10 ∷ []) ++ codes "--- -") on
    ≡ codes "<p>Foo" ++ (10 ∷ []) ++ codes "= =</p>" ++ (10 ∷ []) ++ codes "<p>Foo</p>" ++ (10 ∷ []) ++ codes "<hr />"
row_45 = refl

row_46 : html small (codes "Foo  " ++ (10 ∷ []) ++ codes "-----" ++ (10 ∷ []) ++ codes "Foo\\" ++ (10 ∷ []) ++ codes "----") on
    ≡ codes "<h2>Foo</h2>" ++ (10 ∷ []) ++ codes "<h2>Foo\\</h2>"
row_46 = refl

row_47 : html small (codes "> Foo" ++ (10 ∷ []) ++ codes "---") on ≡ codes "<blockquote>" ++ (10 ∷ []) ++ codes "<p>Foo</p>" ++ (10 ∷ [])
    ++ codes "</blockquote>" ++ (10 ∷ []) ++ codes "<hr />"
row_47 = refl

row_48 : html small (codes "> foo" ++ (10 ∷ []) ++ codes "bar" ++ (10 ∷ []) ++ codes "===") on
    ≡ codes "<blockquote>" ++ (10 ∷ []) ++ codes "<p>foo" ++ (10 ∷ []) ++ codes "bar" ++ (10 ∷ []) ++ codes "===</p>" ++ (10 ∷ []) ++ codes "</blockquote>"
row_48 = refl

row_49 : html small (codes "> a" ++ (10 ∷ []) ++ codes "> =" ++ (10 ∷ []) ++ codes "b") on
    ≡ codes "<blockquote>" ++ (10 ∷ []) ++ codes "<h1>a</h1>" ++ (10 ∷ []) ++ codes "</blockquote>" ++ (10 ∷ []) ++ codes "<p>b</p>"
row_49 = refl

row_50 : html small (codes "- Foo" ++ (10 ∷ []) ++ codes "---") on ≡ codes "<ul>" ++ (10 ∷ []) ++ codes "<li>Foo</li>" ++ (10 ∷ []) ++ codes "</ul>"
    ++ (10 ∷ []) ++ codes "<hr />"
row_50 = refl

row_51 : html small (codes "- foo" ++ (10 ∷ []) ++ codes "bar" ++ (10 ∷ []) ++ codes "===") on
    ≡ codes "<ul>" ++ (10 ∷ []) ++ codes "<li>foo" ++ (10 ∷ []) ++ codes "bar" ++ (10 ∷ []) ++ codes "===</li>" ++ (10 ∷ []) ++ codes "</ul>"
row_51 = refl

row_52 : html small (codes "- a" ++ (10 ∷ []) ++ codes "  ===" ++ (10 ∷ []) ++ codes "- b" ++ (10 ∷ []) ++ codes "  c" ++ (10 ∷ []) ++ codes "  --") on
    ≡ codes "<ul>" ++ (10 ∷ []) ++ codes "<li>" ++ (10 ∷ []) ++ codes "<h1>a</h1>" ++ (10 ∷ []) ++ codes "</li>" ++ (10 ∷ []) ++ codes "<li>" ++ (10 ∷ [])
    ++ codes "<h2>b" ++ (10 ∷ []) ++ codes "c</h2>" ++ (10 ∷ []) ++ codes "</li>" ++ (10 ∷ []) ++ codes "</ul>"
row_52 = refl

row_53 : html small (codes "Foo" ++ (10 ∷ []) ++ codes "Bar" ++ (10 ∷ []) ++ codes "---" ++ (10 ∷ []) ++ codes "---" ++ (10 ∷ []) ++ codes "Foo" ++ (10 ∷ [])
    ++ codes "---" ++ (10 ∷ []) ++ codes "Bar" ++ (10 ∷ []) ++ codes "---" ++ (10 ∷ []) ++ codes "Baz") on
    ≡ codes "<h2>Foo" ++ (10 ∷ []) ++ codes "Bar</h2>" ++ (10 ∷ []) ++ codes "<hr />" ++ (10 ∷ []) ++ codes "<h2>Foo</h2>" ++ (10 ∷ []) ++ codes "<h2>Bar</h2>"
    ++ (10 ∷ []) ++ codes "<p>Baz</p>"
row_53 = refl

row_54 : html small ((10 ∷ []) ++ codes "====") on ≡ codes "<p>====</p>"
row_54 = refl

row_55 : html small (codes "---" ++ (10 ∷ []) ++ codes "---") on ≡ codes "<hr />" ++ (10 ∷ []) ++ codes "<hr />"
row_55 = refl

row_56 : html small (codes "- foo" ++ (10 ∷ []) ++ codes "-----") on ≡ codes "<ul>" ++ (10 ∷ []) ++ codes "<li>foo</li>" ++ (10 ∷ []) ++ codes "</ul>"
    ++ (10 ∷ []) ++ codes "<hr />"
row_56 = refl

row_57 : html small (codes "    foo" ++ (10 ∷ []) ++ codes "---") on ≡ codes "<pre><code>foo" ++ (10 ∷ []) ++ codes "</code></pre>" ++ (10 ∷ [])
    ++ codes "<hr />"
row_57 = refl

row_58 : html small (codes "> foo" ++ (10 ∷ []) ++ codes "-----") on ≡ codes "<blockquote>" ++ (10 ∷ []) ++ codes "<p>foo</p>" ++ (10 ∷ [])
    ++ codes "</blockquote>" ++ (10 ∷ []) ++ codes "<hr />"
row_58 = refl

row_59 : html small (codes "a" ++ (10 ∷ []) ++ codes "=" ++ (10 ∷ []) ++ codes "---") on ≡ codes "<h1>a</h1>" ++ (10 ∷ []) ++ codes "<hr />"
row_59 = refl

row_60 : html small (codes "a" ++ (10 ∷ []) ++ codes "-") on ≡ codes "<h2>a</h2>"
row_60 = refl

row_61 : html small (codes "a" ++ (10 ∷ []) ++ codes "- " ++ (10 ∷ []) ++ codes "-") on
    ≡ codes "<h2>a</h2>" ++ (10 ∷ []) ++ codes "<ul>" ++ (10 ∷ []) ++ codes "<li></li>" ++ (10 ∷ []) ++ codes "</ul>"
row_61 = refl

row_62 : html small (codes "a" ++ (13 ∷ []) ++ (10 ∷ []) ++ codes "=" ++ (13 ∷ []) ++ (10 ∷ []) ++ codes "b" ++ (13 ∷ []) ++ codes "--") on
    ≡ codes "<h1>a</h1>" ++ (13 ∷ []) ++ (10 ∷ []) ++ codes "<h2>b</h2>"
row_62 = refl

row_63 : html small (codes "a" ++ (10 ∷ []) ++ (9 ∷ []) ++ codes "=") on ≡ codes "<p>a" ++ (10 ∷ []) ++ codes "=</p>"
row_63 = refl

row_64 : html small (codes "a" ++ (10 ∷ []) ++ codes "==" ++ (9 ∷ []) ++ codes " " ++ (10 ∷ []) ++ codes "**" ++ (10 ∷ []) ++ codes "***" ++ (10 ∷ [])
    ++ codes "**" ++ (10 ∷ []) ++ codes "---") on ≡ codes "<h1>a</h1>" ++ (10 ∷ []) ++ codes "<p>**</p>" ++ (10 ∷ []) ++ codes "<hr />" ++ (10 ∷ [])
    ++ codes "<h2>**</h2>"
row_64 = refl

row_65 : html small (codes "<table>" ++ (10 ∷ []) ++ codes "  <tr>" ++ (10 ∷ []) ++ codes "    <td>" ++ (10 ∷ []) ++ codes "           hi" ++ (10 ∷ [])
    ++ codes "    </td>" ++ (10 ∷ []) ++ codes "  </tr>" ++ (10 ∷ []) ++ codes "</table>" ++ (10 ∷ []) ++ (10 ∷ []) ++ codes "okay.") dangerous
    ≡ codes "<table>" ++ (10 ∷ []) ++ codes "  <tr>" ++ (10 ∷ []) ++ codes "    <td>" ++ (10 ∷ []) ++ codes "           hi" ++ (10 ∷ []) ++ codes "    </td>"
    ++ (10 ∷ []) ++ codes "  </tr>" ++ (10 ∷ []) ++ codes "</table>" ++ (10 ∷ []) ++ codes "<p>okay.</p>"
unfolding raw_names block_names
row_65 = refl

row_66 : html small (codes " <div>" ++ (10 ∷ []) ++ codes "  *hello*" ++ (10 ∷ []) ++ codes "         <foo><a>") dangerous
    ≡ codes " <div>" ++ (10 ∷ []) ++ codes "  *hello*" ++ (10 ∷ []) ++ codes "         <foo><a>"
unfolding raw_names block_names
row_66 = refl

row_67 : html small (codes "</div>" ++ (10 ∷ []) ++ codes "*foo*") dangerous ≡ codes "</div>" ++ (10 ∷ []) ++ codes "*foo*"
unfolding raw_names block_names
row_67 = refl

row_68 : html small (codes "<DIV CLASS=\"foo\">" ++ (10 ∷ []) ++ (10 ∷ []) ++ codes "*Markdown*" ++ (10 ∷ []) ++ (10 ∷ []) ++ codes "</DIV>") dangerous
    ≡ codes "<DIV CLASS=\"foo\">" ++ (10 ∷ []) ++ codes "<p>*Markdown*</p>" ++ (10 ∷ []) ++ codes "</DIV>"
unfolding raw_names block_names
row_68 = refl

row_69 : html small (codes "<div id=\"foo\"" ++ (10 ∷ []) ++ codes "  class=\"bar\">" ++ (10 ∷ []) ++ codes "</div>") dangerous
    ≡ codes "<div id=\"foo\"" ++ (10 ∷ []) ++ codes "  class=\"bar\">" ++ (10 ∷ []) ++ codes "</div>"
unfolding raw_names block_names
row_69 = refl

row_70 : html small (codes "<div id=\"foo\"" ++ (10 ∷ []) ++ codes "*hi*") dangerous ≡ codes "<div id=\"foo\"" ++ (10 ∷ []) ++ codes "*hi*"
unfolding raw_names block_names
row_70 = refl

row_71 : html small (codes "<div *???-&&&-<---" ++ (10 ∷ []) ++ codes "*foo*") dangerous ≡ codes "<div *???-&&&-<---" ++ (10 ∷ []) ++ codes "*foo*"
unfolding raw_names block_names
row_71 = refl

row_72 : html small (codes "<a href=\"foo\">" ++ (10 ∷ []) ++ codes "*bar*" ++ (10 ∷ []) ++ codes "</a>") dangerous
    ≡ codes "<a href=\"foo\">" ++ (10 ∷ []) ++ codes "*bar*" ++ (10 ∷ []) ++ codes "</a>"
unfolding raw_names block_names
row_72 = refl

row_73 : html small (codes "<Warning>" ++ (10 ∷ []) ++ codes "*bar*" ++ (10 ∷ []) ++ codes "</Warning>") dangerous
    ≡ codes "<Warning>" ++ (10 ∷ []) ++ codes "*bar*" ++ (10 ∷ []) ++ codes "</Warning>"
unfolding raw_names block_names
row_73 = refl

row_74 : html small (codes "</ins>" ++ (10 ∷ []) ++ codes "*bar*") dangerous ≡ codes "</ins>" ++ (10 ∷ []) ++ codes "*bar*"
unfolding raw_names block_names
row_74 = refl

row_75 : html small (codes "<del>*foo*</del>") dangerous ≡ codes "<p>&lt;del&gt;*foo*&lt;/del&gt;</p>"
unfolding raw_names block_names
row_75 = refl

row_76 : html small (codes "<pre language=\"haskell\"><code>" ++ (10 ∷ []) ++ codes "import X" ++ (10 ∷ []) ++ (10 ∷ []) ++ codes "main" ++ (10 ∷ [])
    ++ codes "</code></pre>" ++ (10 ∷ []) ++ codes "okay") dangerous ≡ codes "<pre language=\"haskell\"><code>" ++ (10 ∷ []) ++ codes "import X" ++ (10 ∷ [])
    ++ (10 ∷ []) ++ codes "main" ++ (10 ∷ []) ++ codes "</code></pre>" ++ (10 ∷ []) ++ codes "<p>okay</p>"
unfolding raw_names block_names
row_76 = refl

row_77 : html small (codes "<style" ++ (10 ∷ []) ++ codes "  type=\"text/css\">" ++ (10 ∷ []) ++ (10 ∷ []) ++ codes "foo") dangerous
    ≡ codes "<style" ++ (10 ∷ []) ++ codes "  type=\"text/css\">" ++ (10 ∷ []) ++ (10 ∷ []) ++ codes "foo"
unfolding raw_names block_names
row_77 = refl

row_78 : html small (codes "> <div>" ++ (10 ∷ []) ++ codes "> foo" ++ (10 ∷ []) ++ (10 ∷ []) ++ codes "bar") dangerous
    ≡ codes "<blockquote>" ++ (10 ∷ []) ++ codes "<div>" ++ (10 ∷ []) ++ codes "foo" ++ (10 ∷ []) ++ codes "</blockquote>" ++ (10 ∷ []) ++ codes "<p>bar</p>"
unfolding raw_names block_names
row_78 = refl

row_79 : html small (codes "- <div>" ++ (10 ∷ []) ++ codes "- foo") dangerous
    ≡ codes "<ul>" ++ (10 ∷ []) ++ codes "<li>" ++ (10 ∷ []) ++ codes "<div>" ++ (10 ∷ []) ++ codes "</li>" ++ (10 ∷ []) ++ codes "<li>foo</li>" ++ (10 ∷ [])
    ++ codes "</ul>"
unfolding raw_names block_names
row_79 = refl

row_80 : html small (codes "<style>p{color:red;}</style>" ++ (10 ∷ []) ++ codes "*foo*") dangerous
    ≡ codes "<style>p{color:red;}</style>" ++ (10 ∷ []) ++ codes "<p>*foo*</p>"
unfolding raw_names block_names
row_80 = refl

row_81 : html small (codes "<!-- foo -->*bar*" ++ (10 ∷ []) ++ codes "*baz*") dangerous ≡ codes "<!-- foo -->*bar*" ++ (10 ∷ []) ++ codes "<p>*baz*</p>"
unfolding raw_names block_names
row_81 = refl

row_82 : html small (codes "<script>" ++ (10 ∷ []) ++ codes "foo" ++ (10 ∷ []) ++ codes "</script>1. *bar*") dangerous
    ≡ codes "<script>" ++ (10 ∷ []) ++ codes "foo" ++ (10 ∷ []) ++ codes "</script>1. *bar*"
unfolding raw_names block_names
row_82 = refl

row_83 : html small (codes "<!-- Foo" ++ (10 ∷ []) ++ (10 ∷ []) ++ codes "bar" ++ (10 ∷ []) ++ codes "   baz -->" ++ (10 ∷ []) ++ codes "okay") dangerous
    ≡ codes "<!-- Foo" ++ (10 ∷ []) ++ (10 ∷ []) ++ codes "bar" ++ (10 ∷ []) ++ codes "   baz -->" ++ (10 ∷ []) ++ codes "<p>okay</p>"
unfolding raw_names block_names
row_83 = refl

row_84 : html small (codes "<?php" ++ (10 ∷ []) ++ (10 ∷ []) ++ codes "  echo '>';" ++ (10 ∷ []) ++ (10 ∷ []) ++ codes "?>" ++ (10 ∷ []) ++ codes "okay")
    dangerous ≡ codes "<?php" ++ (10 ∷ []) ++ (10 ∷ []) ++ codes "  echo '>';" ++ (10 ∷ []) ++ (10 ∷ []) ++ codes "?>" ++ (10 ∷ []) ++ codes "<p>okay</p>"
unfolding raw_names block_names
row_84 = refl

row_85 : html small (codes "<!DOCTYPE html>" ++ (10 ∷ []) ++ codes "<![CDATA[" ++ (10 ∷ []) ++ codes "if (a < b && a < 0) then {" ++ (10 ∷ []) ++ (10 ∷ [])
    ++ codes "]]>" ++ (10 ∷ []) ++ codes "okay") dangerous ≡ codes "<!DOCTYPE html>" ++ (10 ∷ []) ++ codes "<![CDATA[" ++ (10 ∷ [])
    ++ codes "if (a < b && a < 0) then {" ++ (10 ∷ []) ++ (10 ∷ []) ++ codes "]]>" ++ (10 ∷ []) ++ codes "<p>okay</p>"
unfolding raw_names block_names
row_85 = refl

row_86 : html small (codes "  <!-- foo -->" ++ (10 ∷ []) ++ (10 ∷ []) ++ codes "    <!-- foo -->") dangerous
    ≡ codes "  <!-- foo -->" ++ (10 ∷ []) ++ codes "<pre><code>&lt;!-- foo --&gt;" ++ (10 ∷ []) ++ codes "</code></pre>"
unfolding raw_names block_names
row_86 = refl

row_87 : html small (codes "Foo" ++ (10 ∷ []) ++ codes "<div>" ++ (10 ∷ []) ++ codes "bar" ++ (10 ∷ []) ++ codes "</div>") dangerous
    ≡ codes "<p>Foo</p>" ++ (10 ∷ []) ++ codes "<div>" ++ (10 ∷ []) ++ codes "bar" ++ (10 ∷ []) ++ codes "</div>"
unfolding raw_names block_names
row_87 = refl

row_88 : html small (codes "<div>" ++ (10 ∷ []) ++ codes "bar" ++ (10 ∷ []) ++ codes "</div>" ++ (10 ∷ []) ++ codes "*foo*") dangerous
    ≡ codes "<div>" ++ (10 ∷ []) ++ codes "bar" ++ (10 ∷ []) ++ codes "</div>" ++ (10 ∷ []) ++ codes "*foo*"
unfolding raw_names block_names
row_88 = refl

row_89 : html small (codes "Foo" ++ (10 ∷ []) ++ codes "<a href=\"bar\">" ++ (10 ∷ []) ++ codes "baz") dangerous
    ≡ codes "<p>Foo" ++ (10 ∷ []) ++ codes "&lt;a href=&quot;bar&quot;&gt;" ++ (10 ∷ []) ++ codes "baz</p>"
unfolding raw_names block_names
row_89 = refl

row_90 : html small (codes "> Foo" ++ (10 ∷ []) ++ codes "<b>" ++ (10 ∷ []) ++ codes "baz") dangerous
    ≡ codes "<blockquote>" ++ (10 ∷ []) ++ codes "<p>Foo" ++ (10 ∷ []) ++ codes "&lt;b&gt;" ++ (10 ∷ []) ++ codes "baz</p>" ++ (10 ∷ [])
    ++ codes "</blockquote>"
unfolding raw_names block_names
row_90 = refl

row_91 : html small (codes "- Foo" ++ (10 ∷ []) ++ codes "<!-- a") dangerous
    ≡ codes "<ul>" ++ (10 ∷ []) ++ codes "<li>Foo</li>" ++ (10 ∷ []) ++ codes "</ul>" ++ (10 ∷ []) ++ codes "<!-- a"
unfolding raw_names block_names
row_91 = refl

row_92 : html small (codes "<script>" ++ (10 ∷ []) ++ codes "a" ++ (10 ∷ []) ++ (10 ∷ []) ++ (10 ∷ []) ++ codes "b") dangerous
    ≡ codes "<script>" ++ (10 ∷ []) ++ codes "a" ++ (10 ∷ []) ++ (10 ∷ []) ++ (10 ∷ []) ++ codes "b"
unfolding raw_names block_names
row_92 = refl

row_93 : html small (codes "> <script>" ++ (10 ∷ []) ++ codes "> a" ++ (10 ∷ []) ++ codes ">" ++ (10 ∷ []) ++ (10 ∷ []) ++ codes "b") dangerous
    ≡ codes "<blockquote>" ++ (10 ∷ []) ++ codes "<script>" ++ (10 ∷ []) ++ codes "a" ++ (10 ∷ []) ++ codes "</blockquote>" ++ (10 ∷ []) ++ codes "<p>b</p>"
unfolding raw_names block_names
row_93 = refl

row_94 : html small (codes "- <?" ++ (10 ∷ []) ++ (10 ∷ []) ++ codes "  a" ++ (10 ∷ []) ++ (10 ∷ []) ++ (10 ∷ []) ++ codes "- b") dangerous
    ≡ codes "<ul>" ++ (10 ∷ []) ++ codes "<li>" ++ (10 ∷ []) ++ codes "<?" ++ (10 ∷ []) ++ (10 ∷ []) ++ codes "a" ++ (10 ∷ []) ++ (10 ∷ []) ++ codes "</li>"
    ++ (10 ∷ []) ++ codes "<li>b</li>" ++ (10 ∷ []) ++ codes "</ul>"
unfolding raw_names block_names
row_94 = refl

row_95 : html small (codes "- <script>" ++ (10 ∷ []) ++ (10 ∷ []) ++ (10 ∷ [])) dangerous
    ≡ codes "<ul>" ++ (10 ∷ []) ++ codes "<li>" ++ (10 ∷ []) ++ codes "<script>" ++ (10 ∷ []) ++ (10 ∷ []) ++ codes "</li>" ++ (10 ∷ []) ++ codes "</ul>"
    ++ (10 ∷ [])
unfolding raw_names block_names
row_95 = refl

row_96 : html small (codes "> <!--" ++ (10 ∷ []) ++ codes ">" ++ (10 ∷ []) ++ codes ">") dangerous
    ≡ codes "<blockquote>" ++ (10 ∷ []) ++ codes "<!--" ++ (10 ∷ []) ++ (10 ∷ []) ++ codes "</blockquote>"
unfolding raw_names block_names
row_96 = refl

row_97 : html small (codes "<title>" ++ (10 ∷ []) ++ codes "<b><TITLE/>< xmp></xmp ><plaintextx></Plaintext>" ++ (10 ∷ []) ++ codes "<titles><script"
    ++ (9 ∷ []) ++ codes "<style") filtered ≡ codes "&lt;title>" ++ (10 ∷ []) ++ codes "<b>&lt;TITLE/>< xmp>&lt;/xmp ><plaintextx>&lt;/Plaintext>" ++ (10 ∷ [])
    ++ codes "<titles>&lt;script" ++ (9 ∷ []) ++ codes "&lt;style"
unfolding raw_names block_names filtered_names
row_97 = refl

row_98 : html small (codes "<p><iframe></p>" ++ (10 ∷ []) ++ codes "<textarea>" ++ (10 ∷ []) ++ codes "<x><noembed/>") filtered
    ≡ codes "<p>&lt;iframe></p>" ++ (10 ∷ []) ++ codes "&lt;textarea>" ++ (10 ∷ []) ++ codes "<x>&lt;noembed/>"
unfolding raw_names block_names filtered_names
row_98 = refl

row_99 : html small (codes "<p><iframe>&" ++ (0 ∷ [])) safe_filter ≡ codes "&lt;p&gt;&lt;iframe&gt;&amp;" ++ (239 ∷ []) ++ (191 ∷ []) ++ (189 ∷ [])
unfolding raw_names block_names
row_99 = refl

row_100 : html small (codes "<p>\"a\" & b" ++ (0 ∷ []) ++ (13 ∷ []) ++ (10 ∷ []) ++ codes "</p>") dangerous
    ≡ codes "<p>\"a\" & b" ++ (239 ∷ []) ++ (191 ∷ []) ++ (189 ∷ []) ++ (13 ∷ []) ++ (10 ∷ []) ++ codes "</p>"
unfolding raw_names block_names
row_100 = refl

row_101 : html small (codes "<p>\"a\" & b" ++ (0 ∷ []) ++ (13 ∷ []) ++ (10 ∷ []) ++ codes "</p>") on
    ≡ codes "&lt;p&gt;&quot;a&quot; &amp; b" ++ (239 ∷ []) ++ (191 ∷ []) ++ (189 ∷ []) ++ (13 ∷ []) ++ (10 ∷ []) ++ codes "&lt;/p&gt;"
unfolding raw_names block_names
row_101 = refl

row_102 : html small (codes "- a" ++ (10 ∷ []) ++ (10 ∷ []) ++ (9 ∷ []) ++ codes "<p>" ++ (10 ∷ []) ++ (9 ∷ []) ++ (9 ∷ []) ++ codes "b" ++ (10 ∷ [])) dangerous
    ≡ codes "<ul>" ++ (10 ∷ []) ++ codes "<li>" ++ (10 ∷ []) ++ codes "<p>a</p>" ++ (10 ∷ []) ++ codes "<p>" ++ (10 ∷ []) ++ (9 ∷ []) ++ codes "b" ++ (10 ∷ [])
    ++ codes "</li>" ++ (10 ∷ []) ++ codes "</ul>" ++ (10 ∷ [])
unfolding raw_names block_names
row_102 = refl

row_103 : html small (codes ">" ++ (9 ∷ []) ++ codes "<p>" ++ (10 ∷ []) ++ codes ">" ++ (9 ∷ []) ++ (9 ∷ []) ++ codes "b" ++ (10 ∷ []) ++ codes ">" ++ (10 ∷ [])
    ++ codes "> c") dangerous ≡ codes "<blockquote>" ++ (10 ∷ []) ++ codes "<p>" ++ (10 ∷ []) ++ (9 ∷ []) ++ codes "b" ++ (10 ∷ []) ++ codes "<p>c</p>"
    ++ (10 ∷ []) ++ codes "</blockquote>"
unfolding raw_names block_names
row_103 = refl

row_104 : html small (codes "<!-->" ++ (10 ∷ []) ++ codes "a") dangerous ≡ codes "<!-->" ++ (10 ∷ []) ++ codes "<p>a</p>"
unfolding raw_names block_names
row_104 = refl

row_105 : html small (codes "<a b='c" ++ (10 ∷ []) ++ codes "d'>") dangerous ≡ codes "<p>&lt;a b='c" ++ (10 ∷ []) ++ codes "d'&gt;</p>"
unfolding raw_names block_names
row_105 = refl

row_106 : html small (codes "<a b=c/>" ++ (9 ∷ []) ++ codes " " ++ (10 ∷ []) ++ codes "</a" ++ (9 ∷ []) ++ codes ">" ++ (10 ∷ [])) dangerous
    ≡ codes "<a b=c/>" ++ (9 ∷ []) ++ codes " " ++ (10 ∷ []) ++ codes "</a" ++ (9 ∷ []) ++ codes ">" ++ (10 ∷ [])
unfolding raw_names block_names
row_106 = refl

row_107 : html small (codes "<a/b>" ++ (10 ∷ []) ++ codes "<a b c = d>x" ++ (10 ∷ []) ++ (10 ∷ []) ++ codes "<a  b=\"'\" c='\"'  />" ++ (10 ∷ []) ++ codes "e"
    ++ (10 ∷ [])) dangerous ≡ codes "<p>&lt;a/b&gt;" ++ (10 ∷ []) ++ codes "&lt;a b c = d&gt;x</p>" ++ (10 ∷ []) ++ codes "<a  b=\"'\" c='\"'  />" ++ (10 ∷ [])
    ++ codes "e" ++ (10 ∷ [])
unfolding raw_names block_names
row_107 = refl

row_108 : html small (codes "[a]: b" ++ (10 ∷ []) ++ codes "<c>" ++ (10 ∷ []) ++ codes "</c>" ++ (10 ∷ []) ++ (10 ∷ []) ++ codes "<c>" ++ (10 ∷ [])
    ++ codes "===" ++ (10 ∷ [])) dangerous ≡ codes "<p>&lt;c&gt;" ++ (10 ∷ []) ++ codes "&lt;/c&gt;</p>" ++ (10 ∷ []) ++ codes "<c>" ++ (10 ∷ []) ++ codes "==="
    ++ (10 ∷ [])
unfolding raw_names block_names
row_108 = refl

-- a label has at most 999 bytes
long_label : html small (codes "[" ++ replicate 999 97 ++ codes "]: b") on ≡ []
long_label = refl

too_long_label : html small (codes "[" ++ replicate 1000 97 ++ codes "]: b") on ≡ codes "<p>[" ++ replicate 1000 97 ++ codes "]: b</p>"
too_long_label = refl

-- labels, as they are written
abbrev labels : Blocks → List (List ℕ)
labels bs = map (λ d. d.label) (definitions bs)

labels_0 : labels (blocks on.parse.constructs Whitespace (codes "[a]: b" ++ (10 ∷ []) ++ codes "> [A]: c" ++ (10 ∷ []) ++ (10 ∷ []) ++ codes "- [a]: d"
    ++ (10 ∷ []) ++ codes "  1. [e]: f" ++ (10 ∷ []) ++ (10 ∷ []) ++ codes "[a]" ++ (10 ∷ []))) ≡ (codes "a") ∷ (codes "A") ∷ (codes "a") ∷ (codes "e") ∷ []
labels_0 = refl

labels_1 : labels (blocks on.parse.constructs Whitespace (codes "> [a" ++ (10 ∷ []) ++ codes "> b]: c")) ≡ (codes "a" ++ (10 ∷ []) ++ codes "b") ∷ []
labels_1 = refl

labels_2 : labels (blocks on.parse.constructs Whitespace (codes "> [a" ++ (10 ∷ []) ++ codes "b]: c" ++ (10 ∷ []) ++ codes "> [d]: e" ++ (10 ∷ [])
    ++ codes "f")) ≡ (codes "a" ++ (10 ∷ []) ++ codes "b") ∷ (codes "d") ∷ []
labels_2 = refl

labels_3 : labels (blocks on.parse.constructs Whitespace (codes "- [a" ++ (13 ∷ []) ++ (10 ∷ []) ++ (9 ∷ []) ++ codes "b]: c"))
    ≡ (codes "a" ++ (257 ∷ 256 ∷ 256 ∷ []) ++ codes "b") ∷ []
labels_3 = refl

labels_4 : labels (blocks on.parse.constructs Whitespace (codes "[a]: b" ++ (10 ∷ []) ++ codes "[c]: d" ++ (10 ∷ []) ++ codes "---" ++ (10 ∷ [])
    ++ codes "[ e\\] ]: f" ++ (10 ∷ []) ++ codes "g" ++ (10 ∷ []) ++ codes "===" ++ (10 ∷ []) ++ codes "[h]: i 'j"))
    ≡ (codes "a") ∷ (codes "c") ∷ (codes " e\\] ") ∷ []
labels_4 = refl

labels_5 : labels (blocks on.parse.constructs Whitespace (codes "a" ++ (10 ∷ []) ++ codes "[b]: c" ++ (10 ∷ []) ++ (10 ∷ []) ++ codes "# [d]: e" ++ (10 ∷ [])
    ++ (10 ∷ []) ++ codes "    [f]: g" ++ (10 ∷ []) ++ (10 ∷ []) ++ codes "```" ++ (10 ∷ []) ++ codes "[h]: i" ++ (10 ∷ []) ++ codes "```" ++ (10 ∷ [])
    ++ codes "<p>" ++ (10 ∷ []) ++ codes "[j]: k")) ≡ []
unfolding raw_names block_names
labels_5 = refl
