-- Runs beside characters that stand outside of the content, and beside characters of several bytes.
use Rattle.std.specs.Prelude.{◌≡◌, [], ◌∷◌, ◌++◌, codes}
use Rattle.std.proofs.Common.{refl}
use Rattle.examples_inline.proofs.Computing.{pages}
use Rattle.examples_inline.specs.Pages.{page, line_between, two_lines}
use Rattle.markdown_options.specs.declared.beside.Kind.TheVariants.{Whitespace, Punctuation, Other}

row_0 : two_lines (codes "*a") Punctuation (codes "*.") ≡ codes "<em>a\n</em>."
unfolding pages
row_0 = refl

row_1 : two_lines (codes "*a") Whitespace (codes "*.") ≡ codes "*a\n*."
unfolding pages
row_1 = refl

row_2 : line_between Other Whitespace (codes "_a_") ≡ codes "_a_"
unfolding pages
row_2 = refl

row_3 : line_between Other Whitespace (codes "*a*") ≡ codes "<em>a</em>"
unfolding pages
row_3 = refl

row_4 : line_between Punctuation Whitespace (codes "_a_") ≡ codes "<em>a</em>"
unfolding pages
row_4 = refl

row_5 : line_between Whitespace Punctuation (codes "*(a)*") ≡ codes "<em>(a)</em>"
unfolding pages
row_5 = refl

row_6 : line_between Whitespace Other (codes "_a_") ≡ codes "_a_"
unfolding pages
row_6 = refl

row_7 : line_between Whitespace Other (codes "a**") ≡ codes "a**"
unfolding pages
row_7 = refl

row_8 : line_between Whitespace Whitespace ((194 ∷ 171 ∷ []) ++ codes "*a*" ++ (194 ∷ 187 ∷ [])) ≡ (194 ∷ 171 ∷ []) ++ codes "<em>a</em>" ++ (194 ∷ 187 ∷ [])
unfolding pages
row_8 = refl

row_9 : line_between Whitespace Whitespace (codes "a*" ++ (194 ∷ 171 ∷ []) ++ codes "b" ++ (194 ∷ 187 ∷ []) ++ codes "*c")
    ≡ codes "a*" ++ (194 ∷ 171 ∷ []) ++ codes "b" ++ (194 ∷ 187 ∷ []) ++ codes "*c"
unfolding pages
row_9 = refl

row_10 : line_between Whitespace Whitespace ((195 ∷ 169 ∷ []) ++ codes "_b_") ≡ (195 ∷ 169 ∷ []) ++ codes "_b_"
unfolding pages
row_10 = refl

row_11 : line_between Whitespace Whitespace ((226 ∷ 130 ∷ 172 ∷ []) ++ codes "_b_" ++ (226 ∷ 130 ∷ 172 ∷ []))
    ≡ (226 ∷ 130 ∷ 172 ∷ []) ++ codes "<em>b</em>" ++ (226 ∷ 130 ∷ 172 ∷ [])
unfolding pages
row_11 = refl

row_12 : line_between Whitespace Whitespace ((240 ∷ 159 ∷ 170 ∷ 144 ∷ []) ++ codes "_b_") ≡ (240 ∷ 159 ∷ 170 ∷ 144 ∷ []) ++ codes "_b_"
unfolding pages
row_12 = refl

-- a quote's marker stands before a run where no space belongs to it

row_marker_0 : page (codes "> *a" ++ (10 ∷ []) ++ codes ">*.") ≡ codes "<blockquote>" ++ (10 ∷ []) ++ codes "<p><em>a" ++ (10 ∷ []) ++ codes "</em>.</p>"
    ++ (10 ∷ []) ++ codes "</blockquote>"
unfolding pages
row_marker_0 = refl

row_marker_1 : page (codes "> *a" ++ (10 ∷ []) ++ codes "> *.") ≡ codes "<blockquote>" ++ (10 ∷ []) ++ codes "<p>*a" ++ (10 ∷ []) ++ codes "*.</p>" ++ (10 ∷ [])
    ++ codes "</blockquote>"
unfolding pages
row_marker_1 = refl
