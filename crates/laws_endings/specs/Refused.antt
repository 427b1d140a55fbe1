-- Pages that no program prints that keeps the law of other line endings, though each is a safe page.
use Rattle.std.specs.Prelude.{◌≡◌, ℕ, Bool, false, List, codes}
use Rattle.std.specs.Str.{bytes_eq}
use Rattle.markdown_options.specs.declared.line_ending.LineEnding.TheVariants.{CarriageReturnLineFeed}
use Rattle.laws_endings.specs.Endings.{with_ending}

-- whether a page is another one with CR LF in place of each LF
abbrev pub ends : List ℕ → List ℕ → Bool
ends page other = bytes_eq other (with_ending CarriageReturnLineFeed page)

-- each row has the page of a text, and the one that a wrong program prints for the text with CR LF
abbrev pub RefusedRows : Type 0
RefusedRows =
    -- a code span over two lines: CR LF is read as two endings, so two spaces stand in the code
    (ends (codes "<p><code>a b</code></p>") (codes "<p><code>a  b</code></p>") ≡ false)
    -- `a` and `b` on two lines: the CR is a byte of the first one
    × (ends (codes "<p>a\nb</p>") (codes "<p>a\r\r\nb</p>") ≡ false)
    -- the endings of the page are dropped
    × (ends (codes "<ul>\n<li>a</li>\n</ul>\n") (codes "<ul><li>a</li></ul>") ≡ false)
