-- Pages that no program prints that keeps the law of quoted texts, though each is a safe page.
use Rattle.std.specs.Prelude.{◌≡◌, ℕ, Bool, false, List, codes}
use Rattle.std.specs.Str.{bytes_eq}
use Rattle.laws_quote.specs.PageLaws.{quote_around}
use Rattle.laws_quote.specs.Squeeze.{squeeze}

-- whether a page of a quoted text is the quote of the text's page, but for line endings beside tags
abbrev pub quotes : List ℕ → List ℕ → Bool
quotes page quoted = bytes_eq (squeeze quoted) (squeeze (quote_around page))

-- each row has the page of a text, and the one that a wrong program prints for the quoted text
abbrev pub RefusedRows : Type 0
RefusedRows =
    -- `a`: each text is one encoded paragraph
    (quotes (codes "<p>a</p>") (codes "<p>&gt; a</p>") ≡ false)
    -- a label over two lines, `[a` and `b]: /c`, and `[a b]`: the label is looked up with the prefixes in it
    × (quotes (codes "<p><a href=\"/c\">a b</a></p>") (codes "<blockquote>\n<p>[a b]</p>\n</blockquote>") ≡ false)
    -- `- a`, an empty line and `b`: the list is made loose by the quote's blank line after it
    × (quotes (codes "<ul>\n<li>a</li>\n</ul>\n<p>b</p>") (codes "<blockquote>\n<ul>\n<li>\n<p>a</p>\n</li>\n</ul>\n<p>b</p>\n</blockquote>") ≡ false)
    -- `a` and `b` on two lines: the line ending within the text is dropped with those beside tags
    × (quotes (codes "<p>a\nb</p>") (codes "<blockquote><p>ab</p></blockquote>") ≡ false)
