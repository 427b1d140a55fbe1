-- Soft line breaks, and text (CommonMark 6.8 and 6.9).
use Rattle.std.specs.Prelude.{◌≡◌, [], ◌∷◌, ◌++◌, codes}
use Rattle.std.proofs.Common.{refl}
use Rattle.examples_inline.proofs.Computing.{pages}
use Rattle.examples_inline.specs.Pages.{page}

row_0 : page (codes "foo\nbaz") ≡ codes "<p>foo\nbaz</p>"
unfolding pages
row_0 = refl

row_1 : page (codes "foo \n baz") ≡ codes "<p>foo\nbaz</p>"
unfolding pages
row_1 = refl

row_2 : page (codes "hello $.;'there") ≡ codes "<p>hello $.;'there</p>"
unfolding pages
row_2 = refl

row_3 : page (codes "Foo " ++ (207 ∷ 135 ∷ 207 ∷ 129 ∷ 225 ∷ 191 ∷ 134 ∷ 206 ∷ 189 ∷ []))
    ≡ codes "<p>Foo " ++ (207 ∷ 135 ∷ 207 ∷ 129 ∷ 225 ∷ 191 ∷ 134 ∷ 206 ∷ 189 ∷ []) ++ codes "</p>"
unfolding pages
row_3 = refl

row_4 : page (codes "Multiple     spaces") ≡ codes "<p>Multiple     spaces</p>"
unfolding pages
row_4 = refl
