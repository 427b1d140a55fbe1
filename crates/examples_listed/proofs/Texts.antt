-- Raw HTML that is no tag of the list, comments, references and text.
use Rattle.std.specs.Prelude.{◌≡◌, codes}
use Rattle.std.proofs.Common.{refl}
use Rattle.examples_listed.proofs.Computing.{lists}
use Rattle.examples_listed.specs.Kept.{kept}

row_0 : kept (codes "<script>a</script>") ≡ codes "&lt;script&gt;a&lt;/script&gt;"
unfolding lists
row_0 = refl

row_1 : kept (codes "<x-y>a</x-y>") ≡ codes "&lt;x-y&gt;a&lt;/x-y&gt;"
unfolding lists
row_1 = refl

row_2 : kept (codes "<?a?>") ≡ codes "&lt;?a?&gt;"
unfolding lists
row_2 = refl

row_3 : kept (codes "<!A>") ≡ codes "&lt;!A&gt;"
unfolding lists
row_3 = refl

row_4 : kept (codes "<!-- a -->b") ≡ codes "b"
unfolding lists
row_4 = refl

row_5 : kept (codes "<!-- a") ≡ codes "&lt;!-- a"
unfolding lists
row_5 = refl

row_6 : kept (codes "<b") ≡ codes "&lt;b"
unfolding lists
row_6 = refl

row_7 : kept (codes "&lt;b&gt; &amp; & < > \"") ≡ codes "&lt;b&gt; &amp; &amp; &lt; &gt; &quot;"
unfolding lists
row_7 = refl

row_8 : kept (codes "&#65;&#x42;&unknown;") ≡ codes "AB&amp;unknown;"
unfolding lists
row_8 = refl

row_9 : kept (codes "a\r\nb") ≡ codes "a\r\nb"
unfolding lists
row_9 = refl
