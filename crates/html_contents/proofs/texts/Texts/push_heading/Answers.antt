use Rattle.std.proofs.Common.{◌≡◌, ◌∷◌, OnOk, subst, ◌∙◌}
use Rattle.html_contents.proofs.Prelude.{content_view, context_of, document_by, fold, inlines, lay, output_view, reading_of, structure_pieces}
use Rattle.definition_inline.specs.Targets.{Targets}
use Rattle.definition_page.specs.HeadingText.{heading_text}
use Rattle.definition_page.specs.Tags.{bare_tag}
use Rattle.html_bytes.specs.Pieces.{Named}
use Rattle.html_contents.specs.Texts.{KnowsTargets, LaysOut}
use Rattle.markdown_options.specs.declared.beside.Kind.TheVariants.{Whitespace}
use Rattle.html_contents.proofs.texts.Texts.push_heading.Goals as goal

pub returns-in-Some : goal.returns-in-Some
returns-in-Some g c = λ ds known plain default.
    let texts = c.args.self.now in
    let d = document_by g.T.Tables texts ds in
    subst (λ content. OnOk c.push_named.result
    (output_view c.push_named.new.out
    ≡ fold (lay texts.options.now.compile default) (output_view c.args.out.now)
    (Named (bare_tag c.args.name.now) (heading_text (inlines (context_of (reading_of d)) content))
    ∷ structure_pieces d (inlines (context_of (reading_of d)) content))))
    (c.in-Some.ensures.content (g.T.Tables.punctuation_of texts.tables.now) plain)
    (c.push_named.ensures ds known default)

pub returns : goal.returns
returns g c = λ ds known plain default.
    let texts = c.args.self.now in
    let p = g.T.Tables.punctuation_of texts.tables.now in
    let d = document_by g.T.Tables texts ds in
    let told =
    subst (λ t. (ds : Targets) → KnowsTargets t ds
    → LaysOut (document_by g.T.Tables t ds) c.push_named-2.result c.args.out.now c.push_named-2.new.out
    (Named (bare_tag c.args.name.now)
    (heading_text
    (inlines (context_of (reading_of (document_by g.T.Tables t ds))) (content_view (g.T.Tables.punctuation_of t.tables.now) c.content-content.result)))
    ∷ structure_pieces (document_by g.T.Tables t ds)
    (inlines (context_of (reading_of (document_by g.T.Tables t ds))) (content_view (g.T.Tables.punctuation_of t.tables.now) c.content-content.result))))
    c.reborrow-texts.ensures c.push_named-2.ensures in
    subst (λ content. OnOk c.push_named-2.result
    (output_view c.push_named-2.new.out
    ≡ fold (lay texts.options.now.compile default) (output_view c.args.out.now)
    (Named (bare_tag c.args.name.now) (heading_text (inlines (context_of (reading_of d)) content))
    ∷ structure_pieces d (inlines (context_of (reading_of d)) content))))
    (c.content-content.ensures p ∙ c.in_ok-join.ensures p Whitespace plain)
    (told ds known default)
