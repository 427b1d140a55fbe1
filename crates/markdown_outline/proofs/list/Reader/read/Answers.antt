use Rattle.std.proofs.Common.{◌≡◌, ◌∙◌, ℕ, List, drop, length, string_bytes, sym, ap, subst}
use Rattle.engine_events.specs.Events.{point_of}
use Rattle.event_grammar.specs.Trees.{Nodes, tree}
use Rattle.compile_levels.specs.Siblings.{first_or, inside}
use Rattle.definition_page.specs.Slug.{next_slug, with_slug}
use Rattle.markdown_outline.specs.Listed.{AreStored, end_of}
use Rattle.markdown_outline.specs.Rank.{page_heading, rank_of, said_by}
use Rattle.markdown_outline.proofs.ListedHeadings.{events_inside, kids_are, made_same, size_is, text_is, tree_inside}
use Rattle.markdown_outline.proofs.list.Reader.read.Goals as goal

pub returns-clause-slugs : goal.returns-clause-slugs
returns-clause-slugs g c = λ linked labels b.
    let names = g.T.Tables.reference_of c.args.source.now.tables.now in
    let bytes = c.args.source.now.bytes.now in
    let enter = c.args.enter.now in
    let after = c.args.after.now in
    let here = c.node_after.ensures.inside ∙ events_inside bytes enter after b in
    let said = c.in_ok-say.ensures.said b.kids linked labels (kids_are bytes enter after b) here ∙ text_is bytes enter after b names in
    c.in_ok-text.ensures.slugs
    ∙ ap (λ (slugs : List (List ℕ)). with_slug slugs (string_bytes c.say.new.self.text)) c.say.ensures.slugs
    ∙ ap (λ (t : List ℕ). with_slug c.args.self.now.slugs t) said

pub returns-clause-listed : goal.returns-clause-listed
returns-clause-listed g c = λ linked labels b.
    let taken : List (List ℕ) = c.args.self.now.slugs in
    let names = g.T.Tables.reference_of c.args.source.now.tables.now in
    let bytes = c.args.source.now.bytes.now in
    let enter = c.args.enter.now in
    let after = c.args.after.now in
    let kids = b.kids in
    let heading = page_heading names bytes enter.name (tree (inside after)) in
    let new = string_bytes c.store.new.self.texts in
    let text = c.in_ok-text.text in
    let slug = c.in_ok-text.slug in
    let here = c.node_after.ensures.inside ∙ events_inside bytes enter after b in
    let said = c.in_ok-say.ensures.said kids linked labels (kids_are bytes enter after b) here ∙ text_is bytes enter after b names in
    let says = string_bytes c.say.new.self.text in
    let known =
    subst (λ (slugs : List (List ℕ)). AreStored (string_bytes c.say.new.self.texts) new says (next_slug slugs says) text slug) c.say.ensures.slugs
    c.in_ok-text.ensures.stored in
    let grown = subst (λ texts. AreStored (string_bytes texts) new says (next_slug taken says) text slug) c.say.ensures.texts known in
    let stored = subst (λ (t : List ℕ). AreStored (string_bytes c.args.self.now.texts) new t (next_slug taken t) text slug) said grown in
    let rank : c.rank_of.result ≡ rank_of heading =
    c.rank_of.ensures names kids (kids_are bytes enter after b) here b.sound.rank.0
    ∙ ap (λ (ns : Nodes). rank_of (page_heading names bytes enter.name ns)) (sym (tree_inside bytes enter after b)) in
    let end : c.end_of.result ≡ end_of enter after =
    c.end_of.ensures ∙ ap (λ (k : ℕ). point_of (first_or enter (drop k after))) (ap length here ∙ size_is bytes enter after b) in
    record {
      one =
          made_same c.args.index c.rank_of.result (rank_of heading) c.point.result (point_of enter) c.end_of.result (end_of enter after) _ (said_by heading)
          _ (next_slug taken (said_by heading)) rank c.point.ensures end stored.text stored.slug;
      stored = stored;
    }
