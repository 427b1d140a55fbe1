use Rattle.std.proofs.Common.{refl, sym, ap, ◌∙◌, subst}
use Rattle.parse_leaves.proofs.Prelude.{context_of, on_ok_weaker, reading_by, StandsInText, utf8_bytes, view_at}
use Rattle.definition_inline.specs.Targets.{leads_to, linked_at, linked_by}
use Rattle.inline_rows.specs.View.{rows_view}
use Rattle.parse_leaves.proofs.text.push_from.Goals as goal

pub returns-clause-written : goal.returns-clause-written
returns-clause-written g c =
    let texts = c.args.texts.now in
    let start = c.args.start.now in
    let view = view_at (g.T.Tables.punctuation_of texts.tables.now) c.args.content start in
    on_ok_weaker c.push_rows.result
    (λ rows. λ ds known text stop stands.
    rows (context_of (reading_by g.T.Tables texts ds)) (leads_to (linked_by ds.definitions)) (linked_at ds.definitions) text start view stop refl refl
    (λ name spelled is. utf8_bytes spelled (g.met.T.Tables.reference_utf8 texts.tables.now name spelled is))
    (ap (rows_view (linked_at ds.definitions)) c.as_slice.ensures ∙ c.in_ok-found.ensures ds known)
    (subst (λ content. StandsInText text content.now start view stop c.args.walk.now) (sym c.text.ensures) stands))
    c.push_rows.ensures.written
