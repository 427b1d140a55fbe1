use Rattle.std.proofs.Common.{◌∙◌, sym, ap, slice_index}
use Rattle.parse_links.proofs.Prelude.{both_ok}
use Rattle.parse_links.proofs.Places.{inner_quoted, inner_raw}
use Rattle.parse_links.proofs.destination.push_inner.Goals as goal

pub returns-then-first-eq60-clause-written : goal.returns-then-first-eq60-clause-written
returns-then-first-eq60-clause-written g c =
    both_ok c.push_quoted.result
    (λ written same bytes string content stop is st whole.
    inner_quoted bytes stop c.args.on.now (g.T.Tables.reference_of c.args.tables.now) c.args.names.now _ _ string c.args.text.now content is
    (ap (λ xs. slice_index xs 0) (sym c.as_bytes.ensures.value) ∙ sym c.first.ensures ∙ c.if-first-eq60.true)
    (λ opening closing form one two may_open may_close. written bytes string content opening closing stop form one two may_open may_close st whole))
    c.push_quoted.ensures.written c.push_quoted.ensures.open

pub returns-else-first-eq60-clause-written : goal.returns-else-first-eq60-clause-written
returns-else-first-eq60-clause-written g c =
    both_ok c.push_raw.result
    (λ written same bytes string content stop is st whole.
    inner_raw bytes stop c.args.on.now (g.T.Tables.reference_of c.args.tables.now) c.args.names.now _ _ string c.args.text.now content is
    (λ first. c.if-first-eq60.false (c.first.ensures ∙ ap (λ xs. slice_index xs 0) c.as_bytes.ensures.value ∙ first))
    (λ apart filled. written bytes content stop apart filled st whole))
    c.push_raw.ensures.written c.push_raw.ensures.open
