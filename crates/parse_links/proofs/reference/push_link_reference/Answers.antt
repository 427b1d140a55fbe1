use Rattle.std.proofs.Common.{refl, subst}
use Rattle.parse_links.proofs.Prelude.{after_reference, both_ok, content_codes, label_at, StandsInContent}
use Rattle.parse_output.specs.Children.{has_string, may_hold}
use Rattle.parse_links.proofs.Tails.{left_mark, no_reference, reference_tail, right_mark}
use Rattle.parse_links.proofs.reference.push_link_reference.Goals as goal

pub invariant_of-push_quoted : goal.invariant_of-push_quoted
unfolding may_hold has_string
invariant_of-push_quoted g c = record { holds_marker = refl; holds_string = refl; holds_parts = refl; own = refl }

pub returns-in_default-clause-written : goal.returns-in_default-clause-written
returns-in_default-clause-written g c = λ bytes stop st whole.
    no_reference bytes stop c.args.on.now (g.T.Tables.reference_of c.args.tables.now) c.args.walk.now c.args.text.now c.in_default.ensures st whole

pub returns-clause-written : goal.returns-clause-written
returns-clause-written g c =
    both_ok c.push_quoted.result
    (λ written same bytes stop st whole.
    let xs = c.args.text.now in
    let f = c.in-Some.ensures in
    reference_tail bytes stop c.args.on.now (g.T.Tables.reference_of c.args.tables.now) _ _ xs c.in-Some.reference.now f.after f.string
    (label_at (content_codes xs)) (after_reference (label_at (content_codes xs)) (content_codes xs)) f.parts f.left f.codes
    (written bytes f.string f.after 91 93 stop f.form left_mark right_mark refl refl (subst (λ ys. StandsInContent bytes ys stop c.args.walk.now) f.parts st) whole))
    c.push_quoted.ensures.written c.push_quoted.ensures.open
