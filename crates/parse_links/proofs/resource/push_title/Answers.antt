use Rattle.std.proofs.Common.{◌≡◌, ◌∷◌, ◌++◌, [], arith, drop, length, length-append, take, subst, sym, ap, ap₂, ◌∙◌, refl}
use Rattle.parse_links.proofs.Prelude.{after_white, AreBytes, bytes_after, content_codes, drop_at, IsCharBoundary, same_codes, StandsInContent, take_at}
use Rattle.parse_links.proofs.Prelude.{WritesWhite}
use Rattle.parse_links.proofs.Marks.{bytes_front, mark_eol, quoted_bytes, quoted_cut, title_marks}
use Rattle.parse_links.proofs.Resources.{title_tail}
use Rattle.engine_events.specs.declared.event.Name.TheVariants as n
use Rattle.parse_output.specs.Children.{has_string, may_hold}
use Rattle.parse_links.proofs.resource.push_title.Goals as goal

pub invariant_of-push_quoted : goal.invariant_of-push_quoted
unfolding may_hold has_string
invariant_of-push_quoted g c = record { holds_marker = refl; holds_string = refl; holds_parts = refl; own = refl }

pub invariant_of-push_quoted-2 : goal.invariant_of-push_quoted-2
unfolding may_hold has_string
invariant_of-push_quoted-2 g c = record { holds_marker = refl; holds_string = refl; holds_parts = refl; own = refl }

pub invariant_of-push_quoted-3 : goal.invariant_of-push_quoted-3
unfolding may_hold
invariant_of-push_quoted-3 g c =
    record {
      holds_literal = refl;
      holds_raw = refl;
      raw_holds_string = refl;
      own_destination = refl;
      own_raw = refl;
      angles = refl;
      quotes = refl;
    }

pub returns-clause-written : goal.returns-clause-written
returns-clause-written g c = λ bytes read stop title codes st whole.
    let xs = c.args.text.now in
    let size = c.saturating_add-size.result in
    let m = title_marks (content_codes xs) read title in
    let q = quoted_bytes m.opening m.closing read.text read.rest xs m.whole (mark_eol m.opening m.one) (mark_eol m.closing m.two) in
    let front = m.opening ∷ (q.string ++ m.closing ∷ []) in
    let cut = quoted_cut m.opening m.closing q.string q.after xs q.parts m.two.ascii in
    let all : AreBytes xs = λ k. omega (arith, c.type_inv.text k) in
    let inner : AreBytes (q.string ++ m.closing ∷ q.after) = bytes_after (m.opening ∷ []) (q.string ++ m.closing ∷ q.after) xs q.parts all in
    let string : AreBytes q.string = bytes_front q.string (m.closing ∷ q.after) inner in
    let same : c.args.title.now ≡ q.string =
    same_codes c.args.title.now q.string (λ k. omega (arith, c.type_inv.title k)) string (codes ∙ sym q.text_is) in
    let is : size ≡ length front =
    omega (
      arith,
      c.saturating_add-size.ensures,
      ap length same,
      length-append q.string (m.closing ∷ []),
      ap length cut.0,
      length-append front q.after,
      c.as_bytes.type_inv.1,
      ap length c.as_bytes.ensures.value,
    ) in
    let taken : c.up_to.result.now ≡ front =
    c.up_to.ensures.front (subst (IsCharBoundary xs) (sym is) (cut.1 c.utf8.text)) ∙ ap₂ take is cut.0 ∙ take_at front q.after (length front) refl in
    let left : c.bytes_from.result.now ≡ q.after =
    c.bytes_from.ensures.rest ∙ ap₂ drop is (c.as_bytes.ensures.value ∙ cut.0) ∙ drop_at front q.after (length front) refl in
    let ahead : xs ≡ c.up_to.result.now ++ q.after = cut.0 ∙ ap (λ ys. ys ++ q.after) (sym taken) in
    let w =
    c.in_ok-push_quoted.ensures.written bytes q.string q.after m.opening m.closing stop taken m.one m.two (m.first n.ResourceTitleMarker refl) (m.last n.ResourceTitleMarker refl)
    (subst (λ ys. StandsInContent bytes ys stop c.args.walk.now) ahead st) whole in
    let white =
    subst (λ ys. WritesWhite bytes ys c.in_ok-_rest._rest.now stop c.push_quoted.new.walk c.push_white.new.walk) left
    (c.in_ok-_rest.ensures.written bytes stop (subst (λ ys. StandsInContent bytes ys stop c.push_quoted.new.walk) (sym left) w.writes.stands)) in
    title_tail bytes stop c.args.on.now
    (g.T.Tables.reference_of c.args.tables.now) _ _ _ xs c.up_to.result.now q.after c.in_ok-_rest._rest.now q.string read.text
    (after_white read.rest) string ahead w white
    (c.in_ok-_rest.ensures.rest ∙ ap (λ ys. after_white (content_codes ys)) left ∙ ap after_white q.rest_is) q.text_is
