use Rattle.std.proofs.Common.{◌≡◌, ℕ, true, false, eqb, List, [], ◌∷◌, refl, sym, ap, ◌∙◌, length, arith, subst}
use Rattle.std.specs.Prelude.{OnOk}
use Rattle.inline_parser.proofs.Prelude.{All, context_by, eqb-true, inline_rows, IsRest, leads_to, linked_at, linked_by, OpenLabel, rows_view, whole_text}
use Rattle.inline_parser.proofs.Prelude.{with_spans}
use Rattle.definition_inline.specs.Scan as scan
use Rattle.inline_parser.proofs.Whole as whole
use Rattle.inline_parser.proofs.scan.span_rows.Goals as goal

pub read_front-requires-clause-placed : goal.read_front-requires-clause-placed
read_front-requires-clause-placed g c =
    let content = c.args.content in
    let p = g.T.Tables.punctuation_of c.args.tables.now in
    record {
      searched = c.new.ensures ∙ c.text.ensures;
      known = c.new-2.ensures p content.text.now;
      place = c.requires.place;
      labels = subst (All (λ (o : OpenLabel). IsRest o.from.now c.args.start.now)) (sym c.in_ok-new.ensures.none) (λ k d lt. absurd (omega (arith, lt)));
      sound = c.in_ok-new.ensures.sound;
    }

pub loop-source-init : goal.loop-source-init
loop-source-init g c = record {
  placed = c.in_ok-read_front.ensures.placed;
  follows = λ ds has. c.in_ok-read_front.ensures.read ds _ has (record {
    now = scan.reading (scan.text [] false) [];
    shows = c.in_ok-new.ensures.nothing (leads_to (linked_by ds.definitions)) (linked_at ds.definitions);
    same = refl;
  });
}

pub step-requires-clause-placed : goal.step-requires-clause-placed
step-requires-clause-placed g c = c.loop-source.invariant.placed

pub loop-source-smaller : goal.loop-source-smaller
loop-source-smaller g c = c.in_ok-step.ensures.shorter

pub loop-source-preserved : goal.loop-source-preserved
loop-source-preserved g c = record {
  placed = c.in_ok-step.ensures.placed;
  follows = λ ds has. c.in_ok-step.ensures.read ds _ has (c.loop-source.invariant.follows ds has);
}

pub finish-requires : goal.finish-requires
finish-requires g c = record { sound = c.loop-source.invariant.placed.sound }

no_bytes : (xs : List ℕ) → eqb (length xs) 0 ≡ true → xs ≡ []
no_bytes [] e = refl
no_bytes (x ∷ xs) e = absurd (omega (arith, eqb-true (length (x ∷ xs)) 0 e))

pub returns : goal.returns
returns g c ds has =
    let content = c.args.content in
    let p = g.T.Tables.punctuation_of c.args.tables.now in
    let names = g.T.Tables.reference_of c.args.tables.now in
    let leads = leads_to (linked_by ds.definitions) in
    let f = c.loop-source.invariant.follows ds has in
    let none = no_bytes c.loop-source.scanner.rest.now (sym c.loop-source-test.ensures) in
    let end = ap (scan.scan (context_by c.args.options.now names ds) 0 f.now) (sym (whole.last_view p content c.loop-source.scanner.rest.now none)) ∙ f.same in
    subst
    (λ r. OnOk c.finish.result (rows_view (linked_at ds.definitions) c.finish.new.row_room.rows.items ≡ inline_rows leads (with_spans (whole_text r).tokens)))
    end
    (c.finish.ensures.read leads (linked_at ds.definitions) f.now f.shows)
