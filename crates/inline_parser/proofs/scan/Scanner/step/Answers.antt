use Rattle.std.proofs.Common.{IfSome, sym, ap, ◌∙◌, arith, subst}
use Rattle.definition_inline.specs.Scan as scan
use Rattle.inline_parser.proofs.Prelude.{context_by, found_leaf, IsAfter, leads_to, leaf_items, linked_at, linked_by, parts_of, read_tokens, view_at}
use Rattle.inline_parser.proofs.Follow as follow
use Rattle.inline_parser.proofs.Follow.{on_ok}
use Rattle.inline_text.proofs.Texts as texts
use Rattle.inline_parser.proofs.scan.Scanner.step.Goals as goal

pub literal_or_run-requires-clause-first : goal.literal_or_run-requires-clause-first
literal_or_run-requires-clause-first g c =
    let source = c.args.source.now in
    let rest = c.args.self.now.rest.now in
    let n = c.front_of-front.result.size in
    let stops = texts.nothing_is_text _ _ rest n (omega (arith, c.if-front-gt0.false)) c.requires.some c.front_of-front.ensures.front.stops in
    follow.single_of rest c.front_of-front.ensures.utf8 c.requires.some
    (texts.stopped _ _ source.options.now (g.T.Tables.reference_of source.tables.now) rest c.requires.some stops
    (sym c.in_ok-leaf.ensures.read ∙ ap (found_leaf rest) c.in-None.is))

pub returns-in-Some-clause-read : goal.returns-in-Some-clause-read
returns-in-Some-clause-read g c ds final has f =
    let source = c.args.source.now in
    let options = source.options.now in
    let names = g.T.Tables.reference_of source.tables.now in
    let p = g.T.Tables.punctuation_of source.tables.now in
    let rest = c.args.self.now.rest.now in
    let place = c.requires.placed.place in
    let leads = leads_to (linked_by ds.definitions) in
    let at = linked_at ds.definitions in
    let found = c.in-Some.leaf in
    on_ok c.leaf.result c.leaf.ensures.rest (c.leaf.ensures.read leads at f.now f.shows)
    (λ left shows.
    record {
      now = read_tokens (leaf_items (parts_of found.part)) f.now;
      shows = shows;
      same =
          ap (λ r. scan.scan (context_by options names ds) 0 (read_tokens (leaf_items (parts_of found.part)) f.now) (view_at p source.content r)) left
          ∙ follow.leaf_follows options names p ds source.content rest found.after.now (parts_of found.part) f.now final place
          (ap (found_leaf rest) (sym c.in-Some.is) ∙ c.in_ok-leaf.ensures.read)
          (subst (λ o. IfSome o (λ leaf. IsAfter rest leaf.after.now)) c.in-Some.is c.in_ok-leaf.ensures.place) f.same;
    })
