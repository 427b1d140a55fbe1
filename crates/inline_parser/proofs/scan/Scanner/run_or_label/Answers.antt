use Rattle.std.proofs.Common.{[], ◌∷◌, ap, ◌∙◌}
use Rattle.definition_inline.specs.Scan as scan
use Rattle.inline_parser.proofs.Prelude.{context_by, Delimiters, leads_to, linked_at, linked_by, read_tokens, run_view, view_at}
use Rattle.inline_parser.proofs.Follow as follow
use Rattle.inline_parser.proofs.Follow.{on_ok}
use Rattle.inline_parser.proofs.scan.Scanner.run_or_label.Goals as goal

pub run-requires-clause-front : goal.run-requires-clause-front
run-requires-clause-front g c = follow.run_front c.args.source.now.options.now c.args.self.now.rest.now c.in-Some.run' c.in-Some.ensures.front

pub returns-in-Some-clause-shorter : goal.returns-in-Some-clause-shorter
returns-in-Some-clause-shorter g c =
    let front = follow.run_front c.args.source.now.options.now c.args.self.now.rest.now c.in-Some.run' c.in-Some.ensures.front in
    follow.on_one c.run.result c.run.ensures.rest (λ left. follow.dropped c.args.self.now.rest.now _ c.in-Some.run'.size left front.end.some front.end.within)

pub returns-in-Some-clause-read : goal.returns-in-Some-clause-read
returns-in-Some-clause-read g c ds final has f =
    let source = c.args.source.now in
    let options = source.options.now in
    let names = g.T.Tables.reference_of source.tables.now in
    let p = g.T.Tables.punctuation_of source.tables.now in
    let rest = c.args.self.now.rest.now in
    let place = c.requires.placed.place in
    let leads = leads_to (linked_by ds.definitions) in
    let at = linked_at ds.definitions in
    let run = c.in-Some.run' in
    on_ok c.run.result c.run.ensures.rest (c.run.ensures.read leads at f.now f.shows)
    (λ left shows.
    record {
      now = read_tokens (Delimiters (run_view run) ∷ []) f.now;
      shows = shows;
      same =
          ap (λ r. scan.scan (context_by options names ds) 0 (read_tokens (Delimiters (run_view run) ∷ []) f.now) (view_at p source.content r)) left
          ∙ follow.run_follows options names p ds source.content rest run f.now final place c.requires.no_leaf c.in-Some.ensures.read c.in-Some.ensures.front
          f.same;
    })
